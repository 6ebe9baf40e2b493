-- Where the parts and the imports of a plan that is joined to its supplies come from.
use Rattle.std.specs.Prelude.{◌≡◌, ℕ, zero, suc, ◌+◌, ◌-◌, ◌<◌, ◌≤◌, false, List, [], ◌∷◌, ◌++◌, length, Option, Some, None, Contains, slice_get, option_map}
use Rattle.std.proofs.Common.{refl, sym, ◌∙◌, ap, subst, arith}
use Rattle.std.proofs.lemmas.Option.{slice_get-map, slice_get_within}
use Rattle.gos_types.proofs.ListLemmas.{element_at}
use Rattle.gos_model.specs.Typing.{Imports, Imported}
use Rattle.gos_plan.specs.Kinds.{Part}
use Rattle.gos_plan.specs.Plans.{End, PartEnd, ImportEnd, ResultEnd, Plan}
use Rattle.gos_plan.specs.Joining.{Place, Link, LeftImport, is_joined, left_among, all_left, all_parts, part_place, IsJoining}
use Rattle.gos_realises.specs.realises.Modules.{Supply, plans_of, AreSupplied, imports_linked, supplying}
use Rattle.gos_realises.proofs.realises.LeftLemmas.{left_all, left_joined}
use Rattle.gos_realises.proofs.joined.OriginLemmas.{before, PartOf, part_of, import_of}
use Rattle.gos_joining.proofs.unions.DeepLemmas.{place_of_part}
use Rattle.gos_joining.proofs.renumbered.SupplyLemmas as supplies
use Rattle.gos_joining.proofs.renumbered.SupplyLemmas.{supply_of, import_for, plan_at, first_joined, supply_free}
use Rattle.gos_terms.specs.wired.Wired.{Supplies, Source, Own, Supplied, Origin, Placing, IsFrom, placed}
use Rattle.gos_terms.specs.wired.Modules.{supply_at, numbers_from}
use Rattle.gos_terms.proofs.wired.NumberLemmas.{part_there, imports_before, all_imports, import_in, import_there}

-- The imports that stay: none of the plan's own, and all of the supplies'.
among_free : (ls : List Link) (n : ℕ) (qs : List Plan) → ((k j : ℕ) → is_joined ls (suc k) j ≡ false) → left_among ls (suc n) qs ≡ all_imports (suc n) qs
among_free ls n [] free = refl
among_free ls n (q ∷ qs) free =
    let first = left_all ls (suc n) (free n) 0 q.imports in let rest = among_free ls (suc n) qs free in (λ i. first i ++ rest i)

pub left_is : (p : Plan) (ss : List Supply) → all_left (supplying p ss) ≡ all_imports 1 (plans_of ss)
left_is p ss =
    let first = left_joined (imports_linked 0 p.imports) 0 0 p.imports (first_joined p.imports) in
    let rest = among_free (imports_linked 0 p.imports) 0 (plans_of ss) (supply_free p.imports) in
    (λ i. first i ++ rest i)

-- how they are numbered
abbrev pub from_plan : ℕ → ℕ → Source
from_plan zero k = Own k
from_plan (suc n) k = Supplied n k

abbrev part_number : End → ℕ
part_number (PartEnd i h) = i
part_number (ImportEnd i h) = 0
part_number (ResultEnd h) = 0

abbrev pub source_of : Place → Source
source_of a = from_plan a.plan (part_number a.end)

abbrev pub one_less : ℕ → ℕ
one_less zero = zero
one_less (suc n) = n

abbrev pub origin_of : Option LeftImport → Origin
origin_of None = record { number = 0; import = 0 }
origin_of (Some l) = record { number = one_less l.plan; import = l.number }

abbrev pub placing : Plan → List Supply → Placing
placing p ss =
    record {
      own = λ k. k;
      supplied = λ n k. length p.parts + before (plans_of ss) n + k;
      import = λ n k. imports_before (plans_of ss) n + k;
      source = λ k. source_of (part_place 0 (p ∷ plans_of ss) k 0);
      origin = λ k. origin_of (slice_get (all_imports 1 (plans_of ss)) k);
    }

-- the numbers of supplies
in_numbers : (a m n : ℕ) → a ≤ n → n < a + m → Contains (numbers_from a m) n
in_numbers a zero n low high = absurd (omega (arith, low, high))
in_numbers a (suc m) n low high = by_number (n - a) (omega (arith, low)) (λ above. behind (in_numbers (suc a) m n above (omega (arith, high))))
  where
    behind : Contains (numbers_from (suc a) m) n → Contains (numbers_from a (suc m)) n
    behind (k, small, e) = (suc k, omega (arith, small), e)

    by_number : (d : ℕ) → n ≡ a + d → (suc a ≤ n → Contains (numbers_from a (suc m)) n) → Contains (numbers_from a (suc m)) n
    by_number zero e further = let same : a ≡ n = omega (arith, e) in (0, omega arith, same)
    by_number (suc d) e further = further (omega (arith, e))

pub of_numbers : (a m n : ℕ) → Contains (numbers_from a m) n → (a ≤ n) × (n < a + m)
of_numbers a zero n (k, small, e) = absurd (omega (arith, small))
of_numbers a (suc m) n (zero, small, e) = let same : a ≡ n = e in (omega (arith, same), omega (arith, same))
of_numbers a (suc m) n (suc k, small, e) =
    let (low, high) = of_numbers (suc a) m n (k, omega (arith, small), e) in (omega (arith, low), omega (arith, high))

supply_is : (ss : List Supply) (n : ℕ) (s : Supply) → slice_get ss n ≡ Some s → supply_at ss n ≡ s
supply_is [] n s at = absurd (cc at)
supply_is (t ∷ ss) zero s at = cc at
supply_is (t ∷ ss) (suc n) s at = supply_is ss n s at

pub import_numbered : (is : Imports) (n : ℕ) → Contains (numbers_from 0 (length is)) n → (x : Imported) × (slice_get is n ≡ Some x)
import_numbered is n among = let (low, high) = of_numbers 0 (length is) n among in element_at is n (omega (arith, high))

pub numbered_import : (is : Imports) (n : ℕ) (x : Imported) → slice_get is n ≡ Some x → Contains (numbers_from 0 (length is)) n
numbered_import is n x at = let low = slice_get_within is n x at in in_numbers 0 (length is) n (omega arith) (omega (arith, low))

module _ (is : Imports) (ss : List Supply) (are : AreSupplied is ss) where
  abbrev env : Supplies
  env = supply_at ss

  abbrev ns : List ℕ
  ns = numbers_from 0 (length is)

  pub supply_there : (n : ℕ) → Contains ns n → slice_get ss n ≡ Some (env n)
  supply_there n among =
      let (x, at_x) = import_numbered is n among in
      let (s, at_s, realised) = supply_of is ss n x are at_x in
      at_s ∙ ap (λ (y : Supply). Some y) (sym (supply_is ss n s at_s))

  pub number_there : (n : ℕ) (s : Supply) → slice_get ss n ≡ Some s → Contains ns n × (env n ≡ s)
  number_there n s at =
      let (x, at_x, realised) = import_for is ss n s are at in (numbered_import is n x at_x, supply_is ss n s at)

  plan_there : (n : ℕ) → Contains ns n → slice_get (plans_of ss) n ≡ Some (env n).plan
  plan_there n among = plan_at ss n (env n) (supply_there n among)

  there_plan : (n : ℕ) (q : Plan) → slice_get (plans_of ss) n ≡ Some q → Contains ns n × ((env n).plan ≡ q)
  there_plan n q at =
      let (s, at_s, same) = supplies.supply_at ss n q at in
      let (among, there) = number_there n s at_s in
      (among, ap (λ (y : Supply). y.plan) there ∙ same)

  module _ (own : List Part) (p r : Plan) (own_is : p.parts ≡ own) (joining : IsJoining (supplying p ss) r) where
    abbrev pl : Placing
    pl = placing p ss

    abbrev plans : List Plan
    plans = p ∷ plans_of ss

    numbered : (n j : ℕ) (q : Plan) (x : Part) (k : ℕ) → slice_get plans n ≡ Some q → slice_get q.parts j ≡ Some x → before plans n + j ≡ k
        → (slice_get r.parts k ≡ Some x) × (pl.source k ≡ from_plan n j)
    numbered n j q x k at has number =
        let zeros : 0 + n ≡ n = omega arith in (
          ap (λ (ks : List Part). slice_get ks k) joining.parts ∙ (ap (slice_get (all_parts plans)) (sym number) ∙ part_there plans n j q x at has),
          ap (λ (i : ℕ). source_of (part_place 0 plans i 0)) (sym number)
              ∙ (ap source_of (place_of_part 0 plans n j 0 q at (slice_get_within q.parts j x has)) ∙ ap (λ (i : ℕ). from_plan i j) zeros),
        )

    pub parts_there : (x : Part) (s : Source) → IsFrom own ns env x s → (slice_get r.parts (placed pl s) ≡ Some x) × (pl.source (placed pl s) ≡ s)
    parts_there x (Own k) has =
        let zeros : 0 + k ≡ k = omega arith in numbered 0 k p x k refl (ap (λ (ks : List Part). slice_get ks k) own_is ∙ has) zeros
    parts_there x (Supplied n k) (among, has) =
        numbered (suc n) k (env n).plan x (placed pl (Supplied n k)) (plan_there n among) has refl

    abbrev Comes : ℕ → Part → Source → Type 0
    Comes k x s = IsFrom own ns env x s × (placed pl s ≡ k)

    pub no_more_parts : (k : ℕ) (x : Part) → slice_get r.parts k ≡ Some x → Comes k x (pl.source k)
    no_more_parts k x at = subst (Comes k x) (sym source) (by_plan there.plan there.is there.number)
      where
        there : PartOf 0 plans k x
        there = part_of 0 plans k x (sym (ap (λ (ks : List Part). slice_get ks k) joining.parts) ∙ at)

        source : pl.source k ≡ from_plan there.plan there.part
        source = let zeros : 0 + there.plan ≡ there.plan = omega arith in ap source_of (there.stands 0) ∙ ap (λ (i : ℕ). from_plan i there.part) zeros

        by_plan : (n : ℕ) → slice_get plans n ≡ Some there.of → k ≡ before plans n + there.part → Comes k x (from_plan n there.part)
        by_plan zero at_n number =
            let same : p ≡ there.of = cc at_n in (
              ap (λ (ks : List Part). slice_get ks there.part) (sym own_is)
                  ∙ (ap (λ (q : Plan). slice_get q.parts there.part) same ∙ there.has),
              omega (arith, number),
            )
        by_plan (suc n) at_n number =
            let (among, same) = there_plan n there.of at_n in
            ((among, ap (λ (q : Plan). slice_get q.parts there.part) same ∙ there.has), sym number)

    abbrev FromSupply : ℕ → Imported → Origin → Type 0
    FromSupply k x o = Contains ns o.number × (slice_get (env o.number).plan.imports o.import ≡ Some x) × (pl.import o.number o.import ≡ k)

    less_one : (n : ℕ) → one_less (1 + n) ≡ n
    less_one n = let more : 1 + n ≡ suc n = omega arith in ap one_less more

    pub imports_there : (n k : ℕ) (x : Imported) → Contains ns n → slice_get (env n).plan.imports k ≡ Some x
        → (slice_get r.imports (pl.import n k) ≡ Some x) × (pl.origin (pl.import n k) ≡ record { number = n; import = k })
    imports_there n k x among at =
        let there = import_there 1 (plans_of ss) n k (env n).plan x (plan_there n among) at in
        let number = less_one n in (
          ap (λ (xs : List Imported). slice_get xs (pl.import n k)) joining.imports
              ∙ (slice_get-map import_of (all_left (supplying p ss)) (pl.import n k)
              ∙ (ap (λ (ls : List LeftImport). option_map import_of (slice_get ls (pl.import n k))) (left_is p ss) ∙ ap (option_map import_of) there)),
          ap origin_of there ∙ (λ i. record { number = number i; import = k }),
        )

    pub left_at_number : (k : ℕ) (x : Imported) → slice_get r.imports k ≡ Some x
        → (l : LeftImport) × (slice_get (all_imports 1 (plans_of ss)) k ≡ Some l) × (l.import ≡ x)
    left_at_number k x at =
        by_left (slice_get (all_imports 1 (plans_of ss)) k) refl
        (ap (λ (ls : List LeftImport). option_map import_of (slice_get ls k)) (sym (left_is p ss))
        ∙ (sym (slice_get-map import_of (all_left (supplying p ss)) k) ∙ (ap (λ (xs : List Imported). slice_get xs k) (sym joining.imports) ∙ at)))
      where
        by_left : (o : Option LeftImport) → slice_get (all_imports 1 (plans_of ss)) k ≡ o → option_map import_of o ≡ Some x
            → (l : LeftImport) × (slice_get (all_imports 1 (plans_of ss)) k ≡ Some l) × (l.import ≡ x)
        by_left None none e = absurd (cc e)
        by_left (Some l) there e = (l, there, cc e)

    pub no_more_imports : (k : ℕ) (x : Imported) → slice_get r.imports k ≡ Some x → FromSupply k x (pl.origin k)
    no_more_imports k x at = by_left (left_at_number k x at)
      where
        by_left : (l : LeftImport) × (slice_get (all_imports 1 (plans_of ss)) k ≡ Some l) × (l.import ≡ x) → FromSupply k x (pl.origin k)
        by_left (l, at_l, same) =
            let there = import_in 1 (plans_of ss) k l at_l in
            let (among, plan) = there_plan there.plan there.of there.is in
            let number : one_less l.plan ≡ there.plan = ap one_less there.plan_is ∙ less_one there.plan in
            let origin : pl.origin k ≡ record { number = there.plan; import = l.number } = ap origin_of at_l ∙ (λ i. record { number = number i; import = l.number })
            in
            subst (FromSupply k x) (sym origin) (
              among,
              ap (λ (q : Plan). slice_get q.imports l.number) plan ∙ (there.has ∙ ap (λ (y : Imported). Some y) same),
              sym there.number,
            )
