-- The parts and imports of a node that is wired to supplies: its own parts first, and then those of each supply in turn.
use Rattle.std.specs.Prelude.{◌≡◌, ◌≢◌, ℕ, zero, suc, ◌+◌, ◌-◌, ◌<◌, ◌≤◌, Bool, true, false, List, [], ◌∷◌, ◌++◌, length, Some, slice_get, nat_lt, nat_eq, Contains, if◌then◌else◌}
use Rattle.std.proofs.Common.{refl, sym, ◌∙◌, ap, subst, arith}
use Rattle.std.proofs.lemmas.Option.{none-some, slice_get_within}
use Rattle.std.proofs.lemmas.Bool.{lt-ltb, le-ltb, eq-eqb, ne_eqb}
use Rattle.gos_types.proofs.ListLemmas.{found_in_front, found_behind, same_in_front}
use Rattle.gos_model.specs.Typing.{Imported}
use Rattle.gos_model.proofs.NumberLemmas.{number_cases}
use Rattle.gos_plan.specs.Kinds.{Part}
use Rattle.gos_check.specs.Linearity.{times}
use Rattle.gos_check.proofs.TimesLemmas.{times_same, some_times}
use Rattle.gos_realises.proofs.joined.OriginLemmas.{behind_at}
use Rattle.gos_terms.specs.wired.Wired.{Supplies, Source, Own, Supplied, Origin, Placing, IsFrom, placed}

abbrev pub origin : ℕ → ℕ → Origin
origin n k = record { number = n; import = k }

-- lists in turn; where item k of list n is; and which item of which list an item of all is
abbrev pub all_in : {A : Type 0} → (ℕ → List A) → List ℕ → List A
all_in of [] = []
all_in of (a ∷ ns) = of a ++ all_in of ns

abbrev pub spot : (ℕ → ℕ) → List ℕ → ℕ → ℕ → ℕ
spot len [] n k = 0
spot len (a ∷ ns) n k = if nat_eq n a then k else len a + spot len ns n k

abbrev pub item : (ℕ → ℕ) → List ℕ → ℕ → Origin
item len [] i = origin 0 0
item len (a ∷ ns) i = if nat_lt i (len a) then origin a i else item len ns (i - len a)

pub contains_cons : (a : ℕ) (ns : List ℕ) (n : ℕ) → Contains (a ∷ ns) n → a ≢ n → Contains ns n
contains_cons a ns n (zero, lt, e) other = absurd (other e)
contains_cons a ns n (suc k, lt, e) other = (k, omega (arith, lt), e)

module _ {A : Type 0} (of : ℕ → List A) where
  abbrev len : ℕ → ℕ
  len n = length (of n)

  pub item_there : (ns : List ℕ) (n k : ℕ) (x : A) → Contains ns n → slice_get (of n) k ≡ Some x
      → (slice_get (all_in of ns) (spot len ns n k) ≡ Some x) × (item len ns (spot len ns n k) ≡ origin n k)
  item_there [] n k x (i, lt, e) has = absurd (omega (arith, lt))
  item_there (a ∷ ns) n k x there has =
      number_cases n a
      (λ same test.
      let lt : k < len a = subst (λ m. k < len m) same (slice_get_within (of n) k x has) in
      rw test (
        found_in_front (of a) (all_in of ns) k x (subst (λ m. slice_get (of m) k ≡ Some x) same has),
        rw (lt-ltb k (len a) lt) (ap (λ m. origin m k) (sym same)),
      ))
      (λ other test.
      let rest = item_there ns n k x (contains_cons a ns n there (λ e. other (sym e))) has in
      let s : ℕ = spot len ns n k in
      let less : len a + s - len a ≡ s = omega arith in
      rw test (
        found_behind (of a) (all_in of ns) s ∙ rest.0,
        rw (le-ltb (len a + s) (len a) (omega arith)) (ap (item len ns) less ∙ rest.1),
      ))

  abbrev pub IsItem : List ℕ → ℕ → A → Origin → Type 0
  IsItem ns i x o = Contains ns o.number × (slice_get (of o.number) o.import ≡ Some x) × (spot len ns o.number o.import ≡ i)

  pub item_is : (ns : List ℕ) → ((n : ℕ) → times n ns ≤ 1) → (i : ℕ) (x : A) → slice_get (all_in of ns) i ≡ Some x → IsItem ns i x (item len ns i)
  item_is [] once i x e = absurd (none-some x e)
  item_is (a ∷ ns) once i x e = tested (item_is ns (λ n. let one = once n in omega (arith, one)) (i - len a) x) (nat_lt i (len a)) refl
    where
      first : i < len a → IsItem (a ∷ ns) i x (origin a i)
      first lt = (
        (0, omega arith, refl),
        sym (same_in_front (of a) (all_in of ns) i lt) ∙ e,
        ap (λ (b : Bool). if b then i else len a + spot len ns a i) (eq-eqb a a refl),
      )

      later : len a ≤ i → IsItem ns (i - len a) x (item len ns (i - len a)) → IsItem (a ∷ ns) i x (item len ns (i - len a))
      later large ((j, lt, same), is, at) =
          let o : Origin = item len ns (i - len a) in
          let n : ℕ = o.number in
          let many : 1 ≤ times n ns = some_times n ns (j, lt, same) in
          let differ : n ≢ a =
          λ (e : n ≡ a). let twice = times_same n ns in let one = once n in
          let over : times n (n ∷ ns) ≤ 1 = subst (λ m. times n (m ∷ ns) ≤ 1) (sym e) one in omega (arith, twice, over, many) in (
            (suc j, omega (arith, lt), same),
            is,
            ap (λ (b : Bool). if b then o.import else len a + spot len ns n o.import) (ne_eqb n a differ) ∙ omega (arith, at, large),
          )

      tested : (slice_get (all_in of ns) (i - len a) ≡ Some x → IsItem ns (i - len a) x (item len ns (i - len a)))
          → (b : Bool) → nat_lt i (len a) ≡ b → IsItem (a ∷ ns) i x (item len (a ∷ ns) i)
      tested rest true t = subst (λ (b : Bool). IsItem (a ∷ ns) i x (if b then origin a i else item len ns (i - len a))) (sym t) (first (grind (arith, t)))
      tested rest false t =
          let large : len a ≤ i = grind (arith, t) in
          subst (λ (b : Bool). IsItem (a ∷ ns) i x (if b then origin a i else item len ns (i - len a))) (sym t)
          (later large (rest (sym (behind_at (of a) (all_in of ns) i large) ∙ e)))

-- The parts and imports, and how they are numbered.
abbrev pub part_list : Supplies → ℕ → List Part
part_list env n = (env n).plan.parts

abbrev pub import_list : Supplies → ℕ → List Imported
import_list env n = (env n).plan.imports

abbrev pub all_parts : List Part → Supplies → List ℕ → List Part
all_parts own env ns = own ++ all_in (part_list env) ns

abbrev pub all_imports : Supplies → List ℕ → List Imported
all_imports env ns = all_in (import_list env) ns

abbrev pub supplied_by : Origin → Source
supplied_by o = Supplied o.number o.import

abbrev pub numbering : List Part → Supplies → List ℕ → Placing
numbering own env ns =
    record {
      own = λ k. k;
      supplied = λ n k. length own + spot (λ m. length (part_list env m)) ns n k;
      import = λ n k. spot (λ m. length (import_list env m)) ns n k;
      source =
          λ k. if nat_lt k (length own) then Own k else supplied_by (item (λ m. length (part_list env m)) ns (k - length own));
      origin = item (λ m. length (import_list env m)) ns;
    }

module _ (own : List Part) (env : Supplies) (ns : List ℕ) where
  abbrev pl : Placing
  pl = numbering own env ns

  abbrev lens : ℕ → ℕ
  lens m = length (part_list env m)

  abbrev wides : ℕ → ℕ
  wides m = length (import_list env m)

  pub part_there : (x : Part) (s : Source) → IsFrom own ns env x s
      → (slice_get (all_parts own env ns) (placed pl s) ≡ Some x) × (pl.source (placed pl s) ≡ s)
  part_there x (Own k) has = (
    found_in_front own (all_in (part_list env) ns) k x has,
    ap (λ (b : Bool). if b then Own k else supplied_by (item lens ns (k - length own))) (lt-ltb k (length own) (slice_get_within own k x has)),
  )
  part_there x (Supplied n k) (there, has) =
      let at = item_there (part_list env) ns n k x there has in
      let s : ℕ = spot lens ns n k in
      let less : length own + s - length own ≡ s = omega arith in (
        found_behind own (all_in (part_list env) ns) s ∙ at.0,
        ap (λ (b : Bool). if b then Own (length own + s) else supplied_by (item lens ns (length own + s - length own)))
            (le-ltb (length own + s) (length own) (omega arith))
            ∙ (ap (λ m. supplied_by (item lens ns m)) less ∙ ap supplied_by at.1),
      )

  pub part_is : ((n : ℕ) → times n ns ≤ 1) → (k : ℕ) (x : Part) → slice_get (all_parts own env ns) k ≡ Some x
      → IsFrom own ns env x (pl.source k) × (placed pl (pl.source k) ≡ k)
  part_is once k x e = tested (nat_lt k (length own)) refl
    where
      Is : Source → Type 0
      Is s = IsFrom own ns env x s × (placed pl s ≡ k)

      tested : (b : Bool) → nat_lt k (length own) ≡ b → Is (pl.source k)
      tested true t =
          subst (λ (b : Bool). Is (if b then Own k else supplied_by (item lens ns (k - length own)))) (sym t)
          (sym (same_in_front own (all_in (part_list env) ns) k (grind (arith, t))) ∙ e, refl)
      tested false t =
          let large : length own ≤ k = grind (arith, t) in
          let (there, is, at) = item_is (part_list env) ns once (k - length own) x (sym (behind_at own (all_in (part_list env) ns) k large) ∙ e) in
          subst (λ (b : Bool). Is (if b then Own k else supplied_by (item lens ns (k - length own)))) (sym t)
          ((there, is), omega (arith, at, large))

  pub import_there : (n k : ℕ) (x : Imported) → Contains ns n → slice_get (env n).plan.imports k ≡ Some x
      → (slice_get (all_imports env ns) (pl.import n k) ≡ Some x) × (pl.origin (pl.import n k) ≡ origin n k)
  import_there n k x there has = item_there (import_list env) ns n k x there has

  pub import_is : ((n : ℕ) → times n ns ≤ 1) → (k : ℕ) (x : Imported) → slice_get (all_imports env ns) k ≡ Some x
      → Contains ns (pl.origin k).number × (slice_get (env (pl.origin k).number).plan.imports (pl.origin k).import ≡ Some x)
      × (pl.import (pl.origin k).number (pl.origin k).import ≡ k)
  import_is once k x e = item_is (import_list env) ns once k x e
