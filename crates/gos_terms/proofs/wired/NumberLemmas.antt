-- The parts and the imports of several plans, by their numbers among all.
use Rattle.std.specs.Prelude.{◌≡◌, ℕ, zero, suc, ◌+◌, List, [], ◌∷◌, ◌++◌, length, Some, slice_get}
use Rattle.std.proofs.Common.{refl, sym, ◌∙◌, ap, arith, inl, inr}
use Rattle.gos_types.proofs.ListLemmas.{found_in_front, found_behind}
use Rattle.gos_model.specs.Typing.{Imported}
use Rattle.gos_plan.specs.Kinds.{Part}
use Rattle.gos_plan.specs.Plans.{Plan}
use Rattle.gos_plan.specs.Joining.{LeftImport, all_parts}
use Rattle.gos_realises.proofs.realises.LeftLemmas.{left_list}
use Rattle.gos_realises.proofs.joined.OriginLemmas.{before}
use Rattle.gos_joining.proofs.unions.FlatFitLemmas.{InTwo, in_two}
use Rattle.gos_sharing.proofs.function_types.SideLemmas.{list_size}
use Rattle.gos_sharing.proofs.function_types.BeforeLemmas.{listed_list}

pub part_there : (ps : List Plan) (n j : ℕ) (q : Plan) (x : Part) → slice_get ps n ≡ Some q → slice_get q.parts j ≡ Some x
    → slice_get (all_parts ps) (before ps n + j) ≡ Some x
part_there [] n j q x is has = absurd (cc is)
part_there (p ∷ ps) zero j q x is has =
    let same : p ≡ q = cc is in
    let zeros : 0 + j ≡ j = omega arith in
    ap (slice_get (p.parts ++ all_parts ps)) zeros ∙ found_in_front p.parts (all_parts ps) j x (ap (λ (y : Plan). slice_get y.parts j) same ∙ has)
part_there (p ∷ ps) (suc n) j q x is has =
    let sum : length p.parts + before ps n + j ≡ length p.parts + (before ps n + j) = omega arith in
    ap (slice_get (p.parts ++ all_parts ps)) sum ∙ (found_behind p.parts (all_parts ps) (before ps n + j) ∙ part_there ps n j q x is has)

-- how many imports the plans before plan n have
abbrev pub imports_before : List Plan → ℕ → ℕ
imports_before [] n = 0
imports_before (q ∷ qs) zero = 0
imports_before (q ∷ qs) (suc n) = length q.imports + imports_before qs n

-- all imports of these plans, which have numbers from m on
abbrev pub all_imports : ℕ → List Plan → List LeftImport
all_imports m [] = []
all_imports m (q ∷ qs) = left_list m 0 q.imports ++ all_imports (suc m) qs

record ListAt (k i : ℕ) (xs : List Imported) (j : ℕ) (l : LeftImport) : Type 0 where
  plan : l.plan ≡ k
  number : l.number ≡ i + j
  has : slice_get xs j ≡ Some l.import

of_list : (k i : ℕ) (xs : List Imported) (j : ℕ) (l : LeftImport) → slice_get (left_list k i xs) j ≡ Some l → ListAt k i xs j l
of_list k i [] j l at = absurd (cc at)
of_list k i (y ∷ xs) zero l at =
    let same : record { plan = k; number = i; import = y } ≡ l = cc at in
    let e : i ≡ i + 0 = omega arith in
    record {
      plan = ap (λ (z : LeftImport). z.plan) (sym same);
      number = ap (λ (z : LeftImport). z.number) (sym same) ∙ e;
      has = ap (λ (z : LeftImport). Some z.import) same;
    }
of_list k i (y ∷ xs) (suc j) l at =
    let there = of_list k (suc i) xs j l at in
    let sum : suc i + j ≡ i + suc j = omega arith in
    record { plan = there.plan; number = there.number ∙ sum; has = there.has }

-- an import of all is one of one plan
pub record ImportOf (m : ℕ) (qs : List Plan) (i : ℕ) (l : LeftImport) : Type 0 where
  pub plan : ℕ
  pub of : Plan
  pub plan_is : l.plan ≡ m + plan
  pub number : i ≡ imports_before qs plan + l.number
  pub is : slice_get qs plan ≡ Some of
  pub has : slice_get of.imports l.number ≡ Some l.import

pub import_in : (m : ℕ) (qs : List Plan) (i : ℕ) (l : LeftImport) → slice_get (all_imports m qs) i ≡ Some l → ImportOf m qs i l
import_in m [] i l at = absurd (cc at)
import_in m (q ∷ qs) i l at = by_list (in_two (left_list m 0 q.imports) (all_imports (suc m) qs) i l at) (λ j. import_in (suc m) qs j l)
  where
    by_list : InTwo (left_list m 0 q.imports) (all_imports (suc m) qs) i l
        → ((j : ℕ) → slice_get (all_imports (suc m) qs) j ≡ Some l → ImportOf (suc m) qs j l) → ImportOf m (q ∷ qs) i l
    by_list (inl here) rest =
        let there = of_list m 0 q.imports i l here in
        let number = there.number in
        let same : i ≡ l.number = omega (arith, number) in
        let zeros : m ≡ m + 0 = omega arith in
        record {
          plan = 0;
          of = q;
          plan_is = there.plan ∙ zeros;
          number = omega (arith, same);
          is = refl;
          has = ap (slice_get q.imports) (sym same) ∙ there.has;
        }
    by_list (inr (j, sum, later)) rest =
        let there = rest j later in
        let size = list_size m 0 q.imports in
        let number = there.number in
        let next : suc m + there.plan ≡ m + suc there.plan = omega arith in
        record {
          plan = suc there.plan;
          of = there.of;
          plan_is = there.plan_is ∙ next;
          number = omega (arith, sum, size, number);
          is = there.is;
          has = there.has;
        }

pub import_there : (m : ℕ) (qs : List Plan) (n k : ℕ) (q : Plan) (x : Imported) → slice_get qs n ≡ Some q → slice_get q.imports k ≡ Some x
    → slice_get (all_imports m qs) (imports_before qs n + k) ≡ Some (record { plan = m + n; number = k; import = x })
import_there m [] n k q x is at = absurd (cc is)
import_there m (p ∷ qs) zero k q x is at =
    let same : p ≡ q = cc is in
    let zeros : 0 + k ≡ k = omega arith in
    let plan : m ≡ m + 0 = omega arith in
    let number : 0 + k ≡ k = omega arith in
    ap (slice_get (left_list m 0 p.imports ++ all_imports (suc m) qs)) zeros
    ∙ (found_in_front (left_list m 0 p.imports) (all_imports (suc m) qs) k (record { plan = m; number = 0 + k; import = x })
    (listed_list m 0 p.imports k x (ap (λ (y : Plan). slice_get y.imports k) same ∙ at))
    ∙ (λ j. Some (record { plan = plan j; number = number j; import = x })))
import_there m (p ∷ qs) (suc n) k q x is at =
    let size = list_size m 0 p.imports in
    let sum : length p.imports + imports_before qs n + k ≡ length (left_list m 0 p.imports) + (imports_before qs n + k) = omega (arith, size) in
    let next : suc m + n ≡ m + suc n = omega arith in
    ap (slice_get (left_list m 0 p.imports ++ all_imports (suc m) qs)) sum
    ∙ (found_behind (left_list m 0 p.imports) (all_imports (suc m) qs) (imports_before qs n + k)
    ∙ (import_there (suc m) qs n k q x is at ∙ (λ j. Some (record { plan = next j; number = k; import = x }))))
