-- What is known of the plans of a build: of each its imports, its result and its weight.
use Rattle.std.proofs.Common.{◌≡◌, ℕ, ◌+◌, ◌*◌, ◌≤◌, zero, suc, cond, not, nat_lt, List, [], ◌∷◌, ◌++◌, length, map, Option, Some, None, slice_get, refl, sym, ◌∙◌, subst, arith, length-append}
use Rattle.std.specs.List.{position, prefix_len}
use Rattle.std.specs.Str.{bytes_eq}
use Rattle.std.proofs.lemmas.List.{length-map}
use Rattle.gos_types.specs.Types.{Type'}
use Rattle.gos_lex.specs.Lines.{Word}
use Rattle.gos_model.specs.Typing.{Imported}
use Rattle.gos_plan.specs.declared.plan.PlanImport.{PlanImport}
use Rattle.gos_plan.specs.Kinds.{Part, part_contacts}
use Rattle.gos_plan.specs.Plans.{Plan, IsRight, contacts_of_import}
use Rattle.gos_plan.specs.Seen.{SeenPlan, import_of, plan_of}
use Rattle.gos_plan.specs.Joining.{Link, left_in, left_among, all_parts, all_weight}
use Rattle.gos_plan.specs.Size.{shakes_of, numbers_of}
use Rattle.gos_realises.specs.realises.Slim.{IsSlim, all_shakes}
use Rattle.gos_realises.proofs.realises.CountLemmas.{numbers-append}
use Rattle.gos_link.specs.Answers.{EachRight, all_joints}
use Rattle.gos_link.specs.declared.services.Service.{Service}
use Rattle.gos_link.specs.Services.{import_named}
use Rattle.gos_link.specs.Linked.{imports_of, outcome_of, links_from, links_of, plans_of}

-- the imports, the result and the weight of a plan
pub record Sort : Type 0 where
  pub imports : List Imported
  pub outcome : Type'
  pub weight : ℕ

pub record IsOf (p : Plan) (s : Sort) : Type 0 where
  pub imports : p.imports ≡ s.imports
  pub outcome : p.outcome ≡ s.outcome
  pub weight : p.weight ≡ s.weight
  pub right : IsRight p
  pub slim : IsSlim p

abbrev pub AreOf : List SeenPlan → List Sort → Type 0
AreOf [] [] = Unit {0}
AreOf [] (s ∷ ss) = ⊥
AreOf (p ∷ ps) [] = ⊥
AreOf (p ∷ ps) (s ∷ ss) = IsOf (plan_of p) s × AreOf ps ss

-- a plan of which nothing else is known
abbrev pub bare : Sort → Plan
bare s = record { weight = s.weight; imports = s.imports; outcome = s.outcome; parts = []; joints = [] }

abbrev pub bare_plans : List Sort → List Plan
bare_plans ss = map bare ss

-- the plan of this number
pub plan_at : (ps : List SeenPlan) (ss : List Sort) (k : ℕ) (s : Sort) → AreOf ps ss → slice_get ss k ≡ Some s
    → (p : SeenPlan) × (slice_get ps k ≡ Some p) × IsOf (plan_of p) s
plan_at [] [] k s are e = absurd (cc)
plan_at [] (t ∷ ss) k s are e = absurd are
plan_at (p ∷ ps) [] k s are e = absurd are
plan_at (p ∷ ps) (t ∷ ss) zero s are e = let same : t ≡ s = cc e in (p, refl, subst (λ (u : Sort). IsOf (plan_of p) u) same are.0)
plan_at (p ∷ ps) (t ∷ ss) (suc k) s are e = plan_at ps ss k s are.1 e

-- the import of a name
abbrev pub named_in : List Imported → Word → Option ℕ
named_in is name = position (λ i. bytes_eq i.name name) is

front_named : (is : List PlanImport) (name : Word)
    → prefix_len (λ i. not (bytes_eq i.name name)) is ≡ prefix_len (λ i. not (bytes_eq i.name name)) (map import_of is)
front_named [] name = refl
front_named (i ∷ is) name = λ k. cond (not (bytes_eq i.name name)) (1 + front_named is name k) 0

pub same_named : (is : List PlanImport) (name : Word) → import_named is name ≡ named_in (map import_of is) name
same_named is name =
    let size : length is ≡ length (map import_of is) = sym (length-map is import_of) in
    λ k. cond (nat_lt (front_named is name k) (size k)) (Some (front_named is name k)) None

pub import_at : (is : List PlanImport) (ys : List Imported) (k : ℕ) (y : Imported) → map import_of is ≡ ys → slice_get ys k ≡ Some y
    → (x : PlanImport) × (slice_get is k ≡ Some x) × (import_of x ≡ y)
import_at [] [] k y same e = absurd (cc e)
import_at [] (z ∷ ys) k y same e = absurd (cc same)
import_at (i ∷ is) [] k y same e = absurd (cc same)
import_at (i ∷ is) (z ∷ ys) zero y same e = let first : import_of i ≡ z = cc same in let last : z ≡ y = cc e in (i, refl, first ∙ last)
import_at (i ∷ is) (z ∷ ys) (suc k) y same e = let rest : map import_of is ≡ ys = cc same in import_at is ys k y rest e

-- links and imports that stay are those of bare plans
same_imports_of : (ps : List SeenPlan) (ss : List Sort) (k : ℕ) → AreOf ps ss → imports_of (slice_get (plans_of ps) k) ≡ imports_of (slice_get (bare_plans ss) k)
same_imports_of [] [] k are = refl
same_imports_of [] (s ∷ ss) k are = absurd are
same_imports_of (p ∷ ps) [] k are = absurd are
same_imports_of (p ∷ ps) (s ∷ ss) zero are = are.0.imports
same_imports_of (p ∷ ps) (s ∷ ss) (suc k) are = same_imports_of ps ss k are.1

pub same_links : (ps : List SeenPlan) (ss : List Sort) (services : List Service) → AreOf ps ss → links_of (plans_of ps) services ≡ links_of (bare_plans ss) services
same_links ps ss [] are = refl
same_links ps ss (s ∷ services) are =
    let imports : imports_of (slice_get (plans_of ps) s.user) ≡ imports_of (slice_get (bare_plans ss) s.user) = same_imports_of ps ss s.user are in
    λ i. links_from s 0 (length (contacts_of_import (slice_get (imports i) s.import))) ++ same_links ps ss services are i

pub same_left : (ls : List Link) (k : ℕ) (ps : List SeenPlan) (ss : List Sort) → AreOf ps ss → left_among ls k (plans_of ps) ≡ left_among ls k (bare_plans ss)
same_left ls k [] [] are = refl
same_left ls k [] (s ∷ ss) are = absurd are
same_left ls k (p ∷ ps) [] are = absurd are
same_left ls k (p ∷ ps) (s ∷ ss) are =
    let imports : (plan_of p).imports ≡ s.imports = are.0.imports in
    λ i. left_in ls k 0 (imports i) ++ same_left ls (suc k) ps ss are.1 i

pub same_outcome : (ps : List SeenPlan) (ss : List Sort) (k : ℕ) → AreOf ps ss → outcome_of (slice_get (plans_of ps) k) ≡ outcome_of (slice_get (bare_plans ss) k)
same_outcome [] [] k are = refl
same_outcome [] (s ∷ ss) k are = absurd are
same_outcome (p ∷ ps) [] k are = absurd are
same_outcome (p ∷ ps) (s ∷ ss) zero are = are.0.outcome
same_outcome (p ∷ ps) (s ∷ ss) (suc k) are = same_outcome ps ss k are.1

pub same_weight : (ps : List SeenPlan) (ss : List Sort) → AreOf ps ss → all_weight (plans_of ps) ≡ all_weight (bare_plans ss)
same_weight [] [] are = refl
same_weight [] (s ∷ ss) are = absurd are
same_weight (p ∷ ps) [] are = absurd are
same_weight (p ∷ ps) (s ∷ ss) are =
    let one : p.weight ≡ s.weight = are.0.weight in λ i. one i + same_weight ps ss are.1 i

pub each_right : (ps : List SeenPlan) (ss : List Sort) → AreOf ps ss → EachRight (plans_of ps)
each_right [] [] are = tt
each_right [] (s ∷ ss) are = absurd are
each_right (p ∷ ps) [] are = absurd are
each_right (p ∷ ps) (s ∷ ss) are = (are.0.right, each_right ps ss are.1)

-- parts, handshakes, numbers of arrays and joints are few for the weight
shakes_both : (ks ls : List Part) → shakes_of (ks ++ ls) ≡ shakes_of ks + shakes_of ls
shakes_both [] ls = omega arith
shakes_both (k ∷ ks) ls = let rest = shakes_both ks ls in omega (arith, rest)

shakes_same : (ks : List Part) → shakes_of ks ≡ all_shakes ks
shakes_same [] = refl
shakes_same (k ∷ ks) = λ i. length (part_contacts k) + shakes_same ks i

pub few_parts : (ps : List SeenPlan) (ss : List Sort) → AreOf ps ss
    → length (all_parts (plans_of ps)) + shakes_of (all_parts (plans_of ps)) + 4 * numbers_of (all_parts (plans_of ps)) ≤ 4 * all_weight (plans_of ps)
few_parts [] [] are = omega arith
few_parts [] (s ∷ ss) are = absurd are
few_parts (p ∷ ps) [] are = absurd are
few_parts (p ∷ ps) (s ∷ ss) are =
    let parts : List Part = (plan_of p).parts in
    let others : List Part = all_parts (plans_of ps) in
    let size = length-append parts others in
    let shakes = shakes_both parts others in
    let numbers = numbers-append parts others in
    let same = shakes_same parts in
    let one : length parts + all_shakes parts + 4 * numbers_of parts ≤ 4 * p.weight = are.0.slim.ends in
    let rest = few_parts ps ss are.1 in
    omega (arith, size, shakes, numbers, same, one, rest)

pub few_joints : (ps : List SeenPlan) (ss : List Sort) → AreOf ps ss → all_joints (plans_of ps) ≤ 2 * all_weight (plans_of ps)
few_joints [] [] are = omega arith
few_joints [] (s ∷ ss) are = absurd are
few_joints (p ∷ ps) [] are = absurd are
few_joints (p ∷ ps) (s ∷ ss) are =
    let one : length (plan_of p).joints + 2 * numbers_of (plan_of p).parts ≤ 2 * p.weight = are.0.slim.joints in
    let rest = few_joints ps ss are.1 in
    omega (arith, one, rest)
