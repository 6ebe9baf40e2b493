-- A linked plan can be laid out as a circuit.
use Rattle.std.proofs.Common.{◌≡◌, ◌<◌, ◌∙◌, ℕ, zero, suc, List, [], ◌∷◌, Some, map, length, All, slice_get, refl, ap, sym, subst, arith}
use Rattle.gos_types.specs.Types.{IsGround, IsDone, type_of}
use Rattle.gos_lex.specs.Lines.{Word}
use Rattle.gos_model.specs.Typing.{Imported}
use Rattle.gos_plan.specs.declared.plan.PlanImport.{PlanImport}
use Rattle.gos_plan.specs.Joining.{LeftImport, all_left}
use Rattle.gos_plan.specs.Ranges.{AreInRange}
use Rattle.gos_plan.specs.Seen.{SeenPlan, plan_of, import_of}
use Rattle.gos_realises.specs.realises.Realises.{AllGround}
use Rattle.gos_expand.specs.Acceptance.{AreDifferent, CanBeLaid}
use Rattle.gos_link.specs.Linked as linking
use Rattle.gos_link.specs.Linked.{Port, port_of, ports_of, whole_of, AreGround, IsLinked}
use Rattle.gos_link.specs.declared.build.Build.{Build}
use Rattle.gos_link.specs.declared.build.Instance.{Instance}

-- imports that stay have ground types, and so have those of the plan
left_ground : (ls : List LeftImport) → AreGround (length ls) ls → AllGround (map (λ (l : LeftImport). l.import) ls)
left_ground [] ground = tt
left_ground (l ∷ ls) ground = (ground 0 l (omega arith) refl, left_ground ls (λ i m less at. ground (suc i) m (omega (arith, less)) at))

all_ground : (is : List PlanImport) → AllGround (map import_of is) → All (λ i. IsGround (type_of i.ty)) is
all_ground [] ground k d less = absurd (omega (arith, less))
all_ground (i ∷ is) ground zero d less = ground.0
all_ground (i ∷ is) ground (suc k) d less = all_ground is ground.1 k d (omega (arith, less))

-- a port of this name
pub record Named (ports : List Port) (k : ℕ) (a : Word) : Type 0 where
  pub port : Port
  pub below : k < length ports
  pub at : slice_get ports k ≡ Some port
  pub is : port.name ≡ a

later : (q : Port) (ports : List Port) (k : ℕ) (a : Word) → Named ports k a → Named (q ∷ ports) (suc k) a
later q ports k a n = record { port = n.port; below = omega (arith, n.below); at = n.at; is = n.is }

named : (ports : List Port) (k : ℕ) (a : Word) → slice_get (map (λ (q : Port). q.name) ports) k ≡ Some a → Named ports k a
named [] k a h = absurd (cc h)
named (q ∷ ports) zero a h = let same : q.name ≡ a = cc h in record { port = q; below = omega arith; at = refl; is = same }
named (q ∷ ports) (suc k) a h = later q ports k a (named ports k a h)

-- ports of different names have different names
different : (ports : List Port) → linking.AreDifferent (length ports) ports → AreDifferent (map (λ (q : Port). q.name) ports)
different ports differ i j a b less at_i at_j =
    let one = named ports i a at_i in
    let other = named ports j b at_j in
    λ same. differ i j one.port other.port less other.below one.at other.at (one.is ∙ same ∙ sym other.is)

-- the names of the ports are those of the root and of the imports
left_names : (is : List Instance) (ls : List LeftImport) → map (λ (q : Port). q.name) (map (port_of is) ls) ≡ map (λ (i : Imported). i.name) (map (λ (l : LeftImport). l.import) ls)
left_names is [] = refl
left_names is (l ∷ ls) = ap (λ (names : List Word). l.import.name ∷ names) (left_names is ls)

import_names : (is : List PlanImport) → map (λ (i : Imported). i.name) (map import_of is) ≡ map (λ (i : PlanImport). i.name) is
import_names [] = refl
import_names (i ∷ is) = ap (λ (names : List Word). i.name ∷ names) (import_names is)

pub can_be_laid : (b : Build) (ps : List SeenPlan) (p : SeenPlan) → AreInRange p.imports p.outcome p.parts → IsLinked b ps (plan_of p) → CanBeLaid p b.root
can_be_laid b ps p in_range l =
    let w = whole_of ps l.services l.root in
    let is = b.instances.items in
    let grounded = l.light.grounded in
    let names = ap (λ (xs : List Imported). map (λ (i : Imported). i.name) xs) (sym l.joining.imports) in
    record {
      in_range = in_range;
      right = l.joining.right;
      ports = record {
        result = subst IsDone (sym l.joining.outcome) grounded.result;
        ground = all_ground p.imports (subst AllGround (sym l.joining.imports) (left_ground (all_left w) grounded.imports));
      };
      names = subst (λ (xs : List Word). AreDifferent (b.root ∷ xs)) (left_names is (all_left w) ∙ names ∙ import_names p.imports)
          (different (ports_of b w) grounded.named.names);
    }
