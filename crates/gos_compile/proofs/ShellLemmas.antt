-- The shell of a checked module is a plan, and within the limits of an object file.
use Rattle.std.specs.Prelude.{◌≡◌, ◌≤◌, List, [], ◌∷◌, Some, length, map, slice_get}
use Rattle.std.specs.List.{AllByRecursion}
use Rattle.std.proofs.Common.{refl, ap, sym, ◌∙◌, subst, arith}
use Rattle.std.proofs.lemmas.List.{length-map}
use Rattle.std.proofs.lemmas.List.Elements.{All-nil}
use Rattle.gos_types.specs.declared.types.Ty.{Ty}
use Rattle.gos_types.specs.Types.{Type', type_of}
use Rattle.gos_syntax.specs.Modules.{SeenImport}
use Rattle.gos_model.specs.Sources as sources
use Rattle.gos_model.specs.Typing.{Imports}
use Rattle.gos_check.specs.Accepted.{AreWritten}
use Rattle.gos_check.specs.Checked.{SeenLinear, IsChecked, program_in}
use Rattle.gos_plan.specs.declared.fault.ObjectFault.{ObjectFault}
use Rattle.gos_plan.specs.declared.fault.ObjectFault.TheVariants as faults
use Rattle.gos_plan.specs.declared.kinds.Kind.{Kind}
use Rattle.gos_plan.specs.declared.plan.PlanImport.{PlanImport}
use Rattle.gos_plan.specs.declared.plan.Joint.{Joint as DeclaredJoint}
use Rattle.gos_plan.specs.Faults.{IsFault}
use Rattle.gos_plan.specs.ObjectText.{IsSmallType, IsSmallPlan}
use Rattle.gos_plan.specs.Plans.{Plan}
use Rattle.gos_plan.specs.Ranges.{IsInRange, AreInRange}
use Rattle.gos_plan.specs.Seen.{SeenPlan, import_of, joint_of, part_of, plan_of}
use Rattle.gos_compile.specs.Shells.{shell_of, ShellIsOfPlan}
use Rattle.gos_compile.proofs.RangeLemmas.{IsFine, ImportsFine, written_fine, imports_range}

-- where there is no joint, none is wrong
pub no_wrong : (s : SeenPlan) (fault : ObjectFault) → s.joints ≡ [] → IsFault s fault → fault ≡ faults.NoMemory
no_wrong s (faults.Joint index) none wrong =
    let at : slice_get (map joint_of []) index ≡ Some wrong.joint = subst (λ js. slice_get (map joint_of js) index ≡ Some wrong.joint) none wrong.stands in absurd (cc at)
no_wrong s faults.NoMemory none wrong = refl
no_wrong s (faults.Form at) none wrong = absurd wrong
no_wrong s (faults.Limit at) none wrong = absurd wrong

-- imports and result are in range
pub shell_range : (l : SeenLinear) → IsChecked l → (imports : List PlanImport) (outcome : Ty) → map import_of imports ≡ map sources.import_of l.imports
    → type_of outcome ≡ type_of l.result → AreInRange imports outcome []
shell_range l c imports outcome same_imports same_outcome =
    record {
      of_imports = imports_range imports (subst (λ (is : Imports). ImportsFine is) (sym same_imports) (written_fine l.imports c.imports));
      of_result = subst (λ (t : Type'). IsFine t) (sym same_outcome) c.result;
      of_parts = All-nil IsInRange;
    }

-- what is made of them is the shell
pub is_shell : (l : SeenLinear) (s : SeenPlan) (imports : List PlanImport) (outcome : Ty) (parts : List Kind) (joints : List DeclaredJoint)
    → s ≡ record { weight = 0; imports = imports; outcome = outcome; parts = parts; joints = joints }
    → map import_of imports ≡ map sources.import_of l.imports → type_of outcome ≡ type_of l.result → parts ≡ [] → joints ≡ []
    → plan_of s ≡ shell_of (program_in l).imports (type_of l.result)
is_shell l s imports outcome parts joints is same_imports same_outcome no_parts no_joints =
    ap plan_of is
    ∙ (λ i. record { weight = 0; imports = same_imports i; outcome = same_outcome i; parts = map part_of (no_parts i); joints = map joint_of (no_joints i) })

-- their types have few handshakes
small_types : (is : List SeenImport) → AreWritten is → AllByRecursion (λ i. IsSmallType i.ty) (map sources.import_of is)
small_types [] h = tt
small_types (i ∷ is) (written, h) = (written.1, small_types is h)

pub small_shell : (l : SeenLinear) → IsChecked l → (p : Plan) → p ≡ shell_of (program_in l).imports (type_of l.result) → length l.imports ≤ 64 → IsSmallPlan p
small_shell l c p is many = subst IsSmallPlan (sym is) small
  where
    small : IsSmallPlan (shell_of (program_in l).imports (type_of l.result))
    small =
        record {
          imports = ((let size : length (program_in l).imports ≡ length l.imports = simp length-map refl in omega (arith, size, many)), small_types l.imports c.imports);
          outcome = c.result.1;
          parts = (omega arith, tt);
          joints = omega arith;
        }

pub shell_is_of_plan : ShellIsOfPlan
shell_is_of_plan is t w m p plan = λ i. shell_of (sym plan.imports i) (sym plan.outcome i)
