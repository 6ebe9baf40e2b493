-- The circuits of modules keep pace with their programs: that of a module alone, and that of a build. The latter is small.
--
-- Read first: Compiled of objects (the plan of a module); Circuit and Plans of circuits; Pace of gos_pace; Programs,
-- Objects.
use Rattle.std.specs.Prelude.{◌≡◌, ℕ, ◌+◌, ◌*◌, ◌≤◌, List, length, map, Option, Some}
use Rattle.gos_outside.specs.Files.{Files}
use Rattle.gos_lex.specs.Lines.{Word}
use Rattle.gos_types.specs.Types.{IsDone, type_of}
use Rattle.gos_syntax.specs.Modules.{SeenModule}
use Rattle.gos_netlist.specs.Nets.{Netlist}
use Rattle.gos_model.specs.Linking.{link_weight}
use Rattle.gos_pace.specs.Pace.{KeepsPaceAlways}
use Rattle.gos_model.specs.Sources.{program_of}
use Rattle.gos_check.specs.Accepted.{weighed}
use Rattle.gos_plan.specs.Plans.{Plan}
use Rattle.gos_plan.specs.Seen.{SeenPlan}
use Rattle.gos_realises.specs.realises.Modules.{RealisesModule}
use Rattle.gos_realises.specs.realises.Realises.{AllGround}
use Rattle.gos_link.specs.declared.build.Build.{Build}
use Rattle.gos_tool.specs.objects.Compiled.{IsPlanOfModule}
use Rattle.gos_tool.specs.declared.circuits.layout.Layout.{Layout}
use Rattle.gos_tool.specs.circuits.Circuit.{IsCircuitOf}
use Rattle.gos_tool.specs.circuits.Plans.{IsPlansDone}
use Rattle.gos_tool.specs.build.Programs.{program_along, IsTyped}
use Rattle.gos_command.specs.declared.report.Report.{Report}
use Rattle.gos_tool.specs.build.Objects.{AllWritten}
use Rattle.gos_tool.specs.build.Headline.{Headline}
use Rattle.gos_tool.specs.build.Built.{IsBuiltAs}

-- The circuit of the plan of a module, whose imports are ground and whose result is a command or an expression, keeps pace with
-- the module's program.
abbrev pub ModuleKeepsPace : Type 0
ModuleKeepsPace =
    (layout : Layout) (m : SeenModule) (plan : Plan) (root : Word) (net : Netlist)
    → IsPlanOfModule m plan → AllGround (program_of m).imports → IsDone (type_of m.result) → IsCircuitOf layout root plan net
    → KeepsPaceAlways (weighed m) (program_of m) net

-- The circuit of a build's linked plan keeps pace with the program of its linked modules.
abbrev pub BuildKeepsPace : Type 0
BuildKeepsPace =
    (layout : Layout) (files : Files) (objects old new : Option Files) (b : Build) (plans : List SeenPlan) (weight : ℕ) (net : Netlist)
    (compiled : AllWritten files objects b.instances.items plans) (done : IsPlansDone layout old new b plans weight net)
    → KeepsPaceAlways weight (program_along compiled.modules done.linked.services done.linked.root) net

-- The linked plan realises that program.
abbrev pub BuildRealises : Type 0
BuildRealises =
    (layout : Layout) (files : Files) (objects old new : Option Files) (b : Build) (plans : List SeenPlan) (weight : ℕ) (net : Netlist)
    (compiled : AllWritten files objects b.instances.items plans) (done : IsPlansDone layout old new b plans weight net)
    → RealisesModule done.whole (program_along compiled.modules done.linked.services done.linked.root).body

-- The linked plan has the imports of that program, and the weight of the linked modules.
abbrev pub BuildHasImports : Type 0
BuildHasImports =
    (layout : Layout) (files : Files) (objects old new : Option Files) (b : Build) (plans : List SeenPlan) (weight : ℕ) (net : Netlist)
    (compiled : AllWritten files objects b.instances.items plans) (done : IsPlansDone layout old new b plans weight net)
    → done.whole.imports ≡ (program_along compiled.modules done.linked.services done.linked.root).imports

-- The program's type is the linked plan's.
abbrev pub BuildIsTyped : Type 0
BuildIsTyped =
    (layout : Layout) (files : Files) (objects old new : Option Files) (b : Build) (plans : List SeenPlan) (weight : ℕ) (net : Netlist)
    (compiled : AllWritten files objects b.instances.items plans) (done : IsPlansDone layout old new b plans weight net)
    → IsTyped (program_along compiled.modules done.linked.services done.linked.root) done.whole.outcome

abbrev pub BuildHasWeight : Type 0
BuildHasWeight =
    (layout : Layout) (files : Files) (objects old new : Option Files) (b : Build) (plans : List SeenPlan) (weight : ℕ) (net : Netlist)
    (compiled : AllWritten files objects b.instances.items plans) (done : IsPlansDone layout old new b plans weight net)
    → weight ≡ link_weight (map program_of compiled.modules)

-- The circuit has at most 128 cells for each unit of the weight, and 128.
abbrev pub BuildIsSmall : Type 0
BuildIsSmall =
    (layout : Layout) (files : Files) (objects old new : Option Files) (b : Build) (plans : List SeenPlan) (weight : ℕ) (net : Netlist)
    → AllWritten files objects b.instances.items plans → IsPlansDone layout old new b plans weight net
    → length net.cells ≤ 128 * (weight + 1)

-- The headline holds where a build is done, in whichever way the linked plan is laid out, in a store that tells its files.
abbrev pub HeadlineHolds : Type 0
HeadlineHolds =
    (layout : Layout) (old new : Files) (own : Word) (report : Report) → IsBuiltAs layout old (Some new) own report → Headline old new own
