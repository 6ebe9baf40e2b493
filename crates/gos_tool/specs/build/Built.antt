-- The command `build BUILD`: what it leaves, why it rejects a file, and which calls it makes.
--
-- Read first: Objects, Programs; Plans of circuits (linking, and the circuit of the whole); Pace of gos_pace; Simulation of
-- simulate (its run under the pulse file). `old` and `new` are the files of the store before and after, `files` those
-- before where it tells them, `layout` the way in which the linked plan is laid out. The pulse file is read after all but the
-- trace is written, and no file that is written is one that is read.
use Rattle.std.specs.Prelude.{◌≡◌, ◌⊎◌, ◌++◌, ◌+◌, ◌*◌, ◌≤◌, ℕ, List, [], ◌∷◌, length, map, Option, Some, IfSome}
use Rattle.gos_outside.specs.Files.{Files, bytes_at}
use Rattle.gos_outside.specs.OtherFiles.{OthersSame}
use Rattle.gos_outside.specs.Faults.{LastFault, ReadFault}
use Rattle.gos_lex.specs.Lines.{Word}
use Rattle.gos_netlist.specs.Nets.{Netlist}
use Rattle.gos_model.specs.Sources.{program_of}
use Rattle.gos_model.specs.Linking.{link_weight}
use Rattle.gos_pace.specs.Pace.{KeepsPaceAlways}
use Rattle.gos_plan.specs.Seen.{SeenPlan}
use Rattle.gos_realises.specs.realises.Modules.{RealisesModule}
use Rattle.gos_link.specs.declared.build.Build.{Build}
use Rattle.gos_command.specs.declared.report.Counts.{Counts}
use Rattle.gos_command.specs.declared.report.Report.{Report}
use Rattle.gos_command.specs.declared.report.Report.TheVariants as reports
use Rattle.gos_command.specs.declared.status.Fault.{Fault}
use Rattle.gos_tool.specs.Calls.{ReadsAs}
use Rattle.gos_tool.specs.Causes.{IsFileFault}
use Rattle.gos_tool.specs.declared.circuits.layout.Layout.{Layout}
use Rattle.gos_tool.specs.declared.circuits.layout.Layout.TheVariants.{Few}
use Rattle.gos_tool.specs.circuits.Plans.{IsPlansDone, IsPlansCause, IsPlansCall, IsPlansCutShort}
use Rattle.gos_tool.specs.circuits.Linked.{SaysBuild, IsFormCause}
use Rattle.gos_tool.specs.simulate.Simulation.{LeavesTrace, IsPulseFault, IsSimulationCall}
use Rattle.gos_tool.specs.build.Programs.{program_along, IsTyped}
use Rattle.gos_tool.specs.build.Objects.{objects_of, AllWritten, SomeWritten, RejectsModule, IsModuleCall}

-- The plans are linked and a circuit of the whole was written, and then the trace of this very circuit. The report has the
-- weight of the whole and the numbers of the run.
pub record IsPlansBuilt (layout : Layout) (old new : Option Files) (b : Build) (plans : List SeenPlan) (report : Report) : Type 0 where
  pub net : Netlist
  pub weight : ℕ
  pub between : Option Files
  pub counts : Counts
  pub written : IsPlansDone layout old between b plans weight net
  pub traced : LeavesTrace between new net b.pulses b.trace counts
  pub tells : report ≡ reports.Build weight counts

-- The build file says a build; the source of each instance says a module that is accepted, and the object file of the instance was
-- written with the text of its plan; and all this is so for these plans. The linked plan realises the program of the linked modules. The
-- circuit has the imports of this program as its ports, besides the root's, which has the program's type, and keeps pace with it. Its
-- weight is that of the modules, and it has few cells for it.
pub record IsBuiltAs (layout : Layout) (files : Files) (new : Option Files) (own : Word) (report : Report) : Type 0 where
  pub build : Build
  pub plans : List SeenPlan
  pub objects : Option Files
  pub says : SaysBuild files own build
  pub compiled : AllWritten files objects build.instances.items plans
  pub built : IsPlansBuilt layout objects new build plans report
  pub realises : RealisesModule built.written.whole (program_along compiled.modules built.written.linked.services built.written.linked.root).body
  pub pace : KeepsPaceAlways built.weight (program_along compiled.modules built.written.linked.services built.written.linked.root) built.net
  pub imports : built.written.whole.imports ≡ (program_along compiled.modules built.written.linked.services built.written.linked.root).imports
  pub typed : IsTyped (program_along compiled.modules built.written.linked.services built.written.linked.root) built.written.whole.outcome
  pub weighs : built.weight ≡ link_weight (map program_of compiled.modules)
  pub few : length built.net.cells ≤ 128 * (built.weight + 1)

-- the pulse file is rejected for the circuit of the plans, which was written
pub record RejectsPulses (layout : Layout) (old new : Option Files) (b : Build) (plans : List SeenPlan) (fault : Fault) (line : List ℕ) : Type 0 where
  pub net : Netlist
  pub weight : ℕ
  pub written : IsPlansDone layout old new b plans weight net
  pub why : IfSome new (λ all. IsPulseFault all net b.pulses fault line)

-- The first file that is rejected, once the plans are there: the build file for what it binds, or the pulse file. Before these
-- a source, with the objects written of those before it; before all the build file for its form.
abbrev pub RejectsPlans : Layout → Option Files → Option Files → Word → Build → List SeenPlan → Fault → List ℕ → Type 0
RejectsPlans layout old new own b plans fault line =
    (IsFileFault own (IsPlansCause b plans) fault line × (new ≡ old)) ⊎ RejectsPulses layout old new b plans fault line

abbrev pub RejectsInstances : Layout → Files → Option Files → Word → Build → Fault → List ℕ → Type 0
RejectsInstances layout files new own b fault line =
    RejectsModule files new b.instances.items fault line
    ⊎ ((plans : List SeenPlan) × (objects : Option Files) × AllWritten files objects b.instances.items plans
    × RejectsPlans layout objects new own b plans fault line)

abbrev pub RejectsBuildAs : Layout → Files → Option Files → Word → Fault → List ℕ → Type 0
RejectsBuildAs layout files new own fault line =
    (IsFileFault own (IsFormCause (bytes_at files own) own) fault line × (new ≡ Some files))
    ⊎ ((b : Build) × SaysBuild files own b × RejectsInstances layout files new own b fault line)

-- The calls of the store, each where what is judged before it is right, with what was written before it: those once the plans
-- are there, those after the build file is read, and all.
abbrev pub IsPlansBuildCall : Layout → Option Files → Option Files → Build → List SeenPlan → LastFault → Type 0
IsPlansBuildCall layout old new b plans fault =
    IsPlansCall layout old new b plans fault
    ⊎ ((net : Netlist) × (weight : ℕ) × (between : Option Files) × IsPlansDone layout old between b plans weight net
    × IsSimulationCall between new net b.pulses b.trace fault)

abbrev pub IsInstancesCall : Layout → Option Files → Option Files → Build → LastFault → Type 0
IsInstancesCall layout old new b fault =
    IsModuleCall old new b.instances.items fault
    ⊎ ((plans : List SeenPlan) × (objects : Option Files) × IfSome old (λ files. AllWritten files objects b.instances.items plans)
    × IsPlansBuildCall layout objects new b plans fault)

abbrev pub IsBuildCallAs : Layout → Option Files → Option Files → Word → LastFault → Type 0
IsBuildCallAs layout old new own fault =
    ((fault ≡ ReadFault own) × (new ≡ old)) ⊎ ((b : Build) × ReadsAs old own b × IsInstancesCall layout old new b fault)

-- what is left where memory runs out: some of the objects, or all; or these, and the netlist of a circuit of the linked plan; or
-- its Verilog text too
abbrev pub IsPlansBuildCutShort : Layout → Option Files → Option Files → Build → List SeenPlan → Type 0
IsPlansBuildCutShort layout old new b plans =
    IsPlansCutShort layout old new b plans ⊎ ((net : Netlist) × (weight : ℕ) × IsPlansDone layout old new b plans weight net)

abbrev pub IsInstancesCutShort : Layout → Files → Option Files → Build → Type 0
IsInstancesCutShort layout files new b =
    SomeWritten files new b.instances.items
    ⊎ ((plans : List SeenPlan) × (objects : Option Files) × AllWritten files objects b.instances.items plans
    × IsPlansBuildCutShort layout objects new b plans)

abbrev pub IsBuildCutShortAs : Layout → Files → Option Files → Word → Type 0
IsBuildCutShortAs layout files new own = (new ≡ Some files) ⊎ ((b : Build) × SaysBuild files own b × IsInstancesCutShort layout files new b)

-- What `build` says is so of circuits with few registers.
abbrev pub IsBuilt : Files → Option Files → Word → Report → Type 0
IsBuilt files new own report = IsBuiltAs Few files new own report

abbrev pub RejectsBuild : Files → Option Files → Word → Fault → List ℕ → Type 0
RejectsBuild files new own fault line = RejectsBuildAs Few files new own fault line

abbrev pub IsBuildCall : Option Files → Option Files → Word → LastFault → Type 0
IsBuildCall old new own fault = IsBuildCallAs Few old new own fault

abbrev pub IsBuildCutShort : Files → Option Files → Word → Type 0
IsBuildCutShort files new own = IsBuildCutShortAs Few files new own

-- the files that a build writes
abbrev pub written_by : Build → List Word
written_by b = objects_of b.instances.items ++ (b.net ∷ b.verilog ∷ b.trace ∷ [])

-- All files are as they were, or the build file says b, and all but those that b names to be written are. What it says is one
-- build (`IsOneBuild` of gos_link), so that b is any that it says.
abbrev pub KeepsUnnamed : Word → Option Files → Option Files → Type 0
KeepsUnnamed own old new = (new ≡ old) ⊎ ((b : Build) × IfSome old (λ files. SaysBuild files own b) × OthersSame (written_by b) old new)
