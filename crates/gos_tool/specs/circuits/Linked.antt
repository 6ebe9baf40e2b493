-- The command `link BUILD`.
--
-- Read first: BuildFile of gos_link; Objects, Plans; Linked and Modules of gos_linked (the substituted program). `old` and `new` are
-- the files of the store before and after. A file that the store doesn't hold counts as empty.
use Rattle.std.specs.Prelude.{◌≡◌, ◌⊎◌, ℕ, List, [], ◌∷◌, Option, IfSome}
use Rattle.gos_outside.specs.Files.{Files, bytes_at}
use Rattle.gos_outside.specs.OtherFiles.{OthersSame}
use Rattle.gos_outside.specs.Faults.{LastFault, ReadFault}
use Rattle.gos_lex.specs.Lines.{Word}
use Rattle.gos_netlist.specs.Nets.{Netlist}
use Rattle.gos_model.specs.Linking.{Instances}
use Rattle.gos_pace.specs.Pace.{KeepsPaceAlways}
use Rattle.gos_plan.specs.Plans.{Plan}
use Rattle.gos_plan.specs.Seen.{SeenPlan}
use Rattle.gos_link.specs.BuildFile.{IsBuildFile, IsFirstWrong}
use Rattle.gos_link.specs.Linked.{plans_of, IsLinked}
use Rattle.gos_link.specs.declared.build.Build.{Build}
use Rattle.gos_link.specs.declared.fault.LinkFault.TheVariants as faults
use Rattle.gos_linked.specs.linked.Linked.{linked_program}
use Rattle.gos_linked.specs.linked.Modules.{AreModules}
use Rattle.gos_command.specs.declared.report.Report.{Report}
use Rattle.gos_command.specs.declared.report.Report.TheVariants as reports
use Rattle.gos_command.specs.declared.status.Cause.{Cause}
use Rattle.gos_command.specs.declared.status.Cause.TheVariants as causes
use Rattle.gos_command.specs.declared.status.Fault.{Fault}
use Rattle.gos_tool.specs.Calls.{ReadsAs}
use Rattle.gos_tool.specs.Causes.{IsFileFault}
use Rattle.gos_tool.specs.declared.circuits.layout.Layout.TheVariants.{Few}
use Rattle.gos_tool.specs.circuits.Objects.{HoldPlans, RejectsObject, IsObjectCall}
use Rattle.gos_tool.specs.circuits.Plans.{IsWritten, IsPlansCause, IsWriteCall, IsWriteCutShort}

-- what the build file says
abbrev pub SaysBuild : Files → Word → Build → Type 0
SaysBuild files own b = IsBuildFile (bytes_at files own) own b

-- The object files of the instances hold plans, and this one is their joining along the bound handshakes.
pub record IsWhole (old : Option Files) (b : Build) (whole : Plan) : Type 0 where
  pub plans : List SeenPlan
  pub held : IfSome old (λ files. HoldPlans files b.instances.items plans)
  pub linked : IsLinked b plans whole

-- Where each plan is that of a module with one of these programs, the netlist keeps pace with the substituted program.
abbrev pub KeepsPaceOfWhole : (old : Option Files) (b : Build) (whole : Plan) → IsWhole old b whole → Netlist → Type 0
KeepsPaceOfWhole old b whole w net =
    (programs : Instances) → AreModules (plans_of w.plans) programs
    → KeepsPaceAlways whole.weight (linked_program b w.plans whole w.linked programs) net

-- all this is so for the plans that the object files hold, and for what the build file says; the report has the weight
pub record IsLinkDone (old new : Option Files) (own : Word) (report : Report) : Type 0 where
  pub build : Build
  pub whole : Plan
  pub net : Netlist
  pub says : IfSome old (λ files. SaysBuild files own build)
  pub linked : IsWhole old build whole
  pub written : IsWritten Few old new build whole net
  pub pace : KeepsPaceOfWhole old build whole linked net
  pub tells : report ≡ reports.Weight whole.weight

-- Why the build file is rejected: its first wrong line; or the first reason for which the plans that the object files hold
-- can't be linked.
abbrev pub IsFormCause : List ℕ → Word → Cause → Type 0
IsFormCause text own (causes.Link (faults.Form line)) = IsFirstWrong text own line
IsFormCause text own cause = ⊥

abbrev pub IsLinkCause : Files → Build → Cause → Type 0
IsLinkCause files b cause = (plans : List SeenPlan) × HoldPlans files b.instances.items plans × IsPlansCause b plans cause

-- The first file that is rejected: an object file, or the build file for what it binds; before these the build file for its
-- form.
abbrev pub RejectsWhole : Files → Word → Build → Fault → List ℕ → Type 0
RejectsWhole files own b fault line = RejectsObject files b.instances.items fault line ⊎ IsFileFault own (IsLinkCause files b) fault line

abbrev pub RejectsLink : Files → Word → Fault → List ℕ → Type 0
RejectsLink files own fault line =
    IsFileFault own (IsFormCause (bytes_at files own) own) fault line
    ⊎ ((b : Build) × SaysBuild files own b × RejectsWhole files own b fault line)

-- The calls of the store, each where what is judged before it is right, with what was written before it: those after the
-- build file is read, then all. A file whose write fails may hold anything.
abbrev pub IsWholeCall : Option Files → Option Files → Build → LastFault → Type 0
IsWholeCall old new b fault =
    (IsObjectCall old b.instances.items fault × (new ≡ old)) ⊎ ((whole : Plan) × IsWhole old b whole × IsWriteCall Few old new b whole fault)

abbrev pub IsLinkCall : Option Files → Option Files → Word → LastFault → Type 0
IsLinkCall old new own fault =
    ((fault ≡ ReadFault own) × (new ≡ old)) ⊎ ((b : Build) × ReadsAs old own b × IsWholeCall old new b fault)

-- what it leaves where memory runs out: the files before, or these with the netlist of a circuit of the plan written
abbrev pub IsWholeCutShort : Option Files → Option Files → Build → Type 0
IsWholeCutShort old new b = (new ≡ old) ⊎ ((whole : Plan) × IsWhole old b whole × IsWriteCutShort Few old new b whole)

abbrev pub IsLinkCutShort : Option Files → Option Files → Word → Type 0
IsLinkCutShort old new own = (new ≡ old) ⊎ ((b : Build) × IfSome old (λ files. SaysBuild files own b) × IsWholeCutShort old new b)

-- All files are as they were, or the build file says b, and all but the netlist and the Verilog text are that b names. What it says
-- is one build (`IsOneBuild` of gos_link), so that b is any that it says.
abbrev pub KeepsUnnamed : Word → Option Files → Option Files → Type 0
KeepsUnnamed own old new =
    (new ≡ old) ⊎ ((b : Build) × IfSome old (λ files. SaysBuild files own b) × OthersSame (b.net ∷ b.verilog ∷ []) old new)
