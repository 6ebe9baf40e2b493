-- The command `verify BUILD MOVES`.
--
-- Read first: Sources, LinkedModules, Explained; Headline of build (`SayModules`). Nothing is written. A file that the store doesn't hold
-- counts as empty.
use Rattle.std.specs.Prelude.{◌≡◌, ◌⊎◌, ℕ, List, Option, None, IfSome}
use Rattle.gos_outside.specs.Files.{Files, bytes_at}
use Rattle.gos_outside.specs.Faults.{LastFault, ReadFault}
use Rattle.gos_lex.specs.Lines.{Word}
use Rattle.gos_syntax.specs.Modules.{SeenModule}
use Rattle.gos_link.specs.Linked.{SeenLinks}
use Rattle.gos_link.specs.declared.build.Build.{Build}
use Rattle.gos_witness.specs.Programs.{SeenProgram}
use Rattle.gos_command.specs.declared.report.Report.{Report}
use Rattle.gos_command.specs.declared.status.Fault.{Fault}
use Rattle.gos_tool.specs.Calls.{ReadsAs}
use Rattle.gos_tool.specs.Causes.{IsFileFault}
use Rattle.gos_tool.specs.circuits.Linked.{SaysBuild, IsFormCause}
use Rattle.gos_tool.specs.build.Headline.{SayModules}
use Rattle.gos_tool.specs.explained.Sources.{RejectsSource, IsSourceCall}
use Rattle.gos_tool.specs.explained.LinkedModules.{IsLinkedAs, IsModulesCause, program_along}
use Rattle.gos_tool.specs.explained.Explained.{AreExplained, RejectsTexts, HasTraceLabels, IsTextsCall}

-- the sources of a build say modules, which are linked so, and this is their program
pub record SayProgram (files : Files) (b : Build) (whole : SeenProgram) : Type 0 where
  pub modules : List SeenModule
  pub links : SeenLinks
  pub say : SayModules files b.instances.items modules
  pub linked : IsLinkedAs b modules links whole

-- All is right: the trace file's labels are a trace of the program of the linked modules, which the lines in MOVES explain. The line tells
-- how many lines and labels these are.
pub record IsVerified (files : Files) (own moves : Word) (report : Report) : Type 0 where
  pub build : Build
  pub whole : SeenProgram
  pub says : SaysBuild files own build
  pub sources : SayProgram files build whole
  pub explained : AreExplained files whole.ports (program_along sources.modules sources.links) build.trace moves report

-- The first file that is rejected, from each place on: of the build, a source, or the build file for what it links, where a file is to be
-- written or none; of the program, the trace file or MOVES; before all the build file for its form.
abbrev pub RejectsSources : Files → Word → Build → Option Word → Fault → List ℕ → Type 0
RejectsSources files own b written fault line =
    RejectsSource files b.instances.items fault line
    ⊎ ((ms : List SeenModule) × SayModules files b.instances.items ms × IsFileFault own (IsModulesCause b written ms) fault line)

abbrev pub RejectsProgram : Files → Build → Word → Fault → List ℕ → Type 0
RejectsProgram files b moves fault line =
    (whole : SeenProgram) × (s : SayProgram files b whole) × RejectsTexts files whole.ports (program_along s.modules s.links) b.trace moves fault line

abbrev pub RejectsVerify : Files → Word → Word → Fault → List ℕ → Type 0
RejectsVerify files own moves fault line =
    IsFileFault own (IsFormCause (bytes_at files own) own) fault line
    ⊎ ((b : Build) × SaysBuild files own b × (RejectsSources files own b None fault line ⊎ RejectsProgram files b moves fault line))

-- the trace file has labels by the ports of the linked modules' program
abbrev pub HasProgramLabels : Files → Build → Type 0
HasProgramLabels files b = (whole : SeenProgram) × SayProgram files b whole × HasTraceLabels files whole.ports b.trace

-- The calls of the store, each where what is judged before it is right: the build file is read, the sources, the trace file, MOVES. `old`
-- are the files where the store tells them.
abbrev pub IsProgramCall : Option Files → Build → Word → LastFault → Type 0
IsProgramCall old b moves fault =
    IfSome old (λ files. (whole : SeenProgram) × SayProgram files b whole)
    × IsTextsCall b.trace moves (IfSome old (λ files. HasProgramLabels files b)) fault

abbrev pub IsVerifyCall : Option Files → Word → Word → LastFault → Type 0
IsVerifyCall old own moves fault =
    (fault ≡ ReadFault own)
    ⊎ ((b : Build) × ReadsAs old own b × (IsSourceCall old b.instances.items fault ⊎ IsProgramCall old b moves fault))
