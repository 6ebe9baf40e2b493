-- The program of a build's linked modules, as its sources say it.
--
-- Read first: Taken; Linked and Faces of gos_link; Substituted of gos_witness. No module is compiled: what the bind lines are judged
-- by hangs on imports and results alone, so any plans that have those of the modules do.
use Rattle.std.specs.Prelude.{◌≡◌, ◌≢◌, ◌⊎◌, false, IsTrue, List, [], map, Option}
use Rattle.gos_types.specs.Types.{Type', type_of}
use Rattle.gos_syntax.specs.Modules.{SeenModule}
use Rattle.gos_model.specs.Typing.{Typed}
use Rattle.gos_model.specs.Moves.{Program}
use Rattle.gos_model.specs.Sources.{program_of}
use Rattle.gos_plan.specs.Seen.{SeenPlan}
use Rattle.gos_link.specs.Faces.{Face, faces_of}
use Rattle.gos_link.specs.Linked.{SeenLinks, AreLinks, IsOfLinks, IsUnlinked}
use Rattle.gos_link.specs.declared.build.Build.{Build}
use Rattle.gos_link.specs.declared.fault.LinkFault.TheVariants as faults
use Rattle.gos_lex.specs.Lines.{Word}
use Rattle.gos_link.specs.declared.services.Service.{Service}
use Rattle.gos_witness.specs.declared.binding.Bound.{Bound}
use Rattle.gos_witness.specs.declared.fault.ExplainFault.TheVariants as explain
use Rattle.gos_witness.specs.Ports.{imports_of}
use Rattle.gos_witness.specs.Programs as whole
use Rattle.gos_witness.specs.Programs.{SeenProgram}
use Rattle.gos_witness.specs.Substituted.{IsLinked, IsTooLargeFault, linked_program}
use Rattle.gos_command.specs.declared.status.Cause.{Cause}
use Rattle.gos_command.specs.declared.status.Cause.TheVariants as causes
use Rattle.gos_tool.specs.explained.Taken.{is_taken}

-- the imports of a module, and the type of its result
abbrev pub module_face : SeenModule → Face
module_face m = record { imports = (program_of m).imports; outcome = type_of m.result }

-- the plans have the imports and the results of these modules
abbrev pub StandFor : List SeenModule → List SeenPlan → Type 0
StandFor ms ps = faces_of ps ≡ map module_face ms

-- what the bind lines mean for these modules, and which is the root
abbrev pub AreLinksOf : Build → List SeenModule → SeenLinks → Type 0
AreLinksOf b ms links = (ps : List SeenPlan) × StandFor ms ps × AreLinks b ps links

-- a service by its numbers
abbrev pub bound_of : Service → Bound
bound_of s = record { user = s.user; import = s.import; giver = s.giver }

abbrev pub binds_along : SeenLinks → List Bound
binds_along links = map bound_of links.services

-- the program of the linked modules
abbrev pub program_along : List SeenModule → SeenLinks → Program
program_along ms links = linked_program ms (binds_along links) links.root

-- the modules are linked so, and this is their program, with its ports
pub record IsLinkedAs (b : Build) (ms : List SeenModule) (ls : SeenLinks) (p : SeenProgram) : Type 0 where
  pub links : AreLinksOf b ms ls
  pub program : IsLinked ms (binds_along ls) ls.root b.root p

-- A program is typed under the imports that its ports are of. That of linked modules is, since each of them is accepted.
abbrev pub IsTypedProgram : SeenProgram → Type 0
IsTypedProgram p = (t : Type') × Typed (imports_of p.ports) [] (whole.program_of p).body t

-- Why the build file is rejected for its modules: the first reason for which they can't be linked, but for their weight and their size
-- as a circuit; or, where they can, that a file is to be written which the build names; or else that their program has more than
-- 1,000,000 nodes.
abbrev pub IsLinksCause : Build → List SeenModule → Cause → Type 0
IsLinksCause b ms (causes.Link fault) =
    (fault ≢ faults.NoMemory) × IsOfLinks fault × (ps : List SeenPlan) × StandFor ms ps × IsUnlinked b ps fault
IsLinksCause b ms cause = ⊥

abbrev pub IsSizeCause : Build → List SeenModule → Cause → Type 0
IsSizeCause b ms (causes.Explain fault) =
    (fault ≢ explain.NoMemory) × (links : SeenLinks) × AreLinksOf b ms links × IsTooLargeFault (program_along ms links) fault
IsSizeCause b ms cause = ⊥

abbrev pub IsTakenCause : Build → Option Word → List SeenModule → Cause → Type 0
IsTakenCause b written ms cause =
    (cause ≡ causes.Explain explain.Taken) × IsTrue (is_taken b written) × (links : SeenLinks) × AreLinksOf b ms links

abbrev pub IsProgramCause : Build → Option Word → List SeenModule → Cause → Type 0
IsProgramCause b written ms cause = IsTakenCause b written ms cause ⊎ ((is_taken b written ≡ false) × IsSizeCause b ms cause)

abbrev pub IsModulesCause : Build → Option Word → List SeenModule → Cause → Type 0
IsModulesCause b written ms (causes.Link fault) = IsLinksCause b ms (causes.Link fault)
IsModulesCause b written ms cause = IsProgramCause b written ms cause
