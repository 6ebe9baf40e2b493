-- The trace that `build` writes is read as the labels of its run, and they are what `verify` then explains. Laws of these definitions, for
-- all files.
--
-- Read first: Verified; Built of build; Agreement; Traced of gos_pulse; TraceText of gos_witness.
use Rattle.std.specs.Prelude.{◌≡◌, List, [], ◌∷◌, ◌++◌, Some, map}
use Rattle.gos_outside.specs.Files.{Files, bytes_at}
use Rattle.gos_lex.specs.Lines.{Word}
use Rattle.gos_netlist.specs.Nets.{Netlist}
use Rattle.gos_netlist.specs.Settling.{Numbers}
use Rattle.gos_model.specs.Labels as shown
use Rattle.gos_model.specs.Typing.{Imported}
use Rattle.gos_pace.specs.Flattening.{outputs, inputs}
use Rattle.gos_link.specs.Linked.{SeenLinks}
use Rattle.gos_witness.specs.declared.labels.Label.{Label}
use Rattle.gos_witness.specs.declared.program.ProgramPort.{ProgramPort}
use Rattle.gos_witness.specs.Ports.{ArePorts, imported, labels_of}
use Rattle.gos_witness.specs.Substituted.{root_port}
use Rattle.gos_witness.specs.TraceText.{IsTraceTextOf}
use Rattle.gos_command.specs.declared.report.Report.{Report}
use Rattle.gos_tool.specs.Calls.{source_calls}
use Rattle.gos_tool.specs.Agreement.{AgreeOnBuild}
use Rattle.gos_tool.specs.build.Built.{IsBuilt}
use Rattle.gos_tool.specs.explained.LinkedModules.{program_along}
use Rattle.gos_tool.specs.explained.Verified.{IsVerified}

-- the labels of a run: of each cycle its outputs, and then its inputs
abbrev pub run_labels : Netlist → List Numbers → List shown.Label
run_labels net [] = []
run_labels net (v ∷ vs) = (outputs net v ++ inputs net v) ++ run_labels net vs

-- what the bind lines mean of a build that was done, and its root
abbrev pub links_of : (files new : Files) (own : Word) (report : Report) → IsBuilt files (Some new) own report → SeenLinks
links_of files new own report built =
    record { services = built.built.written.linked.services; root = built.built.written.linked.root }

-- the names and types of the ports of its program: the root's, and those of the open imports
abbrev pub port_faces : (files new : Files) (own : Word) (report : Report) → IsBuilt files (Some new) own report → List Imported
port_faces files new own report built =
    root_port built.compiled.modules (links_of files new own report built).root built.build.root
    ∷ (program_along built.compiled.modules (links_of files new own report built)).imports

-- Of such ports the trace file holds the text of a trace, and its labels are those of its run.
abbrev pub BuiltTraceIsRead : Type 0
BuiltTraceIsRead =
    (files new : Files) (own : Word) (report : Report) (built : IsBuilt files (Some new) own report) (ports : List ProgramPort)
    → ArePorts ports → map imported ports ≡ port_faces files new own report built
    → (labels : List Label) × IsTraceTextOf ports (bytes_at new built.build.trace) labels
    × (labels_of ports labels ≡ run_labels built.built.net built.built.traced.traced.run)

-- Where `verify` is over files with the same build file and sources, and with the trace that the build left, the labels that the moves
-- explain are those of the run.
abbrev pub VerifiesTheRun : Type 0
VerifiesTheRun =
    (files new all : Files) (own moves : Word) (report told : Report) (built : IsBuilt files (Some new) own report) (verified : IsVerified all own moves told)
    → AgreeOnBuild own (λ b. source_calls b.instances.items) files all
    → bytes_at new built.build.trace ≡ bytes_at all built.build.trace
    → labels_of verified.whole.ports verified.explained.labels ≡ run_labels built.built.net built.built.traced.traced.run
