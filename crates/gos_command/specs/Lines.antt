-- The lines that commands print.
--
-- A fault's line is the file's name, a colon, a space and what is wrong there; a letter with a number tells the fault. Places
-- count bytes from 0, lines count from 1 but those of moves.
use Rattle.std.specs.Prelude.{◌≡◌, ℕ, List, [], ◌∷◌, ◌++◌, codes, map, Option, Some, None}
use Rattle.std.specs.Fmt.{decimal}
use Rattle.gos_lex.specs.declared.fault.LexFault.{LexFault}
use Rattle.gos_lex.specs.declared.fault.LexFault.TheVariants as lex
use Rattle.gos_syntax.specs.declared.fault.SyntaxFault.{SyntaxFault}
use Rattle.gos_syntax.specs.declared.fault.SyntaxFault.TheVariants as syntax
use Rattle.gos_lex.specs.declared.token.Span.{Span}
use Rattle.gos_types.specs.Types.{type_of}
use Rattle.gos_types.specs.TypeText.{type_text}
use Rattle.gos_check.specs.declared.fault.Want.{Want}
use Rattle.gos_check.specs.declared.fault.Want.TheVariants as wants
use Rattle.gos_check.specs.declared.fault.CheckFault.{CheckFault}
use Rattle.gos_check.specs.declared.fault.CheckFault.TheVariants as check
use Rattle.gos_plan.specs.declared.fault.ObjectFault.{ObjectFault}
use Rattle.gos_plan.specs.declared.fault.ObjectFault.TheVariants as object
use Rattle.gos_link.specs.declared.fault.LinkFault.{LinkFault}
use Rattle.gos_link.specs.declared.fault.LinkFault.TheVariants as link
use Rattle.gos_netlist.specs.declared.fault.NetTextFault.{NetTextFault}
use Rattle.gos_netlist.specs.declared.fault.NetTextFault.TheVariants as text
use Rattle.gos_netlist.specs.Nets.{Netlist}
use Rattle.gos_netlist.specs.NetText.{spaced}
use Rattle.gos_netlist.specs.Seen.{number_of}
use Rattle.gos_netcheck.specs.declared.fault.NetFault.{NetFault}
use Rattle.gos_netcheck.specs.declared.fault.NetFault.TheVariants as net
use Rattle.gos_lex.specs.Lines.{Word}
use Rattle.gos_pulse.specs.EventNames.{name_of_number}
use Rattle.gos_pulse.specs.declared.fault.PulseFault.{PulseFault}
use Rattle.gos_pulse.specs.declared.fault.PulseFault.TheVariants as pulse
use Rattle.gos_gates.specs.declared.fault.GateFault.{GateFault}
use Rattle.gos_gates.specs.declared.fault.GateFault.TheVariants as gates
use Rattle.gos_witness.specs.declared.fault.ExplainFault.{ExplainFault}
use Rattle.gos_witness.specs.declared.fault.ExplainFault.TheVariants as explain
use Rattle.gos_command.specs.declared.status.Cause.{Cause}
use Rattle.gos_command.specs.declared.status.Cause.TheVariants as causes
use Rattle.gos_command.specs.declared.status.Fault.{Fault}
use Rattle.gos_command.specs.declared.report.Counts.{Counts}
use Rattle.gos_command.specs.declared.report.Report.{Report}
use Rattle.gos_command.specs.declared.report.Report.TheVariants as reports

-- a word and a number
abbrev pub counted : List ℕ → ℕ → List ℕ
counted word n = word ++ decimal n

abbrev pub lex_text : LexFault → List ℕ
lex_text (lex.TooLong len) = counted (codes "L1 length ") len
lex_text (lex.Byte at) = counted (codes "L2 byte at ") at
lex_text (lex.Number at) = counted (codes "L3 number at ") at
lex_text (lex.Name at) = counted (codes "L4 name at ") at
lex_text lex.NoMemory = []

abbrev pub syntax_text : SyntaxFault → List ℕ
syntax_text (syntax.Unexpected at) = counted (codes "S1 at ") at
syntax_text (syntax.Depth at) = counted (codes "S2 depth at ") at
syntax_text (syntax.TooManyImports at) = counted (codes "S3 imports at ") at
syntax_text syntax.NoMemory = []

-- a place in a text: from a byte to the one behind its last
abbrev pub span_text : Span → List ℕ
span_text span = decimal span.from ++ codes ".." ++ decimal span.to

-- what is wanted: a type, or one of a class
abbrev pub want_text : Want → List ℕ
want_text (wants.Just ty) = type_text (type_of ty)
want_text wants.AnyExp = codes "any exp"
want_text wants.AnyVar = codes "any var"
want_text wants.ComOrExp = codes "com or exp"

-- a name with two places
abbrev pub twice_text : List ℕ → List ℕ → Span → Span → List ℕ
twice_text word name first second = word ++ name ++ codes " at " ++ span_text first ++ codes " and " ++ span_text second

-- a place with the type that is there
abbrev pub got_text : List ℕ → Span → List ℕ → List ℕ
got_text word span ty = word ++ span_text span ++ codes " got " ++ ty

abbrev pub check_text : CheckFault → List ℕ
check_text (check.Unbound name span) = codes "C1 " ++ name ++ codes " at " ++ span_text span
check_text (check.Differs span want got) =
    codes "C2 at " ++ span_text span ++ codes " want " ++ want_text want ++ codes " got " ++ type_text (type_of got)
check_text (check.NotFunction span got) = got_text (codes "C3 at ") span (type_text (type_of got))
check_text (check.NotPair span got) = got_text (codes "C4 at ") span (type_text (type_of got))
check_text (check.Shared name first second) = twice_text (codes "C5 ") name first second
check_text (check.Width span width value) =
    codes "C6 at " ++ span_text span ++ counted (codes " width ") width ++ counted (codes " value ") value
check_text (check.TypeTooLarge span handshakes) = codes "C7 at " ++ span_text span ++ counted (codes " handshakes ") handshakes
check_text (check.Repeated name first second) = twice_text (codes "C8 ") name first second
check_text (check.TooHeavy weight) = counted (codes "C9 weight ") weight
check_text (check.Length span length) = codes "C10 at " ++ span_text span ++ counted (codes " length ") length
check_text check.NoMemory = []

abbrev pub object_text : ObjectFault → List ℕ
object_text (object.Form at) = counted (codes "O1 at ") at
object_text (object.Joint index) = counted (codes "O2 joint ") index
object_text (object.Limit at) = counted (codes "O3 limit at ") at
object_text object.NoMemory = []

-- a line of a build file with a name, and two lines
abbrev pub named_text : List ℕ → ℕ → Word → List ℕ
named_text word line name = counted word line ++ codes " " ++ name

abbrev pub lines_text : List ℕ → ℕ → ℕ → List ℕ
lines_text word first second = counted word first ++ counted (codes " and ") second

abbrev pub link_text : LinkFault → List ℕ
link_text (link.Form line) = counted (codes "B1 line ") line
link_text (link.NoInstance line name) = named_text (codes "B2 line ") line name
link_text (link.NoImport line name) = named_text (codes "B3 line ") line name
link_text (link.TypeDiffers line want got) =
    counted (codes "B4 line ") line ++ codes " want " ++ type_text (type_of want) ++ codes " got " ++ type_text (type_of got)
link_text (link.BoundTwice first second) = lines_text (codes "B5 lines ") first second
link_text (link.UsedTwice first second) = lines_text (codes "B6 lines ") first second
link_text (link.Loop line) = counted (codes "B7 line ") line
link_text (link.Unplaced name) = codes "B8 " ++ name
link_text (link.OpenTwice name first second) = codes "B9 " ++ name ++ codes " in " ++ first ++ codes " and " ++ second
link_text (link.NotGround name) = codes "B10 " ++ name
link_text (link.TooHeavy weight) = counted (codes "B11 weight ") weight
link_text (link.TooLarge size ports) = counted (codes "B12 size ") size ++ counted (codes " ports ") ports
link_text link.NoMemory = []

abbrev pub net_text : NetTextFault → List ℕ
net_text (text.Form at) = counted (codes "N1 at ") at
net_text (text.Limit at) = counted (codes "N2 limit at ") at
net_text text.NoMemory = []

-- a cycle is told with all its nets
abbrev pub refusal_text : NetFault → List ℕ
refusal_text (net.Cycle nets) = codes "K1 cycle" ++ spaced (map number_of nets.items)
refusal_text (net.Width cell) = counted (codes "K2 cell ") cell
refusal_text (net.NoSuchNet cell) = counted (codes "K3 cell ") cell
refusal_text (net.Port index) = counted (codes "K4 port ") index
refusal_text net.NoMemory = []

-- the name of an event of this netlist, where there is one
abbrev pub event_name : Option Netlist → ℕ → Word
event_name None n = []
event_name (Some net) n = name_of_number net n

-- the event of an entry that breaks the protocol is told by its name in this netlist
abbrev pub pulse_text : Option Netlist → PulseFault → List ℕ
pulse_text of (pulse.Form line) = counted (codes "P1 line ") line
pulse_text of (pulse.NoPort line) = counted (codes "P2 line ") line
pulse_text of (pulse.Value line) = counted (codes "P3 line ") line
pulse_text of (pulse.Limit line) = counted (codes "P4 line ") line
pulse_text of (pulse.Broken cycle event) = codes "P5 " ++ event_name of event ++ counted (codes " at cycle ") cycle
pulse_text of pulse.NoMemory = []

abbrev pub gates_text : GateFault → List ℕ
gates_text (gates.TooLarge bits) = counted (codes "G1 bits ") bits
gates_text gates.NoMemory = []

-- lines of moves and labels count from 0
abbrev pub explain_text : ExplainFault → List ℕ
explain_text (explain.Form at) = counted (codes "M1 at ") at
explain_text (explain.Wrong line) = counted (codes "M2 line ") line
explain_text (explain.Labels matched) = counted (codes "M3 labels ") matched
explain_text (explain.Nodes nodes) = counted (codes "M4 nodes ") nodes
explain_text (explain.NotTrace label) = counted (codes "M5 label ") label
explain_text (explain.Spent label) = counted (codes "M6 label ") label
explain_text explain.Taken = codes "M7"
explain_text explain.NoMemory = []

abbrev pub cause_text : Option Netlist → Cause → List ℕ
cause_text of (causes.Lex fault) = lex_text fault
cause_text of (causes.Syntax fault) = syntax_text fault
cause_text of (causes.Check fault) = check_text fault
cause_text of (causes.Object fault) = object_text fault
cause_text of (causes.Link fault) = link_text fault
cause_text of (causes.Net fault) = net_text fault
cause_text of (causes.Refused fault) = refusal_text fault
cause_text of (causes.Pulse fault) = pulse_text of fault
cause_text of (causes.Gates fault) = gates_text fault
cause_text of (causes.Explain fault) = explain_text fault

-- the line of a fault, whose events are those of this netlist
abbrev pub fault_line : Option Netlist → Fault → List ℕ
fault_line of fault = fault.file ++ codes ": " ++ cause_text of fault.cause ++ 10 ∷ []

-- the line is one of this fault, whose event, if it tells one, is named in some netlist
abbrev pub IsLineOf : Fault → List ℕ → Type 0
IsLineOf fault line = (of : Option Netlist) × (line ≡ fault_line of fault)

abbrev pub run_text : Counts → List ℕ
run_text run =
    counted (codes " cycles ") run.cycles ++ counted (codes " pulses ") run.pulses ++ counted (codes " unused ") run.unused

-- what a command that is done tells
abbrev pub report_text : Report → List ℕ
report_text (reports.Weight weight) = counted (codes "ok weight ") weight
report_text (reports.Run run) = codes "ok" ++ run_text run
report_text (reports.Build weight run) = counted (codes "ok weight ") weight ++ run_text run
report_text (reports.Cells before after) = counted (codes "ok cells ") before ++ counted (codes " to ") after
report_text (reports.Gates counts) =
    counted (codes "ok inputs ") counts.inputs ++ counted (codes " latches ") counts.latches
    ++ counted (codes " outputs ") counts.outputs ++ counted (codes " ands ") counts.ands
report_text (reports.Explained lines labels) = counted (codes "ok lines ") lines ++ counted (codes " labels ") labels

-- its line
abbrev pub report_line : Report → List ℕ
report_line report = report_text report ++ 10 ∷ []
