-- What is left of a trace's text while it is read.
--
-- Read first: Left, TraceText. Between the reader and its lemmas.
use Rattle.std.specs.Prelude.{◌≡◌, ◌<◌, ◌≤◌, ◌^◌, ℕ, zero, suc, List, [], ◌∷◌, ◌++◌, map, codes, Option, Some, None, slice_get, get_or}
use Rattle.std.specs.Fmt.{decimal}
use Rattle.gos_types.specs.Types.{Type', Com, Exp, Var}
use Rattle.gos_netlist.specs.NetText.{line}
use Rattle.gos_netlist.specs.Seen.{ground_type}
use Rattle.gos_lex.specs.Names.{IsNameOrWord}
use Rattle.gos_lex.specs.ItemTexts.{IsTextOf, ended}
use Rattle.gos_witness.specs.declared.entry.Entry.{Entry}
use Rattle.gos_witness.specs.declared.entry.Entry.TheVariants.{Pulse, Last}
use Rattle.gos_witness.specs.declared.labels.Label.{Label}
use Rattle.gos_witness.specs.declared.program.ProgramPort.{ProgramPort}
use Rattle.gos_witness.specs.TraceText.{HasEvent, event_text, label_text, IsLabel, label_line, IsTraceFrom}
use Rattle.gos_witness.specs.inner.Left.{End}

-- a port's name, and the point behind it
abbrev pub dotted_name : ProgramPort → List ℕ
dotted_name p = ended 46 p.name

abbrev pub names_of : List ProgramPort → List (List ℕ)
names_of = map dotted_name

abbrev pub IsNamed : ProgramPort → Type 0
IsNamed p = IsNameOrWord p.name

-- the type of a port by its number
abbrev pub port_type : Option ProgramPort → Type'
port_type None = Com
port_type (Some p) = ground_type p.ground

abbrev pub type_at : List ProgramPort → ℕ → Type'
type_at ports k = port_type (slice_get ports k)

-- the names of the events of a type by their places, each with the byte behind it
abbrev pub event_heads : Type' → List (List ℕ)
event_heads Com = codes "run\n" ∷ codes "done\n" ∷ []
event_heads (Exp w) = codes "ask\n" ∷ codes "ans " ∷ []
event_heads (Var w) = codes "read\n" ∷ codes "ans " ∷ codes "write " ∷ codes "done\n" ∷ []
event_heads t = []

abbrev pub head_at : Type' → ℕ → List ℕ
head_at t j = get_or (event_heads t) j []

-- how many bits the value of an event has, where it has one
abbrev pub value_width : Type' → ℕ → Option ℕ
value_width (Exp w) (suc zero) = Some w
value_width (Var w) (suc zero) = Some w
value_width (Var w) (suc (suc zero)) = Some w
value_width t j = None

-- a value, and its text behind the event
abbrev pub IsValue : Option ℕ → ℕ → Type 0
IsValue None k = k ≡ 0
IsValue (Some w) k = k < 2 ^ w

abbrev pub value_text : Option ℕ → ℕ → List ℕ
value_text None k = []
value_text (Some w) k = ended 10 (decimal k)

abbrev pub IsValueText : Option ℕ → List ℕ → Type 0
IsValueText width = IsTextOf ℕ (IsValue width) (value_text width)

-- a label of these ports
abbrev pub LabelLeft : List ProgramPort → Label → List ℕ → Type 0
LabelLeft ports o bytes = IsLabel ports o × (bytes ≡ line (label_text ports o))

-- its event, behind port k
abbrev pub EventLeft : List ProgramPort → ℕ → Label → List ℕ → Type 0
EventLeft ports k o bytes =
    (o.port ≡ k) × HasEvent (type_at ports k) o.place o.value × (bytes ≡ line (event_text (type_at ports k) o.place o.value))

-- its value, behind event j of port k
abbrev pub ValueLeft : List ProgramPort → ℕ → ℕ → Label → List ℕ → Type 0
ValueLeft ports k j o bytes =
    (o.port ≡ k) × (o.place ≡ j) × IsValue (value_width (type_at ports k) j) o.value × (bytes ≡ value_text (value_width (type_at ports k) j) o.value)

-- a line, where cycles go on with `from`
abbrev pub IsEntry : List ProgramPort → ℕ → Entry → Type 0
IsEntry ports from (Pulse t o) = (from ≤ t) × (t ≤ 999999) × IsLabel ports o
IsEntry ports from (Last n) = (from < n) × (n ≤ 1000000)

abbrev pub entry_text : List ProgramPort → Entry → List ℕ
entry_text ports (Pulse t o) = label_line ports t o
entry_text ports (Last n) = line (codes "cycles " ++ decimal n)

abbrev pub IsEntryText : List ProgramPort → ℕ → List ℕ → Type 0
IsEntryText ports from = IsTextOf Entry (IsEntry ports from) (entry_text ports)

-- the line of a label, and what is left behind its cycle
abbrev pub PulseLeft : List ProgramPort → ℕ → Entry → List ℕ → Type 0
PulseLeft ports from (Pulse t o) bytes = IsEntry ports from (Pulse t o) × (bytes ≡ label_line ports t o)
PulseLeft ports from (Last n) bytes = ⊥

abbrev pub BehindCycle : List ProgramPort → ℕ → Entry → List ℕ → Type 0
BehindCycle ports t (Pulse u o) bytes = (u ≡ t) × IsLabel ports o × (bytes ≡ line (label_text ports o))
BehindCycle ports t (Last n) bytes = ⊥

-- the last line, and what is left behind its word
abbrev pub LastLeft : ℕ → Entry → List ℕ → Type 0
LastLeft from (Pulse t o) bytes = ⊥
LastLeft from (Last n) bytes = (from < n) × (n ≤ 1000000) × (bytes ≡ line (codes "cycles " ++ decimal n))

abbrev pub BehindWord : ℕ → Entry → List ℕ → Type 0
BehindWord from (Pulse t o) bytes = ⊥
BehindWord from (Last n) bytes = (from < n) × (n ≤ 1000000) × (bytes ≡ ended 10 (decimal n))

-- what is left of a trace behind these labels, where cycles go on with `from`
abbrev pub TraceLeft : List ProgramPort → ℕ → List Label → List Label → List ℕ → Type 0
TraceLeft ports from done labels bytes = (rest : List Label) × (labels ≡ done ++ rest) × IsTraceFrom ports from rest bytes

-- what is left behind one line more
abbrev pub EntryLeft : List ProgramPort → List Label → Entry → List Label → List ℕ → Type 0
EntryLeft ports done (Pulse t o) = TraceLeft ports t (done ++ o ∷ [])
EntryLeft ports done (Last n) = End (List Label) done
