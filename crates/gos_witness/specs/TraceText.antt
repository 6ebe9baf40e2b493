-- The labels of a trace's text.
--
-- A trace has a line for each label, `T PORT.EVENT` or `T PORT.EVENT VALUE`. Cycles don't fall, and the order within a
-- cycle is free. The last line says how many cycles there were, 1 to 1,000,000, and each label's cycle lies below.
use Rattle.std.specs.Prelude.{◌≡◌, ◌<◌, ◌≤◌, ◌^◌, ℕ, zero, suc, List, [], ◌∷◌, ◌++◌, codes, Option, Some, None, slice_get}
use Rattle.std.specs.Fmt.{decimal}
use Rattle.gos_types.specs.Types.{Type', Com, Exp, Var}
use Rattle.gos_netlist.specs.NetText.{line}
use Rattle.gos_netlist.specs.Seen.{ground_type}
use Rattle.gos_witness.specs.declared.labels.Label.{Label}
use Rattle.gos_witness.specs.declared.program.ProgramPort.{ProgramPort}

-- a port of this type has the event at this place, with this value; 0 stands for none
abbrev pub HasEvent : Type' → ℕ → ℕ → Type 0
HasEvent Com zero k = k ≡ 0
HasEvent Com (suc zero) k = k ≡ 0
HasEvent (Exp w) zero k = k ≡ 0
HasEvent (Exp w) (suc zero) k = k < 2 ^ w
HasEvent (Var w) zero k = k ≡ 0
HasEvent (Var w) (suc zero) k = k < 2 ^ w
HasEvent (Var w) (suc (suc zero)) k = k < 2 ^ w
HasEvent (Var w) (suc (suc (suc zero))) k = k ≡ 0
HasEvent t n k = ⊥

-- its text, with its value
abbrev pub event_text : Type' → ℕ → ℕ → List ℕ
event_text Com zero k = codes "run"
event_text Com (suc zero) k = codes "done"
event_text (Exp w) zero k = codes "ask"
event_text (Exp w) (suc zero) k = codes "ans " ++ decimal k
event_text (Var w) zero k = codes "read"
event_text (Var w) (suc zero) k = codes "ans " ++ decimal k
event_text (Var w) (suc (suc zero)) k = codes "write " ++ decimal k
event_text (Var w) (suc (suc (suc zero))) k = codes "done"
event_text t n k = []

-- the text of a label of this port
abbrev pub port_label : Option ProgramPort → Label → List ℕ
port_label None o = []
port_label (Some p) o = p.name ++ codes "." ++ event_text (ground_type p.ground) o.place o.value

-- the text of a label of these ports: PORT.EVENT, and its value
abbrev pub label_text : List ProgramPort → Label → List ℕ
label_text ports o = port_label (slice_get ports o.port) o

-- it is one of these ports
abbrev pub IsLabel : List ProgramPort → Label → Type 0
IsLabel ports o = (p : ProgramPort) × (slice_get ports o.port ≡ Some p) × HasEvent (ground_type p.ground) o.place o.value

-- the line of a label in cycle t
abbrev pub label_line : List ProgramPort → ℕ → Label → List ℕ
label_line ports t o = line (decimal t ++ codes " " ++ label_text ports o)

-- the lines of labels from cycle `from` on, of a run of n cycles, and then the last line
abbrev pub LinesText : List ProgramPort → ℕ → ℕ → List Label → List ℕ → Type 0
LinesText ports from n [] text = text ≡ line (codes "cycles " ++ decimal n)
LinesText ports from n (o ∷ labels) text =
    (t : ℕ) × (rest : List ℕ) × (from ≤ t) × (t < n) × IsLabel ports o × LinesText ports t n labels rest × (text ≡ label_line ports t o ++ rest)

-- the text of a trace with these labels, where cycles begin with `from`
abbrev pub IsTraceFrom : List ProgramPort → ℕ → List Label → List ℕ → Type 0
IsTraceFrom ports from labels text = (n : ℕ) × (from < n) × (n ≤ 1000000) × LinesText ports from n labels text

-- the text of a trace with these labels
abbrev pub IsTraceTextOf : List ProgramPort → List ℕ → List Label → Type 0
IsTraceTextOf ports text labels = IsTraceFrom ports 0 labels text

-- the text of a trace
abbrev pub IsTraceText : List ProgramPort → List ℕ → Type 0
IsTraceText ports text = (labels : List Label) × IsTraceTextOf ports text labels
