-- The lines of a netlist's text and their parts, as the reader passes them. Each ends with a byte of its own, so none begins
-- another.
--
-- Read first: NetItems, NetFaults. Between the reader and its lemmas.
use Rattle.std.specs.Prelude.{◌≡◌, ℕ, zero, suc, List, [], ◌∷◌, ◌++◌, length, codes}
use Rattle.std.specs.List.{AllByRecursion, flat_map}
use Rattle.std.specs.Fmt.{decimal}
use Rattle.gos_types.specs.Types.{Type'}
use Rattle.gos_types.specs.TypeText.{type_text}
use Rattle.gos_lex.specs.Items.{Misses}
use Rattle.gos_lex.specs.Names.{IsNameOrWord}
use Rattle.gos_netlist.specs.declared.word.GateWord.{GateWord}
use Rattle.gos_netlist.specs.declared.word.GateWord.TheVariants as gates
use Rattle.gos_netlist.specs.declared.word.TypeWord.{TypeWord}
use Rattle.gos_netlist.specs.declared.word.TypeWord.TheVariants as types
use Rattle.gos_netlist.specs.declared.fault.NetTextFault.{NetTextFault}
use Rattle.gos_netlist.specs.declared.fault.NetTextFault.TheVariants as faults
use Rattle.gos_netlist.specs.Nets.{Function, Input, Const, Not, And, Or, Xor, Mux, Add, Sub, Eq, Less, Gate, Reg, Cell, Side, NetPort}
use Rattle.gos_netlist.specs.NetText.{operands, cell_text, port_text, side_word}
use Rattle.gos_netlist.specs.Writable.{IsNumber, OperandsFit, IsWritableCell, IsPortType, IsWritablePort}
use Rattle.gos_netlist.specs.Events.{net_count}
use Rattle.gos_lex.specs.ItemTexts.{IsAbove, IsTextOf, ended, IsNumberText}

-- no item of this kind stands at the place, and what begins like one breaks off where the fault says
abbrev pub BreaksOff : (List ℕ → Type 0) → List ℕ → ℕ → NetTextFault → Type 0
BreaksOff IsItem text at (faults.Form place) = Misses IsItem text at place
BreaksOff IsItem text at (faults.Limit place) = ⊥
BreaksOff IsItem text at faults.NoMemory = Unit {0}

-- a name and a space
abbrev pub IsNameText : List ℕ → Type 0
IsNameText = IsTextOf (List ℕ) IsNameOrWord (ended 32)

-- the byte behind a number: a space before others, and else a line feed
abbrev pub end_before : List ℕ → ℕ
end_before [] = 10
end_before (n ∷ ns) = 32

-- the same, by how many others there are
abbrev pub end_with : ℕ → ℕ
end_with zero = 10
end_with (suc left) = 32

-- numbers with a space between each two and a line feed behind the last
abbrev pub numbers_text : List ℕ → List ℕ
numbers_text [] = []
numbers_text (n ∷ ns) = ended (end_before ns) (decimal n) ++ numbers_text ns

-- so many nets
abbrev pub AreNets : ℕ → List ℕ → Type 0
AreNets k ns = (length ns ≡ k) × AllByRecursion IsNumber ns

abbrev pub IsNetsText : ℕ → List ℕ → Type 0
IsNetsText k = IsTextOf (List ℕ) (AreNets k) numbers_text

-- the word of a cell's line, and how it is written
abbrev pub gate_text : GateWord → List ℕ
gate_text gates.Input = codes "input"
gate_text gates.Const = codes "const"
gate_text gates.Not = codes "not"
gate_text gates.And = codes "and"
gate_text gates.Or = codes "or"
gate_text gates.Xor = codes "xor"
gate_text gates.Mux = codes "mux"
gate_text gates.Add = codes "add"
gate_text gates.Sub = codes "sub"
gate_text gates.Eq = codes "eq"
gate_text gates.Less = codes "less"
gate_text gates.Gate = codes "gate"
gate_text gates.Reg = codes "reg"

abbrev pub IsGateText : List ℕ → Type 0
IsGateText = IsTextOf GateWord (λ _. Unit {0}) (λ word. ended 32 (gate_text word))

-- the word of a function
abbrev pub word_for : Function → GateWord
word_for Input = gates.Input
word_for (Const k) = gates.Const
word_for (Not a) = gates.Not
word_for (And a b) = gates.And
word_for (Or a b) = gates.Or
word_for (Xor a b) = gates.Xor
word_for (Mux s a b) = gates.Mux
word_for (Add a b) = gates.Add
word_for (Sub a b) = gates.Sub
word_for (Eq a b) = gates.Eq
word_for (Less a b) = gates.Less
word_for (Gate s a) = gates.Gate
word_for (Reg a) = gates.Reg

-- how many nets a function with this word names
abbrev pub pin_count : GateWord → ℕ
pin_count gates.Input = 0
pin_count gates.Const = 0
pin_count gates.Not = 1
pin_count gates.And = 2
pin_count gates.Or = 2
pin_count gates.Xor = 2
pin_count gates.Mux = 3
pin_count gates.Add = 2
pin_count gates.Sub = 2
pin_count gates.Eq = 2
pin_count gates.Less = 2
pin_count gates.Gate = 2
pin_count gates.Reg = 1

-- the byte behind the width of a cell with this word
abbrev pub width_end : GateWord → ℕ
width_end gates.Input = 10
width_end word = 32

-- the operands of a function with this word, for a cell of w bits
abbrev pub HasWord : GateWord → ℕ → Function → Type 0
HasWord word w f = (word_for f ≡ word) × OperandsFit w f

abbrev pub IsOperandsText : GateWord → ℕ → List ℕ → Type 0
IsOperandsText word w = IsTextOf Function (HasWord word w) (λ f. numbers_text (operands f))

-- the line of a cell
abbrev pub IsCellText : List ℕ → Type 0
IsCellText = IsTextOf Cell IsWritableCell cell_text

-- so many of these, and their texts one behind the other
abbrev pub AreSo : (V : Type 0) → (V → Type 0) → ℕ → List V → Type 0
AreSo V Is k vs = (length vs ≡ k) × AllByRecursion Is vs

abbrev pub IsLinesText : (V : Type 0) → (V → Type 0) → (V → List ℕ) → ℕ → List ℕ → Type 0
IsLinesText V Is text k = IsTextOf (List V) (AreSo V Is k) (flat_map text)

-- a side and a space
abbrev pub IsSideText : List ℕ → Type 0
IsSideText = IsTextOf Side (λ _. Unit {0}) (λ side. ended 32 (side_word side))

-- the word of a type
abbrev pub type_word : TypeWord → List ℕ
type_word types.Com = codes "com"
type_word types.Exp = codes "exp"
type_word types.Var = codes "var"

abbrev pub IsTypeWordText : List ℕ → Type 0
IsTypeWordText = IsTextOf TypeWord (λ _. Unit {0}) (λ word. ended 32 (type_word word))

-- the type of a port and a space
abbrev pub IsTypeText : List ℕ → Type 0
IsTypeText = IsTextOf Type' IsPortType (λ t. ended 32 (type_text t))

-- a type, a space and its nets
abbrev pub tail_text : Type' → List ℕ → List ℕ
tail_text t ns = ended 32 (type_text t) ++ numbers_text ns

abbrev pub IsTailText : List ℕ → Type 0
IsTailText = IsTextOf (Type' × List ℕ) (λ v. IsPortType v.0 × AreNets (net_count v.0) v.1) (λ v. tail_text v.0 v.1)

-- the line of a port
abbrev pub IsPortText : List ℕ → Type 0
IsPortText = IsTextOf NetPort IsWritablePort port_text

-- why no count stands at a place
abbrev pub CountFault : ℕ → List ℕ → ℕ → NetTextFault → Type 0
CountFault limit text at (faults.Form place) = Misses (IsNumberText 0 4294967295 10) text at place × (IsAbove limit text at → ⊥)
CountFault limit text at (faults.Limit place) = (place ≡ at) × IsAbove limit text at
CountFault limit text at faults.NoMemory = Unit {0}

-- a count in a line, and so many lines
abbrev pub section_text : (V : Type 0) → (V → List ℕ) → List V → List ℕ
section_text V text vs = ended 10 (decimal (length vs)) ++ flat_map text vs

abbrev pub AreCounted : (V : Type 0) → (V → Type 0) → List V → Type 0
AreCounted V Is vs = IsNumber (length vs) × AllByRecursion Is vs

abbrev pub IsSectionText : (V : Type 0) → (V → Type 0) → (V → List ℕ) → List ℕ → Type 0
IsSectionText V Is text = IsTextOf (List V) (AreCounted V Is) (section_text V text)

-- why no section stands at a place
abbrev pub SectionFault : (List ℕ → Type 0) → ℕ → List ℕ → ℕ → NetTextFault → Type 0
SectionFault IsSection limit text at (faults.Form place) = Misses IsSection text at place × (IsAbove limit text at → ⊥)
SectionFault IsSection limit text at (faults.Limit place) = (place ≡ at) × IsAbove limit text at
SectionFault IsSection limit text at faults.NoMemory = Unit {0}
