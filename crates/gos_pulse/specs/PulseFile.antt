-- What a pulse file says, and its first wrong line.
--
-- Read first: Entries. A line is wrong in the first of these ways: it is of no such form (`Form`), a number or the
-- count of entries leaves its range (`Limit`), the netlist has no such input event (`NoPort`), the value doesn't fit
-- the event (`Value`).
use Rattle.std.specs.Prelude.{◌≡◌, ◌≤◌, ◌<◌, ◌+◌, ◌⊎◌, ℕ, suc, List, [], ◌∷◌, Option, Some, None, length}
use Rattle.std.specs.Str.Lines.{lines}
use Rattle.gos_netlist.specs.Nets.{Netlist}
use Rattle.gos_netlist.specs.declared.event.Event.{Event}
use Rattle.gos_lex.specs.Lines.{Words, Statement, statements_of}
use Rattle.gos_pulse.specs.EventNames.{IsInput}
use Rattle.gos_pulse.specs.Entries.{SaysCycles, IsRunLength, Written, SaysEntry, IsWithin, IsValue, IsEntry}
use Rattle.gos_pulse.specs.declared.entries.Entry.{Entry}
use Rattle.gos_pulse.specs.declared.fault.PulseFault.{PulseFault}
use Rattle.gos_pulse.specs.declared.fault.PulseFault.TheVariants as faults

-- the line at this number is the one that the fault names
abbrev pub Names : ℕ → PulseFault → Type 0
Names n (faults.Form line) = line ≡ n
Names n (faults.Limit line) = line ≡ n
Names n (faults.NoPort line) = line ≡ n
Names n (faults.Value line) = line ≡ n
Names n fault = ⊥

-- the first statement is wrong in this way
abbrev pub IsWrongHead : Words → PulseFault → Type 0
IsWrongHead words (faults.Form line) = (n : ℕ) → SaysCycles words n → ⊥
IsWrongHead words (faults.Limit line) = (n : ℕ) × SaysCycles words n × (IsRunLength n → ⊥)
IsWrongHead words fault = ⊥

-- a later statement is wrong in this way and in none before it
abbrev pub IsWrongEntry : Netlist → ℕ → ℕ → Words → PulseFault → Type 0
IsWrongEntry net cycles before words (faults.Form line) = (written : Written) → SaysEntry words written → ⊥
IsWrongEntry net cycles before words (faults.Limit line) =
    (written : Written) × SaysEntry words written × (IsWithin cycles before written → ⊥)
IsWrongEntry net cycles before words (faults.NoPort line) =
    (written : Written) × SaysEntry words written × IsWithin cycles before written
    × ((i : ℕ) (event : Event) → IsInput net i event written.name → ⊥)
IsWrongEntry net cycles before words (faults.Value line) =
    (written : Written) × SaysEntry words written × IsWithin cycles before written
    × (i : ℕ) × (event : Event) × IsInput net i event written.name
    × ((value : ℕ) → IsValue event.bits written.value value → ⊥)
IsWrongEntry net cycles before words fault = ⊥

-- With so many entries before them, the statements are these entries, and then end or have their first wrong line.
abbrev pub ReadsEntries : Netlist → ℕ → ℕ → List Statement → List Entry → Option PulseFault → Type 0
ReadsEntries net cycles before [] [] ending = ending ≡ None
ReadsEntries net cycles before [] (entry ∷ entries) ending = ⊥
ReadsEntries net cycles before (s ∷ rest) [] None = ⊥
ReadsEntries net cycles before (s ∷ rest) [] (Some fault) = Names s.line fault × IsWrongEntry net cycles before s.words fault
ReadsEntries net cycles before (s ∷ rest) (entry ∷ entries) ending =
    IsEntry net cycles before s.words entry × ReadsEntries net cycles (suc before) rest entries ending

-- the statements are `cycles N` and these entries
abbrev pub SaysPulses : Netlist → List Statement → ℕ → List Entry → Type 0
SaysPulses net [] cycles entries = ⊥
SaysPulses net (head ∷ rest) cycles entries =
    SaysCycles head.words cycles × IsRunLength cycles × ReadsEntries net cycles 0 rest entries None

-- the text of a pulse file for this netlist: its cycles and entries
pub record IsPulseFile (net : Netlist) (text : List ℕ) (cycles : ℕ) (entries : List Entry) : Type 0 where
  pub short : length text ≤ 16777216
  pub says : SaysPulses net (statements_of text) cycles entries

-- The first wrong line of these statements, of a text with so many lines. Without a statement it is the line
-- after them.
abbrev pub HasFirstWrong : Netlist → List Statement → ℕ → PulseFault → Type 0
HasFirstWrong net [] count fault = fault ≡ faults.Form (count + 1)
HasFirstWrong net (head ∷ rest) count fault =
    (Names head.line fault × IsWrongHead head.words fault)
    ⊎ ((cycles : ℕ) × (entries : List Entry) × SaysCycles head.words cycles × IsRunLength cycles
    × ReadsEntries net cycles 0 rest entries (Some fault))

-- why a text is refused, if not for want of memory: it is too long, or it has a first wrong line
abbrev pub IsRefused : Netlist → List ℕ → PulseFault → Type 0
IsRefused net text fault =
    ((16777216 < length text) × (fault ≡ faults.Limit 0))
    ⊎ ((length text ≤ 16777216) × HasFirstWrong net (statements_of text) (length (lines text)) fault)
