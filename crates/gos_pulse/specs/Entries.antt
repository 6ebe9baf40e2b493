-- The lines of a pulse file: `cycles N`, and then entries.
--
-- Read first: EventNames; Lines and LineNumbers of gos_lex.
use Rattle.std.specs.Prelude.{◌≡◌, ◌≤◌, ◌<◌, ◌^◌, ℕ, zero, suc, Bool, true, false, [], ◌∷◌, Option, Some, None, codes}
use Rattle.gos_lex.specs.Names.{IsNameOrWord}
use Rattle.gos_netlist.specs.Nets.{Netlist}
use Rattle.gos_netlist.specs.declared.event.Event.{Event}
use Rattle.gos_lex.specs.Lines.{Word, Words}
use Rattle.gos_lex.specs.LineNumbers.{IsNumber}
use Rattle.gos_pulse.specs.EventNames.{dotted, IsInput}
use Rattle.gos_pulse.specs.declared.entries.Entry.{Entry}

-- `cycles N`
abbrev pub SaysCycles : Words → ℕ → Type 0
SaysCycles words n = (digits : Word) × (words ≡ codes "cycles" ∷ digits ∷ []) × IsNumber digits n

-- a run has 1 to 1,000,000 cycles
abbrev pub IsRunLength : ℕ → Type 0
IsRunLength n = (1 ≤ n) × (n ≤ 1000000)

-- what an entry's line writes: whether its number is a cycle or a distance, the number, the name of the event,
-- a value
pub record Written : Type 0 where
  pub at : Bool
  pub number : ℕ
  pub name : Word
  pub value : Option ℕ

abbrev pub keyword : Bool → Word
keyword true = codes "at"
keyword false = codes "next"

-- two names with a dot between them; words of the source language may stand as names
abbrev pub IsDotted : Word → Type 0
IsDotted name = (port : Word) × (event : Word) × (name ≡ dotted port event) × IsNameOrWord port × IsNameOrWord event

-- a last word, if there is one
abbrev pub last_word : Option Word → Words
last_word None = []
last_word (Some word) = word ∷ []

-- the word, if there is one, writes the value, if there is one
abbrev pub WritesValue : Option Word → Option ℕ → Type 0
WritesValue None None = Unit {0}
WritesValue (Some word) (Some value) = IsNumber word value
WritesValue word value = ⊥

-- `at T PORT.EVENT`, `next D PORT.EVENT`, or one of these with a value behind it
pub record SaysEntry (words : Words) (written : Written) : Type 0 where
  pub digits : Word
  pub last : Option Word
  pub line : words ≡ keyword written.at ∷ digits ∷ written.name ∷ last_word last
  pub number : IsNumber digits written.number
  pub name : IsDotted written.name
  pub value : WritesValue last written.value

-- a cycle is one of the run, and a distance is at most 1,000,000
abbrev pub IsInTime : ℕ → Bool → ℕ → Type 0
IsInTime cycles true number = number < cycles
IsInTime cycles false number = number ≤ 1000000

-- so many entries stand before this one, which is not the 100,001st, and its number is in its range
abbrev pub IsWithin : ℕ → ℕ → Written → Type 0
IsWithin cycles before written = (before < 100000) × IsInTime cycles written.at written.number

-- The value of a pulse whose event has so many bits: 0 where it has none and none is written, else the one written,
-- which has at most its bits.
abbrev pub IsValue : ℕ → Option ℕ → ℕ → Type 0
IsValue zero None value = value ≡ 0
IsValue (suc bits) (Some written) value = (value ≡ written) × (written < 2 ^ suc bits)
IsValue bits written value = ⊥

-- the words are this entry, of a file whose run has so many cycles, with so many entries before it
pub record IsEntry (net : Netlist) (cycles before : ℕ) (words : Words) (entry : Entry) : Type 0 where
  pub name : Word
  pub value : Option ℕ
  pub event : Event
  pub says : SaysEntry words (record { at = entry.at; number = entry.number; name = name; value = value })
  pub within : IsWithin cycles before (record { at = entry.at; number = entry.number; name = name; value = value })
  pub input : IsInput net entry.event event name
  pub fits : IsValue event.bits value entry.value
