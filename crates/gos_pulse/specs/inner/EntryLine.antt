-- How the definitions see what an entry's line writes, and where a name's dot stands.
use Rattle.std.specs.Prelude.{◌≡◌, ◌≢◌, ◌≤◌, ◌<◌, ◌+◌, ℕ, length, take, drop, slice_index}
use Rattle.gos_lex.specs.Names.{IsNameOrWord}
use Rattle.gos_lex.specs.Lines.{Word}
use Rattle.gos_pulse.specs.Entries as entries
use Rattle.gos_pulse.specs.declared.entry_line.Written.{Written}

-- what a line writes
abbrev pub said : Written → entries.Written
said w = record { at = w.at; number = w.number; name = w.name.now; value = w.value }

-- names stand before and behind this place of a word
abbrev pub HasNames : Word → ℕ → Type 0
HasNames word dot = IsNameOrWord (take dot word) × IsNameOrWord (drop (dot + 1) word)

-- the place of a word's first dot, or its length where it has none
pub record IsFirstDot (word : Word) (dot : ℕ) : Type 0 where
  pub within : dot ≤ length word
  pub before : (k : ℕ) → k < dot → slice_index word k ≢ 46
  pub found : dot < length word → slice_index word dot ≡ 46
