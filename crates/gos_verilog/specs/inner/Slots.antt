-- Lines of words and numbers.
--
-- Read first: Runs. A slot is a word, a number of a range and the byte that ends it, which is no digit.
use Rattle.std.specs.Prelude.{◌≡◌, ℕ, ◌^◌, ◌<◌, ◌≤◌, false, List, ◌++◌}
use Rattle.std.specs.Char.{is_ascii_digit}
use Rattle.std.specs.Fmt.{decimal}
use Rattle.std.specs.List.{AllByRecursion}
use Rattle.gos_lex.specs.ItemTexts.{IsTextOf, IsInRange, ended}
use Rattle.gos_verilog.specs.inner.Runs.{Fit, run_text}

pub record Slot' : Type 0 where
  pub before : List ℕ
  pub low : ℕ
  pub high : ℕ
  pub end : ℕ

abbrev pub IsSlot : Slot' → ℕ → Type 0
IsSlot s n = IsInRange s.low s.high n

abbrev pub slot_text : Slot' → ℕ → List ℕ
slot_text s n = s.before ++ ended s.end (decimal n)

-- a range that isn't empty, of numbers of 64 bits, and no digit at its end
abbrev pub IsRightSlot : Slot' → Type 0
IsRightSlot s = (s.low ≤ s.high) × (s.high < 2 ^ 64) × (is_ascii_digit s.end ≡ false)

abbrev pub AreSlots : List Slot' → Type 0
AreSlots = AllByRecursion IsRightSlot

abbrev pub FitSlots : List Slot' → List ℕ → Type 0
FitSlots = Fit Slot' ℕ IsSlot

-- slots, and a word behind them
abbrev pub line_text : List Slot' → List ℕ → List ℕ → List ℕ
line_text slots tail ns = run_text Slot' ℕ slot_text slots ns ++ tail

abbrev pub IsLine : List Slot' → List ℕ → List ℕ → Type 0
IsLine slots tail = IsTextOf (List ℕ) (FitSlots slots) (line_text slots tail)
