-- What each cell of an accepted netlist keeps: its pins are nets, and widths are right.
--
-- Read first: Nets of gos_netlist; Rules.
use Rattle.std.specs.Prelude.{◌≡◌, ℕ, ◌^◌, ◌<◌, ◌≤◌, List, length, map, get_or}
use Rattle.std.specs.List.{AllByRecursion}
use Rattle.gos_types.specs.declared.widths.TheConstants.{GREATEST_WIDTH}
use Rattle.gos_netlist.specs.Nets.{Function, Input, Const, Not, And, Or, Xor, Mux, Add, Sub, Eq, Less, Gate, Reg, Cell, pins}
use Rattle.gos_netcheck.specs.Rules.{Kept, IsFirstToBreak}

-- each net that the cell names is one of so many
abbrev pub PinsExist : ℕ → Cell → Type 0
PinsExist count c = AllByRecursion (λ a. a < count) (pins c.gate)

-- the bits of a net; 0 where there is no such net
abbrev pub width_at : List ℕ → ℕ → ℕ
width_at widths a = get_or widths a 0

abbrev pub widths_of : List Cell → List ℕ
widths_of cells = map (λ c. c.width) cells

-- The nets that a function names have the widths that a cell of w bits wants. A selector has one bit, both sides of a
-- comparison have equal widths and its cell has one bit, and all others have the cell's width. A constant has w bits.
abbrev pub OperandsFit : List ℕ → ℕ → Function → Type 0
OperandsFit ws w Input = Unit {0}
OperandsFit ws w (Const k) = k < 2 ^ w
OperandsFit ws w (Not a) = width_at ws a ≡ w
OperandsFit ws w (And a b) = (width_at ws a ≡ w) × (width_at ws b ≡ w)
OperandsFit ws w (Or a b) = (width_at ws a ≡ w) × (width_at ws b ≡ w)
OperandsFit ws w (Xor a b) = (width_at ws a ≡ w) × (width_at ws b ≡ w)
OperandsFit ws w (Mux s a b) = (width_at ws s ≡ 1) × (width_at ws a ≡ w) × (width_at ws b ≡ w)
OperandsFit ws w (Add a b) = (width_at ws a ≡ w) × (width_at ws b ≡ w)
OperandsFit ws w (Sub a b) = (width_at ws a ≡ w) × (width_at ws b ≡ w)
OperandsFit ws w (Eq a b) = (width_at ws a ≡ width_at ws b) × (w ≡ 1)
OperandsFit ws w (Less a b) = (width_at ws a ≡ width_at ws b) × (w ≡ 1)
OperandsFit ws w (Gate s a) = (width_at ws s ≡ 1) × (width_at ws a ≡ w)
OperandsFit ws w (Reg a) = width_at ws a ≡ w

-- the bits of a cell are a width, and its operands fit
abbrev pub HasRightWidths : List ℕ → Cell → Type 0
HasRightWidths ws c = (1 ≤ c.width) × (c.width ≤ GREATEST_WIDTH) × OperandsFit ws c.width c.gate

-- both as rules for all cells
abbrev pub NetsExist : List Cell → Type 0
NetsExist cells = Kept (λ _ c. PinsExist (length cells) c) cells

abbrev pub WidthsFit : List Cell → Type 0
WidthsFit cells = Kept (λ _ c. HasRightWidths (widths_of cells) c) cells

-- the first cell that names a net that isn't there
abbrev pub IsFirstWithoutNet : List Cell → ℕ → Type 0
IsFirstWithoutNet cells n = IsFirstToBreak (λ _ c. PinsExist (length cells) c) cells n

-- the first cell with a wrong width
abbrev pub IsFirstOfWrongWidth : List Cell → ℕ → Type 0
IsFirstOfWrongWidth cells n = IsFirstToBreak (λ _ c. HasRightWidths (widths_of cells) c) cells n
