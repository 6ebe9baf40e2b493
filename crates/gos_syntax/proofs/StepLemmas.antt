-- Numbers of items behind one another: one step at a time, or all at once.
use Rattle.std.proofs.Common.{◌≡◌, ℕ, ◌+◌, List, subst, arith}
use Rattle.gos_syntax.specs.Items.{Item, reading_at}
use Rattle.gos_syntax.specs.Grammar.{HasSmall}
use Rattle.gos_syntax.specs.Symbols.{Class, Fits}

pub two : (i : ℕ) → i + 2 ≡ i + 1 + 1
two i = omega arith

pub three : (i : ℕ) → i + 3 ≡ i + 1 + 1 + 1
three i = omega arith

pub four : (i : ℕ) → i + 4 ≡ i + 1 + 1 + 1 + 1
four i = omega arith

pub five : (i : ℕ) → i + 5 ≡ i + 1 + 1 + 1 + 1 + 1
five i = omega arith

pub six : (i : ℕ) → i + 6 ≡ i + 1 + 1 + 1 + 1 + 1 + 1
six i = omega arith

pub seven : (i : ℕ) → i + 7 ≡ i + 1 + 1 + 1 + 1 + 1 + 1 + 1
seven i = omega arith

pub eight : (i : ℕ) → i + 8 ≡ i + 1 + 1 + 1 + 1 + 1 + 1 + 1 + 1
eight i = omega arith

-- what an item is asked to be, at a place that is written otherwise
pub there : (items : List Item) (class : Class) (i j : ℕ) → i ≡ j → Fits (reading_at items i) class → Fits (reading_at items j) class
there items class i j e fits = subst (λ (n : ℕ). Fits (reading_at items n) class) e fits

-- a small numeral, at a place that is written otherwise
pub small_there : (items : List Item) (value i j : ℕ) → i ≡ j → HasSmall items i value → HasSmall items j value
small_there items value i j e is = subst (λ (n : ℕ). HasSmall items n value) e is
