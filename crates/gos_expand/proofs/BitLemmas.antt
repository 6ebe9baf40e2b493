-- A net of one bit shows 0 or 1 in each cycle of a run whose inputs are in range.
--
-- Read first: CellRules of gos_netcheck; DepthLemmas. A gate of one bit has pins of one bit, or compares; and depths rise
-- along gates.
use Rattle.std.proofs.Common.{◌≡◌, ◌+◌, ◌-◌, ◌^◌, ◌<◌, ◌≤◌, ℕ, zero, suc, Bool, true, false, List, [], ◌∷◌, slice_get, Some, Contains, refl, sym, subst, ◌∙◌, arith, if◌then◌else◌, nat_eq}
use Rattle.std.specs.Prelude.{bit_and, bit_or, bit_xor, nat_lt, ◌%◌}
use Rattle.std.proofs.Math.Nat.{mod-lt}
use Rattle.gos_netlist.specs.Nets.{Function, Input, Const, Not, And, Or, Xor, Mux, Add, Sub, Eq, Less, Gate, Reg, Cell, pins}
use Rattle.gos_netlist.specs.Settling.{Numbers, at, shown, next_of, next_registers, Settling}
use Rattle.gos_netlist.specs.Cycles.{IsRegister, HasCycle}
use Rattle.gos_netcheck.specs.CellRules.{width_at, widths_of, OperandsFit, WidthsFit}
use Rattle.gos_expand.proofs.DepthLemmas.{depth_of, depths_rise}
use Rattle.gos_expand.proofs.RegisterLemmas.{next_at}

-- the nets of one bit have 0 or 1
abbrev pub AreBits : List Cell → Numbers → Type 0
AreBits cells v = (n : ℕ) (c : Cell) → slice_get cells n ≡ Some c → c.width ≡ 1 → at v n ≤ 1

-- of two bits, gates make one
and_bit : (x y : ℕ) → x ≤ 1 → y ≤ 1 → bit_and x y ≤ 1
and_bit zero zero f g = omega arith
and_bit zero (suc zero) f g = omega arith
and_bit (suc zero) zero f g = omega arith
and_bit (suc zero) (suc zero) f g = omega arith
and_bit (suc (suc x)) y f g = absurd (omega (arith, f))
and_bit x (suc (suc y)) f g = absurd (omega (arith, g))

or_bit : (x y : ℕ) → x ≤ 1 → y ≤ 1 → bit_or x y ≤ 1
or_bit zero zero f g = omega arith
or_bit zero (suc zero) f g = omega arith
or_bit (suc zero) zero f g = omega arith
or_bit (suc zero) (suc zero) f g = omega arith
or_bit (suc (suc x)) y f g = absurd (omega (arith, f))
or_bit x (suc (suc y)) f g = absurd (omega (arith, g))

xor_bit : (x y : ℕ) → x ≤ 1 → y ≤ 1 → bit_xor x y ≤ 1
xor_bit zero zero f g = omega arith
xor_bit zero (suc zero) f g = omega arith
xor_bit (suc zero) zero f g = omega arith
xor_bit (suc zero) (suc zero) f g = omega arith
xor_bit (suc (suc x)) y f g = absurd (omega (arith, f))
xor_bit x (suc (suc y)) f g = absurd (omega (arith, g))

one_of : (b : Bool) (x y : ℕ) → x ≤ 1 → y ≤ 1 → (if b then x else y) ≤ 1
one_of true x y f g = f
one_of false x y f g = g

rest_bit : (w x : ℕ) → w ≡ 1 → x % 2 ^ w ≤ 1
rest_bit w x one =
    subst (λ (k : ℕ). x % 2 ^ k ≤ 1) (sym one) (let less : x % 2 < 2 = mod-lt x (omega arith) in omega (arith, less))

inverse_bit : (w x : ℕ) → w ≡ 1 → 2 ^ w - 1 - x ≤ 1
inverse_bit w x one = subst (λ (k : ℕ). 2 ^ k - 1 - x ≤ 1) (sym one) (omega arith)

pin_first : (a : ℕ) (ns : List ℕ) → Contains (a ∷ ns) a
pin_first a ns = (0, omega arith, refl)

pin_second : (a b : ℕ) (ns : List ℕ) → Contains (a ∷ b ∷ ns) b
pin_second a b ns = (1, omega arith, refl)

pin_third : (a b c : ℕ) → Contains (a ∷ b ∷ c ∷ []) c
pin_third a b c = (2, omega arith, refl)

-- a cell of one bit shows one, where its register, its input and its pins of one bit are
abbrev PinsAreBits : List ℕ → Function → (ℕ → ℕ) → Type 0
PinsAreBits ws g v = (a : ℕ) → (IsRegister g → ⊥) → Contains (pins g) a → width_at ws a ≡ 1 → v a ≤ 1

bit_shown : (ws : List ℕ) (w r i : ℕ) (g : Function) (v : ℕ → ℕ) → w ≡ 1 → OperandsFit ws w g → r ≤ 1 → (g ≡ Input → i ≤ 1) → PinsAreBits ws g v
    → shown w g r i v ≤ 1
bit_shown ws w r i Input v one fit held given each = given refl
bit_shown ws w r i (Const k) v one fit held given each =
    let small : k < 2 ^ 1 = subst (λ (m : ℕ). k < 2 ^ m) one fit in omega (arith, small)
bit_shown ws w r i (Not a) v one fit held given each = inverse_bit w (v a) one
bit_shown ws w r i (And a b) v one fit held given each =
    and_bit (v a) (v b) (each a (λ is. cc is.1) (pin_first a (b ∷ [])) (fit.0 ∙ one)) (each b (λ is. cc is.1) (pin_second a b []) (fit.1 ∙ one))
bit_shown ws w r i (Or a b) v one fit held given each =
    or_bit (v a) (v b) (each a (λ is. cc is.1) (pin_first a (b ∷ [])) (fit.0 ∙ one)) (each b (λ is. cc is.1) (pin_second a b []) (fit.1 ∙ one))
bit_shown ws w r i (Xor a b) v one fit held given each =
    xor_bit (v a) (v b) (each a (λ is. cc is.1) (pin_first a (b ∷ [])) (fit.0 ∙ one)) (each b (λ is. cc is.1) (pin_second a b []) (fit.1 ∙ one))
bit_shown ws w r i (Mux s a b) v one fit held given each =
    one_of (nat_eq (v s) 1) (v a) (v b) (each a (λ is. cc is.1) (pin_second s a (b ∷ [])) (fit.1 ∙ one))
    (each b (λ is. cc is.1) (pin_third s a b) (fit.2 ∙ one))
bit_shown ws w r i (Add a b) v one fit held given each = rest_bit w (v a + v b) one
bit_shown ws w r i (Sub a b) v one fit held given each = rest_bit w (v a + 2 ^ w - v b) one
bit_shown ws w r i (Eq a b) v one fit held given each = one_of (nat_eq (v a) (v b)) 1 0 (omega arith) (omega arith)
bit_shown ws w r i (Less a b) v one fit held given each = one_of (nat_lt (v a) (v b)) 1 0 (omega arith) (omega arith)
bit_shown ws w r i (Gate s a) v one fit held given each =
    one_of (nat_eq (v s) 1) (v a) 0 (each a (λ is. cc is.1) (pin_second s a []) (fit.1 ∙ one)) (omega arith)
bit_shown ws w r i (Reg a) v one fit held given each = held

-- a net of one bit is that of a cell
cell_at : (cells : List Cell) (a : ℕ) → width_at (widths_of cells) a ≡ 1 → (c : Cell) × (slice_get cells a ≡ Some c) × (c.width ≡ 1)
cell_at [] a wide = absurd (grind (arith, wide))
cell_at (c ∷ cells) zero wide = (c, refl, wide)
cell_at (c ∷ cells) (suc a) wide = cell_at cells a wide

-- the next register of a cell of one bit has a bit
bit_next : (ws : List ℕ) (w : ℕ) (g : Function) (v : Numbers) → w ≡ 1 → OperandsFit ws w g → ((a : ℕ) → width_at ws a ≡ 1 → at v a ≤ 1) → next_of g v ≤ 1
bit_next ws w (Reg a) v one fit each = each a (fit ∙ one)
bit_next ws w Input v one fit each = omega arith
bit_next ws w (Const k) v one fit each = omega arith
bit_next ws w (Not a) v one fit each = omega arith
bit_next ws w (And a b) v one fit each = omega arith
bit_next ws w (Or a b) v one fit each = omega arith
bit_next ws w (Xor a b) v one fit each = omega arith
bit_next ws w (Mux s a b) v one fit each = omega arith
bit_next ws w (Add a b) v one fit each = omega arith
bit_next ws w (Sub a b) v one fit each = omega arith
bit_next ws w (Eq a b) v one fit each = omega arith
bit_next ws w (Less a b) v one fit each = omega arith
bit_next ws w (Gate s a) v one fit each = omega arith

module _ (cells : List Cell) (acyclic : HasCycle cells → ⊥) (fits : WidthsFit cells) (regs ins v : Numbers) (settles : Settling cells regs ins v)
    (held : AreBits cells regs) (given : (n : ℕ) (c : Cell) → slice_get cells n ≡ Some c → c.gate ≡ Input → at ins n < 2 ^ c.width) where
  -- nets of lower depth first
  bits_below : (d n : ℕ) (c : Cell) → depth_of cells n < d → slice_get cells n ≡ Some c → c.width ≡ 1 → at v n ≤ 1
  bits_below zero n c low there one = absurd (omega (arith, low))
  bits_below (suc d) n c low there one =
      subst (λ (x : ℕ). x ≤ 1) (sym (settles.1 n c there))
      (bit_shown (widths_of cells) c.width (at regs n) (at ins n) c.gate (at v) one (fits n c there).2 (held n c there one)
      (λ is. let small : at ins n < 2 ^ 1 = subst (λ (w : ℕ). at ins n < 2 ^ w) one (given n c there is) in omega (arith, small))
      (λ a free pin wide.
      let rises = depths_rise cells acyclic a n c there free pin in
      let cell = cell_at cells a wide in
      bits_below d a cell.0 (omega (arith, low, rises)) cell.1 cell.2))

  pub bits_shown : AreBits cells v
  bits_shown n c there one = bits_below (suc (depth_of cells n)) n c (omega arith) there one

  -- and so are the next registers
  pub bits_held : AreBits cells (next_registers cells v)
  bits_held n c there one =
      subst (λ (x : ℕ). x ≤ 1) (sym (next_at cells v n c there))
      (bit_next (widths_of cells) c.width c.gate v one (fits n c there).2 (λ a wide. let cell = cell_at cells a wide in bits_shown a cell.0 cell.1 cell.2))
