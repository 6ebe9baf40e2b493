-- In a run whose inputs are in range each net has at most the bits of its cell.
--
-- Read first: CellRules of gos_netcheck; GroundLemmas. A gate of which all pins are narrow shows a narrow number, so behind a
-- wide net stands a wide pin, and it is no register.
use Rattle.std.proofs.Common.{◌≡◌, ◌⊎◌, inl, inr, ◌+◌, ◌-◌, ◌^◌, ◌<◌, ◌≤◌, ℕ, zero, suc, Bool, true, false, List, [], ◌∷◌, length, replicate, slice_get, Some, Contains, refl, sym, ap, subst, arith, if◌then◌else◌, nat_eq, pow_pos}
use Rattle.std.specs.Prelude.{nat_lt}
use Rattle.std.proofs.Math.Nat.{mod-lt}
use Rattle.std.proofs.lemmas.Nat.{and_le_l, or_lt, xor_lt}
use Rattle.gos_netlist.specs.Nets.{Function, Input, Const, Not, And, Or, Xor, Mux, Add, Sub, Eq, Less, Gate, Reg, Cell, pins}
use Rattle.gos_netlist.specs.Settling.{Numbers, at, shown, next_of, next_registers, Settling}
use Rattle.gos_netlist.specs.Cycles.{IsRegister, Feeds, HasCycle}
use Rattle.gos_netcheck.specs.CellRules.{width_at, widths_of, OperandsFit, WidthsFit}
use Rattle.gos_tidy.proofs.GroundLemmas.{ungrounded}

pub pin_first : (a : ℕ) (ns : List ℕ) → Contains (a ∷ ns) a
pin_first a ns = (0, omega arith, refl)

pub pin_second : (a b : ℕ) (ns : List ℕ) → Contains (a ∷ b ∷ ns) b
pin_second a b ns = (1, omega arith, refl)

pub pin_third : (a b c : ℕ) → Contains (a ∷ b ∷ c ∷ []) c
pin_third a b c = (2, omega arith, refl)

one_of : (b : Bool) (x y k : ℕ) → x < k → y < k → (if b then x else y) < k
one_of true x y k f g = f
one_of false x y k f g = g

pub of_width : (v k w : ℕ) → v < 2 ^ k → k ≡ w → v < 2 ^ w
of_width v k w low same = subst (λ (m : ℕ). v < 2 ^ m) same low

above_bit : (w : ℕ) → w ≡ 1 → 1 < 2 ^ w
above_bit w one = subst (λ (m : ℕ). 1 < 2 ^ m) (sym one) (omega arith)

-- what a cell shows is narrow, where its register, its input and its pins are
pub narrow_shown : (ws : List ℕ) (w r i : ℕ) (g : Function) (v : ℕ → ℕ) → OperandsFit ws w g → (IsRegister g → r < 2 ^ w) → (g ≡ Input → i < 2 ^ w)
    → ((a : ℕ) → Contains (pins g) a → (IsRegister g → ⊥) → v a < 2 ^ width_at ws a) → shown w g r i v < 2 ^ w
narrow_shown ws w r i Input v fit held given each = given refl
narrow_shown ws w r i (Const k) v fit held given each = fit
narrow_shown ws w r i (Not a) v fit held given each = let some = pow_pos w in omega (arith, some)
narrow_shown ws w r i (And a b) v fit held given each =
    let low = of_width (v a) (width_at ws a) w (each a (pin_first a (b ∷ [])) (λ is. cc is.1)) fit.0 in
    let less = and_le_l (v a) (v b) in
    omega (arith, low, less)
narrow_shown ws w r i (Or a b) v fit held given each =
    or_lt w (v a) (v b) (of_width (v a) (width_at ws a) w (each a (pin_first a (b ∷ [])) (λ is. cc is.1)) fit.0)
    (of_width (v b) (width_at ws b) w (each b (pin_second a b []) (λ is. cc is.1)) fit.1)
narrow_shown ws w r i (Xor a b) v fit held given each =
    xor_lt w (v a) (v b) (of_width (v a) (width_at ws a) w (each a (pin_first a (b ∷ [])) (λ is. cc is.1)) fit.0)
    (of_width (v b) (width_at ws b) w (each b (pin_second a b []) (λ is. cc is.1)) fit.1)
narrow_shown ws w r i (Mux s a b) v fit held given each =
    one_of (nat_eq (v s) 1) (v a) (v b) (2 ^ w) (of_width (v a) (width_at ws a) w (each a (pin_second s a (b ∷ [])) (λ is. cc is.1)) fit.1)
    (of_width (v b) (width_at ws b) w (each b (pin_third s a b) (λ is. cc is.1)) fit.2)
narrow_shown ws w r i (Add a b) v fit held given each = mod-lt (v a + v b) (pow_pos w)
narrow_shown ws w r i (Sub a b) v fit held given each = mod-lt (v a + 2 ^ w - v b) (pow_pos w)
narrow_shown ws w r i (Eq a b) v fit held given each = one_of (nat_eq (v a) (v b)) 1 0 (2 ^ w) (above_bit w fit.1) (pow_pos w)
narrow_shown ws w r i (Less a b) v fit held given each = one_of (nat_lt (v a) (v b)) 1 0 (2 ^ w) (above_bit w fit.1) (pow_pos w)
narrow_shown ws w r i (Gate s a) v fit held given each =
    one_of (nat_eq (v s) 1) (v a) 0 (2 ^ w) (of_width (v a) (width_at ws a) w (each a (pin_second s a []) (λ is. cc is.1)) fit.1) (pow_pos w)
narrow_shown ws w r i (Reg a) v fit held given each = held (a, refl)

-- each net has at most the bits of its cell, and one that isn't there has 0
abbrev pub AreNarrow : List ℕ → (ℕ → ℕ) → Type 0
AreNarrow ws v = (n : ℕ) → v n < 2 ^ width_at ws n

pub less_or : (a b : ℕ) → (a < b) ⊎ (b ≤ a)
less_or zero zero = inr (omega arith)
less_or zero (suc b) = inl (omega arith)
less_or (suc a) zero = inr (omega arith)
less_or (suc a) (suc b) = elim (less_or a b) [ inl h ↦ inl (omega (arith, h)) | inr h ↦ inr (omega (arith, h)) ]

-- all of these nets are narrow, or one of them is wide
pub narrow_or_wide : (ws : List ℕ) (v : ℕ → ℕ) (ns : List ℕ)
    → ((a : ℕ) → Contains ns a → v a < 2 ^ width_at ws a) ⊎ ((a : ℕ) × Contains ns a × (2 ^ width_at ws a ≤ v a))
narrow_or_wide ws v [] = inl (λ a has. absurd (omega (arith, has.1)))
narrow_or_wide ws v (b ∷ ns) = at_head (less_or (v b) (2 ^ width_at ws b)) (narrow_or_wide ws v ns)
  where
    both : v b < 2 ^ width_at ws b → ((a : ℕ) → Contains ns a → v a < 2 ^ width_at ws a) → (a : ℕ) → Contains (b ∷ ns) a → v a < 2 ^ width_at ws a
    both low rest a (zero, l, is) = subst (λ (n : ℕ). v n < 2 ^ width_at ws n) is low
    both low rest a (suc k, l, is) = rest a (k, omega (arith, l), is)

    at_head : (v b < 2 ^ width_at ws b) ⊎ (2 ^ width_at ws b ≤ v b)
        → ((a : ℕ) → Contains ns a → v a < 2 ^ width_at ws a) ⊎ ((a : ℕ) × Contains ns a × (2 ^ width_at ws a ≤ v a))
        → ((a : ℕ) → Contains (b ∷ ns) a → v a < 2 ^ width_at ws a) ⊎ ((a : ℕ) × Contains (b ∷ ns) a × (2 ^ width_at ws a ≤ v a))
    at_head (inr wide) rest = inr (b, pin_first b ns, wide)
    at_head (inl low) (inl rest) = inl (both low rest)
    at_head (inl low) (inr (a, (k, l, is), wide)) = inr (a, (suc k, omega (arith, l), is), wide)

-- the width of a cell that is there
pub width_is : (cells : List Cell) (n : ℕ) (c : Cell) → slice_get cells n ≡ Some c → width_at (widths_of cells) n ≡ c.width
width_is [] n c there = absurd (cc there)
width_is (x ∷ cells) zero c there = let same : x ≡ c = cc in ap (λ (y : Cell). y.width) same
width_is (x ∷ cells) (suc n) c there = width_is cells n c there

-- a net that is there, or has no bits
pub there_or_none : (cells : List Cell) (n : ℕ) → ((c : Cell) × (slice_get cells n ≡ Some c)) ⊎ ((length cells ≤ n) × (width_at (widths_of cells) n ≡ 0))
there_or_none [] n = inr (omega arith, refl)
there_or_none (c ∷ cells) zero = inl (c, refl)
there_or_none (c ∷ cells) (suc n) = elim (there_or_none cells n) [ inl h ↦ inl h | inr h ↦ inr (omega (arith, h.0), h.1) ]

-- a number behind the end is 0
pub at_past : (xs : Numbers) (n : ℕ) → length xs ≤ n → at xs n ≡ 0
at_past [] n past = refl
at_past (x ∷ xs) zero past = absurd (omega (arith, past))
at_past (x ∷ xs) (suc n) past = at_past xs n (omega (arith, past))

-- the inputs of a cycle are in range
abbrev pub GivesNarrow : List Cell → Numbers → Type 0
GivesNarrow cells ins = (n : ℕ) (c : Cell) → slice_get cells n ≡ Some c → c.gate ≡ Input → at ins n < 2 ^ c.width

module _ (cells : List Cell) (acyclic : HasCycle cells → ⊥) (fits : WidthsFit cells) (regs ins v : Numbers) (settles : Settling cells regs ins v)
    (held : AreNarrow (widths_of cells) (at regs)) (given : GivesNarrow cells ins) where
  IsWide : ℕ → Type 0
  IsWide n = 2 ^ width_at (widths_of cells) n ≤ at v n

  -- a wide net is there
  wide_there : (n : ℕ) → IsWide n → (c : Cell) × (slice_get cells n ≡ Some c)
  unfolding IsWide
  wide_there n wide = by_cell (there_or_none cells n)
    where
      by_cell : ((c : Cell) × (slice_get cells n ≡ Some c)) ⊎ ((length cells ≤ n) × (width_at (widths_of cells) n ≡ 0)) → (c : Cell) × (slice_get cells n ≡ Some c)
      by_cell (inl is) = is
      by_cell (inr (past, none)) =
          let nothing : at v n ≡ 0 = at_past v n (omega (arith, past, settles.0)) in
          absurd (let some = pow_pos (width_at (widths_of cells) n) in omega (arith, wide, nothing, some))

  shown_narrow : (n : ℕ) (c : Cell) → slice_get cells n ≡ Some c
      → ((a : ℕ) → Contains (pins c.gate) a → (IsRegister c.gate → ⊥) → at v a < 2 ^ width_at (widths_of cells) a) → at v n < 2 ^ width_at (widths_of cells) n
  shown_narrow n c there each =
      let here : at v n < 2 ^ c.width =
      subst (λ (x : ℕ). x < 2 ^ c.width) (sym (settles.1 n c there))
      (narrow_shown (widths_of cells) c.width (at regs n) (at ins n) c.gate (at v) (fits n c there).2
      (λ is. of_width (at regs n) (width_at (widths_of cells) n) c.width (held n) (width_is cells n c there)) (λ is. given n c there is) each) in
      subst (λ (m : ℕ). at v n < 2 ^ m) (sym (width_is cells n c there)) here

  -- a wide net is no register
  wide_free : (n : ℕ) (c : Cell) → slice_get cells n ≡ Some c → IsWide n → IsRegister c.gate → ⊥
  unfolding IsWide
  wide_free n c there wide is = let low = shown_narrow n c there (λ a pin free. absurd (free is)) in omega (arith, low, wide)

  wide_back : (b : ℕ) → IsWide b → (a : ℕ) × IsWide a × Feeds cells a b
  unfolding IsWide
  wide_back b wide =
      let (c, there) = wide_there b wide in
      by_pins c there (narrow_or_wide (widths_of cells) (at v) (pins c.gate))
    where
      by_pins : (c : Cell) → slice_get cells b ≡ Some c
          → ((a : ℕ) → Contains (pins c.gate) a → at v a < 2 ^ width_at (widths_of cells) a) ⊎ ((a : ℕ) × Contains (pins c.gate) a × (2 ^ width_at (widths_of cells) a ≤ at v a))
          → (a : ℕ) × IsWide a × Feeds cells a b
      by_pins c there (inl low) = absurd (let less = shown_narrow b c there (λ a pin free. low a pin) in omega (arith, less, wide))
      by_pins c there (inr (a, pin, high)) =
          let (e, is) = wide_there a high in
          (a, high, (e, c, is, there, wide_free a e is high, pin))

  pub values_are_narrow : AreNarrow (widths_of cells) (at v)
  unfolding IsWide
  values_are_narrow n = by_test (less_or (at v n) (2 ^ width_at (widths_of cells) n))
    where
      by_test : (at v n < 2 ^ width_at (widths_of cells) n) ⊎ (2 ^ width_at (widths_of cells) n ≤ at v n) → at v n < 2 ^ width_at (widths_of cells) n
      by_test (inl low) = low
      by_test (inr wide) = absurd (ungrounded cells acyclic IsWide wide_back n wide)

-- what the registers of a cell take
next_narrow : (ws : List ℕ) (w : ℕ) (g : Function) (v : Numbers) → OperandsFit ws w g → AreNarrow ws (at v) → next_of g v < 2 ^ w
next_narrow ws w (Reg a) v fit each = of_width (at v a) (width_at ws a) w (each a) fit
next_narrow ws w Input v fit each = pow_pos w
next_narrow ws w (Const k) v fit each = pow_pos w
next_narrow ws w (Not a) v fit each = pow_pos w
next_narrow ws w (And a b) v fit each = pow_pos w
next_narrow ws w (Or a b) v fit each = pow_pos w
next_narrow ws w (Xor a b) v fit each = pow_pos w
next_narrow ws w (Mux s a b) v fit each = pow_pos w
next_narrow ws w (Add a b) v fit each = pow_pos w
next_narrow ws w (Sub a b) v fit each = pow_pos w
next_narrow ws w (Eq a b) v fit each = pow_pos w
next_narrow ws w (Less a b) v fit each = pow_pos w
next_narrow ws w (Gate s a) v fit each = pow_pos w

pub next_at : (cells : List Cell) (v : Numbers) (n : ℕ) (c : Cell) → slice_get cells n ≡ Some c → at (next_registers cells v) n ≡ next_of c.gate v
next_at [] v n c there = absurd (cc there)
next_at (x ∷ cells) v zero c there = let same : x ≡ c = cc in ap (λ (y : Cell). next_of y.gate v) same
next_at (x ∷ cells) v (suc n) c there = next_at cells v n c there

next_past : (cells : List Cell) (v : Numbers) (n : ℕ) → length cells ≤ n → at (next_registers cells v) n ≡ 0
next_past [] v n past = refl
next_past (x ∷ cells) v zero past = absurd (omega (arith, past))
next_past (x ∷ cells) v (suc n) past = next_past cells v n (omega (arith, past))

-- the next registers of narrow values are narrow
pub next_are_narrow : (cells : List Cell) (v : Numbers) → WidthsFit cells → AreNarrow (widths_of cells) (at v) → AreNarrow (widths_of cells) (at (next_registers cells v))
next_are_narrow cells v fits each n = by_cell (there_or_none cells n)
  where
    by_cell : ((c : Cell) × (slice_get cells n ≡ Some c)) ⊎ ((length cells ≤ n) × (width_at (widths_of cells) n ≡ 0))
        → at (next_registers cells v) n < 2 ^ width_at (widths_of cells) n
    by_cell (inl (c, there)) =
        subst (λ (m : ℕ). at (next_registers cells v) n < 2 ^ m) (sym (width_is cells n c there))
        (subst (λ (x : ℕ). x < 2 ^ c.width) (sym (next_at cells v n c there)) (next_narrow (widths_of cells) c.width c.gate v (fits n c there).2 each))
    by_cell (inr (past, none)) =
        subst (λ (x : ℕ). x < 2 ^ width_at (widths_of cells) n) (sym (next_past cells v n past)) (pow_pos (width_at (widths_of cells) n))

pub at_zeros : (k n : ℕ) → at (replicate k 0) n ≡ 0
at_zeros zero n = refl
at_zeros (suc k) zero = refl
at_zeros (suc k) (suc n) = at_zeros k n

-- at reset all registers are narrow
pub zeros_are_narrow : (ws : List ℕ) (k : ℕ) → AreNarrow ws (at (replicate k 0))
zeros_are_narrow ws k n = subst (λ (x : ℕ). x < 2 ^ width_at ws n) (sym (at_zeros k n)) (pow_pos (width_at ws n))
