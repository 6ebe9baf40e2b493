-- In an accepted netlist a net of one bit shows a bit. One that doesn't has a pin of one bit that doesn't, so behind it
-- stands a chain as long as one likes, and in that a combinational cycle.
use Rattle.std.proofs.Common.{◌≡◌, inl, inr, ℕ, zero, suc, ◌+◌, ◌<◌, ◌≤◌, ◌⊎◌, Bool, true, false, if◌then◌else◌, List, [], ◌∷◌, length, Some, nat_eq, nat_lt, refl, arith, slice_get, Contains, bit_or, bit_xor}
use Rattle.std.specs.List.{AllByRecursion}
use Rattle.std.proofs.Math.Nat.{mod-lt}
use Rattle.std.proofs.lemmas.Bool.{cases_lt}
use Rattle.std.proofs.lemmas.Nat.{and_le_l}
use Rattle.gos_netlist.specs.Nets.{Function, Input, Const, Not, And, Or, Xor, Mux, Add, Sub, Eq, Less, Gate, Reg, Cell, pins}
use Rattle.gos_netlist.specs.Cycles.{Chain, HasCycle, IsRegister}
use Rattle.gos_netlist.specs.Settling.{Numbers, at, shown}
use Rattle.gos_netlist.proofs.RepeatLemmas.{long_chain_has_cycle}
use Rattle.gos_netcheck.specs.CellRules.{OperandsFit, WidthsFit, width_at, widths_of}
use Rattle.gos_verilog.specs.Meaning.{SelectorIsBit, is_clocked}

-- a pin of one bit that shows none
pub record BigPin (cells : List Cell) (v : Numbers) (f : Function) : Type 0 where
  pub pin : ℕ
  pub named : Contains (pins f) pin
  pub wide : width_at (widths_of cells) pin ≡ 1
  pub big : 2 ≤ at v pin

or_big : (a b : ℕ) → 2 ≤ bit_or a b → (2 ≤ a) ⊎ (2 ≤ b)
or_big (suc (suc a)) b h = inl (omega arith)
or_big zero (suc (suc b)) h = inr (omega arith)
or_big (suc zero) (suc (suc b)) h = inr (omega arith)
or_big zero zero h = absurd (omega (arith, h))
or_big zero (suc zero) h = absurd (omega (arith, h))
or_big (suc zero) zero h = absurd (omega (arith, h))
or_big (suc zero) (suc zero) h = absurd (omega (arith, h))

xor_big : (a b : ℕ) → 2 ≤ bit_xor a b → (2 ≤ a) ⊎ (2 ≤ b)
xor_big (suc (suc a)) b h = inl (omega arith)
xor_big zero (suc (suc b)) h = inr (omega arith)
xor_big (suc zero) (suc (suc b)) h = inr (omega arith)
xor_big zero zero h = absurd (omega (arith, h))
xor_big zero (suc zero) h = absurd (omega (arith, h))
xor_big (suc zero) zero h = absurd (omega (arith, h))
xor_big (suc zero) (suc zero) h = absurd (omega (arith, h))

pub pick : (t : Bool) (a b : ℕ) → 2 ≤ (if t then a else b) → (2 ≤ a) ⊎ (2 ≤ b)
pick true a b h = inl h
pick false a b h = inr h

module _ (cells : List Cell) (v : Numbers) where
  pub big_shown : (f : Function) (r i : ℕ) → OperandsFit (widths_of cells) 1 f → (is_clocked f ≡ true → r < 2) → (f ≡ Input → i < 2) → 2 ≤ shown 1 f r i (at v) → BigPin cells v f
  big_shown Input r i fit held given h = absurd (omega (arith, h, given refl))
  big_shown (Const k) r i fit held given h = absurd (omega (arith, h, fit))
  big_shown (Not a) r i fit held given h = absurd (omega (arith, h))
  big_shown (And a b) r i fit held given h = record { pin = a; named = (0, omega arith, refl); wide = fit.0; big = omega (arith, h, and_le_l (at v a) (at v b)) }
  big_shown (Or a b) r i fit held given h =
      elim (or_big (at v a) (at v b) h) [
        | inl one ↦ record { pin = a; named = (0, omega arith, refl); wide = fit.0; big = one }
        | inr other ↦ record { pin = b; named = (1, omega arith, refl); wide = fit.1; big = other }
      ]
  big_shown (Xor a b) r i fit held given h =
      elim (xor_big (at v a) (at v b) h) [
        | inl one ↦ record { pin = a; named = (0, omega arith, refl); wide = fit.0; big = one }
        | inr other ↦ record { pin = b; named = (1, omega arith, refl); wide = fit.1; big = other }
      ]
  big_shown (Mux s a b) r i fit held given h =
      elim (pick (nat_eq (at v s) 1) (at v a) (at v b) h) [
        | inl one ↦ record { pin = a; named = (1, omega arith, refl); wide = fit.1; big = one }
        | inr other ↦ record { pin = b; named = (2, omega arith, refl); wide = fit.2; big = other }
      ]
  big_shown (Add a b) r i fit held given h = absurd (omega (arith, h, mod-lt (at v a + at v b) {m = 2} (omega arith)))
  big_shown (Sub a b) r i fit held given h = absurd (omega (arith, h))
  big_shown (Eq a b) r i fit held given h = elim (pick (nat_eq (at v a) (at v b)) 1 0 h) [ inl one ↦ absurd (omega (arith, one)) | inr other ↦ absurd (omega (arith, other)) ]
  big_shown (Less a b) r i fit held given h = elim (pick (nat_lt (at v a) (at v b)) 1 0 h) [ inl one ↦ absurd (omega (arith, one)) | inr other ↦ absurd (omega (arith, other)) ]
  big_shown (Gate s a) r i fit held given h =
      elim (pick (nat_eq (at v s) 1) (at v a) 0 h) [
        | inl one ↦ record { pin = a; named = (1, omega arith, refl); wide = fit.1; big = one }
        | inr other ↦ absurd (omega (arith, other))
      ]
  big_shown (Reg a) r i fit held given h = absurd (omega (arith, h, held refl))

-- a net of one bit is there
pub cell_there : (cells : List Cell) (p : ℕ) → width_at (widths_of cells) p ≡ 1 → (d : Cell) × (slice_get cells p ≡ Some d) × (d.width ≡ 1)
cell_there [] p wide = absurd (omega (arith, wide))
cell_there (c ∷ cells) zero wide = (c, refl, wide)
cell_there (c ∷ cells) (suc p) wide = cell_there cells p wide

-- a net that is no bit is no register, and has a pin that is none
abbrev pub GrowsBig : List Cell → Numbers → Type 0
GrowsBig cells v = (n : ℕ) (c : Cell) → slice_get cells n ≡ Some c → c.width ≡ 1 → 2 ≤ at v n → (IsRegister c.gate → ⊥) × BigPin cells v c.gate

module _ (cells : List Cell) (v : Numbers) (acyclic : HasCycle cells → ⊥) (grows : GrowsBig cells v) where
  chain : (k n : ℕ) (c : Cell) (ns : List ℕ) (z : ℕ) → slice_get cells n ≡ Some c → c.width ≡ 1 → 2 ≤ at v n → Chain cells (n ∷ ns) z
      → (a : ℕ) × (longer : List ℕ) × (length (a ∷ longer) ≡ k + length (n ∷ ns)) × Chain cells (a ∷ longer) z
  chain zero n c ns z is wide big whole = (n, ns, omega arith, whole)
  chain (suc k) n c ns z is wide big whole =
      let here = (grows n c is wide big).1 in
      let next = cell_there cells here.pin here.wide in
      let there = grows here.pin next.0 next.1 next.2 here.big in
      let (a, longer, e, all) = chain k here.pin next.0 (n ∷ ns) z next.1 next.2 here.big ((next.0, c, next.1, is, there.0, here.named), whole) in
      (a, longer, omega (arith, e), all)

  pub bit_at : (n : ℕ) (c : Cell) → slice_get cells n ≡ Some c → c.width ≡ 1 → at v n < 2
  bit_at n c is wide =
      elim (cases_lt (at v n) 2) [
        | inl small ↦ small
        | inr big ↦
            let here = (grows n c is wide big).1 in
            let next = cell_there cells here.pin here.wide in
            let there = grows here.pin next.0 next.1 next.2 here.big in
            let (a, longer, e, all) = chain (length cells) here.pin next.0 [] n next.1 next.2 here.big (next.0, c, next.1, is, there.0, here.named) in
            absurd (acyclic (long_chain_has_cycle cells a longer n all (omega (arith, e))))
      ]

  selector : (w : ℕ) (f : Function) → OperandsFit (widths_of cells) w f → SelectorIsBit v f
  selector w (Mux s a b) fit = let its = cell_there cells s fit.0 in bit_at s its.0 its.1 its.2
  selector w (Gate s a) fit = let its = cell_there cells s fit.0 in bit_at s its.0 its.1 its.2
  selector w f fit = tt

  selectors_of : (xs : List Cell) → ((k : ℕ) (c : Cell) → slice_get xs k ≡ Some c → SelectorIsBit v c.gate) → AllByRecursion (λ c. SelectorIsBit v c.gate) xs
  selectors_of [] each = tt
  selectors_of (c ∷ xs) each = (each 0 c refl, selectors_of xs (λ k d is. each (suc k) d is))

  pub selectors : WidthsFit cells → AllByRecursion (λ c. SelectorIsBit v c.gate) cells
  selectors fit = selectors_of cells (λ k c is. selector c.width c.gate (fit k c is).2)
