-- The latch runs, its text is the one that is written out, and the ring of gates is a cycle.
use Rattle.std.specs.Prelude.{◌≡◌, ℕ, zero, suc, [], ◌∷◌, ◌⊎◌, Option, Some, slice_get, length, Contains}
use Rattle.std.proofs.Common.{arith, refl, sym, subst, inl, inr}
use Rattle.std.specs.Fmt.{digits}
use Rattle.gos_netlist.specs.Nets.{Cell, Function, Input, Or, Reg, And}
use Rattle.gos_netlist.specs.Settling.{Numbers, at, shown, Settling}
use Rattle.gos_netlist.specs.Cycles.{IsRegister}
use Rattle.gos_netlist.specs.SmallNets.{bit, latch, LatchRuns, LatchText, LoopedGates}

-- the equation of a cell that is known
settled : (regs ins v : Numbers) (n : ℕ) (a : Cell) (o : Option Cell) (x : Cell) → o ≡ Some a → o ≡ Some x
    → at v n ≡ shown a.width a.gate (at regs n) (at ins n) (at v) → at v n ≡ shown x.width x.gate (at regs n) (at ins n) (at v)
settled regs ins v n a o x e h q =
    let same : a ≡ x = grind (arith, e, h) in
    subst (λ y. at v n ≡ shown y.width y.gate (at regs n) (at ins n) (at v)) same q

settles : (regs ins v : Numbers) → length v ≡ 4
    → at v 0 ≡ at ins 0 → at v 1 ≡ shown 1 (Or 0 2) 0 0 (at v) → at v 2 ≡ at regs 2 → at v 3 ≡ at regs 3
    → Settling latch.cells regs ins v
settles regs ins v l a b c d = (l, each)
  where
    each : (n : ℕ) (x : Cell) → slice_get latch.cells n ≡ Some x → at v n ≡ shown x.width x.gate (at regs n) (at ins n) (at v)
    each zero x h = settled regs ins v 0 (bit Input) _ x refl h a
    each (suc zero) x h = settled regs ins v 1 (bit (Or 0 2)) _ x refl h b
    each (suc (suc zero)) x h = settled regs ins v 2 (bit (Reg 1)) _ x refl h c
    each (suc (suc (suc zero))) x h = settled regs ins v 3 (bit (Reg 1)) _ x refl h d
    each (suc (suc (suc (suc n)))) x h = grind (arith, h)

pub latch_runs : LatchRuns
latch_runs = (
  settles (0 ∷ 0 ∷ 0 ∷ 0 ∷ []) (1 ∷ []) (1 ∷ 1 ∷ 0 ∷ 0 ∷ []) refl refl refl refl refl,
  (
    settles (0 ∷ 0 ∷ 1 ∷ 1 ∷ []) (0 ∷ []) (0 ∷ 1 ∷ 1 ∷ 1 ∷ []) refl refl refl refl refl,
    (settles (0 ∷ 0 ∷ 1 ∷ 1 ∷ []) (0 ∷ []) (0 ∷ 1 ∷ 1 ∷ 1 ∷ []) refl refl refl refl refl, refl),
  ),
)

contains_one : (x : ℕ) → Contains (2 ∷ []) x → x ≡ 2
contains_one x (zero, l, e) = sym e
contains_one x (suc k, l, e) = omega (arith, l)

no_register : (a b : ℕ) (g : Function) → (g ≡ Or a b) ⊎ (g ≡ And a b) → IsRegister g → ⊥
no_register a b g (inl e) (r, f) = grind (arith, e, f)
no_register a b g (inr e) (r, f) = grind (arith, e, f)

pub looped_gates : LoopedGates
looped_gates = (
  (
    λ h. grind (arith, contains_one 1 h),
    (λ h. omega (arith, h.1), tt),
  ),
  (
    (bit (Or 0 2), bit (And 1 0), refl, refl, no_register 0 2 (Or 0 2) (inl refl), (0, omega arith, refl)),
    (bit (And 1 0), bit (Or 0 2), refl, refl, no_register 1 0 (And 1 0) (inr refl), (1, omega arith, refl)),
  ),
)

pub latch_text : LatchText
unfolding digits
latch_text = refl
