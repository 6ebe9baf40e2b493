-- The levels of small netlists, and that a combinational cycle has none.
use Rattle.std.specs.Prelude.{◌≡◌, ℕ, zero, suc, ◌≤◌, List, [], ◌∷◌, Option, Some, slice_get, max}
use Rattle.std.proofs.Common.{arith, refl, subst, sym, ◌∙◌}
use Rattle.std.proofs.Math.Nat.{le-max_left, le-max_right}
use Rattle.std.proofs.lemmas.Option.{same_Some}
use Rattle.gos_netlist.specs.Nets.{Cell, Input, Const, Or, And, Reg}
use Rattle.gos_netlist.specs.Settling.{Numbers, at}
use Rattle.gos_netlist.specs.SmallNets.{bit, latch}
use Rattle.gos_netcheck.specs.Levels.{GatesRise, HaveOneLevels, LatchHasLevels, RingHasNoLevels, level_of}
use Rattle.gos_netcheck.proofs.LevelLemmas.{agree}

-- the level of a cell that is known
known : (levels : Numbers) (n : ℕ) (a : Cell) (o : Option Cell) (x : Cell) → o ≡ Some a → o ≡ Some x
    → at levels n ≡ level_of a.gate (at levels) → at levels n ≡ level_of x.gate (at levels)
known levels n a o x e h q = subst (λ y. at levels n ≡ level_of y.gate (at levels)) (same_Some a x (sym e ∙ h)) q

pub one_levels : (cells : List Cell) → HaveOneLevels cells
one_levels cells order levels others scheduled first second = agree cells order scheduled levels others first second

pub latch_has_levels : LatchHasLevels
latch_has_levels = record { each = refl; leveled = each }
  where
    each : (n : ℕ) (x : Cell) → slice_get latch.cells n ≡ Some x → at (0 ∷ 1 ∷ 0 ∷ 0 ∷ []) n ≡ level_of x.gate (at (0 ∷ 1 ∷ 0 ∷ 0 ∷ []))
    each zero x h = known (0 ∷ 1 ∷ 0 ∷ 0 ∷ []) 0 (bit Input) _ x refl h refl
    each (suc zero) x h = known (0 ∷ 1 ∷ 0 ∷ 0 ∷ []) 1 (bit (Or 0 2)) _ x refl h refl
    each (suc (suc zero)) x h = known (0 ∷ 1 ∷ 0 ∷ 0 ∷ []) 2 (bit (Reg 1)) _ x refl h refl
    each (suc (suc (suc zero))) x h = known (0 ∷ 1 ∷ 0 ∷ 0 ∷ []) 3 (bit (Reg 1)) _ x refl h refl
    each (suc (suc (suc (suc n)))) x h = grind (arith, h)

pub gates_rise : GatesRise
gates_rise = record { each = refl; leveled = each }
  where
    each : (n : ℕ) (x : Cell) → slice_get (bit (And 1 2) ∷ bit (Or 2 3) ∷ bit Input ∷ bit (Reg 0) ∷ bit (Const 1) ∷ []) n ≡ Some x
        → at (2 ∷ 1 ∷ 0 ∷ 0 ∷ 0 ∷ []) n ≡ level_of x.gate (at (2 ∷ 1 ∷ 0 ∷ 0 ∷ 0 ∷ []))
    each zero x h = known (2 ∷ 1 ∷ 0 ∷ 0 ∷ 0 ∷ []) 0 (bit (And 1 2)) _ x refl h refl
    each (suc zero) x h = known (2 ∷ 1 ∷ 0 ∷ 0 ∷ 0 ∷ []) 1 (bit (Or 2 3)) _ x refl h refl
    each (suc (suc zero)) x h = known (2 ∷ 1 ∷ 0 ∷ 0 ∷ 0 ∷ []) 2 (bit Input) _ x refl h refl
    each (suc (suc (suc zero))) x h = known (2 ∷ 1 ∷ 0 ∷ 0 ∷ 0 ∷ []) 3 (bit (Reg 0)) _ x refl h refl
    each (suc (suc (suc (suc zero)))) x h = known (2 ∷ 1 ∷ 0 ∷ 0 ∷ 0 ∷ []) 4 (bit (Const 1)) _ x refl h refl
    each (suc (suc (suc (suc (suc n))))) x h = grind (arith, h)

pub ring_has_no_levels : RingHasNoLevels
ring_has_no_levels levels are =
    let first : at levels 1 ≡ suc (max (at levels 0) (at levels 2)) = are.leveled 1 (bit (Or 0 2)) refl in
    let second : at levels 2 ≡ suc (max (at levels 1) (at levels 0)) = are.leveled 2 (bit (And 1 0)) refl in
    let above : at levels 2 ≤ max (at levels 0) (at levels 2) = le-max_right (at levels 0) (at levels 2) in
    let below : at levels 1 ≤ max (at levels 1) (at levels 0) = le-max_left (at levels 1) (at levels 0) in
    omega (arith, first, second, above, below)
