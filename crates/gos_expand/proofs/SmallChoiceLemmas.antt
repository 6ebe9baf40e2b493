-- The netlists of the small plans: which of them have a combinational cycle.
--
-- Read first: SmallNets, SmallChoices; RankedCellLemmas.
use Rattle.std.proofs.Common.{ℕ, false, true, [], ◌∷◌, get_or, Contains, inl, inr, refl, arith}
use Rattle.gos_netlist.specs.Nets.{Or}
use Rattle.gos_netlist.specs.Cycles.{IsRegister, HasCycle}
use Rattle.gos_macro.specs.Cells.{buffer}
use Rattle.gos_plan.specs.SmallPlans.{skip_plan}
use Rattle.gos_expand.specs.Starts.{chosen}
use Rattle.gos_expand.specs.Laid.{laid_cells}
use Rattle.gos_expand.specs.SmallNets.{ring_plan}
use Rattle.gos_expand.proofs.RankedCellLemmas.{ranked_none}

-- without a register in the direction of the request, and in neither
pub skip_answered : HasCycle (laid_cells (chosen (false ∷ true ∷ [])) skip_plan) → ⊥
skip_answered =
    ranked_none (λ n. n) (laid_cells (chosen (false ∷ true ∷ [])) skip_plan) (inr tt, (inl (2, refl), (inl (3, refl), (inr (omega arith, (omega arith, tt)), tt))))

pub skip_straight : HasCycle (laid_cells (chosen (false ∷ false ∷ [])) skip_plan) → ⊥
skip_straight =
    ranked_none (λ n. n) (laid_cells (chosen (false ∷ false ∷ [])) skip_plan) (inr tt, (inl (2, refl), (inr (omega arith, (omega arith, tt)), tt)))

-- the first gate of the sequence feeds itself
no_register : (m n : ℕ) → IsRegister (Or m n) → ⊥
no_register m n (a, is) = absurd (cc is)

none_there : (a : ℕ) → Contains [] a → ⊥
none_there a (k, low, is) = omega (arith, low)

pub ring_left : HasCycle (laid_cells (chosen (false ∷ true ∷ [])) ring_plan)
ring_left = (5 ∷ [], ((none_there 5, tt), (buffer 5, buffer 5, refl, refl, no_register 5 5, (0, omega arith, refl))))

-- With a register for the request: gates 5 and 7 stand behind a register and a constant, and gate 6 behind gate 7.
pub ring_cut : HasCycle (laid_cells (chosen (true ∷ false ∷ [])) ring_plan) → ⊥
ring_cut =
    ranked_none (λ n. get_or (0 ∷ 0 ∷ 0 ∷ 0 ∷ 0 ∷ 1 ∷ 2 ∷ 1 ∷ []) n 0) (laid_cells (chosen (true ∷ false ∷ [])) ring_plan)
    (inr tt, (inl (3, refl), (inl (5, refl), (inr tt, (inr tt, (inr (omega arith, (omega arith, tt)), (inr (omega arith, (omega arith, tt)), (inr (omega arith, (omega arith, tt)), tt))))))))
