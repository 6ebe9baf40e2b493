use Rattle.std.proofs.Common.{◌≡◌, ℕ, suc, zero, true, false, [], ◌∷◌, slice_get, Some, refl}
use Rattle.std.proofs.lemmas.Option.{none-some}
use Rattle.gos_types.specs.Events.{Direction, Request, Answer}
use Rattle.gos_netlist.specs.Cycles.{HasCycle}
use Rattle.gos_plan.specs.Plans.{PartEnd, ResultEnd, Joint}
use Rattle.gos_plan.specs.SmallPlans.{skip_plan}
use Rattle.gos_expand.specs.Starts.{chosen, place_of}
use Rattle.gos_expand.specs.Laid.{laid_cells}
use Rattle.gos_expand.specs.Choices.{left_out_at}
use Rattle.gos_expand.specs.SmallNets.{ring_plan}
use Rattle.gos_expand.proofs.PolicyLemmas.{two_chosen}
use Rattle.gos_expand.proofs.SmallChoiceLemmas.{skip_answered, skip_straight, ring_left, ring_cut}
use Rattle.gos_expand.proofs.laws.small_choices.Goals as goal

abbrev skip_joint : Joint
skip_joint = record { asking = ResultEnd 0; serving = PartEnd 0 0 }

abbrev ring_joint : Joint
ring_joint = record { asking = PartEnd 0 0; serving = PartEnd 0 2 }

-- the plan of `skip`, without registers

skip_kept : (x : ℕ) (j : Joint) (way : Direction) → slice_get skip_plan.joints x ≡ Some j → chosen (false ∷ false ∷ []) x way ≡ true
    → HasCycle (laid_cells (left_out_at (chosen (false ∷ false ∷ [])) (place_of x way)) skip_plan)
skip_kept zero j Request there is = absurd (cc is)
skip_kept zero j Answer there is = absurd (cc is)
skip_kept (suc x) j way there is = absurd (none-some j there)

skip_left_out : (x : ℕ) (j : Joint) (way : Direction) → slice_get skip_plan.joints x ≡ Some j → chosen (false ∷ false ∷ []) x way ≡ false
    → HasCycle (laid_cells (left_out_at (chosen (false ∷ false ∷ [])) (place_of x way)) skip_plan)
    → ⊥
skip_left_out zero j Request there is = skip_answered
skip_left_out zero j Answer there is = skip_straight
skip_left_out (suc x) j way there is = absurd (none-some j there)

pub returns-clause-none : goal.returns-clause-none
returns-clause-none c =
    record { kept = skip_kept; left_out = skip_left_out; beyond = λ x way none. two_chosen false false skip_joint x way none }

pub returns-clause-all : goal.returns-clause-all
returns-clause-all c = λ few. skip_answered (few.kept 0 skip_joint Request refl refl)

-- the plan with a ring, with a register for the request

ring_kept : (x : ℕ) (j : Joint) (way : Direction) → slice_get ring_plan.joints x ≡ Some j → chosen (true ∷ false ∷ []) x way ≡ true
    → HasCycle (laid_cells (left_out_at (chosen (true ∷ false ∷ [])) (place_of x way)) ring_plan)
ring_kept zero j Request there is = ring_left
ring_kept zero j Answer there is = absurd (cc is)
ring_kept (suc x) j way there is = absurd (none-some j there)

ring_left_out : (x : ℕ) (j : Joint) (way : Direction) → slice_get ring_plan.joints x ≡ Some j → chosen (true ∷ false ∷ []) x way ≡ false
    → HasCycle (laid_cells (left_out_at (chosen (true ∷ false ∷ [])) (place_of x way)) ring_plan)
    → ⊥
ring_left_out zero j Request there is = absurd (cc is)
ring_left_out zero j Answer there is = ring_cut
ring_left_out (suc x) j way there is = absurd (none-some j there)

pub returns-clause-one : goal.returns-clause-one
returns-clause-one c =
    record { kept = ring_kept; left_out = ring_left_out; beyond = λ x way none. two_chosen true false ring_joint x way none }

pub returns-clause-ring : goal.returns-clause-ring
returns-clause-ring c = λ few. few.left_out 0 ring_joint Request refl refl ring_left
