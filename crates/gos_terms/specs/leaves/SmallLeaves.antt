-- A node that uses number 0, with the plan of `skip` for the numbers 0 and 1.
--
-- Read first: Leaves; SmallWired of wired; SmallBeside of gos_supplies. It shows that what the laws ask for can be met where a supply is loose.
use Rattle.std.specs.Prelude.{[], ◌∷◌}
use Rattle.gos_types.specs.Types.{Com}
use Rattle.gos_model.specs.Terms as terms
use Rattle.gos_realises.specs.realises.Realises.{Realises}
use Rattle.gos_terms.specs.wired.Wired.{Placing, Supplied, IsWired}
use Rattle.gos_terms.specs.wired.SmallWired.{commands, skips, one_use}
use Rattle.gos_supplies.specs.unjoined.SmallBeside.{skip_and_loose, other_skip}

-- part n is the one of the supply of number n
abbrev pub one_each : Placing
one_each =
    record { own = λ k. k; supplied = λ n k. n; import = λ n k. k; source = λ k. Supplied k 0; origin = λ k. record { number = 0; import = k } }

-- the plan of `skip` beside another Skip, but not with that one joined to the result
abbrev pub LooseIsWired : Type 0
LooseIsWired = IsWired commands 0 0 one_use (0 ∷ 1 ∷ []) skips one_each skip_and_loose

abbrev pub OtherIsNotWired : Type 0
OtherIsNotWired = IsWired commands 0 0 one_use (0 ∷ 1 ∷ []) skips one_each other_skip → ⊥

-- so it realises `skip`
abbrev pub LooseRealisesSkip : Type 0
LooseRealisesSkip = Realises Com skip_and_loose terms.Skip
