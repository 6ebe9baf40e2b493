-- Handshakes that there are, and the types of Shares.
use Rattle.std.specs.Prelude.{◌+◌, ◌-◌, ◌*◌, ◌<◌, length}
use Rattle.std.proofs.Common.{◌≡◌, ℕ, zero, suc, false, List, [], ◌∷◌, refl, ap, arith}
use Rattle.gos_check.specs.declared.linear.Split.{Split}
use Rattle.gos_compile.specs.Wiring.{Types, shares}
use Rattle.gos_terms.specs.stages.Lodging.{serves_side}
use Rattle.gos_terms.proofs.stages.StepLemmas.{serves_first_alone, serves_second_alone}

pub shares_length : (types : Types) (ss : List Split) → length (shares ss types) ≡ length ss
shares_length types [] = refl
shares_length types (s ∷ ss) = ap suc (shares_length types ss)

pub other_unserved : (m c j : ℕ) → c < 2 → j < m → serves_side m c (m + (1 - c) * m + j) ≡ false
other_unserved m zero j two lt = serves_first_alone m j
other_unserved m (suc zero) j two lt = serves_second_alone m j lt
other_unserved m (suc (suc c)) j two lt = absurd (omega (arith, two))
