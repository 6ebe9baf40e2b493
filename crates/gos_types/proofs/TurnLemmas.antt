-- Handshakes turned twice are the handshakes themselves.
use Rattle.std.specs.Prelude.{◌≡◌, [], ◌∷◌}
use Rattle.std.proofs.Common.{refl}
use Rattle.gos_types.specs.Handshakes.{Shake, turn, TurningTwice}
use Rattle.gos_types.proofs.RoleLemmas.{turned_twice}

turn_twice : (h : Shake) → turn (turn h) ≡ h
turn_twice h = λ i. record h { role = turned_twice h.role i }

pub turning_twice : TurningTwice
turning_twice [] = refl
turning_twice (h ∷ hs) = λ i. turn_twice h i ∷ turning_twice hs i
