-- The two roles of a handshake, and the two directions, are apart; a role turned twice is itself.
use Rattle.std.specs.Prelude.{◌≡◌}
use Rattle.std.proofs.Common.{refl}
use Rattle.gos_types.specs.declared.shakes.Role.{Role}
use Rattle.gos_types.specs.declared.shakes.Role.TheVariants.{Serve, Ask}
use Rattle.gos_types.specs.Handshakes.{turned}
use Rattle.gos_types.specs.Events.{Request, Answer}

pub turned_twice : (role : Role) → turned (turned role) ≡ role
turned_twice Serve = refl
turned_twice Ask = refl

pub ask_is_not_serve : Ask ≡ Serve → ⊥
ask_is_not_serve e = cc e

pub serve_is_not_ask : Serve ≡ Ask → ⊥
serve_is_not_ask e = cc

pub request_is_not_answer : Request ≡ Answer → ⊥
request_is_not_answer e = cc e
