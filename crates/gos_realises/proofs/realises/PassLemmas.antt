-- What a pass opens and closes.
use Rattle.std.specs.Prelude.{◌≡◌, Bool, List, ◌∷◌, if◌then◌else◌}
use Rattle.std.proofs.Common.{ap, sym, ◌∙◌}
use Rattle.gos_types.specs.Events.{Direction, Request, Answer}
use Rattle.gos_plan.specs.Plans.{End}
use Rattle.gos_plan.proofs.JointLemmas.{same_itself, apart_is_not_same}
use Rattle.gos_realises.specs.realises.Regular.{Pass, pass, is_request, is_open, ComesInTurn}

pub open_itself : (e : End) (way : Direction) (past : List Pass) → is_open (pass e way ∷ past) e ≡ is_request way
open_itself e way past = ap (λ (t : Bool). if t then is_request way else is_open past e) (same_itself e)

pub open_otherwise : (e d : End) (way : Direction) (past : List Pass) → (e ≡ d → ⊥) → is_open (pass e way ∷ past) d ≡ is_open past d
open_otherwise e d way past apart = let other = apart_is_not_same e d apart in λ i. if other i then is_request way else is_open past d

pub same_turn : (P Q : List Pass) (d e : End) (way : Direction) → is_open P d ≡ is_open Q e → ComesInTurn P d way → ComesInTurn Q e way
same_turn P Q d e Request same turn = sym same ∙ turn
same_turn P Q d e Answer same turn = sym same ∙ turn
