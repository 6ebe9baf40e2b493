-- What is open where all is idle.
--
-- Read first: Orderly of gos_plan. Whoever waits for an answer isn't idle, but for a Share, which waits for its caller's sake.
use Rattle.std.specs.Prelude.{◌≡◌, false, List}
use Rattle.gos_types.specs.Types.{IsDone}
use Rattle.gos_plan.specs.Plans.{End, ResultEnd, Plan, IsRight}
use Rattle.gos_plan.specs.Tokens.{Tokens, Element, IsPortEnd, IsIdle}
use Rattle.gos_plan.specs.Orderly.{Open, none_open, OrderlyFrom}
use Rattle.gos_realises.specs.realises.Realises.{AllGround}

-- After an orderly list from an idle state to an idle state no handshake is open, if none is that a port has the name of.
abbrev pub OpenIdleIsClosed : Type 0
OpenIdleIsClosed =
    (p : Plan) (xs : List Element) (o : Open) (s t : Tokens)
    → IsRight p → IsIdle p s → OrderlyFrom p xs none_open s o t → IsIdle p t
    → ((e : End) → IsPortEnd e → o e ≡ false) → (e : End) → o e ≡ false

-- With ground imports the surroundings ask at the result alone.
--
-- After an orderly list from an idle state to an idle state no handshake is open, if the result's is not.
abbrev pub IdleIsClosed : Type 0
IdleIsClosed =
    (p : Plan) (xs : List Element) (o : Open) (s t : Tokens)
    → IsRight p → AllGround p.imports → IsDone p.outcome → IsIdle p s → OrderlyFrom p xs none_open s o t → IsIdle p t
    → o (ResultEnd 0) ≡ false → (e : End) → o e ≡ false
