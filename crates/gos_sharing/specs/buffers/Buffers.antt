-- Buffers: a Share of which one caller alone is joined. What is behind it does through it what it does without.
--
-- Read first: Sharing of sharing; Regular, Matched of gos_realises. Types of functions are left out: there the source asks
-- its caller back, and a Share may be joined to itself.
use Rattle.std.specs.Prelude.{◌≡◌, ℕ, ◌-◌, ◌<◌, List, []}
use Rattle.gos_types.specs.Types.{Type', IsGround}
use Rattle.gos_model.specs.Terms.{Term}
use Rattle.gos_plan.specs.Firing.{Slot}
use Rattle.gos_plan.specs.Plans.{Plan}
use Rattle.gos_plan.specs.Tokens.{Tokens, Element, Fire, shake_of, Does, Runs, IsIdle}
use Rattle.gos_plan.specs.Orderly.{Open, none_open, OrderlyFrom}
use Rattle.gos_realises.specs.realises.Regular.{count, InputsKeepTurns, IsRegular}
use Rattle.gos_realises.specs.realises.Matched.{RealisesInTurn}
use Rattle.gos_joining.specs.webs.Cutting.{StandsIn}
use Rattle.gos_sharing.specs.sharing.Sharing.{source_end, caller_end, IsSeenThrough, WorksFor}

-- Part i of r is a Share of a ground type, and caller c is the only one: no handshake of the other stands in a joint. What
-- that caller may ask goes on to the source. q is the plan with plain joints in the Share's place.
pub record IsBuffer (i : ℕ) (t : Type') (c : ℕ) (r q : Plan) : Type 0 where
  pub seen : IsSeenThrough i t c r q
  pub ground : IsGround t
  pub alone : (j : ℕ) → j < count t → StandsIn r (caller_end i t (1 - c) j) → ⊥
  pub goes_on : (j : ℕ) → j < count t → StandsIn r (caller_end i t c j) → StandsIn r (source_end i j)

-- over an orderly list from an idle state it works for that caller
abbrev pub WorksForOne : Type 0
WorksForOne =
    (i : ℕ) (t : Type') (c : ℕ) (r q : Plan) (xs : List Element) (o : Open) (s w : Tokens)
    → IsBuffer i t c r q → IsIdle r s → OrderlyFrom r xs none_open s o w → WorksFor i t c r xs s

-- a plan with a buffer is regular where the plan without it is
abbrev pub BufferedIsRegular : Type 0
BufferedIsRegular = (i : ℕ) (t : Type') (c : ℕ) (r q : Plan) → IsBuffer i t c r q → IsRegular q → IsRegular r

-- and realises what that one realises
abbrev pub BufferedRealises : Type 0
BufferedRealises =
    (i : ℕ) (t : Type') (c : ℕ) (r q : Plan) (m : Term) → IsBuffer i t c r q → RealisesInTurn q m → RealisesInTurn r m

-- Part i of p, a Share, is loyal to caller c: over each list from an idle state whose inputs keep turns, what it takes of its
-- source finds the branch c.
abbrev pub IsLoyal : ℕ → ℕ → Type' → Plan → Type 0
IsLoyal i c t p =
    (xs : List Element) (slot : Slot) (s w u : Tokens)
    → IsIdle p s → Runs p xs s w → InputsKeepTurns p [] xs → shake_of slot < count t → Does p (Fire i slot) w u
    → (w.state i).number ≡ c

-- so is a buffer, in a regular plan
abbrev pub BuffersAreLoyal : Type 0
BuffersAreLoyal = (i : ℕ) (t : Type') (c : ℕ) (r q : Plan) → IsBuffer i t c r q → IsRegular r → IsLoyal i c t r
