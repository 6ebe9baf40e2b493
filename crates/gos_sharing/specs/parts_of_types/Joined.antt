-- What is joined to plans with a wide Share and with a narrow one stands so as well.
--
-- Read first: Narrow; Joined of function_types, for wirings of a plan and others whose links join no part of it.
use Rattle.std.specs.Prelude.{ℕ, List}
use Rattle.gos_types.specs.Types.{Type'}
use Rattle.gos_plan.specs.Plans.{Plan}
use Rattle.gos_plan.specs.Joining.{Link, IsJoining}
use Rattle.gos_sharing.specs.function_types.Joined.{wiring, AllPortPlaces}
use Rattle.gos_sharing.specs.parts_of_types.Narrow.{Narrowing, IsNarrow}

-- the parts keep their numbers, so it is the same Share with the same handshakes
abbrev pub JoinedIsNarrow : Type 0
JoinedIsNarrow =
    (f : Narrowing) (z u r s : Plan) (ps : List Plan) (ls : List Link) (giver skipped : ℕ) (t : Type')
    → IsNarrow f z u → AllPortPlaces ls → IsJoining (wiring z ps ls giver skipped t) r → IsJoining (wiring u ps ls giver skipped t) s
    → IsNarrow f r s
