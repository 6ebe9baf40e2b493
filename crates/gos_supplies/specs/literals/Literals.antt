-- The plans of `skip` and of a number: one part, whose handshake is the result.
--
-- Read first: Wirings, Realises, Modules of gos_realises.
use Rattle.std.specs.Prelude.{◌≡◌, ℕ, ◌^◌, ◌<◌, []}
use Rattle.gos_types.specs.Types.{Com, Exp}
use Rattle.gos_types.specs.Widths.{IsWidth}
use Rattle.gos_model.specs.Terms as terms
use Rattle.gos_model.specs.Terms.{Term}
use Rattle.gos_plan.specs.Kinds.{Skip, Lit}
use Rattle.gos_plan.specs.Plans.{Plan}
use Rattle.gos_realises.specs.realises.Wirings.{lone}
use Rattle.gos_realises.specs.realises.Realises.{Realises}
use Rattle.gos_realises.specs.realises.Modules.{RealisesOpen}

-- with any weight
abbrev pub number_plan : ℕ → ℕ → ℕ → Plan
number_plan n w k = record (lone (Lit w k) 0 (Exp w)) { weight = n }

abbrev pub done_plan : ℕ → Plan
done_plan n = record (lone Skip 0 Com) { weight = n }

-- a number of w bits
abbrev pub LiteralIsRealised : Type 0
LiteralIsRealised = (n w k : ℕ) → IsWidth w → k < 2 ^ w → Realises (Exp w) (number_plan n w k) (terms.Lit k w)

abbrev pub DoneIsRealised : Type 0
DoneIsRealised = (n : ℕ) → Realises Com (done_plan n) terms.Skip

-- A plan without imports needs no supplies: it realises a term with any where it realises the term.
abbrev pub ClosedIsOpen : Type 0
ClosedIsOpen = (p : Plan) (m : Term) → p.imports ≡ [] → Realises p.outcome p m → RealisesOpen p m

-- So do these.
abbrev pub LiteralIsOpen : Type 0
LiteralIsOpen = (n w k : ℕ) → IsWidth w → k < 2 ^ w → RealisesOpen (number_plan n w k) (terms.Lit k w)

abbrev pub DoneIsOpen : Type 0
DoneIsOpen = (n : ℕ) → RealisesOpen (done_plan n) terms.Skip
