-- Links that fit: what may be joined.
--
-- Read first: Joining of gos_plan. A link joins a handshake of a port of one plan to one of a port, or of a part, of
-- another plan. A port's handshake is seen from inside its plan, so that two ports that are linked see each other from
-- the other side, and a port sees a linked part's handshake as the part itself has it.
use Rattle.std.specs.Prelude.{◌≡◌, ◌≢◌, ℕ, ◌+◌, IsTrue, ◌⊎◌, Option, Some, None, slice_get}
use Rattle.gos_plan.specs.Kinds.{Contact, contacts_of, turned_contact}
use Rattle.gos_plan.specs.Plans.{End, PartEnd, ResultEnd, Plan, contact_at, is_free, IsRight}
use Rattle.gos_plan.specs.Joining.{Place, place, Link, Wiring, IsJoining, contacts_of_result}

-- the handshake at a place, where there is one
abbrev pub contact_in : Option Plan → End → Option Contact
contact_in None e = None
contact_in (Some p) e = contact_at p e

abbrev pub contact_of : Wiring → Place → Option Contact
contact_of w a = contact_in (slice_get w.plans a.plan) a.end

-- the end is in none of the plan's joints
abbrev pub IsUnjoined : Option Plan → End → Type 0
IsUnjoined None e = ⊥
IsUnjoined (Some p) e = IsTrue (is_free e p.joints)

-- two ends with these handshakes fit each other: ports from their two sides, a port and a part's free end from one
abbrev pub EndsFit : Wiring → Place → Place → Contact → Contact → End → End → Type 0
EndsFit w a b c d (PartEnd i h) (PartEnd j g) = ⊥
EndsFit w a b c d (PartEnd i h) e = (d ≡ c) × IsUnjoined (slice_get w.plans a.plan) a.end
EndsFit w a b c d e (PartEnd j g) = (d ≡ c) × IsUnjoined (slice_get w.plans b.plan) b.end
EndsFit w a b c d e f = d ≡ turned_contact c

-- the ends of a link are there, in two plans, and fit
abbrev pub LinkFits : Wiring → Link → Type 0
LinkFits w l =
    (l.one.plan ≢ l.other.plan)
    × ((c : Contact) × (d : Contact) × (contact_of w l.one ≡ Some c) × (contact_of w l.other ≡ Some d)
    × EndsFit w l.one l.other c d l.one.end l.other.end)

-- a place is one of a link's
abbrev pub StandsIn : Place → Link → Type 0
StandsIn a l = (a ≡ l.one) ⊎ (a ≡ l.other)

-- The links fit: the plans are right, each link joins two ends that fit, no place stands in two links, and what is
-- left of the giver's result is of the outcome's type and stands in none.
pub record LinksFit (w : Wiring) : Type 0 where
  pub right : (k : ℕ) (p : Plan) → slice_get w.plans k ≡ Some p → IsRight p
  pub each : (k : ℕ) (l : Link) → slice_get w.links k ≡ Some l → LinkFits w l
  pub once :
      (j k : ℕ) (l m : Link) (a : Place) → slice_get w.links j ≡ Some l → slice_get w.links k ≡ Some m → StandsIn a l → StandsIn a m
      → j ≡ k
  pub left :
      (h : ℕ) (c : Contact) → slice_get (contacts_of w.outcome) h ≡ Some c
      → (slice_get (contacts_of_result (slice_get w.plans w.giver)) (w.skipped + h) ≡ Some c)
      × ((k : ℕ) (l : Link) → slice_get w.links k ≡ Some l → StandsIn (place w.giver (ResultEnd (w.skipped + h))) l → ⊥)

-- the plan is the joining of what fits
pub record IsJoined (w : Wiring) (r : Plan) : Type 0 where
  pub fits : LinksFit w
  pub joining : IsJoining w r
