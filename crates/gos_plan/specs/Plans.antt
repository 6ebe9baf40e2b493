-- Plans: parts, and the joints between their handshakes and those of the imports and of the result.
--
-- Read first: Kinds. A joint has two ends: one asks, the other serves.
use Rattle.std.specs.Prelude.{◌≡◌, ℕ, Bool, true, false, not, ◌&&◌, ◌||◌, IsTrue, List, [], ◌∷◌, Option, Some, None, nat_eq, slice_get}
use Rattle.gos_types.specs.Types.{Type'}
use Rattle.gos_model.specs.Typing.{Imported}
use Rattle.gos_plan.specs.Kinds.{Part, Contact, asks, serves, contacts_of, turned_contact, part_contacts}

-- an end of a joint: a handshake of a part, of an import, or of the result
pub data End : Type 0 where
  PartEnd : (part shake : ℕ) → End
  ImportEnd : (import shake : ℕ) → End
  ResultEnd : (shake : ℕ) → End

-- a joint
pub record Joint : Type 0 where
  pub asking : End
  pub serving : End

-- a plan; `outcome` is the type of its result
pub record Plan : Type 0 where
  pub weight : ℕ
  pub imports : List Imported
  pub outcome : Type'
  pub parts : List Part
  pub joints : List Joint

-- the handshakes of a part that there is, or of none
abbrev pub contacts_of_part : Option Part → List Contact
contacts_of_part None = []
contacts_of_part (Some k) = part_contacts k

-- the handshakes of an import that there is, or of none
abbrev pub contacts_of_import : Option Imported → List Contact
contacts_of_import None = []
contacts_of_import (Some i) = contacts_of i.ty

-- a handshake that there is, as the other side sees it
abbrev pub turned_if : Option Contact → Option Contact
turned_if None = None
turned_if (Some c) = Some (turned_contact c)

-- The handshake at an end, as the joints see it. What stands for an import serves as a term of its type does; what uses
-- the result asks as the user of a term of its type does.
abbrev pub contact_at : Plan → End → Option Contact
contact_at p (PartEnd i h) = slice_get (contacts_of_part (slice_get p.parts i)) h
contact_at p (ImportEnd i h) = slice_get (contacts_of_import (slice_get p.imports i)) h
contact_at p (ResultEnd h) = turned_if (slice_get (contacts_of p.outcome) h)

-- whether two ends are one
abbrev pub same_end : End → End → Bool
same_end (PartEnd i h) (PartEnd j g) = nat_eq i j && nat_eq h g
same_end (ImportEnd i h) (ImportEnd j g) = nat_eq i j && nat_eq h g
same_end (ResultEnd h) (ResultEnd g) = nat_eq h g
same_end a b = false

-- whether an end is one of a joint's
abbrev pub stands_in : End → Joint → Bool
stands_in e j = same_end e j.asking || same_end e j.serving

-- whether an end stands in none of the joints
abbrev pub is_free : End → List Joint → Bool
is_free e [] = true
is_free e (j ∷ js) = not (stands_in e j) && is_free e js

-- one end asks, the other serves, and their bits are equal
abbrev pub Fits : Plan → Joint → Type 0
Fits p j =
    (q a : ℕ) × (contact_at p j.asking ≡ Some (asks q a)) × (contact_at p j.serving ≡ Some (serves q a))

-- a joint is right after these: it fits, and neither of its ends stands in one of them
abbrev pub IsRightAfter : Plan → List Joint → Joint → Type 0
IsRightAfter p before j = Fits p j × IsTrue (is_free j.asking before) × IsTrue (is_free j.serving before)

-- joints are right, one after another
abbrev pub AreRight : Plan → List Joint → List Joint → Type 0
AreRight p before [] = Unit {0}
AreRight p before (j ∷ js) = IsRightAfter p before j × AreRight p (j ∷ before) js

-- each joint of the plan is right
abbrev pub IsRight : Plan → Type 0
IsRight p = AreRight p [] p.joints
