-- Handshakes as one side sees them or as the other, by a flag.
--
-- Read first: Kinds, Contacts. Between the functions of this crate.
use Rattle.std.specs.Prelude.{Bool, if◌then◌else◌, List}
use Rattle.gos_types.specs.Handshakes.{Shake}
use Rattle.gos_plan.specs.declared.contacts.Contact as held
use Rattle.gos_plan.specs.Kinds.{Contact, contact, turned_contact, other_side}
use Rattle.gos_plan.specs.Contacts.{held_contact}

-- handshakes of a type
abbrev pub as_seen : Bool → List Contact → List Contact
as_seen turned contacts = if turned then other_side contacts else contacts

-- a handshake of a type, as the program holds it
abbrev pub contact_for : Bool → Shake → held.Contact
contact_for turned h = held_contact (if turned then turned_contact (contact h) else contact h)
