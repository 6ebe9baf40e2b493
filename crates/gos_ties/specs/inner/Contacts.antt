-- Handshakes at ends, as the program keeps them.
--
-- Read first: Kinds and Contacts of gos_plan. Between the functions of this crate.
use Rattle.std.specs.Prelude.{Option, Some, None}
use Rattle.gos_plan.specs.declared.contacts.Contact.{Contact}
use Rattle.gos_plan.specs.Kinds as kinds
use Rattle.gos_plan.specs.Contacts.{contact_held}

-- a handshake that there may be
abbrev pub asked : Option Contact → Option kinds.Contact
asked None = None
asked (Some c) = Some (contact_held c)
