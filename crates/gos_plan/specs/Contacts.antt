-- How clauses see the handshakes at ends: as the program holds them.
--
-- Read first: Kinds.
use Rattle.gos_plan.specs.declared.contacts.Contact as held
use Rattle.gos_plan.specs.Kinds.{Contact}

-- a handshake as the program holds it, and the handshake that it holds
abbrev pub held_contact : Contact → held.Contact
held_contact c = record { role = c.role; ask_bits = c.ask_bits; answer_bits = c.answer_bits }

abbrev pub contact_held : held.Contact → Contact
contact_held c = record { role = c.role; ask_bits = c.ask_bits; answer_bits = c.answer_bits }
