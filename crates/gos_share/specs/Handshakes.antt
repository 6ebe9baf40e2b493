-- How clauses see the handshakes of a type.
--
-- Read first: Kinds of gos_plan.
use Rattle.std.specs.Prelude.{ℕ, List, drop}
use Rattle.gos_types.specs.declared.types.Ty.{Ty}
use Rattle.gos_types.specs.Types.{type_of}
use Rattle.gos_plan.specs.Kinds.{Contact, contacts_of}
use Rattle.gos_share.specs.declared.shared.Shared.{Shared}

-- a handshake as a contact
abbrev pub contact_of : Shared → Contact
contact_of k = record { role = k.role; ask_bits = k.ask_bits; answer_bits = k.answer_bits }

-- the handshakes of a type, and those from number j on
abbrev pub all_of : Ty → List Contact
all_of t = contacts_of (type_of t)

abbrev pub from : ℕ → Ty → List Contact
from j t = drop j (contacts_of (type_of t))
