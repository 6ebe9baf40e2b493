-- The kinds of parts, and the handshakes of each.
--
-- Read first: Handshakes of gos_types; of Terms of gos_model the operators, of Typing of gos_model what an array's index is.
-- A part asks at some handshakes and serves at the others. Handshakes are numbered as they stand here; the last one of most
-- kinds is that by which the part is run.
use Rattle.std.specs.Prelude.{ℕ, List, [], ◌∷◌, ◌++◌, map}
use Rattle.gos_types.specs.declared.shakes.Role.{Role}
use Rattle.gos_types.specs.declared.shakes.Role.TheVariants.{Serve, Ask}
use Rattle.gos_types.specs.Types.{Type'}
use Rattle.gos_types.specs.Handshakes.{Shake, turned, handshakes_of}
use Rattle.gos_model.specs.Terms.{Op as Operation, result_width}
use Rattle.gos_model.specs.Typing.{index_width}

-- A kind of parts. What a sequence, a choice or a block ends with has v bits; a command has 0.
pub data Part : Type 0 where
  Skip : Part
  Lit : (w k : ℕ) → Part
  Seq : (v : ℕ) → Part
  Par : Part
  If : (v : ℕ) → Part
  While : Part
  Op : (op : Operation) (w : ℕ) → Part
  Not : (w : ℕ) → Part
  Assign : (w : ℕ) → Part
  Deref : (w : ℕ) → Part
  Local : (w v : ℕ) → Part
  Array : (w n v : ℕ) → Part
  Share : (t : Type') → Part

-- a handshake at an end: who asks there, and the bits of its request and of its answer
pub record Contact : Type 0 where
  pub role : Role
  pub ask_bits : ℕ
  pub answer_bits : ℕ

-- a handshake that the part asks at, or serves at
abbrev pub asks : ℕ → ℕ → Contact
asks q a = record { role = Ask; ask_bits = q; answer_bits = a }

abbrev pub serves : ℕ → ℕ → Contact
serves q a = record { role = Serve; ask_bits = q; answer_bits = a }

-- a handshake of a type, without its way
abbrev pub contact : Shake → Contact
contact h = record { role = h.role; ask_bits = h.ask_bits; answer_bits = h.answer_bits }

-- the handshakes of a type, by the holder of a term of it
abbrev pub contacts_of : Type' → List Contact
contacts_of t = map contact (handshakes_of t)

-- a handshake, and handshakes, as the other side sees them
abbrev pub turned_contact : Contact → Contact
turned_contact c = record c { role = turned c.role }

abbrev pub other_side : List Contact → List Contact
other_side = map turned_contact

-- The handshakes of a part, in order. Those of a Share are the source's, which it asks, and then those of two callers.
abbrev pub part_contacts : Part → List Contact
part_contacts Skip = serves 0 0 ∷ []
part_contacts (Lit w k) = serves 0 w ∷ []
part_contacts (Seq v) = asks 0 0 ∷ asks 0 v ∷ serves 0 v ∷ []
part_contacts Par = asks 0 0 ∷ asks 0 0 ∷ serves 0 0 ∷ []
part_contacts (If v) = asks 0 1 ∷ asks 0 v ∷ asks 0 v ∷ serves 0 v ∷ []
part_contacts While = asks 0 1 ∷ asks 0 0 ∷ serves 0 0 ∷ []
part_contacts (Op op w) = asks 0 w ∷ asks 0 w ∷ serves 0 (result_width op w) ∷ []
part_contacts (Not w) = asks 0 w ∷ serves 0 w ∷ []
part_contacts (Assign w) = asks 0 w ∷ asks w 0 ∷ serves 0 0 ∷ []
part_contacts (Deref w) = asks 0 w ∷ serves 0 w ∷ []
part_contacts (Local w v) = asks 0 v ∷ serves 0 w ∷ serves w 0 ∷ serves 0 v ∷ []
part_contacts (Array w n v) = asks 0 v ∷ asks 0 (index_width n) ∷ serves 0 w ∷ serves w 0 ∷ serves 0 v ∷ []
part_contacts (Share t) = other_side (contacts_of t) ++ (contacts_of t ++ contacts_of t)
