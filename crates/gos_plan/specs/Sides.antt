-- The sides of a product and of a function, as joints see them: how their handshakes stand in one list, and how the
-- other side sees them.
--
-- Read first: Kinds; Sides of gos_types.
use Rattle.std.specs.Prelude.{◌≡◌, List}
use Rattle.gos_types.specs.Types.{Type', Pair, Fun}
use Rattle.gos_types.specs.Sides.{AreJoined}
use Rattle.gos_plan.specs.Kinds.{Contact, contacts_of, other_side}

-- those of a product are those of its sides
abbrev pub PairsJoin : Type 0
PairsJoin = (a b : Type') → AreJoined Contact (contacts_of (Pair a b)) (contacts_of a) (contacts_of b)

-- those of a function are those of its argument, as the other side sees them, and those of its outcome
abbrev pub FunctionsJoin : Type 0
FunctionsJoin = (a b : Type') → AreJoined Contact (contacts_of (Fun a b)) (other_side (contacts_of a)) (contacts_of b)

-- the other side of the other side is the side itself
abbrev pub SidesTurnBack : Type 0
SidesTurnBack = (cs : List Contact) → other_side (other_side cs) ≡ cs
