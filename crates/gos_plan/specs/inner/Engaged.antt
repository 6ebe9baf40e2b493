-- Which handshakes of a part are under way.
--
-- Read first: Firing. A handshake is under way for the part that asks from its request to the answer's taking, and for the
-- part that serves from the request's taking to its answer. A part's phase tells which of its handshakes are.
use Rattle.std.specs.Prelude.{ℕ, Bool, List, [], ◌∷◌, Option, None, Some, false, nat_eq, if◌then◌else◌}
use Rattle.std.specs.List.{list_any}
use Rattle.gos_plan.specs.Kinds.{Part, Seq, Par, If, While, Op, Not, Assign, Deref, Local, Array}
use Rattle.gos_plan.specs.Firing.{Phase, First, Second, Both, LeftOnly, RightOnly, Test, Branch, Body, Left, Right, Waiting, Value, Writing, Active, Cells, Reading, WritingTo, State}

-- the handshakes of a part that are under way in a phase with a number; a Share is not spoken of
abbrev pub under_way : Part → Phase → ℕ → List ℕ
under_way (Seq v) First n = 0 ∷ 2 ∷ []
under_way (Seq v) Second n = 1 ∷ 2 ∷ []
under_way Par Both n = 0 ∷ 1 ∷ 2 ∷ []
under_way Par LeftOnly n = 0 ∷ 2 ∷ []
under_way Par RightOnly n = 1 ∷ 2 ∷ []
under_way (If v) Test n = 0 ∷ 3 ∷ []
under_way (If v) Branch n = (if nat_eq n 1 then 1 else 2) ∷ 3 ∷ []
under_way While Test n = 0 ∷ 2 ∷ []
under_way While Body n = 1 ∷ 2 ∷ []
under_way (Op op w) Left n = 0 ∷ 2 ∷ []
under_way (Op op w) Right n = 1 ∷ 2 ∷ []
under_way (Not w) Waiting n = 0 ∷ 1 ∷ []
under_way (Assign w) Value n = 0 ∷ 2 ∷ []
under_way (Assign w) Writing n = 1 ∷ 2 ∷ []
under_way (Deref w) Waiting n = 0 ∷ 1 ∷ []
under_way (Local w v) Active n = 0 ∷ 3 ∷ []
under_way (Array w k v) (Cells ns) n = 0 ∷ 4 ∷ []
under_way (Array w k v) (Reading ns) n = 0 ∷ 1 ∷ 2 ∷ 4 ∷ []
under_way (Array w k v) (WritingTo ns) n = 0 ∷ 1 ∷ 3 ∷ 4 ∷ []
under_way k p n = []

-- whether a handshake of a part is under way
abbrev pub is_engaged : Part → State → ℕ → Bool
is_engaged k q h = list_any (nat_eq h) (under_way k q.phase q.number)

-- the same of a part that there is
abbrev pub is_engaged_at : Option Part → State → ℕ → Bool
is_engaged_at None q h = false
is_engaged_at (Some k) q h = is_engaged k q h
