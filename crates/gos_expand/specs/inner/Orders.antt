-- For which order of its handshakes the gates of each part are made, as the program keeps it.
--
-- Read first: Gates. Between the functions of this crate.
use Rattle.std.specs.Prelude.{◌≡◌, ◌<◌, ◌*◌, ℕ, List, Option, None, Some, All, Vec, length, slice_get}
use Rattle.std.specs.Global.{Global}
use Rattle.gos_plan.specs.Kinds.{Part, Share, contacts_of}
use Rattle.gos_expand.specs.declared.orders.Orders.{Orders}
use Rattle.gos_expand.specs.Gates.{Making, ForEach, ForOrder}

-- gates that are made for this order, or for none
abbrev pub making_of : Option (List ℕ) → Making
making_of None = ForEach
making_of (Some order) = ForOrder order

-- for the one that is kept for a part
abbrev pub kept_order : Option (Option (Vec ℕ Global)) → Option (List ℕ)
kept_order None = None
kept_order (Some None) = None
kept_order (Some (Some order)) = Some order.items

abbrev pub making_in : Orders → ℕ → Making
making_in orders i = making_of (kept_order (slice_get orders.parts.items i))

-- The order has as many numbers as the part has handshakes, and each is that of one.
abbrev pub IsOrderOf : Making → Part → Type 0
IsOrderOf (ForOrder order) (Share t) = (length order ≡ 3 * length (contacts_of t)) × All (λ e. e < 3 * length (contacts_of t)) order
IsOrderOf m k = Unit {0}

-- so it is of all parts
abbrev pub AreOrdersOf : (ℕ → Making) → List Part → Type 0
AreOrdersOf making parts = (i : ℕ) (k : Part) → slice_get parts i ≡ Some k → IsOrderOf (making i) k
