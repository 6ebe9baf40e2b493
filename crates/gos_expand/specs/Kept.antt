-- The gates of each kind keep the laws, whichever crate lays them out.
--
-- Read first: Gates; Kept of gos_macro; Order of gos_fast_share.
use Rattle.std.specs.Prelude.{◌≡◌, ℕ, ◌+◌, ◌*◌, ◌≤◌, length}
use Rattle.gos_plan.specs.declared.kinds.Kind.{Kind}
use Rattle.gos_plan.specs.Seen.{part_of}
use Rattle.gos_plan.specs.Ranges.{IsInRange}
use Rattle.gos_plan.specs.Kinds.{Part, Share, part_contacts}
use Rattle.gos_plan.specs.Size.{numbers_in}
use Rattle.gos_macro.specs.Gates.{Incoming}
use Rattle.gos_macro.specs.Law.{Order}
use Rattle.gos_macro.specs.Kept.{KeepLaws}
use Rattle.gos_macro.specs.Fit.{GatesFit}
use Rattle.gos_macro.specs.Paths.{KeepPaths}
use Rattle.gos_fast_share.specs.Order.{IsByRank}
use Rattle.gos_expand.specs.Gates.{Making, ForOrder, layout, outs_of, late_of, pending_of, stands_of, passing_of}

-- the order of ranks is the one that the gates of a part are made for, if they are made for one
abbrev pub IsMadeFor : Making → Part → Order → Type 0
IsMadeFor (ForOrder order) (Share t) rank = IsByRank t order rank
IsMadeFor m k rank = Unit {0}

-- what the laws say of a kind, by the order of these ranks
abbrev pub KindKeeps : Making → Kind → Order → Type 0
KindKeeps m k rank =
    KeepLaws (part_of k) (layout m (part_of k)) (outs_of m (part_of k)) (late_of m (part_of k)) (pending_of m (part_of k)) (stands_of m (part_of k)) rank

-- Every kind in range keeps them, by each order that its gates are made for.
abbrev pub AllKeep : Type 0
AllKeep = (m : Making) (k : Kind) (rank : Order) → IsInRange k → IsMadeFor m (part_of k) rank → KindKeeps m k rank

-- and fits a netlist that is accepted
abbrev pub KindFits : Making → Kind → Type 0
KindFits m k = GatesFit (part_of k) (layout m (part_of k)) (outs_of m (part_of k))

abbrev pub AllFit : Type 0
AllFit = (m : Making) (k : Kind) → IsInRange k → KindFits m k

-- and keeps what is asked of paths
abbrev pub KindKeepsPaths : Making → Kind → Type 0
KindKeepsPaths m k =
    KeepPaths (part_of k) (layout m (part_of k)) (outs_of m (part_of k)) (late_of m (part_of k)) (passing_of m (part_of k))

abbrev pub AllKeepPaths : Type 0
AllKeepPaths = (m : Making) (k : Kind) → IsInRange k → KindKeepsPaths m k

-- the order that a Share's gates are made for, if they are made for one, is of as many handshakes as it has
abbrev pub IsWhole : Making → Part → Type 0
IsWhole (ForOrder order) (Share t) = length order ≡ length (part_contacts (Share t))
IsWhole m k = Unit {0}

-- no part has more than 24 cells for each of its handshakes, 8 for each number of an array, and 24 besides
abbrev pub AreFew : Type 0
AreFew =
    (m : Making) (k : Part) (b : ℕ) (i : Incoming)
    → IsWhole m k → length (layout m k b i) ≤ 24 * (length (part_contacts k) + 1) + 8 * numbers_in k
