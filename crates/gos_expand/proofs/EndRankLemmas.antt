-- Without a combinational cycle the ends of a plan have ranks, which rise wherever what comes in passes on in one cycle.
--
-- Read first: Facts; DepthLemmas, EndRingLemmas. The rank of an end is the depth of the pulse that comes in there.
use Rattle.std.proofs.Common.{◌≡◌, ◌<◌, ℕ, List, [], ◌∷◌, slice_get, Some, Contains, subst, arith}
use Rattle.gos_netlist.specs.Nets.{Cell, pins}
use Rattle.gos_netlist.specs.Cycles.{HasCycle}
use Rattle.gos_plan.specs.Kinds.{Part}
use Rattle.gos_plan.specs.Plans.{End, PartEnd, Plan}
use Rattle.gos_macro.specs.Paths.{Path}
use Rattle.gos_expand.specs.Starts.{Laying}
use Rattle.gos_expand.specs.Facts.{Places, incoming_at, Rises}
use Rattle.gos_expand.proofs.DepthLemmas.{depth_of, depths_rise}
use Rattle.gos_expand.proofs.WiredLemmas.{Wired, naming}
use Rattle.gos_expand.proofs.StrideLemmas.{gates_of}
use Rattle.gos_expand.proofs.EndRingLemmas.{driven, passage}

path_rises : (lay : Laying) (p : Plan) (cells : List Cell) (n : Places) → Wired lay p cells n → (HasCycle cells → ⊥) → (i : ℕ) (k : Part)
    → slice_get p.parts i ≡ Some k
    → (m : ℕ) (ns : List ℕ) (z : ℕ) → Path (n.start i) (gates_of (lay.making i) k (n.start i)) m ns z
    → (u : ℕ) → naming (lay.making i) k (n.start i) (incoming_at p n i) m ≡ u
    → depth_of cells u < depth_of cells z
path_rises lay p cells n wired none i k there m [] z path u same =
    let x = driven lay p cells n wired i k there m z path in
    depths_rise cells none u z x.cell x.stands x.free (subst (λ (a : ℕ). Contains (pins x.cell.gate) a) same x.pin)
path_rises lay p cells n wired none i k there m (y ∷ ns) z path u same =
    let x = driven lay p cells n wired i k there m y path.0 in
    let first = depths_rise cells none u y x.cell x.stands x.free (subst (λ (a : ℕ). Contains (pins x.cell.gate) a) same x.pin) in
    let rest = path_rises lay p cells n wired none i k there y ns z path.1 y x.stays in
    omega (arith, first, rest)

-- the rank of an end
abbrev pub rank_of : List Cell → Places → End → ℕ
rank_of cells n e = depth_of cells (n.arrives e).pulse

pub ranks_rise : (lay : Laying) (p : Plan) (cells : List Cell) (n : Places) → Wired lay p cells n → (HasCycle cells → ⊥)
    → Rises lay p (rank_of cells n)
ranks_rise lay p cells n wired none i from to x =
    let way = passage lay p cells n wired (record { part = i; number = from }) to x in
    path_rises lay p cells n wired none i way.kind way.there way.start way.ns (n.arrives to).pulse way.path (n.arrives (PartEnd i from)).pulse way.comes
