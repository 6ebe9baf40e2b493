use Rattle.std.proofs.Common.{◌≡◌, ◌≤◌, take, map, filter, length}
use Rattle.gos_plan.specs.Plans.{Plan, is_free}
use Rattle.gos_plan.specs.Seen.{end_of}
use Rattle.gos_expand.specs.Starts.{Laying}
use Rattle.gos_expand.specs.inner.Arrivals.{AreAt, Exist, joined_start}
use Rattle.gos_expand.proofs.numbering.free_ends.Given as goal

-- the ends so far that are in no joint
abbrev pub invariant-loop-end : goal.invariant-loop-end
invariant-loop-end l =
    ((lay : Laying) (p : Plan) → AreAt p (joined_start lay p) l.arrivals → Exist p (map end_of l.ends)
    → map end_of l.free.items ≡ filter (λ e. is_free e p.joints) (take l.end-index (map end_of l.ends)))
    × (length l.free.items ≤ l.end-index)
