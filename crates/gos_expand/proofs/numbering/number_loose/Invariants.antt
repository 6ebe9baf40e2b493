use Rattle.std.proofs.Common.{◌≡◌, ◌≤◌, ◌+◌, ◌*◌, Option, take, map}
use Rattle.gos_plan.specs.Plans.{End, Plan}
use Rattle.gos_plan.specs.Seen.{end_of}
use Rattle.gos_expand.specs.declared.arrivals.Origin.{Origin}
use Rattle.gos_expand.specs.Blocks.{total}
use Rattle.gos_expand.specs.Starts.{loose_size}
use Rattle.gos_expand.specs.inner.Arrivals.{AreAt, or_else, start_by_ends}
use Rattle.gos_expand.proofs.numbering.number_loose.Given as goal

-- the origins by the ends so far, and what comes behind these
abbrev pub invariant-loop-end : goal.invariant-loop-end
invariant-loop-end l =
    ((p : Plan) (f : End → Option Origin) → AreAt p f l.initial.arrivals → AreAt p (λ e. or_else (f e) (start_by_ends p l.from (take l.end-index (map end_of l.loose)) e)) l.arrivals)
    × ((p : Plan) (f : End → Option Origin) → AreAt p f l.initial.arrivals → l.next ≡ l.from + total (loose_size p) 0 (take l.end-index (map end_of l.loose)))
    × (l.next ≤ l.from + 2 * l.end-index)
