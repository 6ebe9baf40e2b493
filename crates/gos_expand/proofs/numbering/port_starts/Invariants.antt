use Rattle.std.proofs.Common.{◌≡◌, ◌≤◌, ◌+◌, ◌*◌, take}
use Rattle.gos_plan.specs.Seen.{plan_of}
use Rattle.gos_expand.specs.Blocks.{total}
use Rattle.gos_expand.specs.Starts.{port_size, ports_of}
use Rattle.gos_expand.specs.inner.Numbering.{starts}
use Rattle.gos_expand.proofs.numbering.port_starts.Given as goal

-- the starts of the ports so far, and what comes behind these
abbrev pub invariant-loop-import : goal.invariant-loop-import
invariant-loop-import l =
    (l.starts.items ≡ starts port_size 0 0 (take (l.import-index + 1) (ports_of (plan_of l.plan))))
    × (l.next ≡ total port_size 0 (take (l.import-index + 1) (ports_of (plan_of l.plan))))
    × (l.next ≤ 6 * (l.import-index + 1))
