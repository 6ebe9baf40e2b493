use Rattle.std.proofs.Common.{map}
use Rattle.gos_link.specs.Linked.{AreGround}
use Rattle.gos_link.specs.inner.Opens.{open_seen}
use Rattle.gos_link.proofs.whole.first_higher.Given as goal

-- the imports so far are ground
abbrev pub invariant-loop-open : goal.invariant-loop-open
invariant-loop-open l = AreGround l.open-index (map open_seen l.opens)
