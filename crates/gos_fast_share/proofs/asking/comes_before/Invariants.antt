use Rattle.std.proofs.Common.{◌≡◌, drop}
use Rattle.gos_fast_share.specs.Thread.{stands_before}
use Rattle.gos_fast_share.proofs.asking.comes_before.Given as goal

-- neither handshake stands among those so far
abbrev pub invariant-loop-d : goal.invariant-loop-d
invariant-loop-d l = stands_before l.e l.j (drop l.d-index l.order) ≡ stands_before l.e l.j l.order
