use Rattle.std.proofs.Common.{◌≡◌, ◌+◌, ◌≤◌, drop}
use Rattle.gos_fast_share.specs.Thread.{requests, requests_before}
use Rattle.gos_fast_share.specs.inner.Seen.{all_of}
use Rattle.gos_fast_share.proofs.asking.requests_ahead.Given as goal

-- the requests so far all stand before the handshake
abbrev pub invariant-loop-e : goal.invariant-loop-e
invariant-loop-e l =
    (l.total + requests_before (all_of l.ty) l.j (drop l.e-index l.order) ≡ requests_before (all_of l.ty) l.j l.order)
    × (l.total + requests (all_of l.ty) (drop l.e-index l.order) ≡ requests (all_of l.ty) l.order)
    × (l.total ≤ l.e-index)
