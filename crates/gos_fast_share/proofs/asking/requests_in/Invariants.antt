use Rattle.std.proofs.Common.{◌≡◌, ◌+◌, ◌≤◌, drop}
use Rattle.gos_fast_share.specs.Thread.{requests}
use Rattle.gos_fast_share.specs.inner.Seen.{all_of}
use Rattle.gos_fast_share.proofs.asking.requests_in.Given as goal

-- the requests so far and those to come are all of them
abbrev pub invariant-loop-e : goal.invariant-loop-e
invariant-loop-e l =
    (l.total + requests (all_of l.ty) (drop l.e-index l.order) ≡ requests (all_of l.ty) l.order) × (l.total ≤ l.e-index)
