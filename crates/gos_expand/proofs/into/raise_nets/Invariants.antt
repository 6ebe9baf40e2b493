use Rattle.std.specs.Prelude.{◌≡◌, ◌++◌, map, take, drop}
use Rattle.gos_expand.specs.inner.Raised.{raised_net}
use Rattle.gos_expand.proofs.into.raise_nets.Given as goal

-- the nets before the index are raised, and the others are as they were
abbrev pub invariant-loop-net : goal.invariant-loop-net
invariant-loop-net l = l.nets ≡ map (raised_net l.by) (take l.net-index l.initial.nets) ++ drop l.net-index l.initial.nets
