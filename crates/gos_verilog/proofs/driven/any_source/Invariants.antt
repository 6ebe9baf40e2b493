use Rattle.std.proofs.Common.{◌+◌}
use Rattle.gos_verilog.specs.inner.Breaks.{AllMiss}
use Rattle.gos_verilog.proofs.LeftDriverLemmas.{SourceAt}
use Rattle.gos_verilog.proofs.driven.any_source.Given as goal

-- the line of no net so far stands
abbrev pub invariant-loop-k : goal.invariant-loop-k
invariant-loop-k l = AllMiss (SourceAt l.nets l.i l.width) l.rest 0 (l.k + 1) l.furthest
