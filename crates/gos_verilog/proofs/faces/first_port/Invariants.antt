use Rattle.gos_verilog.specs.inner.Breaks.{AllMiss}
use Rattle.gos_verilog.proofs.FaceLemmas.{KindAt}
use Rattle.gos_verilog.proofs.faces.first_port.Given as goal

-- no port of the kinds so far stands
abbrev pub invariant-loop-kind : goal.invariant-loop-kind
invariant-loop-kind l = AllMiss (KindAt l.name) l.rest 0 l.kind-index l.furthest
