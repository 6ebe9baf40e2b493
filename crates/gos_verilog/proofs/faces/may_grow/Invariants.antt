use Rattle.gos_netcheck.specs.Rules.{KeptBefore}
use Rattle.gos_verilog.proofs.FreeLemmas.{IsShorter}
use Rattle.gos_verilog.proofs.faces.may_grow.Given as goal

-- no port's name so far begins with the bytes and grows
abbrev pub invariant-loop-face : goal.invariant-loop-face
invariant-loop-face l = KeptBefore (IsShorter l.places l.bytes) l.faces l.face-index
