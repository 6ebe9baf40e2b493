use Rattle.std.proofs.Common.{take}
use Rattle.gos_netcheck.specs.Rules.{KeptBefore}
use Rattle.gos_netcheck.specs.inner.PortSearch.{HasNames}
use Rattle.gos_verilog.specs.Readable.{HasOwnName}
use Rattle.gos_verilog.proofs.readable.have_own_names.Given as goal

-- the ports so far have names of their own, which the set has
abbrev pub invariant-loop-port : goal.invariant-loop-port
invariant-loop-port l = record { own : KeptBefore (HasOwnName l.ports) l.ports l.port-index; names : HasNames l.names (take l.port-index l.ports) }
