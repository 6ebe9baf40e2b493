use Rattle.std.specs.Prelude.{IfSome}
use Rattle.gos_command.proofs.EndLemmas.{of_stopped}
use Rattle.gos_tool.specs.netlists.Netlist.{IsNetFault}
use Rattle.gos_tool.proofs.lemmas.netlists.NetLemmas.{refused}
use Rattle.gos_tool.proofs.netlists.reading.checked_net.Goals as goal

pub returns-in-Err-clause-rejected : goal.returns-in-Err-clause-rejected
returns-in-Err-clause-rejected g c =
    let old = g.S.Store.contents c.args.store.now in
    of_stopped _ (λ fault line. IfSome old (λ files. IsNetFault files c.args.net.now fault line)) c.reject.result
    (λ fault line h. refused old c.args.net.now c.in_ok-circuit.circuit c.in-Err.refused.fault fault line c.in_ok-circuit.ensures.read c.in-Err.ensures.fault h.1 h.0 h.2)
    c.reject.ensures.stopped
