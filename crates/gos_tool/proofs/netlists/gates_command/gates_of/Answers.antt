use Rattle.std.specs.Prelude.{IfSome}
use Rattle.gos_command.proofs.EndLemmas.{of_stopped}
use Rattle.gos_tool.specs.netlists.Gates.{IsGatesFault}
use Rattle.gos_tool.proofs.lemmas.netlists.NetLemmas.{too_large}
use Rattle.gos_tool.proofs.netlists.gates_command.gates_of.Goals as goal

pub returns-clause-rejected : goal.returns-clause-rejected
returns-clause-rejected g c =
    let old = g.S.Store.contents c.args.store.now in
    of_stopped _ (λ fault line. IfSome old (λ files. IsGatesFault files c.args.net.now fault line)) c.reject.result
    (λ fault line h. too_large old c.args.net.now c.in_ok-given.given c.in-Err.fault fault line c.in_ok-given.ensures.says c.in-Err.ensures.fault h.1 h.0 h.2)
    c.reject.ensures.stopped
