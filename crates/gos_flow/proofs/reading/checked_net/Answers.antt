use Rattle.gos_flow.proofs.TextLemmas.{net_refused}
use Rattle.gos_flow.proofs.reading.checked_net.Goals as goal

pub returns-clause-rejected : goal.returns-clause-rejected
returns-clause-rejected g c =
    net_refused (g.S.Store.contents c.args.store.now) c.args.net.now c.in_ok-circuit.circuit c.accepted.result c.in_ok-circuit.ensures.read c.accepted.ensures.refused
