use Rattle.gos_flow.proofs.TextLemmas.{verilog_refused, verilog_said}
use Rattle.gos_flow.proofs.reading.checked_verilog.Goals as goal

pub returns-clause-says : goal.returns-clause-says
returns-clause-says g c =
    verilog_said (g.S.Store.contents c.args.store.now) c.args.ver.now c.in_ok-circuit.circuit c.accepted.result c.in_ok-circuit.ensures.read c.accepted.ensures.same c.accepted.ensures.accepted

pub returns-clause-rejected : goal.returns-clause-rejected
returns-clause-rejected g c =
    verilog_refused (g.S.Store.contents c.args.store.now) c.args.ver.now c.in_ok-circuit.circuit c.accepted.result c.in_ok-circuit.ensures.read c.accepted.ensures.refused
