use Rattle.std.proofs.Common.{◌∷◌, []}
use Rattle.gos_command.proofs.EndLemmas.{stops_after}
use Rattle.gos_tool.specs.Calls.{read_netlist}
use Rattle.gos_tool.proofs.netlists.reading.circuit_in.Goals as goal

pub returns-clause-calls : goal.returns-clause-calls
returns-clause-calls g c =
    stops_after _ (read_netlist c.args.net.now ∷ []) ([]) (g.S.Store.calls c.args.store.now) (g.S.Store.calls c.read_file.new.store) c.reject.ensures.no_store c.in_ok-text.ensures.calls
