use Rattle.std.proofs.Common.{◌∷◌, []}
use Rattle.gos_outside.specs.Calls.{Write}
use Rattle.gos_outside.proofs.CallsLemmas.{goes_on}
use Rattle.gos_command.proofs.EndLemmas.{early}
use Rattle.gos_tool.specs.Calls.{read_pulses}
use Rattle.gos_tool.proofs.simulate.simulation.simulate.Goals as goal

pub returns-in_err-text-clause-calls : goal.returns-in_err-text-clause-calls
returns-in_err-text-clause-calls g c =
    early _ _ (read_pulses c.args.pulses.now ∷ []) (Write c.args.trace.now ∷ []) (g.S.Store.calls c.args.store.now) (g.S.Store.calls c.read_file.new.store) c.from_residual.ensures.1 c.in_err-text.ensures.calls

pub returns-in-Ok-clause-calls : goal.returns-in-Ok-clause-calls
returns-in-Ok-clause-calls g c =
    goes_on _ (read_pulses c.args.pulses.now ∷ []) (Write c.args.trace.now ∷ []) (g.S.Store.calls c.args.store.now) (g.S.Store.calls c.read_file.new.store) (g.S.Store.calls c.run.new.store) c.in_ok-text.ensures.calls c.run.ensures.calls
