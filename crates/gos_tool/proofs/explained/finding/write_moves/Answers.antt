use Rattle.std.proofs.Common.{◌∷◌, [], refl}
use Rattle.gos_outside.specs.Calls.{Write}
use Rattle.gos_command.proofs.EndLemmas.{early, out_after}
use Rattle.gos_tool.proofs.explained.finding.write_moves.Goals as goal

pub returns-in_err-text-clause-calls : goal.returns-in_err-text-clause-calls
returns-in_err-text-clause-calls g c =
    out_after _ [] (Write c.args.moves.now ∷ []) (g.S.Store.calls c.args.store.now) (g.S.Store.calls c.args.store.now) c.from_residual.ensures.1 refl

pub returns-in_err-write_file-clause-calls : goal.returns-in_err-write_file-clause-calls
returns-in_err-write_file-clause-calls g c =
    early _ _ (Write c.args.moves.now ∷ []) [] (g.S.Store.calls c.args.store.now) (g.S.Store.calls c.write_file.new.store) c.from_residual-in_err-write_file.ensures.1 c.in_err-write_file.ensures.calls
