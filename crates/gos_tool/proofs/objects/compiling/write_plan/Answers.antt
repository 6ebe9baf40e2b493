use Rattle.std.proofs.Common.{◌∙◌, ℕ, List, ap, ◌∷◌, [], refl}
use Rattle.gos_outside.specs.Files.{with_file}
use Rattle.gos_outside.specs.Calls.{Write}
use Rattle.gos_command.proofs.EndLemmas.{early, out_after}
use Rattle.gos_tool.proofs.objects.compiling.write_plan.Goals as goal

pub returns-clause-wrote : goal.returns-clause-wrote
returns-clause-wrote g c =
    c.in_ok-write_file.ensures.written
    ∙ ap (λ (text : List ℕ). with_file c.args.object.now text (g.S.Store.contents c.args.store.now)) (c.as_slice.ensures.value ∙ c.in_ok-text.ensures)

pub returns-in_err-plan-clause-calls : goal.returns-in_err-plan-clause-calls
returns-in_err-plan-clause-calls g c =
    out_after _ [] (Write c.args.object.now ∷ []) (g.S.Store.calls c.args.store.now) (g.S.Store.calls c.args.store.now) c.from_residual.ensures.1 refl

pub returns-in_err-text-clause-calls : goal.returns-in_err-text-clause-calls
returns-in_err-text-clause-calls g c =
    out_after _ [] (Write c.args.object.now ∷ []) (g.S.Store.calls c.args.store.now) (g.S.Store.calls c.args.store.now) c.from_residual-in_err-text.ensures.1 refl

pub returns-in_err-write_file-clause-calls : goal.returns-in_err-write_file-clause-calls
returns-in_err-write_file-clause-calls g c =
    early _ _ (Write c.args.object.now ∷ []) [] (g.S.Store.calls c.args.store.now) (g.S.Store.calls c.write_file.new.store) c.from_residual-in_err-write_file.ensures.1 c.in_err-write_file.ensures.calls
