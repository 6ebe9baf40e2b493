use Rattle.std.proofs.Common.{◌∙◌, ℕ, Option, ap, ◌∷◌, []}
use Rattle.gos_outside.specs.Files.{Files, with_file}
use Rattle.gos_plan.specs.ObjectText.{text_of}
use Rattle.gos_plan.specs.Seen.{plan_of}
use Rattle.gos_tool.proofs.lemmas.objects.CompiledLemmas.{compiled}
use Rattle.gos_outside.specs.Calls.{Whole, Write}
use Rattle.gos_outside.proofs.CallsLemmas.{goes_on}
use Rattle.gos_command.proofs.EndLemmas.{early, late}
use Rattle.gos_tool.specs.Calls.{read_source}
use Rattle.gos_tool.proofs.objects.compiling.compile_source.Goals as goal
use Rattle.gos_command.specs.declared.report.Report.TheVariants as reports

pub returns-clause-done : goal.returns-clause-done
returns-clause-done g c =
    let linear = c.in_ok-linear.linear in
    let plan = plan_of c.in_ok-_plan._plan in
    compiled (g.S.Store.contents c.args.store.now) (g.S.Store.contents c.write_plan.new.store) c.args.source.now c.args.object.now linear plan
    (reports.Weight c.weight.result) c.in_ok-linear.ensures.typed c.in_ok-_plan.ensures.made
    (c.in_ok-_plan.ensures.wrote ∙ ap (λ (told : Option Files). with_file c.args.object.now (text_of plan) told) c.in_ok-linear.ensures.same_files)
    (ap (λ (n : ℕ). reports.Weight n) c.weight.ensures)

pub returns-in_err-linear-clause-calls : goal.returns-in_err-linear-clause-calls
returns-in_err-linear-clause-calls g c =
    early _ _ (read_source c.args.source.now ∷ []) (Write c.args.object.now ∷ []) (g.S.Store.calls c.args.store.now) (g.S.Store.calls c.module_in.new.store) c.from_residual.ensures.1 c.in_err-linear.ensures.calls

pub returns-in_err-_plan-clause-calls : goal.returns-in_err-_plan-clause-calls
returns-in_err-_plan-clause-calls g c =
    late _ _ (read_source c.args.source.now ∷ []) (Write c.args.object.now ∷ []) (g.S.Store.calls c.args.store.now) (g.S.Store.calls c.module_in.new.store) (g.S.Store.calls c.write_plan.new.store) c.from_residual-in_err-_plan.ensures.1
    c.in_ok-linear.ensures.calls c.in_err-_plan.ensures.calls

pub returns-clause-calls : goal.returns-clause-calls
returns-clause-calls g c =
    goes_on Whole (read_source c.args.source.now ∷ []) (Write c.args.object.now ∷ []) (g.S.Store.calls c.args.store.now) (g.S.Store.calls c.module_in.new.store) (g.S.Store.calls c.write_plan.new.store) c.in_ok-linear.ensures.calls c.in_ok-_plan.ensures.calls
