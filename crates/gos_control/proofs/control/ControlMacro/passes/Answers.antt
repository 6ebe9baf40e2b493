use Rattle.std.proofs.Common.{Bool, sym, ◌∙◌, ap, subst}
use Rattle.gos_plan.specs.declared.kinds.Kind.{Kind}
use Rattle.gos_plan.specs.Seen.{part_of}
use Rattle.gos_macro.specs.Paths.{TellsIfItPasses}
use Rattle.gos_control.specs.Layout.{layout, outs_of, passing_of}
use Rattle.gos_control.specs.Ranges.{IsControl}
use Rattle.gos_control.specs.laws.Paths.{control_paths}
use Rattle.gos_control.proofs.control.ControlMacro.passes.Goals as goal

pub returns-clause-path : goal.returns-clause-path
returns-clause-path c =
    let k = part_of c.args.self.now in
    let is = subst IsControl c.self.view_is c.self.invariant in
    let known = c.leads.ensures ∙ ap (λ (x : Kind). passing_of (part_of x) c.args.from c.args.to) c.self.view_is in
    subst (λ (answer : Bool). TellsIfItPasses k (layout k) (outs_of k) c.args.from c.args.to answer) (sym known)
    ((control_paths c.args.self.now is).exact c.args.from c.args.to c.requires.from c.requires.to)
