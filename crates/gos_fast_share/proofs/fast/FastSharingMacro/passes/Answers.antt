use Rattle.std.proofs.Common.{◌≡◌, Bool, sym, ◌∙◌, ap, subst}
use Rattle.gos_types.specs.Types.{type_of}
use Rattle.gos_plan.specs.Kinds.{Share}
use Rattle.gos_macro.specs.Paths.{TellsIfItPasses}
use Rattle.gos_fast_share.specs.Fast.{fast_cells, fast_outs, fast_passing}
use Rattle.gos_fast_share.specs.Made.{Made}
use Rattle.gos_fast_share.specs.inner.Seen.{all_of}
use Rattle.gos_fast_share.specs.laws.Paths.{fast_paths}
use Rattle.gos_fast_share.proofs.fast.FastSharingMacro.passes.Goals as goal

pub returns-clause-path : goal.returns-clause-path
returns-clause-path c =
    let s = c.args.self.now in
    let ks = all_of s.ty in
    let known : c.passes.result ≡ fast_passing ks s.order c.args.from c.args.to =
    c.passes.ensures ∙ ap (λ (m : Made). fast_passing (all_of m.ty) m.order c.args.from c.args.to) c.self.view_is in
    subst (λ (answer : Bool). TellsIfItPasses (Share (type_of s.ty)) (fast_cells ks s.order) (fast_outs ks s.order) c.args.from c.args.to answer) (sym known)
    ((fast_paths s.ty s.order).exact c.args.from c.args.to c.requires.from c.requires.to)
