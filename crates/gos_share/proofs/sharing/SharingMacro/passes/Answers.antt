use Rattle.std.proofs.Common.{◌≡◌, Bool, sym, ◌∙◌, ap, subst}
use Rattle.gos_types.specs.declared.types.Ty.{Ty}
use Rattle.gos_types.specs.Types.{type_of}
use Rattle.gos_plan.specs.Kinds.{Share}
use Rattle.gos_macro.specs.Paths.{TellsIfItPasses}
use Rattle.gos_share.specs.Share.{share_passing}
use Rattle.gos_share.specs.Layout.{layout, outs_of}
use Rattle.gos_share.specs.inner.Seen.{all_of}
use Rattle.gos_share.specs.laws.Paths.{share_passes}
use Rattle.gos_share.proofs.sharing.SharingMacro.passes.Goals as goal

pub returns-clause-path : goal.returns-clause-path
returns-clause-path c =
    let t = type_of c.args.self.now in
    let known : c.passes.result ≡ share_passing (all_of c.args.self.now) c.args.from c.args.to =
    c.passes.ensures ∙ ap (λ (u : Ty). share_passing (all_of u) c.args.from c.args.to) c.self.view_is in
    subst (λ (answer : Bool). TellsIfItPasses (Share t) (layout (Share t)) (outs_of (Share t)) c.args.from c.args.to answer) (sym known)
    (share_passes t c.args.from c.args.to c.requires.from)
