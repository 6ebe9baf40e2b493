use Rattle.std.proofs.Common.{◌≡◌, sym, subst}
use Rattle.gos_order.specs.declared.links.Way.{Way}
use Rattle.gos_order.specs.declared.links.Way.TheVariants.{Out, In}
use Rattle.gos_order.specs.inner.Chains.{far_at}
use Rattle.gos_order.proofs.LinkLemmas.{far_is, far_below}
use Rattle.gos_order.proofs.links.Links.far.Goals as goal

pub returns-in-Out-clause-node : goal.returns-in-Out-clause-node
returns-in-Out-clause-node c =
    subst (λ (way : Way). c.index.result.now.to ≡ far_at way c.args.self.now.edges c.args.place) (sym c.in-Out.is)
    (far_is c.self.inside c.self.invariant c.args.self.now c.self.view_is c.args.place c.requires c.index.result.now c.index.ensures Out)

pub returns-in-Out-clause-below : goal.returns-in-Out-clause-below
returns-in-Out-clause-below c =
    far_below c.self.inside c.self.invariant c.args.self.now c.self.view_is c.args.place c.requires c.index.result.now c.index.ensures Out

pub returns-in-In-clause-node : goal.returns-in-In-clause-node
returns-in-In-clause-node c =
    subst (λ (way : Way). c.index-in-In.result.now.from ≡ far_at way c.args.self.now.edges c.args.place) (sym c.in-In.is)
    (far_is c.self.inside c.self.invariant c.args.self.now c.self.view_is c.args.place c.requires c.index-in-In.result.now c.index-in-In.ensures In)

pub returns-in-In-clause-below : goal.returns-in-In-clause-below
returns-in-In-clause-below c =
    far_below c.self.inside c.self.invariant c.args.self.now c.self.view_is c.args.place c.requires c.index-in-In.result.now c.index-in-In.ensures In
