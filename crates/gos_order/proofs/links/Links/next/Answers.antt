use Rattle.std.proofs.Common.{sym, subst}
use Rattle.gos_order.specs.declared.links.Way.{Way}
use Rattle.gos_order.specs.inner.Chains.{IsLast, near_at}
use Rattle.gos_order.proofs.LinkLemmas.{next_out_is, next_in_is}
use Rattle.gos_order.proofs.links.Links.next.Goals as goal

pub returns-in-Out : goal.returns-in-Out
returns-in-Out c =
    subst (λ (way : Way). IsLast way c.args.self.now.edges c.args.place (near_at way c.args.self.now.edges c.args.place) c.index.result.now.next_out)
    (sym c.in-Out.is)
    (next_out_is c.self.inside c.self.invariant c.args.self.now c.self.view_is c.args.place c.requires c.index.result.now c.index.ensures)

pub returns-in-In : goal.returns-in-In
returns-in-In c =
    subst (λ (way : Way). IsLast way c.args.self.now.edges c.args.place (near_at way c.args.self.now.edges c.args.place) c.index-in-In.result.now.next_in)
    (sym c.in-In.is)
    (next_in_is c.self.inside c.self.invariant c.args.self.now c.self.view_is c.args.place c.requires c.index-in-In.result.now c.index-in-In.ensures)
