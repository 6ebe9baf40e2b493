use Rattle.std.proofs.Common.{◌<◌, refl, sym, subst, length}
use Rattle.std.proofs.lemmas.Option.{slice_get_read}
use Rattle.gos_witness.specs.Sizes.{size}
use Rattle.gos_witness.specs.NodeLists.{Listed, IsRight, seen}
use Rattle.gos_witness.specs.inner.Lists.{list_of}
use Rattle.gos_witness.proofs.KeepLemmas.{counted}
use Rattle.gos_witness.proofs.nodes.NodeList.node.Goals as goal

pub returns-clause-right : goal.returns-clause-right
returns-clause-right c =
    let there : c.args.number < length c.self.inside.nodes.items =
    subst (λ (x : Listed). c.args.number < length x.nodes) (sym c.self.view_is) c.requires in
    let at = slice_get_read c.self.inside.nodes.items (length c.self.inside.nodes.items) c.args.number c.index.result.now refl there c.index.ensures in
    subst (λ (x : Listed). IsRight x c.args.number c.index.result.now) c.self.view_is (c.self.invariant c.args.number c.index.result.now at)

pub returns-clause-bounded : goal.returns-clause-bounded
returns-clause-bounded c =
    let there : c.args.number < length c.self.inside.nodes.items =
    subst (λ (x : Listed). c.args.number < length x.nodes) (sym c.self.view_is) c.requires in
    let at = slice_get_read c.self.inside.nodes.items (length c.self.inside.nodes.items) c.args.number c.index.result.now refl there c.index.ensures in
    let right : IsRight (list_of c.self.inside) c.args.number c.index.result.now = c.self.invariant c.args.number c.index.result.now at in
    counted c.index.result.now.size (size (seen (list_of c.self.inside) c.args.number)) right.size
