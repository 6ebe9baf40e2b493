use Rattle.std.proofs.Common.{◌≡◌, ◌<◌, refl, sym, subst, length}
use Rattle.std.proofs.lemmas.Option.{slice_get_read}
use Rattle.gos_witness.specs.NodeLists.{Listed, Fits, seen, shape}
use Rattle.gos_witness.proofs.nodes.NodeList.form.Goals as goal

pub returns-clause-term : goal.returns-clause-term
returns-clause-term c =
    let there : c.args.number < length c.self.inside.nodes.items =
    subst (λ (x : Listed). c.args.number < length x.nodes) (sym c.self.view_is) c.requires in
    let at = slice_get_read c.self.inside.nodes.items (length c.self.inside.nodes.items) c.args.number c.index.result.now refl there c.index.ensures in
    subst (λ (x : Listed). seen x c.args.number ≡ shape x c.index.result.now.form) c.self.view_is (c.self.invariant c.args.number c.index.result.now at).term

pub returns-clause-fits : goal.returns-clause-fits
returns-clause-fits c =
    let there : c.args.number < length c.self.inside.nodes.items =
    subst (λ (x : Listed). c.args.number < length x.nodes) (sym c.self.view_is) c.requires in
    let at = slice_get_read c.self.inside.nodes.items (length c.self.inside.nodes.items) c.args.number c.index.result.now refl there c.index.ensures in
    subst (λ (x : Listed). Fits x.tables c.args.number c.index.result.now.form) c.self.view_is (c.self.invariant c.args.number c.index.result.now at).fits
