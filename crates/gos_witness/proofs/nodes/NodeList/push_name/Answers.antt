use Rattle.std.proofs.Common.{◌∷◌, ◌++◌, [], List, sym, subst}
use Rattle.gos_model.specs.Terms.{Name}
use Rattle.gos_witness.specs.NodeLists.{Listed, IsKept}
use Rattle.gos_witness.specs.inner.Lists.{list_of}
use Rattle.gos_witness.specs.inner.Keeping.{Keeps}
use Rattle.gos_witness.proofs.TableLemmas.{retabled, name_more}
use Rattle.gos_witness.proofs.nodes.NodeList.push_name.Goals as goal

pub invariant_of-self : goal.invariant_of-self
invariant_of-self c =
    let l = list_of c.self.inside in
    subst (λ (xs : List Name). IsKept (record l { tables = record l.tables { names = xs } })) (sym c.in_err-push.ensures.items) c.self.invariant

pub invariant_of-self-2 : goal.invariant_of-self-2
invariant_of-self-2 c =
    let l = list_of c.self.inside in
    subst (λ (xs : List Name). IsKept (record l { tables = record l.tables { names = xs } })) (sym c.in_ok-push.ensures.items)
    (retabled l (record l.tables { names = l.tables.names ++ c.args.name ∷ [] }) c.self.invariant (name_more l.tables c.args.name)).0

pub returns-clause-keeps : goal.returns-clause-keeps
returns-clause-keeps c =
    let l = list_of c.self.inside in
    subst (λ (x : Listed). Keeps x (record l { tables = record l.tables { names = c.push.new.self.items } })) c.self.view_is
    (subst (λ (xs : List Name). Keeps l (record l { tables = record l.tables { names = xs } })) (sym c.in_ok-push.ensures.items)
    (retabled l (record l.tables { names = l.tables.names ++ c.args.name ∷ [] }) c.self.invariant (name_more l.tables c.args.name)).1)
