use Rattle.std.proofs.Common.{◌∷◌, ◌++◌, [], List, sym, subst}
use Rattle.gos_types.specs.declared.types.Ty.{Ty}
use Rattle.gos_witness.specs.NodeLists.{Listed, IsKept}
use Rattle.gos_witness.specs.inner.Lists.{list_of}
use Rattle.gos_witness.specs.inner.Keeping.{Keeps}
use Rattle.gos_witness.proofs.TableLemmas.{retabled, type_more}
use Rattle.gos_witness.proofs.nodes.NodeList.push_type.Goals as goal

pub invariant_of-self : goal.invariant_of-self
invariant_of-self c =
    let l = list_of c.self.inside in
    subst (λ (xs : List Ty). IsKept (record l { tables = record l.tables { types = xs } })) (sym c.in_err-push.ensures.items) c.self.invariant

pub invariant_of-self-2 : goal.invariant_of-self-2
invariant_of-self-2 c =
    let l = list_of c.self.inside in
    subst (λ (xs : List Ty). IsKept (record l { tables = record l.tables { types = xs } })) (sym c.in_ok-push.ensures.items)
    (retabled l (record l.tables { types = l.tables.types ++ c.args.ty ∷ [] }) c.self.invariant (type_more l.tables c.args.ty)).0

pub returns-clause-keeps : goal.returns-clause-keeps
returns-clause-keeps c =
    let l = list_of c.self.inside in
    subst (λ (x : Listed). Keeps x (record l { tables = record l.tables { types = c.push.new.self.items } })) c.self.view_is
    (subst (λ (xs : List Ty). Keeps l (record l { tables = record l.tables { types = xs } })) (sym c.in_ok-push.ensures.items)
    (retabled l (record l.tables { types = l.tables.types ++ c.args.ty ∷ [] }) c.self.invariant (type_more l.tables c.args.ty)).1)
