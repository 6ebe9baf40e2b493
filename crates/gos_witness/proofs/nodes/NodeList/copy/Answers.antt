use Rattle.std.proofs.Common.{rules, ◌≡◌, List, map, sym, subst}
use Rattle.gos_types.specs.Types.{type_of}
use Rattle.gos_model.specs.Terms.{Name}
use Rattle.gos_witness.specs.declared.nodes.Node.{Node}
use Rattle.gos_witness.specs.NodeLists.{Listed, IsKept}
use Rattle.gos_witness.specs.inner.Lists.{list_of}
use Rattle.gos_witness.specs.inner.Keeping.{Keeps}
use Rattle.gos_witness.proofs.TableLemmas.{retabled, tables_copied}
use Rattle.gos_witness.proofs.nodes.NodeList.copy.Goals as goal

pub invariant_of-result : goal.invariant_of-result
invariant_of-result c =
    let l = list_of c.self.inside in
    let copies = c.in_ok-types.types.items in
    let types : map type_of copies ≡ map type_of l.tables.types = search rules in
    let names : c.in_ok-names.names.items ≡ l.tables.names = search rules in
    let nodes : c.in_ok-nodes.nodes.items ≡ l.nodes = search rules in
    subst (λ (xs : List Name). IsKept (record { tables = record { types = copies; names = xs }; nodes = c.in_ok-nodes.nodes.items })) (sym names)
    (subst (λ (ns : List Node). IsKept (record { tables = record l.tables { types = copies }; nodes = ns })) (sym nodes)
    (retabled l (record l.tables { types = copies }) c.self.invariant (tables_copied l.tables copies types)).0)

pub returns : goal.returns
returns c =
    let l = list_of c.self.inside in
    let copies = c.in_ok-types.types.items in
    let types : map type_of copies ≡ map type_of l.tables.types = search rules in
    let names : c.in_ok-names.names.items ≡ l.tables.names = search rules in
    let nodes : c.in_ok-nodes.nodes.items ≡ l.nodes = search rules in
    subst (λ (x : Listed). Keeps x (record { tables = record { types = copies; names = c.in_ok-names.names.items }; nodes = c.in_ok-nodes.nodes.items })) c.self.view_is
    (subst (λ (xs : List Name). Keeps l (record { tables = record { types = copies; names = xs }; nodes = c.in_ok-nodes.nodes.items })) (sym names)
    (subst (λ (ns : List Node). Keeps l (record { tables = record l.tables { types = copies }; nodes = ns })) (sym nodes)
    (retabled l (record l.tables { types = copies }) c.self.invariant (tables_copied l.tables copies types)).1))
