use Rattle.std.proofs.Common.{◌≡◌, ◌<◌, Some, ap, arith, ◌∙◌}
use Rattle.std.specs.Prelude.{slice_get}
use Rattle.gos_witness.specs.declared.nodes.Form.{Form}
use Rattle.gos_witness.specs.NodeLists.{seen, shape, leaf_term, one_term}
use Rattle.gos_witness.specs.Ports.{imports_of, label_of}
use Rattle.gos_witness.proofs.ImportLemmas.{port_is, label_is}
use Rattle.gos_witness.proofs.ShowLemmas.{shown_at}
use Rattle.gos_witness.proofs.showing.show.Goals as goal

pub returns-in-Leaf-clause-outcome : goal.returns-in-Leaf-clause-outcome
returns-in-Leaf-clause-outcome c =
    let l = c.args.list.now in
    let ports = c.args.ports.now in
    let p = c.port_at-port.result.now in
    let some : 0 < c.args.label.port = grind (arith, c.if-label-eq0.false) in
    let at : slice_get ports c.args.label.port ≡ Some p = c.port_at-port.ensures in
    let term : seen l c.args.node ≡ leaf_term l.tables c.in-Leaf.leaf = c.node.ensures.right.term ∙ ap (λ (f : Form). shape l f) c.in-Leaf.is in
    shown_at c.show_leaf.new.list (imports_of ports) p c.args.label (label_of ports c.args.label) (seen l c.args.node) (leaf_term l.tables c.in-Leaf.leaf) c.show_leaf.result
    (port_is ports c.args.label.port p some c.requires.ports.apart at) (label_is ports c.args.label p some at) term c.show_leaf.ensures.outcome

pub returns-in-One-clause-outcome : goal.returns-in-One-clause-outcome
returns-in-One-clause-outcome c =
    let l = c.args.list.now in
    let ports = c.args.ports.now in
    let p = c.port_at-port.result.now in
    let some : 0 < c.args.label.port = grind (arith, c.if-label-eq0.false) in
    let at : slice_get ports c.args.label.port ≡ Some p = c.port_at-port.ensures in
    let u = one_term l.tables c.in-One.one (seen l c.in-One.part) in
    let term : seen l c.args.node ≡ u = c.node.ensures.right.term ∙ ap (λ (f : Form). shape l f) c.in-One.is in
    shown_at c.show_one.new.list (imports_of ports) p c.args.label (label_of ports c.args.label) (seen l c.args.node) u c.show_one.result
    (port_is ports c.args.label.port p some c.requires.ports.apart at) (label_is ports c.args.label p some at) term c.show_one.ensures.outcome
