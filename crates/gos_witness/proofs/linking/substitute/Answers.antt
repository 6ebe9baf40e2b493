use Rattle.gos_witness.specs.NodeLists.{seen}
use Rattle.gos_witness.specs.Substituted.{linked_program, root_port}
use Rattle.gos_witness.proofs.FaceLemmas.{are_ports, same_program}
use Rattle.gos_witness.proofs.linking.substitute.Goals as goal

pub invariant_of-result : goal.invariant_of-result
invariant_of-result c =
    let modules = c.args.modules.now in
    let binds = c.args.binds.now in
    let name = c.args.root_name.now in
    let ports = c.in_ok-ports.ports.items in
    record {
      root = c.in_ok-whole.ensures.there;
      ports = are_ports modules binds c.args.root name ports c.requires.linkable c.requires.ports c.in_ok-ports.ensures.faces c.in_ok-ports.ensures.named;
    }

pub returns-clause-linked : goal.returns-clause-linked
returns-clause-linked c =
    let modules = c.args.modules.now in
    let binds = c.args.binds.now in
    let root = c.args.root in
    let name = c.args.root_name.now in
    let ports = c.in_ok-ports.ports.items in
    let whole = c.in_ok-whole.whole in
    record {
      program =
          same_program ports (root_port modules root name) (seen whole.list whole.root) (linked_program modules binds root) c.in_ok-ports.ensures.faces c.in_ok-whole.ensures.term;
      ports = are_ports modules binds root name ports c.requires.linkable c.requires.ports c.in_ok-ports.ensures.faces c.in_ok-ports.ensures.named;
      faces = c.in_ok-ports.ensures.faces;
      sides = c.in_ok-ports.ensures.sides;
      small = c.in_ok-whole.ensures.small;
    }
