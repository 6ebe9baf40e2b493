use Rattle.std.proofs.Common.{rules, ◌≡◌, Some, None}
use Rattle.gos_model.specs.Sources.{binder_of}
use Rattle.gos_witness.specs.inner.Adding.{names_of, node_for}
use Rattle.gos_witness.proofs.AddLemmas.{added_supply}
use Rattle.gos_witness.proofs.adding.add_name.Goals as goal

pub returns-in-Some-supply_of-clause-added : goal.returns-in-Some-supply_of-clause-added
returns-in-Some-supply_of-clause-added c =
    let free : binder_of (names_of c.args.binders.now) c.args.name.now ≡ None = search rules in
    let at : node_for c.args.supplies.now c.args.name.now ≡ Some c.in-Some-supply_of.node = search rules in
    added_supply c.args.list.now c.args.supplies.now (names_of c.args.binders.now) c.args.name.now c.in-Some-supply_of.node c.requires free at
