use Rattle.std.proofs.Common.{rules, ◌≡◌}
use Rattle.gos_model.specs.Terms.{App}
use Rattle.gos_witness.specs.NodeLists.{seen}
use Rattle.gos_witness.proofs.AccessLemmas.{same_place}
use Rattle.gos_witness.proofs.reading_nodes.location.Goals as goal

pub returns-in-Two-App-default-default : goal.returns-in-Two-App-default-default
returns-in-Two-App-default-default c =
    let l = c.args.list.now in
    let form = c.in-Two-App-default-default in
    let is : seen l c.args.node ≡ App (seen l form.array) (seen l form.index) = search rules in
    same_place (seen l c.args.node) (App (seen l form.array) (seen l form.index)) c.element.result is c.element.ensures
