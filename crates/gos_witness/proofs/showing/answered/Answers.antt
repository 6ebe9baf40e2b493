use Rattle.std.proofs.Common.{rules, ◌≡◌, sym}
use Rattle.gos_netlist.specs.Seen.{ground_type}
use Rattle.gos_witness.specs.NodeLists.{name_at}
use Rattle.gos_witness.proofs.ShowLemmas.{answered_shows, answered_fits}
use Rattle.gos_witness.proofs.showing.answered.Goals as goal

pub returns-clause-shows : goal.returns-clause-shows
returns-clause-shows c = λ is port.
    let a = c.args.list.now.tables in
    let x = name_at a c.args.name in
    let event : c.args.label.place ≡ c.args.event = search rules in
    let same : x ≡ c.args.port.now.name = search rules in
    answered_shows is c.args.port.now c.args.label a x c.args.event c.answer.result port event (sym same) (c.answer.ensures a)

pub returns-clause-fits : goal.returns-clause-fits
returns-clause-fits c =
    let a = c.args.list.now.tables in
    answered_fits (ground_type c.args.port.now.ground) a c.args.event c.args.label.value c.answer.result (c.answer.ensures a)
