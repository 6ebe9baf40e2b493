use Rattle.std.proofs.Common.{rules, ◌≡◌, sym, ap}
use Rattle.gos_netlist.specs.Seen.{ground_type}
use Rattle.gos_witness.specs.NodeLists.{name_at, seen}
use Rattle.gos_witness.proofs.ShowLemmas.{one_stuck, event_shows}
use Rattle.gos_witness.proofs.showing.show_one.Goals as goal

pub returns-in_default-wait_for-clause-outcome : goal.returns-in_default-wait_for-clause-outcome
returns-in_default-wait_for-clause-outcome c = λ is port t h.
    one_stuck is c.args.port.now c.args.label c.args.list.now.tables c.args.one (seen c.args.list.now c.args.part) t port (sym c.in_default-wait_for.ensures) h

pub returns-clause-outcome : goal.returns-clause-outcome
returns-clause-outcome c = λ is port.
    let a = c.args.list.now.tables in
    let x = name_at a c.in-Some-import.name in
    let same : x ≡ c.args.port.now.name = search rules in (
      c.in_ok-next.ensures.there,
      event_shows is c.args.port.now c.args.label a c.args.one (seen c.args.list.now c.args.part) (seen c.push.new.self c.in_ok-next.next) x c.in-Some.event c.in-Var.field-0
          port (ap ground_type c.in-Var.is) (sym c.in-Some.ensures) c.in-Some-import.ensures.name same c.in_ok-next.ensures.term,
    )
