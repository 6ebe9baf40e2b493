use Rattle.std.proofs.Common.{rules, ◌≡◌, ap, arith, length, get_or, List, ℕ, subst}
use Rattle.std.specs.Prelude.{IfOk}
use Rattle.gos_netlist.specs.declared.event.Event as seen
use Rattle.gos_pulse.proofs.TraceLemmas.{event_there, port_there, name_there}
use Rattle.gos_pulse.proofs.event_names.name_of_number.Goals as goal

pub event_name-requires : goal.event_name-requires
event_name-requires c =
    let is = c.in_ok-events.ensures in
    let count = ap (λ (es : List seen.Event). length es) is in
    let found : c.index.result.now ≡ get_or c.in_ok-events.events.items c.args.number c.index.result.now = c.index.ensures in
    let there = event_there c.args.net.now c.in_ok-events.events.items c.args.number c.index.result.now is (omega (arith, count, c.len.ensures, c.if-number-len.false)) found in
    let ports : c.deref.result.now ≡ c.args.net.now.ports = search rules in
    rw ports (port_there c.args.net.now c.args.number c.index.result.now there)

pub returns : goal.returns
returns c =
    let is = c.in_ok-events.ensures in
    let count = ap (λ (es : List seen.Event). length es) is in
    let found : c.index.result.now ≡ get_or c.in_ok-events.events.items c.args.number c.index.result.now = c.index.ensures in
    let there = event_there c.args.net.now c.in_ok-events.events.items c.args.number c.index.result.now is (omega (arith, count, c.len.ensures, c.if-number-len.false)) found in
    let ports : c.deref.result.now ≡ c.args.net.now.ports = search rules in
    subst (λ (name : List ℕ). IfOk c.event_name.result (λ n. n.items ≡ name)) (name_there c.args.net.now c.args.number c.index.result.now there) (rw ports at c.event_name.ensures)
