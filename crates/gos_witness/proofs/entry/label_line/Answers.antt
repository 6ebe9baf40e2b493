use Rattle.std.proofs.Common.{◌<◌, ℕ, List, length, subst, sym, arith}
use Rattle.std.proofs.lemmas.Result.{err_from_is_err_and}
use Rattle.gos_netlist.specs.Seen.{ground_type}
use Rattle.gos_netlist.specs.Writable.{IsPortType}
use Rattle.gos_lex.specs.Items.{Misses}
use Rattle.gos_lex.specs.ItemTexts.{IsAmong}
use Rattle.gos_witness.specs.declared.labels.Label.{Label}
use Rattle.gos_witness.specs.inner.Left.{End, Leads}
use Rattle.gos_witness.specs.inner.TraceParts.{LabelLeft, ValueLeft}
use Rattle.gos_witness.proofs.LeftLemmas.{leads_within}
use Rattle.gos_witness.proofs.EventLemmas.{some_names, inside_names, type_is, few_events, port_there_passed, event_there_passed, value_there_passed, no_event_there, no_value_there, no_port}
use Rattle.gos_witness.proofs.entry.label_line.Goals as goal

pub port-requires : goal.port-requires
port-requires c = subst (λ (names : List (List ℕ)). 0 < length names) (sym c.requires.table) (some_names c.args.ports.now c.requires.ports)

pub returns-in_err-port-clause-wrong : goal.returns-in_err-port-clause-wrong
returns-in_err-port-clause-wrong c =
    let old = c.args.cursor.now in
    let misses = subst (λ (names : List (List ℕ)). Misses (IsAmong names) old.text old.at c.in_err-port.field-0.0) c.requires.table c.in_err-port.ensures.wrong in
    let known = no_port c.args.ports.now c.requires.ports.named c.requires.ports old c.in_err-port.field-0.0 misses in
    let p = err_from_is_err_and c.from_residual.result c.from_residual.ensures.1 in
    rw (p.1, p.2) known

pub ground_at-ground-requires-clause-there : goal.ground_at-ground-requires-clause-there
ground_at-ground-requires-clause-there c =
    inside_names c.args.ports.now c.in_ok-port.port (subst (λ (names : List (List ℕ)). c.in_ok-port.port < length names) c.requires.table c.in_ok-port.ensures.inside)

pub returns-in_err-place-clause-wrong : goal.returns-in_err-place-clause-wrong
returns-in_err-place-clause-wrong c =
    let port = port_there_passed c.args.ports.now c.requires.ports c.args.cursor.now c.port.new.cursor c.in_ok-port.port c.args.table.now.names.items c.requires.table c.in_ok-port.ensures.inside c.in_ok-port.ensures.passed in
    let known = no_event_there c.args.ports.now c.args.cursor.now c.port.new.cursor c.in_ok-port.port _ c.in_err-place.field-0.0 c.ground_at-ground.ensures port.1 c.in_err-place.ensures.wrong in
    let p = err_from_is_err_and c.from_residual-in_err-place.result c.from_residual-in_err-place.ensures.1 in
    rw (p.1, p.2) known

pub value-requires-clause-ground : goal.value-requires-clause-ground
value-requires-clause-ground c =
    let port = port_there_passed c.args.ports.now c.requires.ports c.args.cursor.now c.port.new.cursor c.in_ok-port.port c.args.table.now.names.items c.requires.table c.in_ok-port.ensures.inside c.in_ok-port.ensures.passed in
    subst IsPortType (sym c.ground_at-ground.ensures) (type_is c.args.ports.now c.in_ok-port.port c.requires.ports port.0)

pub value-requires-clause-within : goal.value-requires-clause-within
value-requires-clause-within c =
    let port = port_there_passed c.args.ports.now c.requires.ports c.args.cursor.now c.port.new.cursor c.in_ok-port.port c.args.table.now.names.items c.requires.table c.in_ok-port.ensures.inside c.in_ok-port.ensures.passed in
    let event = event_there_passed c.args.ports.now c.args.cursor.now c.port.new.cursor c.event.new.cursor c.in_ok-port.port c.in_ok-place.place _ c.ground_at-ground.ensures port.1 c.in_ok-place.ensures.inside c.in_ok-place.ensures.passed in
    leads_within Label (LabelLeft c.args.ports.now) (ValueLeft c.args.ports.now c.in_ok-port.port c.in_ok-place.place) c.args.cursor.now c.event.new.cursor event

pub returns-in_err-value-clause-wrong : goal.returns-in_err-value-clause-wrong
returns-in_err-value-clause-wrong c =
    let port = port_there_passed c.args.ports.now c.requires.ports c.args.cursor.now c.port.new.cursor c.in_ok-port.port c.args.table.now.names.items c.requires.table c.in_ok-port.ensures.inside c.in_ok-port.ensures.passed in
    let event = event_there_passed c.args.ports.now c.args.cursor.now c.port.new.cursor c.event.new.cursor c.in_ok-port.port c.in_ok-place.place _ c.ground_at-ground.ensures port.1 c.in_ok-place.ensures.inside c.in_ok-place.ensures.passed in
    let known = no_value_there c.args.ports.now c.requires.ports c.args.cursor.now c.event.new.cursor c.in_ok-port.port c.in_ok-place.place _ c.in_err-value.field-0.0 port.0 c.ground_at-ground.ensures event c.in_err-value.ensures.wrong in
    let p = err_from_is_err_and c.from_residual-in_err-value.result c.from_residual-in_err-value.ensures.1 in
    rw (p.1, p.2) known

pub label_of-requires-clause-port : goal.label_of-requires-clause-port
label_of-requires-clause-port c =
    let inside = inside_names c.args.ports.now c.in_ok-port.port (subst (λ (names : List (List ℕ)). c.in_ok-port.port < length names) c.requires.table c.in_ok-port.ensures.inside) in
    omega (arith, inside, c.requires.ports.few)

pub label_of-requires-clause-place : goal.label_of-requires-clause-place
label_of-requires-clause-place c = omega (arith, c.in_ok-place.ensures.inside, few_events (ground_type c.ground_at-ground.result))

pub returns-clause-passed : goal.returns-clause-passed
returns-clause-passed c =
    let port = port_there_passed c.args.ports.now c.requires.ports c.args.cursor.now c.port.new.cursor c.in_ok-port.port c.args.table.now.names.items c.requires.table c.in_ok-port.ensures.inside c.in_ok-port.ensures.passed in
    let event = event_there_passed c.args.ports.now c.args.cursor.now c.port.new.cursor c.event.new.cursor c.in_ok-port.port c.in_ok-place.place _ c.ground_at-ground.ensures port.1 c.in_ok-place.ensures.inside c.in_ok-place.ensures.passed in
    let known = value_there_passed c.args.ports.now c.requires.ports c.args.cursor.now c.event.new.cursor c.value.new.cursor c.in_ok-port.port c.in_ok-place.place c.in_ok-value.value _ port.0 c.ground_at-ground.ensures event c.in_ok-value.ensures.is c.in_ok-value.ensures.passed in
    subst (λ (o : Label). Leads Label (LabelLeft c.args.ports.now) (End Label o) c.args.cursor.now c.value.new.cursor) (sym c.label_of.ensures) known
