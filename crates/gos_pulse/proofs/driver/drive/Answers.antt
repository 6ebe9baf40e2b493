use Rattle.std.proofs.Common.{◌≡◌, ◌<◌, List, [], All, length, refl, subst, sym, ◌∙◌, arith}
use Rattle.gos_netlist.specs.Nets.{Netlist}
use Rattle.gos_pulse.specs.declared.entries.Entry.{Entry}
use Rattle.gos_pulse.specs.declared.trace.Trace.{Trace}
use Rattle.gos_pulse.specs.Driving.{GivesInput, IsBroken, next_entries}
use Rattle.gos_pulse.specs.inner.Board.{Rests}
use Rattle.gos_pulse.proofs.RunLemmas.{IsUnderWay, begins_run, goes_on, has_inputs, has_outputs, run_broken, trace_known, way_traced}
use Rattle.gos_pulse.proofs.QuietLemmas.{goes_on_to}
use Rattle.gos_pulse.proofs.driver.drive.Goals as goal

pub loop-t-init : goal.loop-t-init
loop-t-init c =
    let sim = c.args.sim.now in
    let file = c.entries-entries.result.now in
    let known = subst (All (GivesInput sim.net)) (sym c.entries-entries.ensures) c.requires.entries in
    let queue : c.as_slice.result.now ≡ next_entries file = c.as_slice.ensures.value ∙ c.in_ok-waiting.ensures in
    let rests = subst (λ (net : Netlist). Rests net [] c.in_ok-board.board) c.netlist.ensures.value c.in_ok-board.ensures in
    record {
      net = refl;
      within = omega arith;
      since = omega arith;
      run =
          subst (IsUnderWay sim file 0 0 c.as_slice.result.now c.in_ok-board.board) (sym c.new-lines.ensures.items)
          (begins_run sim file c.in_ok-board.board c.as_slice.result.now c.requires.reset known queue rests);
    }

pub returns-in-Err-clause-broken : goal.returns-in-Err-clause-broken
returns-in-Err-clause-broken c = λ _.
    let way = c.loop-t.invariant.run in
    let file = c.entries-entries.result.now in
    let breaks = c.in-Err.ensures.cycle way.past way.rests in
    let less : c.loop-t.t < c.args.pulses.now.0 = omega (arith, c.loop-t-test.true, c.cycles-cycles.ensures) in
    subst (λ (es : List Entry). IsBroken c.args.sim.now.net c.args.pulses.now.0 es c.loop-t.t c.in-Err.event) c.entries-entries.ensures
    (subst (λ (net : Netlist). IsBroken net c.args.pulses.now.0 file c.loop-t.t c.in-Err.event) c.loop-t.invariant.net
    (run_broken c.loop-t.sim file c.args.pulses.now.0 c.loop-t.t c.loop-t.queue.since c.loop-t.queue.entries.now way.past c.loop-t.lines.items c.in-Err.event way.driven breaks less))

pub add_cycle-requires : goal.add_cycle-requires
add_cycle-requires c =
    let way = c.loop-t.invariant.run in
    let cycle = c.in-Ok.ensures.cycle way.past way.rests in
    (c.loop-t.sim.net, has_inputs c.loop-t.sim.net cycle.came c.run_cycle.new.board cycle.rests, has_outputs c.loop-t.sim.net cycle.came c.run_cycle.new.board cycle.rests)

pub loop-t-preserved : goal.loop-t-preserved
loop-t-preserved c =
    let way = c.loop-t.invariant.run in
    let net = c.loop-t.sim.net in
    let board = c.run_cycle.new.board in
    let cycle = c.in-Ok.ensures.cycle way.past way.rests in
    record {
      net = c.run_cycle.ensures.net ∙ c.loop-t.invariant.net;
      within = omega (arith, c.loop-t-test.true);
      since = omega (arith, c.in-Ok.ensures.since);
      run =
          goes_on c.loop-t.sim c.run_cycle.new.sim c.entries-entries.result.now c.loop-t.t c.loop-t.queue.since c.loop-t.queue.entries.now c.loop-t.board board
          c.loop-t.lines.items c.add_cycle.new.lines.items c.in-Ok.rest.since c.in-Ok.rest.entries.now c.run_cycle.ensures.net way cycle
          (c.in_ok-add_cycle.ensures net (has_inputs net cycle.came board cycle.rests) (has_outputs net cycle.came board cycle.rests));
    }

pub loop-t-preserved-then-is_quiet : goal.loop-t-preserved-then-is_quiet
loop-t-preserved-then-is_quiet c =
    let way = c.loop-t.invariant.run in
    let net = c.loop-t.sim.net in
    let board = c.run_cycle.new.board in
    let cycle = c.in-Ok.ensures.cycle way.past way.rests in
    let quiet = c.is_quiet.ensures in
    let due = c.next_due-t.ensures in
    record {
      net = c.run_cycle.ensures.net ∙ c.loop-t.invariant.net;
      within = due.within.1;
      since = omega (arith, c.in-Ok.ensures.since, due.within.0);
      run =
          goes_on_to c.loop-t.sim c.run_cycle.new.sim c.entries-entries.result.now way.past c.loop-t.t c.loop-t.queue.since c.loop-t.queue.entries.now c.in-Ok.rest.since c.in-Ok.rest.entries.now board
          c.run_cycle.ensures.net cycle (quiet.repeats c.if-is_quiet.true) (quiet.inputs c.if-is_quiet.true) (quiet.outputs c.if-is_quiet.true)
          c.next_due-t.result c.loop-t.board c.loop-t.lines.items c.add_cycle.new.lines.items way refl due.within.0 due.none due.held
          (c.in_ok-add_cycle.ensures net (has_inputs net cycle.came board cycle.rests) (has_outputs net cycle.came board cycle.rests));
    }

pub returns-clause-traced : goal.returns-clause-traced
returns-clause-traced c =
    way_traced c.args.sim.now.net c.loop-t.sim c.entries-entries.result.now c.args.pulses.now.1 c.args.pulses.now.0 c.loop-t.t c.loop-t.queue.since c.loop-t.queue.entries.now c.loop-t.board
    (record { cycles = c.cycles-cycles.result; lines = c.loop-t.lines; unused = length c.loop-t.queue.entries.now })
    c.loop-t.invariant.net c.entries-entries.ensures (omega (arith, c.cycles-cycles.ensures)) c.cycles-cycles.ensures refl c.loop-t.invariant.run

pub returns-clause-known : goal.returns-clause-known
returns-clause-known c =
    let trace : Trace = record { cycles = c.cycles-cycles.result; lines = c.loop-t.lines; unused = length c.loop-t.queue.entries.now } in
    trace_known c.args.sim.now.net c.args.pulses.now.0 c.args.pulses.now.1 trace
    (way_traced c.args.sim.now.net c.loop-t.sim c.entries-entries.result.now c.args.pulses.now.1 c.args.pulses.now.0 c.loop-t.t c.loop-t.queue.since c.loop-t.queue.entries.now c.loop-t.board trace
    c.loop-t.invariant.net c.entries-entries.ensures (omega (arith, c.cycles-cycles.ensures)) c.cycles-cycles.ensures refl c.loop-t.invariant.run)
