use Rattle.std.proofs.Common.{◌≡◌, ◌++◌, List, All, length, reverse, refl, ap, subst, sym, ◌∙◌, arith}
use Rattle.std.specs.Vec.{with_items}
use Rattle.std.proofs.lemmas.List.{with_items_is}
use Rattle.gos_netlist.specs.Nets.{Netlist}
use Rattle.gos_model.specs.Labels.{Label}
use Rattle.gos_sim.specs.declared.pulse.Pulse.{Pulse}
use Rattle.gos_sim.specs.Cycle.{IsCycle, IsWord}
use Rattle.gos_pulse.specs.declared.board.Board.{Board}
use Rattle.gos_pulse.specs.Guarding.{outputs_of}
use Rattle.gos_pulse.specs.inner.Slots.{labels_of}
use Rattle.gos_pulse.proofs.PortLemmas.{has_ports}
use Rattle.gos_pulse.proofs.ShownLemmas.{inputs_each, outputs_each}
use Rattle.gos_pulse.proofs.CycleLemmas.{are_words, broken, passed, ran, seen_is}
use Rattle.gos_pulse.proofs.driver.run_cycle.Goals as goal

-- the labels up to the outputs of a cycle that has begun
abbrev seen_after : Netlist → Board → List Label → List Label
seen_after net board past = reverse (labels_of net.ports (outputs_of net) board.outputs.items) ++ past

pub returns-then-is_early-clause-cycle : goal.returns-then-is_early-clause-cycle
returns-then-is_early-clause-cycle c = λ past rests.
    let r = c.requires in
    passed c.args.sim.now past c.pass.new.self r.accepted c.args.entries.now c.args.t c.args.queue.since c.args.queue.entries.now c.pass.new.sim
    (c.pass.ensures.seen past rests) (c.has_none.ensures c.if-has_none.true r.cycles r.agenda_of) (c.is_early.ensures c.if-is_early.true) r.left c.pass.ensures.cycle

pub take_all-requires : goal.take_all-requires
take_all-requires c =
    let r = c.requires in
    let net = c.args.sim.now.net in
    record {
      net = net;
      ports = has_ports net r.accepted;
      cycles = r.cycles;
      past = seen_after net c.begin.new.self r.past;
      agenda_of = r.agenda_of;
      within = r.within;
      stands = (c.begin.ensures r.past r.rests).stands;
      entries = r.known;
    }

pub returns-in-Some-clause-cycle : goal.returns-in-Some-clause-cycle
returns-in-Some-clause-cycle c = λ past rests.
    let r = c.requires in
    let net = c.args.sim.now.net in
    let begins = c.begin.ensures past rests in
    broken c.args.sim.now past c.begin.new.self r.accepted begins c.args.entries.now c.args.t c.in-Some.event
    (c.in-Some.ensures net (seen_after net c.begin.new.self past) (has_ports net r.accepted) begins.stands r.known)

pub give_all-rest-requires-clause-board : goal.give_all-rest-requires-clause-board
give_all-rest-requires-clause-board c =
    let r = c.requires in
    let net = c.args.sim.now.net in
    let has = has_ports net r.accepted in
    let taken = c.in-None.ensures net (seen_after net c.begin.new.self r.past) has (c.begin.ensures r.past r.rests).stands r.known in
    record { net = net; ports = has; past = seen_after net c.begin.new.self r.past; given = taken.taken; stands = taken.stands; known = r.left }

pub cycle-requires-clause-inputs : goal.cycle-requires-clause-inputs
cycle-requires-clause-inputs c =
    let r = c.requires in
    let net = c.args.sim.now.net in
    let has = has_ports net r.accepted in
    let taken = c.in-None.ensures net (seen_after net c.begin.new.self r.past) has (c.begin.ensures r.past r.rests).stands r.known in
    let given = c.give_all-rest.ensures.given net (seen_after net c.begin.new.self r.past) taken.taken has taken.stands r.left in
    ap length c.deref.ensures.value ∙ given.stands.rests.inputs ∙ inputs_each net r.accepted

pub cycle-requires-clause-outputs : goal.cycle-requires-clause-outputs
cycle-requires-clause-outputs c =
    let r = c.requires in
    let net = c.args.sim.now.net in
    let has = has_ports net r.accepted in
    let taken = c.in-None.ensures net (seen_after net c.begin.new.self r.past) has (c.begin.ensures r.past r.rests).stands r.known in
    let given = c.give_all-rest.ensures.given net (seen_after net c.begin.new.self r.past) taken.taken has taken.stands r.left in
    ap length c.deref_mut.ensures.value ∙ given.stands.rests.outputs ∙ outputs_each net r.accepted

pub cycle-requires-clause-numbers : goal.cycle-requires-clause-numbers
cycle-requires-clause-numbers c =
    let r = c.requires in
    let net = c.args.sim.now.net in
    let has = has_ports net r.accepted in
    let taken = c.in-None.ensures net (seen_after net c.begin.new.self r.past) has (c.begin.ensures r.past r.rests).stands r.known in
    let given = c.give_all-rest.ensures.given net (seen_after net c.begin.new.self r.past) taken.taken has taken.stands r.left in
    subst (λ (ps : List Pulse). All (λ p. IsWord net.cells p.value) ps) (sym c.deref.ensures.value)
    (are_words net c.give_all-rest.new.board.inputs.items r.accepted given.stands.rests.inputs given.stands.in_range)

pub returns-in-None-clause-cycle : goal.returns-in-None-clause-cycle
returns-in-None-clause-cycle c = λ past rests.
    let r = c.requires in
    let sim = c.args.sim.now in
    let net = sim.net in
    let has = has_ports net r.accepted in
    let begins = c.begin.ensures past rests in
    let taken = c.in-None.ensures net (seen_after net c.begin.new.self past) has begins.stands r.known in
    let given = c.give_all-rest.ensures.given net (seen_after net c.begin.new.self past) taken.taken has taken.stands r.left in
    let board = c.give_all-rest.new.board in
    let cycle = subst (λ (ps : List Pulse). IsCycle sim ps c.cycle.new.outputs c.cycle.new.self) c.deref.ensures.value c.cycle.ensures.cycle in
    let outs : (with_items board.outputs c.cycle.new.outputs).items ≡ c.cycle.new.outputs = with_items_is board.outputs c.cycle.new.outputs (omega arith) in
    ran sim past c.begin.new.self r.accepted c.args.entries.now c.args.t c.args.queue.since c.args.queue.entries.now c.take_all.new.board board
    c.give_all-rest.result.since c.give_all-rest.result.entries.now c.cycle.new.outputs c.cycle.new.self taken given cycle
    (seen_is sim past c.begin.new.self r.accepted begins cycle.ins cycle.values cycle.settled)
    (record { guard = board.guard; slots = board.slots; inputs = board.inputs; outputs = with_items board.outputs c.cycle.new.outputs })
    refl refl refl outs
