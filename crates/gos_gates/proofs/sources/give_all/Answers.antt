use Rattle.std.specs.Prelude.{map, ℕ, ◌+◌, ◌≡◌, length, get_or, set}
use Rattle.std.proofs.Common.{ap, sym, ◌∙◌, arith}
use Rattle.std.proofs.lemmas.List.{length-set}
use Rattle.gos_netlist.specs.Seen.{cell_of}
use Rattle.gos_gates.specs.Lowered.{width_of, literals_from}
use Rattle.gos_gates.specs.inner.Laying.{Laid}
use Rattle.gos_gates.proofs.SumLemmas.{give_room, gives_end, gives_more, has_given, width_seen, none}
use Rattle.gos_gates.proofs.sources.give_all.Goals as goal

pub give-requires-clause-room : goal.give-requires-clause-room
give-requires-clause-room c =
    let net : ℕ = get_or c.args.nets.now c.loop-net.net-index 0 in
    give_room (map cell_of c.args.cells.now) c.args.nets.now c.args.draft.now c.loop-net.draft c.loop-net.net-index c.loop-net.invariant c.loop-net-test.true 2147483648
    (get_or c.args.cells.now net none).width (sym (width_seen c.args.cells.now net)) c.requires.room

pub loop-net-preserved : goal.loop-net-preserved
loop-net-preserved c =
    let net : ℕ = get_or c.args.nets.now c.loop-net.net-index 0 in
    let wide : (get_or c.args.cells.now net none).width ≡ width_of (map cell_of c.args.cells.now) net = sym (width_seen c.args.cells.now net) in
    gives_more (map cell_of c.args.cells.now) c.args.nets.now c.args.draft.now c.loop-net.draft c.loop-net.net-index c.loop-net.invariant c.loop-net-test.true c.give.new.self
    (c.in_ok-give.ensures ∙ (λ i. record c.loop-net.draft { base = c.loop-net.draft.base + wide i; nets = set c.loop-net.draft.nets net (literals_from c.loop-net.draft.base (wide i)) }))
    (ap (λ (s : Laid). length s.nets) c.in_ok-give.ensures ∙ length-set c.loop-net.draft.nets net _)

pub returns-clause-base : goal.returns-clause-base
returns-clause-base c = has_given (map cell_of c.args.cells.now) c.args.nets.now c.args.draft.now c.loop-net.draft c.loop-net.net-index c.loop-net.invariant (omega (arith, c.loop-net-test.false))

pub returns-clause-given : goal.returns-clause-given
returns-clause-given c = gives_end (map cell_of c.args.cells.now) c.args.nets.now c.args.draft.now c.loop-net.draft c.loop-net.net-index c.loop-net.invariant (omega (arith, c.loop-net-test.false))
