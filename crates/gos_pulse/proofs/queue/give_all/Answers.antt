use Rattle.std.proofs.Common.{◌++◌, arith}
use Rattle.gos_pulse.proofs.QueueLemmas.{none_given, given_more, all_given}
use Rattle.gos_pulse.proofs.queue.give_all.Goals as goal

pub give_first-requires-clause-board : goal.give_first-requires-clause-board
give_first-requires-clause-board c =
    let r = c.requires.board in
    let so_far = c.loop-queue.invariant.given r.net r.past r.given r.ports r.stands r.known in
    record { net = r.net; ports = r.ports; past = r.past; given = r.given ++ so_far.labels; stands = so_far.stands; known = so_far.known }

pub loop-queue-init : goal.loop-queue-init
loop-queue-init c =
    record {
      since = c.requires.since;
      given = λ net past given ports stands known. none_given net past given c.args.t c.args.first.since c.args.first.entries.now c.args.board.now stands known;
    }

pub loop-queue-preserved : goal.loop-queue-preserved
loop-queue-preserved c =
    record {
      since = omega (arith, c.in-Some.ensures.since);
      given = λ net past given ports stands known.
          let so_far = c.loop-queue.invariant.given net past given ports stands known in
          given_more net past given c.args.t c.args.first.since c.args.first.entries.now c.loop-queue.queue.since c.loop-queue.queue.entries.now c.loop-queue.board so_far
          c.in-Some.rest.since c.in-Some.rest.entries.now c.give_first.new.board c.in-Some.ensures.since
          (c.in-Some.ensures.given net past (given ++ so_far.labels) ports so_far.stands so_far.known);
    }

pub returns-in-None-clause-given : goal.returns-in-None-clause-given
returns-in-None-clause-given c = λ net past given ports stands known.
    let so_far = c.loop-queue.invariant.given net past given ports stands known in
    all_given net past given c.args.t c.args.first.since c.args.first.entries.now c.loop-queue.queue.since c.loop-queue.queue.entries.now c.loop-queue.board so_far c.give_first.new.board
    (c.in-None.ensures.given net past (given ++ so_far.labels) ports so_far.stands so_far.known)
