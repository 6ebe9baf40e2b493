use Rattle.std.proofs.Common.{◌<◌, ◌∙◌, length, arith}
use Rattle.std.proofs.lemmas.Option.{slice_get-get_or, slice_get_within}
use Rattle.gos_sim.proofs.GiveLemmas.{given_more}
use Rattle.gos_sim.proofs.running.give.Goals as goal

pub loop-place-preserved : goal.loop-place-preserved
loop-place-preserved g c =
    record {
      given = given_more c.args.events.now c.args.pulses.now c.loop-place.place c.loop-place.values c.give_pulse.new.values _ _ c.requires.apart
          (slice_get-get_or c.args.events.now c.loop-place.place _ c.loop-place-test.true)
          (slice_get-get_or c.args.pulses.now c.loop-place.place _ (omega arith))
          c.give_pulse.ensures.given c.give_pulse.ensures.others c.loop-place.invariant.given;
      long = c.give_pulse.ensures.long ∙ c.loop-place.invariant.long;
    }

pub returns-clause-given : goal.returns-clause-given
returns-clause-given g c = λ k e p at_e at_p.
    let within : k < length c.args.events.now = slice_get_within c.args.events.now k e at_e in
    c.loop-place.invariant.given k (omega arith) e p at_e at_p
