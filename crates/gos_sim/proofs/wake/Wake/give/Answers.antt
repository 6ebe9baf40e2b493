use Rattle.std.proofs.Common.{ℕ, ◌<◌, ◌∙◌, length, arith, subst}
use Rattle.std.proofs.lemmas.Option.{slice_get-get_or, slice_get_within}
use Rattle.gos_sim.specs.inner.Active.{IsWake}
use Rattle.gos_sim.proofs.ActiveLemmas.{follows_on}
use Rattle.gos_sim.proofs.GiveLemmas.{given_more}
use Rattle.gos_sim.proofs.wake.Wake.give.Goals as goal

pub loop-place-preserved : goal.loop-place-preserved
loop-place-preserved g c =
    let known = c.loop-place.invariant in
    let give = c.give_pulse.ensures in
    let is = slice_get-get_or c.args.events.now c.loop-place.place _ c.loop-place-test.true in
    let same = known.long in
    record {
      given = given_more c.args.events.now c.args.pulses.now c.loop-place.place c.loop-place.values c.give_pulse.new.values _ _ c.requires.apart is
          (slice_get-get_or c.args.pulses.now c.loop-place.place _ (omega arith)) give.given give.others known.given;
      others = λ n free. give.others n (λ names. free c.loop-place.place _ is names) ∙ known.others n free;
      long = give.long ∙ known.long;
      follows = follows_on c.args.self.now c.loop-place.self c.give_pulse.new.self c.args.values.now c.loop-place.values c.give_pulse.new.values known.follows give.follows;
      wake = subst (λ (n : ℕ). IsWake n c.give_pulse.new.self) same give.wake;
    }

pub returns-clause-given : goal.returns-clause-given
returns-clause-given g c = λ k e p at_e at_p.
    let within : k < length c.args.events.now = slice_get_within c.args.events.now k e at_e in
    c.loop-place.invariant.given k (omega arith) e p at_e at_p
