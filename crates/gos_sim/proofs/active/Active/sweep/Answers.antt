use Rattle.std.proofs.Common.{ℕ, ◌∙◌, subst}
use Rattle.gos_sim.specs.inner.Active.{IsWake}
use Rattle.gos_sim.proofs.active.Active.sweep.Goals as goal

pub loop-preserved : goal.loop-preserved
loop-preserved g c =
    let known = c.loop.invariant in
    let follow = c.follow.ensures in
    let same = known.long in
    record {
      wake = subst (λ (n : ℕ). IsWake n c.follow.new.self.wake) same follow.wake;
      long = follow.long ∙ known.long;
      held = follow.held ∙ known.held;
      reading = follow.reading;
      stand = follow.stand;
      swept = λ start loaded held before.
          let h = known.swept start loaded held before in
          follow.swept start loaded held (record { noted = h.noted; others = h.others; rest = h.rest; unchanged = h.unchanged; listed = h.listed });
    }
