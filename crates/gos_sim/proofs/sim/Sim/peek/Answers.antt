use Rattle.std.proofs.Common.{ap, subst, sym, ◌∙◌}
use Rattle.gos_sim.specs.Cycle.{IsNextOutput, Simulator}
use Rattle.gos_sim.specs.inner.Sizes.{seen_in}
use Rattle.gos_sim.proofs.sim.Sim.peek.Goals as goal

pub returns-in-Narrow : goal.returns-in-Narrow
returns-in-Narrow c =
    subst (λ (s : Simulator). IsNextOutput s c.peek.new.outputs) (ap seen_in (sym c.in-Narrow.is) ∙ c.self.view_is) c.peek.ensures

pub returns-in-Wide : goal.returns-in-Wide
returns-in-Wide c =
    subst (λ (s : Simulator). IsNextOutput s c.peek-in-Wide.new.outputs) (ap seen_in (sym c.in-Wide.is) ∙ c.self.view_is) c.peek-in-Wide.ensures
