use Rattle.std.proofs.Common.{subst}
use Rattle.gos_sim.specs.Repeats.{Repeats}
use Rattle.gos_sim.proofs.RepeatLemmas.{still_repeats}
use Rattle.gos_sim.proofs.word_sim.WordSim.repeats.Goals as goal

pub returns-in-Still : goal.returns-in-Still
returns-in-Still g c = λ yes.
    let parts = c.self.inside in
    subst Repeats c.self.view_is
    (still_repeats g.W.Word.bits parts.net parts.machine parts.active parts.registers parts.values parts.before parts.still parts.past yes c.in-Still.is c.self.invariant)
