use Rattle.std.proofs.Common.{arith}
use Rattle.gos_pulse.proofs.driver.next_due.Goals as goal

pub returns-clause-held : goal.returns-clause-held
returns-clause-held c = λ net past later after before.
    c.held_until.ensures.held net past later after (omega (arith, before, c.next_from.ensures.within.1))
