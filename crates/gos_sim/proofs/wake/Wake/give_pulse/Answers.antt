use Rattle.gos_sim.proofs.ActiveLemmas.{follows_on}
use Rattle.gos_sim.proofs.wake.Wake.give_pulse.Goals as goal

pub returns-in-Some-clause-follows : goal.returns-in-Some-clause-follows
returns-in-Some-clause-follows g c =
    follows_on c.args.self.now c.put.new.self c.put-in-Some.new.self c.args.values.now c.put.new.values c.put-in-Some.new.values
    c.put.ensures.follows c.put-in-Some.ensures.follows
