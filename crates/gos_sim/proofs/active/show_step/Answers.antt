use Rattle.gos_sim.proofs.active.show_step.Goals as goal

pub returns-in-Some-clause-follows : goal.returns-in-Some-clause-follows
returns-in-Some-clause-follows g c = c.note.ensures.follows c.args.values.now c.evaluate_step.new.values c.in-Some.ensures.told.1
