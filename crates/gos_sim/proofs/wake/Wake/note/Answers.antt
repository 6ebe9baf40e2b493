use Rattle.std.proofs.Common.{refl}
use Rattle.gos_sim.specs.declared.wake.Wake.{Wake}
use Rattle.gos_sim.proofs.ActiveLemmas.{follows_put, wake_put}
use Rattle.gos_sim.proofs.wake.Wake.note.Goals as goal

pub returns-clause-follows : goal.returns-clause-follows
returns-clause-follows c = λ v w others.
    let old = c.args.self.now in
    let new : Wake = record { readers = old.readers; marks = c.mark.new.marks; touched = c.note.new.self } in
    follows_put old new v w c.args.place others refl c.mark.ensures.each c.mark.ensures.kept c.mark.ensures.marked
    c.note.ensures.noted c.note.ensures.kept

pub returns-clause-wake : goal.returns-clause-wake
returns-clause-wake c = λ count low wake.
    let old = c.args.self.now in
    let new : Wake = record { readers = old.readers; marks = c.mark.new.marks; touched = c.note.new.self } in
    wake_put count old new c.args.place refl c.mark.ensures.each low c.note.ensures.listed wake
