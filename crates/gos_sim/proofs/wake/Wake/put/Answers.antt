use Rattle.std.proofs.Common.{subst, sym}
use Rattle.gos_sim.specs.inner.Spots.{KeepsOthersThan}
use Rattle.gos_sim.proofs.ActiveLemmas.{kept_put}
use Rattle.gos_sim.proofs.wake.Wake.put.Goals as goal

pub returns-clause-follows : goal.returns-clause-follows
returns-clause-follows g c =
    c.note.ensures.follows _ _
    (subst (KeepsOthersThan c.args.place c.args.values.now) (sym c.set.ensures) (kept_put c.args.values.now c.args.place (g.W.Word.number c.args.value)))

pub returns-clause-wake : goal.returns-clause-wake
returns-clause-wake g c = c.note.ensures.wake _ c.requires.place c.requires.wake
