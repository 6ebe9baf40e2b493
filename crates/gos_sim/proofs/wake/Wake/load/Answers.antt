use Rattle.std.proofs.Common.{ℕ, ◌<◌, ◌≢◌, All, length, subst, sym}
use Rattle.gos_sim.proofs.ActiveLemmas.{listed_below, listed_apart}
use Rattle.gos_sim.proofs.wake.Wake.load.Goals as goal

pub load_noted-requires-clause-places : goal.load_noted-requires-clause-places
load_noted-requires-clause-places g c =
    subst (All (λ (p : ℕ). p < length c.args.values.now)) (sym c.deref.ensures.value)
    (listed_below (length c.args.values.now) c.args.latches.now c.args.changed.now.places.items c.requires.latches c.requires.listed)

pub returns-else-changed-clause-others : goal.returns-else-changed-clause-others
returns-else-changed-clause-others g c = λ n free.
    c.load_noted.ensures.others n (subst (All (λ (q : ℕ). q ≢ n)) (sym c.deref.ensures.value)
    (listed_apart c.args.latches.now c.args.changed.now.places.items n free c.requires.listed))
