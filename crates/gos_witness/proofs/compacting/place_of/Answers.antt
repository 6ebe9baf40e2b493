use Rattle.std.proofs.Common.{◌≡◌, ◌≤◌, ◌-◌, arith, Some, sym, ◌∙◌}
use Rattle.std.specs.Prelude.{slice_get}
use Rattle.gos_witness.proofs.CompactLemmas.{place_copied}
use Rattle.gos_witness.proofs.compacting.place_of.Goals as goal

pub returns-in-Some : goal.returns-in-Some
returns-in-Some c = λ old new begins places.
    let at : slice_get c.args.places.now (c.args.number - c.args.base) ≡ Some c.in-Some.place = sym c.entry_at.ensures ∙ c.in-Some.is in
    let behind : c.args.base ≤ c.args.number = grind (arith, c.if-node-base.false) in
    place_copied old new c.args.base c.args.number c.args.places.now c.in-Some.place places behind at
