use Rattle.std.proofs.Common.{ℕ, ◌≡◌, ◌+◌, ◌-◌, ◌<◌, ◌∙◌, arith, length, map, subst, sym}
use Rattle.std.proofs.lemmas.List.{length-map}
use Rattle.std.proofs.lemmas.Option.{slice_get-get_or}
use Rattle.gos_netlist.specs.Seen.{cell_of}
use Rattle.gos_sim.specs.inner.Places.{by_net}
use Rattle.gos_sim.proofs.CountingLemmas.{AreQuiet, has_visit, lacks_visit, quiet_more}
use Rattle.gos_sim.proofs.ProgramLemmas.{cell_at, pins_below}
use Rattle.gos_sim.proofs.visits.is_visited.Goals as goal

pub reads_change-requires-clause-pins : goal.reads_change-requires-clause-pins
reads_change-requires-clause-pins g c =
    pins_below c.args.cells.now (c.loop-link.link - 1) (length c.args.places.now) _ c.requires.cells (omega (arith, c.loop-link-test.true, c.loop-link.invariant.below))
    (c.requires.places ∙ sym (length-map c.args.cells.now cell_of))

pub returns-then-reads_change-clause-visited : goal.returns-then-reads_change-clause-visited
returns-then-reads_change-clause-visited g c = λ yes.
    let cells = map cell_of c.args.cells.now in
    let before = by_net c.args.places.now c.args.before.now in
    let values = by_net c.args.places.now c.args.values.now in
    let net : ℕ = c.loop-link.link - 1 in
    let below : net < length c.args.cells.now = omega (arith, c.loop-link-test.true, c.loop-link.invariant.below) in
    let next : c.loop-link.link ≡ net + 1 = omega (arith, c.loop-link-test.true) in
    has_visit c.args.levels.now cells before values c.args.level net _ (cell_at c.args.cells.now net _ (slice_get-get_or c.args.cells.now net _ below))
    (sym c.reads_change.ensures ∙ c.if-reads_change.true)
    (subst (λ (l : ℕ). AreQuiet c.args.levels.now cells before values c.args.level l) next c.loop-link.invariant.quiet)

pub loop-link-preserved : goal.loop-link-preserved
loop-link-preserved g c =
    let cells = map cell_of c.args.cells.now in
    let before = by_net c.args.places.now c.args.before.now in
    let values = by_net c.args.places.now c.args.values.now in
    let net : ℕ = c.loop-link.link - 1 in
    let below : net < length c.args.cells.now = omega (arith, c.loop-link-test.true, c.loop-link.invariant.below) in
    let next : c.loop-link.link ≡ net + 1 = omega (arith, c.loop-link-test.true) in
    record {
      below = let down = c.requires.bounded.links net (omega (arith, below, c.requires.each)) in omega (arith, down, below, c.link_of-link.ensures);
      quiet = quiet_more c.args.levels.now cells before values c.args.level net c.link_of-link.result _ (cell_at c.args.cells.now net _ (slice_get-get_or c.args.cells.now net _ below))
          (sym c.reads_change.ensures ∙ c.if-reads_change.false) c.link_of-link.ensures
          (subst (λ (l : ℕ). AreQuiet c.args.levels.now cells before values c.args.level l) next c.loop-link.invariant.quiet);
    }

pub returns-clause-other : goal.returns-clause-other
returns-clause-other g c = λ no.
    lacks_visit c.args.levels.now (map cell_of c.args.cells.now) (by_net c.args.places.now c.args.before.now) (by_net c.args.places.now c.args.values.now) c.args.level c.loop-link.link
    (omega (arith, c.loop-link-test.false)) c.loop-link.invariant.quiet
