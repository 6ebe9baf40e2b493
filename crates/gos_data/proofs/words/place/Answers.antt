use Rattle.std.proofs.Common.{◌≡◌, ℕ, ◌+◌, List, sym, ◌∙◌, subst, arith}
use Rattle.std.proofs.lemmas.List.{length-map}
use Rattle.gos_netlist.specs.Nets.{Cell}
use Rattle.gos_netlist.specs.Seen.{cell_of}
use Rattle.gos_macro.specs.Cells.{Places}
use Rattle.gos_data.specs.Words.{words_cells}
use Rattle.gos_data.specs.inner.Seen.{nets_of}
use Rattle.gos_data.proofs.ArrayLemmas.{none_placed, word_placed}
use Rattle.gos_data.proofs.words.place.Goals as goal

pub loop-left-preserved : goal.loop-left-preserved
loop-left-preserved c =
    let known = c.loop-left.invariant in
    let next = c.loop-left.next in
    let first = c.place_all.ensures in
    let long = length-map c.word.result cell_of in
    let used = first.spare in
    let some = c.loop-left-test.true in
    let here = subst (λ (cs : List Cell). Places cs c.loop-left.pool c.place_all.new.self) c.word.ensures
    (record { added = first.cells; used = omega (arith, long, used); begun = first.begun; closed = first.closed; kept = first.kept }) in
    let places_at = known.2 in
    let counts = known.3 in
    let room = known.4 in (
      word_placed c.args.w c.args.bits (nets_of c.args.nets) next.base next.at next.x next.picked.0 c.loop-left.left (next.x + 1) c.own.result.0 _
          c.args.pool.now c.loop-left.pool c.place_all.new.self (omega (arith, some)) (omega arith) c.own.ensures here known.0,
      known.1,
      omega (arith, places_at, some),
      omega (arith, counts, some),
      omega (arith, room, long, used, some),
      first.begun ∙ known.5,
      first.region ∙ known.6,
    )

pub returns-clause-cells : goal.returns-clause-cells
returns-clause-cells c =
    let done = c.loop-left-test.false in
    let none : c.loop-left.left ≡ 0 = omega (arith, done) in
    let next = c.loop-left.next in
    c.loop-left.invariant.0 c.loop-left.pool
    (subst (λ (m : ℕ). Places (words_cells c.args.w c.args.bits (nets_of c.args.nets) next.base next.at next.x next.picked.0 m) c.loop-left.pool c.loop-left.pool) (sym none)
    (none_placed c.loop-left.pool))
