use Rattle.std.proofs.Common.{◌≡◌, ◌+◌, ◌<◌, ◌∷◌, ℕ, List, arith, drop, length, slice_index_or, subst, suc}
use Rattle.std.proofs.Math.Seq.{drop-cons}
use Rattle.gos_ties.specs.declared.points.Place.TheVariants as places
use Rattle.gos_ties.specs.declared.points.Tie.{Tie}
use Rattle.gos_ties.proofs.PointLemmas.{HaveNumbers, one_more}
use Rattle.gos_ties.proofs.numbers.numbers_of.Goals as goal

pub loop-tie-preserved : goal.loop-tie-preserved
loop-tie-preserved c =
    let i : ℕ = c.loop-tie.tie-index in
    let none : Tie = record { one = record { place = places.Part 0; shake = 0 }; other = record { place = places.Part 0; shake = 0 } } in
    let within : i < length c.args.ties.now = c.loop-tie-test.true in
    let t : Tie = slice_index_or c.args.ties.now i none in
    let here : drop i c.args.ties.now ≡ t ∷ drop (suc i) c.args.ties.now = drop-cons c.args.ties.now i none within in
    let next : suc i ≡ i + 1 = omega arith in
    let old = c.loop-tie.numbers.points.keys in
    let new = c.add-in-loop-tie.new.numbers.points.keys in
    subst (λ (n : ℕ). HaveNumbers new (drop n c.args.ties.now) c.args.ties.now) next
    (one_more old new t (drop (suc i) c.args.ties.now) c.args.ties.now
    (subst (λ (ts : List Tie). HaveNumbers old ts c.args.ties.now) here c.loop-tie.invariant)
    (λ p known. c.in_ok-add-2.ensures.kept p (c.in_ok-add.ensures.kept p known))
    (c.in_ok-add-2.ensures.kept t.one c.in_ok-add.ensures.has) c.in_ok-add-2.ensures.has)
