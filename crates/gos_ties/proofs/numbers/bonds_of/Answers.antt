use Rattle.std.proofs.Common.{◌≡◌, ◌∙◌, ◌+◌, ◌<◌, ◌≤◌, ◌++◌, ◌∷◌, [], ℕ, List, ap, length, map, slice_index_or, subst, sym, take}
use Rattle.std.proofs.lemmas.List.{map-append, take_more, take_all}
use Rattle.gos_ties.specs.declared.joining.Bond.{Bond}
use Rattle.gos_ties.specs.declared.points.Place.TheVariants as places
use Rattle.gos_ties.specs.declared.points.Tie.{Tie}
use Rattle.gos_ties.specs.Ties.{point, tie}
use Rattle.gos_ties.specs.inner.Found.{bond_of}
use Rattle.gos_ties.specs.inner.Joined.{AreBelow}
use Rattle.gos_ties.proofs.PointLemmas.{bonds_below}
use Rattle.gos_ties.proofs.numbers.bonds_of.Goals as goal

pub loop-tie-preserved : goal.loop-tie-preserved
loop-tie-preserved c =
    let i : ℕ = c.loop-tie.tie-index in
    let f : Tie → Bond = bond_of c.args.numbers.now.points.keys in
    let none : Tie = tie (point (places.Part 0) 0) (point (places.Part 0) 0) in
    let within : i < length c.args.ties.now = c.loop-tie-test.true in
    let t : Tie = slice_index_or c.args.ties.now i none in
    let longer : take (i + 1) c.args.ties.now ≡ take i c.args.ties.now ++ t ∷ [] = take_more c.args.ties.now i none within in
    c.in_ok-push.ensures.items
    ∙ ((λ j. c.loop-tie.invariant j ++ c.bond_of.ensures j ∷ [])
    ∙ (sym (map-append f (take i c.args.ties.now) (t ∷ [])) ∙ sym (ap (λ (ts : List Tie). map f ts) longer)))

pub returns-clause-below : goal.returns-clause-below
returns-clause-below c =
    let points = c.args.numbers.now.points.keys in
    let end : length c.args.ties.now ≤ c.loop-tie.tie-index = c.loop-tie-test.false in
    let all : c.loop-tie.bonds.items ≡ map (bond_of points) c.args.ties.now =
    c.loop-tie.invariant ∙ ap (λ (ts : List Tie). map (bond_of points) ts) (take_all c.loop-tie.tie-index c.args.ties.now end)
    in
    subst (λ (bs : List Bond). AreBelow (length points) bs) (sym all) (bonds_below points c.args.ties.now c.requires)
