use Rattle.std.proofs.Common.{◌≡◌, ◌+◌, ◌∷◌, ◌++◌, [], ℕ, List, Option, arith, length, sym, subst}
use Rattle.gos_witness.specs.inner.Compaction.{ArePlaces, IsBeginning}
use Rattle.gos_witness.proofs.KeepLemmas.{one_longer}
use Rattle.gos_witness.proofs.CompactLemmas.{beginning_stays, place_more}
use Rattle.gos_witness.proofs.compacting.copy_marked.Goals as goal

pub copy_node-requires-clause-places : goal.copy_node-requires-clause-places
copy_node-requires-clause-places c =
    let is : c.as_slice.result.now ≡ c.loop-number.places.items = c.as_slice.ensures.value in
    subst (λ (xs : List (Option ℕ)). ArePlaces c.args.list.now c.loop-number.kept c.args.base xs) (sym is) c.loop-number.invariant.1

pub loop-number-preserved : goal.loop-number-preserved
loop-number-preserved c =
    let l = c.args.list.now in
    let base = c.args.base in
    let k = c.loop-number.kept in
    let k' = c.copy_node.new.kept in
    let places = c.loop-number.places.items in
    let place = c.in_ok-place.place in
    let is : c.push.new.self.items ≡ places ++ place ∷ [] = c.in_ok-push.ensures.items in
    let before = c.loop-number.invariant.2 in
    let longer = one_longer places place in
    subst (λ (xs : List (Option ℕ)). IsBeginning l base k' × ArePlaces l k' base xs × (base + length xs ≡ c.loop-number.number + 1)) (sym is) (
      beginning_stays l k k' base c.copy_node.ensures.keeps c.loop-number.invariant.0,
      place_more l k k' base c.loop-number.number places place c.loop-number.invariant.1 c.copy_node.ensures.keeps before c.in_ok-place.ensures.place,
      omega (arith, before, longer),
    )
