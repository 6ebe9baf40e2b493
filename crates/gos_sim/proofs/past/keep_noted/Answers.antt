use Rattle.std.proofs.Common.{ℕ, ◌+◌, ◌<◌, ◌≡◌, ◌∙◌, ap, arith, drop, ext_get_or, length, length-drop, set, subst, sym}
use Rattle.std.proofs.lemmas.List.{length-set}
use Rattle.std.proofs.lemmas.Option.{slice_get-get_or}
use Rattle.gos_netlist.specs.Settling.{Numbers}
use Rattle.gos_sim.proofs.PlaceLemmas.{all_at}
use Rattle.gos_sim.proofs.ActiveLemmas.{LoadedButListed, listed_more}
use Rattle.gos_sim.proofs.past.keep_noted.Goals as goal

pub set-requires : goal.set-requires
set-requires g c =
    let is = slice_get-get_or c.args.places.now c.loop-place.place-index 0 c.loop-place-test.true in
    let low = all_at (λ (p : ℕ). p < length c.args.values.now) c.args.places.now c.loop-place.place-index _ c.requires.within is in
    omega (arith, low, c.requires.same, c.loop-place.invariant.long)

pub loop-place-preserved : goal.loop-place-preserved
loop-place-preserved g c =
    let places = c.args.places.now in
    let values = c.args.values.now in
    let old = c.loop-place.before in
    let k = c.loop-place.place-index in
    let is = slice_get-get_or places k 0 c.loop-place-test.true in
    let same : length old ≡ length values = omega (arith, c.requires.same, c.loop-place.invariant.long) in
    let low = all_at (λ (p : ℕ). p < length values) places k _ c.requires.within is in
    let put = c.set.ensures ∙ ap (set old _) c.get.ensures in
    record {
      long = ap length put ∙ (length-set old _ _ ∙ c.loop-place.invariant.long);
      copied = λ p. subst (λ (v : Numbers). LoadedButListed (drop (k + 1) places) values v p) (sym put)
          (listed_more places values old k _ p is (omega (arith, low, same)) (c.loop-place.invariant.copied p));
    }

pub returns : goal.returns
returns g c =
    let values = c.args.values.now in
    let before = c.loop-place.before in
    ext_get_or 0 before values (omega (arith, c.requires.same, c.loop-place.invariant.long))
    (λ p below. c.loop-place.invariant.copied p (λ k d low. absurd (omega (arith, low, length-drop c.loop-place.place-index c.args.places.now))))
