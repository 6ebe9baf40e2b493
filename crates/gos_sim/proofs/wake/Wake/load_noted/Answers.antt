use Rattle.std.proofs.Common.{ℕ, ◌+◌, ◌<◌, ◌≢◌, ◌∙◌, ap, drop, length, length-drop, arith, set, get_or-set_other, subst, sym}
use Rattle.std.proofs.lemmas.Option.{slice_get-get_or}
use Rattle.gos_netlist.specs.Settling.{Numbers, at}
use Rattle.gos_sim.specs.inner.Active.{IsWake}
use Rattle.gos_sim.proofs.PlaceLemmas.{all_at}
use Rattle.gos_sim.proofs.ActiveLemmas.{LoadedButListed, follows_on, listed_more}
use Rattle.gos_sim.proofs.wake.Wake.load_noted.Goals as goal

pub loop-place-preserved : goal.loop-place-preserved
loop-place-preserved g c =
    let known = c.loop-place.invariant in
    let put = c.put.ensures in
    let places = c.args.places.now in
    let k = c.loop-place.place-index in
    let v = c.loop-place.values in
    let is = slice_get-get_or places k 0 c.loop-place-test.true in
    let same = known.long in
    let low = all_at (λ (p : ℕ). p < length c.args.values.now) places k _ c.requires.places is in
    record {
      loaded = λ p before. subst (λ (w : Numbers). LoadedButListed (drop (k + 1) places) c.args.registers.now w p) (sym (put.values ∙ ap (set v _) c.get.ensures))
          (listed_more places c.args.registers.now v k _ p is (omega (arith, low, same)) (known.loaded p before));
      others = λ p apart. ap (λ (w : Numbers). at w p) put.values
          ∙ (get_or-set_other v _ p _ 0 (λ e. all_at (λ (q : ℕ). q ≢ p) places k _ apart is (sym e)) ∙ known.others p apart);
      long = put.long ∙ known.long;
      follows = follows_on c.args.self.now c.loop-place.self c.put.new.self c.args.values.now v c.put.new.values known.follows put.follows;
      wake = subst (λ (n : ℕ). IsWake n c.put.new.self) same put.wake;
    }

pub returns-clause-loaded : goal.returns-clause-loaded
returns-clause-loaded g c = λ p before.
    c.loop-place.invariant.loaded p before (λ k d low. absurd (omega (arith, low, length-drop c.loop-place.place-index c.args.places.now)))
