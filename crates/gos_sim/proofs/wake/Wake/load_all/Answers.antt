use Rattle.std.proofs.Common.{ℕ, ◌<◌, ◌∙◌, ap, length, arith, set, subst, sym}
use Rattle.std.proofs.lemmas.Option.{slice_get-get_or, slice_get_within}
use Rattle.gos_netlist.specs.Settling.{Numbers, at}
use Rattle.gos_sim.specs.inner.Program.{IsLatchWithin}
use Rattle.gos_sim.specs.inner.Active.{IsWake}
use Rattle.gos_sim.proofs.PlaceLemmas.{all_at}
use Rattle.gos_sim.proofs.LatchLemmas.{AreLoadedBefore, kept_by_latch, loaded_more}
use Rattle.gos_sim.proofs.ActiveLemmas.{follows_on}
use Rattle.gos_sim.proofs.wake.Wake.load_all.Goals as goal

pub loop-latch-preserved : goal.loop-latch-preserved
loop-latch-preserved g c =
    let known = c.loop-latch.invariant in
    let put = c.put.ensures in
    let latches = c.args.latches.now in
    let place = c.loop-latch.latch-index in
    let v = c.loop-latch.values in
    let is = slice_get-get_or latches place _ c.loop-latch-test.true in
    let same = known.long in
    let low = (all_at (IsLatchWithin (length c.args.values.now)) latches place _ c.requires.latches is).net in
    record {
      loaded = subst (AreLoadedBefore latches c.args.registers.now _) (sym (put.values ∙ ap (set v _) c.get.ensures))
          (loaded_more latches c.args.registers.now v place _ is (omega (arith, low, same)) known.loaded);
      others = λ n free. ap (λ (w : Numbers). at w n) put.values ∙ (kept_by_latch latches v place n _ _ is free ∙ known.others n free);
      long = put.long ∙ known.long;
      follows = follows_on c.args.self.now c.loop-latch.self c.put.new.self c.args.values.now v c.put.new.values known.follows put.follows;
      wake = subst (λ (n : ℕ). IsWake n c.put.new.self) same put.wake;
    }

pub returns-clause-loaded : goal.returns-clause-loaded
returns-clause-loaded g c = λ j l at_j.
    let within : j < length c.args.latches.now = slice_get_within c.args.latches.now j l at_j in
    c.loop-latch.invariant.loaded j (omega arith) l at_j
