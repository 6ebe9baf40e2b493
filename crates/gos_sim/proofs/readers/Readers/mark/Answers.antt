use Rattle.std.proofs.Common.{◌≡◌, ◌-◌, ◌<◌, ◌∙◌, arith, length, refl, subst}
use Rattle.std.proofs.lemmas.Option.{slice_get_read}
use Rattle.gos_sim.specs.inner.Readers.{IsOn}
use Rattle.gos_sim.proofs.ReaderLemmas.{on_none, on_rest}
use Rattle.gos_sim.proofs.readers.Readers.mark.Goals as goal

pub loop-link-preserved : goal.loop-link-preserved
loop-link-preserved c =
    let all = c.args.self.now.all.items in
    let link = c.loop-link.link in
    let known = c.loop-link.invariant in
    let low : link - 1 < length all = omega (arith, known.within, c.loop-link-test.true) in
    let r = c.index.result.now in
    let is = slice_get_read all (length all) (link - 1) r refl low c.index.ensures in
    record {
      within = omega (arith, c.requires.linked.down (link - 1) r is, low);
      each = c.mark.ensures.each ∙ known.each;
      kept = λ item bare. known.kept item (c.mark.ensures.kept item bare);
      rest = λ item reads bare. on_rest all c.mark.new.self.words.items item link (link - 1) r (omega (arith, c.loop-link-test.true)) is c.mark.ensures.marked bare
          (known.rest item reads (c.mark.ensures.kept item bare));
    }

pub returns-clause-marked : goal.returns-clause-marked
returns-clause-marked c = λ item reads bare.
    let end : c.loop-link.link ≡ 0 = omega (arith, c.loop-link-test.false) in
    on_none c.args.self.now.all.items item (subst (IsOn c.args.self.now.all.items item) end (c.loop-link.invariant.rest item reads bare))
