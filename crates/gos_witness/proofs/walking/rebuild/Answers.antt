use Rattle.std.proofs.Common.{List, length, subst, ◌∙◌}
use Rattle.gos_witness.specs.declared.walking.Frame.{Frame}
use Rattle.gos_witness.specs.inner.Places.{AreFrames}
use Rattle.gos_witness.proofs.PlaceLemmas.{frame_keeps, frames_less}
use Rattle.gos_witness.proofs.RebuildLemmas.{IsRebuilding, rebuilding_goes_on}
use Rattle.gos_witness.proofs.walking.rebuild.Goals as goal

pub push-requires : goal.push-requires
push-requires c =
    let a = c.args.list.now in
    let l = c.loop-frame.list in
    let f = c.in-Some.frame in
    let known = c.loop-frame.invariant in
    let frames = subst (λ (fs : List Frame). AreFrames a.tables (length a.nodes) fs) c.in-Some.ensures.items known.frames in
    c.form.ensures.fits l (length l.nodes) (frame_keeps a l f known.keeps (frames_less a.tables (length a.nodes) c.pop.new.self.items f frames).1) known.there

pub loop-frame-preserved : goal.loop-frame-preserved
loop-frame-preserved c =
    let a = c.args.list.now in
    let l = c.loop-frame.list in
    let known =
    subst (λ (fs : List Frame). IsRebuilding a l c.loop-frame.whole c.args.part fs c.args.frames.items) c.in-Some.ensures.items c.loop-frame.invariant in
    rebuilding_goes_on a l c.push.new.self c.loop-frame.whole c.in_ok-whole.whole c.args.part c.pop.new.self.items c.in-Some.frame c.args.frames.items known
    c.push.ensures.keeps c.in_ok-whole.ensures.there (c.in_ok-whole.ensures.term ∙ c.form.ensures.shape l)
