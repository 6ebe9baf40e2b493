use Rattle.std.proofs.Common.{◌≡◌, ◌≤◌, ◌+◌, ℕ, suc, List, length, drop, refl, sym, subst, arith, ◌∙◌}
use Rattle.std.specs.Prelude.{get_or}
use Rattle.std.proofs.Math.Seq.{drop-cons}
use Rattle.gos_witness.specs.declared.walking.Frame.{Frame}
use Rattle.gos_witness.specs.NodeLists.{seen}
use Rattle.gos_witness.proofs.KeepLemmas.{fits_keeps, same_tables}
use Rattle.gos_witness.proofs.WalkLemmas.{IsWalked, walking_begins, walked_more, walked_out, walked_to, nothing_left}
use Rattle.gos_witness.proofs.walking.walk.Goals as goal

pub loop-step-init : goal.loop-step-init
loop-step-init c = walking_begins c.args.list.now c.args.root c.args.start c.args.steps.now c.new-frames.result.items c.requires c.new-frames.ensures.items

pub node-requires : goal.node-requires
node-requires c = c.loop-step.invariant.there

pub enter-requires : goal.enter-requires
enter-requires c =
    let l = c.args.list.now in
    let there = c.loop-step.invariant.there in
    fits_keeps l.tables l.tables c.loop-step.node (length l.nodes) c.node.result.form (same_tables l.tables) (omega (arith, there)) c.node.ensures.right.fits

pub returns-in_default : goal.returns-in_default
returns-in_default c =
    let l = c.args.list.now in
    let steps = c.args.steps.now in
    let i = c.loop-step.step-index in
    let fs = c.loop-step.frames.items in
    let here =
    subst (λ (rest : List ℕ). IsWalked l c.args.root c.args.start steps c.loop-step.zone rest c.loop-step.node fs) (drop-cons steps i 0 c.loop-step-test.true)
    c.loop-step.invariant in
    record {
      place =
          walked_out l c.args.root c.args.start steps c.loop-step.zone (get_or steps i 0) (drop (suc i) steps) c.loop-step.node fs c.node.result here c.node.ensures.right
          c.in_default.ensures;
    }

pub loop-step-preserved : goal.loop-step-preserved
loop-step-preserved c =
    let l = c.args.list.now in
    let steps = c.args.steps.now in
    let i = c.loop-step.step-index in
    let fs = c.loop-step.frames.items in
    let e = c.in-Some.entered in
    let here =
    subst (λ (rest : List ℕ). IsWalked l c.args.root c.args.start steps c.loop-step.zone rest c.loop-step.node fs) (drop-cons steps i 0 c.loop-step-test.true)
    c.loop-step.invariant in
    let one : suc i ≡ i + 1 = omega arith in
    subst (λ (k : ℕ). IsWalked l c.args.root c.args.start steps e.zone (drop k steps) e.part c.push.new.self.items) one
    (subst (λ (more : List Frame). IsWalked l c.args.root c.args.start steps e.zone (drop (suc i) steps) e.part more) (sym c.in_ok-push.ensures.items)
    (walked_more l c.args.root c.args.start steps c.loop-step.zone (get_or steps i 0) (drop (suc i) steps) c.loop-step.node fs c.node.result e here
    c.node.ensures.right c.in-Some.ensures))

pub returns-then-not-is_end : goal.returns-then-not-is_end
returns-then-not-is_end c =
    let l = c.args.list.now in
    let steps = c.args.steps.now in
    let i = c.loop-step.step-index in
    let over : length steps ≤ i = grind (arith, c.loop-step-test.false) in
    let here =
    subst (λ (rest : List ℕ). IsWalked l c.args.root c.args.start steps c.loop-step.zone rest c.loop-step.node c.loop-step.frames.items) (nothing_left i steps over)
    c.loop-step.invariant in
    record { place = here.part ∙ c.if-not-is_end.ensures (seen l c.loop-step.node) }

pub returns : goal.returns
returns c =
    let l = c.args.list.now in
    let steps = c.args.steps.now in
    let i = c.loop-step.step-index in
    let over : length steps ≤ i = grind (arith, c.loop-step-test.false) in
    let here =
    subst (λ (rest : List ℕ). IsWalked l c.args.root c.args.start steps c.loop-step.zone rest c.loop-step.node c.loop-step.frames.items) (nothing_left i steps over)
    c.loop-step.invariant in
    record {
      place =
          walked_to l c.args.root c.args.start steps c.loop-step.zone c.loop-step.node (record { frames = c.loop-step.frames; node = c.loop-step.node }) here refl
          (c.if-not-is_end.ensures (seen l c.loop-step.node));
    }
