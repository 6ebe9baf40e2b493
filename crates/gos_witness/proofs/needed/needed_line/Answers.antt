use Rattle.std.proofs.Common.{◌<◌, ℕ, List, length, sym, subst, arith}
use Rattle.gos_witness.specs.declared.moves.Line.TheVariants.{Step, Label}
use Rattle.gos_witness.specs.NodeLists.{seen}
use Rattle.gos_witness.specs.inner.Finds.{LeadsBelow}
use Rattle.gos_witness.specs.inner.Ends.{IsHeadLine, IsPlaced, innermost}
use Rattle.gos_witness.proofs.WayLemmas.{ok_map, apart_there, turn_down, turn_head, turn_operand, turn_step, turn_label}
use Rattle.gos_witness.proofs.needed.needed_line.Goals as goal

pub loop-way-preserved : goal.loop-way-preserved
loop-way-preserved c =
    let l = c.args.list.now in
    let m = seen l c.args.root in
    let x = seen l c.loop-way.node in
    let steps = c.loop-way.steps.items in
    let on = c.loop-way.invariant.2 in
    let below : c.in-Down.part < c.loop-way.node =
    subst (LeadsBelow (length l.nodes) c.loop-way.node) c.in-Down.is c.turn_at.ensures.below in
    let here = c.loop-way.invariant.0 in (
      omega (arith, below, here),
      c.in_ok-add_way-in-Down.ensures.children,
      λ o knows.
          turn_down l o steps m x c.turn_at.result (on o knows) (c.turn_at.ensures.turn o knows (apart_there o steps m x (on o knows) c.requires.apart)) c.in-Down.way
          c.in-Down.part c.add_way.new.steps.items c.in-Down.is c.in_ok-add_way-in-Down.ensures.more,
    )

pub returns-in-Step : goal.returns-in-Step
returns-in-Step c = λ o knows.
    let l = c.args.list.now in
    let m = seen l c.args.root in
    let x = seen l c.loop-way.node in
    let on = c.loop-way.invariant.2 o knows in
    subst (λ (z : List ℕ). IsPlaced o m (Step z)) (sym c.new.ensures)
    (turn_step l o c.loop-way.steps.items m x c.turn_at.result on (c.turn_at.ensures.turn o knows (apart_there o c.loop-way.steps.items m x on c.requires.apart)) c.in-Step.is)

pub returns-in-Label : goal.returns-in-Label
returns-in-Label c = λ o knows.
    let l = c.args.list.now in
    let m = seen l c.args.root in
    let x = seen l c.loop-way.node in
    let on = c.loop-way.invariant.2 o knows in
    subst (λ (z : List ℕ). IsPlaced o m (Label z)) (sym c.new-in-Label.ensures)
    (turn_label l o c.loop-way.steps.items m x c.turn_at.result on (c.turn_at.ensures.turn o knows (apart_there o c.loop-way.steps.items m x on c.requires.apart)) c.in-Label.is)

pub returns-in-Head : goal.returns-in-Head
returns-in-Head c = λ o knows.
    let l = c.args.list.now in
    let m = seen l c.args.root in
    let x = seen l c.loop-way.node in
    let on = c.loop-way.invariant.2 o knows in
    ok_map (IsHeadLine c.loop-way.steps.items (innermost (seen l c.in-Head.head))) (IsPlaced o m) c.unfolding.result
    (λ line. turn_head l o c.loop-way.steps.items m x c.turn_at.result on
    (c.turn_at.ensures.turn o knows (apart_there o c.loop-way.steps.items m x on c.requires.apart)) c.in-Head.head line c.in-Head.is) c.unfolding.ensures

pub returns-in-Operand : goal.returns-in-Operand
returns-in-Operand c = λ o knows.
    let l = c.args.list.now in
    let m = seen l c.args.root in
    let x = seen l c.loop-way.node in
    let on = c.loop-way.invariant.2 o knows in
    let more = c.add_way-in-Operand.new.steps.items in
    ok_map (IsHeadLine more (innermost (seen l c.in-Operand.head))) (IsPlaced o m) c.unfolding-in-Operand.result
    (λ line. turn_operand l o c.loop-way.steps.items m x c.turn_at.result on
    (c.turn_at.ensures.turn o knows (apart_there o c.loop-way.steps.items m x on c.requires.apart)) c.in-Operand.head line more c.in-Operand.is
    c.in_ok-add_way-in-Operand.ensures.more) c.unfolding-in-Operand.ensures
