use Rattle.std.specs.List.{flat_map}
use Rattle.std.proofs.Common.{[], ◌∷◌, ◌++◌, ◌<◌, ◌∙◌, All, List, ap, arith, get_or, length, map, subst, sym, take}
use Rattle.std.proofs.lemmas.List.{length-map, take_all}
use Rattle.std.proofs.lemmas.List.Elements.{All-get_or, All-push}
use Rattle.gos_netlist.specs.declared.nets.NetId.{NetId}
use Rattle.gos_netlist.specs.Seen.{number_of}
use Rattle.gos_netlist.specs.Settling.{at}
use Rattle.gos_sim.specs.declared.evaluation.Run.{Run}
use Rattle.gos_sim.specs.declared.program.Step.{Step}
use Rattle.gos_sim.specs.inner.Drafts.{IsDraft}
use Rattle.gos_sim.specs.inner.Evaluation.{Fits, steps_of}
use Rattle.gos_sim.specs.inner.Spots.{IsNumbered, IsSpot, steps_in}
use Rattle.gos_sim.specs.inner.Places.{AreStepsMoved}
use Rattle.gos_sim.proofs.DraftLemmas.{steps_in_push, up_to_weaker}
use Rattle.gos_sim.proofs.EvaluationLemmas.{fitting_runs, moved_runs}
use Rattle.gos_sim.specs.inner.Program.{steps_named}
use Rattle.gos_sim.proofs.ProgramLemmas.{order_at, steps_below, steps_named_more, take_one}
use Rattle.gos_sim.proofs.evaluation.steps_moved.Goals as goal

pub loop-net-init : goal.loop-net-init
loop-net-init c = record { index = omega arith; draft = c.no_steps-draft.ensures.draft c.args.places.now; room = c.no_steps-draft.ensures.room }

pub add-requires-clause-step : goal.add-requires-clause-step
add-requires-clause-step c =
    let below : (get_or c.args.nets.now c.loop-net.net-index (record { 0 = 0 })).0 < length c.args.cells.now = All-get_or (λ (n : NetId). n.0 < length c.args.cells.now) c.args.nets.now c.loop-net.net-index (record { 0 = 0 }) c.loop-net-test.true c.requires.nets in
    steps_below c.args.cells.now _ (length c.args.places.now) _ c.requires.cells below c.requires.places

pub add-requires-clause-room : goal.add-requires-clause-room
add-requires-clause-room c =
    up_to_weaker c.loop-net.net-index 4294967294 c.loop-net.draft.operands (omega (arith, c.loop-net-test.true, c.requires.few)) c.loop-net.invariant.room.operands

pub loop-net-preserved : goal.loop-net-preserved
loop-net-preserved c =
    let at_i = order_at c.args.nets.now c.loop-net.net-index (record { 0 = 0 }) c.loop-net-test.true in
    let ns = map number_of c.args.nets.now in
    let more = ap (steps_named c.args.cells.now) (take_one ns c.loop-net.net-index _ at_i) ∙ steps_named_more c.args.cells.now (take c.loop-net.net-index ns) _ in
    record {
      index = omega (arith, c.loop-net-test.true);
      draft = subst (λ (ss : List Step). IsDraft c.args.places.now ss c.add.new.self) (sym more)
          (c.in_ok-add.ensures.steps (steps_named c.args.cells.now (take c.loop-net.net-index ns)) c.loop-net.invariant.draft);
      room = c.in_ok-add.ensures.room c.loop-net.net-index (omega (arith, c.loop-net-test.true, c.requires.few)) c.loop-net.invariant.room;
    }

pub spots_of-requires : goal.spots_of-requires
spots_of-requires c =
    let known = c.loop-net.invariant in
    let d = c.loop-net.draft in
    record { few = omega (arith, ap steps_in c.deref.ensures.value, ap steps_in c.in_ok-push.ensures.items, steps_in_push d.runs.items d.last, known.room.runs.steps, known.index, c.requires.few) }

pub invariant_of-result : goal.invariant_of-result
invariant_of-result c =
    let steps = steps_named c.args.cells.now (take c.loop-net.net-index (map number_of c.args.nets.now)) in
    let same = c.deref.ensures.value in
    record {
      fit = subst (All (Fits c.loop-net.draft.operands)) (sym c.in_ok-push.ensures.items) (fitting_runs c.args.places.now steps c.loop-net.draft c.loop-net.invariant.draft);
      spots = subst (λ (rs : List Run). All (IsSpot rs) c.in_ok-found.found.all.items) same c.in_ok-found.ensures.spots;
      numbered = subst (All IsNumbered) (sym c.in_ok-push.ensures.items) (All-push IsNumbered c.loop-net.draft.runs.items c.loop-net.draft.last c.loop-net.invariant.room.runs.all c.loop-net.invariant.room.runs.too);
      count = c.in_ok-found.ensures.count ∙ ap steps_in same;
    }

pub returns : goal.returns
returns c =
    let d = c.loop-net.draft in
    let ns = map number_of c.args.nets.now in
    let all = ap (steps_named c.args.cells.now) (take_all c.loop-net.net-index ns (omega (arith, length-map c.args.nets.now number_of, c.loop-net-test.false))) in
    subst (λ (rs : List Run). AreStepsMoved (at c.args.places.now) (steps_named c.args.cells.now ns) (flat_map (steps_of d.operands) rs)) (sym c.in_ok-push.ensures.items)
    (subst (λ (ss : List Step). AreStepsMoved (at c.args.places.now) ss (flat_map (steps_of d.operands) (d.runs.items ++ d.last ∷ []))) all
    (moved_runs c.args.places.now (steps_named c.args.cells.now (take c.loop-net.net-index ns)) d c.loop-net.invariant.draft))
