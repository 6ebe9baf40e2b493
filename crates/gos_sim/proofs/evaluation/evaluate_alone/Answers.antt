use Rattle.std.proofs.Common.{◌≡◌, ◌<◌, ◌∙◌, arith, length, map, rules, sym}
use Rattle.std.proofs.lemmas.List.{length-map}
use Rattle.gos_netlist.specs.Settling.{at}
use Rattle.gos_sim.specs.inner.Program.{IsSized, IsStepWithin}
use Rattle.gos_sim.proofs.SameLemmas.{number_read}
use Rattle.gos_sim.proofs.SpotLemmas.{alone_steps, known_alone, length_runs}
use Rattle.gos_sim.proofs.evaluation.evaluate_alone.Goals as goal

pub alone-one-requires-clause-step : goal.alone-one-requires-clause-step
alone-one-requires-clause-step g c = let long = length_runs c.args.operands.now c.args.runs.now c.requires.fit in omega (arith, long, c.requires.step)

pub offset_bounds-values-net : goal.offset_bounds-values-net
offset_bounds-values-net g c =
    let low = (known_alone g.W.Word.number c.args.operands.now c.args.runs.now c.args.step c.alone-one.result c.args.values.now c.requires.fit c.alone-one.ensures c.requires.step c.requires.steps).low in
    let below : c.alone-one.result.net < length c.args.values.now = omega (arith, low, length-map c.args.values.now g.W.Word.number) in
    search rules

pub bounds-values-net : goal.bounds-values-net
bounds-values-net g c =
    let low = (known_alone g.W.Word.number c.args.operands.now c.args.runs.now c.args.step c.alone-one.result c.args.values.now c.requires.fit c.alone-one.ensures c.requires.step c.requires.steps).low in
    omega (arith, low, length-map c.args.values.now g.W.Word.number)

pub evaluate_run-requires-clause-steps : goal.evaluate_run-requires-clause-steps
evaluate_run-requires-clause-steps g c =
    alone_steps (IsStepWithin (length c.args.values.now)) c.args.operands.now c.args.runs.now c.args.step c.alone-one.result c.requires.fit c.alone-one.ensures c.requires.step c.requires.steps

pub evaluate_run-requires-clause-sized : goal.evaluate_run-requires-clause-sized
evaluate_run-requires-clause-sized g c =
    alone_steps (IsSized g.W.Word.bits) c.args.operands.now c.args.runs.now c.args.step c.alone-one.result c.requires.fit c.alone-one.ensures c.requires.step c.requires.sized

pub offset_bounds-values-net-2 : goal.offset_bounds-values-net-2
offset_bounds-values-net-2 g c =
    let low = (known_alone g.W.Word.number c.args.operands.now c.args.runs.now c.args.step c.alone-one.result c.args.values.now c.requires.fit c.alone-one.ensures c.requires.step c.requires.steps).low in
    let below : c.alone-one.result.net < length c.args.values.now = omega (arith, low, length-map c.args.values.now g.W.Word.number) in
    search rules

pub bounds-values-net-2 : goal.bounds-values-net-2
bounds-values-net-2 g c =
    let low = (known_alone g.W.Word.number c.args.operands.now c.args.runs.now c.args.step c.alone-one.result c.args.values.now c.requires.fit c.alone-one.ensures c.requires.step c.requires.steps).low in
    omega (arith, low, length-map c.args.values.now g.W.Word.number)

pub returns-then-is-clause-evaluated : goal.returns-then-is-clause-evaluated
returns-then-is-clause-evaluated g c =
    (known_alone g.W.Word.number c.args.operands.now c.args.runs.now c.args.step c.alone-one.result c.args.values.now c.requires.fit c.alone-one.ensures c.requires.step c.requires.steps).evaluated
    (map g.W.Word.number c.evaluate_run.new.values) c.evaluate_run.ensures

pub returns-then-is-clause-told : goal.returns-then-is-clause-told
returns-then-is-clause-told g c =
    let one = known_alone g.W.Word.number c.args.operands.now c.args.runs.now c.args.step c.alone-one.result c.args.values.now c.requires.fit c.alone-one.ensures c.requires.step c.requires.steps in
    let number = g.W.Word.number in
    let net = c.alone-one.result.net in
    let old = c.index-values-net.result in
    let new = c.index-values-net-2.result in
    let low : net < length c.args.values.now = omega (arith, one.low, length-map c.args.values.now number) in
    let low_too : net < length c.evaluate_run.new.values = omega (arith, low) in
    let is : number new ≡ number old = search rules in
    let same : at (map number c.evaluate_run.new.values) net ≡ at (map number c.args.values.now) net =
    number_read number c.evaluate_run.new.values net new low_too c.index-values-net-2.is ∙ (is ∙ sym (number_read number c.args.values.now net old low c.index-values-net.is)) in
    one.same (map g.W.Word.number c.evaluate_run.new.values) c.evaluate_run.ensures same

pub returns-else-is-clause-evaluated : goal.returns-else-is-clause-evaluated
returns-else-is-clause-evaluated g c =
    (known_alone g.W.Word.number c.args.operands.now c.args.runs.now c.args.step c.alone-one.result c.args.values.now c.requires.fit c.alone-one.ensures c.requires.step c.requires.steps).evaluated
    (map g.W.Word.number c.evaluate_run.new.values) c.evaluate_run.ensures

pub returns-else-is-clause-told : goal.returns-else-is-clause-told
returns-else-is-clause-told g c =
    let one = known_alone g.W.Word.number c.args.operands.now c.args.runs.now c.args.step c.alone-one.result c.args.values.now c.requires.fit c.alone-one.ensures c.requires.step c.requires.steps in
    (one.low, one.others (map g.W.Word.number c.evaluate_run.new.values) c.evaluate_run.ensures)
