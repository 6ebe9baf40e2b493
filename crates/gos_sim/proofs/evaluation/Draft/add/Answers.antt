use Rattle.std.proofs.Common.{[], ◌<◌, All, List, arith, length, subst, sym}
use Rattle.std.proofs.lemmas.List.Elements.{All-get_or, All-head}
use Rattle.gos_netlist.specs.Settling.{at}
use Rattle.gos_sim.specs.declared.evaluation.Draft.{Draft}
use Rattle.gos_sim.specs.declared.program.Step.{Step}
use Rattle.gos_sim.specs.inner.Places.{none}
use Rattle.gos_sim.specs.inner.Drafts.{AddsSteps}
use Rattle.gos_sim.specs.inner.Program.{IsStepWithin}
use Rattle.gos_sim.proofs.DraftLemmas.{draft_of_more}
use Rattle.gos_sim.proofs.EvaluationLemmas.{draft_more}
use Rattle.gos_sim.proofs.ProgramLemmas.{one_step, step_gate}
use Rattle.gos_sim.proofs.evaluation.Draft.add.Goals as goal

pub step_moved-step-requires : goal.step_moved-step-requires
step_moved-step-requires c =
    let one = one_step c.args.net c.args.cell (step_gate c.args.cell.gate c.in_default.not-Input c.in_default.not-Reg) in
    All-head (IsStepWithin (length c.args.places.now)) (record { net = c.args.net; width = c.args.cell.width; gate = c.args.cell.gate }) []
    (subst (All (IsStepWithin (length c.args.places.now))) one c.requires.step)

pub returns-in_ok-add_run-in_default-clause-steps : goal.returns-in_ok-add_run-in_default-clause-steps
returns-in_ok-add_run-in_default-clause-steps c =
    let one = one_step c.args.net c.args.cell (step_gate c.args.cell.gate c.in_default.not-Input c.in_default.not-Reg) in
    let made : Draft = record { operands = c.add.new.self; runs = c.add_run.new.runs; last = c.add_run.new.last } in
    subst (λ (ss : List Step). AddsSteps c.args.places.now ss c.args.self.now made) (sym one)
    (draft_more c.args.places.now (record { net = c.args.net; width = c.args.cell.width; gate = c.args.cell.gate }) c.step_moved-step.result c.args.self.now made c.in_ok-next-in_default.next
    c.step_moved-step.ensures.net c.step_moved-step.ensures.width c.step_moved-step.ensures.gate c.in_ok-next-in_default.ensures c.in_ok-add_run-in_default.ensures.more)

pub returns-in_ok-add_run-in_default-clause-room : goal.returns-in_ok-add_run-in_default-clause-room
returns-in_ok-add_run-in_default-clause-room c =
    let made : Draft = record { operands = c.add.new.self; runs = c.add_run.new.runs; last = c.add_run.new.last } in
    let places = c.args.places.now in
    let one = one_step c.args.net c.args.cell (step_gate c.args.cell.gate c.in_default.not-Input c.in_default.not-Reg) in
    let step = All-head (IsStepWithin (length places)) (record { net = c.args.net; width = c.args.cell.width; gate = c.args.cell.gate }) []
    (subst (All (IsStepWithin (length places))) one c.requires.step) in
    let low : at places c.args.net < none = All-get_or (λ p. p < none) places c.args.net 0 step.net c.requires.below in
    let net : c.step_moved-step.result.net < none = omega (arith, low, c.step_moved-step.ensures.net) in
    draft_of_more c.step_moved-step.result c.args.self.now made c.in_ok-next-in_default.next net c.in_ok-next-in_default.ensures c.in_ok-add_run-in_default.ensures.counted
