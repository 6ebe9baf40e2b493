use Rattle.std.proofs.Common.{◌≡◌, ◌<◌, ◌∙◌, ℕ, All, ap, length, subst, sym}
use Rattle.gos_sim.specs.EventNets.{OnNets, input_events, output_events}
use Rattle.gos_sim.proofs.CycleLemmas.{inputs_within, outputs_within}
use Rattle.gos_sim.proofs.machine.machine_at.Goals as goal

pub events_at-requires-clause-nets : goal.events_at-requires-clause-nets
events_at-requires-clause-nets c =
    let each : length c.deref.result.now ≡ length c.args.net.now.cells = ap length c.deref.ensures.value ∙ c.requires.each in
    subst (λ (k : ℕ). All (OnNets (λ a. a < k)) (input_events c.args.net.now)) (sym each) (inputs_within c.args.net.now c.requires.ready)

pub events_at-requires-2-clause-nets : goal.events_at-requires-2-clause-nets
events_at-requires-2-clause-nets c =
    let each : length c.deref-2.result.now ≡ length c.args.net.now.cells = ap length c.deref-2.ensures.value ∙ c.requires.each in
    subst (λ (k : ℕ). All (OnNets (λ a. a < k)) (output_events c.args.net.now)) (sym each) (outputs_within c.args.net.now c.requires.ready)
