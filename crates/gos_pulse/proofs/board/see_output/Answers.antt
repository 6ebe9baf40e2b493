use Rattle.std.proofs.Common.{rules, ◌≡◌, ◌++◌, ◌∷◌, [], Bool, true, cond, reverse, subst, sym}
use Rattle.gos_model.specs.Labels.{Label}
use Rattle.gos_pulse.specs.Guarding.{Guards}
use Rattle.gos_pulse.specs.inner.Slots.{label_of}
use Rattle.gos_pulse.proofs.SeeLemmas.{output_label}
use Rattle.gos_pulse.proofs.board.see_output.Goals as goal

pub returns-clause-guards : goal.returns-clause-guards
returns-clause-guards c = λ net past event has guards at.
    let on : c.args.pulse.on ≡ true = search rules in
    let l : Label = label_of net.ports event c.args.pulse.value in
    subst (λ (b : Bool). Guards net (reverse (cond b (l ∷ []) []) ++ past) c.saw_output.new.self) (sym on)
    (c.saw_output.ensures.guards net past l has guards (output_label net c.args.output event c.args.pulse.value at))
