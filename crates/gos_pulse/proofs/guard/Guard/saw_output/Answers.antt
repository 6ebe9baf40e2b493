use Rattle.std.proofs.Common.{◌≡◌, false, List, ap, ◌∙◌, refl, get_or}
use Rattle.gos_netlist.specs.Events.{events_of}
use Rattle.gos_pulse.specs.Guarding.{halves_of}
use Rattle.gos_pulse.specs.declared.guard.Half.{Half}
use Rattle.gos_pulse.proofs.GuardLemmas.{saw}
use Rattle.gos_pulse.proofs.guard.Guard.saw_output.Goals as goal

pub returns-clause-guards : goal.returns-clause-guards
returns-clause-guards c = λ net past l has guards label.
    let half : Half = c.index-half.result.now in
    let half_is : half ≡ get_or (halves_of false (events_of net)) c.args.output half =
    c.index-half.ensures ∙ ap (λ (hs : List Half). get_or hs c.args.output half) guards.outputs in
    saw net past l false c.args.output half c.args.self.now _ has guards label half_is refl refl c.set.ensures.first c.set.ensures.second
