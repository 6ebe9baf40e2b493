use Rattle.std.proofs.Common.{◌≡◌, Bool, true, not, cond, List, ap, ◌∙◌, get_or}
use Rattle.gos_netlist.specs.Events.{events_of}
use Rattle.gos_pulse.specs.Guarding.{halves_of}
use Rattle.gos_pulse.specs.declared.guard.Half.{Half}
use Rattle.gos_pulse.proofs.GuardLemmas.{allowed_is}
use Rattle.gos_pulse.proofs.guard.Guard.allows.Goals as goal

pub returns : goal.returns
returns c = λ net past l has guards label value.
    let half : Half = c.index-half.result.now in
    let half_is : half ≡ get_or (halves_of true (events_of net)) c.args.input half =
    c.index-half.ensures ∙ ap (λ (hs : List Half). get_or hs c.args.input half) guards.inputs in
    allowed_is net past l half c.args.self.now c.args.input c.may_come.result has guards label value half_is
    (c.may_come.ensures ∙ ap (λ (o : Bool). cond half.request (not o) o) c.get.ensures)
