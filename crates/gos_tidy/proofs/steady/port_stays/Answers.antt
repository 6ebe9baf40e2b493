use Rattle.std.proofs.Common.{◌≡◌, map, ℕ, List, ap, subst, ◌∙◌}
use Rattle.std.specs.Prelude.{slice_get}
use Rattle.gos_netlist.specs.Nets.{NetPort}
use Rattle.gos_netlist.specs.Seen.{cell_of, number_of}
use Rattle.gos_netcheck.specs.Rules.{Kept}
use Rattle.gos_tidy.proofs.steady.port_stays.Goals as goal

pub returns : goal.returns
returns c so =
    let Stay : List ℕ → Type 0 = λ ns. Kept (λ _ n. slice_get (map cell_of c.args.others.now) n ≡ slice_get (map cell_of c.args.cells.now) n) ns in
    let same : map number_of c.deref.result.now ≡ c.args.port.now.nets = ap (map number_of) c.deref.ensures.value ∙ ap (λ (p : NetPort). p.nets) c.port.view_is in
    subst Stay same (c.nets_stay.ensures so)
