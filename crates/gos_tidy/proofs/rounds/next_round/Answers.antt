use Rattle.std.specs.Prelude.{◌≡◌, List, Option, IsNone, map}
use Rattle.std.proofs.Common.{refl, sym, ap, subst, ◌∙◌}
use Rattle.gos_netlist.specs.Nets.{Cell, Netlist}
use Rattle.gos_netlist.specs.Seen.{cell_of}
use Rattle.gos_tidy.specs.declared.quotient.Quotient.{Quotient}
use Rattle.gos_tidy.specs.inner.Breaches.{AllFirm}
use Rattle.gos_tidy.proofs.rounds.next_round.Goals as goal

pub returns-in-None-clause-firm : goal.returns-in-None-clause-firm
returns-in-None-clause-firm c =
    let same : map cell_of c.deref.result.now ≡ c.args.net.now.cells = ap (map cell_of) c.deref.ensures.value ∙ ap (λ (x : Netlist). x.cells) c.net.view_is in
    λ _. subst (λ (cells : List Cell). AllFirm cells) same (c.in_ok-quotient.ensures.firm (subst (λ (o : Option Quotient). IsNone o) (sym c.in-None.is) refl))
