use Rattle.std.specs.Prelude.{Option, IsNone}
use Rattle.std.proofs.Common.{refl, sym, subst}
use Rattle.gos_tidy.specs.declared.breach.Breach.{Breach}
use Rattle.gos_tidy.proofs.rounds.next_quotient.Goals as goal

pub returns-in-None-clause-firm : goal.returns-in-None-clause-firm
returns-in-None-clause-firm c = λ _. c.in_ok-breach.ensures.firm (subst (λ (o : Option Breach). IsNone o) (sym c.in-None.is) refl)
