use Rattle.gos_tidy.proofs.RoundLemmas.{IsOnTheWay}
use Rattle.gos_tidy.proofs.rounds.steady_rounds.Given as goal

abbrev pub invariant-loop : goal.invariant-loop
invariant-loop l = IsOnTheWay l.net l.other
