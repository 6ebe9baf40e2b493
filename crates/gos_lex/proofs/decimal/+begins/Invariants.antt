use Rattle.gos_lex.proofs.decimal.+begins.Given as goal

abbrev pub decreases-begins : goal.decreases-begins
decreases-begins l = l.low
