use Rattle.std.proofs.Common.{length}
use Rattle.gos_lex.proofs.line_words.+place_of.Given as goal

abbrev pub decreases-place_of : goal.decreases-place_of
decreases-place_of l = length l.words.now
