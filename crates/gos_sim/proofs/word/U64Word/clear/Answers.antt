use Rattle.std.proofs.Common.{◌∙◌, rules}
use Rattle.gos_sim.proofs.SameLemmas.{map_same}
use Rattle.gos_sim.proofs.word.U64Word.clear.Goals as goal

pub returns : goal.returns
returns c = map_same _ ∙ search rules
