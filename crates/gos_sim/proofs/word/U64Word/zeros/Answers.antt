use Rattle.std.proofs.Common.{rules}
use Rattle.gos_sim.proofs.SameLemmas.{map_same}
use Rattle.gos_sim.proofs.word.U64Word.zeros.Goals as goal

pub returns : goal.returns
returns c = search (rules, map_same)
