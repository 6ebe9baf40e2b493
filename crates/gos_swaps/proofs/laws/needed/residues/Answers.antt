use Rattle.gos_swaps.proofs.needed.ResidueLemmas.{residue}
use Rattle.gos_swaps.proofs.laws.needed.residues.Goals as goal

pub returns : goal.returns
returns c = residue
