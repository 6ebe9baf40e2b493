use Rattle.gos_terms.proofs.regions.BlockLemmas.{block_is_wired, array_block_is_wired}
use Rattle.gos_terms.proofs.laws.regions.block_bodies.Goals as goal

pub returns-clause-one : goal.returns-clause-one
returns-clause-one c = block_is_wired

pub returns-clause-array : goal.returns-clause-array
returns-clause-array c = array_block_is_wired
