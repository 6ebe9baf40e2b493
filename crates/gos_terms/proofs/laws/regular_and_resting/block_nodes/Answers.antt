use Rattle.gos_terms.proofs.regular_and_resting.BlockLemmas.{block_is_steady, array_block_is_steady}
use Rattle.gos_terms.proofs.laws.regular_and_resting.block_nodes.Goals as goal

pub returns-clause-one : goal.returns-clause-one
returns-clause-one c = block_is_steady c.blocks-2.ensures.any c.blocks-2.ensures.restful

pub returns-clause-array : goal.returns-clause-array
returns-clause-array c = array_block_is_steady c.blocks-2.ensures.any c.blocks-2.ensures.restful
