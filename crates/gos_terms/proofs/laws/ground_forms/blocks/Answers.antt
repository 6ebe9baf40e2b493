use Rattle.gos_terms.proofs.ground_forms.BlockLemmas.{block_case, array_block_case}
use Rattle.gos_terms.proofs.laws.ground_forms.blocks.Goals as goal

pub returns-clause-one : goal.returns-clause-one
returns-clause-one c = block_case c.block_bodies.ensures.one c.blocks-2.ensures.realises c.names.ensures c.meanings.ensures.body

pub returns-clause-array : goal.returns-clause-array
returns-clause-array c = array_block_case c.block_bodies.ensures.array c.blocks-2.ensures.array c.array_names.ensures.realised c.meanings.ensures.body
