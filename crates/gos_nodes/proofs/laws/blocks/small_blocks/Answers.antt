use Rattle.gos_nodes.proofs.blocks.SmallBlockLemmas.{new_skip_is_block, new_skip_is_realised, variable_is_needed, width_is_needed, other_part_is_not}
use Rattle.gos_nodes.proofs.blocks.SmallArrayLemmas.{new_array_is_block, new_array_is_realised, length_is_needed}
use Rattle.gos_nodes.proofs.blocks.SmallReadingLemmas.{reading_is_block}
use Rattle.gos_nodes.proofs.laws.blocks.small_blocks.Goals as goal

pub returns-clause-block : goal.returns-clause-block
returns-clause-block c = new_skip_is_block

pub returns-clause-realised : goal.returns-clause-realised
returns-clause-realised c = new_skip_is_realised

pub returns-clause-variable : goal.returns-clause-variable
returns-clause-variable c = variable_is_needed

pub returns-clause-width : goal.returns-clause-width
returns-clause-width c = width_is_needed

pub returns-clause-other : goal.returns-clause-other
returns-clause-other c = other_part_is_not

pub returns-clause-array : goal.returns-clause-array
returns-clause-array c = new_array_is_block

pub returns-clause-array_realised : goal.returns-clause-array_realised
returns-clause-array_realised c = new_array_is_realised

pub returns-clause-length : goal.returns-clause-length
returns-clause-length c = length_is_needed

pub returns-clause-unjoined : goal.returns-clause-unjoined
returns-clause-unjoined c = reading_is_block
