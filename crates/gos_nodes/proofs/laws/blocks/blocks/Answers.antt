use Rattle.gos_nodes.proofs.blocks.RegularLemmas.{open_block_is_regular, open_block_is_restful, block_is_regular}
use Rattle.gos_nodes.proofs.blocks.RealisesLemmas.{block_realises, array_block_realises}
use Rattle.gos_nodes.proofs.laws.blocks.blocks.Goals as goal

pub returns : goal.returns
returns c =
    record { any = open_block_is_regular; restful = open_block_is_restful; regular = block_is_regular; realises = block_realises; array = array_block_realises }
