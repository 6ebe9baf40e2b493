use Rattle.gos_nodes.proofs.blocks.DriverLemmas.{local_is_server}
use Rattle.gos_nodes.proofs.blocks.ArrayDriverLemmas.{array_is_server}
use Rattle.gos_nodes.proofs.blocks.SmallServerLemmas.{others_are_none, type_is_needed, open_is_none, array_type_is_needed}
use Rattle.gos_nodes.proofs.laws.blocks.small_servers.Goals as goal

pub returns-clause-local : goal.returns-clause-local
returns-clause-local c = local_is_server

pub returns-clause-others : goal.returns-clause-others
returns-clause-others c = others_are_none

pub returns-clause-supply : goal.returns-clause-supply
returns-clause-supply c = type_is_needed

pub returns-clause-opened : goal.returns-clause-opened
returns-clause-opened c = open_is_none

pub returns-clause-array : goal.returns-clause-array
returns-clause-array c = array_is_server

pub returns-clause-lengths : goal.returns-clause-lengths
returns-clause-lengths c = array_type_is_needed
