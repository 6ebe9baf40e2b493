use Rattle.gos_netlist.proofs.LengthLemmas.{printed_is_read}
use Rattle.gos_netlist.proofs.laws.reads_back.Goals as goal

pub returns : goal.returns
returns c = printed_is_read
