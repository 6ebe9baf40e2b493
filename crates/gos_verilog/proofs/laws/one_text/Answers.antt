use Rattle.gos_verilog.proofs.OneTextLemmas.{accepted_text, readable_text, one_netlist}
use Rattle.gos_verilog.proofs.laws.one_text.Goals as goal

pub returns-clause-accepted : goal.returns-clause-accepted
returns-clause-accepted c = accepted_text

pub returns-clause-readable : goal.returns-clause-readable
returns-clause-readable c = readable_text

pub returns-clause-netlist : goal.returns-clause-netlist
returns-clause-netlist c = one_netlist
