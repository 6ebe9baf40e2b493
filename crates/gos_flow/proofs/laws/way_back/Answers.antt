use Rattle.gos_flow.proofs.LawLemmas.{netlist_comes_back, verilog_comes_back}
use Rattle.gos_flow.proofs.laws.way_back.Goals as goal

pub returns-clause-netlist : goal.returns-clause-netlist
returns-clause-netlist c = netlist_comes_back c.one_answer.ensures.netlist c.one_reading.ensures.one c.one_reading.ensures.back c.one_text.ensures.accepted

pub returns-clause-verilog : goal.returns-clause-verilog
returns-clause-verilog c = verilog_comes_back c.one_answer.ensures.netlist c.one_reading.ensures.one c.one_reading.ensures.back c.one_text.ensures.accepted
