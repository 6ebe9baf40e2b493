use Rattle.gos_verilog.proofs.OneTextLemmas.{one_reading, read_back}
use Rattle.gos_verilog.proofs.laws.one_reading.Goals as goal

pub returns-clause-one : goal.returns-clause-one
returns-clause-one c = one_reading

pub returns-clause-back : goal.returns-clause-back
returns-clause-back c = read_back
