use Rattle.gos_flow.proofs.LawLemmas.{command_makes_one}
use Rattle.gos_flow.proofs.laws.same_file.Goals as goal

pub returns : goal.returns
returns c = command_makes_one c.one_answer.ensures.netlist c.one_reading.ensures.one c.one_reading.ensures.back c.one_text.ensures.accepted
