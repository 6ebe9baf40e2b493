use Rattle.gos_witness.proofs.AnswerLemmas.{always_one_answer}
use Rattle.gos_witness.proofs.laws.one_answer_of_lines.Goals as goal

pub returns : goal.returns
returns c = always_one_answer
