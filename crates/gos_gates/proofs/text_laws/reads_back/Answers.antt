use Rattle.gos_gates.proofs.LawLemmas.{printed_is_read}
use Rattle.gos_gates.proofs.text_laws.reads_back.Goals as goal

pub returns : goal.returns
returns c = printed_is_read
