use Rattle.gos_witness.proofs.TextLemmas.{printed_is_read}
use Rattle.gos_witness.proofs.text_laws.reads_back.Goals as goal

pub returns : goal.returns
returns c = printed_is_read
