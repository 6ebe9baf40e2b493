use Rattle.gos_terms.proofs.regular.OneLemmas.{wired_other, wired_is_one}
use Rattle.gos_terms.proofs.laws.regular.wired_nodes_are_one.Goals as goal

pub returns : goal.returns
returns c types i j m ns env other pl plc r s agree is also =
    wired_is_one types i j m ns other pl plc r s (wired_other types i j m ns env other pl r agree is) also
