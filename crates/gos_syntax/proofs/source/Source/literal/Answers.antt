use Rattle.gos_syntax.proofs.AnswerLemmas.{refused, made}
use Rattle.gos_syntax.proofs.LeadsLemmas.{stops_after, stops_at}
use Rattle.gos_syntax.proofs.AtomExits as exits
use Rattle.gos_syntax.proofs.source.Source.literal.Goals as goal

pub returns-in_err-after_sign : goal.returns-in_err-after_sign
returns-in_err-after_sign c =
    refused c.from_residual.result c.from_residual.ensures.1
    (stops_after (exits.value_leads c.requires.number) (stops_at c.in_err-after_sign.ensures.refused))

pub returns-in_err-width : goal.returns-in_err-width
returns-in_err-width c =
    refused c.from_residual-in_err-width.result c.from_residual-in_err-width.ensures.1
    (stops_after (exits.colon_leads c.requires.number c.in_ok-after_sign.ensures.sign c.in_ok-after_sign.ensures.next) c.in_err-width.ensures.refused)

pub returns : goal.returns
returns c =
    made c.node.result c.node.ensures
    (exits.literal_derived c.requires.number c.in_ok-after_sign.ensures.sign c.in_ok-after_sign.ensures.next c.in_ok-width.ensures.small)
    (exits.literal_read c.requires.number c.in_ok-after_sign.ensures.sign c.in_ok-after_sign.ensures.next c.in_ok-width.ensures.small)
