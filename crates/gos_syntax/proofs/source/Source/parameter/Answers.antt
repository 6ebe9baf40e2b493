use Rattle.std.proofs.Common.{arith}
use Rattle.gos_syntax.proofs.AnswerLemmas.{refused, answered}
use Rattle.gos_syntax.proofs.LeadsLemmas.{leads_then, leads_part, stops_after, stops_at}
use Rattle.gos_syntax.proofs.BinderExits as exits
use Rattle.gos_syntax.proofs.source.Source.parameter.Goals as goal

pub returns-in_err-name : goal.returns-in_err-name
returns-in_err-name c = refused c.from_residual.result c.from_residual.ensures.1 (stops_at c.in_err-name.ensures.refused)

pub returns-in_err-ty_at : goal.returns-in_err-ty_at
returns-in_err-ty_at c =
    refused c.from_residual-in_err-ty_at.result c.from_residual-in_err-ty_at.ensures.1
    (stops_after (exits.named_leads c.in_ok-name.ensures.name (omega arith)) (stops_at c.in_err-ty_at.ensures.refused))

pub returns-in_err-ty : goal.returns-in_err-ty
returns-in_err-ty c =
    refused c.from_residual-in_err-ty.result c.from_residual-in_err-ty.ensures.1
    (stops_after (exits.colon_leads c.in_ok-name.ensures.name (omega arith) c.in_ok-ty_at.ensures.sign c.in_ok-ty_at.ensures.next)
    (stops_at c.in_err-ty.ensures.refused))

pub returns-in_err-body_at : goal.returns-in_err-body_at
returns-in_err-body_at c =
    let colon = exits.colon_leads c.in_ok-name.ensures.name (omega arith) c.in_ok-ty_at.ensures.sign c.in_ok-ty_at.ensures.next in
    refused c.from_residual-in_err-body_at.result c.from_residual-in_err-body_at.ensures.1
    (stops_after (leads_then colon (leads_part c.in_ok-ty.ensures.read.read)) c.in_err-body_at.ensures.refused)

pub returns : goal.returns
returns c =
    answered
    (exits.parameter_made _ c.in_ok-name.ensures.name c.in_ok-ty_at.ensures.sign c.in_ok-ty_at.ensures.next c.in_ok-ty.ensures.read
    c.span-ty_span.ensures c.in_ok-body_at.ensures.sign c.in_ok-body_at.ensures.next c.in_ok-body_at.ensures.within)
