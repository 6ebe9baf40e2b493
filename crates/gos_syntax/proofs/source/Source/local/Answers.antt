use Rattle.std.proofs.Common.{arith}
use Rattle.gos_syntax.specs.Items.{seen}
use Rattle.gos_syntax.proofs.AnswerLemmas.{refused, answered}
use Rattle.gos_syntax.proofs.LeadsLemmas.{leads_then, leads_token, stops_after, stops_at}
use Rattle.gos_syntax.proofs.BinderExits as exits
use Rattle.gos_syntax.proofs.source.Source.local.Goals as goal

pub returns-in_err-name : goal.returns-in_err-name
returns-in_err-name c = refused c.from_residual.result c.from_residual.ensures.1 (stops_at c.in_err-name.ensures.refused)

pub returns-in_err-length : goal.returns-in_err-length
returns-in_err-length c =
    refused c.from_residual-in_err-length.result c.from_residual-in_err-length.ensures.1
    (stops_after (exits.named_leads c.in_ok-name.ensures.name (omega arith)) c.in_err-length.ensures.refused)

pub returns-in_err-width_at : goal.returns-in_err-width_at
returns-in_err-width_at c =
    refused c.from_residual-in_err-width_at.result c.from_residual-in_err-width_at.ensures.1
    (stops_after (exits.named_leads c.in_ok-name.ensures.name (omega arith))
    (exits.colon_stops c.args.self.now c.in_ok-length.length c.in_ok-length.ensures.read.within c.in_ok-length.ensures.read.is c.in_err-width_at.ensures.absent
    c.in_err-width_at.ensures.here))

pub returns-in_err-width : goal.returns-in_err-width
returns-in_err-width c =
    let wide = exits.wide_leads (seen c.args.self.now) _ _ _ c.in_ok-length.length c.in_ok-length.ensures.read.is c.in_ok-width_at.ensures.sign c.in_ok-width_at.ensures.next in
    refused c.from_residual-in_err-width.result c.from_residual-in_err-width.ensures.1
    (stops_after (leads_then (exits.named_leads c.in_ok-name.ensures.name (omega arith)) wide) (stops_at c.in_err-width.ensures.refused))

pub returns-in_err-body_at : goal.returns-in_err-body_at
returns-in_err-body_at c =
    let wide = exits.wide_leads (seen c.args.self.now) _ _ _ c.in_ok-length.length c.in_ok-length.ensures.read.is c.in_ok-width_at.ensures.sign c.in_ok-width_at.ensures.next in
    refused c.from_residual-in_err-body_at.result c.from_residual-in_err-body_at.ensures.1
    (stops_after (leads_then (leads_then (exits.named_leads c.in_ok-name.ensures.name (omega arith)) wide) (leads_token (_, c.in_ok-width.ensures.small)))
    (stops_at c.in_err-body_at.ensures.refused))

pub returns : goal.returns
returns c =
    answered
    (exits.local_made _ _ _ _ c.in_ok-name.ensures.name c.in_ok-length.ensures.read.is c.in_ok-width_at.ensures.sign c.in_ok-width_at.ensures.next
    c.in_ok-width.ensures.small c.span-width_span.ensures c.in_ok-body_at.ensures.word c.in_ok-body_at.ensures.next c.in_ok-body_at.ensures.within)
