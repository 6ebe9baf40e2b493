use Rattle.std.proofs.Common.{refl, arith}
use Rattle.gos_syntax.specs.Symbols as symbols
use Rattle.gos_syntax.proofs.AnswerLemmas.{refused, answered}
use Rattle.gos_syntax.proofs.LeadsLemmas.{stops_after, stops_at}
use Rattle.gos_syntax.proofs.StopLemmas.{else_fails}
use Rattle.gos_syntax.proofs.RuleExits.{past_token}
use Rattle.gos_syntax.proofs.BinderExits as exits
use Rattle.gos_syntax.proofs.source.Source.array_length.Goals as goal

pub returns-then-not-is_sign : goal.returns-then-not-is_sign
returns-then-not-is_sign c =
    answered record { within = c.requires; is = (refl, else_fails _ c.is_sign.ensures.sign c.if-not-is_sign.true) }

pub returns-in_err-value : goal.returns-in_err-value
returns-in_err-value c =
    let opened = c.is_sign.ensures.sign.0 c.if-not-is_sign.false in
    refused c.from_residual.result c.from_residual.ensures.1 (stops_after (past_token symbols.an_array opened) (stops_at c.in_err-value.ensures.refused))

pub returns-in_err-end : goal.returns-in_err-end
returns-in_err-end c =
    let opened = c.is_sign.ensures.sign.0 c.if-not-is_sign.false in
    refused c.from_residual-in_err-end.result c.from_residual-in_err-end.ensures.1
    (stops_after (exits.value_leads opened c.in_ok-value.ensures.small) (stops_at c.in_err-end.ensures.refused))

pub returns : goal.returns
returns c =
    let opened = c.is_sign.ensures.sign.0 c.if-not-is_sign.false in
    answered
    record {
      within = c.in_ok-end.ensures.within;
      is = (opened, c.in_ok-value.ensures.small, c.span-span.ensures, c.in_ok-end.ensures.sign, omega (arith, c.in_ok-end.ensures.next));
    }
