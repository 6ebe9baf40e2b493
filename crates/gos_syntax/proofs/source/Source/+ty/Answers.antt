use Rattle.std.proofs.Common.{rules}
use Rattle.gos_lex.specs.declared.word.Word.TheVariants as words
use Rattle.gos_syntax.specs.Items.{seen}
use Rattle.gos_syntax.specs.Grammar as grammar
use Rattle.gos_syntax.specs.Grammar.{HasWord, IsType}
use Rattle.gos_syntax.specs.Symbols as symbols
use Rattle.gos_syntax.proofs.LeadsLemmas.{leads_then, leads_token_to, stops_for_memory, stops_after, stops_at}
use Rattle.gos_syntax.proofs.StopLemmas.{else_fails, base_stops}
use Rattle.gos_syntax.proofs.AnswerLemmas.{refused, answered, read_by, read_both}
use Rattle.gos_syntax.proofs.RuleExits.{past_token, past_all, past_tail, first_refused}
use Rattle.gos_syntax.proofs.TypeExits as exits
use Rattle.gos_syntax.proofs.source.Source.+ty.Goals as goal

-- functions
pub ty-returns-in_err-argument : goal.ty-returns-in_err-argument
ty-returns-in_err-argument t c =
    refused c.from_residual.result c.from_residual.ensures.1 (first_refused symbols.a_type tt c.in_err-argument.ensures.refused)

pub ty-returns-then-not-is_sign : goal.ty-returns-then-not-is_sign
ty-returns-then-not-is_sign t c =
    answered
    (read_by c.in_ok-argument.ensures.read (grammar.a_product _ _ _)
    (past_all symbols.a_type tt symbols.no_outcome (else_fails _ c.is_sign.ensures.sign c.if-not-is_sign.true)))

pub ty-returns-in_err-outcome : goal.ty-returns-in_err-outcome
ty-returns-in_err-outcome t c =
    let arrow = c.is_sign.ensures.sign.0 c.if-not-is_sign.false in
    refused c.from_residual-in_err-outcome.result c.from_residual-in_err-outcome.ensures.1
    (stops_after (past_tail symbols.a_type tt symbols.an_outcome arrow c.in_ok-argument.ensures.read.read) c.in_err-outcome.ensures.refused)

pub ty-returns-in_err-new : goal.ty-returns-in_err-new
ty-returns-in_err-new t c = refused c.from_residual-in_err-new.result c.from_residual-in_err-new.ensures.1 stops_for_memory

pub ty-returns-in_err-new-2 : goal.ty-returns-in_err-new-2
ty-returns-in_err-new-2 t c = refused c.from_residual-in_err-new-2.result c.from_residual-in_err-new-2.ensures.1 stops_for_memory

pub ty-returns : goal.ty-returns
ty-returns t c =
    let arrow = c.is_sign.ensures.sign.0 c.if-not-is_sign.false in
    answered
    (read_both c.in_ok-argument.ensures.read c.in_ok-outcome.ensures.read
    (search (rules, grammar.a_function _ _ _ _ _ c.in_ok-argument.ensures.read.derived arrow c.in_ok-outcome.ensures.read.derived))
    (leads_then (past_tail symbols.a_type tt symbols.an_outcome arrow c.in_ok-argument.ensures.read.read) c.in_ok-outcome.ensures.read.read))

-- products
pub product-returns-in_err-first : goal.product-returns-in_err-first
product-returns-in_err-first t c =
    refused c.from_residual.result c.from_residual.ensures.1 (first_refused symbols.a_product tt c.in_err-first.ensures.refused)

pub product-returns-then-not-is_sign : goal.product-returns-then-not-is_sign
product-returns-then-not-is_sign t c =
    answered
    (read_by c.in_ok-first.ensures.read (grammar.a_base _ _ _)
    (past_all symbols.a_product tt symbols.no_factor (else_fails _ c.is_sign.ensures.sign c.if-not-is_sign.true)))

pub product-returns-in_err-second : goal.product-returns-in_err-second
product-returns-in_err-second t c =
    let star = c.is_sign.ensures.sign.0 c.if-not-is_sign.false in
    refused c.from_residual-in_err-second.result c.from_residual-in_err-second.ensures.1
    (stops_after (past_tail symbols.a_product tt symbols.a_factor star c.in_ok-first.ensures.read.read) c.in_err-second.ensures.refused)

pub product-returns-in_err-new : goal.product-returns-in_err-new
product-returns-in_err-new t c = refused c.from_residual-in_err-new.result c.from_residual-in_err-new.ensures.1 stops_for_memory

pub product-returns-in_err-new-2 : goal.product-returns-in_err-new-2
product-returns-in_err-new-2 t c = refused c.from_residual-in_err-new-2.result c.from_residual-in_err-new-2.ensures.1 stops_for_memory

pub product-returns : goal.product-returns
product-returns t c =
    let star = c.is_sign.ensures.sign.0 c.if-not-is_sign.false in
    answered
    (read_both c.in_ok-first.ensures.read c.in_ok-second.ensures.read
    (search (rules, IsType.a_pair _ _ _ _ _ c.in_ok-first.ensures.read.derived star c.in_ok-second.ensures.read.derived))
    (leads_then (past_tail symbols.a_product tt symbols.a_factor star c.in_ok-first.ensures.read.read) c.in_ok-second.ensures.read.read))

-- base types
pub base-returns-in-Some-Word-Com : goal.base-returns-in-Some-Word-Com
base-returns-in-Some-Word-Com t c =
    let is : HasWord (seen c.args.self.now) c.args.at words.Com = search rules in
    answered
    record {
      after = search rules;
      within = search rules;
      derived = grammar.a_command _ is;
      read = past_token symbols.a_command_type is;
    }

pub base-returns-in_err-small-in-Some-Word-Exp : goal.base-returns-in_err-small-in-Some-Word-Exp
base-returns-in_err-small-in-Some-Word-Exp t c =
    refused c.from_residual.result c.from_residual.ensures.1
    (stops_after (past_token symbols.an_expression_type (search rules)) c.in_err-small-in-Some-Word-Exp.ensures.refused)

pub base-returns-in_ok-small-in-Some-Word-Exp : goal.base-returns-in_ok-small-in-Some-Word-Exp
base-returns-in_ok-small-in-Some-Word-Exp t c =
    let is : HasWord (seen c.args.self.now) c.args.at words.Exp = search rules in
    answered
    record {
      after = search rules;
      within = search rules;
      derived = grammar.an_expression _ _ is c.in_ok-small-in-Some-Word-Exp.ensures.small;
      read = exits.width_read symbols.an_expression_type is c.in_ok-small-in-Some-Word-Exp.ensures.small;
    }

pub base-returns-in_err-small-in-Some-Word-Var : goal.base-returns-in_err-small-in-Some-Word-Var
base-returns-in_err-small-in-Some-Word-Var t c =
    refused c.from_residual-in_err-small-in-Some-Word-Var.result c.from_residual-in_err-small-in-Some-Word-Var.ensures.1
    (stops_after (past_token symbols.a_variable_type (search rules)) c.in_err-small-in-Some-Word-Var.ensures.refused)

pub base-returns-in_ok-small-in-Some-Word-Var : goal.base-returns-in_ok-small-in-Some-Word-Var
base-returns-in_ok-small-in-Some-Word-Var t c =
    let is : HasWord (seen c.args.self.now) c.args.at words.Var = search rules in
    answered
    record {
      after = search rules;
      within = search rules;
      derived = grammar.a_variable _ _ is c.in_ok-small-in-Some-Word-Var.ensures.small;
      read = exits.width_read symbols.a_variable_type is c.in_ok-small-in-Some-Word-Var.ensures.small;
    }

pub base-returns-in_err-inner-in-Some-Sign-Open : goal.base-returns-in_err-inner-in-Some-Sign-Open
base-returns-in_err-inner-in-Some-Sign-Open t c =
    refused c.from_residual-in_err-inner-in-Some-Sign-Open.result c.from_residual-in_err-inner-in-Some-Sign-Open.ensures.1
    (stops_after (past_token symbols.a_type_in_brackets (search rules)) (stops_at c.in_err-inner-in-Some-Sign-Open.ensures.refused))

pub base-returns-in_err-after_sign-in-Some-Sign-Open : goal.base-returns-in_err-after_sign-in-Some-Sign-Open
base-returns-in_err-after_sign-in-Some-Sign-Open t c =
    refused c.from_residual-in_err-after_sign-in-Some-Sign-Open.result c.from_residual-in_err-after_sign-in-Some-Sign-Open.ensures.1
    (stops_after (exits.inner_leads (search rules) c.in_ok-inner-in-Some-Sign-Open.ensures.read.read) c.in_err-after_sign-in-Some-Sign-Open.ensures.refused)

pub base-returns-in_ok-after_sign-in-Some-Sign-Open : goal.base-returns-in_ok-after_sign-in-Some-Sign-Open
base-returns-in_ok-after_sign-in-Some-Sign-Open t c =
    let inner = c.in_ok-inner-in-Some-Sign-Open.ensures.read in
    let close = c.in_ok-after_sign-in-Some-Sign-Open.ensures in
    answered
    record {
      after = search rules;
      within = close.within;
      derived = exits.inner_derived (search rules) inner.derived close.sign close.next;
      read = leads_then (exits.inner_leads (search rules) inner.read) (leads_token_to close.next close.sign);
    }

pub base-returns-in_default : goal.base-returns-in_default
base-returns-in_default t c =
    record {
      read = tt;
      refused = base_stops c.args.self.now c.args.at c.requires.within (search rules) (search rules) (search rules) (search rules);
    }
