use Rattle.std.proofs.Common.{sym, ◌∙◌, arith}
use Rattle.gos_lex.proofs.RunLemmas.{name_run, digit_run}
use Rattle.gos_lex.proofs.lexeme.lexeme_len.Goals as goal

pub returns-in-len1-up-clause-within : goal.returns-in-len1-up-clause-within
returns-in-len1-up-clause-within c =
    (name_run c.args.text.now c.name_bytes.result (omega arith) (sym c.begins_name.ensures ∙ c.if-begins_name.true) c.name_bytes.ensures).0

pub returns-in-len1-up-clause-lexeme : goal.returns-in-len1-up-clause-lexeme
returns-in-len1-up-clause-lexeme c =
    (name_run c.args.text.now c.name_bytes.result (omega arith) (sym c.begins_name.ensures ∙ c.if-begins_name.true) c.name_bytes.ensures).1

pub returns-in-len1-up-clause-longest : goal.returns-in-len1-up-clause-longest
returns-in-len1-up-clause-longest c =
    (name_run c.args.text.now c.name_bytes.result (omega arith) (sym c.begins_name.ensures ∙ c.if-begins_name.true) c.name_bytes.ensures).2

pub returns-in-len1-up-2-clause-within : goal.returns-in-len1-up-2-clause-within
returns-in-len1-up-2-clause-within c =
    (digit_run c.args.text.now c.digits.result (omega arith) (sym c.is_ascii_digit.ensures.value ∙ c.if-is_ascii_digit.true) c.digits.ensures).0

pub returns-in-len1-up-2-clause-lexeme : goal.returns-in-len1-up-2-clause-lexeme
returns-in-len1-up-2-clause-lexeme c =
    (digit_run c.args.text.now c.digits.result (omega arith) (sym c.is_ascii_digit.ensures.value ∙ c.if-is_ascii_digit.true) c.digits.ensures).1

pub returns-in-len1-up-2-clause-longest : goal.returns-in-len1-up-2-clause-longest
returns-in-len1-up-2-clause-longest c =
    (digit_run c.args.text.now c.digits.result (omega arith) (sym c.is_ascii_digit.ensures.value ∙ c.if-is_ascii_digit.true) c.digits.ensures).2
