use Rattle.std.proofs.Common.{sym, ◌∙◌}
use Rattle.std.specs.Char.{is_ascii_digit}
use Rattle.std.proofs.lemmas.Bool.{both_ways}
use Rattle.gos_lex.specs.inner.Digits.{digits_so_far}
use Rattle.gos_lex.proofs.DecimalLemmas.{digit_within, first_digit, another_digit}
use Rattle.gos_lex.proofs.decimal.with_digit.Goals as goal

pub returns-then-not-is_ascii_digit : goal.returns-then-not-is_ascii_digit
returns-then-not-is_ascii_digit c = λ begins.
    both_ways (is_ascii_digit c.args.b) (sym c.is_ascii_digit.ensures.value ∙ c.if-not-is_ascii_digit.true) (digit_within (digits_so_far c.args.value) c.args.b begins)

pub returns-in-None : goal.returns-in-None
returns-in-None c =
    first_digit c.args.value c.args.b c.from-digit.result c.in-None.is (sym c.is_ascii_digit.ensures.value ∙ c.if-not-is_ascii_digit.false) c.from-digit.ensures

pub returns-in-Some : goal.returns-in-Some
returns-in-Some c =
    another_digit c.args.value c.pushed.result c.in-Some.value c.args.b c.from-digit.result c.in-Some.is c.pushed.ensures.range
    (sym c.is_ascii_digit.ensures.value ∙ c.if-not-is_ascii_digit.false) c.from-digit.ensures c.pushed.ensures.next
