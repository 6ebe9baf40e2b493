use Rattle.std.proofs.Common.{◌≡◌, true, nat_eq, arith}
use Rattle.std.proofs.lemmas.Bool.{le-leb, leb-true, eq-eqb, both_ways, not-true}
use Rattle.gos_lex.proofs.DecimalLemmas.{begins_whole, begins_longer, begins_shorter, begins_le}
use Rattle.gos_lex.proofs.decimal.+begins.Goals as goal

pub returns-then-low-value-clause-begins : goal.returns-then-low-value-clause-begins
returns-then-low-value-clause-begins t c =
    (λ _. begins_whole c.args.value c.args.low c.args.high c.if-low-value.true c.if-value-high.true, λ _. le-leb c.args.low c.args.value c.if-low-value.true)

pub returns-then-value-ne0-clause-begins : goal.returns-then-value-ne0-clause-begins
returns-then-value-ne0-clause-begins t c = (
  λ r. begins_longer c.args.value c.args.low c.args.high (omega arith) (omega arith) c.requires c.if-value-ne0.true (c.begins.ensures.begins.0 r),
  λ begins. c.begins.ensures.begins.1 (begins_shorter c.args.value c.args.low c.args.high (omega arith) (omega arith) c.if-low-value.false begins).1,
)

pub returns-else-value-ne0-clause-begins : goal.returns-else-value-ne0-clause-begins
returns-else-value-ne0-clause-begins t c =
    let is : nat_eq c.args.value 0 ≡ true = eq-eqb c.args.value 0 c.if-value-ne0.false in (
      λ r. absurd (both_ways (nat_eq c.args.value 0) (not-true (nat_eq c.args.value 0) r) is),
      λ begins. absurd ((begins_shorter c.args.value c.args.low c.args.high (omega arith) (omega arith) c.if-low-value.false begins).0 c.if-value-ne0.false),
    )

pub returns-else-value-high-clause-begins : goal.returns-else-value-high-clause-begins
returns-else-value-high-clause-begins t c = (
  λ r. absurd (omega (arith, leb-true c.args.value c.args.high r)),
  λ begins. absurd (omega (arith, begins_le c.args.value c.args.low c.args.high (omega arith) (omega arith) begins)),
)
