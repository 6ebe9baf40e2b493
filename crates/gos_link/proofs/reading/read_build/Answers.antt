use Rattle.std.proofs.Common.{◌≡◌, ◌≤◌, arith, length}
use Rattle.gos_link.specs.BuildFile.{nothing, sum_of, whole}
use Rattle.gos_link.proofs.ReadingLemmas.{few_lines}
use Rattle.gos_link.proofs.reading.read_build.Goals as goal

pub returns-in-Some-clause-few_instances : goal.returns-in-Some-clause-few_instances
returns-in-Some-clause-few_instances c =
    let says : sum_of nothing c.in_ok-items.items.items ≡ whole c.in-Some.build = rw c.in-Some.is at c.in_ok-build.ensures in
    let lines = (few_lines c.in_ok-items.items.items c.in-Some.build says).0 in
    let few : length c.in_ok-items.items.items ≤ length c.args.text.now = c.in_ok-items.ensures.few in
    let short = c.if-text-gt-MAX_TEXT.false in
    omega (arith, lines, few, short)

pub returns-in-Some-clause-few_binds : goal.returns-in-Some-clause-few_binds
returns-in-Some-clause-few_binds c =
    let says : sum_of nothing c.in_ok-items.items.items ≡ whole c.in-Some.build = rw c.in-Some.is at c.in_ok-build.ensures in
    let lines = (few_lines c.in_ok-items.items.items c.in-Some.build says).1 in
    let few : length c.in_ok-items.items.items ≤ length c.args.text.now = c.in_ok-items.ensures.few in
    let short = c.if-text-gt-MAX_TEXT.false in
    omega (arith, lines, few, short)
