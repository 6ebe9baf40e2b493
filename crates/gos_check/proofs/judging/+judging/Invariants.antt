use Rattle.std.proofs.Common.{◌+◌, ◌*◌}
use Rattle.gos_syntax.specs.Sizes.{size}
use Rattle.gos_check.specs.inner.Walked.{tree}
use Rattle.gos_check.proofs.judging.+judging.Given as goal

abbrev pub decreases-judge : goal.decreases-judge
decreases-judge l = 3 * size (tree l.term.now) + 1

abbrev pub decreases-judge_form : goal.decreases-judge_form
decreases-judge_form l = 3 * size (tree l.term.now)

abbrev pub decreases-judge_function : goal.decreases-judge_function
decreases-judge_function l = 3 * size (tree l.body.now) + 2

abbrev pub decreases-judge_block : goal.decreases-judge_block
decreases-judge_block l = 3 * size (tree l.body.now) + 2

abbrev pub decreases-judge_array : goal.decreases-judge_array
decreases-judge_array l = 3 * size (tree l.body.now) + 2

abbrev pub decreases-judge_one : goal.decreases-judge_one
decreases-judge_one l = 3 * size (tree l.m.now) + 2

abbrev pub decreases-judge_two : goal.decreases-judge_two
decreases-judge_two l = 3 * (size (tree l.m.now) + size (tree l.n.now)) + 2

abbrev pub decreases-judge_choice : goal.decreases-judge_choice
decreases-judge_choice l = 3 * (size (tree l.m.now) + size (tree l.n.now) + size (tree l.p.now)) + 2
