use Rattle.std.proofs.Common.{◌+◌, ◌*◌}
use Rattle.gos_syntax.specs.Sizes.{size}
use Rattle.gos_check.specs.inner.Walked.{tree}
use Rattle.gos_check.proofs.numbering.+numbering.Given as goal

abbrev pub decreases-number : goal.decreases-number
decreases-number l = 3 * size (tree l.term.now)

abbrev pub decreases-number_function : goal.decreases-number_function
decreases-number_function l = 3 * size (tree l.body.now) + 2

abbrev pub decreases-number_block : goal.decreases-number_block
decreases-number_block l = 3 * size (tree l.body.now) + 2

abbrev pub decreases-number_array : goal.decreases-number_array
decreases-number_array l = 3 * size (tree l.body.now) + 2

abbrev pub decreases-number_one : goal.decreases-number_one
decreases-number_one l = 3 * size (tree l.m.now) + 2

abbrev pub decreases-number_two : goal.decreases-number_two
decreases-number_two l = 3 * (size (tree l.m.now) + size (tree l.n.now)) + 2

abbrev pub decreases-number_choice : goal.decreases-number_choice
decreases-number_choice l = 3 * (size (tree l.m.now) + size (tree l.n.now) + size (tree l.p.now)) + 2
