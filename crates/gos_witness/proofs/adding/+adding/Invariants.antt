use Rattle.std.proofs.Common.{◌+◌, ◌*◌}
use Rattle.gos_syntax.specs.Sizes.{size}
use Rattle.gos_witness.specs.inner.Adding.{tree}
use Rattle.gos_witness.proofs.adding.+adding.Given as goal

abbrev pub decreases-add : goal.decreases-add
decreases-add l = 3 * size (tree l.term.now)

abbrev pub decreases-add_function : goal.decreases-add_function
decreases-add_function l = 3 * size (tree l.body.now) + 2

abbrev pub decreases-add_block : goal.decreases-add_block
decreases-add_block l = 3 * size (tree l.body.now) + 2

abbrev pub decreases-add_array : goal.decreases-add_array
decreases-add_array l = 3 * size (tree l.body.now) + 2

abbrev pub decreases-add_one : goal.decreases-add_one
decreases-add_one l = 3 * size (tree l.m.now) + 2

abbrev pub decreases-add_two : goal.decreases-add_two
decreases-add_two l = 3 * (size (tree l.m.now) + size (tree l.n.now)) + 2

abbrev pub decreases-add_choice : goal.decreases-add_choice
decreases-add_choice l = 3 * (size (tree l.m.now) + size (tree l.n.now) + size (tree l.p.now)) + 2
