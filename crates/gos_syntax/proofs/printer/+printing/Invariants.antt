use Rattle.std.proofs.Common.{◌+◌, ◌*◌}
use Rattle.gos_syntax.specs.Trees.{tree_of}
use Rattle.gos_syntax.specs.Sizes.{size}
use Rattle.gos_syntax.proofs.printer.+printing.Given as goal

abbrev pub decreases-add_term : goal.decreases-add_term
decreases-add_term l = 3 * size (tree_of l.term.now.form l.term.now.span)

abbrev pub decreases-add_pair : goal.decreases-add_pair
decreases-add_pair l =
    3 * (size (tree_of l.first.now.form l.first.now.span) + size (tree_of l.second.now.form l.second.now.span)) + 2

abbrev pub decreases-add_operand : goal.decreases-add_operand
decreases-add_operand l = 3 * size (tree_of l.term.now.form l.term.now.span) + 1

abbrev pub decreases-add_prefixed : goal.decreases-add_prefixed
decreases-add_prefixed l = 3 * size (tree_of l.operand.now.form l.operand.now.span) + 2

abbrev pub decreases-add_infix : goal.decreases-add_infix
decreases-add_infix l =
    3 * (size (tree_of l.left.now.form l.left.now.span) + size (tree_of l.right.now.form l.right.now.span)) + 2
