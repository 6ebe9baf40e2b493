use Rattle.std.proofs.Common.{sym}
use Rattle.gos_command.proofs.EndLemmas.{of_stop, of_stopped}
use Rattle.gos_tool.proofs.lemmas.explained.CauseLemmas.{of_size_fault, taken_fault}
use Rattle.gos_tool.proofs.explained.linking.unless_taken.Goals as goal

pub returns-then-is_taken-clause-rejected : goal.returns-then-is_taken-clause-rejected
returns-then-is_taken-clause-rejected c =
    of_stopped _ _ c.reject.result
    (taken_fault c.args.build.now _ c.args.sources.now.modules.items c.args.links.now c.args.own.now (sym c.if-is_taken.ensures)
    (c.args.sources.now.shells.items, c.requires.stand, c.requires.links)) c.reject.ensures.stopped

pub returns-else-is_taken-clause-rejected : goal.returns-else-is_taken-clause-rejected
returns-else-is_taken-clause-rejected c =
    of_stop _ _ c.substituted.result
    (of_size_fault c.args.build.now c.args.sources.now.modules.items _ (sym c.if-is_taken.ensures) c.args.own.now) c.substituted.ensures.rejected
