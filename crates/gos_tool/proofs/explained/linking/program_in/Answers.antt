use Rattle.std.proofs.Common.{◌∷◌, [], ap, subst, sym}
use Rattle.gos_command.specs.declared.status.Cause.TheVariants.{Link}
use Rattle.gos_command.specs.declared.status.Fault.{Fault}
use Rattle.gos_command.proofs.EndLemmas.{of_stop, of_stopped}
use Rattle.gos_tool.specs.Causes.{OfBuild, OfMoves}
use Rattle.gos_tool.specs.explained.LinkedModules.{StandFor}
use Rattle.gos_tool.proofs.lemmas.StopLemmas.{stops_before, stops_for}
use Rattle.gos_tool.proofs.lemmas.explained.CauseLemmas.{links_fault, of_links, of_program_fault}
use Rattle.gos_tool.proofs.explained.linking.program_in.Goals as goal

pub returns-in-Err-clause-kind : goal.returns-in-Err-clause-kind
returns-in-Err-clause-kind c =
    stops_before (OfBuild ∷ []) (OfMoves ∷ []) c.reject.result
    (stops_for (OfBuild ∷ []) (Link c.in-Err.fault) c.reject.result _ (λ real. of_links c.in-Err.fault c.in-Err.ensures.light)
    (λ fault line is. (ap (λ (f : Fault). f.cause) is.0, is.1)) c.reject.ensures.stopped)

pub returns-in-Err-clause-rejected : goal.returns-in-Err-clause-rejected
returns-in-Err-clause-rejected c =
    of_stopped _ _ c.reject.result
    (links_fault c.args.build.now _ c.args.sources.now.modules.items c.as_slice.result.now c.args.own.now c.in-Err.fault
    (subst (StandFor c.args.sources.now.modules.items) (sym c.as_slice.ensures.value) c.requires.stand) c.in-Err.ensures.light c.in-Err.ensures.fault) c.reject.ensures.stopped

pub returns-in-Ok-clause-rejected : goal.returns-in-Ok-clause-rejected
returns-in-Ok-clause-rejected c =
    of_stop _ _ c.unless_taken.result (of_program_fault c.args.build.now c.args.sources.now.modules.items _ c.args.own.now) c.unless_taken.ensures.rejected
