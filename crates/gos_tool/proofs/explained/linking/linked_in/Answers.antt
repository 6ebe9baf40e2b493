use Rattle.std.proofs.Common.{◌∷◌, [], refl}
use Rattle.std.specs.Prelude.{IfSome}
use Rattle.gos_outside.specs.Calls.{Whole}
use Rattle.gos_command.proofs.EndLemmas.{made_of, of_result, of_stop}
use Rattle.gos_tool.specs.Causes.{OfSource, OfBuild, OfMoves}
use Rattle.gos_tool.specs.Calls.{source_calls}
use Rattle.gos_tool.specs.explained.Verified.{SayProgram}
use Rattle.gos_tool.proofs.lemmas.StopLemmas.{behind_all, stops_before}
use Rattle.gos_tool.proofs.lemmas.circuits.ExitLemmas.{err_is, stopped_as}
use Rattle.gos_tool.proofs.lemmas.circuits.LinkLemmas.{linkable}
use Rattle.gos_tool.proofs.lemmas.explained.VerifyLemmas.{modules_rejected, none_more, say_program, source_rejected}
use Rattle.gos_tool.proofs.explained.linking.linked_in.Goals as goal

pub program_in-requires-clause-linkable : goal.program_in-requires-clause-linkable
program_in-requires-clause-linkable g c =
    linkable c.args.build.now _ _ _ c.as_slice.ensures.value refl c.in_ok-sources.ensures.each c.in_ok-sources.ensures.limits c.requires.few_instances c.requires.few_binds

pub returns-in_err-sources-clause-rejected : goal.returns-in_err-sources-clause-rejected
returns-in_err-sources-clause-rejected g c =
    let old = g.S.Store.contents c.args.store.now in
    stopped_as _ _ _ c.in_err-sources.field-0.0 c.from_residual.ensures.1
    (source_rejected old c.args.own.now c.args.build.now c.as_slice.result.now c.as_slice.ensures.value _) c.in_err-sources.ensures.rejected

pub returns-in_err-sources-clause-kind : goal.returns-in_err-sources-clause-kind
returns-in_err-sources-clause-kind g c =
    rw (err_is _ c.from_residual.ensures.1) (stops_before (OfSource ∷ []) (OfBuild ∷ OfMoves ∷ []) c.in_err-sources.field-0.0 c.in_err-sources.ensures.kind)

pub returns-clause-say : goal.returns-clause-say
returns-clause-say g c =
    let old = g.S.Store.contents c.args.store.now in
    of_result _ (λ program. IfSome old (λ files. SayProgram files c.args.build.now program)) c.program_in.result
    (say_program old c.args.own.now c.args.build.now c.as_slice.result.now c.as_slice.ensures.value c.in_ok-sources.sources.modules.items c.in_ok-sources.ensures.say)
    c.program_in.ensures.linked

pub returns-clause-rejected : goal.returns-clause-rejected
returns-clause-rejected g c =
    let old = g.S.Store.contents c.args.store.now in
    of_stop _ _ c.program_in.result
    (modules_rejected old c.args.own.now c.args.build.now c.as_slice.result.now c.as_slice.ensures.value c.in_ok-sources.sources.modules.items c.in_ok-sources.ensures.say _)
    c.program_in.ensures.rejected

pub returns-clause-kind : goal.returns-clause-kind
returns-clause-kind g c = behind_all (OfSource ∷ []) (OfBuild ∷ OfMoves ∷ []) c.program_in.result c.program_in.ensures.kind

pub returns-clause-calls : goal.returns-clause-calls
returns-clause-calls g c =
    none_more c.program_in.result (source_calls c.args.build.now.instances.items) (g.S.Store.calls c.args.store.now) (g.S.Store.calls c.sources_in.new.store) c.program_in.ensures.no_store
    (made_of source_calls Whole (g.S.Store.calls c.args.store.now) (g.S.Store.calls c.sources_in.new.store) _ _ c.as_slice.ensures.value c.in_ok-sources.ensures.calls)
