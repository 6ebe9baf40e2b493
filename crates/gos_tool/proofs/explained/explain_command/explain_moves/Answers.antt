use Rattle.std.proofs.Common.{◌∷◌, []}
use Rattle.std.specs.Prelude.{IfSome}
use Rattle.gos_lex.specs.Lines.{Word}
use Rattle.gos_outside.proofs.CallsLemmas.{goes_on}
use Rattle.gos_command.proofs.EndLemmas.{early, made_of, of_result, of_stop}
use Rattle.gos_tool.specs.Causes.{OfSource, OfBuild, OfMoves}
use Rattle.gos_tool.specs.Calls.{explain_calls, found_calls, source_calls}
use Rattle.gos_tool.specs.explained.Found.{IsExplained, RejectsExplain}
use Rattle.gos_tool.proofs.lemmas.StopLemmas.{behind_all}
use Rattle.gos_tool.proofs.lemmas.circuits.CallLemmas.{by_build_file}
use Rattle.gos_tool.proofs.lemmas.circuits.ExitLemmas.{failed_as, stopped_as}
use Rattle.gos_tool.proofs.lemmas.circuits.LinkLemmas.{HasRead}
use Rattle.gos_tool.proofs.lemmas.explained.VerifyLemmas.{has_program}
use Rattle.gos_tool.proofs.lemmas.explained.FoundLemmas.{explained, source_unread, trace_call, trace_rejected, unexplained}
use Rattle.gos_tool.proofs.explained.explain_command.explain_moves.Goals as goal

-- a source is rejected, or the build file is for what it links
pub returns-in_err-program-clause-rejected : goal.returns-in_err-program-clause-rejected
returns-in_err-program-clause-rejected g c =
    let has : HasRead (g.S.Store.contents c.args.store.now) (g.S.Store.contents c.build_in.new.store) c.args.own.now c.in_ok-build.build =
    record { kept = c.in_ok-build.ensures.same_files; says = c.in_ok-build.ensures.says } in
    stopped_as _ (λ fault line. IfSome (g.S.Store.contents c.args.store.now) (λ files. RejectsExplain files c.args.own.now c.args.moves.now fault line)) _ c.in_err-program.field-0.0
    c.from_residual-in_err-program.ensures.1 (unexplained has c.args.moves.now) c.in_err-program.ensures.rejected

pub returns-in_err-program-clause-failed_call : goal.returns-in_err-program-clause-failed_call
returns-in_err-program-clause-failed_call g c failed =
    let has : HasRead (g.S.Store.contents c.args.store.now) (g.S.Store.contents c.build_in.new.store) c.args.own.now c.in_ok-build.build =
    record { kept = c.in_ok-build.ensures.same_files; says = c.in_ok-build.ensures.says } in
    source_unread has c.args.moves.now c.in_ok-build.ensures.read (g.S.Store.contents c.linked_in.new.store) (g.S.Store.last_fault c.linked_in.new.store) c.in_err-program.ensures.same_files
    (c.in_err-program.ensures.failed_call (failed_as _ c.from_residual-in_err-program.ensures.1 failed))

pub returns-in_err-program-clause-calls : goal.returns-in_err-program-clause-calls
returns-in_err-program-clause-calls g c =
    by_build_file _ (g.S.Store.contents c.args.store.now) c.args.own.now (explain_calls c.args.moves.now) c.in_ok-build.build (g.S.Store.calls c.args.store.now)
    (g.S.Store.calls c.build_in.new.store) (g.S.Store.calls c.linked_in.new.store) c.in_ok-build.ensures.read c.in_ok-build.ensures.says c.in_ok-build.ensures.calls
    (early _ _ (source_calls c.in_ok-build.build.instances.items) (found_calls c.in_ok-build.build.trace c.args.moves.now) (g.S.Store.calls c.build_in.new.store)
    (g.S.Store.calls c.linked_in.new.store) c.from_residual-in_err-program.ensures.1 c.in_err-program.ensures.calls)

-- lines are found, or not
pub returns-clause-done : goal.returns-clause-done
returns-clause-done g c =
    let read : HasRead (g.S.Store.contents c.args.store.now) (g.S.Store.contents c.build_in.new.store) c.args.own.now c.in_ok-build.build =
    record { kept = c.in_ok-build.ensures.same_files; says = c.in_ok-build.ensures.says } in
    let has = has_program read (g.S.Store.contents c.linked_in.new.store) c.in_ok-program.program c.in_ok-program.ensures.same_files c.in_ok-program.ensures.say in
    of_result _ (λ report. IfSome (g.S.Store.contents c.args.store.now) (λ files. IsExplained files (g.S.Store.contents c.find_moves.new.store) c.args.own.now c.args.moves.now report)) c.find_moves.result
    (explained has c.args.moves.now c.bytes.result.now c.bytes.ensures.bytes c.in_ok-program.ensures.free (g.S.Store.contents c.find_moves.new.store)) c.find_moves.ensures.done

pub returns-clause-rejected : goal.returns-clause-rejected
returns-clause-rejected g c =
    let read : HasRead (g.S.Store.contents c.args.store.now) (g.S.Store.contents c.build_in.new.store) c.args.own.now c.in_ok-build.build =
    record { kept = c.in_ok-build.ensures.same_files; says = c.in_ok-build.ensures.says } in
    let has = has_program read (g.S.Store.contents c.linked_in.new.store) c.in_ok-program.program c.in_ok-program.ensures.same_files c.in_ok-program.ensures.say in
    of_stop _ (λ fault line. IfSome (g.S.Store.contents c.args.store.now) (λ files. RejectsExplain files c.args.own.now c.args.moves.now fault line)) c.find_moves.result
    (trace_rejected has c.args.moves.now c.bytes.result.now c.bytes.ensures.bytes c.in_ok-program.ensures.free) c.find_moves.ensures.rejected

pub returns-clause-kind : goal.returns-clause-kind
returns-clause-kind g c = behind_all (OfSource ∷ OfBuild ∷ []) (OfMoves ∷ []) c.find_moves.result c.find_moves.ensures.kind

pub returns-clause-failed_call : goal.returns-clause-failed_call
returns-clause-failed_call g c failed =
    let read : HasRead (g.S.Store.contents c.args.store.now) (g.S.Store.contents c.build_in.new.store) c.args.own.now c.in_ok-build.build =
    record { kept = c.in_ok-build.ensures.same_files; says = c.in_ok-build.ensures.says } in
    let has = has_program read (g.S.Store.contents c.linked_in.new.store) c.in_ok-program.program c.in_ok-program.ensures.same_files c.in_ok-program.ensures.say in
    trace_call has c.args.moves.now c.bytes.result.now c.bytes.ensures.bytes c.in_ok-program.ensures.free c.in_ok-build.ensures.read (g.S.Store.contents c.find_moves.new.store)
    (g.S.Store.last_fault c.find_moves.new.store) (c.find_moves.ensures.failed_call failed)

pub returns-clause-calls : goal.returns-clause-calls
returns-clause-calls g c =
    by_build_file _ (g.S.Store.contents c.args.store.now) c.args.own.now (explain_calls c.args.moves.now) c.in_ok-build.build (g.S.Store.calls c.args.store.now)
    (g.S.Store.calls c.build_in.new.store) (g.S.Store.calls c.find_moves.new.store) c.in_ok-build.ensures.read c.in_ok-build.ensures.says c.in_ok-build.ensures.calls
    (goes_on _ (source_calls c.in_ok-build.build.instances.items) (found_calls c.in_ok-build.build.trace c.args.moves.now) (g.S.Store.calls c.build_in.new.store)
    (g.S.Store.calls c.linked_in.new.store) (g.S.Store.calls c.find_moves.new.store) c.in_ok-program.ensures.calls
    (made_of (λ (t : Word). found_calls t c.args.moves.now) _ (g.S.Store.calls c.linked_in.new.store) (g.S.Store.calls c.find_moves.new.store) _ _ c.bytes.ensures.bytes c.find_moves.ensures.calls))
