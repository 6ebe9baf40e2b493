use Rattle.std.proofs.Common.{◌∷◌, []}
use Rattle.std.specs.Prelude.{IfSome}
use Rattle.gos_lex.specs.Lines.{Word}
use Rattle.gos_outside.proofs.CallsLemmas.{goes_on}
use Rattle.gos_command.proofs.EndLemmas.{early, made_of, of_result, of_stop}
use Rattle.gos_tool.specs.Causes.{OfSource, OfBuild, OfMoves}
use Rattle.gos_tool.specs.Calls.{explained_calls, source_calls, verify_calls}
use Rattle.gos_tool.specs.explained.Verified.{IsVerified, RejectsVerify}
use Rattle.gos_tool.proofs.lemmas.StopLemmas.{behind_all}
use Rattle.gos_tool.proofs.lemmas.circuits.CallLemmas.{by_build_file}
use Rattle.gos_tool.proofs.lemmas.circuits.ExitLemmas.{failed_as, stopped_as}
use Rattle.gos_tool.proofs.lemmas.circuits.LinkLemmas.{HasRead}
use Rattle.gos_tool.proofs.lemmas.explained.VerifyLemmas.{HasProgram, has_program, sources_call, sources_rejected, texts_call, texts_rejected, verified}
use Rattle.gos_tool.proofs.explained.verify_command.verify_moves.Given.{Over}
use Rattle.gos_tool.proofs.explained.verify_command.verify_moves.Goals as goal

-- a source is rejected, or the modules can't be linked
has_read : (g : Over) (c : goal.After-drop-build-in_err-program-6 g) → HasRead (g.S.Store.contents c.args.store.now) (g.S.Store.contents c.build_in.new.store) c.args.own.now c.in_ok-build.build
has_read g c = record { kept = c.in_ok-build.ensures.same_files; says = c.in_ok-build.ensures.says }

pub returns-in_err-program-clause-rejected : goal.returns-in_err-program-clause-rejected
returns-in_err-program-clause-rejected g c =
    stopped_as _ (λ fault line. IfSome (g.S.Store.contents c.args.store.now) (λ files. RejectsVerify files c.args.own.now c.args.moves.now fault line)) _ c.in_err-program.field-0.0
    c.from_residual-in_err-program.ensures.1 (sources_rejected (has_read g c) c.args.moves.now) c.in_err-program.ensures.rejected

pub returns-in_err-program-clause-failed_call : goal.returns-in_err-program-clause-failed_call
returns-in_err-program-clause-failed_call g c failed =
    sources_call (has_read g c) c.args.moves.now c.in_ok-build.ensures.read (g.S.Store.last_fault c.linked_in.new.store)
    (c.in_err-program.ensures.failed_call (failed_as _ c.from_residual-in_err-program.ensures.1 failed))

pub returns-in_err-program-clause-calls : goal.returns-in_err-program-clause-calls
returns-in_err-program-clause-calls g c =
    by_build_file _ (g.S.Store.contents c.args.store.now) c.args.own.now (verify_calls c.args.moves.now) c.in_ok-build.build (g.S.Store.calls c.args.store.now)
    (g.S.Store.calls c.build_in.new.store) (g.S.Store.calls c.linked_in.new.store) c.in_ok-build.ensures.read c.in_ok-build.ensures.says c.in_ok-build.ensures.calls
    (early _ _ (source_calls c.in_ok-build.build.instances.items) (explained_calls c.in_ok-build.build.trace c.args.moves.now) (g.S.Store.calls c.build_in.new.store)
    (g.S.Store.calls c.linked_in.new.store) c.from_residual-in_err-program.ensures.1 c.in_err-program.ensures.calls)

-- the moves are made again
has_all : (g : Over) (c : goal.After-drop-build-8 g) → HasProgram (g.S.Store.contents c.args.store.now) (g.S.Store.contents c.linked_in.new.store) c.args.own.now c.in_ok-build.build c.in_ok-program.program
has_all g c =
    has_program (record { kept = c.in_ok-build.ensures.same_files; says = c.in_ok-build.ensures.says }) (g.S.Store.contents c.linked_in.new.store) c.in_ok-program.program
    c.in_ok-program.ensures.same_files c.in_ok-program.ensures.say

pub returns-clause-done : goal.returns-clause-done
returns-clause-done g c =
    of_result _ (λ report. IfSome (g.S.Store.contents c.args.store.now) (λ files. IsVerified files c.args.own.now c.args.moves.now report)) c.explain_files.result
    (verified (has_all g c) c.args.moves.now c.bytes.result.now c.bytes.ensures.bytes) c.explain_files.ensures.done

pub returns-clause-rejected : goal.returns-clause-rejected
returns-clause-rejected g c =
    of_stop _ (λ fault line. IfSome (g.S.Store.contents c.args.store.now) (λ files. RejectsVerify files c.args.own.now c.args.moves.now fault line)) c.explain_files.result
    (texts_rejected (has_all g c) c.args.moves.now c.bytes.result.now c.bytes.ensures.bytes) c.explain_files.ensures.rejected

pub returns-clause-kind : goal.returns-clause-kind
returns-clause-kind g c = behind_all (OfSource ∷ OfBuild ∷ []) (OfMoves ∷ []) c.explain_files.result c.explain_files.ensures.kind

pub returns-clause-failed_call : goal.returns-clause-failed_call
returns-clause-failed_call g c failed =
    texts_call (has_all g c) c.args.moves.now c.bytes.result.now c.bytes.ensures.bytes c.in_ok-build.ensures.read (g.S.Store.last_fault c.explain_files.new.store) (c.explain_files.ensures.failed_call failed)

pub returns-clause-calls : goal.returns-clause-calls
returns-clause-calls g c =
    by_build_file _ (g.S.Store.contents c.args.store.now) c.args.own.now (verify_calls c.args.moves.now) c.in_ok-build.build (g.S.Store.calls c.args.store.now)
    (g.S.Store.calls c.build_in.new.store) (g.S.Store.calls c.explain_files.new.store) c.in_ok-build.ensures.read c.in_ok-build.ensures.says c.in_ok-build.ensures.calls
    (goes_on _ (source_calls c.in_ok-build.build.instances.items) (explained_calls c.in_ok-build.build.trace c.args.moves.now) (g.S.Store.calls c.build_in.new.store)
    (g.S.Store.calls c.linked_in.new.store) (g.S.Store.calls c.explain_files.new.store) c.in_ok-program.ensures.calls
    (made_of (λ (t : Word). explained_calls t c.args.moves.now) _ (g.S.Store.calls c.linked_in.new.store) (g.S.Store.calls c.explain_files.new.store) _ _ c.bytes.ensures.bytes c.explain_files.ensures.calls))
