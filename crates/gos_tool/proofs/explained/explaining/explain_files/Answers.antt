use Rattle.std.proofs.Common.{◌∷◌, [], inl, refl}
use Rattle.std.specs.Prelude.{IfSome}
use Rattle.gos_outside.proofs.CallsLemmas.{goes_on}
use Rattle.gos_witness.specs.Programs.{program_of}
use Rattle.gos_command.proofs.EndLemmas.{early, late, of_stop}
use Rattle.gos_tool.specs.Calls.{read_explained}
use Rattle.gos_tool.specs.explained.Explained.{RejectsTexts}
use Rattle.gos_tool.proofs.lemmas.circuits.ExitLemmas.{failed_as, stopped_as}
use Rattle.gos_tool.proofs.lemmas.explained.VerifyLemmas.{all_explained, has_labels, lines_rejected, moves_call, moves_rejected, none_more, trace_rejected}
use Rattle.gos_tool.proofs.explained.explaining.explain_files.Goals as goal

-- the trace file is rejected, or can't be read
pub returns-in_err-labels-clause-rejected : goal.returns-in_err-labels-clause-rejected
returns-in_err-labels-clause-rejected g c =
    let old = g.S.Store.contents c.args.store.now in
    let program = c.args.program.now in
    stopped_as _ (λ fault line. IfSome old (λ files. RejectsTexts files program.ports (program_of program) c.args.trace.now c.args.moves.now fault line)) _
    c.in_err-labels.field-0.0 c.from_residual.ensures.1 (trace_rejected old program.ports c.ports.result.now c.ports.ensures.value (program_of program) c.args.trace.now c.args.moves.now)
    c.in_err-labels.ensures.rejected

pub returns-in_err-labels-clause-failed_call : goal.returns-in_err-labels-clause-failed_call
returns-in_err-labels-clause-failed_call g c failed =
    inl (c.in_err-labels.ensures.failed_call (failed_as _ c.from_residual.ensures.1 failed))

pub returns-in_err-labels-clause-calls : goal.returns-in_err-labels-clause-calls
returns-in_err-labels-clause-calls g c =
    early _ _ (read_explained c.args.trace.now ∷ []) (read_explained c.args.moves.now ∷ []) (g.S.Store.calls c.args.store.now) (g.S.Store.calls c.labels_in.new.store)
    c.from_residual.ensures.1 c.in_err-labels.ensures.calls

-- so are the moves
pub returns-in_err-lines-clause-rejected : goal.returns-in_err-lines-clause-rejected
returns-in_err-lines-clause-rejected g c =
    let old = g.S.Store.contents c.args.store.now in
    let program = c.args.program.now in
    let has = has_labels old (g.S.Store.contents c.labels_in.new.store) program.ports c.ports.result.now c.args.trace.now c.in_ok-labels.labels.items c.in_ok-labels.labels.items
    c.ports.ensures.value refl c.in_ok-labels.ensures.same_files c.in_ok-labels.ensures.says in
    stopped_as _ (λ fault line. IfSome old (λ files. RejectsTexts files program.ports (program_of program) c.args.trace.now c.args.moves.now fault line)) _
    c.in_err-lines.field-0.0 c.from_residual-in_err-lines.ensures.1 (moves_rejected has (program_of program) c.args.moves.now) c.in_err-lines.ensures.rejected

pub returns-in_err-lines-clause-failed_call : goal.returns-in_err-lines-clause-failed_call
returns-in_err-lines-clause-failed_call g c failed =
    let old = g.S.Store.contents c.args.store.now in
    let program = c.args.program.now in
    let has = has_labels old (g.S.Store.contents c.labels_in.new.store) program.ports c.ports.result.now c.args.trace.now c.in_ok-labels.labels.items c.in_ok-labels.labels.items
    c.ports.ensures.value refl c.in_ok-labels.ensures.same_files c.in_ok-labels.ensures.says in
    moves_call has (program_of program) c.args.moves.now (g.S.Store.last_fault c.lines_in.new.store)
    (c.in_err-lines.ensures.failed_call (failed_as _ c.from_residual-in_err-lines.ensures.1 failed))

pub returns-in_err-lines-clause-calls : goal.returns-in_err-lines-clause-calls
returns-in_err-lines-clause-calls g c =
    late _ _ (read_explained c.args.trace.now ∷ []) (read_explained c.args.moves.now ∷ []) (g.S.Store.calls c.args.store.now) (g.S.Store.calls c.labels_in.new.store)
    (g.S.Store.calls c.lines_in.new.store) c.from_residual-in_err-lines.ensures.1 c.in_ok-labels.ensures.calls c.in_err-lines.ensures.calls

-- the moves are made again
pub returns-clause-done : goal.returns-clause-done
returns-clause-done g c =
    let has = has_labels (g.S.Store.contents c.args.store.now) (g.S.Store.contents c.labels_in.new.store) c.args.program.now.ports c.ports.result.now c.args.trace.now
    c.as_slice.result.now c.in_ok-labels.labels.items c.ports.ensures.value c.as_slice.ensures.value c.in_ok-labels.ensures.same_files c.in_ok-labels.ensures.says in
    all_explained has (program_of c.args.program.now) c.args.moves.now c.as_slice-2.result.now c.in_ok-lines.lines.items c.as_slice-2.ensures.value
    c.in_ok-lines.ensures.says c.explain.result c.explain.ensures.explained c.explain.ensures.is_trace c.explain.ensures.tells

pub returns-clause-rejected : goal.returns-clause-rejected
returns-clause-rejected g c =
    let old = g.S.Store.contents c.args.store.now in
    let program = c.args.program.now in
    let has = has_labels (g.S.Store.contents c.args.store.now) (g.S.Store.contents c.labels_in.new.store) c.args.program.now.ports c.ports.result.now c.args.trace.now
    c.as_slice.result.now c.in_ok-labels.labels.items c.ports.ensures.value c.as_slice.ensures.value c.in_ok-labels.ensures.same_files c.in_ok-labels.ensures.says in
    of_stop _ (λ fault line. IfSome old (λ files. RejectsTexts files program.ports (program_of program) c.args.trace.now c.args.moves.now fault line)) c.explain.result
    (lines_rejected has (program_of program) c.args.moves.now c.as_slice-2.result.now c.in_ok-lines.lines.items c.as_slice-2.ensures.value c.in_ok-lines.ensures.says)
    c.explain.ensures.rejected

pub returns-clause-calls : goal.returns-clause-calls
returns-clause-calls g c =
    goes_on _ (read_explained c.args.trace.now ∷ []) (read_explained c.args.moves.now ∷ []) (g.S.Store.calls c.args.store.now) (g.S.Store.calls c.labels_in.new.store)
    (g.S.Store.calls c.lines_in.new.store) c.in_ok-labels.ensures.calls
    (none_more c.explain.result (read_explained c.args.moves.now ∷ []) (g.S.Store.calls c.labels_in.new.store) (g.S.Store.calls c.lines_in.new.store) c.explain.ensures.no_store c.in_ok-lines.ensures.calls)
