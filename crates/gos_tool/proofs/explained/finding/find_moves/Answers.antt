use Rattle.std.proofs.Common.{◌∷◌, [], inl}
use Rattle.std.specs.Prelude.{IfSome}
use Rattle.gos_outside.specs.Calls.{Write}
use Rattle.gos_outside.proofs.CallsLemmas.{goes_on}
use Rattle.gos_witness.specs.Programs.{program_of}
use Rattle.gos_command.proofs.EndLemmas.{early, stops_after}
use Rattle.gos_tool.specs.Calls.{read_explained}
use Rattle.gos_tool.specs.explained.Found.{RejectsTrace}
use Rattle.gos_tool.proofs.lemmas.circuits.ExitLemmas.{err_is, failed_as, stopped_as}
use Rattle.gos_tool.proofs.lemmas.explained.VerifyLemmas.{has_labels}
use Rattle.gos_tool.proofs.lemmas.explained.FoundLemmas.{all_found, labels_rejected, lines_unwritten, trace_text_rejected}
use Rattle.gos_tool.proofs.explained.finding.find_moves.Goals as goal

-- the trace file is rejected, or can't be read
pub returns-in_err-read-clause-rejected : goal.returns-in_err-read-clause-rejected
returns-in_err-read-clause-rejected g c =
    let old = g.S.Store.contents c.args.store.now in
    let program = c.args.program.now in
    stopped_as _ (λ fault line. IfSome old (λ files. RejectsTrace files program.ports (program_of program) c.args.trace.now fault line)) _
    c.in_err-read.field-0.0 c.from_residual.ensures.1 (trace_text_rejected old program.ports c.ports.result.now c.ports.ensures.value (program_of program) c.args.trace.now)
    c.in_err-read.ensures.rejected

pub returns-in_err-read-clause-failed_call : goal.returns-in_err-read-clause-failed_call
returns-in_err-read-clause-failed_call g c failed =
    inl (c.in_err-read.ensures.failed_call (failed_as _ c.from_residual.ensures.1 failed), c.in_err-read.ensures.same_files)

pub returns-in_err-read-clause-calls : goal.returns-in_err-read-clause-calls
returns-in_err-read-clause-calls g c =
    early _ _ (read_explained c.args.trace.now ∷ []) (Write c.args.moves.now ∷ []) (g.S.Store.calls c.args.store.now) (g.S.Store.calls c.labels_in.new.store)
    c.from_residual.ensures.1 c.in_err-read.ensures.calls

-- no lines are found for its labels
pub returns-in_err-lines-clause-rejected : goal.returns-in_err-lines-clause-rejected
returns-in_err-lines-clause-rejected g c =
    let old = g.S.Store.contents c.args.store.now in
    let program = c.args.program.now in
    let has = has_labels old (g.S.Store.contents c.labels_in.new.store) program.ports c.ports.result.now c.args.trace.now c.as_slice-labels.result.now c.in_ok-read.read.items
    c.ports.ensures.value c.as_slice-labels.ensures.value c.in_ok-read.ensures.same_files c.in_ok-read.ensures.says in
    stopped_as _ (λ fault line. IfSome old (λ files. RejectsTrace files program.ports (program_of program) c.args.trace.now fault line)) _
    c.in_err-lines.field-0.0 c.from_residual-in_err-lines.ensures.1 (labels_rejected has (program_of program)) c.in_err-lines.ensures.rejected

pub returns-in_err-lines-clause-calls : goal.returns-in_err-lines-clause-calls
returns-in_err-lines-clause-calls g c =
    rw (err_is _ c.from_residual-in_err-lines.ensures.1)
    (stops_after c.in_err-lines.field-0.0 (read_explained c.args.trace.now ∷ []) (Write c.args.moves.now ∷ []) (g.S.Store.calls c.args.store.now)
    (g.S.Store.calls c.labels_in.new.store) c.in_err-lines.ensures.no_store c.in_ok-read.ensures.calls)

-- they are found, and written
pub returns-clause-done : goal.returns-clause-done
returns-clause-done g c =
    let program = c.args.program.now in
    let has = has_labels (g.S.Store.contents c.args.store.now) (g.S.Store.contents c.labels_in.new.store) program.ports c.ports.result.now c.args.trace.now
    c.as_slice-labels.result.now c.in_ok-read.read.items c.ports.ensures.value c.as_slice-labels.ensures.value c.in_ok-read.ensures.same_files c.in_ok-read.ensures.says in
    all_found has (program_of program) c.args.moves.now (g.S.Store.contents c.write_moves.new.store) c.in_ok-lines.lines.items c.in_ok-lines.ensures.explained
    c.in_ok-lines.ensures.is_trace c.as_slice.result.now c.as_slice.ensures.value c.write_moves.result c.write_moves.ensures.are c.write_moves.ensures.wrote
    c.write_moves.ensures.tells

pub returns-clause-failed_call : goal.returns-clause-failed_call
returns-clause-failed_call g c failed =
    let program = c.args.program.now in
    let has = has_labels (g.S.Store.contents c.args.store.now) (g.S.Store.contents c.labels_in.new.store) program.ports c.ports.result.now c.args.trace.now
    c.as_slice-labels.result.now c.in_ok-read.read.items c.ports.ensures.value c.as_slice-labels.ensures.value c.in_ok-read.ensures.same_files c.in_ok-read.ensures.says in
    lines_unwritten has (program_of program) c.args.moves.now (g.S.Store.contents c.write_moves.new.store) c.in_ok-lines.lines.items c.in_ok-lines.ensures.explained
    (g.S.Store.last_fault c.write_moves.new.store) (c.write_moves.ensures.failed_call failed) c.write_moves.ensures.others

pub returns-clause-calls : goal.returns-clause-calls
returns-clause-calls g c =
    goes_on _ (read_explained c.args.trace.now ∷ []) (Write c.args.moves.now ∷ []) (g.S.Store.calls c.args.store.now) (g.S.Store.calls c.labels_in.new.store)
    (g.S.Store.calls c.write_moves.new.store) c.in_ok-read.ensures.calls c.write_moves.ensures.calls
