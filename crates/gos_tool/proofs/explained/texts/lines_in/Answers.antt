use Rattle.std.proofs.Common.{◌≤◌, ◌∷◌, [], ℕ, List, length, subst, sym}
use Rattle.std.specs.Prelude.{IfSome}
use Rattle.gos_outside.specs.Files.{bytes_at}
use Rattle.gos_witness.specs.MovesText.{IsMovesText}
use Rattle.gos_command.proofs.EndLemmas.{of_stopped, stops_after}
use Rattle.gos_tool.specs.Causes.{IsFileFault}
use Rattle.gos_tool.specs.Calls.{read_explained}
use Rattle.gos_tool.specs.explained.Texts.{SaysLines, IsTextCause}
use Rattle.gos_tool.proofs.lemmas.circuits.ExitLemmas.{stopped_as}
use Rattle.gos_tool.proofs.lemmas.explained.TextLemmas.{of_file, too_long_text, broken_text}
use Rattle.gos_tool.proofs.explained.texts.lines_in.Goals as goal

pub returns-in_err-text-clause-rejected : goal.returns-in_err-text-clause-rejected
returns-in_err-text-clause-rejected g c =
    let old = g.S.Store.contents c.args.store.now in
    stopped_as _ (λ fault line. IfSome old (λ files. IsFileFault c.args.moves.now (IsTextCause IsMovesText (bytes_at files c.args.moves.now)) fault line)) _
    c.in_err-text.field-0.0 c.from_residual.ensures.1 (too_long_text IsMovesText old c.args.moves.now) c.in_err-text.ensures.rejected

pub returns-in-Ok-clause-says : goal.returns-in-Ok-clause-says
returns-in-Ok-clause-says g c =
    of_file (λ (bytes : List ℕ). SaysLines bytes c.in-Ok.lines.items) (g.S.Store.contents c.args.store.now) c.args.moves.now c.in_ok-text.text.items c.as_slice.result.now
    c.in_ok-text.ensures.whole c.as_slice.ensures.value
    (record {
      short = subst (λ (bytes : List ℕ). length bytes ≤ 268435456) (sym c.as_slice.ensures.value) c.in_ok-text.ensures.short;
      is = c.in-Ok.ensures.read;
    })

pub returns-clause-rejected : goal.returns-clause-rejected
returns-clause-rejected g c =
    let old = g.S.Store.contents c.args.store.now in
    let short = subst (λ (bytes : List ℕ). length bytes ≤ 268435456) (sym c.as_slice.ensures.value) c.in_ok-text.ensures.short in
    of_stopped _ (λ fault line. IfSome old (λ files. IsFileFault c.args.moves.now (IsTextCause IsMovesText (bytes_at files c.args.moves.now)) fault line)) c.reject.result
    (λ fault line h. broken_text IsMovesText old c.args.moves.now c.in_ok-text.text.items c.as_slice.result.now c.in-Err.fault fault line c.in_ok-text.ensures.whole
    c.as_slice.ensures.value short c.in-Err.ensures.fault h.1 h.0 h.2)
    c.reject.ensures.stopped

pub returns-clause-calls : goal.returns-clause-calls
returns-clause-calls g c =
    stops_after _ (read_explained c.args.moves.now ∷ []) ([]) (g.S.Store.calls c.args.store.now) (g.S.Store.calls c.text_in.new.store) c.reject.ensures.no_store c.in_ok-text.ensures.calls
