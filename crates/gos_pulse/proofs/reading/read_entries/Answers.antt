use Rattle.std.proofs.Common.{rules, ◌≡◌, ◌+◌, ℕ, [], length, map}
use Rattle.std.specs.Str.Lines.{lines}
use Rattle.gos_lex.specs.Lines.{statements_from}
use Rattle.gos_pulse.specs.PulseFile.{Names, IsWrongEntry}
use Rattle.gos_pulse.proofs.EntryLemmas.{all_read, first_wrong}
use Rattle.gos_pulse.proofs.reading.read_entries.Goals as goal

pub returns-in-None-clause-read : goal.returns-in-None-clause-read
returns-in-None-clause-read c =
    let none : (n : ℕ) → statements_from n (lines c.loop-entries.rest.now) ≡ [] = rw c.in-None.is at c.in_ok-next_line.ensures.numbered in
    all_read c.args.net.now c.args.cycles (statements_from c.args.from (lines c.args.text.now)) c.loop-entries.entries.items
    (statements_from c.loop-entries.line (lines c.loop-entries.rest.now)) c.loop-entries.invariant.1 (none c.loop-entries.line)

pub returns-in-Err-clause-fault : goal.returns-in-Err-clause-fault
returns-in-Err-clause-fault c =
    let next = c.in-Some.next in
    let is = rw c.in-Some.is at c.in_ok-next_line.ensures.numbered in
    let count : c.len-before.result ≡ length c.loop-entries.entries.items = search rules in
    let wrong : Names (c.loop-entries.line + next.skipped) c.in-Err.fault × IsWrongEntry c.args.net.now c.args.cycles (length c.loop-entries.entries.items) (map (λ word. word.now) next.words.items) c.in-Err.fault = rw (count, c.as_slice.ensures.value) at c.in-Err.ensures.fault in
    first_wrong c.args.net.now c.args.cycles (statements_from c.args.from (lines c.args.text.now)) c.loop-entries.entries.items
    (statements_from c.loop-entries.line (lines c.loop-entries.rest.now))
    (record { line = c.loop-entries.line + next.skipped; words = map (λ word. word.now) next.words.items })
    (statements_from (c.loop-entries.line + next.skipped + 1) (lines next.rest.now)) c.in-Err.fault
    c.loop-entries.invariant.1 (is c.loop-entries.line) wrong
