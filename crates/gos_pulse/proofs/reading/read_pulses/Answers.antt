use Rattle.std.proofs.Common.{◌≡◌, ◌+◌, ◌∷◌, ℕ, All, List, arith, map, subst, sym}
use Rattle.std.specs.Str.Lines.{lines}
use Rattle.std.proofs.lemmas.Result.{err_from_is_err_and}
use Rattle.gos_lex.specs.Lines.{statements_of, statements_from}
use Rattle.gos_pulse.specs.Entries.{SaysCycles, IsRunLength}
use Rattle.gos_pulse.proofs.EntryLemmas.{entries_refused, entries_give}
use Rattle.gos_pulse.specs.Driving.{GivesInput}
use Rattle.gos_pulse.specs.declared.entries.Entry.{Entry}
use Rattle.gos_pulse.proofs.reading.read_pulses.Goals as goal

pub returns-in_err-entries-clause-fault : goal.returns-in_err-entries-clause-fault
returns-in_err-entries-clause-fault c =
    let head = c.in-Some.head in
    let words = map (λ word. word.now) head.words.items in
    let numbered = rw c.in-Some.is at c.in_ok-head.ensures.numbered in
    let line : 1 + head.skipped + 1 ≡ head.skipped + 1 + 1 = omega arith in
    let is : statements_of c.args.text.now ≡ (record { line = 1 + head.skipped; words = words }) ∷ statements_from (head.skipped + 1 + 1) (lines head.rest.now) =
    subst (λ (n : ℕ). statements_of c.args.text.now ≡ (record { line = 1 + head.skipped; words = words }) ∷ statements_from n (lines head.rest.now)) line (numbered 1) in
    let says : SaysCycles words c.in_ok-cycles.cycles × IsRunLength c.in_ok-cycles.cycles = rw c.as_slice.ensures.value at c.in_ok-cycles.ensures.read in
    let known = entries_refused c.args.net.now c.args.text.now (record { line = 1 + head.skipped; words = words }) (statements_from (head.skipped + 1 + 1) (lines head.rest.now))
    c.in_ok-cycles.cycles c.in_err-entries.field-0.0 (omega arith) is says.0 says.1 c.in_err-entries.ensures.fault in
    let p = err_from_is_err_and c.from_residual-in_err-entries.result c.from_residual-in_err-entries.ensures.1 in
    rw (p.1, p.2) known

pub returns-clause-entries : goal.returns-clause-entries
returns-clause-entries c =
    subst (λ (p : ℕ × List Entry). All (GivesInput c.args.net.now) p.1) (sym c.new-2.ensures)
    (entries_give c.args.net.now c.in_ok-cycles.cycles 0 _ c.in_ok-entries.entries.items c.in_ok-entries.ensures.read)
