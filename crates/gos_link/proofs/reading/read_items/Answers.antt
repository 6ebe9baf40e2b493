use Rattle.std.proofs.Common.{◌≡◌, ◌+◌, ◌<◌, ◌≤◌, ◌^◌, ◌∷◌, ◌++◌, ℕ, List, None, [], arith, length, length-append, map, refl, subst, sym}
use Rattle.std.specs.Str.Lines.{lines}
use Rattle.gos_lex.specs.Lines.{statements_from}
use Rattle.std.proofs.lemmas.Result.{err_from_is_err_and}
use Rattle.gos_link.specs.BuildFile.{ReadsOn}
use Rattle.gos_link.specs.declared.said.Item.{Item}
use Rattle.gos_link.proofs.ItemLemmas.{ReadSoFar, all_read, first_wrong, one_more}
use Rattle.gos_link.proofs.reading.read_items.Goals as goal

pub returns-in-None-clause-read : goal.returns-in-None-clause-read
returns-in-None-clause-read c =
    let none : (n : ℕ) → statements_from n (lines c.loop-lines.rest.now) ≡ [] = rw c.in-None.is at c.in_ok-next_line.ensures.numbered in
    subst (λ (items : List Item). ReadsOn c.args.own.now [] (statements_from 1 (lines c.args.text.now)) items None) (sym c.into_items.ensures)
    (all_read c.args.own.now (statements_from 1 (lines c.args.text.now)) c.loop-lines.lines
    (statements_from c.loop-lines.line (lines c.loop-lines.rest.now)) c.loop-lines.invariant.1 (none c.loop-lines.line))

pub returns-in_err-lines-in-Some-clause-fault : goal.returns-in_err-lines-in-Some-clause-fault
returns-in_err-lines-in-Some-clause-fault c =
    let next = c.in-Some.next in
    let at : ℕ = c.loop-lines.line + next.skipped in
    let is = rw c.in-Some.is at c.in_ok-next_line.ensures.numbered in
    let wrong = rw c.as_slice.ensures.value at c.in_err-lines-in-Some.ensures.fault in
    let p = err_from_is_err_and c.from_residual-in_err-lines-in-Some.result c.from_residual-in_err-lines-in-Some.ensures.1 in
    rw (p.1, p.2)
    (λ real. (
      at,
      (wrong real).0,
      first_wrong c.args.own.now (statements_from 1 (lines c.args.text.now)) c.loop-lines.lines
          (statements_from c.loop-lines.line (lines c.loop-lines.rest.now))
          (record { line = at; words = map (λ word. word.now) next.words.items })
          (statements_from (at + 1) (lines next.rest.now)) c.loop-lines.invariant.1 (is c.loop-lines.line) (wrong real).1,
    ))

pub loop-lines-preserved : goal.loop-lines-preserved
loop-lines-preserved c =
    let next = c.in-Some.next in
    let old : List Item = c.loop-lines.lines in
    let at : ℕ = c.loop-lines.line + next.skipped in
    let read = rw c.as_slice.ensures.value at c.in_ok-lines-in-Some.ensures.right in
    let (said, right, grown) = read in
    let item : Item = record { line = at; said = said } in
    let is = rw c.in-Some.is at c.in_ok-next_line.ensures.numbered in
    let shorter = rw c.in-Some.is at c.in_ok-next_line.ensures.shorter in
    let known = c.loop-lines.invariant in
    let more : length (old ++ item ∷ []) ≡ length old + 1 = length-append old (item ∷ []) in
    subst (λ (items : List Item). (at + 1 + length next.rest.now < 2 ^ 64) × ReadSoFar c.args.own.now (statements_from 1 (lines c.args.text.now)) items (statements_from (at + 1) (lines next.rest.now)) × (length items + length next.rest.now ≤ length c.args.text.now))
    (sym grown) (
      omega (arith, known.0, shorter),
      one_more c.args.own.now (statements_from 1 (lines c.args.text.now)) old (statements_from c.loop-lines.line (lines c.loop-lines.rest.now))
          (record { line = at; words = map (λ word. word.now) next.words.items }) (statements_from (at + 1) (lines next.rest.now)) said known.1 (is c.loop-lines.line) right,
      omega (arith, known.2, shorter, more),
    )
