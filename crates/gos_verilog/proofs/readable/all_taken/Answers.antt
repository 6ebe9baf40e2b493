use Rattle.std.proofs.Common.{◌≡◌, ◌<◌, ℕ, length, get_or, true, false, refl, sym, ap, ◌∙◌, arith}
use Rattle.std.specs.Prelude.{Some}
use Rattle.std.proofs.lemmas.Option.{slice_get-get_or, same_Some}
use Rattle.gos_netlist.specs.Nets.{Cell}
use Rattle.gos_netlist.specs.Seen.{cell_of}
use Rattle.gos_netcheck.proofs.RuleLemmas.{get_mapped, mapped_more, mapped_all}
use Rattle.gos_netcheck.proofs.PinLemmas.{no_cell}
use Rattle.gos_verilog.specs.inner.Inputs.{IsTakenInput}
use Rattle.gos_verilog.proofs.readable.all_taken.Goals as goal
use Rattle.gos_verilog.proofs.readable.all_taken.Goals.{else-is_input-via-then-is_input+else-not-taken-n, else-is_input-via-else-is_input}

pub loop-n-preserved : goal.loop-n-preserved
loop-n-preserved c =
    let Rule : ℕ → Cell → Type 0 = IsTakenInput c.args.taken.now in
    let l : c.loop-n.n < length c.args.taken.now = omega (arith, c.loop-n-test.true, c.requires) in
    mapped_more Rule cell_of c.args.cells.now c.loop-n.n no_cell c.loop-n-test.true c.loop-n.invariant
    (λ is. elim c.else-is_input.branch [
      | else-is_input-via-then-is_input+else-not-taken-n w ↦ slice_get-get_or c.args.taken.now c.loop-n.n false l ∙ ap Some w.if-not-taken-n.false
      | else-is_input-via-else-is_input w ↦ absurd (let no : false ≡ true = sym w.if-is_input.false ∙ c.is_input.ensures.1 is in cc)
    ])

pub returns-then-not-taken-n : goal.returns-then-not-taken-n
returns-then-not-taken-n c = (
  (λ no. absurd (let both : false ≡ true = no in cc both)),
  (λ kept.
      let taken = c.args.taken.now in
      let n = c.loop-n.n in
      let l : n < length taken = omega (arith, c.loop-n-test.true, c.requires) in
      let here = kept n (cell_of (get_or c.args.cells.now n no_cell)) (get_mapped cell_of c.args.cells.now n no_cell c.loop-n-test.true) (c.is_input.ensures.0 c.if-is_input.true) in
      same_Some false true (sym (slice_get-get_or taken n false l ∙ ap Some c.if-not-taken-n.true) ∙ here)),
)

pub returns : goal.returns
returns c = (
  (λ all.
      let Rule : ℕ → Cell → Type 0 = IsTakenInput c.args.taken.now in
      mapped_all Rule cell_of c.args.cells.now c.loop-n.n c.loop-n-test.false c.loop-n.invariant),
  (λ kept. refl),
)
