use Rattle.std.proofs.Common.{◌≡◌, ◌<◌, ℕ, map, length, true, false, sym, ap, ◌∙◌, arith}
use Rattle.std.specs.Prelude.{Some, slice_get}
use Rattle.std.proofs.lemmas.Option.{slice_get-get_or}
use Rattle.gos_netlist.specs.Nets.{Cell, Input}
use Rattle.gos_netlist.specs.Seen.{cell_of}
use Rattle.gos_netcheck.proofs.RuleLemmas.{mapped_more, mapped_all}
use Rattle.gos_netcheck.proofs.PinLemmas.{no_cell}
use Rattle.gos_netcheck.proofs.PortLemmas.{loose_found, none_loose}
use Rattle.gos_netcheck.proofs.ports.has_loose_input.Goals as goal
use Rattle.gos_netcheck.proofs.ports.has_loose_input.Goals.{else-is_end-via-then-is_end+else-not-taken-n, else-is_end-via-else-is_end}

pub returns-then-not-taken-n : goal.returns-then-not-taken-n
returns-then-not-taken-n c nets marks =
    (c.loop-n.n, loose_found c.args.cells.now c.args.taken.now nets c.loop-n.n no_cell c.loop-n-test.true c.requires (c.is_end.ensures.0 c.if-is_end.true) c.if-not-taken-n.true marks)

pub loop-n-preserved : goal.loop-n-preserved
loop-n-preserved c =
    let Rule : ℕ → Cell → Type 0 = λ n x. x.gate ≡ Input → slice_get c.args.taken.now n ≡ Some true in
    let l : c.loop-n.n < length c.args.taken.now = omega (arith, c.loop-n-test.true, c.requires) in
    mapped_more Rule cell_of c.args.cells.now c.loop-n.n no_cell c.loop-n-test.true c.loop-n.invariant
    (λ is. elim c.else-is_end.branch [
      | else-is_end-via-then-is_end+else-not-taken-n w ↦ slice_get-get_or c.args.taken.now c.loop-n.n false l ∙ ap Some w.if-not-taken-n.false
      | else-is_end-via-else-is_end w ↦ absurd (let no : false ≡ true = sym w.if-is_end.false ∙ c.is_end.ensures.1 is in cc)
    ])

pub returns : goal.returns
returns c nets marks =
    let Rule : ℕ → Cell → Type 0 = λ n x. x.gate ≡ Input → slice_get c.args.taken.now n ≡ Some true in
    none_loose (map cell_of c.args.cells.now) c.args.taken.now nets (mapped_all Rule cell_of c.args.cells.now c.loop-n.n c.loop-n-test.false c.loop-n.invariant) marks
