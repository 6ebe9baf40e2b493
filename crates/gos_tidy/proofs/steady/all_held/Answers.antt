use Rattle.std.proofs.Common.{map, ℕ}
use Rattle.gos_netlist.specs.Nets.{Cell}
use Rattle.gos_netlist.specs.Seen.{cell_of}
use Rattle.gos_netcheck.proofs.RuleLemmas.{mapped_more, mapped_all}
use Rattle.gos_tidy.specs.inner.Fixed.{IsHeld}
use Rattle.gos_tidy.proofs.steady.all_held.Goals as goal

pub loop-n-preserved : goal.loop-n-preserved
loop-n-preserved c =
    let Rule : ℕ → Cell → Type 0 = IsHeld (map cell_of c.args.others.now) in
    mapped_more Rule cell_of c.args.cells.now c.loop-n.n _ c.loop-n-test.true c.loop-n.invariant (c.is_held.ensures c.if-not-is_held.false)

pub returns-clause-held : goal.returns-clause-held
returns-clause-held c _ =
    let Rule : ℕ → Cell → Type 0 = IsHeld (map cell_of c.args.others.now) in
    mapped_all Rule cell_of c.args.cells.now c.loop-n.n c.loop-n-test.false c.loop-n.invariant
