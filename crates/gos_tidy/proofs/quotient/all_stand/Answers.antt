use Rattle.std.proofs.Common.{map, ℕ}
use Rattle.gos_netlist.specs.Nets.{Cell}
use Rattle.gos_netlist.specs.Seen.{cell_of}
use Rattle.gos_netlist.specs.Settling.{at}
use Rattle.gos_netcheck.proofs.RuleLemmas.{mapped_more, mapped_all}
use Rattle.gos_tidy.specs.inner.Roots.{IsPlaced}
use Rattle.gos_tidy.proofs.quotient.all_stand.Goals as goal

pub loop-n-preserved : goal.loop-n-preserved
loop-n-preserved c =
    let Rule : ℕ → Cell → Type 0 = IsPlaced (map cell_of c.args.others.now) (at c.args.targets.now) c.args.roots.now in
    mapped_more Rule cell_of c.args.cells.now c.loop-n.n _ c.loop-n-test.true c.loop-n.invariant (c.stands.ensures c.if-not-stands.false)

pub returns : goal.returns
returns c _ =
    let Rule : ℕ → Cell → Type 0 = IsPlaced (map cell_of c.args.others.now) (at c.args.targets.now) c.args.roots.now in
    mapped_all Rule cell_of c.args.cells.now c.loop-n.n c.loop-n-test.false c.loop-n.invariant
