use Rattle.std.proofs.Common.{◌≡◌, map, ℕ}
use Rattle.std.specs.Prelude.{slice_get}
use Rattle.gos_netlist.specs.Seen.{cell_of, number_of}
use Rattle.gos_netcheck.proofs.RuleLemmas.{mapped_more, mapped_all}
use Rattle.gos_tidy.proofs.steady.nets_stay.Goals as goal

pub loop-net-preserved : goal.loop-net-preserved
loop-net-preserved c =
    let Rule : ℕ → ℕ → Type 0 = λ _ n. slice_get (map cell_of c.args.others.now) n ≡ slice_get (map cell_of c.args.cells.now) n in
    mapped_more Rule number_of c.args.nets.now c.loop-net.net-index _ c.loop-net-test.true c.loop-net.invariant (c.stays.ensures c.if-not-stays.false)

pub returns : goal.returns
returns c _ =
    let Rule : ℕ → ℕ → Type 0 = λ _ n. slice_get (map cell_of c.args.others.now) n ≡ slice_get (map cell_of c.args.cells.now) n in
    mapped_all Rule number_of c.args.nets.now c.loop-net.net-index c.loop-net-test.false c.loop-net.invariant
