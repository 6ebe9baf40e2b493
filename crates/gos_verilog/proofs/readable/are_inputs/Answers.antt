use Rattle.std.proofs.Common.{length, map, refl, sym, ◌∙◌, subst, Bool, List}
use Rattle.std.proofs.lemmas.Option.{slice_get_read}
use Rattle.gos_netlist.specs.Nets.{Cell}
use Rattle.gos_netlist.specs.Seen.{cell_of}
use Rattle.gos_netcheck.proofs.RuleLemmas.{kept_all}
use Rattle.gos_netcheck.specs.Rules.{Kept}
use Rattle.gos_verilog.specs.Readable.{HasOwnCell, IsInputCell}
use Rattle.gos_verilog.specs.inner.Inputs.{IsTakenInput}
use Rattle.gos_verilog.proofs.ReadableLemmas.{one_net_more, cell_free, all_marked}
use Rattle.gos_verilog.proofs.readable.are_inputs.Goals as goal

pub loop-net-preserved : goal.loop-net-preserved
loop-net-preserved c =
    let nets = c.args.nets.now in
    let cells : List Cell = map cell_of c.args.cells.now in
    let k = c.loop-net.net-index in
    let net = c.net-item.result in
    let at = slice_get_read nets (length nets) k net refl c.loop-net-test.true c.net-item.is in
    let told = c.take.ensures in
    let took = c.if-not-take.false in
    record {
      count = told.count ∙ c.loop-net.invariant.count;
      are =
          one_net_more cells nets k net c.loop-net.taken.items c.take.new.taken.items at (told.cell took) (told.new took) (told.marks took) (told.kept took) told.only
          c.loop-net.invariant.are;
    }

pub returns-clause-inputs : goal.returns-clause-inputs
returns-clause-inputs c = λ are.
    let cells : List Cell = map cell_of c.args.cells.now in
    kept_all (λ _ n. IsInputCell cells n) c.args.nets.now c.loop-net.net-index c.loop-net-test.false c.loop-net.invariant.are.inputs

pub returns-clause-once : goal.returns-clause-once
returns-clause-once c = λ are.
    kept_all (HasOwnCell c.args.nets.now) c.args.nets.now c.loop-net.net-index c.loop-net-test.false c.loop-net.invariant.are.once

pub returns-then-not-take-clause-whole : goal.returns-then-not-take-clause-whole
returns-then-not-take-clause-whole c = λ inputs once fed.
    let nets = c.args.nets.now in
    let cells : List Cell = map cell_of c.args.cells.now in
    let k = c.loop-net.net-index in
    let net = c.net-item.result in
    let at = slice_get_read nets (length nets) k net refl c.loop-net-test.true c.net-item.is in
    c.if-not-take.ensures.whole (inputs k net at) (λ input marked. cell_free cells nets k net c.loop-net.taken.items at once c.loop-net.invariant.are input marked)

pub returns-clause-whole : goal.returns-clause-whole
returns-clause-whole c = λ inputs once fed.
    let cells : List Cell = map cell_of c.args.cells.now in
    let marked = all_marked cells c.args.nets.now c.loop-net.net-index c.loop-net.taken.items c.loop-net-test.false c.loop-net.invariant.are fed in
    c.all_taken.ensures.1 (subst (λ (taken : List Bool). Kept (IsTakenInput taken) cells) (sym c.deref.ensures.value) marked)
