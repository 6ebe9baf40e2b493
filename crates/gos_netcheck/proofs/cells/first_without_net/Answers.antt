use Rattle.std.proofs.Common.{◌≡◌, ℕ, length, false, true, sym, ◌∙◌}
use Rattle.std.proofs.lemmas.List.{length-map}
use Rattle.gos_netlist.specs.Nets.{Cell}
use Rattle.gos_netlist.specs.Seen.{cell_of}
use Rattle.gos_netcheck.specs.CellRules.{PinsExist}
use Rattle.gos_netcheck.proofs.RuleLemmas.{mapped_more, mapped_breaks, mapped_all}
use Rattle.gos_netcheck.proofs.cells.first_without_net.Goals as goal

pub returns-then-not-pins_exist : goal.returns-then-not-pins_exist
returns-then-not-pins_exist c =
    let Rule : ℕ → Cell → Type 0 = λ _ x. PinsExist (length c.args.cells.now) x in
    rw length-map
    (mapped_breaks Rule cell_of c.args.cells.now c.loop-n.n _ c.loop-n-test.true c.loop-n.invariant
    (λ kept. let no : false ≡ true = sym c.if-not-pins_exist.true ∙ c.pins_exist.ensures.1 kept in cc))

pub loop-n-preserved : goal.loop-n-preserved
loop-n-preserved c =
    let Rule : ℕ → Cell → Type 0 = λ _ x. PinsExist (length c.args.cells.now) x in
    mapped_more Rule cell_of c.args.cells.now c.loop-n.n _ c.loop-n-test.true c.loop-n.invariant
    (c.pins_exist.ensures.0 c.if-not-pins_exist.false)

pub returns : goal.returns
returns c =
    let Rule : ℕ → Cell → Type 0 = λ _ x. PinsExist (length c.args.cells.now) x in
    rw length-map (mapped_all Rule cell_of c.args.cells.now c.loop-n.n c.loop-n-test.false c.loop-n.invariant)
