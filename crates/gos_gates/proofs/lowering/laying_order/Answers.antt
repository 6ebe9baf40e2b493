use Rattle.std.proofs.Common.{ℕ, List, subst, sym}
use Rattle.std.specs.Prelude.{IsPermutation}
use Rattle.gos_netcheck.specs.Levels.{AreLevels}
use Rattle.gos_gates.specs.inner.Orders.{numbers_from}
use Rattle.gos_gates.proofs.LoweredLemmas.{gives_circuit}
use Rattle.gos_gates.proofs.lowering.laying_order.Goals as goal

pub returns : goal.returns
returns c =
    let levels : List ℕ = c.deref.result.now in
    let order : List ℕ = c.in_ok-order.order.items in
    let P : List ℕ → Type 0 = λ ls. AreLevels c.args.net.now.cells ls in
    let are : AreLevels c.args.net.now.cells levels = subst P (sym c.deref.ensures.value) c.in_ok-levels.ensures in
    let Q : ℕ → Type 0 = λ k. IsPermutation (numbers_from 0 k) order in
    gives_circuit c.args.net.now c.requires.accepted levels are order (subst Q are.each c.in_ok-order.ensures.all) c.in_ok-order.ensures.ordered c.requires.bits c.requires.few
