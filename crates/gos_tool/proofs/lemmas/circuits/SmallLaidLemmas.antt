-- Which netlists the plan of `skip` is laid out as, in each way: it has one of each sort.
use Rattle.std.proofs.Common.{◌≡◌, ◌≤◌, false, [], ◌∷◌, length, ap, sym, arith}
use Rattle.std.specs.Prelude.{codes}
use Rattle.gos_netlist.specs.Nets.{Netlist}
use Rattle.gos_plan.specs.SmallPlans.{skip_plan}
use Rattle.gos_expand.specs.declared.whole.Policy.TheVariants as policies
use Rattle.gos_expand.specs.Starts.{chosen}
use Rattle.gos_expand.specs.Choices.{LaidByIsOne}
use Rattle.gos_expand.specs.FastRuns.{FastIsOne}
use Rattle.gos_expand.specs.SmallChoices.{SkipKeepsNone}
use Rattle.gos_expand.specs.SmallFast.{SkipIsFast}
use Rattle.gos_expand.specs.SmallNets.{skip_netlist, skip_straight, SkipIsChosen}
use Rattle.gos_tool.specs.circuits.SmallLaid.{StraightIsFew, RegistersAreNotFew, TidiedIsFast, RegistersAreNotFast}

pub straight_is_few : SkipKeepsNone → SkipIsChosen → StraightIsFew
straight_is_few none laid = (chosen (false ∷ false ∷ []), none, sym laid.0)

pub registers_are_not_few : SkipKeepsNone → SkipIsChosen → LaidByIsOne → RegistersAreNotFew
registers_are_not_few none laid one few =
    let same : skip_netlist ≡ skip_straight = one policies.Few skip_plan (codes "main") skip_netlist skip_straight few (straight_is_few none laid) in
    let size : 5 ≡ 3 = ap (λ (n : Netlist). length n.cells) same in
    omega (arith, size)

pub tidied_is_fast : SkipIsFast → TidiedIsFast
tidied_is_fast fast net tidied = (skip_straight, fast, tidied)

pub registers_are_not_fast : SkipIsFast → FastIsOne → RegistersAreNotFast
registers_are_not_fast fast one (base, other, tidied) =
    let same : base ≡ skip_straight = one skip_plan (codes "main") base skip_straight other fast in
    let size : length base.cells ≡ 3 = ap (λ (n : Netlist). length n.cells) same in
    let fewer : 5 ≤ length base.cells = tidied.fewer in
    omega (arith, size, fewer)
