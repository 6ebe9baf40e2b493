-- A side of the plan of `(skip, skip)`, and a plan that does nothing.
use Rattle.std.proofs.Common.{Some, [], ◌∷◌, refl, arith}
use Rattle.gos_types.specs.Types.{Com}
use Rattle.gos_types.specs.Events.{Request}
use Rattle.gos_plan.specs.Plans.{PartEnd, ResultEnd}
use Rattle.gos_plan.specs.Tokens.{Tokens, In, with_token}
use Rattle.gos_plan.specs.SmallPlans.{skip_plan, at_first}
use Rattle.gos_nodes.specs.products.SmallBoth.{skips_plan, skip_side}
use Rattle.gos_nodes.specs.products.SmallCores.{SkipIsCore, EmptyIsNone}
use Rattle.gos_nodes.proofs.products.CoreLemmas.{sides_are_cores}
use Rattle.gos_nodes.proofs.products.SmallBothLemmas.{skips_are_both}

pub skip_is_core : SkipIsCore
skip_is_core = (sides_are_cores Com Com skips_plan (skip_side 0) (skip_side 1) skips_are_both).0

abbrev asked : Tokens
asked = with_token skip_plan (ResultEnd 0) Request (Some 0) at_first

pub empty_is_none : EmptyIsNone
empty_is_none (f, core, still) =
    let clash =
    still at_first asked (In (ResultEnd 0) 0 ∷ []) (ResultEnd 0) (PartEnd 0 0) Request ((λ way e. refl), (λ i. refl)) (asked, (tt, (omega arith, refl)), refl)
    ((refl, tt), tt) ((0, omega arith, refl), (λ d e has at_a at_b. omega (arith, has.1))) in
    cc clash
