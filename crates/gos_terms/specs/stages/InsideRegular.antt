-- Supplies that are regular and rest are so inside splits.
--
-- Read first: Inside; Regular of wired; Behind of gos_sharing. Nothing is asked of the types of what is split.
use Rattle.std.specs.Prelude.{ℕ, ◌<◌, List}
use Rattle.gos_types.specs.Types.{Type'}
use Rattle.gos_check.specs.declared.linear.Split.{Split}
use Rattle.gos_plan.specs.Plans.{Plan}
use Rattle.gos_compile.specs.Wiring.{Types}
use Rattle.gos_sharing.specs.behind.Behind.{passing}
use Rattle.gos_terms.specs.wired.Wired.{Supplies}
use Rattle.gos_terms.specs.wired.Regular.{IsRegularOf, AreRegular}
use Rattle.gos_terms.specs.stages.Inside.{inside_supplies, numbers_inside, AreSplit, SidesAgree}

-- behind a Share
abbrev pub PassingIsRegularOf : Type 0
PassingIsRegularOf = (t : Type') (c : ℕ) (p : Plan) → c < 2 → IsRegularOf t p → IsRegularOf t (passing t c p)

-- inside splits
abbrev pub InsideIsRegular : Type 0
InsideIsRegular =
    (types : Types) (ss : List Split) (env : Supplies) (ns : List ℕ)
    → SidesAgree ss types → AreSplit ss ns → AreRegular types env ns → AreRegular types (inside_supplies types ss env) (numbers_inside ss ns)
