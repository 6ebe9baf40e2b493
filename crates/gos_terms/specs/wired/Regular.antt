-- Wired nodes that are regular and rest, with imports of any types.
--
-- Read first: Wired; Rests of gos_supplies; Regular of gos_realises. Nothing is said here of terms: a wired node is a plan among
-- plans.
use Rattle.std.specs.Prelude.{◌≡◌, ℕ, List, All, Contains}
use Rattle.gos_types.specs.Types.{Type'}
use Rattle.gos_check.specs.Nodes.{Numbered}
use Rattle.gos_plan.specs.Plans.{Plan, IsRight}
use Rattle.gos_plan.specs.TokenBits.{LiteralFits}
use Rattle.gos_realises.specs.realises.Regular.{IsRegular}
use Rattle.gos_realises.specs.realises.Realises.{NamesDiffer}
use Rattle.gos_supplies.specs.turns.Rests.{Rests}
use Rattle.gos_compile.specs.Wiring.{Types}
use Rattle.gos_terms.specs.wired.Wired.{Supplies, Placing, IsWired}

-- a right plan of this type, whose literals fit their widths, that is regular and rests
pub record IsRegularOf (t : Type') (p : Plan) : Type 0 where
  pub right : IsRight p
  pub outcome : p.outcome ≡ t
  pub literals : All LiteralFits p.parts
  pub regular : IsRegular p
  pub rests : Rests p

-- each number's supply is such, at the number's type
abbrev pub AreRegular : Types → Supplies → List ℕ → Type 0
AreRegular types env ns = (n : ℕ) → Contains ns n → IsRegularOf (types n) (env n).plan

-- However a node is wired to such supplies for these numbers, its plan is regular and rests.
abbrev pub RegularWired : Types → List ℕ → Numbered → Type 0
RegularWired types ns m =
    (i j : ℕ) (env : Supplies) (pl : Placing) (r : Plan)
    → IsWired types i j m ns env pl r → AreRegular types env ns → NamesDiffer r.imports → All LiteralFits r.parts → IsRegular r × Rests r
