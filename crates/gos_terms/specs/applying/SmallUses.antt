-- Small nodes: parted numbers, uses apart, and nodes that can be wired.
--
-- Read first: Uses. They show that these definitions can be met and can be missed.
use Rattle.std.specs.Prelude.{[], ◌∷◌}
use Rattle.gos_types.specs.Types.{Com, Exp}
use Rattle.gos_model.specs.Terms as terms
use Rattle.gos_check.specs.Nodes.{Numbered, Closed, Use}
use Rattle.gos_plan.specs.Kinds.{Skip}
use Rattle.gos_plan.specs.Plans.{Plan}
use Rattle.gos_compile.specs.Wiring.{Types}
use Rattle.gos_terms.specs.wired.Wired.{Supplies, Placing, Own}
use Rattle.gos_terms.specs.applying.Uses.{IsPlaced, CanBeWired, AreParted, AreApart}

-- two numbers are parted, and a number isn't parted from itself
abbrev pub TwoAreParted : Type 0
TwoAreParted = AreParted (0 ∷ 1 ∷ []) (0 ∷ []) (1 ∷ [])

abbrev pub OneIsNotParted : Type 0
OneIsNotParted = AreParted (0 ∷ []) (0 ∷ []) (0 ∷ []) → ⊥

-- uses of two numbers are apart, and two uses of one aren't
abbrev pub UsesAreApart : Type 0
UsesAreApart = AreApart (Use Com [] 0) (Use Com [] 1) (0 ∷ []) (1 ∷ [])

abbrev pub SameUsesAreNot : Type 0
SameUsesAreNot = AreApart (Use Com [] 0) (Use Com [] 0) [] [] → ⊥

-- the node of `skip`, and one that is said to give a number
abbrev pub skip_node : Numbered
skip_node = Closed Com [] terms.Skip

abbrev pub wrong_node : Numbered
wrong_node = Closed (Exp 8) [] terms.Skip

-- each part where it is in the node
abbrev pub in_place : Placing
in_place =
    record { own = λ k. k; supplied = λ n k. 0; import = λ n k. 0; source = Own; origin = λ k. record { number = 0; import = k } }

abbrev pub wrong_plan : Plan
wrong_plan = record { weight = 0; imports = []; outcome = Exp 8; parts = Skip ∷ []; joints = [] }

-- a plan without parts isn't placed as the node, and this one is
abbrev pub WrongIsPlaced : Type 0
WrongIsPlaced = (types : Types) (env : Supplies) → IsPlaced types wrong_node [] env in_place wrong_plan

abbrev pub EmptyIsNotPlaced : Type 0
EmptyIsNotPlaced = (types : Types) (env : Supplies) → IsPlaced types wrong_node [] env in_place (record wrong_plan { parts = [] }) → ⊥

-- The first can be wired, and the second can't: a Skip gives no number.
abbrev pub SkipCanBeWired : Type 0
SkipCanBeWired = (types : Types) (env : Supplies) → CanBeWired types 0 0 skip_node [] env

abbrev pub WrongCannot : Type 0
WrongCannot = (types : Types) (env : Supplies) → CanBeWired types 0 0 wrong_node [] env → ⊥
