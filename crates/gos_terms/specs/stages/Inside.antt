-- What stands for the numbers inside a node: a side of a split has the supply of what is split, behind a Share.
--
-- Read first: Wired of wired; Behind of gos_sharing; Passing of gos_sharing; Nodes of gos_check (`inside`). A side may be split in
-- turn, by a later split of the same node, so that a supply may stand behind several Shares. Supplies are of any type.
use Rattle.std.specs.Prelude.{◌≡◌, ℕ, List, [], ◌∷◌, All, nat_eq, Contains, if◌then◌else◌}
use Rattle.gos_types.specs.Types.{Type'}
use Rattle.gos_check.specs.declared.linear.Split.{Split}
use Rattle.gos_check.specs.Nodes.{inside}
use Rattle.gos_check.specs.Linearity.{times, sides}
use Rattle.gos_compile.specs.Wiring.{Types}
use Rattle.gos_plan.specs.Plans.{Plan}
use Rattle.gos_plan.specs.TokenBits.{LiteralFits}
use Rattle.gos_realises.specs.realises.Regular.{IsRegular}
use Rattle.gos_realises.specs.realises.Modules.{Supply}
use Rattle.gos_sharing.specs.behind.Behind.{passing}
use Rattle.gos_terms.specs.wired.Wired.{Supplies, AreRealised, terms_of}
use Rattle.gos_terms.specs.wired.NodeFitting.{AreOfTypes}

-- a supply behind caller c of a Share
abbrev pub behind_share : Type' → ℕ → Supply → Supply
behind_share t c s = record s { plan = passing t c s.plan }

-- inside one split
abbrev pub inside_one_supply : Types → Split → Supplies → Supplies
inside_one_supply types s env =
    λ k.
    if nat_eq k s.left then behind_share (types s.of) 0 (env s.of)
    else if nat_eq k s.right then behind_share (types s.of) 1 (env s.of)
    else env k

-- inside splits, in their order
abbrev pub inside_supplies : Types → List Split → Supplies → Supplies
inside_supplies types [] env = env
inside_supplies types (s ∷ ss) env = inside_supplies types ss (inside_one_supply types s env)

-- the numbers for which something stands inside splits, where it does for these outside
abbrev pub numbers_inside : List Split → List ℕ → List ℕ
numbers_inside [] ns = ns
numbers_inside (s ∷ ss) ns = numbers_inside ss (s.left ∷ s.right ∷ ns)

-- each split splits one of the numbers, or a side of a split before it
abbrev pub AreSplit : List Split → List ℕ → Type 0
AreSplit [] ns = Unit {0}
AreSplit (s ∷ ss) ns = Contains ns s.of × AreSplit ss (s.left ∷ s.right ∷ ns)

-- both sides of each split have the type of what is split
abbrev pub SidesAgree : List Split → Types → Type 0
SidesAgree [] types = Unit {0}
SidesAgree (s ∷ ss) types = (types s.left ≡ types s.of) × (types s.right ≡ types s.of) × SidesAgree ss types

-- the supplies' plans are regular, and their literals fit
pub record IsOrdered (p : Plan) : Type 0 where
  pub literals : All LiteralFits p.parts
  pub regular : IsRegular p

abbrev pub AreOrdered : Supplies → List ℕ → Type 0
AreOrdered env ns = (n : ℕ) → Contains ns n → IsOrdered (env n).plan

-- What realises terms is so.
abbrev pub RealisedAreOrdered : Type 0
RealisedAreOrdered = (types : Types) (env : Supplies) (ns : List ℕ) → AreRealised types env ns → AreOrdered env ns

-- Supplies of these types are so inside splits too.
abbrev pub InsideIsOfTypes : Type 0
InsideIsOfTypes =
    (types : Types) (ss : List Split) (env : Supplies) (ns : List ℕ)
    → SidesAgree ss types → AreSplit ss ns → AreOfTypes types env ns
    → AreOfTypes types (inside_supplies types ss env) (numbers_inside ss ns)

-- If they are regular, they are so there.
abbrev pub InsideIsOrdered : Type 0
InsideIsOrdered =
    (types : Types) (ss : List Split) (env : Supplies) (ns : List ℕ)
    → SidesAgree ss types → AreSplit ss ns → AreOfTypes types env ns → AreOrdered env ns
    → AreOrdered (inside_supplies types ss env) (numbers_inside ss ns)

-- And what they realise they realise there.
abbrev pub InsideIsRealised : Type 0
InsideIsRealised =
    (types : Types) (ss : List Split) (env : Supplies) (ns : List ℕ)
    → SidesAgree ss types → AreSplit ss ns → AreRealised types env ns
    → AreRealised types (inside_supplies types ss env) (numbers_inside ss ns)

-- The terms are those that the numbers stand for there.
abbrev pub InsideMeans : Type 0
InsideMeans =
    (types : Types) (ss : List Split) (env : Supplies) (k : ℕ) → terms_of (inside_supplies types ss env) k ≡ inside ss (terms_of env) k

-- A number that is no side has the same supply.
abbrev pub OthersStay : Type 0
OthersStay =
    (types : Types) (ss : List Split) (env : Supplies) (k : ℕ) → times k (sides ss) ≡ 0 → inside_supplies types ss env k ≡ env k
