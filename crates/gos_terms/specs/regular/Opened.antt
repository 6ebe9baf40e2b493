-- Wired nodes are regular with any regular supplies, which needn't rest.
--
-- Read first: Regular of wired; Functions and Bodies of function_forms. Closed by functions over its numbers, and applied to supplies of
-- them, a node is the node that is wired to these.
use Rattle.std.specs.Prelude.{◌≡◌, ℕ, List, [], ◌∷◌, ◌++◌, length, All, Contains}
use Rattle.gos_types.specs.Types.{Type', Fun}
use Rattle.gos_model.specs.Typing.{Imports}
use Rattle.gos_check.specs.Nodes.{Numbered, Under, OfFun, type_of_node}
use Rattle.gos_plan.specs.Plans.{Plan, IsRight}
use Rattle.gos_plan.specs.TokenBits.{LiteralFits}
use Rattle.gos_realises.specs.realises.Regular.{IsRegular}
use Rattle.gos_realises.specs.realises.Realises.{NamesDiffer}
use Rattle.gos_supplies.specs.turns.Rests.{Rests}
use Rattle.gos_joining.specs.webs.Renumbering.{Renumber, IsRenumbered}
use Rattle.gos_compile.specs.Wiring.{Types, IsPlanOf, all_types, all_ties}
use Rattle.gos_terms.specs.wired.Wired.{Supplies, Placing, IsWired, AreRealised}
use Rattle.gos_terms.specs.wired.Regular.{RegularWired}
use Rattle.gos_terms.specs.wired.Modules.{PathsFit, MakesNoImport, numbers_from}
use Rattle.gos_terms.specs.numbers.Kept.{IsKept}

-- Two plans that are wired for one node, with the same supplies of its numbers, are one but for numbers.
abbrev pub WiredIsOne : Type 0
WiredIsOne =
    (types : Types) (i j : ℕ) (m : Numbered) (ns : List ℕ) (env other : Supplies) (pl plc : Placing) (r s : Plan)
    → ((n : ℕ) → Contains ns n → env n ≡ other n) → IsWired types i j m ns env pl r → IsWired types i j m ns other plc s
    → (g : Renumber) × IsRenumbered g r s

-- a node, closed by functions over these numbers, the first outermost
abbrev pub closed : Types → List ℕ → Numbered → Numbered
closed types [] m = m
closed types (n ∷ ns) m = Under (Fun (types n) (type_of_node (closed types ns m))) [] OfFun n (closed types ns m)

-- What is kept of a node with numbers ks and ns is kept of it with ks, closed over ns; and so is it to be regular and to rest, however
-- it is wired to supplies that are and do.
abbrev pub ClosedIsKept : Type 0
ClosedIsKept = (types : Types) (ks ns : List ℕ) (m : Numbered) → IsKept types (ks ++ ns) m → IsKept types ks (closed types ns m)

abbrev pub ClosedIsRegular : Type 0
ClosedIsRegular =
    (types : Types) (ks ns : List ℕ) (m : Numbered)
    → IsKept types (ks ++ ns) m → RegularWired types (ks ++ ns) m → RegularWired types ks (closed types ns m)

-- a node without supplies has a plan
abbrev pub ClosedIsWired : Type 0
ClosedIsWired = (types : Types) (i j : ℕ) (m : Numbered) (env : Supplies) → IsKept types [] m → (pl : Placing) × (r : Plan) × IsWired types i j m [] env pl r

-- each number's supply is right, of the number's type, and regular
pub record IsSteady (t : Type') (p : Plan) : Type 0 where
  pub right : IsRight p
  pub outcome : p.outcome ≡ t
  pub regular : IsRegular p

abbrev pub AreSteady : Types → Supplies → List ℕ → Type 0
AreSteady types env ns = (n : ℕ) → Contains ns n → IsSteady (types n) (env n).plan

-- However a node is wired to such supplies, its plan is regular.
abbrev pub SteadyWired : Types → List ℕ → Numbered → Type 0
SteadyWired types ns m =
    (i j : ℕ) (env : Supplies) (pl : Placing) (r : Plan)
    → IsWired types i j m ns env pl r → AreSteady types env ns → All LiteralFits r.parts → IsRegular r

-- However a node is wired to supplies that realise terms, its plan is regular.
abbrev pub RealisedIsRegular : Types → List ℕ → Numbered → Type 0
RealisedIsRegular types ns m =
    (i j : ℕ) (env : Supplies) (pl : Placing) (r : Plan)
    → IsWired types i j m ns env pl r → AreRealised types env ns → NamesDiffer r.imports → All LiteralFits r.parts → IsRegular r

-- So it is where the node is regular and rests with supplies that are regular and rest: the supplies needn't rest for it to be regular.
abbrev pub RegularIsSteady : Type 0
RegularIsSteady = (types : Types) (ns : List ℕ) (m : Numbered) → IsKept types ns m → RegularWired types ns m → SteadyWired types ns m

abbrev pub SteadyIsRealised : Type 0
SteadyIsRealised = (types : Types) (ns : List ℕ) (m : Numbered) → IsKept types ns m → RegularWired types ns m → RealisedIsRegular types ns m

-- The plan of a module, with imports of any types, is its term's node, wired to the plans of names: so it is regular, and it rests.
abbrev pub ModuleIsRegular : Type 0
ModuleIsRegular =
    (is : Imports) (t : Type') (w : ℕ) (m : Numbered) (p : Plan)
    → IsPlanOf is t w m p → t ≡ type_of_node m → MakesNoImport is m → PathsFit (all_ties is m) p → NamesDiffer is → All LiteralFits p.parts
    → RegularWired (all_types is m) (numbers_from 0 (length is)) m → IsRegular p × Rests p
