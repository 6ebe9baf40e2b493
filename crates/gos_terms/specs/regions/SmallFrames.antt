-- Numbers of two sides and of a body, and what are none; of what the ties of a use speak; names of ports; and regions that keep imports,
-- and don't.
--
-- Read first: Spans, Frames, Blocks. They show that these definitions can be met and can be missed.
use Rattle.std.specs.Prelude.{List, ℕ, zero, suc, [], ◌∷◌, None}
use Rattle.gos_types.specs.Types.{Com, Var}
use Rattle.gos_model.specs.Terms.{Name}
use Rattle.gos_model.specs.Typing.{array_type}
use Rattle.gos_check.specs.Nodes.{Numbered, Use}
use Rattle.gos_ties.specs.declared.points.Place.TheVariants as places
use Rattle.gos_plan.specs.Plans.{End, PartEnd, ImportEnd, ResultEnd}
use Rattle.gos_joining.specs.webs.Cutting.{Cut}
use Rattle.gos_supplies.specs.names.Names.{name_plan, imported}
use Rattle.gos_supplies.specs.turns.Names.{IsNamePlan}
use Rattle.gos_compile.specs.Wiring.{Types}
use Rattle.gos_terms.specs.regions.Spans.{IsOwnPlace}
use Rattle.gos_terms.specs.regions.Frames.{AreParted, KeepsImports}
use Rattle.gos_terms.specs.regions.Blocks.{port_plan, IsBound}

-- uses of two numbers
abbrev pub one_use : Numbered
one_use = Use Com [] 0

abbrev pub other_use : Numbered
other_use = Use Com [] 1

-- Each side has its number. A number that both use is that of no side alone.
abbrev pub UsesAreParted : Type 0
UsesAreParted = AreParted one_use other_use (0 ∷ 1 ∷ []) (0 ∷ []) (1 ∷ [])

abbrev pub SharedIsNotParted : Type 0
SharedIsNotParted = (ms ks : List ℕ) → AreParted one_use one_use (0 ∷ []) ms ks → ⊥

-- a body that uses the bound number, and one that uses a number that nobody knows
abbrev pub UseIsBound : Type 0
UseIsBound = IsBound 0 one_use []

abbrev pub OtherIsNotBound : Type 0
OtherIsNotBound = IsBound 0 other_use [] → ⊥

-- a use speaks of its number, and of no part
abbrev pub UseSpeaksOfIt : Type 0
UseSpeaksOfIt = (types : Types) → IsOwnPlace types 0 0 one_use (places.Number 0)

abbrev pub NotOfParts : Type 0
NotOfParts = (types : Types) (k : ℕ) → IsOwnPlace types 0 0 one_use (places.Part k) → ⊥

-- The name of a variable and that of an array stand for a number by the plan of a name. The plan that joins each handshake of an array
-- as those of a variable are joined is none: the array asks for its index.
abbrev pub PortsHaveNames : Type 0
PortsHaveNames =
    (x : Name) (k w : ℕ)
    → IsNamePlan (imported x (Var w)) (port_plan x (Var w)) × IsNamePlan (imported x (array_type k w)) (port_plan x (array_type k w))

abbrev pub GroundNameIsNone : Type 0
GroundNameIsNone = (x : Name) (k w : ℕ) → IsNamePlan (imported x (array_type k w)) (name_plan x (array_type k w)) → ⊥

-- import 0 leads to import 1, end by end; or its second end leads to a part
abbrev pub kept_outer : End → End
kept_outer (PartEnd i h) = PartEnd i h
kept_outer (ImportEnd i h) = ImportEnd 1 h
kept_outer (ResultEnd h) = PartEnd 0 h

abbrev pub torn_outer : End → End
torn_outer (ImportEnd i zero) = ImportEnd 1 0
torn_outer (ImportEnd i (suc h)) = PartEnd 0 h
torn_outer e = PartEnd 0 0

abbrev pub cut_by : (End → End) → Cut
cut_by outer = record { part = λ i. i; number = λ i. None; outer = outer; inner = λ e. None }

abbrev pub WholeIsKept : Type 0
WholeIsKept = KeepsImports (cut_by kept_outer)

abbrev pub TornIsNotKept : Type 0
TornIsNotKept = KeepsImports (cut_by torn_outer) → ⊥
