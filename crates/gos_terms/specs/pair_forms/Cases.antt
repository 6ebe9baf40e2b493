-- A wired pair realises its term, and is regular and rests, where its children do.
--
-- Read first: Pairs of run_children; Cases of ground_forms (`RealisesWired`); Regular of wired (`RegularWired`); Both of gos_nodes. Its children may share
-- supplies, by the splits of the pair.
use Rattle.std.specs.Prelude.{◌≡◌, ℕ, List, All}
use Rattle.gos_types.specs.Types.{Type', Pair}
use Rattle.gos_check.specs.declared.linear.Split.{Split}
use Rattle.gos_check.specs.Nodes.{Numbered, Two, OfBoth, type_of_node}
use Rattle.gos_check.specs.Linearity.{used}
use Rattle.gos_plan.specs.Plans.{Plan}
use Rattle.gos_plan.specs.TokenBits.{LiteralFits}
use Rattle.gos_realises.specs.realises.Regular.{IsRegular}
use Rattle.gos_realises.specs.realises.Realises.{NamesDiffer}
use Rattle.gos_compile.specs.Wiring.{Types}
use Rattle.gos_terms.specs.wired.Wired.{Supplies, Placing, IsWired, AreRealised}
use Rattle.gos_terms.specs.wired.Regular.{RegularWired}
use Rattle.gos_terms.specs.meanings.Meanings.{HasLeaves}
use Rattle.gos_terms.specs.numbers.Kept.{IsKept}
use Rattle.gos_terms.specs.numbers.Inherited.{own_numbers, first_numbers}
use Rattle.gos_terms.specs.ground_forms.Cases.{RealisesWired}

-- However a node is wired to supplies that realise their terms, its plan is regular.
abbrev pub RealisedIsRegular : Types → List ℕ → Numbered → Type 0
RealisedIsRegular types ns m =
    (i j : ℕ) (env : Supplies) (pl : Placing) (r : Plan)
    → IsWired types i j m ns env pl r → AreRealised types env ns → NamesDiffer r.imports → All LiteralFits r.parts → IsRegular r

-- A pair realises its term where it is regular and its children realise theirs.
abbrev pub BothCase : Type 0
BothCase =
    (types : Types) (ns : List ℕ) (a b : Type') (ss : List Split) (m n : Numbered)
    → IsKept types ns (Two (Pair a b) ss OfBoth m n) → type_of_node m ≡ a → type_of_node n ≡ b → HasLeaves m → HasLeaves n
    → RealisedIsRegular types ns (Two (Pair a b) ss OfBoth m n)
    → RealisesWired types (first_numbers ss ns (used n)) m → RealisesWired types (own_numbers ss ns n) n
    → RealisesWired types ns (Two (Pair a b) ss OfBoth m n)

-- It is regular and rests where its children are and do, with imports of any types.
abbrev pub BothIsSteady : Type 0
BothIsSteady =
    (types : Types) (ns : List ℕ) (a b : Type') (ss : List Split) (m n : Numbered)
    → IsKept types ns (Two (Pair a b) ss OfBoth m n) → type_of_node m ≡ a → type_of_node n ≡ b
    → RegularWired types (first_numbers ss ns (used n)) m → RegularWired types (own_numbers ss ns n) n
    → RegularWired types ns (Two (Pair a b) ss OfBoth m n)
