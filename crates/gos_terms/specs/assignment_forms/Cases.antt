-- A wired assignment realises its term, whatever node its left part is, and is regular and rests: the cases of the induction.
--
-- Read first: Cases of ground_forms; Regular of wired; Kept and Inherited of numbers.
use Rattle.std.specs.Prelude.{◌≡◌, ℕ, List}
use Rattle.gos_types.specs.Types.{Com, Exp, Var}
use Rattle.gos_check.specs.declared.linear.Split.{Split}
use Rattle.gos_check.specs.Nodes.{Numbered, Two, OfAssign, type_of_node}
use Rattle.gos_check.specs.Linearity.{used}
use Rattle.gos_compile.specs.Wiring.{Types}
use Rattle.gos_terms.specs.wired.Regular.{RegularWired}
use Rattle.gos_terms.specs.meanings.Meanings.{HasLeaves}
use Rattle.gos_terms.specs.ground_forms.Cases.{RealisesWired}
use Rattle.gos_terms.specs.numbers.Kept.{IsKept}
use Rattle.gos_terms.specs.numbers.Inherited.{first_numbers, own_numbers}

-- `M := N`, where M is any node of a variable and N one of an expression of its width
abbrev pub AnyAssignCase : Type 0
AnyAssignCase =
    (types : Types) (ns : List ℕ) (ss : List Split) (w : ℕ) (m n : Numbered)
    → IsKept types ns (Two Com ss OfAssign m n) → type_of_node m ≡ Var w → type_of_node n ≡ Exp w → HasLeaves m → HasLeaves n
    → RealisesWired types (first_numbers ss ns (used n)) m → RealisesWired types (own_numbers ss ns n) n
    → RealisesWired types ns (Two Com ss OfAssign m n)

-- It is regular and rests where both sides are and do, with imports of any types.
abbrev pub AnyAssignIsSteady : Type 0
AnyAssignIsSteady =
    (types : Types) (ns : List ℕ) (ss : List Split) (w : ℕ) (m n : Numbered)
    → IsKept types ns (Two Com ss OfAssign m n) → type_of_node m ≡ Var w → type_of_node n ≡ Exp w
    → RegularWired types (first_numbers ss ns (used n)) m → RegularWired types (own_numbers ss ns n) n
    → RegularWired types ns (Two Com ss OfAssign m n)
