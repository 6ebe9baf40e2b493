-- Wired nodes that apply, project or read: the cases of the induction for these forms, at every type.
--
-- Read first: Cases of ground_forms (`RealisesWired`); Regular of wired; Kept and Inherited of numbers; Uses of
-- applying. What is kept of the node is enough for its children to be wired on their own.
use Rattle.std.specs.Prelude.{ℕ, List, []}
use Rattle.gos_types.specs.Types.{Type', Exp}
use Rattle.gos_check.specs.Nodes.{Numbered, One, Two, OfFst, OfSnd, OfDeref, OfApp}
use Rattle.gos_check.specs.Linearity.{used}
use Rattle.gos_compile.specs.Wiring.{Types}
use Rattle.gos_terms.specs.wired.Regular.{RegularWired}
use Rattle.gos_terms.specs.numbers.Kept.{IsKept}
use Rattle.gos_terms.specs.numbers.Inherited.{own_numbers, first_numbers}
use Rattle.gos_terms.specs.ground_forms.Cases.{RealisesWired}

-- an application
abbrev pub ApplicationCase : Type 0
ApplicationCase =
    (types : Types) (ns : List ℕ) (t : Type') (m n : Numbered)
    → IsKept types ns (Two t [] OfApp m n) → RealisesWired types (first_numbers [] ns (used n)) m → RealisesWired types (own_numbers [] ns n) n
    → RealisesWired types ns (Two t [] OfApp m n)

abbrev pub ApplicationIsRegular : Type 0
ApplicationIsRegular =
    (types : Types) (ns : List ℕ) (t : Type') (m n : Numbered)
    → IsKept types ns (Two t [] OfApp m n) → RegularWired types (first_numbers [] ns (used n)) m → RegularWired types (own_numbers [] ns n) n
    → RegularWired types ns (Two t [] OfApp m n)

-- the sides of a product
abbrev pub FirstCase : Type 0
FirstCase =
    (types : Types) (ns : List ℕ) (t : Type') (m : Numbered)
    → IsKept types ns (One t [] OfFst m) → RealisesWired types ns m → RealisesWired types ns (One t [] OfFst m)

abbrev pub SecondCase : Type 0
SecondCase =
    (types : Types) (ns : List ℕ) (t : Type') (m : Numbered)
    → IsKept types ns (One t [] OfSnd m) → RealisesWired types ns m → RealisesWired types ns (One t [] OfSnd m)

abbrev pub FirstIsRegular : Type 0
FirstIsRegular =
    (types : Types) (ns : List ℕ) (t : Type') (m : Numbered)
    → IsKept types ns (One t [] OfFst m) → RegularWired types ns m → RegularWired types ns (One t [] OfFst m)

abbrev pub SecondIsRegular : Type 0
SecondIsRegular =
    (types : Types) (ns : List ℕ) (t : Type') (m : Numbered)
    → IsKept types ns (One t [] OfSnd m) → RegularWired types ns m → RegularWired types ns (One t [] OfSnd m)

-- a variable that is read, whatever term it is
abbrev pub DerefCase : Type 0
DerefCase =
    (types : Types) (ns : List ℕ) (w : ℕ) (m : Numbered)
    → IsKept types ns (One (Exp w) [] OfDeref m) → RealisesWired types ns m → RealisesWired types ns (One (Exp w) [] OfDeref m)

abbrev pub DerefIsRegular : Type 0
DerefIsRegular =
    (types : Types) (ns : List ℕ) (w : ℕ) (m : Numbered)
    → IsKept types ns (One (Exp w) [] OfDeref m) → RegularWired types ns m → RegularWired types ns (One (Exp w) [] OfDeref m)
