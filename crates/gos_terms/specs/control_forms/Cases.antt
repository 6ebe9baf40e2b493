-- A wired node that runs its parts one at a time realises its term: the cases of the induction, form by form.
--
-- Read first: Cases of ground_forms; Inherited of numbers. Each part has the numbers that it inherits, and realises its term however it
-- is wired to supplies for these.
use Rattle.std.specs.Prelude.{ℕ, List, ◌++◌}
use Rattle.gos_types.specs.Types.{Type'}
use Rattle.gos_model.specs.Terms.{Op}
use Rattle.gos_check.specs.declared.linear.Split.{Split}
use Rattle.gos_check.specs.Nodes.{Numbered, One, Two, If, OfNot, OfSeq, OfWhile, OfBin}
use Rattle.gos_check.specs.Linearity.{used}
use Rattle.gos_compile.specs.Wiring.{Types}
use Rattle.gos_terms.specs.meanings.Meanings.{HasLeaves}
use Rattle.gos_terms.specs.ground_forms.Cases.{RealisesWired}
use Rattle.gos_terms.specs.numbers.Kept.{IsKept}
use Rattle.gos_terms.specs.numbers.Inherited.{own_numbers, first_numbers}

-- `m ; n`
abbrev pub SequenceCase : Type 0
SequenceCase =
    (types : Types) (ns : List ℕ) (t : Type') (ss : List Split) (m n : Numbered)
    → IsKept types ns (Two t ss OfSeq m n) → HasLeaves m → HasLeaves n
    → RealisesWired types (first_numbers ss ns (used n)) m → RealisesWired types (own_numbers ss ns n) n
    → RealisesWired types ns (Two t ss OfSeq m n)

-- `if m then n else p`
abbrev pub ChoiceCase : Type 0
ChoiceCase =
    (types : Types) (ns : List ℕ) (t : Type') (ss : List Split) (m n p : Numbered)
    → IsKept types ns (If t ss m n p) → HasLeaves m → HasLeaves n → HasLeaves p
    → RealisesWired types (first_numbers ss ns (used n ++ used p)) m → RealisesWired types (own_numbers ss ns n) n
    → RealisesWired types (own_numbers ss ns p) p → RealisesWired types ns (If t ss m n p)

-- `while m do n`
abbrev pub LoopCase : Type 0
LoopCase =
    (types : Types) (ns : List ℕ) (t : Type') (ss : List Split) (m n : Numbered)
    → IsKept types ns (Two t ss OfWhile m n) → HasLeaves m → HasLeaves n
    → RealisesWired types (first_numbers ss ns (used n)) m → RealisesWired types (own_numbers ss ns n) n
    → RealisesWired types ns (Two t ss OfWhile m n)

-- an operator of two operands
abbrev pub OperatorCase : Type 0
OperatorCase =
    (types : Types) (ns : List ℕ) (t : Type') (ss : List Split) (op : Op) (m n : Numbered)
    → IsKept types ns (Two t ss (OfBin op) m n) → HasLeaves m → HasLeaves n
    → RealisesWired types (first_numbers ss ns (used n)) m → RealisesWired types (own_numbers ss ns n) n
    → RealisesWired types ns (Two t ss (OfBin op) m n)

-- `not m`
abbrev pub ComplementCase : Type 0
ComplementCase =
    (types : Types) (ns : List ℕ) (t : Type') (ss : List Split) (m : Numbered)
    → IsKept types ns (One t ss OfNot m) → HasLeaves m → RealisesWired types ns m → RealisesWired types ns (One t ss OfNot m)
