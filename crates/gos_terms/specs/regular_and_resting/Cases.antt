-- Wired nodes that are regular and rest, form by form, where their children do.
--
-- Read first: Regular of wired; Frames and Blocks of regions.
use Rattle.std.specs.Prelude.{◌≡◌, ℕ, List, [], ◌∷◌, ◌++◌}
use Rattle.gos_types.specs.Types.{Type', Com, Var, IsDone}
use Rattle.gos_model.specs.Typing.{array_type}
use Rattle.gos_check.specs.Nodes.{Numbered, Under, Two, OfNew, OfArray, OfPar, type_of_node}
use Rattle.gos_compile.specs.Wiring.{Types}
use Rattle.gos_terms.specs.wired.Regular.{RegularWired}
use Rattle.gos_terms.specs.regions.Frames.{AreParted}
use Rattle.gos_terms.specs.regions.Blocks.{IsBound}

-- both sides of `||`, which share nothing
abbrev pub ParallelIsSteady : Type 0
ParallelIsSteady =
    (types : Types) (ns ms ks : List ℕ) (m n : Numbered)
    → AreParted m n ns ms ks → type_of_node m ≡ Com → type_of_node n ≡ Com → RegularWired types ms m → RegularWired types ks n
    → RegularWired types ns (Two Com [] OfPar m n)

-- a block, whose body may use the bound number too
abbrev pub BlockIsSteady : Type 0
BlockIsSteady =
    (types : Types) (ns : List ℕ) (t : Type') (w n : ℕ) (m : Numbered)
    → IsDone t → type_of_node m ≡ t → types n ≡ Var w → IsBound n m ns → RegularWired types (ns ++ n ∷ []) m
    → RegularWired types ns (Under t [] (OfNew w) n m)

-- and a block with an array
abbrev pub ArrayBlockIsSteady : Type 0
ArrayBlockIsSteady =
    (types : Types) (ns : List ℕ) (t : Type') (k w n : ℕ) (m : Numbered)
    → IsDone t → type_of_node m ≡ t → types n ≡ array_type k w → IsBound n m ns → RegularWired types (ns ++ n ∷ []) m
    → RegularWired types ns (Under t [] (OfArray k w) n m)
