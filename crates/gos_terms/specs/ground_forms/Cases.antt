-- A wired node realises its term: the cases of the induction, form by form.
--
-- Read first: Wired of wired; Frames and Blocks of regions; Leaves of leaves; Kept of numbers (`InScope`).
use Rattle.std.specs.Prelude.{◌≡◌, ℕ, List, [], ◌∷◌, ◌++◌, All, Contains}
use Rattle.gos_types.specs.Types.{Type', Com, Exp, Var, IsDone}
use Rattle.gos_model.specs.Terms as terms
use Rattle.gos_model.specs.Typing.{Typed, array_type}
use Rattle.gos_check.specs.Nodes.{Numbered, Closed, Use, Under, Two, OfNew, OfArray, OfPar, meaning, type_of_node}
use Rattle.gos_plan.specs.Plans.{Plan}
use Rattle.gos_plan.specs.TokenBits.{LiteralFits}
use Rattle.gos_realises.specs.realises.Realises.{NamesDiffer, Realises}
use Rattle.gos_compile.specs.Wiring.{Types}
use Rattle.gos_terms.specs.wired.Wired.{Supplies, Placing, IsWired, AreRealised, terms_of}
use Rattle.gos_terms.specs.regions.Frames.{AreParted}
use Rattle.gos_terms.specs.regions.Blocks.{IsBound}
use Rattle.gos_terms.specs.meanings.Meanings.{HasLeaves}
use Rattle.gos_terms.specs.numbers.Kept.{InScope}

-- However a node is wired to supplies for these numbers, which realise their terms at any types, its plan realises its
-- term with these. The literals of all parts fit their widths.
abbrev pub RealisesWired : Types → List ℕ → Numbered → Type 0
RealisesWired types ns m =
    (i j : ℕ) (env : Supplies) (pl : Placing) (r : Plan)
    → IsWired types i j m ns env pl r → AreRealised types env ns → NamesDiffer r.imports → All LiteralFits r.parts
    → Typed r.imports [] (meaning (terms_of env) m) (type_of_node m) → Realises (type_of_node m) r (meaning (terms_of env) m)

-- a number that is used
abbrev pub UseCase : Type 0
UseCase = (types : Types) (ns : List ℕ) (n : ℕ) (t : Type') → Contains ns n → t ≡ types n → RealisesWired types ns (Use t [] n)

-- `skip`, and a literal
abbrev pub SkipCase : Type 0
SkipCase = (types : Types) (ns : List ℕ) → RealisesWired types ns (Closed Com [] terms.Skip)

abbrev pub LiteralCase : Type 0
LiteralCase = (types : Types) (ns : List ℕ) (w k : ℕ) → RealisesWired types ns (Closed (Exp w) [] (terms.Lit k w))

-- both sides of `||`
abbrev pub ParallelCase : Type 0
ParallelCase =
    (types : Types) (ns ms ks : List ℕ) (m n : Numbered)
    → AreParted m n ns ms ks → type_of_node m ≡ Com → type_of_node n ≡ Com → HasLeaves m → HasLeaves n → InScope ms m → InScope ks n
    → RealisesWired types ms m → RealisesWired types ks n → RealisesWired types ns (Two Com [] OfPar m n)

-- a block, whose body may use the bound number too
abbrev pub BlockCase : Type 0
BlockCase =
    (types : Types) (ns : List ℕ) (t : Type') (w n : ℕ) (m : Numbered)
    → IsDone t → type_of_node m ≡ t → types n ≡ Var w → IsBound n m ns → HasLeaves m → InScope (ns ++ n ∷ []) m
    → RealisesWired types (ns ++ n ∷ []) m → RealisesWired types ns (Under t [] (OfNew w) n m)

-- a block with an array of k numbers, whose body may use the bound number too
abbrev pub ArrayBlockCase : Type 0
ArrayBlockCase =
    (types : Types) (ns : List ℕ) (t : Type') (k w n : ℕ) (m : Numbered)
    → IsDone t → type_of_node m ≡ t → types n ≡ array_type k w → IsBound n m ns → HasLeaves m → InScope (ns ++ n ∷ []) m
    → RealisesWired types (ns ++ n ∷ []) m → RealisesWired types ns (Under t [] (OfArray k w) n m)
