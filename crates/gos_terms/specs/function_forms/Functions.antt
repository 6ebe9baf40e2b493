-- Wired nodes of functions.
--
-- Read first: Bodies, Cases; Cases of ground_forms (`RealisesWired`); Kept of numbers.
use Rattle.std.specs.Prelude.{ℕ, List, [], ◌∷◌, ◌++◌, All}
use Rattle.gos_types.specs.Types.{Type'}
use Rattle.gos_check.specs.Nodes.{Numbered, Under, OfFun}
use Rattle.gos_plan.specs.Plans.{Plan}
use Rattle.gos_plan.specs.TokenBits.{LiteralFits}
use Rattle.gos_realises.specs.realises.Regular.{IsRegular}
use Rattle.gos_realises.specs.realises.Realises.{NamesDiffer}
use Rattle.gos_compile.specs.Wiring.{Types}
use Rattle.gos_terms.specs.wired.Wired.{Supplies, Placing, IsWired, AreRealised}
use Rattle.gos_terms.specs.wired.Regular.{RegularWired}
use Rattle.gos_terms.specs.numbers.Kept.{IsKept}
use Rattle.gos_terms.specs.ground_forms.Cases.{RealisesWired}

-- A function, whose body may use the bound number too, realises its term where it is regular and the body realises its own. With
-- an argument for the number the body does what its use unfolds to.
abbrev pub FunctionCase : Type 0
FunctionCase =
    (types : Types) (ns : List ℕ) (t : Type') (n : ℕ) (m : Numbered)
    → IsKept types ns (Under t [] OfFun n m)
    → ((i j : ℕ) (env : Supplies) (pl : Placing) (r : Plan)
    → IsWired types i j (Under t [] OfFun n m) ns env pl r → AreRealised types env ns → NamesDiffer r.imports → All LiteralFits r.parts → IsRegular r)
    → RealisesWired types (ns ++ n ∷ []) m → RealisesWired types ns (Under t [] OfFun n m)

-- It is regular and rests where the body is and does: with a name for the number it is that body's plan.
abbrev pub FunctionNodeIsRegular : Type 0
FunctionNodeIsRegular =
    (types : Types) (ns : List ℕ) (t : Type') (n : ℕ) (m : Numbered)
    → IsKept types ns (Under t [] OfFun n m) → RegularWired types (ns ++ n ∷ []) m → RegularWired types ns (Under t [] OfFun n m)
