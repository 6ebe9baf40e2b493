-- A node that applies, projects or reads realises its term, if its children, wired to their supplies, realise theirs.
--
-- Read first: Uses; Realises of gos_realises. These are the cases of the induction on a term for these forms.
use Rattle.std.specs.Prelude.{ℕ, List}
use Rattle.gos_types.specs.Types.{Type', Exp, Var, Pair, Fun}
use Rattle.gos_model.specs.Terms.{Term, App, Fst, Snd, Deref}
use Rattle.gos_check.specs.Nodes.{Numbered, type_of_node}
use Rattle.gos_plan.specs.Plans.{Plan}
use Rattle.gos_realises.specs.realises.Regular.{count}
use Rattle.gos_realises.specs.realises.Realises.{NamesDiffer, Realises}
use Rattle.gos_compile.specs.Wiring.{Types}
use Rattle.gos_terms.specs.wired.Wired.{Supplies}
use Rattle.gos_terms.specs.applying.Uses.{IsSide, IsReading, IsApplied}

abbrev pub FirstIsRealised : Type 0
FirstIsRealised =
    (t u : Type') (types : Types) (i j : ℕ) (m : Numbered) (ns : List ℕ) (env : Supplies) (r : Plan) (x : Term)
    (is : IsSide 0 t types i j m ns env r) → Realises (Pair t u) is.child x → Realises t r (Fst x)

abbrev pub SecondIsRealised : Type 0
SecondIsRealised =
    (t u : Type') (types : Types) (i j : ℕ) (m : Numbered) (ns : List ℕ) (env : Supplies) (r : Plan) (x : Term)
    (is : IsSide (count t) u types i j m ns env r) → Realises (Pair t u) is.child x → Realises u r (Snd x)

abbrev pub DerefIsRealised : Type 0
DerefIsRealised =
    (w : ℕ) (types : Types) (i j : ℕ) (m : Numbered) (ns : List ℕ) (env : Supplies) (r : Plan) (x : Term) (is : IsReading w types i j m ns env r)
    → Realises (Var w) is.child x → Realises (Exp w) r (Deref x)

-- The names of all imports differ, so those of the function and of the argument do.
abbrev pub ApplicationIsRealised : Type 0
ApplicationIsRealised =
    (t : Type') (types : Types) (i j : ℕ) (m n : Numbered) (ms ks : List ℕ) (env : Supplies) (r : Plan) (x y : Term)
    (is : IsApplied t types i j m n ms ks env r)
    → NamesDiffer r.imports → Realises (Fun (type_of_node n) t) is.function x → Realises (type_of_node n) is.argument y → Realises t r (App x y)
