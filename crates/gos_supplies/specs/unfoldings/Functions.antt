-- Functions: the plan of a function realises it, with any supplies, where the plan of its body realises the body.
--
-- Read first: Heads; Opened of applications. The use of the function unfolds to the body with the argument in it.
use Rattle.std.specs.Prelude.{List, [], ◌∷◌}
use Rattle.gos_model.specs.Terms.{Term, Import, Lam}
use Rattle.gos_model.specs.Typing.{Imported, Typed}
use Rattle.gos_model.specs.Substitution.{instantiate}
use Rattle.gos_model.specs.Linking.{supplied}
use Rattle.gos_plan.specs.Plans.{Plan}
use Rattle.gos_realises.specs.realises.Links.{IsJoined}
use Rattle.gos_realises.specs.realises.Realises.{NamesDiffer, Suits}
use Rattle.gos_realises.specs.realises.Modules.{Supply, AreSupplied, supplying, term_for, RealisesOpen}
use Rattle.gos_supplies.specs.applications.Opened.{IsFunctionOf}

-- with any supplies the plan suits the term with theirs
abbrev pub SuitsOpen : Plan → Term → Type 0
SuitsOpen p m =
    (ss : List Supply) (r : Plan)
    → AreSupplied p.imports ss → IsJoined (supplying p ss) r → NamesDiffer r.imports
    → Suits p.outcome r (supplied (term_for p.imports ss) m)

-- The plan p of a function realises it where it suits it, and the plan q of the body, whose last import is the argument,
-- realises the body with that import for the bound variable.
abbrev pub FunctionIsRealised : Type 0
FunctionIsRealised =
    (x : Imported) (p q : Plan) (n : Term)
    → IsFunctionOf x p q → NamesDiffer q.imports → Typed p.imports (x.ty ∷ []) n q.outcome
    → RealisesOpen q (instantiate n (Import x.name)) → SuitsOpen p (Lam x.ty n) → RealisesOpen p (Lam x.ty n)
