-- How a plan is seen to be still: element by element, while nothing lies on a dead joint.
--
-- Read first: Core; Orderly of gos_plan.
use Rattle.std.specs.Prelude.{◌≡◌, List, [], ◌∷◌, ◌++◌, None}
use Rattle.gos_types.specs.Events.{Direction}
use Rattle.gos_plan.specs.Plans.{End, Plan}
use Rattle.gos_plan.specs.Tokens.{Tokens, Element, Does, Runs, IsIdle}
use Rattle.gos_plan.specs.Orderly.{IsOrderly}
use Rattle.gos_realises.specs.realises.Regular.{InputsKeepTurns, OutputsKeepTurns, IsRegular}
use Rattle.gos_sharing.specs.cores.Core.{Core, IsCore, IsDead, IsStill}

-- of the state before each element of a list, and of that after the last
abbrev pub AllAlong : Plan → (Tokens → Type 0) → List Element → Tokens → Type 0
AllAlong p Q [] s = Q s
AllAlong p Q (x ∷ xs) s = Q s × ((t : Tokens) → Does p x s t → AllAlong p Q xs t)

-- no token lies on a dead joint
abbrev pub IsClear : Core → Plan → Plan → Tokens → Type 0
IsClear f r c s = (a b : End) (way : Direction) → IsDead f r c a b → s.in_place way a ≡ None

-- As long as none does a list is orderly and its outputs keep turns, where the core is regular.
abbrev pub ClearIsRegular : Type 0
ClearIsRegular =
    (f : Core) (r c : Plan) (s t : Tokens) (xs : List Element)
    → IsCore f r c → IsRegular c → IsIdle r s → Runs r xs s t → InputsKeepTurns r [] xs → AllAlong r (IsClear f r c) xs s
    → IsOrderly r xs s × OutputsKeepTurns r [] xs

-- after such a list the next element puts no token on a dead joint
abbrev pub StaysClear : Core → Plan → Plan → Type 0
StaysClear f r c =
    (s t u : Tokens) (xs : List Element) (x : Element)
    → IsIdle r s → Runs r xs s t → InputsKeepTurns r [] (xs ++ (x ∷ [])) → AllAlong r (IsClear f r c) xs s → Does r x t u → IsClear f r c u

-- So it is enough to look at one element after a list that was clear so far.
abbrev pub StillByStep : Type 0
StillByStep = (f : Core) (r c : Plan) → StaysClear f r c → IsStill f r c
