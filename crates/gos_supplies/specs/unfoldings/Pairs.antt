-- Pairs: the plan of a pair realises it where its sides realise those of the pair.
--
-- Read first: Functions; Projected of applications. A projection of a pair unfolds to that side of it.
use Rattle.std.specs.Prelude.{◌≡◌, []}
use Rattle.gos_types.specs.Types.{Type', Pair}
use Rattle.gos_model.specs.Terms.{Term, Both, Fst, Snd}
use Rattle.gos_model.specs.Typing.{Typed}
use Rattle.gos_plan.specs.Plans.{Plan}
use Rattle.gos_realises.specs.realises.Regular.{count}
use Rattle.gos_realises.specs.realises.Links.{IsJoined}
use Rattle.gos_realises.specs.realises.Wirings.{side}
use Rattle.gos_realises.specs.realises.Realises.{Suits, Realises}
use Rattle.gos_realises.specs.realises.Modules.{RealisesOpen}
use Rattle.gos_supplies.specs.unfoldings.Functions.{SuitsOpen}

-- A plan that realises a side of a pair realises the projection that unfolds to it, where the projection has the type.
abbrev pub FirstOfBothIsRealised : Type 0
FirstOfBothIsRealised =
    (a : Type') (r : Plan) (m n : Term) → Typed r.imports [] (Fst (Both m n)) a → Realises a r m → Realises a r (Fst (Both m n))

abbrev pub SecondOfBothIsRealised : Type 0
SecondOfBothIsRealised =
    (b : Type') (r : Plan) (m n : Term) → Typed r.imports [] (Snd (Both m n)) b → Realises b r n → Realises b r (Snd (Both m n))

-- So a plan that suits a pair realises it where what is joined for each side realises the term of that side.
abbrev pub BothIsRealised : Type 0
BothIsRealised =
    (a b : Type') (p : Plan) (m n : Term)
    → Suits (Pair a b) p (Both m n) → ((r : Plan) → IsJoined (side 0 a p) r → Realises a r m)
    → ((r : Plan) → IsJoined (side (count a) b p) r → Realises b r n) → Realises (Pair a b) p (Both m n)

-- The same with any supplies, where s and t are the sides of the plan p.
abbrev pub BothIsOpen : Type 0
BothIsOpen =
    (a b : Type') (p s t : Plan) (m n : Term)
    → p.outcome ≡ Pair a b → IsJoined (side 0 a p) s → IsJoined (side (count a) b p) t → RealisesOpen s m → RealisesOpen t n
    → SuitsOpen p (Both m n) → RealisesOpen p (Both m n)
