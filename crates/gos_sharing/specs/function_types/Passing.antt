-- A plan behind a Share of which one caller alone is joined realises what it realises without, at the types of functions too.
--
-- Read first: Realised; Behind of behind; Joints of ground_types, which has ground types.
use Rattle.std.specs.Prelude.{ℕ, ◌<◌}
use Rattle.gos_types.specs.Types.{Type', Com, Exp, Var, Pair, Fun}
use Rattle.gos_model.specs.Terms.{Term}
use Rattle.gos_plan.specs.Plans.{Plan}
use Rattle.gos_realises.specs.realises.Realises.{Realises}
use Rattle.gos_sharing.specs.behind.Behind.{passing}

-- a type in which no pair stands
abbrev pub WithoutPairs : Type' → Type 0
WithoutPairs Com = Unit {0}
WithoutPairs (Exp w) = Unit {0}
WithoutPairs (Var w) = Unit {0}
WithoutPairs (Pair a b) = ⊥
WithoutPairs (Fun a b) = WithoutPairs a × WithoutPairs b

-- The plan realises the same behind either caller of a Share.
abbrev pub PassingIsRealised : Type 0
PassingIsRealised =
    (t : Type') (c : ℕ) (p : Plan) (m : Term) → c < 2 → WithoutPairs t → Realises t p m → Realises t (passing t c p) m

-- a type of functions on functions is such a type; one of functions on pairs is none
abbrev pub FunctionsAreWithout : Type 0
FunctionsAreWithout = WithoutPairs (Fun (Fun Com (Exp 8)) (Var 8))

abbrev pub PairsAreNot : Type 0
PairsAreNot = WithoutPairs (Fun (Pair Com Com) Com) → ⊥
