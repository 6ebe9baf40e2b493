-- Joinings of plans that rest do so, where they are regular.
--
-- Read first: Rests, Composed; Renumbering of gos_joining. Where nothing is open at the ports of the whole, nothing is at those of its
-- plans: an import is busy only where the result is, and what stands for an argument only where the function's outcome is.
use Rattle.std.specs.Prelude.{◌≡◌, ◌↔◌, ℕ, Some, All, slice_get}
use Rattle.gos_types.specs.Types.{Type', Pair, Fun}
use Rattle.gos_model.specs.Typing.{Imported}
use Rattle.gos_plan.specs.Plans.{Plan}
use Rattle.gos_plan.specs.TokenBits.{LiteralFits}
use Rattle.gos_realises.specs.realises.Regular.{count, IsRegular}
use Rattle.gos_realises.specs.realises.Links.{IsJoined}
use Rattle.gos_realises.specs.realises.Wirings.{side, applying}
use Rattle.gos_joining.specs.webs.Renumbering.{Renumber, IsRenumbered}
use Rattle.gos_supplies.specs.applications.Opened.{IsFunctionOf}
use Rattle.gos_supplies.specs.instances.Served.{serving}
use Rattle.gos_supplies.specs.turns.Rests.{Rests}
use Rattle.gos_supplies.specs.turns.Names.{IsNamePlan}
use Rattle.gos_supplies.specs.turns.Pairs.{IsPairPlan}

-- a plan of a function and one of its argument
abbrev pub ApplyingRests : Type 0
ApplyingRests =
    (a b : Type') (p q r : Plan)
    → p.outcome ≡ Fun a b → q.outcome ≡ a → All LiteralFits p.parts → All LiteralFits q.parts → IsRegular p → IsRegular q → Rests p → Rests q
    → IsJoined (applying a b p q) r → Rests r

-- a plan with one that serves an import of it
abbrev pub ServingRests : Type 0
ServingRests =
    (k : ℕ) (x : Imported) (p q r : Plan)
    → slice_get p.imports k ≡ Some x → q.outcome ≡ x.ty → All LiteralFits p.parts → All LiteralFits q.parts → IsRegular p → IsRegular q → Rests p → Rests q
    → IsJoined (serving k x.ty p q) r → Rests r

-- each side of a product
abbrev pub SidesRest : Type 0
SidesRest =
    (a b : Type') (p : Plan)
    → p.outcome ≡ Pair a b → All LiteralFits p.parts → IsRegular p → Rests p
    → ((r : Plan) → IsJoined (side 0 a p) r → Rests r) × ((r : Plan) → IsJoined (side (count a) b p) r → Rests r)

-- the plan of a function, where that of its body does
abbrev pub FunctionRests : Type 0
FunctionRests = (x : Imported) (p q : Plan) → IsFunctionOf x p q → Rests q ↔ Rests p

-- the plan of a name
abbrev pub NameRests : Type 0
NameRests = (x : Imported) (p : Plan) → IsNamePlan x p → Rests p

-- the plan that makes a pair of two arguments, and the pair of two plans
abbrev pub PairPlanRests : Type 0
PairPlanRests = (a b : Type') (p : Plan) → IsPairPlan a b p → Rests p

abbrev pub PairRests : Type 0
PairRests =
    (a b : Type') (e p q s r : Plan)
    → IsPairPlan a b e → p.outcome ≡ a → q.outcome ≡ b → All LiteralFits p.parts → All LiteralFits q.parts → IsRegular p → IsRegular q → Rests p → Rests q
    → IsJoined (applying a (Fun b (Pair a b)) e p) s → IsJoined (applying b (Pair a b) s q) r → Rests r

-- The numbers of parts and imports are free.
abbrev pub RenumberedRests : Type 0
RenumberedRests = (f : Renumber) (p q : Plan) → IsRenumbered f p q → Rests q → Rests p
