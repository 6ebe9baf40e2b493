-- The plan that makes a pair of two arguments, and a pair of two plans.
--
-- Read first: Composed. As a function of both sides it is a plan without parts: it joins each argument to its side of the result,
-- handshake by handshake. Joined to two plans it gives the plan of their pair.
use Rattle.std.specs.Prelude.{◌≡◌, ℕ, ◌+◌, [], Some, All, Contains, slice_get}
use Rattle.gos_types.specs.declared.shakes.Role.TheVariants.{Serve, Ask}
use Rattle.gos_types.specs.Types.{Type', Pair, Fun}
use Rattle.gos_plan.specs.Kinds.{Contact, contacts_of}
use Rattle.gos_plan.specs.Plans.{ResultEnd, Plan, IsRight}
use Rattle.gos_plan.specs.TokenBits.{LiteralFits}
use Rattle.gos_realises.specs.realises.Regular.{count, IsRegular}
use Rattle.gos_realises.specs.realises.Links.{IsJoined}
use Rattle.gos_realises.specs.realises.Wirings.{applying}
use Rattle.gos_joining.specs.webs.Webs.{joint}

pub record IsPairPlan (a b : Type') (p : Plan) : Type 0 where
  pub right : IsRight p
  pub imports : p.imports ≡ []
  pub outcome : p.outcome ≡ Fun a (Fun b (Pair a b))
  pub parts : p.parts ≡ []
  pub serving :
      (h : ℕ) (c : Contact) → slice_get (contacts_of (Pair a b)) h ≡ Some c → c.role ≡ Serve
      → Contains p.joints (joint (ResultEnd (count a + (count b + h))) (ResultEnd h))
  pub asking :
      (h : ℕ) (c : Contact) → slice_get (contacts_of (Pair a b)) h ≡ Some c → c.role ≡ Ask
      → Contains p.joints (joint (ResultEnd h) (ResultEnd (count a + (count b + h))))

-- it is regular
abbrev pub PairPlanIsRegular : Type 0
PairPlanIsRegular = (a b : Type') (p : Plan) → IsPairPlan a b p → IsRegular p

-- and there is one
abbrev pub PairPlanIsThere : Type 0
PairPlanIsThere = (a b : Type') → (p : Plan) × IsPairPlan a b p

-- The pair of two regular plans is regular, with imports of any types
abbrev pub PairIsRegular : Type 0
PairIsRegular =
    (a b : Type') (e p q s r : Plan)
    → IsPairPlan a b e → p.outcome ≡ a → q.outcome ≡ b → All LiteralFits p.parts → All LiteralFits q.parts → IsRegular p → IsRegular q
    → IsJoined (applying a (Fun b (Pair a b)) e p) s → IsJoined (applying b (Pair a b) s q) r → IsRegular r
