-- Why values are no plan.
--
-- Read first: Plans, Seen.
use Rattle.std.specs.Prelude.{◌≡◌, ℕ, [], Some, take, reverse, slice_get}
use Rattle.gos_plan.specs.declared.fault.ObjectFault.{ObjectFault}
use Rattle.gos_plan.specs.declared.fault.ObjectFault.TheVariants as faults
use Rattle.gos_plan.specs.Plans.{Joint, Plan, IsRightAfter, AreRight}
use Rattle.gos_plan.specs.Seen.{SeenPlan, plan_of}

-- the joint of this number is the first that is not right
pub record IsFirstWrong (p : Plan) (index : ℕ) : Type 0 where
  pub joint : Joint
  pub stands : slice_get p.joints index ≡ Some joint
  pub before : AreRight p [] (take index p.joints)
  pub wrong : IsRightAfter p (reverse (take index p.joints)) joint → ⊥

-- why these values make no plan; want of memory has no cause in them
abbrev pub IsFault : SeenPlan → ObjectFault → Type 0
IsFault p (faults.Joint index) = IsFirstWrong (plan_of p) index
IsFault p faults.NoMemory = Unit {0}
IsFault p fault = ⊥
