-- The joints of a plan, as they are found: at each point of the ties, from its far one.
--
-- Read first: Ties, Joined. Between the functions of this crate. Points have numbers: their places in a list.
use Rattle.std.specs.Prelude.{◌≡◌, ℕ, ◌≤◌, ◌⊎◌, Bool, true, false, ◌&&◌, List, [], ◌∷◌, ◌++◌, Option, Some, None, map, nat_eq, if◌then◌else◌, unwrap_or, slice_get}
use Rattle.std.specs.List.{position_or_len}
use Rattle.gos_types.specs.declared.shakes.Role.{Role}
use Rattle.gos_types.specs.declared.shakes.Role.TheVariants.{Serve, Ask}
use Rattle.gos_types.specs.declared.types.Ty.{Ty}
use Rattle.gos_plan.specs.declared.kinds.Kind.{Kind}
use Rattle.gos_plan.specs.declared.plan.PlanImport.{PlanImport}
use Rattle.gos_plan.specs.declared.plan.End as declared_end
use Rattle.gos_plan.specs.declared.plan.Joint as declared_joint
use Rattle.gos_plan.specs.Seen.{end_of, joint_of, plan_of}
use Rattle.gos_plan.specs.Kinds.{Contact}
use Rattle.gos_plan.specs.Plans.{End, Joint, Plan, contact_at}
use Rattle.gos_ties.specs.declared.points.Point.{Point}
use Rattle.gos_ties.specs.declared.points.Tie.{Tie}
use Rattle.gos_ties.specs.contracts.points.PointPartialEq.TheImpl.{eq-value}
use Rattle.gos_ties.specs.declared.joining.Bond.{Bond}
use Rattle.gos_ties.specs.declared.joints.Tables.{Tables}
use Rattle.gos_ties.specs.Ties.{joint, end_at}
use Rattle.gos_ties.specs.inner.Joined.{bond, far_at, touches, AreFar}

-- a plan with no joints yet
abbrev pub bare : List PlanImport → Ty → List Kind → Plan
bare imports outcome parts = plan_of (record { weight = 0; imports = imports; outcome = outcome; parts = parts; joints = [] })

-- the number of a point: its place among those that have one
abbrev pub code : List Point → Point → ℕ
code points p = position_or_len (eq-value.it p) points

abbrev pub bond_of : List Point → Tie → Bond
bond_of points t = bond (code points t.one) (code points t.other)

-- a point is in ties
abbrev pub IsTied : List Tie → Point → Type 0
IsTied [] p = ⊥
IsTied (t ∷ ts) p = (p ≡ t.one) ⊎ (p ≡ t.other) ⊎ IsTied ts p

-- a point stands where its number says, and so does each point in ties
abbrev pub IsNumbered : List Point → Point → Type 0
IsNumbered points p = slice_get points (code points p) ≡ Some p

abbrev pub AreNumbered : List Point → List Tie → Type 0
AreNumbered points ts = (p : Point) → IsTied ts p → IsNumbered points p

-- whether the one asks, the other serves, and their bits are equal
abbrev pub asks_there : Role → Bool
asks_there Serve = false
asks_there Ask = true

abbrev pub serves_there : Role → Bool
serves_there Serve = true
serves_there Ask = false

abbrev pub do_fit : Option Contact → Option Contact → Bool
do_fit (Some c) (Some d) =
    asks_there c.role && (serves_there d.role && (nat_eq c.ask_bits d.ask_bits && nat_eq c.answer_bits d.answer_bits))
do_fit c d = false

-- the joint of an end and its far one, if there is one
abbrev pub found_from : Plan → Option End → Option End → List Joint
found_from p (Some a) (Some b) = if do_fit (contact_at p a) (contact_at p b) then joint a b ∷ [] else []
found_from p a b = []

abbrev pub found : Plan → (Point → Point) → Point → List Joint
found p far q = found_from p (end_at q) (end_at (far q))

abbrev pub all_found : Plan → (Point → Point) → List Tie → List Joint
all_found p far [] = []
all_found p far (t ∷ ts) = found p far t.one ++ (found p far t.other ++ all_found p far ts)

-- the far point of a point, by far numbers and the points that have numbers
abbrev pub far_point : List ℕ → List Point → Point → Point
far_point far points q = unwrap_or (slice_get points (far_at far (code points q))) q

-- an end of the program that there may be
abbrev pub end_seen : Option declared_end.End → Option End
end_seen None = None
end_seen (Some e) = Some (end_of e)

-- a joint of the program that there may be
abbrev pub joints_seen : Option declared_joint.Joint → List Joint
joints_seen None = []
joints_seen (Some j) = joint_of j ∷ []

-- tables of points and of far numbers for ties
pub record AreTables (ts : List Tie) (t : Tables) : Type 0 where
  pub numbered : AreNumbered t.numbers.points.keys ts
  pub far : AreFar (map (bond_of t.numbers.points.keys) ts) (far_at t.far.items)
  pub free :
      (q : Point) (e : End) → IsTied ts q → end_at q ≡ Some e → touches (code t.numbers.points.keys q) (map (bond_of t.numbers.points.keys) ts) ≤ 1

-- the far point of a point by tables
abbrev pub far_by : Tables → Point → Point
far_by t = far_point t.far.items t.numbers.points.keys
