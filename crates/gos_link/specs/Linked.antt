-- What a build's linked plan is, and why a build is not linked.
--
-- Read first: Services, Order; Joining of gos_plan. The linked plan is the joining of the instances' plans along the imports that
-- are served, and its joints stand in the order of these plans.
use Rattle.std.specs.Prelude.{◌≡◌, ◌≢◌, ◌<◌, ◌≤◌, ◌+◌, ◌⊎◌, ◌||◌, ℕ, zero, suc, Bool, true, false, List, [], ◌∷◌, ◌++◌, Option, Some, None, length, map, slice_get, nat_eq, if◌then◌else◌}
use Rattle.gos_types.specs.Types.{Type', Com, IsGround, IsDone}
use Rattle.gos_lex.specs.Lines.{Word}
use Rattle.gos_model.specs.Typing.{Imported}
use Rattle.gos_plan.specs.Plans.{ImportEnd, ResultEnd, Plan, contacts_of_import}
use Rattle.gos_plan.specs.Seen.{SeenPlan, plan_of}
use Rattle.gos_plan.specs.ObjectText.{IsSmallPlan}
use Rattle.gos_plan.specs.Size.{plan_size}
use Rattle.gos_plan.specs.Joining.{Link, place, Wiring, LeftImport, all_left, all_weight, IsJoining}
use Rattle.gos_link.specs.declared.build.Instance.{Instance}
use Rattle.gos_link.specs.declared.build.Build.{Build}
use Rattle.gos_link.specs.declared.services.Service.{Service}
use Rattle.gos_link.specs.declared.fault.LinkFault.{LinkFault}
use Rattle.gos_link.specs.declared.fault.LinkFault.TheVariants as faults
use Rattle.gos_link.specs.Services.{instance_named, first_used, BindsOn}
use Rattle.gos_link.specs.Order.{AreInOrder}

-- a plan within the limits of an object file
pub record KeepsLimits (p : Plan) : Type 0 where
  pub light : p.weight ≤ 8192
  pub small : IsSmallPlan p

abbrev pub AllKeepLimits : List Plan → Type 0
AllKeepLimits [] = Unit {0}
AllKeepLimits (p ∷ ps) = KeepsLimits p × AllKeepLimits ps

-- the imports of a plan that there is, or of none
abbrev pub imports_of : Option Plan → List Imported
imports_of None = []
imports_of (Some p) = p.imports

-- how many handshakes a served import has
abbrev pub shakes_at : List Plan → Service → ℕ
shakes_at ps s = length (contacts_of_import (slice_get (imports_of (slice_get ps s.user)) s.import))

-- n handshakes of a served import, from h on, are those of the giver's result
abbrev pub link_at : Service → ℕ → Link
link_at s h = record { one = place s.user (ImportEnd s.import h); other = place s.giver (ResultEnd h) }

abbrev pub links_from : Service → ℕ → ℕ → List Link
links_from s h zero = []
links_from s h (suc n) = link_at s h ∷ links_from s (suc h) n

abbrev pub links_of : List Plan → List Service → List Link
links_of ps [] = []
links_of ps (s ∷ ss) = links_from s 0 (shakes_at ps s) ++ links_of ps ss

-- the type of the result of a plan that there is, or a command
abbrev pub outcome_of : Option Plan → Type'
outcome_of None = Com
outcome_of (Some p) = p.outcome

-- plans that are joined along the services; the result is that of plan `root`
abbrev pub wiring_of : List Plan → List Service → ℕ → Wiring
wiring_of ps ss root =
    record { plans = ps; links = links_of ps ss; giver = root; skipped = 0; outcome = outcome_of (slice_get ps root) }

-- the plans of instances, and how they are joined
abbrev pub plans_of : List SeenPlan → List Plan
plans_of ps = map plan_of ps

abbrev pub whole_of : List SeenPlan → List Service → ℕ → Wiring
whole_of ps ss root = wiring_of (plans_of ps) ss root

-- What `link` takes: a plan for each instance, within the limits of an object file; and no more instances and bind lines than a
-- build file has.
pub record IsLinkable (b : Build) (ps : List SeenPlan) : Type 0 where
  pub each : length ps ≡ length b.instances.items
  pub limits : AllKeepLimits (plans_of ps)
  pub few_instances : length b.instances.items ≤ 65536
  pub few_binds : length b.binds.items ≤ 65536

-- the instances that the imports which stay belong to, and their names: the ports besides the root's
pub record Port : Type 0 where
  pub name : Word
  pub instance : Word

abbrev pub name_of : Option Instance → Word
name_of None = []
name_of (Some i) = i.name

abbrev pub port_of : List Instance → LeftImport → Port
port_of is l = record { name = l.import.name; instance = name_of (slice_get is l.plan) }

abbrev pub ports_of : Build → Wiring → List Port
ports_of b w = record { name = b.root; instance = b.root } ∷ map (port_of b.instances.items) (all_left w)

-- the first n ports have different names
abbrev pub AreDifferent : ℕ → List Port → Type 0
AreDifferent n ports =
    (i j : ℕ) (p q : Port) → i < j → j < n → slice_get ports i ≡ Some p → slice_get ports j ≡ Some q → p.name ≢ q.name

-- the first port whose name one before it has is the other, and that one is the one
pub record IsSecond (ports : List Port) (one other : Port) : Type 0 where
  pub first : ℕ
  pub second : ℕ
  pub before : first < second
  pub at_first : slice_get ports first ≡ Some one
  pub at_second : slice_get ports second ≡ Some other
  pub same : one.name ≡ other.name
  pub different : AreDifferent second ports

-- the types of the first n imports are ground
abbrev pub AreGround : ℕ → List LeftImport → Type 0
AreGround n imports = (i : ℕ) (l : LeftImport) → i < n → slice_get imports i ≡ Some l → IsGround l.import.ty

-- the first import whose type isn't ground
pub record IsFirstHigher (imports : List LeftImport) (l : LeftImport) : Type 0 where
  pub number : ℕ
  pub at : slice_get imports number ≡ Some l
  pub ground : AreGround number imports
  pub higher : IsGround l.import.ty → ⊥

-- whether an instance is the root or serves an import
abbrev pub is_used : Option ℕ → Bool
is_used None = false
is_used (Some line) = true

abbrev pub is_placed : ℕ → List Service → ℕ → Bool
is_placed root ss k = nat_eq k root || is_used (first_used ss k)

-- the name of the first, of which the first has number k, that does neither
abbrev pub first_unplaced : ℕ → List Service → ℕ → List Instance → Option Word
first_unplaced root ss k [] = None
first_unplaced root ss k (i ∷ is) = if is_placed root ss k then first_unplaced root ss (k + 1) is else Some i.name

-- what stands behind the lines, in the order in which it is asked for
pub record IsPlaced (b : Build) (ss : List Service) (root : ℕ) : Type 0 where
  pub finds_root : instance_named b.instances.items b.root ≡ Some root
  pub placed : first_unplaced root ss 0 b.instances.items ≡ None

pub record IsNamed (b : Build) (ps : List SeenPlan) (ss : List Service) (root : ℕ) : Type 0 where
  pub placed : IsPlaced b ss root
  pub names : AreDifferent (length (ports_of b (whole_of ps ss root))) (ports_of b (whole_of ps ss root))

pub record IsGrounded (b : Build) (ps : List SeenPlan) (ss : List Service) (root : ℕ) : Type 0 where
  pub named : IsNamed b ps ss root
  pub result : IsDone (outcome_of (slice_get (plans_of ps) root))
  pub imports : AreGround (length (all_left (whole_of ps ss root))) (all_left (whole_of ps ss root))

pub record IsLight (b : Build) (ps : List SeenPlan) (ss : List Service) (root : ℕ) : Type 0 where
  pub grounded : IsGrounded b ps ss root
  pub weight : all_weight (plans_of ps) ≤ 32768

-- how many ports a plan has: one for the result, and one for each import
abbrev pub count_ports : Plan → ℕ
count_ports p = length p.imports + 1

-- the plan is the build's, linked
pub record IsLinked (b : Build) (ps : List SeenPlan) (p : Plan) : Type 0 where
  pub services : List Service
  pub root : ℕ
  pub binds : BindsOn b.instances.items ps [] b.binds.items services None
  pub light : IsLight b ps services root
  pub joining : IsJoining (whole_of ps services root) p
  pub order : AreInOrder (whole_of ps services root) p.joints
  pub small : plan_size p ≤ 5000000
  pub few : count_ports p ≤ 65536

-- why a build is not linked although its bind lines are right, and mean these services
abbrev pub IsWrongWhole : Build → List SeenPlan → List Service → LinkFault → Type 0
IsWrongWhole b ps ss (faults.NoInstance line name) =
    (line ≡ b.root_line) × (name ≡ b.root) × (instance_named b.instances.items b.root ≡ None)
IsWrongWhole b ps ss (faults.Unplaced name) =
    (root : ℕ) × (instance_named b.instances.items b.root ≡ Some root) × (first_unplaced root ss 0 b.instances.items ≡ Some name)
IsWrongWhole b ps ss (faults.OpenTwice name first second) =
    (root : ℕ) × (one other : Port) × IsPlaced b ss root × IsSecond (ports_of b (whole_of ps ss root)) one other
    × (name ≡ other.name) × (first ≡ one.instance) × (second ≡ other.instance)
IsWrongWhole b ps ss (faults.NotGround name) =
    (root : ℕ) × IsNamed b ps ss root
    × (((IsDone (outcome_of (slice_get (plans_of ps) root)) → ⊥) × (name ≡ b.root))
    ⊎ (IsDone (outcome_of (slice_get (plans_of ps) root)) × (l : LeftImport) × IsFirstHigher (all_left (whole_of ps ss root)) l × (name ≡ l.import.name)))
IsWrongWhole b ps ss (faults.TooHeavy weight) =
    (root : ℕ) × IsGrounded b ps ss root × (weight ≡ all_weight (plans_of ps)) × (32768 < weight)
IsWrongWhole b ps ss (faults.TooLarge size ports) =
    (root : ℕ) × (p : Plan) × IsLight b ps ss root × IsJoining (whole_of ps ss root) p × (size ≡ plan_size p) × (ports ≡ count_ports p)
    × ((5000000 < size) ⊎ (65536 < ports))
IsWrongWhole b ps ss fault = ⊥

-- why a build is not linked: the first wrong line, or else what is wrong of the whole
abbrev pub IsUnlinked : Build → List SeenPlan → LinkFault → Type 0
IsUnlinked b ps fault =
    ((ss : List Service) × BindsOn b.instances.items ps [] b.binds.items ss (Some fault))
    ⊎ ((ss : List Service) × BindsOn b.instances.items ps [] b.binds.items ss None × IsWrongWhole b ps ss fault)

-- what bind lines mean, and the number of the root
pub record SeenLinks : Type 0 where
  pub services : List Service
  pub root : ℕ

-- What is asked of a build before its weight: the bind lines are right and mean these services, this instance is its root, and its
-- ports are right.
pub record AreLinks (b : Build) (ps : List SeenPlan) (links : SeenLinks) : Type 0 where
  pub binds : BindsOn b.instances.items ps [] b.binds.items links.services None
  pub grounded : IsGrounded b ps links.services links.root

-- the fault is none of the weight, the size or the number of ports
abbrev pub IsOfLinks : LinkFault → Type 0
IsOfLinks (faults.TooHeavy weight) = ⊥
IsOfLinks (faults.TooLarge size ports) = ⊥
IsOfLinks fault = Unit {0}
