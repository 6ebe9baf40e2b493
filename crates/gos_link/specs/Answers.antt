-- That a build file is one build, and that a build has one answer.
--
-- Read first: BuildFile, Linked. Laws of these definitions, for all texts and all plans.
use Rattle.std.specs.Prelude.{◌≡◌, ◌≤◌, ◌+◌, ℕ, List, [], ◌∷◌, None, length}
use Rattle.gos_types.specs.Types.{Type', type_of}
use Rattle.gos_plan.specs.Plans.{Plan, IsRight}
use Rattle.gos_plan.specs.Seen.{SeenPlan}
use Rattle.gos_plan.specs.Joining.{IsJoining}
use Rattle.gos_link.specs.declared.build.Build.{Build}
use Rattle.gos_link.specs.declared.services.Service.{Service}
use Rattle.gos_link.specs.declared.fault.LinkFault.{LinkFault}
use Rattle.gos_link.specs.declared.fault.LinkFault.TheVariants as faults
use Rattle.gos_link.specs.BuildFile.{whole, IsBuildFile, IsFirstWrong}
use Rattle.gos_link.specs.Services.{BindsOn}
use Rattle.gos_link.specs.Linked.{plans_of, whole_of, IsPlaced, IsLinked, IsUnlinked}

-- a text is one build: two builds of which it is the text say the same
abbrev pub IsOneBuild : Type 0
IsOneBuild = (text own : List ℕ) (b other : Build) → IsBuildFile text own b → IsBuildFile text own other → whole b ≡ whole other

-- it has one first wrong line, and where it is a build it has none
abbrev pub HasOneWrongLine : Type 0
HasOneWrongLine = (text own : List ℕ) (line other : ℕ) → IsFirstWrong text own line → IsFirstWrong text own other → line ≡ other

abbrev pub BuildHasNoWrongLine : Type 0
BuildHasNoWrongLine = (text own : List ℕ) (b : Build) (line : ℕ) → IsBuildFile text own b → IsFirstWrong text own line → ⊥

-- there is a plan for each instance, and each is right
abbrev pub EachRight : List Plan → Type 0
EachRight [] = Unit {0}
EachRight (p ∷ ps) = IsRight p × EachRight ps

pub record ArePlansOf (b : Build) (ps : List SeenPlan) : Type 0 where
  pub each : length ps ≡ length b.instances.items
  pub right : EachRight (plans_of ps)

-- two faults are one; types are compared as types
abbrev pub IsDifference : ℕ → Type' → Type' → LinkFault → Type 0
IsDifference line want got (faults.TypeDiffers other wanted found) = (line ≡ other) × (want ≡ type_of wanted) × (got ≡ type_of found)
IsDifference line want got other = ⊥

abbrev pub IsSameFault : LinkFault → LinkFault → Type 0
IsSameFault (faults.TypeDiffers line want got) other = IsDifference line (type_of want) (type_of got) other
IsSameFault fault other = fault ≡ other

-- A build has one linked plan at most, or one fault, and not both. Plans that are seen as one may have their types in other places
-- of memory.
abbrev pub LinkedIsOne : Type 0
LinkedIsOne =
    (b : Build) (ps qs : List SeenPlan) (p q : Plan) → plans_of ps ≡ plans_of qs → IsLinked b ps p → IsLinked b qs q → p ≡ q

abbrev pub HasOneFault : Type 0
HasOneFault = (b : Build) (ps : List SeenPlan) (fault other : LinkFault) → IsUnlinked b ps fault → IsUnlinked b ps other → IsSameFault fault other

abbrev pub LinkedHasNoFault : Type 0
LinkedHasNoFault = (b : Build) (ps : List SeenPlan) (p : Plan) (fault : LinkFault) → IsLinked b ps p → IsUnlinked b ps fault → ⊥

-- how many joints plans have together
abbrev pub all_joints : List Plan → ℕ
all_joints [] = 0
all_joints (p ∷ ps) = length p.joints + all_joints ps

-- The joining of a build's plans has no more joints than these have together.
abbrev pub JointsAreFew : Type 0
JointsAreFew =
    (b : Build) (ps : List SeenPlan) (ss : List Service) (root : ℕ) (p : Plan) → ArePlansOf b ps → BindsOn b.instances.items ps [] b.binds.items ss None
    → IsPlaced b ss root → IsJoining (whole_of ps ss root) p → length p.joints ≤ all_joints (plans_of ps)
