-- Which build files and object files `link` doesn't reject. A law of these definitions, for all files.
--
-- Read first: Objects, Linked; Linked of gos_link.
use Rattle.std.specs.Prelude.{◌≡◌, ℕ, List, []}
use Rattle.gos_outside.specs.Files.{Files, bytes_at}
use Rattle.gos_lex.specs.Lines.{Word}
use Rattle.gos_plan.specs.Seen.{SeenPlan}
use Rattle.gos_link.specs.Linked.{IsUnlinked}
use Rattle.gos_link.specs.declared.build.Build.{Build}
use Rattle.gos_link.specs.declared.fault.LinkFault.{LinkFault}
use Rattle.gos_command.specs.declared.status.Fault.{Fault}
use Rattle.gos_tool.specs.circuits.Objects.{HoldPlans}
use Rattle.gos_tool.specs.circuits.Linked.{SaysBuild, RejectsLink}

-- The files are right for `link`: the build file says a build, the object files of its instances hold plans, and no fault of
-- linking holds for such plans. (An object file holds one plan, but for where it lies in memory.)
pub record AreRightToLink (files : Files) (own : Word) : Type 0 where
  pub build : Build
  pub plans : List SeenPlan
  pub says : SaysBuild files own build
  pub held : HoldPlans files build.instances.items plans
  pub links : (all : List SeenPlan) (fault : LinkFault) → HoldPlans files build.instances.items all → IsUnlinked build all fault → ⊥

-- files that are right for `link` are not rejected
abbrev pub LinkIsNotRejected : Type 0
LinkIsNotRejected =
    (files : Files) (own : Word) (fault : Fault) (line : List ℕ) → AreRightToLink files own → RejectsLink files own fault line → ⊥

-- and an empty build file is not right
abbrev pub EmptyIsNoBuild : Type 0
EmptyIsNoBuild = (files : Files) (own : Word) (b : Build) → bytes_at files own ≡ [] → SaysBuild files own b → ⊥
