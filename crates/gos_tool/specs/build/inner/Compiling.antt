-- What is known while the sources of instances are compiled one after another.
use Rattle.std.specs.Prelude.{ℕ, List, [], ◌∷◌, Option}
use Rattle.gos_outside.specs.Files.{Files}
use Rattle.gos_outside.specs.OtherFiles.{IsApart}
use Rattle.gos_lex.specs.Lines.{Word}
use Rattle.gos_syntax.specs.Modules.{SeenModule}
use Rattle.gos_plan.specs.Plans.{Plan, IsRight}
use Rattle.gos_plan.specs.Seen.{SeenPlan}
use Rattle.gos_link.specs.declared.build.Instance.{Instance}
use Rattle.gos_link.specs.Linked.{plans_of}
use Rattle.gos_link.specs.Answers.{EachRight}
use Rattle.gos_realises.specs.realises.Slim.{IsSlim}
use Rattle.gos_linked.specs.fits.Fits.{AreSlim}
use Rattle.gos_tool.specs.objects.Checked.{SaysModule}
use Rattle.gos_tool.specs.objects.Compiled.{IsPlanOfModule}
use Rattle.gos_tool.specs.build.Objects.{objects_of, AreWritten}

-- the source of each of these instances is none of these files
abbrev pub EachApart : List Instance → List Word → Type 0
EachApart [] names = Unit {0}
EachApart (i ∷ is) names = IsApart i.source names × EachApart is names

-- no source of these instances is one of their objects
abbrev pub AreApart : List Instance → Type 0
AreApart is = EachApart is (objects_of is)

-- the text is that of a module with this plan
pub record IsCompiledAs (text : List ℕ) (plan : Plan) : Type 0 where
  pub made : SeenModule
  pub says : SaysModule text made
  pub compiled : IsPlanOfModule made plan

-- the plan of a source, whatever the store tells of it
pub record IsFit (plan : Plan) : Type 0 where
  pub right : IsRight plan
  pub slim : IsSlim plan

-- those of the sources
pub record AreFit (plans : List SeenPlan) : Type 0 where
  pub right : EachRight (plans_of plans)
  pub slim : AreSlim (plans_of plans)

-- the objects of the first instances were written with these plans
pub record AreSoFar (files : Files) (new : Option Files) (is : List Instance) (plans : List SeenPlan) : Type 0 where
  pub modules : List SeenModule
  pub written : AreWritten files new is modules plans
