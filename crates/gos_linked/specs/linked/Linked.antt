-- That the linked plan of a build realises the substituted program.
--
-- Read first: Linked of gos_link; Linking of gos_model; Modules of gos_realises. The instances are programs by their numbers, and
-- a service binds the import of its number, which is told by its name there.
use Rattle.std.specs.Prelude.{◌≡◌, List, [], ◌∷◌, length, Option, Some, None, slice_get}
use Rattle.gos_model.specs.Terms.{Name}
use Rattle.gos_model.specs.Typing.{Imported, Typed}
use Rattle.gos_model.specs.Moves.{Program}
use Rattle.gos_model.specs.Linking.{Instances, Bind, substituted}
use Rattle.gos_plan.specs.Plans.{Plan, IsRight}
use Rattle.gos_plan.specs.Seen.{SeenPlan}
use Rattle.gos_realises.specs.realises.Realises.{AllGround, NamesDiffer}
use Rattle.gos_realises.specs.realises.Modules.{RealisesOpen}
use Rattle.gos_link.specs.declared.build.Build.{Build}
use Rattle.gos_link.specs.declared.services.Service.{Service}
use Rattle.gos_link.specs.Linked.{imports_of, outcome_of, plans_of, SeenLinks, AreLinks, IsLinked}

-- what a service binds
abbrev pub name_if : Option Imported → Name
name_if None = []
name_if (Some x) = x.name

abbrev pub bind_of : List Plan → Service → Bind
bind_of ps s =
    record { user = s.user; import = name_if (slice_get (imports_of (slice_get ps s.user)) s.import); giver = s.giver }

abbrev pub binds_of : List Plan → List Service → List Bind
binds_of ps [] = []
binds_of ps (s ∷ ss) = bind_of ps s ∷ binds_of ps ss

-- the substituted program of instances with these programs
abbrev pub linked_program : (b : Build) (ps : List SeenPlan) (p : Plan) → IsLinked b ps p → Instances → Program
linked_program b ps p l programs = substituted programs (binds_of (plans_of ps) l.services) l.root

-- The plan realises the program, whatever is put in for its imports. These are the program's.
pub record IsRealised (p : Plan) (m : Program) : Type 0 where
  pub imports : p.imports ≡ m.imports
  pub right : IsRight p
  pub names : NamesDiffer p.imports
  pub typed : Typed p.imports [] m.body p.outcome
  pub open_imports : RealisesOpen p m.body

abbrev pub AreRealised : List Plan → Instances → Type 0
AreRealised [] [] = Unit {0}
AreRealised [] (m ∷ ms) = ⊥
AreRealised (p ∷ ps) [] = ⊥
AreRealised (p ∷ ps) (m ∷ ms) = IsRealised p m × AreRealised ps ms

-- So does the linked plan the substituted program. There is a plan for each instance.
abbrev pub LinkedIsRealised : Type 0
LinkedIsRealised =
    (b : Build) (ps : List SeenPlan) (p : Plan) (programs : Instances) (l : IsLinked b ps p)
    → length ps ≡ length b.instances.items → AreRealised (plans_of ps) programs → IsRealised p (linked_program b ps p l programs)

-- Its imports are ground.
abbrev pub LinkedIsGround : Type 0
LinkedIsGround = (b : Build) (ps : List SeenPlan) (p : Plan) → IsLinked b ps p → AllGround p.imports

-- The program has the imports of the plan, which have different names, and its body the type of the plan's result.
pub record IsTypedAs (p : Plan) (m : Program) : Type 0 where
  pub imports : p.imports ≡ m.imports
  pub names : NamesDiffer p.imports
  pub typed : Typed p.imports [] m.body p.outcome

abbrev pub AreTypedAs : List Plan → Instances → Type 0
AreTypedAs [] [] = Unit {0}
AreTypedAs [] (m ∷ ms) = ⊥
AreTypedAs (p ∷ ps) [] = ⊥
AreTypedAs (p ∷ ps) (m ∷ ms) = IsTypedAs p m × AreTypedAs ps ms

-- So the substituted program of right links has the type of the root's result, under the imports that stay. Nothing is asked of the plans but
-- their imports and results.
abbrev pub substituted_along : List SeenPlan → SeenLinks → Instances → Program
substituted_along ps links programs = substituted programs (binds_of (plans_of ps) links.services) links.root

abbrev pub SubstitutedIsTyped : Type 0
SubstitutedIsTyped =
    (b : Build) (ps : List SeenPlan) (links : SeenLinks) (programs : Instances)
    → AreLinks b ps links → length ps ≡ length b.instances.items → AreTypedAs (plans_of ps) programs
    → Typed (substituted_along ps links programs).imports [] (substituted_along ps links programs).body (outcome_of (slice_get (plans_of ps) links.root))
