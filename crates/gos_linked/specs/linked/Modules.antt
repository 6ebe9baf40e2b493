-- The linked plan of modules: it realises the substituted program as the plan of a module does, and a netlist of it keeps pace
-- with that program.
--
-- Read first: Linked; Ports of gos_supplies; Keeping of keeping. The root is a command or an expression and the imports that stay
-- are ground, since the build is linked.
use Rattle.std.specs.Prelude.{◌≡◌, List, [], ◌∷◌, length}
use Rattle.gos_netlist.specs.Nets.{Netlist}
use Rattle.gos_model.specs.Weight.{weight}
use Rattle.gos_model.specs.Moves.{Program}
use Rattle.gos_model.specs.Linking.{Instances, link_weight}
use Rattle.gos_pace.specs.Pace.{KeepsPaceAlways}
use Rattle.gos_plan.specs.Plans.{Plan}
use Rattle.gos_plan.specs.Seen.{SeenPlan}
use Rattle.gos_realises.specs.realises.Matched.{RealisesDone, program_of}
use Rattle.gos_realises.specs.realises.Modules.{RealisesModule}
use Rattle.gos_linked.specs.keeping.Keeping.{IsNetOf}
use Rattle.gos_link.specs.declared.build.Build.{Build}
use Rattle.gos_link.specs.Linked.{plans_of, IsLinked}
use Rattle.gos_linked.specs.linked.Linked.{linked_program}

-- The plan is that of a module with this program.
pub record IsModule (p : Plan) (m : Program) : Type 0 where
  pub imports : p.imports ≡ m.imports
  pub realises : RealisesModule p m.body

abbrev pub AreModules : List Plan → Instances → Type 0
AreModules [] [] = Unit {0}
AreModules [] (m ∷ ms) = ⊥
AreModules (p ∷ ps) [] = ⊥
AreModules (p ∷ ps) (m ∷ ms) = IsModule p m × AreModules ps ms

-- The linked plan is that of a module again, with the substituted program.
abbrev pub LinkedIsModule : Type 0
LinkedIsModule =
    (b : Build) (ps : List SeenPlan) (p : Plan) (programs : Instances) (l : IsLinked b ps p)
    → length ps ≡ length b.instances.items → AreModules (plans_of ps) programs → IsModule p (linked_program b ps p l programs)

-- Its lists are matched by moves of that program.
abbrev pub LinkedIsDone : Type 0
LinkedIsDone =
    (b : Build) (ps : List SeenPlan) (p : Plan) (programs : Instances) (l : IsLinked b ps p)
    → length ps ≡ length b.instances.items → AreModules (plans_of ps) programs
    → RealisesDone p (linked_program b ps p l programs).body
    × (program_of p (linked_program b ps p l programs).body ≡ linked_program b ps p l programs)

-- So a netlist of it keeps pace with that program.
abbrev pub LinkedKeepsPace : Type 0
LinkedKeepsPace =
    (b : Build) (ps : List SeenPlan) (p : Plan) (programs : Instances) (net : Netlist) (l : IsLinked b ps p)
    → length ps ≡ length b.instances.items → AreModules (plans_of ps) programs → IsNetOf p net
    → KeepsPaceAlways p.weight (linked_program b ps p l programs) net

-- each plan has the weight of its program
abbrev pub AreWeighed : List Plan → Instances → Type 0
AreWeighed [] [] = Unit {0}
AreWeighed [] (m ∷ ms) = ⊥
AreWeighed (p ∷ ps) [] = ⊥
AreWeighed (p ∷ ps) (m ∷ ms) = (p.weight ≡ weight m.imports m.body) × AreWeighed ps ms

-- The linked plan has the weight of the link.
abbrev pub LinkedHasWeight : Type 0
LinkedHasWeight =
    (b : Build) (ps : List SeenPlan) (p : Plan) (programs : Instances)
    → IsLinked b ps p → AreWeighed (plans_of ps) programs → p.weight ≡ link_weight programs
