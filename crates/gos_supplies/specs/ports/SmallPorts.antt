-- The plan of a name realises it with any supply, and doesn't without its joint.
--
-- Read first: Ports. They show that the definitions can be met and can be missed.
use Rattle.std.specs.Prelude.{◌↔◌, ℕ, []}
use Rattle.gos_types.specs.Types.{Type', Com, Var}
use Rattle.gos_types.specs.Widths.{IsWidth}
use Rattle.gos_model.specs.Terms.{Name, Import}
use Rattle.gos_model.specs.SmallPrograms.{c}
use Rattle.gos_plan.specs.Plans.{Plan}
use Rattle.gos_plan.specs.SmallCalls.{call_plan}
use Rattle.gos_realises.specs.realises.Modules.{RealisesOpen, RealisesModule}
use Rattle.gos_supplies.specs.names.Names.{name_plan}

-- Joined to what is put in, the plan of a name is that, at any type.
abbrev pub NameIsOpen : Type 0
NameIsOpen = (x : Name) (t : Type') → RealisesOpen (name_plan x t) (Import x)

-- So the plan of `import c : com; c` realises the module.
abbrev pub CallIsModule : Type 0
CallIsModule = RealisesModule call_plan (Import c)

-- Without its joint the plan of a command's name realises it with no supply that there is.
abbrev pub UnjoinedIsNotOpen : Type 0
UnjoinedIsNotOpen = (x : Name) → RealisesOpen (record (name_plan x Com) { joints = [] }) (Import x) → ⊥

-- The plan of `import c : var w; c` realises the module exactly where w is a width: with 64 bits, and neither with 65 nor with none.
abbrev pub variable_plan : ℕ → Plan
variable_plan w = record (name_plan c (Var w)) { weight = 8 }

abbrev pub VariableIsModule : Type 0
VariableIsModule = (w : ℕ) → RealisesModule (variable_plan w) (Import c) ↔ IsWidth w
