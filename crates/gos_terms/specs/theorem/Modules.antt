-- The plan of a checked module realises its program, whatever the types of its imports, of its nodes and of its result.
--
-- Read first: Modules of gos_realises; Checked of gos_check; Wiring of gos_compile. Nothing is asked of the types.
use Rattle.std.specs.Prelude.{ℕ}
use Rattle.gos_types.specs.Types.{type_of}
use Rattle.gos_check.specs.Nodes.{node_seen}
use Rattle.gos_check.specs.Checked.{SeenLinear, IsChecked, program_in}
use Rattle.gos_plan.specs.Plans.{Plan}
use Rattle.gos_realises.specs.realises.Modules.{RealisesOpen, RealisesModule}
use Rattle.gos_realises.specs.realises.Slim.{IsSlim}
use Rattle.gos_compile.specs.Wiring.{IsPlanOf}

-- It realises the program with any supplies.
abbrev pub ModuleIsOpen : Type 0
ModuleIsOpen =
    (l : SeenLinear) (w : ℕ) (p : Plan)
    → IsChecked l → IsPlanOf (program_in l).imports (type_of l.result) w (node_seen l.term) p → RealisesOpen p (program_in l).body

-- So it realises the module, if it is slim.
abbrev pub ModuleIsRealised : Type 0
ModuleIsRealised =
    (l : SeenLinear) (w : ℕ) (p : Plan)
    → IsChecked l → IsPlanOf (program_in l).imports (type_of l.result) w (node_seen l.term) p → IsSlim p → RealisesModule p (program_in l).body
