-- Of the same source `check` tells the same, and `compile` makes the same object. Laws of these definitions, for all files.
--
-- Read first: Compiled; Agreement. A text says one program and has one typed term, and a module has one plan.
use Rattle.std.specs.Prelude.{◌≡◌, ℕ, List, [], ◌∷◌, Option, Some}
use Rattle.gos_outside.specs.Files.{Files}
use Rattle.gos_lex.specs.Lines.{Word}
use Rattle.gos_syntax.specs.Modules.{SeenModule}
use Rattle.gos_plan.specs.Plans.{Plan}
use Rattle.gos_command.specs.declared.report.Report.{Report}
use Rattle.gos_tool.specs.Calls.{read_source, compile_calls}
use Rattle.gos_tool.specs.Agreement.{AgreeOn, WriteTheSame}
use Rattle.gos_tool.specs.objects.Checked.{SaysModule, IsChecked}
use Rattle.gos_tool.specs.objects.Compiled.{IsCompiled, IsPlanOfModule}

-- the modules that a text says have one plan
abbrev pub SaysOnePlan : Type 0
SaysOnePlan =
    (text : List ℕ) (m other : SeenModule) (plan also : Plan) → SaysModule text m → SaysModule text other
    → IsPlanOfModule m plan → IsPlanOfModule other also → plan ≡ also

-- where `check` is done twice with the same source, it tells the same
abbrev pub CheckTellsOne : Type 0
CheckTellsOne =
    (files others : Files) (source : Word) (report told : Report) → AgreeOn (read_source source ∷ []) files others
    → IsChecked files source report → IsChecked others source told → report ≡ told

-- where `compile` is done twice with the same source, it writes the same and tells the same
abbrev pub CompileMakesOne : Type 0
CompileMakesOne =
    (files others : Files) (source object : Word) (new other : Option Files) (report told : Report)
    → AgreeOn (compile_calls source object) files others
    → IsCompiled files new source object report → IsCompiled others other source object told
    → WriteTheSame (compile_calls source object) (Some files) (Some others) new other × (report ≡ told)
