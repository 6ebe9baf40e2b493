-- Of the same files `build` makes the same. A law of these definitions, for all files.
--
-- Read first: Built; Agreement; Repeated of objects, of circuits and of simulate. Each source has one plan, plans are linked in one way,
-- a plan has one circuit, and this has one trace.
use Rattle.std.specs.Prelude.{◌≡◌, Option}
use Rattle.gos_outside.specs.Files.{Files}
use Rattle.gos_lex.specs.Lines.{Word}
use Rattle.gos_command.specs.declared.report.Report.{Report}
use Rattle.gos_tool.specs.Calls.{build_calls}
use Rattle.gos_tool.specs.Agreement.{AgreeOnBuild, WriteOneBuild}
use Rattle.gos_tool.specs.build.Built.{IsBuilt}

-- where `build` is done twice with the same build file, sources and pulse file, it writes the same and tells the same
abbrev pub BuildMakesOne : Type 0
BuildMakesOne =
    (files others : Files) (own : Word) (new other : Option Files) (report told : Report) → AgreeOnBuild own build_calls files others
    → IsBuilt files new own report → IsBuilt others other own told
    → WriteOneBuild own build_calls files others new other × (report ≡ told)
