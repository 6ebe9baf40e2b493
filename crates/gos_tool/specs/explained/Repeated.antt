-- Of the same files `verify` tells the same. A law of these definitions, for all files.
--
-- Read first: Verified; Agreement.
use Rattle.std.specs.Prelude.{◌≡◌, Option, Some}
use Rattle.gos_outside.specs.Files.{Files}
use Rattle.gos_lex.specs.Lines.{Word}
use Rattle.gos_command.specs.declared.report.Report.{Report}
use Rattle.gos_tool.specs.Calls.{verify_calls}
use Rattle.gos_tool.specs.Agreement.{AgreeOnBuild, WriteOneBuild}
use Rattle.gos_tool.specs.explained.Verified.{IsVerified}

-- where `verify` is done twice with the same build file, sources, trace and moves, it writes nothing and tells the same
abbrev pub VerifyMakesOne : Type 0
VerifyMakesOne =
    (files others : Files) (own moves : Word) (new other : Option Files) (report told : Report)
    → AgreeOnBuild own (verify_calls moves) files others
    → (new ≡ Some files) × IsVerified files own moves report → (other ≡ Some others) × IsVerified others own moves told
    → WriteOneBuild own (verify_calls moves) files others new other × (report ≡ told)
