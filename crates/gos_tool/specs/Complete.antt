-- Which files are right for a command. It is done then, where no call fails, or memory runs out.
--
-- Read first: Command, Run; Complete of circuits, of simulate, of build and of explained.
use Rattle.std.specs.Prelude.{ℕ, List, Option, Some}
use Rattle.gos_outside.specs.Files.{Files, bytes_at}
use Rattle.gos_syntax.specs.Modules.{SeenModule}
use Rattle.gos_command.specs.declared.status.Fault.{Fault}
use Rattle.gos_tool.specs.objects.Checked.{SaysModule}
use Rattle.gos_tool.specs.circuits.Complete.{AreRightToLink}
use Rattle.gos_tool.specs.simulate.Complete.{AreRightToRun}
use Rattle.gos_tool.specs.build.Complete.{AreRightToBuild}
use Rattle.gos_tool.specs.netlists.Complete.{IsRightToTidy, IsRightToLower}
use Rattle.gos_tool.specs.explained.Complete.{AreRightToExplain, AreRightToVerify}
use Rattle.gos_tool.specs.Command.{Command, Check, Compile, Link, Sim, Build, Demo, Tidy, Gates, Explain, Verify}
use Rattle.gos_tool.specs.Run.{IsRejected}

-- The files, as they are when the command begins, are right for it. A demo writes its own. Of the files that are left only the
-- netlist counts that `build` has written, under which the pulse file is judged.
abbrev pub AreRight : Command → Files → Option Files → Type 0
AreRight (Check source) files new = (m : SeenModule) × SaysModule (bytes_at files source) m
AreRight (Compile source object) files new = (m : SeenModule) × SaysModule (bytes_at files source) m
AreRight (Link own) files new = AreRightToLink files own
AreRight (Sim net pulses trace) files new = AreRightToRun files net pulses
AreRight (Build own) files new = AreRightToBuild files new own
AreRight (Demo levels) files new = Unit {0}
AreRight (Tidy net out) files new = IsRightToTidy (bytes_at files net)
AreRight (Gates net out) files new = IsRightToLower (bytes_at files net)
AreRight (Explain own moves) files new = AreRightToExplain files own moves
AreRight (Verify own moves) files new = AreRightToVerify files own moves

-- a command rejects no file where they are right
abbrev pub RightIsNotRejected : Type 0
RightIsNotRejected =
    (c : Command) (files : Files) (new : Option Files) (fault : Fault) (line : List ℕ) → AreRight c files new
    → IsRejected c (Some files) new fault line → ⊥
