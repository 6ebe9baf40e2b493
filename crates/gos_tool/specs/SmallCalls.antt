-- For which calls of the store a command may be stopped.
--
-- Read first: Run. They show that `IsCall` can be met and can be missed, also where the store tells no files.
use Rattle.std.specs.Prelude.{Option, None}
use Rattle.gos_outside.specs.Files.{Files}
use Rattle.gos_outside.specs.Faults.{NoFault, ReadFault, WriteFault}
use Rattle.gos_lex.specs.Lines.{Word}
use Rattle.gos_tool.specs.Command.{Command, Build, Explain, Verify}
use Rattle.gos_tool.specs.Run.{IsCall}

-- the build file could not be read
abbrev pub BuildFileMayFail : Type 0
BuildFileMayFail =
    (own moves : Word) → IsCall (Build own) None None (ReadFault own) × IsCall (Explain own moves) None None (ReadFault own)
    × IsCall (Verify own moves) None None (ReadFault own)

-- no command is stopped for no call
abbrev pub NoFaultIsNoCall : Type 0
NoFaultIsNoCall = (c : Command) (old new : Option Files) → IsCall c old new NoFault → ⊥

-- and `verify` for none that writes
abbrev pub VerifyWritesNothing : Type 0
VerifyWritesNothing = (own moves name : Word) (old new : Option Files) → IsCall (Verify own moves) old new (WriteFault name) → ⊥
