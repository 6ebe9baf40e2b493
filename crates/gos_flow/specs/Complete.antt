-- Which files are right for a command. It is done then, where no call fails, or memory runs out. Laws of these definitions, for all files.
--
-- Read first: Command, Run.
use Rattle.std.specs.Prelude.{◌≡◌, [], Option, Some}
use Rattle.gos_outside.specs.Files.{Files, bytes_at}
use Rattle.gos_netlist.specs.Nets.{Netlist}
use Rattle.gos_flow.specs.declared.status.Cause.{Cause}
use Rattle.gos_flow.specs.Command.{Command, read_by}
use Rattle.gos_flow.specs.Run.{Says, IsRejected}

-- the file that the command reads says a netlist that is accepted
abbrev pub IsRight : Command → Files → Type 0
IsRight c files = (circuit : Netlist) × Says c (bytes_at files (read_by c)) circuit

-- such a file is not rejected
abbrev pub RightIsNotRejected : Type 0
RightIsNotRejected = (c : Command) (files : Files) (new : Option Files) (cause : Cause) → IsRight c files → IsRejected c (Some files) new cause → ⊥

-- and an empty one is not right
abbrev pub EmptyIsNotRight : Type 0
EmptyIsNotRight = (c : Command) (files : Files) → bytes_at files (read_by c) ≡ [] → IsRight c files → ⊥
