-- A command as its words mean it.
use Rattle.gos_outside.specs.FileName.{IsFileName}
use Rattle.gos_flow.specs.Command.{Command, ToVerilog, ToNetlist, read_by, written_by}
use Rattle.gos_flow.specs.declared.command.Command as declared
use Rattle.gos_flow.specs.declared.command.Command.TheVariants as words

abbrev pub meant : declared.Command → Command
meant (words.Verilog net out) = ToVerilog net.now out.now
meant (words.Netlist ver out) = ToNetlist ver.now out.now

-- the files of a command have file names
abbrev pub HasFileNames : Command → Type 0
HasFileNames c = IsFileName (read_by c) × IsFileName (written_by c)
