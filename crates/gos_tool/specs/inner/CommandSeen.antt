-- A command as its words mean it.
use Rattle.gos_outside.specs.FileName.{IsFileName}
use Rattle.gos_tool.specs.demo.DemoFiles.{IsLevelCount}
use Rattle.gos_tool.specs.Command.{Command, Check, Compile, Link, Sim, Build, Demo, Tidy, Gates, Explain, Verify}
use Rattle.gos_tool.specs.declared.command.Command as declared
use Rattle.gos_tool.specs.declared.command.Command.TheVariants as words

abbrev pub meant : declared.Command → Command
meant (words.Check source) = Check source.now
meant (words.Compile source object) = Compile source.now object.now
meant (words.Link own) = Link own.now
meant (words.Sim net pulses trace) = Sim net.now pulses.now trace.now
meant (words.Build own) = Build own.now
meant (words.Demo levels) = Demo levels
meant (words.Tidy net out) = Tidy net.now out.now
meant (words.Gates net out) = Gates net.now out.now
meant (words.Explain own moves) = Explain own.now moves.now
meant (words.Verify own moves) = Verify own.now moves.now

-- the files of a command have file names, and the number of levels is in its range
abbrev pub HasFileNames : Command → Type 0
HasFileNames (Check source) = IsFileName source
HasFileNames (Compile source object) = IsFileName source × IsFileName object
HasFileNames (Link own) = IsFileName own
HasFileNames (Sim net pulses trace) = IsFileName net × IsFileName pulses × IsFileName trace
HasFileNames (Build own) = IsFileName own
HasFileNames (Demo levels) = IsLevelCount levels
HasFileNames (Tidy net out) = IsFileName net × IsFileName out
HasFileNames (Gates net out) = IsFileName net × IsFileName out
HasFileNames (Explain own moves) = IsFileName own × IsFileName moves
HasFileNames (Verify own moves) = IsFileName own × IsFileName moves
