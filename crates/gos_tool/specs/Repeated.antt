-- Of the same files a command makes the same. A law of these definitions, for all commands but three.
--
-- Read first: Command, Run, Agreement. The same files are those that the command reads: it may be done again where it was done before, or
-- among others. What `tidy`, `gates` and `explain` write is free: any netlist that is tidy and alike, any gates to which the netlist is
-- lowered, any lines that explain the trace.
use Rattle.std.specs.Prelude.{◌≡◌, [], ◌∷◌, ◌++◌, Option, Some}
use Rattle.gos_outside.specs.Files.{Files}
use Rattle.gos_link.specs.BuildFile.{IsBuildFile}
use Rattle.gos_link.specs.declared.build.Build as builds
use Rattle.gos_command.specs.declared.report.Report.{Report}
use Rattle.gos_tool.specs.Calls.{read_source, compile_calls, sim_calls, link_calls, build_calls, verify_calls, write_calls}
use Rattle.gos_tool.specs.Agreement.{AgreeOn, AgreeOnBuild, WriteTheSame, WriteOneBuild}
use Rattle.gos_tool.specs.demo.DemoFiles.{IsLevelCount, build_file, demo_files}
use Rattle.gos_tool.specs.demo.Demo.{names_of}
use Rattle.gos_tool.specs.Command.{Command, Check, Compile, Link, Sim, Build, Demo, Tidy, Gates, Explain, Verify}
use Rattle.gos_tool.specs.Run.{IsDone}

-- what the command writes and tells is decided by what it reads
abbrev pub IsDecided : Command → Type 0
IsDecided (Check source) = Unit {0}
IsDecided (Compile source object) = Unit {0}
IsDecided (Link own) = Unit {0}
IsDecided (Sim net pulses trace) = Unit {0}
IsDecided (Build own) = Unit {0}
IsDecided (Demo levels) = IsLevelCount levels
IsDecided (Tidy net out) = ⊥
IsDecided (Gates net out) = ⊥
IsDecided (Explain own moves) = ⊥
IsDecided (Verify own moves) = Unit {0}

-- Both stores hold the same bytes in each file that the command reads. `demo` reads what it wrote itself; of `tidy`, `gates` and
-- `explain` nothing is said here.
abbrev pub AgreeFor : Command → Files → Files → Type 0
AgreeFor (Check source) files others = AgreeOn (read_source source ∷ []) files others
AgreeFor (Compile source object) files others = AgreeOn (compile_calls source object) files others
AgreeFor (Link own) files others = AgreeOnBuild own link_calls files others
AgreeFor (Sim net pulses trace) files others = AgreeOn (sim_calls net pulses trace) files others
AgreeFor (Build own) files others = AgreeOnBuild own build_calls files others
AgreeFor (Verify own moves) files others = AgreeOnBuild own (verify_calls moves) files others
AgreeFor command files others = Unit {0}

-- what two runs of it write is the same; `demo` writes its own files, and then those of the build that its build file says
abbrev pub WritesTheSame : Command → (files others : Files) (new other : Option Files) → Type 0
WritesTheSame (Check source) files others new other = WriteTheSame (read_source source ∷ []) (Some files) (Some others) new other
WritesTheSame (Compile source object) files others new other = WriteTheSame (compile_calls source object) (Some files) (Some others) new other
WritesTheSame (Link own) files others new other = WriteOneBuild own link_calls files others new other
WritesTheSame (Sim net pulses trace) files others new other = WriteTheSame (sim_calls net pulses trace) (Some files) (Some others) new other
WritesTheSame (Build own) files others new other = WriteOneBuild own build_calls files others new other
WritesTheSame (Demo levels) files others new other =
    (b : builds.Build) × IsBuildFile (build_file levels).text (build_file levels).name b
    × WriteTheSame (write_calls (names_of (demo_files levels)) ++ build_calls b) (Some files) (Some others) new other
WritesTheSame (Verify own moves) files others new other = WriteOneBuild own (verify_calls moves) files others new other
WritesTheSame command files others new other = Unit {0}

-- where such a command is done twice with the same files, it writes the same texts into the same files, and tells the same
abbrev pub CommandMakesOne : Type 0
CommandMakesOne =
    (c : Command) (files others : Files) (new other : Option Files) (report told : Report) → IsDecided c → AgreeFor c files others
    → IsDone c (Some files) new report → IsDone c (Some others) other told
    → WritesTheSame c files others new other × (report ≡ told)
