-- The program whose trace `verify` explains is that of the headline. A law of these definitions, for all files.
--
-- Read first: Verified; Headline of build; Agreement. After a build other files differ: its objects, netlist and trace are written.
use Rattle.std.specs.Prelude.{◌≡◌, map}
use Rattle.gos_outside.specs.Files.{Files}
use Rattle.gos_lex.specs.Lines.{Word}
use Rattle.gos_model.specs.Sources.{program_of}
use Rattle.gos_model.specs.Linking.{substituted}
use Rattle.gos_command.specs.declared.report.Report.{Report}
use Rattle.gos_tool.specs.Calls.{source_calls}
use Rattle.gos_tool.specs.Agreement.{AgreeOnBuild}
use Rattle.gos_tool.specs.build.Headline.{Headline}
use Rattle.gos_tool.specs.explained.LinkedModules.{program_along}
use Rattle.gos_tool.specs.explained.Verified.{IsVerified}

-- Where `build` was done over files `old`, and `verify` is over files with the same build file and sources, the program of which the
-- labels are a trace is the one with which the circuit keeps pace.
abbrev pub VerifiesTheHeadline : Type 0
VerifiesTheHeadline =
    (old new files : Files) (own moves : Word) (report : Report) (headline : Headline old new own) (verified : IsVerified files own moves report)
    → AgreeOnBuild own (λ b. source_calls b.instances.items) old files
    → program_along verified.sources.modules verified.sources.links ≡ substituted (map program_of headline.modules) headline.binds headline.root
