-- Of the same files `link` makes the same. A law of these definitions, for all files.
--
-- Read first: Linked; Agreement. A plan has one circuit with few registers, and a netlist has one Verilog text. What a
-- fast circuit is made tidy to is free.
use Rattle.std.specs.Prelude.{◌≡◌, Option, Some}
use Rattle.gos_outside.specs.Files.{Files}
use Rattle.gos_lex.specs.Lines.{Word}
use Rattle.gos_netlist.specs.Nets.{Netlist}
use Rattle.gos_plan.specs.Plans.{Plan}
use Rattle.gos_command.specs.declared.report.Report.{Report}
use Rattle.gos_tool.specs.Calls.{link_calls}
use Rattle.gos_tool.specs.Agreement.{AgreeOnBuild, WriteOneBuild}
use Rattle.gos_tool.specs.declared.circuits.layout.Layout.TheVariants.{Few}
use Rattle.gos_tool.specs.circuits.Circuit.{IsCircuitOf}
use Rattle.gos_tool.specs.circuits.Linked.{IsLinkDone}

-- a plan has one circuit with few registers
abbrev pub CircuitIsOne : Type 0
CircuitIsOne = (root : Word) (p : Plan) (net other : Netlist) → IsCircuitOf Few root p net → IsCircuitOf Few root p other → net ≡ other

-- where `link` is done twice with the same build file and objects, it writes the same and tells the same
abbrev pub LinkMakesOne : Type 0
LinkMakesOne =
    (files others : Files) (own : Word) (new other : Option Files) (report told : Report) → AgreeOnBuild own link_calls files others
    → IsLinkDone (Some files) new own report → IsLinkDone (Some others) other own told
    → WriteOneBuild own link_calls files others new other × (report ≡ told)
