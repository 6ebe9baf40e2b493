use Rattle.gos_verilog.proofs.LeftCellLemmas.{no_shape_line}
use Rattle.gos_verilog.proofs.declared.cell_declaration.Goals as goal

pub returns-in-Err-declared_as-clause-wrong : goal.returns-in-Err-declared_as-clause-wrong
returns-in-Err-declared_as-clause-wrong c =
    no_shape_line c.args.i c.args.rest.now 0 c.in-Err.one c.in-Err-declared_as.other c.further.result c.further.ensures.at_least.0 c.further.ensures.at_least.1 c.further.ensures.one
    c.in-Err.ensures.wrong c.in-Err-declared_as.ensures.wrong
