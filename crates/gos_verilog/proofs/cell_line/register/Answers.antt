use Rattle.gos_verilog.proofs.cell_line.register.Goals as goal

pub returns-clause-wrong : goal.returns-clause-wrong
returns-clause-wrong c = rw (c.exactly.ensures, c.exactly-2.ensures, c.exactly-3.ensures, c.net_behind.ensures) at c.line.ensures.wrong
