use Rattle.gos_expand.proofs.gates.GatesMacro.size.Goals as goal

pub returns-in-Controls-clause-cells : goal.returns-in-Controls-clause-cells
returns-in-Controls-clause-cells c = rw c.in-Controls.is c.size.ensures.cells

pub returns-in-Computes-clause-cells : goal.returns-in-Computes-clause-cells
returns-in-Computes-clause-cells c = rw c.in-Computes.is c.size-in-Computes.ensures.cells

pub returns-in-Shares-clause-cells : goal.returns-in-Shares-clause-cells
returns-in-Shares-clause-cells c = rw c.in-Shares.is c.size-in-Shares.ensures.cells
