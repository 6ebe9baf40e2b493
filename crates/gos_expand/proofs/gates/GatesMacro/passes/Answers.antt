use Rattle.gos_expand.proofs.gates.GatesMacro.passes.Goals as goal

pub returns-in-Controls-clause-path : goal.returns-in-Controls-clause-path
returns-in-Controls-clause-path c = rw c.in-Controls.is c.passes.ensures.path

pub returns-in-Computes-clause-path : goal.returns-in-Computes-clause-path
returns-in-Computes-clause-path c = rw c.in-Computes.is c.passes-in-Computes.ensures.path
