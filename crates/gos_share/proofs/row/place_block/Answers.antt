use Rattle.gos_share.proofs.row.place_block.Goals as goal

pub returns-in-Ask-clause-cells : goal.returns-in-Ask-clause-cells
returns-in-Ask-clause-cells c = rw c.in-Ask.is (c.place_asked.ensures.cells c.args.branch.kept.0 c.args.branch.set.0)
