use Rattle.gos_witness.proofs.finding.Search.compact.Goals as goal

pub returns-in_ok-compact-clause-masks : goal.returns-in_ok-compact-clause-masks
returns-in_ok-compact-clause-masks c = c.forget.ensures c.compact.new.self.list c.args.program.now.ports
