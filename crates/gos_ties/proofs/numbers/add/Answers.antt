use Rattle.gos_ties.proofs.PointLemmas.{has_number, keeps_number}
use Rattle.gos_ties.proofs.numbers.add.Goals as goal

pub returns-in-Ok-clause-has : goal.returns-in-Ok-clause-has
returns-in-Ok-clause-has c = has_number c.args.numbers.now.points.keys c.insert.new.self.keys c.args.point c.in-Ok.ensures.keys

pub returns-in-Ok-clause-kept : goal.returns-in-Ok-clause-kept
returns-in-Ok-clause-kept c = λ p. keeps_number c.args.numbers.now.points.keys c.insert.new.self.keys c.args.point p c.in-Ok.ensures.keys
