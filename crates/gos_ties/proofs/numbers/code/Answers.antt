use Rattle.std.proofs.Common.{◌∙◌, sym}
use Rattle.gos_ties.proofs.PointLemmas.{code_none}
use Rattle.gos_ties.proofs.numbers.code.Goals as goal

pub returns-in-None : goal.returns-in-None
returns-in-None c = c.len.ensures.len ∙ sym (code_none c.args.numbers.now.points.keys c.args.point (sym c.in-None.ensures.index))
