use Rattle.std.proofs.Common.{◌+◌}
use Rattle.gos_lex.proofs.LineLemmas.{lines-cut, lines-whole, rest_of}
use Rattle.gos_lex.proofs.lines.cut_line.Goals as goal

pub returns-in-None-clause-line : goal.returns-in-None-clause-line
returns-in-None-clause-line c = lines-whole c.args.text.now c.in-None.ensures c.requires

pub returns-in-Some-clause-line : goal.returns-in-Some-clause-line
returns-in-Some-clause-line c = rw (rest_of (c.in-Some.end + 1) c.args.text.now, c.without_return.ensures) (lines-cut c.args.text.now c.in-Some.end c.in-Some.ensures)
