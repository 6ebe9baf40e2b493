use Rattle.gos_check.proofs.CountLemmas.{parsed_countable}
use Rattle.gos_check.proofs.laws.parsed_is_countable.Goals as goal

pub returns : goal.returns
returns c = parsed_countable c.args.text.now c.args.tokens.now c.args.program.now c.requires.short c.requires.scanned c.requires.parsed
