use Rattle.gos_tool.proofs.lemmas.build.HeadlineLemmas.{headline_holds}
use Rattle.gos_tool.proofs.build.laws.headlines.Goals as goal

pub returns : goal.returns
returns c = headline_holds
