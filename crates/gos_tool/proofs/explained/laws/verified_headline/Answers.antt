use Rattle.gos_tool.proofs.lemmas.explained.HeadlineLemmas.{verifies_the_headline}
use Rattle.gos_tool.proofs.explained.laws.verified_headline.Goals as goal

pub returns : goal.returns
returns c = verifies_the_headline c.one_build.ensures.build c.accepted_sources.ensures.program
