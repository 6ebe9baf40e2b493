use Rattle.gos_tool.proofs.lemmas.explained.RepeatedLemmas.{verify_makes_one}
use Rattle.gos_tool.proofs.explained.laws.one_verification.Goals as goal

pub returns : goal.returns
returns c =
    verify_makes_one c.one_build.ensures.build c.accepted_sources.ensures.program c.one_face.ensures.links c.one_face.ensures.one c.one_answer.ensures.moves
    c.one_answer.ensures.labels
