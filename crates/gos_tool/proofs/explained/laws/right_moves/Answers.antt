use Rattle.gos_tool.proofs.lemmas.explained.CompleteLemmas.{empty_is_not_explained, empty_is_not_right, explained_is_not_rejected, links_told, texts_one, verified_is_not_rejected}
use Rattle.gos_tool.proofs.lemmas.explained.LeftLemmas.{explained_is_right}
use Rattle.gos_tool.proofs.explained.laws.right_moves.Goals as goal

pub returns-clause-empty : goal.returns-clause-empty
returns-clause-empty c = empty_is_not_right c.right_links.ensures.empty

pub returns-clause-empty_too : goal.returns-clause-empty_too
returns-clause-empty_too c = empty_is_not_explained c.right_links.ensures.empty

pub returns-clause-left : goal.returns-clause-left
returns-clause-left c = explained_is_right

pub returns-clause-rejected : goal.returns-clause-rejected
returns-clause-rejected c =
    verified_is_not_rejected c.one_build.ensures.build c.one_build.ensures.either c.accepted_sources.ensures.rejected c.accepted_sources.ensures.program
    (links_told c.one_face.ensures.links c.one_face.ensures.fault c.one_face.ensures.either c.one_face.ensures.one)
    (texts_one c.one_answer.ensures.moves c.one_answer.ensures.labels c.one_answer.ensures.moves_read c.one_answer.ensures.labels_read)
    c.one_answer_of_lines.ensures

pub returns-clause-explained : goal.returns-clause-explained
returns-clause-explained c =
    explained_is_not_rejected c.one_build.ensures.build c.one_build.ensures.either c.accepted_sources.ensures.rejected c.accepted_sources.ensures.program
    (links_told c.one_face.ensures.links c.one_face.ensures.fault c.one_face.ensures.either c.one_face.ensures.one)
    (texts_one c.one_answer.ensures.moves c.one_answer.ensures.labels c.one_answer.ensures.moves_read c.one_answer.ensures.labels_read)
