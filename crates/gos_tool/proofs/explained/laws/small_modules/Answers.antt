use Rattle.gos_tool.proofs.lemmas.explained.SmallLemmas.{names_its_files, one_is_linked, other_is_free, unbound_is_not_linked}
use Rattle.gos_tool.proofs.explained.laws.small_modules.Goals as goal

pub returns-clause-linked : goal.returns-clause-linked
returns-clause-linked c = one_is_linked c.small_links.ensures.served c.small_links-2.ensures.links

pub returns-clause-unbound : goal.returns-clause-unbound
returns-clause-unbound c = unbound_is_not_linked c.one_face.ensures.links c.one_face.ensures.either c.small_links.ensures.unplaced

pub returns-clause-named : goal.returns-clause-named
returns-clause-named c = names_its_files

pub returns-clause-free : goal.returns-clause-free
returns-clause-free c = other_is_free
