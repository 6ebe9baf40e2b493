use Rattle.gos_link.proofs.SmallLinkLemmas.{one_is_served, no_user, no_giver, no_such_import, types_differ, is_bound_twice, is_used_twice, is_loop, no_root, is_unplaced, is_open_twice, result_is_not_ground, import_is_not_ground}
use Rattle.gos_link.proofs.laws.small_links.Goals as goal

pub returns-clause-served : goal.returns-clause-served
returns-clause-served c = one_is_served

pub returns-clause-user : goal.returns-clause-user
returns-clause-user c = no_user

pub returns-clause-giver : goal.returns-clause-giver
returns-clause-giver c = no_giver

pub returns-clause-import : goal.returns-clause-import
returns-clause-import c = no_such_import

pub returns-clause-types : goal.returns-clause-types
returns-clause-types c = types_differ

pub returns-clause-bound : goal.returns-clause-bound
returns-clause-bound c = is_bound_twice

pub returns-clause-used : goal.returns-clause-used
returns-clause-used c = is_used_twice

pub returns-clause-ring : goal.returns-clause-ring
returns-clause-ring c = is_loop

pub returns-clause-root : goal.returns-clause-root
returns-clause-root c = no_root

pub returns-clause-unplaced : goal.returns-clause-unplaced
returns-clause-unplaced c = is_unplaced

pub returns-clause-names : goal.returns-clause-names
returns-clause-names c = is_open_twice

pub returns-clause-result : goal.returns-clause-result
returns-clause-result c = result_is_not_ground

pub returns-clause-higher : goal.returns-clause-higher
returns-clause-higher c = import_is_not_ground
