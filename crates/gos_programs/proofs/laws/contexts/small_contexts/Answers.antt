use Rattle.gos_programs.proofs.contexts.SmallLemmas.{sides_are_not_alone, requests_are_not_inner, blocks_open_in_place, blocks_open_in_index, index_is_not_alone, stores_keep_scopes, locations_stand, locations_are_scoped, blocks_differ, block_is_renamed, renamings_tell_apart, zero_is_free, none_are_among_some, names_are_known, entries_in_any_order, stores_are_apart, store_is_held, location_is_placed, others_are_left, home_is_apart, labels_elsewhere}
use Rattle.gos_programs.proofs.laws.contexts.small_contexts.Goals as goal

pub returns-clause-alone : goal.returns-clause-alone
returns-clause-alone c = sides_are_not_alone

pub returns-clause-inner : goal.returns-clause-inner
returns-clause-inner c = requests_are_not_inner

pub returns-clause-open : goal.returns-clause-open
returns-clause-open c = blocks_open_in_place

pub returns-clause-open_index : goal.returns-clause-open_index
returns-clause-open_index c = blocks_open_in_index

pub returns-clause-index : goal.returns-clause-index
returns-clause-index c = index_is_not_alone

pub returns-clause-scopes : goal.returns-clause-scopes
returns-clause-scopes c = stores_keep_scopes

pub returns-clause-stand : goal.returns-clause-stand
returns-clause-stand c = locations_stand

pub returns-clause-scoped : goal.returns-clause-scoped
returns-clause-scoped c = locations_are_scoped

pub returns-clause-differ : goal.returns-clause-differ
returns-clause-differ c = blocks_differ

pub returns-clause-renamed : goal.returns-clause-renamed
returns-clause-renamed c = block_is_renamed

pub returns-clause-renamings : goal.returns-clause-renamings
returns-clause-renamings c = renamings_tell_apart

pub returns-clause-free : goal.returns-clause-free
returns-clause-free c = zero_is_free

pub returns-clause-among : goal.returns-clause-among
returns-clause-among c = none_are_among_some

pub returns-clause-known : goal.returns-clause-known
returns-clause-known c = names_are_known

pub returns-clause-order : goal.returns-clause-order
returns-clause-order c = entries_in_any_order

pub returns-clause-apart : goal.returns-clause-apart
returns-clause-apart c = stores_are_apart

pub returns-clause-held : goal.returns-clause-held
returns-clause-held c = store_is_held

pub returns-clause-placed : goal.returns-clause-placed
returns-clause-placed c = location_is_placed

pub returns-clause-others : goal.returns-clause-others
returns-clause-others c = others_are_left

pub returns-clause-home : goal.returns-clause-home
returns-clause-home c = home_is_apart

pub returns-clause-elsewhere : goal.returns-clause-elsewhere
returns-clause-elsewhere c = labels_elsewhere
