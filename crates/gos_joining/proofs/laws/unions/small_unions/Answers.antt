use Rattle.gos_joining.proofs.unions.SmallUnionLemmas.{skip_has_union, unjoined_is_no_union, beyond_stands_nowhere, twice_applied_is, hidden_is_not_bare, lone_is_bare}
use Rattle.gos_joining.proofs.laws.unions.small_unions.Goals as goal

pub returns-clause-union : goal.returns-clause-union
returns-clause-union c = skip_has_union

pub returns-clause-unjoined : goal.returns-clause-unjoined
returns-clause-unjoined c = unjoined_is_no_union

pub returns-clause-beyond : goal.returns-clause-beyond
returns-clause-beyond c = beyond_stands_nowhere

pub returns-clause-flat : goal.returns-clause-flat
returns-clause-flat c = twice_applied_is

pub returns-clause-hidden : goal.returns-clause-hidden
returns-clause-hidden c = hidden_is_not_bare

pub returns-clause-bare : goal.returns-clause-bare
returns-clause-bare c = lone_is_bare
