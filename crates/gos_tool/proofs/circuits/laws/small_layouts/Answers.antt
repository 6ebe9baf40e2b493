use Rattle.gos_tool.proofs.lemmas.circuits.SmallLaidLemmas.{straight_is_few, registers_are_not_few, tidied_is_fast, registers_are_not_fast}
use Rattle.gos_tool.proofs.circuits.laws.small_layouts.Goals as goal

pub returns-clause-few : goal.returns-clause-few
returns-clause-few c = straight_is_few c.small_choices.ensures.none c.small_nets.ensures.chosen

pub returns-clause-not_few : goal.returns-clause-not_few
returns-clause-not_few c = registers_are_not_few c.small_choices.ensures.none c.small_nets.ensures.chosen c.one_layout.ensures

pub returns-clause-fast : goal.returns-clause-fast
returns-clause-fast c = tidied_is_fast c.small_fast.ensures.fast

pub returns-clause-not_fast : goal.returns-clause-not_fast
returns-clause-not_fast c = registers_are_not_fast c.small_fast.ensures.fast c.fast_circuits.ensures.one
