use Rattle.gos_pace.proofs.SmallInputLemmas.{answer_is_clean, stray_is_in_range, wide_is_not_in_range, giving_is_silent}
use Rattle.gos_pace.proofs.laws.small_inputs.Goals as goal

pub returns-clause-clean : goal.returns-clause-clean
returns-clause-clean c = answer_is_clean

pub returns-clause-stray : goal.returns-clause-stray
returns-clause-stray c = stray_is_in_range

pub returns-clause-wide : goal.returns-clause-wide
returns-clause-wide c = wide_is_not_in_range

pub returns-clause-silent : goal.returns-clause-silent
returns-clause-silent c = giving_is_silent
