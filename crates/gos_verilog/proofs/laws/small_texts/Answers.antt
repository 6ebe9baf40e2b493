use Rattle.gos_verilog.proofs.SmallTextLemmas.{latch_has_text, unreset_is_none, longer_is_none}
use Rattle.gos_verilog.proofs.laws.small_texts.Goals as goal

pub returns-clause-latch : goal.returns-clause-latch
returns-clause-latch c = latch_has_text

pub returns-clause-reset : goal.returns-clause-reset
returns-clause-reset c = unreset_is_none

pub returns-clause-end : goal.returns-clause-end
returns-clause-end c = longer_is_none
