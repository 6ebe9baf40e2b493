use Rattle.gos_macro.specs.laws.SkipKept.{skip_gates}
use Rattle.gos_macro.proofs.GatesLemmas.{shared_gates}
use Rattle.gos_macro.proofs.ChoiceLemmas.{silence_is_no_answer, choice_shows_one, repeat_shows_one}
use Rattle.gos_macro.proofs.laws.gates.small_gates.Goals as goal

pub returns-clause-skip : goal.returns-clause-skip
returns-clause-skip c = skip_gates

pub returns-clause-share : goal.returns-clause-share
returns-clause-share c = shared_gates

pub returns-clause-silence : goal.returns-clause-silence
returns-clause-silence c = silence_is_no_answer

pub returns-clause-choice : goal.returns-clause-choice
returns-clause-choice c = choice_shows_one

pub returns-clause-repeat : goal.returns-clause-repeat
returns-clause-repeat c = repeat_shows_one
