use Rattle.gos_pulse.proofs.SilenceLemmas.{nothing_is_a_run, silence_is_a_run}
use Rattle.gos_pulse.proofs.laws.runs_go_on.Goals as goal

pub returns-clause-nothing : goal.returns-clause-nothing
returns-clause-nothing c = nothing_is_a_run

pub returns-clause-silence : goal.returns-clause-silence
returns-clause-silence c = silence_is_a_run
