use Rattle.gos_supplies.proofs.turns.ApplyLemmas.{applying_rests}
use Rattle.gos_supplies.proofs.turns.NameLemmas.{name_rests}
use Rattle.gos_supplies.proofs.turns.NumberRestLemmas.{renumbered_rests}
use Rattle.gos_supplies.proofs.turns.OpenedLemmas.{function_rests}
use Rattle.gos_supplies.proofs.turns.PairLemmas.{pair_plan_rests, pair_rests}
use Rattle.gos_supplies.proofs.turns.ServeLemmas.{serving_rests}
use Rattle.gos_supplies.proofs.turns.SideLemmas.{sides_rest}
use Rattle.gos_supplies.proofs.laws.turns.rests.Goals as goal

pub returns-clause-applied : goal.returns-clause-applied
returns-clause-applied c = applying_rests

pub returns-clause-served : goal.returns-clause-served
returns-clause-served c = serving_rests

pub returns-clause-sides : goal.returns-clause-sides
returns-clause-sides c = sides_rest

pub returns-clause-function : goal.returns-clause-function
returns-clause-function c = function_rests

pub returns-clause-name : goal.returns-clause-name
returns-clause-name c = name_rests

pub returns-clause-maker : goal.returns-clause-maker
returns-clause-maker c = pair_plan_rests

pub returns-clause-pair : goal.returns-clause-pair
returns-clause-pair c = pair_rests

pub returns-clause-renumbered : goal.returns-clause-renumbered
returns-clause-renumbered c = renumbered_rests
