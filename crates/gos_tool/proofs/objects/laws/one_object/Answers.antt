use Rattle.gos_tool.proofs.lemmas.objects.RepeatedLemmas.{check_tells_one, compile_makes_one, says_one_plan}
use Rattle.gos_tool.proofs.objects.laws.one_object.Goals as goal

pub returns-clause-plan : goal.returns-clause-plan
returns-clause-plan c = says_one_plan c.accepted_sources.ensures.program c.accepted_sources.ensures.term c.one_plan.ensures

pub returns-clause-check : goal.returns-clause-check
returns-clause-check c = check_tells_one c.accepted_sources.ensures.program

pub returns-clause-compile : goal.returns-clause-compile
returns-clause-compile c =
    compile_makes_one c.accepted_sources.ensures.program
    (says_one_plan c.accepted_sources.ensures.program c.accepted_sources.ensures.term c.one_plan.ensures)
