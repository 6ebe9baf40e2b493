use Rattle.gos_tool.proofs.RepeatedLemmas.{command_makes_one}
use Rattle.gos_tool.proofs.laws.same_files.Goals as goal

pub returns : goal.returns
returns c =
    command_makes_one c.one_build.ensures.build c.one_object.ensures.check c.one_object.ensures.compile c.one_link.ensures.link c.one_trace.ensures.sim c.one_circuit.ensures c.one_verification.ensures
