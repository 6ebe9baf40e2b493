use Rattle.gos_tool.proofs.lemmas.objects.CompiledLemmas.{plan_is_for}
use Rattle.gos_tool.proofs.objects.compiling.plan_for.Goals as goal

pub returns : goal.returns
returns c =
    plan_is_for c.modules.ensures.realised c.args.linear.now c.term-term.ensures.checked c.compile.result
    c.compile.ensures.plan c.compile.ensures.slim c.compile.ensures.read_back
