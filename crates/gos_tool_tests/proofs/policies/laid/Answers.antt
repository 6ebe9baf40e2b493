use Rattle.gos_tool.proofs.lemmas.circuits.WholeLemmas.{can_be_laid}
use Rattle.gos_tool_tests.proofs.policies.laid.Goals as goal

pub expand-requires-clause-result : goal.expand-requires-clause-result
expand-requires-clause-result c = (can_be_laid c.args.build.now c.requires.0 c.args.plan.now c.is_in_range.ensures c.requires.1).ports.result

pub expand-requires-clause-ground : goal.expand-requires-clause-ground
expand-requires-clause-ground c = (can_be_laid c.args.build.now c.requires.0 c.args.plan.now c.is_in_range.ensures c.requires.1).ports.ground

pub expand-requires-clause-names : goal.expand-requires-clause-names
expand-requires-clause-names c = (can_be_laid c.args.build.now c.requires.0 c.args.plan.now c.is_in_range.ensures c.requires.1).names
