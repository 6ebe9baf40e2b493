use Rattle.gos_macro_tests.proofs.BufferLemmas.{buffer_passes}
use Rattle.gos_macro_tests.proofs.gates.BufferMacro.passes.Goals as goal

pub returns-clause-path : goal.returns-clause-path
returns-clause-path c = buffer_passes c.args._from c.args._to c.requires.from c.requires.to
