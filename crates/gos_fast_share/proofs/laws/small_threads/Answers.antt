use Rattle.std.proofs.Common.{refl}
use Rattle.gos_fast_share.proofs.laws.small_threads.Goals as goal

pub returns-clause-branch : goal.returns-clause-branch
returns-clause-branch c = (refl, refl, refl, refl)

pub returns-clause-laid : goal.returns-clause-laid
returns-clause-laid c = λ b i. refl

pub returns-clause-answer : goal.returns-clause-answer
returns-clause-answer c = λ b i. refl

pub returns-clause-loops : goal.returns-clause-loops
returns-clause-loops c = (refl, refl)
