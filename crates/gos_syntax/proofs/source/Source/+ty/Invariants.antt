use Rattle.std.proofs.Common.{◌+◌, ◌-◌, ◌*◌, length}
use Rattle.gos_syntax.proofs.source.Source.+ty.Given as goal

abbrev pub decreases-base : goal.decreases-base
decreases-base l = 3 * (length l.self.now.tokens.now - l.at)

abbrev pub decreases-product : goal.decreases-product
decreases-product l = 3 * (length l.self.now.tokens.now - l.at) + 1

abbrev pub decreases-ty : goal.decreases-ty
decreases-ty l = 3 * (length l.self.now.tokens.now - l.at) + 2
