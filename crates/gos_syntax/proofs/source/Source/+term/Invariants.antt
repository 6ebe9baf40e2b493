use Rattle.std.proofs.Common.{◌+◌, ◌-◌, ◌*◌, length}
use Rattle.gos_syntax.specs.Grammar.{App, Bits, Sum}
use Rattle.gos_syntax.specs.Symbols.{AppTail, BitsTail, SumTail}
use Rattle.gos_syntax.specs.inner.Phrases.{IsReadSoFar}
use Rattle.gos_syntax.proofs.source.Source.+term.Given as goal

-- what was read so far is an application
abbrev pub invariant-app-loop-alloc : goal.invariant-app-loop-alloc
invariant-app-loop-alloc l = IsReadSoFar l.self App AppTail l.at l.function.value l.end

abbrev pub decreases-app-loop-alloc : goal.decreases-app-loop-alloc
decreases-app-loop-alloc l = length l.self.tokens.now - l.end

-- what was read so far is an operation on bits
abbrev pub invariant-bits-loop-op : goal.invariant-bits-loop-op
invariant-bits-loop-op l = IsReadSoFar l.self Bits BitsTail l.at l.left.value l.end

abbrev pub decreases-bits-loop-op : goal.decreases-bits-loop-op
decreases-bits-loop-op l = length l.self.tokens.now - l.end

-- what was read so far is a sum
abbrev pub invariant-sum-loop-op : goal.invariant-sum-loop-op
invariant-sum-loop-op l = IsReadSoFar l.self Sum SumTail l.at l.left.value l.end

abbrev pub decreases-sum-loop-op : goal.decreases-sum-loop-op
decreases-sum-loop-op l = length l.self.tokens.now - l.end

abbrev pub decreases-brackets : goal.decreases-brackets
decreases-brackets l = 12 * (length l.self.now.tokens.now - l.at) + 0

abbrev pub decreases-choice : goal.decreases-choice
decreases-choice l = 12 * (length l.self.now.tokens.now - l.at) + 0

abbrev pub decreases-repetition : goal.decreases-repetition
decreases-repetition l = 12 * (length l.self.now.tokens.now - l.at) + 0

abbrev pub decreases-function : goal.decreases-function
decreases-function l = 12 * (length l.self.now.tokens.now - l.at) + 0

abbrev pub decreases-block : goal.decreases-block
decreases-block l = 12 * (length l.self.now.tokens.now - l.at) + 0

abbrev pub decreases-atom : goal.decreases-atom
decreases-atom l = 12 * (length l.self.now.tokens.now - l.at) + 1

abbrev pub decreases-pre : goal.decreases-pre
decreases-pre l = 12 * (length l.self.now.tokens.now - l.at) + 2

abbrev pub decreases-app : goal.decreases-app
decreases-app l = 12 * (length l.self.now.tokens.now - l.at) + 3

abbrev pub decreases-sum : goal.decreases-sum
decreases-sum l = 12 * (length l.self.now.tokens.now - l.at) + 4

abbrev pub decreases-bits : goal.decreases-bits
decreases-bits l = 12 * (length l.self.now.tokens.now - l.at) + 5

abbrev pub decreases-rel : goal.decreases-rel
decreases-rel l = 12 * (length l.self.now.tokens.now - l.at) + 6

abbrev pub decreases-assignment : goal.decreases-assignment
decreases-assignment l = 12 * (length l.self.now.tokens.now - l.at) + 7

abbrev pub decreases-cmd : goal.decreases-cmd
decreases-cmd l = 12 * (length l.self.now.tokens.now - l.at) + 8

abbrev pub decreases-par : goal.decreases-par
decreases-par l = 12 * (length l.self.now.tokens.now - l.at) + 9

abbrev pub decreases-sequence : goal.decreases-sequence
decreases-sequence l = 12 * (length l.self.now.tokens.now - l.at) + 10

abbrev pub decreases-term : goal.decreases-term
decreases-term l = 12 * (length l.self.now.tokens.now - l.at) + 11
