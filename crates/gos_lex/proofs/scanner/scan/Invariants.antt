use Rattle.std.proofs.Common.{◌-◌, ◌≤◌, List, ◌++◌, length, Option}
use Rattle.gos_lex.specs.declared.fault.LexFault.{LexFault}
use Rattle.gos_lex.specs.declared.token.Token.{Token}
use Rattle.gos_lex.specs.Tokens.{Reads}
use Rattle.gos_lex.proofs.scanner.scan.Given as goal

-- whatever the rest reads as, the text reads as the tokens so far and then that
abbrev pub invariant-loop-tokens : goal.invariant-loop-tokens
invariant-loop-tokens l =
    (l.at ≤ length l.text)
    × ((tokens : List Token) (ending : Option LexFault) → Reads l.text l.at tokens ending → Reads l.text 0 (l.tokens.items ++ tokens) ending)

abbrev pub decreases-loop-tokens : goal.decreases-loop-tokens
decreases-loop-tokens l = length l.initial.text - l.at
