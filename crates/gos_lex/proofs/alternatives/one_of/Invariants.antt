use Rattle.std.proofs.Common.{◌≡◌, map}
use Rattle.gos_lex.specs.Items.{Misses}
use Rattle.gos_lex.proofs.WordTableLemmas.{IsAmongFirst}
use Rattle.gos_lex.proofs.alternatives.one_of.Given as goal

-- the words so far don't stand
abbrev pub invariant-loop-k : goal.invariant-loop-k
invariant-loop-k l =
    (l.cursor ≡ l.initial.cursor)
    × Misses (IsAmongFirst l.k (map (λ word. word.now) l.words)) l.initial.cursor.text l.initial.cursor.at l.furthest
