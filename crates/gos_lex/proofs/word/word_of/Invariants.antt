use Rattle.std.proofs.Common.{◌≡◌, false, take}
use Rattle.std.specs.List.{list_any}
use Rattle.std.specs.Str.{bytes_eq}
use Rattle.gos_lex.specs.Words.{word_text}
use Rattle.gos_lex.proofs.word.word_of.Given as goal

-- the bytes are none of the words so far
abbrev pub invariant-loop-word : goal.invariant-loop-word
invariant-loop-word l = list_any (λ word. bytes_eq l.bytes (word_text word)) (take l.word-index l.word-items) ≡ false
