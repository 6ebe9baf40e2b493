-- From what the scanner takes at a place to what stands there.
use Rattle.std.proofs.Common.{◌≡◌, ℕ, ◌+◌, ◌-◌, ◌<◌, ◌≤◌, List, length, take, drop, sym, subst, arith, length-drop, IsTrue, Option, Some, [], ◌∷◌, ◌++◌, append-nil}
use Rattle.std.specs.List.{slice_range}
use Rattle.std.specs.Prelude.{All}
use Rattle.std.proofs.lemmas.List.Elements.{All-nil, All-cons}
use Rattle.gos_lex.specs.declared.fault.LexFault.{LexFault}
use Rattle.gos_lex.specs.declared.fault.LexFault.TheVariants as faults
use Rattle.gos_lex.specs.Lexemes.{is_lexeme, IsLongest}
use Rattle.gos_lex.specs.Gaps.{IsSkipped}
use Rattle.gos_lex.specs.declared.token.Token.{Token}
use Rattle.gos_lex.specs.Tokens.{HasLexeme, IsTooGreat, IsTooLong, StandsIn, EndsWith, Reads, HasFault}
use Rattle.gos_lex.specs.inner.LexemeFaults.{IsLexemeFault}
use Rattle.gos_lex.proofs.PlaceLemmas.{rest_whole}

-- the longest lexeme at the front of the rest stands in the text
pub lexeme_here : (text : List ℕ) (at from len : ℕ) → IsSkipped text at from → 0 < len
    → (len ≤ length (take (length text - from) (drop from text)))
    → (0 < len → IsTrue (is_lexeme (take len (take (length text - from) (drop from text)))))
    → IsLongest len (take (length text - from) (drop from text)) → HasLexeme text at from (from + len)
lexeme_here text at from len skipped some within lexeme longest =
    let whole = rest_whole text from in
    let size : from + len - from ≡ len = omega arith in
    let inside : len ≤ length (drop from text) = rw whole at within in
    let front : IsTrue (is_lexeme (take len (drop from text))) = rw whole at (lexeme some) in
    let most : IsLongest len (drop from text) = rw whole at longest in
    record {
      skipped = skipped;
      some = omega arith;
      within = omega (arith, length-drop from text, skipped.within, inside);
      lexeme = rw size front;
      longest = rw size most;
    }

-- a lexeme that is no token ends the tokens
pub fault_ends : (text : List ℕ) (at from to : ℕ) (fault : LexFault) → HasLexeme text at from to → IsLexemeFault (slice_range text from to) from fault → EndsWith text at (Some fault)
fault_ends text at from to (faults.Number place) has is =
    let P : ℕ → Type 0 = λ n. HasLexeme text at n to × IsTooGreat (slice_range text n to) in
    let known = subst P (sym is.0) (has, is.1) in
    (to, known.0, known.1)
fault_ends text at from to (faults.Name place) has is =
    let P : ℕ → Type 0 = λ n. HasLexeme text at n to × IsTooLong (slice_range text n to) in
    let known = subst P (sym is.0) (has, is.1) in
    (to, known.0, known.1)
fault_ends text at from to fault has is = absurd is

-- the tokens so far and the ending that comes next are all that the text reads as
pub all_read : (text : List ℕ) (at : ℕ) (read : List Token) (ending : Option LexFault) → ((tokens : List Token) (end : Option LexFault) → Reads text at tokens end → Reads text 0 (read ++ tokens) end) → EndsWith text at ending → Reads text 0 read ending
all_read text at read ending onward ends = rw append-nil at (onward [] ending ends)

-- the fault that comes next is that of the text
pub fault_found : (text : List ℕ) (at : ℕ) (read : List Token) (fault : LexFault) → length text ≤ 65536 → ((tokens : List Token) (end : Option LexFault) → Reads text at tokens end → Reads text 0 (read ++ tokens) end) → EndsWith text at (Some fault) → HasFault text fault
fault_found text at read (faults.Byte place) short onward ends = (short, read, all_read text at read (Some (faults.Byte place)) onward ends)
fault_found text at read (faults.Number place) short onward ends = (short, read, all_read text at read (Some (faults.Number place)) onward ends)
fault_found text at read (faults.Name place) short onward ends = (short, read, all_read text at read (Some (faults.Name place)) onward ends)
fault_found text at read (faults.TooLong len) short onward ends = absurd ends
fault_found text at read faults.NoMemory short onward ends = absurd ends

-- each token that is read stands in the text
pub tokens_stand : (text : List ℕ) (at : ℕ) (tokens : List Token) (ending : Option LexFault) → Reads text at tokens ending → All (StandsIn text) tokens
tokens_stand text at [] ending reads = All-nil (StandsIn text)
tokens_stand text at (token ∷ tokens) ending reads =
    All-cons (StandsIn text) token tokens
    (record { some = reads.0.lexeme.some; within = reads.0.lexeme.within; kind = reads.0.kind })
    (tokens_stand text token.span.to tokens ending reads.1)
