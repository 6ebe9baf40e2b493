-- A text reads in at most one way: by induction on the tokens, from what may stand next at a place.
use Rattle.std.proofs.Common.{◌≡◌, ◌≢◌, inl, inr, ℕ, zero, suc, ◌+◌, ◌-◌, ◌<◌, ◌≤◌, cond, nat_eq, List, [], ◌∷◌, length, take, drop, refl, sym, ◌∙◌, ap, subst, arith, length-drop, IsTrue, Option, Some, None}
use Rattle.std.specs.List.{slice_range}
use Rattle.std.proofs.lemmas.Bool.{eq-eqb, ne_eqb, cases_lt}
use Rattle.gos_lex.specs.declared.token.Token.{Token}
use Rattle.gos_lex.specs.declared.fault.LexFault.{LexFault}
use Rattle.gos_lex.specs.declared.fault.LexFault.TheVariants as faults
use Rattle.gos_lex.specs.Lexemes.{is_lexeme, IsLongest}
use Rattle.gos_lex.specs.Gaps.{IsSkipped}
use Rattle.gos_lex.specs.Tokens.{HasLexeme, IsNext, EndsWith, Reads, HasFault}
use Rattle.gos_lex.specs.OneReading.{ReadsInOneWay, FaultsExcludeTokens, HasOneFault}
use Rattle.gos_lex.proofs.GapLemmas.{skipped_once}
use Rattle.gos_lex.proofs.ClassLemmas.{Outcome, AToken, AnEnd, class_of, class_of_kind, class_of_great, class_of_long}

-- after what is skipped, the longest lexeme has `len` bytes, or none where `len` is 0
record Stands (text : List ℕ) (at from len : ℕ) : Type 0 where
  skipped : IsSkipped text at from
  lexeme : 0 < len → IsTrue (is_lexeme (take len (drop from text)))
  within : len ≤ length (drop from text)
  longest : IsLongest len (drop from text)

not_longer : (bytes : List ℕ) (one other : ℕ) → (0 < one → IsTrue (is_lexeme (take one bytes))) → one ≤ length bytes → IsLongest other bytes → one ≤ other
not_longer bytes zero other lexeme within longest = omega arith
not_longer bytes (suc one) other lexeme within longest = longest (suc one) within (lexeme (omega arith))

-- what stands next at a place stands there alone
stands_once : (text : List ℕ) (at from len place size : ℕ) → Stands text at from len → Stands text at place size → (from ≡ place) × (len ≡ size)
stands_once text at from len place size one two =
    let same = skipped_once text at from place one.skipped two.skipped in
    let P : ℕ → Type 0 = λ n. Stands text at n size in
    let other = subst P (sym same) two in
    let low = not_longer (drop from text) len size one.lexeme one.within other.longest in
    let high = not_longer (drop from text) size len other.lexeme other.within one.longest in
    (same, omega (arith, low, high))

-- what is read next, where the longest lexeme at `from` has `len` bytes
abbrev outcome : List ℕ → ℕ → ℕ → Outcome
outcome text from len =
    cond (nat_eq len 0) (cond (nat_eq from (length text)) (AnEnd None) (AnEnd (Some (faults.Byte from)))) (class_of from (slice_range text from (from + len)))

-- the place, the length and the outcome at once
record Comes (text : List ℕ) (at from len : ℕ) (next : Outcome) : Type 0 where
  stands : Stands text at from len
  is : outcome text from len ≡ next

comes_once : (text : List ℕ) (at from len place size : ℕ) (next other : Outcome) → Comes text at from len next → Comes text at place size other → (from ≡ place) × (len ≡ size) × (next ≡ other)
comes_once text at from len place size next other one two =
    let same = stands_once text at from len place size one.stands two.stands in
    (same.0, same.1, sym one.is ∙ (ap (λ n. outcome text n len) same.0 ∙ (ap (outcome text place) same.1 ∙ two.is)))

lexeme_stands : (text : List ℕ) (at from to : ℕ) → HasLexeme text at from to → Stands text at from (to - from)
lexeme_stands text at from to has =
    record { skipped = has.skipped; lexeme = λ _. has.lexeme; within = omega (arith, length-drop from text, has.within, has.some); longest = has.longest }

lexeme_comes : (text : List ℕ) (at from to : ℕ) (next : Outcome) → HasLexeme text at from to → class_of from (slice_range text from to) ≡ next → Comes text at from (to - from) next
lexeme_comes text at from to next has is =
    let some = ne_eqb (to - from) 0 (λ none. absurd (omega (arith, none, has.some))) in
    let size : from + (to - from) ≡ to = omega (arith, has.some) in
    record { stands = lexeme_stands text at from to has; is = rw (some, size) is }

token_comes : (text : List ℕ) (at : ℕ) (token : Token) → IsNext text at token → Comes text at token.span.from (token.span.to - token.span.from) (AToken token.kind)
token_comes text at token next =
    lexeme_comes text at token.span.from token.span.to (AToken token.kind) next.lexeme
    (class_of_kind token.span.from (slice_range text token.span.from token.span.to) token.kind next.kind)

-- some place and length at which an ending comes
abbrev ComesSomewhere : List ℕ → ℕ → Option LexFault → Type 0
ComesSomewhere text at ending = (from : ℕ) × (len : ℕ) × Comes text at from len (AnEnd ending)

ending_comes : (text : List ℕ) (at : ℕ) (ending : Option LexFault) → EndsWith text at ending → ComesSomewhere text at ending
ending_comes text at None ends =
    let here = eq-eqb (length text) (length text) refl in (
      length text,
      0,
      record {
        stands = record { skipped = ends; lexeme = λ some. absurd (omega (arith, some)); within = omega arith; longest = λ n within lexeme. omega (arith, within, length-drop (length text) text) };
        is = rw here refl;
      },
    )
ending_comes text at (Some (faults.Byte from)) ends =
    let here = ne_eqb from (length text) (λ same. absurd (omega (arith, same, ends.within))) in (
      from,
      0,
      record {
        stands = record { skipped = ends.skipped; lexeme = λ some. absurd (omega (arith, some)); within = omega arith; longest = ends.none };
        is = rw here refl;
      },
    )
ending_comes text at (Some (faults.Number from)) ends =
    (from, ends.0 - from, lexeme_comes text at from ends.0 (AnEnd (Some (faults.Number from))) ends.1 (class_of_great from (slice_range text from ends.0) ends.2))
ending_comes text at (Some (faults.Name from)) ends =
    (from, ends.0 - from, lexeme_comes text at from ends.0 (AnEnd (Some (faults.Name from))) ends.1 (class_of_long from (slice_range text from ends.0) ends.2))
ending_comes text at (Some (faults.TooLong len)) ends = absurd ends
ending_comes text at (Some faults.NoMemory) ends = absurd ends

same_token : (one other : Token) → one.kind ≡ other.kind → one.span.from ≡ other.span.from → one.span.to ≡ other.span.to → one ≡ other
same_token one other kind from to = λ i. record { kind = kind i; span = record { from = from i; to = to i } }

-- of two readings from a place on
one_way : (text : List ℕ) (at : ℕ) (tokens others : List Token) (ending other : Option LexFault) → Reads text at tokens ending → Reads text at others other → (tokens ≡ others) × (ending ≡ other)
one_way text at [] [] ending other reads reads' =
    let one = ending_comes text at ending reads in
    let two = ending_comes text at other reads' in
    let same = comes_once text at one.0 one.1 two.0 two.1 (AnEnd ending) (AnEnd other) one.2 two.2 in
    let known : AnEnd ending ≡ AnEnd other = same.2 in
    (refl, cc known)
one_way text at [] (token ∷ others) ending other reads reads' =
    let one = ending_comes text at ending reads in
    let same = comes_once text at one.0 one.1 token.span.from (token.span.to - token.span.from) (AnEnd ending) (AToken token.kind) one.2 (token_comes text at token reads'.0) in
    let known : AnEnd ending ≡ AToken token.kind = same.2 in
    absurd (cc known)
one_way text at (token ∷ tokens) [] ending other reads reads' =
    let two = ending_comes text at other reads' in
    let same = comes_once text at token.span.from (token.span.to - token.span.from) two.0 two.1 (AToken token.kind) (AnEnd other) (token_comes text at token reads.0) two.2 in
    let known : AToken token.kind ≡ AnEnd other = same.2 in
    absurd (cc known)
one_way text at (token ∷ tokens) (first ∷ others) ending other reads reads' =
    let same = comes_once text at token.span.from (token.span.to - token.span.from) first.span.from (first.span.to - first.span.from) (AToken token.kind) (AToken first.kind)
    (token_comes text at token reads.0) (token_comes text at first reads'.0) in
    let known : AToken token.kind ≡ AToken first.kind = same.2 in
    let kind : token.kind ≡ first.kind = cc known in
    let to : token.span.to ≡ first.span.to = omega (arith, same.0, same.1, reads.0.lexeme.some, reads'.0.lexeme.some) in
    let P : ℕ → Type 0 = λ n. Reads text n others other in
    let after = one_way text token.span.to tokens others ending other reads.1 (subst P (sym to) reads'.1) in
    let head : token ≡ first = same_token token first kind same.0 to in
    (λ i. head i ∷ after.0 i, after.1)

pub reads_in_one_way : (text : List ℕ) → ReadsInOneWay text
reads_in_one_way text tokens others ending other reads reads' = one_way text 0 tokens others ending other reads reads'

-- a fault other than the length and want of memory, as an ending
abbrev EndsInFault : List ℕ → LexFault → Type 0
EndsInFault text fault = (tokens : List Token) × Reads text 0 tokens (Some fault)

fault_ends_reading : (text : List ℕ) (fault : LexFault) → HasFault text fault → fault ≢ faults.NoMemory → length text ≤ 65536 → EndsInFault text fault
fault_ends_reading text (faults.Byte from) has apart short = (has.1, has.2)
fault_ends_reading text (faults.Number from) has apart short = (has.1, has.2)
fault_ends_reading text (faults.Name from) has apart short = (has.1, has.2)
fault_ends_reading text (faults.TooLong len) has apart short = absurd (omega (arith, has.0, short))
fault_ends_reading text faults.NoMemory has apart short = absurd (apart refl)

pub faults_exclude_tokens : (text : List ℕ) → FaultsExcludeTokens text
faults_exclude_tokens text fault tokens has apart short reads =
    let ends = fault_ends_reading text fault has apart short in
    let same = one_way text 0 ends.0 tokens (Some fault) None ends.1 reads in
    let known : Some fault ≡ None = same.1 in
    absurd (cc known)

long_fault : (text : List ℕ) (fault : LexFault) → HasFault text fault → fault ≢ faults.NoMemory → 65536 < length text → fault ≡ faults.TooLong (length text)
long_fault text (faults.Byte from) has apart long = absurd (omega (arith, has.0, long))
long_fault text (faults.Number from) has apart long = absurd (omega (arith, has.0, long))
long_fault text (faults.Name from) has apart long = absurd (omega (arith, has.0, long))
long_fault text (faults.TooLong len) has apart long = ap (λ (n : ℕ). faults.TooLong n) has.1
long_fault text faults.NoMemory has apart long = absurd (apart refl)

pub has_one_fault : (text : List ℕ) → HasOneFault text
has_one_fault text fault other has has' apart apart' =
    elim (cases_lt 65536 (length text)) [
      | inl long ↦ long_fault text fault has apart long ∙ sym (long_fault text other has' apart' long)
      | inr short ↦
          let one = fault_ends_reading text fault has apart short in
          let two = fault_ends_reading text other has' apart' short in
          let same = one_way text 0 one.0 two.0 (Some fault) (Some other) one.1 two.1 in
          let known : Some fault ≡ Some other = same.1 in
          cc known
    ]
