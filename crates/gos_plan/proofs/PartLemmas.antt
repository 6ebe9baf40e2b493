-- The line of a part: its word, and behind it what the word wants.
use Rattle.std.proofs.Common.{◌≡◌, inl, inr, ℕ, zero, suc, nat_eq, if◌then◌else◌, ◌-◌, ◌^◌, ◌<◌, ◌≤◌, false, List, [], ◌∷◌, ◌++◌, refl, sym, ◌∙◌, ap, subst, arith}
use Rattle.std.specs.Char.{is_ascii_digit}
use Rattle.std.proofs.Math.Nat.{pow-le-pow_right, one-le-pow}
use Rattle.std.proofs.lemmas.Fmt.{decimal_digit, decimal_step}
use Rattle.gos_types.specs.Types.{Type', Com}
use Rattle.gos_types.specs.declared.widths.TheConstants.{GREATEST_WIDTH}
use Rattle.gos_lex.specs.Items.{TextAt}
use Rattle.gos_plan.specs.declared.kinds.Op2.{Op2}
use Rattle.gos_plan.specs.declared.kinds.Op2.TheVariants as ops
use Rattle.gos_plan.specs.declared.word.BareWord.{BareWord}
use Rattle.gos_plan.specs.declared.word.BareWord.TheVariants as bare
use Rattle.gos_plan.specs.declared.word.SizedWord.{SizedWord}
use Rattle.gos_plan.specs.declared.word.SizedWord.TheVariants as sized
use Rattle.gos_plan.specs.declared.word.PartWord.{PartWord}
use Rattle.gos_plan.specs.declared.word.PartWord.TheVariants as parts
use Rattle.gos_plan.specs.declared.word.BodyWord.{BodyWord}
use Rattle.gos_plan.specs.declared.word.BodyWord.TheVariants as bodies
use Rattle.gos_plan.specs.declared.word.LengthWord.{LengthWord}
use Rattle.gos_plan.specs.declared.word.LengthWord.TheVariants as lengths
use Rattle.gos_plan.specs.Kinds.{Part, Skip, Lit, Seq, Par, If, While, Op, Not, Assign, Deref, Local, Array, Share}
use Rattle.gos_model.specs.Terms.{Op as Operation, Add, Sub, And, Or, Xor, Eq, Less}
use Rattle.gos_model.specs.Typing.{IsLength}
use Rattle.gos_plan.specs.Seen.{operation_of}
use Rattle.gos_plan.specs.declared.format.Format.{Format}
use Rattle.gos_plan.specs.Formats.{greatest, HasArrays, IsWidthIn}
use Rattle.gos_lex.specs.ItemTexts.{IsInRange}
use Rattle.gos_plan.specs.TextItems.{Item, Reads, both, exactly, words, number_in}
use Rattle.gos_plan.specs.ObjectText.{number_text, word_text, operator_for, word_of, bits_text, body_text, operands_text, IsWritablePart}
use Rattle.gos_plan.specs.ObjectItems.{body_word_text, body, body_word_of, body_operand, length_of_word, length_text, array_length, literal_numbers, local_numbers, array_numbers, typed, bare_part, sized_part, IsWordIn, part_words, part_operands, part_line}
use Rattle.gos_plan.proofs.TextLemmas.{Lawful, Via, lawful_both, lawful_plain, lawful_exactly, via_lawful, both_read, reads_as}
use Rattle.gos_plan.proofs.TableLemmas.{code_of, lawful_words}
use Rattle.gos_plan.proofs.WordLemmas.{part_table, body_table, length_table}
use Rattle.gos_plan.proofs.ItemLemmas.{lawful_number}
use Rattle.gos_plan.proofs.FormatLemmas.{greatest_is, some_width}
use Rattle.gos_plan.proofs.TypeLemmas.{lawful_typed}

-- What a Local runs: a word, and bits behind it where it is an expression.
body_parts : (v : ℕ) → body_text v ≡ body_word_text (body_word_of v) ++ bits_text v
body_parts zero = refl
body_parts (suc v) = refl

pub body_via : (format : Format) → Via (body format) (both (words BodyWord body_word_text) (body_operand format))
body_via format =
    record {
      into = λ v. (body_word_of v, v);
      from = λ v. v.1;
      text = λ v is. body_parts v;
      is = λ v is. (tt, (is, refl));
      keeps = λ v is keeps. (tt, tt);
      back = λ v is. refl;
      from_is = λ v is. is.1.0;
      there = λ v is. (λ i. (is.1.1 i, v.1));
      over = λ source at place over. absurd over;
      over_back = λ source at place over. none source at place over;
    }
  where
    none : (source : List ℕ) (at place : ℕ) → (both (words BodyWord body_word_text) (body_operand format)).Over source at place → ⊥
    none source at place (inl over) = over
    none source at place (inr (word, mid, is, keeps, spans, over)) = over

some_bits : (v : ℕ) → body_word_of v ≡ bodies.Exp → (1 ≤ v) × (bits_text v ≡ number_text 10 v)
some_bits zero same = absurd cc
some_bits (suc v) same = (omega arith, refl)

no_bits : (v : ℕ) → body_word_of v ≡ bodies.Com → v ≡ 0
no_bits zero same = refl
no_bits (suc v) same = absurd cc

exp_word : (v : ℕ) → 1 ≤ v → body_word_of v ≡ bodies.Exp
exp_word zero some = absurd (omega (arith, some))
exp_word (suc v) some = refl

pub body_exp_via : (format : Format) → Via (body_operand format bodies.Exp) (number_in 1 (greatest format) 10)
body_exp_via format =
    record {
      into = λ v. v;
      from = λ v. v;
      text = λ v is. (some_bits v is.1).1;
      is = λ v is. ((some_bits v is.1).0, is.0);
      keeps = λ v is keeps. tt;
      back = λ v is. refl;
      from_is = λ v is. (is.1, exp_word v is.0);
      there = λ v is. refl;
      over = λ source at place over. over;
      over_back = λ source at place over. over;
    }

body_com_via : (format : Format) → Via (body_operand format bodies.Com) (exactly [])
body_com_via format =
    record {
      into = λ v. tt;
      from = λ v. 0;
      text = λ v is. ap bits_text (no_bits v is.1);
      is = λ v is. tt;
      keeps = λ v is keeps. tt;
      back = λ v is. sym (no_bits v is.1);
      from_is = λ v is. (omega arith, refl);
      there = λ v is. refl;
      over = λ source at place over. over;
      over_back = λ source at place over. over;
    }

lawful_body_operand : (format : Format) (word : BodyWord) → Lawful (body_operand format word)
lawful_body_operand format bodies.Com = via_lawful (body_operand format bodies.Com) (exactly []) (body_com_via format) (lawful_exactly [])
lawful_body_operand format bodies.Exp = via_lawful (body_operand format bodies.Exp) (number_in 1 (greatest format) 10) (body_exp_via format) (lawful_number 1 (greatest format) 10 (greatest_is format).0 (omega (arith, (greatest_is format).1)) refl)

pub some_body_operand : (format : Format) (word : BodyWord) → (v : ℕ) × (body_operand format word).Is v
some_body_operand format word = let law = lawful_body_operand format word in (law.some, law.some_is)

pub lawful_body_words : Lawful (words BodyWord body_word_text)
lawful_body_words = lawful_words BodyWord body_word_text body_table bodies.Com

pub lawful_body : (format : Format) → Lawful (body format)
lawful_body format = via_lawful (body format) (both (words BodyWord body_word_text) (body_operand format)) (body_via format) (lawful_both (words BodyWord body_word_text) (body_operand format) lawful_body_words (λ word is. lawful_body_operand format word))

-- the word of an expression, and its bits
pub exp_reads : (format : Format) (v : ℕ) (old mid new : TextAt) → Reads (words BodyWord body_word_text) old mid bodies.Exp → Reads (number_in 1 (greatest format) 10) mid new v → Reads (body format) old new v
exp_reads format v old mid new first second =
    reads_as (body format) (both (words BodyWord body_word_text) (λ word. number_in 1 (greatest format) 10)) old new v (bodies.Exp, v) (exp_text v second.is.0) second.is.1 tt
    (both_read (words BodyWord body_word_text) (λ word. number_in 1 (greatest format) 10) old mid new bodies.Exp v first second)
  where
    exp_text : (v : ℕ) → 1 ≤ v → body_text v ≡ body_word_text bodies.Exp ++ number_text 10 v
    exp_text zero some = absurd (omega (arith, some))
    exp_text (suc v) some = refl

-- The length of an array, as one of four words.
abbrev word_of_length : ℕ → LengthWord
word_of_length n = if nat_eq n 2 then lengths.Two else if nat_eq n 4 then lengths.Four else if nat_eq n 8 then lengths.Eight else lengths.Sixteen

length_back : (n : ℕ) → IsLength n → length_of_word (word_of_length n) ≡ n
length_back n (inl is) = subst (λ (k : ℕ). length_of_word (word_of_length k) ≡ k) (sym is) refl
length_back n (inr (inl is)) = subst (λ (k : ℕ). length_of_word (word_of_length k) ≡ k) (sym is) refl
length_back n (inr (inr (inl is))) = subst (λ (k : ℕ). length_of_word (word_of_length k) ≡ k) (sym is) refl
length_back n (inr (inr (inr is))) = subst (λ (k : ℕ). length_of_word (word_of_length k) ≡ k) (sym is) refl

pub is_length : (word : LengthWord) → IsLength (length_of_word word)
is_length lengths.Two = inl refl
is_length lengths.Four = inr (inl refl)
is_length lengths.Eight = inr (inr (inl refl))
is_length lengths.Sixteen = inr (inr (inr refl))

word_back : (word : LengthWord) → word_of_length (length_of_word word) ≡ word
word_back lengths.Two = refl
word_back lengths.Four = refl
word_back lengths.Eight = refl
word_back lengths.Sixteen = refl

-- and as it is written
pub length_is : (word : LengthWord) → number_text 32 (length_of_word word) ≡ length_text word
length_is lengths.Two = ap (λ digits. digits ++ 32 ∷ []) (decimal_digit 2 (omega arith))
length_is lengths.Four = ap (λ digits. digits ++ 32 ∷ []) (decimal_digit 4 (omega arith))
length_is lengths.Eight = ap (λ digits. digits ++ 32 ∷ []) (decimal_digit 8 (omega arith))
length_is lengths.Sixteen =
    ap (λ digits. digits ++ 32 ∷ []) (decimal_step 16 (omega arith) (omega arith) ∙ ap (λ digits. digits ++ 54 ∷ []) (decimal_digit 1 (omega arith)))

pub length_via : Via array_length (words LengthWord length_text)
length_via =
    record {
      into = word_of_length;
      from = length_of_word;
      text = λ n is. ap (number_text 32) (sym (length_back n is)) ∙ length_is (word_of_length n);
      is = λ n is. tt;
      keeps = λ n is keeps. tt;
      back = length_back;
      from_is = λ word is. is_length word;
      there = λ word is. word_back word;
      over = λ source at place over. over;
      over_back = λ source at place over. over;
    }

pub lawful_length : Lawful array_length
lawful_length = via_lawful array_length (words LengthWord length_text) length_via (lawful_words LengthWord length_text length_table lengths.Two)

-- what stands behind the width of an array
abbrev pub sized_body : (format : Format) → Item
sized_body format = both array_length (λ n. body format)

pub lawful_sized_body : (format : Format) → Lawful (sized_body format)
lawful_sized_body format = lawful_both array_length (λ n. body format) lawful_length (λ n is. lawful_body format)

-- A part by its word and its operands.
abbrev first_of : Part → ℕ
first_of Skip = 0
first_of (Lit w k) = w
first_of (Seq v) = v
first_of Par = 0
first_of (If v) = v
first_of While = 0
first_of (Op op w) = w
first_of (Not w) = w
first_of (Assign w) = w
first_of (Deref w) = w
first_of (Local w v) = w
first_of (Array w n v) = w
first_of (Share t) = 0

abbrev second_of : Part → ℕ
second_of (Lit w k) = k
second_of (Local w v) = v
second_of (Array w n v) = v
second_of k = 0

abbrev length_of : Part → ℕ
length_of (Array w n v) = n
length_of k = 0

abbrev source_of : Part → Type'
source_of (Share t) = t
source_of k = Com

abbrev rebuilt : PartWord → ℕ → ℕ → ℕ → Type' → Part
rebuilt (parts.Bare word) w n k t = bare_part word
rebuilt (parts.Sized word) w n k t = sized_part word w
rebuilt parts.Lit w n k t = Lit w k
rebuilt parts.Local w n k t = Local w k
rebuilt parts.Array w n k t = Array w n k
rebuilt parts.Share w n k t = Share t

operation_back : (op : Operation) → op ≡ operation_of (operator_for op)
operation_back Add = refl
operation_back Sub = refl
operation_back And = refl
operation_back Or = refl
operation_back Xor = refl
operation_back Eq = refl
operation_back Less = refl

operator_back : (op : Op2) → operator_for (operation_of op) ≡ op
operator_back ops.Add = refl
operator_back ops.Sub = refl
operator_back ops.And = refl
operator_back ops.Or = refl
operator_back ops.Xor = refl
operator_back ops.Eq = refl
operator_back ops.Less = refl

rebuilt_own : (k : Part) → k ≡ rebuilt (word_of k) (first_of k) (length_of k) (second_of k) (source_of k)
rebuilt_own Skip = refl
rebuilt_own (Lit w k) = refl
rebuilt_own (Seq zero) = refl
rebuilt_own (Seq (suc v)) = refl
rebuilt_own Par = refl
rebuilt_own (If zero) = refl
rebuilt_own (If (suc v)) = refl
rebuilt_own While = refl
rebuilt_own (Op op w) = ap (λ (o : Operation). Op o w) (operation_back op)
rebuilt_own (Not w) = refl
rebuilt_own (Assign w) = refl
rebuilt_own (Deref w) = refl
rebuilt_own (Local w v) = refl
rebuilt_own (Array w n v) = refl
rebuilt_own (Share t) = refl

is_of : (word : PartWord) (k : Part) → word_of k ≡ word → k ≡ rebuilt word (first_of k) (length_of k) (second_of k) (source_of k)
is_of word k same = rebuilt_own k ∙ ap (λ (u : PartWord). rebuilt u (first_of k) (length_of k) (second_of k) (source_of k)) same

bare_is : (format : Format) (word : BareWord) → (part_operands format (parts.Bare word)).Is (bare_part word)
bare_is format bare.Skip = (tt, refl)
bare_is format bare.Seq = (omega arith, refl)
bare_is format bare.Par = (tt, refl)
bare_is format bare.If = (omega arith, refl)
bare_is format bare.While = (tt, refl)

bare_no_text : (word : BareWord) → operands_text (bare_part word) ≡ []
bare_no_text bare.Skip = refl
bare_no_text bare.Seq = refl
bare_no_text bare.Par = refl
bare_no_text bare.If = refl
bare_no_text bare.While = refl

bare_via : (format : Format) (word : BareWord) → Via (part_operands format (parts.Bare word)) (exactly [])
bare_via format word =
    record {
      into = λ k. tt;
      from = λ u. bare_part word;
      text = λ k is. ap operands_text (is_of (parts.Bare word) k is.1) ∙ bare_no_text word;
      is = λ k is. tt;
      keeps = λ k is keeps. tt;
      back = λ k is. sym (is_of (parts.Bare word) k is.1);
      from_is = λ v is. bare_is format word;
      there = λ v is. refl;
      over = λ source at place over. over;
      over_back = λ source at place over. over;
    }

sized_range : (format : Format) (word : SizedWord) (w : ℕ) → (part_operands format (parts.Sized word)).Is (sized_part word w) → IsInRange 1 (greatest format) w
sized_range format sized.SeqExp zero is = let no = is.1 in absurd cc
sized_range format sized.SeqExp (suc w) is = (omega arith, is.0)
sized_range format sized.IfExp zero is = let no = is.1 in absurd cc
sized_range format sized.IfExp (suc w) is = (omega arith, is.0)
sized_range format (sized.Op op) w is = is.0
sized_range format sized.Not w is = is.0
sized_range format sized.Assign w is = is.0
sized_range format sized.Deref w is = is.0

sized_is : (format : Format) (word : SizedWord) (w : ℕ) → IsInRange 1 (greatest format) w → (part_operands format (parts.Sized word)).Is (sized_part word w)
sized_is format sized.SeqExp zero is = absurd (omega (arith, is.0))
sized_is format sized.SeqExp (suc w) is = (is.1, refl)
sized_is format sized.IfExp zero is = absurd (omega (arith, is.0))
sized_is format sized.IfExp (suc w) is = (is.1, refl)
sized_is format (sized.Op op) w is = (is, ap (λ (o : Op2). parts.Sized (sized.Op o)) (operator_back op))
sized_is format sized.Not w is = (is, refl)
sized_is format sized.Assign w is = (is, refl)
sized_is format sized.Deref w is = (is, refl)

sized_text_is : (word : SizedWord) (w : ℕ) → 1 ≤ w → operands_text (sized_part word w) ≡ number_text 10 w
sized_text_is sized.SeqExp zero some = absurd (omega (arith, some))
sized_text_is sized.SeqExp (suc w) some = refl
sized_text_is sized.IfExp zero some = absurd (omega (arith, some))
sized_text_is sized.IfExp (suc w) some = refl
sized_text_is (sized.Op op) w some = refl
sized_text_is sized.Not w some = refl
sized_text_is sized.Assign w some = refl
sized_text_is sized.Deref w some = refl

sized_first : (word : SizedWord) (w : ℕ) → first_of (sized_part word w) ≡ w
sized_first sized.SeqExp w = refl
sized_first sized.IfExp w = refl
sized_first (sized.Op op) w = refl
sized_first sized.Not w = refl
sized_first sized.Assign w = refl
sized_first sized.Deref w = refl

sized_of : (format : Format) (word : SizedWord) (k : Part) → (part_operands format (parts.Sized word)).Is k → IsInRange 1 (greatest format) (first_of k)
sized_of format word k is = sized_range format word (first_of k) (subst (λ (j : Part). (part_operands format (parts.Sized word)).Is j) (is_of (parts.Sized word) k is.1) is)

pub sized_via : (format : Format) (word : SizedWord) → Via (part_operands format (parts.Sized word)) (number_in 1 (greatest format) 10)
sized_via format word =
    record {
      into = first_of;
      from = λ w. sized_part word w;
      text = λ k is. ap operands_text (is_of (parts.Sized word) k is.1) ∙ sized_text_is word (first_of k) (sized_of format word k is).0;
      is = sized_of format word;
      keeps = λ k is keeps. tt;
      back = λ k is. sym (is_of (parts.Sized word) k is.1);
      from_is = sized_is format word;
      there = λ w is. sized_first word w;
      over = λ source at place over. over;
      over_back = λ source at place over. over;
    }

lit_range : (format : Format) (w k : ℕ) → IsWidthIn format w × (k < 2 ^ w) → (literal_numbers format).Is (w, k)
lit_range format w k is = (is.0, (omega arith, omega (arith, is.1)))

lit_small : (format : Format) (w k : ℕ) → (literal_numbers format).Is (w, k) → IsWidthIn format w × (k < 2 ^ w)
lit_small format w k is = (is.0, omega (arith, is.1.1, one-le-pow w 2 (omega arith)))

no_over_lit : (format : Format) (source : List ℕ) (at place : ℕ) → (literal_numbers format).Over source at place → ⊥
no_over_lit format source at place (inl over) = over
no_over_lit format source at place (inr (w, mid, is, keeps, spans, over)) = over

pub lit_via : (format : Format) → Via (part_operands format parts.Lit) (literal_numbers format)
lit_via format =
    record {
      into = λ k. (first_of k, second_of k);
      from = λ v. Lit v.0 v.1;
      text = λ k is. ap operands_text (is_of parts.Lit k is.1);
      is = λ k is. lit_range format (first_of k) (second_of k) (subst (IsWritablePart format) (is_of parts.Lit k is.1) is.0);
      keeps = λ k is keeps. (tt, tt);
      back = λ k is. sym (is_of parts.Lit k is.1);
      from_is = λ v is. (lit_small format v.0 v.1 is, refl);
      there = λ v is. refl;
      over = λ source at place over. absurd over;
      over_back = λ source at place over. no_over_lit format source at place over;
    }

no_over_local : (format : Format) (source : List ℕ) (at place : ℕ) → (local_numbers format).Over source at place → ⊥
no_over_local format source at place (inl over) = over
no_over_local format source at place (inr (w, mid, is, keeps, spans, over)) = over

pub local_via : (format : Format) → Via (part_operands format parts.Local) (local_numbers format)
local_via format =
    record {
      into = λ k. (first_of k, second_of k);
      from = λ v. Local v.0 v.1;
      text = λ k is. ap operands_text (is_of parts.Local k is.1);
      is = λ k is. subst (IsWritablePart format) (is_of parts.Local k is.1) is.0;
      keeps = λ k is keeps. (tt, tt);
      back = λ k is. sym (is_of parts.Local k is.1);
      from_is = λ v is. (is, refl);
      there = λ v is. refl;
      over = λ source at place over. absurd over;
      over_back = λ source at place over. no_over_local format source at place over;
    }

no_over_array : (format : Format) (source : List ℕ) (at place : ℕ) → (array_numbers format).Over source at place → ⊥
no_over_array format source at place (inl over) = over
no_over_array format source at place (inr (w, mid, is, keeps, spans, inl over)) = over
no_over_array format source at place (inr (w, mid, is, keeps, spans, inr (n, end, is_n, keeps_n, spans_n, over))) = over

pub array_via : (format : Format) → HasArrays format → Via (part_operands format parts.Array) (array_numbers format)
array_via format has =
    record {
      into = λ k. (first_of k, (length_of k, second_of k));
      from = λ v. Array v.0 v.1.0 v.1.1;
      text = λ k is. ap operands_text (is_of parts.Array k is.1);
      is = λ k is. let own = subst (IsWritablePart format) (is_of parts.Array k is.1) is.0 in (own.1, (own.2, own.3));
      keeps = λ k is keeps. (tt, (tt, tt));
      back = λ k is. sym (is_of parts.Array k is.1);
      from_is = λ v is. ((has, is.0, is.1.0, is.1.1), refl);
      there = λ v is. refl;
      over = λ source at place over. absurd over;
      over_back = λ source at place over. no_over_array format source at place over;
    }

pub share_via : (format : Format) → Via (part_operands format parts.Share) (typed format 10 0)
share_via format =
    record {
      into = source_of;
      from = λ t. Share t;
      text = λ k is. ap operands_text (is_of parts.Share k is.1);
      is = λ k is. subst (IsWritablePart format) (is_of parts.Share k is.1) is.0;
      keeps = λ k is keeps.
          let small = subst (λ (j : Part). (part_operands format parts.Share).Keeps j) (is_of parts.Share k is.1) keeps in
          omega (arith, small);
      back = λ k is. sym (is_of parts.Share k is.1);
      from_is = λ v is. (is, refl);
      there = λ v is. refl;
      over = λ source at place over. over;
      over_back = λ source at place over. over;
    }

pub lawful_width : (format : Format) (c : ℕ) → is_ascii_digit c ≡ false → Lawful (number_in 1 (greatest format) c)
lawful_width format c is = lawful_number 1 (greatest format) c (greatest_is format).0 (omega (arith, (greatest_is format).1)) is

lawful_literal_value : (format : Format) (w : ℕ) → IsInRange 1 (greatest format) w → Lawful (number_in 0 (2 ^ w - 1) 10)
lawful_literal_value format w is =
    let bound : 2 ^ w ≤ 2 ^ GREATEST_WIDTH = pow-le-pow_right (omega arith) (some_width format w is.1) in
    lawful_number 0 (2 ^ w - 1) 10 (omega arith) (omega (arith, bound)) refl

pub lawful_literal : (format : Format) → Lawful (literal_numbers format)
lawful_literal format = lawful_both (number_in 1 (greatest format) 32) (λ w. number_in 0 (2 ^ w - 1) 10) (lawful_width format 32 refl) (lawful_literal_value format)

pub lawful_local : (format : Format) → Lawful (local_numbers format)
lawful_local format = lawful_both (number_in 1 (greatest format) 32) (λ w. body format) (lawful_width format 32 refl) (λ w is. lawful_body format)

pub lawful_array : (format : Format) → Lawful (array_numbers format)
lawful_array format = lawful_both (number_in 1 (greatest format) 32) (λ w. sized_body format) (lawful_width format 32 refl) (λ w is. lawful_sized_body format)

lawful_operands : (format : Format) (word : PartWord) → IsWordIn format word → Lawful (part_operands format word)
lawful_operands format (parts.Bare word) is = via_lawful (part_operands format (parts.Bare word)) (exactly []) (bare_via format word) (lawful_exactly [])
lawful_operands format (parts.Sized word) is = via_lawful (part_operands format (parts.Sized word)) (number_in 1 (greatest format) 10) (sized_via format word) (lawful_width format 10 refl)
lawful_operands format parts.Lit is = via_lawful (part_operands format parts.Lit) (literal_numbers format) (lit_via format) (lawful_literal format)
lawful_operands format parts.Local is = via_lawful (part_operands format parts.Local) (local_numbers format) (local_via format) (lawful_local format)
lawful_operands format parts.Array is = via_lawful (part_operands format parts.Array) (array_numbers format) (array_via format is) (lawful_array format)
lawful_operands format parts.Share is = via_lawful (part_operands format parts.Share) (typed format 10 0) (share_via format) (lawful_typed format 10 0 refl)

pub some_part_operands : (format : Format) (word : PartWord) → IsWordIn format word → (k : Part) × (part_operands format word).Is k
some_part_operands format word is = let law = lawful_operands format word is in (law.some, law.some_is)

pub lawful_part_words : (format : Format) → Lawful (part_words format)
lawful_part_words format = lawful_plain PartWord (IsWordIn format) word_text (code_of PartWord (IsWordIn format) word_text (part_table format)) parts.Lit tt

-- the word of a part that a format has
word_there : (format : Format) (k : Part) → IsWritablePart format k → IsWordIn format (word_of k)
word_there format Skip is = tt
word_there format (Lit w k) is = tt
word_there format (Seq zero) is = tt
word_there format (Seq (suc v)) is = tt
word_there format Par is = tt
word_there format (If zero) is = tt
word_there format (If (suc v)) is = tt
word_there format While is = tt
word_there format (Op op w) is = tt
word_there format (Not w) is = tt
word_there format (Assign w) is = tt
word_there format (Deref w) is = tt
word_there format (Local w v) is = tt
word_there format (Array w n v) is = is.0
word_there format (Share t) is = tt

pub part_via : (format : Format) → Via (part_line format) (both (part_words format) (part_operands format))
part_via format =
    record {
      into = λ k. (word_of k, k);
      from = λ v. v.1;
      text = λ k is. refl;
      is = λ k is. (word_there format k is, (is, refl));
      keeps = λ k is keeps. (tt, keeps);
      back = λ k is. refl;
      from_is = λ v is. is.1.0;
      there = λ v is. (λ i. (is.1.1 i, v.1));
      over = λ source at place over. over;
      over_back = λ source at place over. over;
    }

pub lawful_part : (format : Format) → Lawful (part_line format)
lawful_part format = via_lawful (part_line format) (both (part_words format) (part_operands format)) (part_via format) (lawful_both (part_words format) (part_operands format) (lawful_part_words format) (lawful_operands format))
