-- Types in prefix order: a word, and behind it what the word wants.
use Rattle.std.proofs.Common.{◌≡◌, inl, inr, ℕ, ◌+◌, ◌*◌, ◌≤◌, false, List, [], ◌∷◌, ◌++◌, refl, sym, ◌∙◌, ap, subst, arith, append_assoc, length-append}
use Rattle.std.proofs.lemmas.List.{length-map}
use Rattle.std.specs.Char.{is_ascii_digit}
use Rattle.gos_types.specs.Types.{Type', Com, Exp, Var, Pair, Fun, size}
use Rattle.gos_lex.proofs.SequenceLemmas.{IsCode}
use Rattle.gos_plan.specs.declared.fault.ObjectFault.{ObjectFault}
use Rattle.gos_plan.specs.declared.fault.ObjectFault.TheVariants as faults
use Rattle.gos_plan.specs.declared.word.TypeWord.{TypeWord}
use Rattle.gos_plan.specs.declared.word.TypeWord.TheVariants as types
use Rattle.gos_plan.specs.declared.format.Format.{Format}
use Rattle.gos_plan.specs.Formats.{greatest, HasWidthsIn}
use Rattle.gos_plan.specs.TextItems.{Item, Spans, Fails, Behind, both, words}
use Rattle.gos_plan.specs.ObjectText.{type_text, number_text}
use Rattle.gos_plan.specs.ObjectItems.{shakes, letters, word_of_type, least, type_word, IsFork, space, operand, Operand, First, Second, OverWithin, typed, forks, type_operands_text, OverOperands, type_operands}
use Rattle.gos_plan.proofs.TextLemmas.{Lawful, Via, same_item, under_both, one_behind, lawful_exactly}
use Rattle.gos_plan.proofs.TableLemmas.{table_code}
use Rattle.gos_plan.proofs.WordLemmas.{type_table}
use Rattle.gos_lex.proofs.NumberTextLemmas.{number_code}
use Rattle.gos_plan.proofs.FormatLemmas.{greatest_is}

-- how many handshakes the parts of a type have
pub shakes_pair : (a b : Type') → shakes (Pair a b) ≡ shakes a + shakes b
shakes_pair a b = simp (length-append, length-map) refl

pub shakes_fun : (a b : Type') → shakes (Fun a b) ≡ shakes a + shakes b
shakes_fun a b = simp (length-append, length-map) refl

pub shakes_some : (t : Type') → 1 ≤ shakes t
shakes_some Com = omega arith
shakes_some (Exp w) = omega arith
shakes_some (Var w) = omega arith
shakes_some (Pair a b) = omega (arith, shakes_pair a b, shakes_some a)
shakes_some (Fun a b) = omega (arith, shakes_fun a b, shakes_some a)

least_le : (t : Type') → least (word_of_type t) ≤ shakes t
least_le Com = omega arith
least_le (Exp w) = omega arith
least_le (Var w) = omega arith
least_le (Pair a b) = omega (arith, shakes_pair a b, shakes_some a, shakes_some b)
least_le (Fun a b) = omega (arith, shakes_fun a b, shakes_some a, shakes_some b)

pub size_le : (t : Type') → size t + 1 ≤ 2 * shakes t
size_le Com = omega arith
size_le (Exp w) = omega arith
size_le (Var w) = omega arith
size_le (Pair a b) = omega (arith, shakes_pair a b, size_le a, size_le b)
size_le (Fun a b) = omega (arith, shakes_fun a b, size_le a, size_le b)

-- the word of a type
word_code : IsCode TypeWord (λ v. Unit {0}) letters
word_code = table_code TypeWord letters type_table

pub lawful_word : (before : ℕ) → Lawful (type_word before)
lawful_word before =
    record {
      code = word_code;
      some = types.Com;
      some_is = tt;
      under = λ source at mid place v is keeps spans over.
          let known = same_item (words TypeWord letters) word_code source at mid over.2 v over.1 tt tt spans over.3 in
          omega (arith, over.4, subst (λ (w : TypeWord). before + least w ≤ 64) known.0 keeps);
      one = λ source at p q over other. over.0 ∙ sym other.0;
    }

pub word_fails : (before : ℕ) (source : List ℕ) (at : ℕ) (fault : ObjectFault) → Fails (words TypeWord letters) source at fault → Fails (type_word before) source at fault
word_fails before source at (faults.Form place) (misses, none) = (misses, λ p over. misses.none over.2 over.3.after over.3.within (over.1, tt, over.3.is))
word_fails before source at (faults.Limit place) over = absurd over
word_fails before source at (faults.Joint index) over = absurd over
word_fails before source at faults.NoMemory any = tt

-- the text of a type by its word
pub text_parts : (end : ℕ) (t : Type') → type_text end t ≡ letters (word_of_type t) ++ type_operands_text end t
text_parts end Com = refl
text_parts end (Exp w) = refl
text_parts end (Var w) = refl
text_parts end (Pair a b) = refl
text_parts end (Fun a b) = refl

-- Types don't begin one another.
abbrev CodeAt : (format : Format) → ℕ → Type' → Type 0
CodeAt format end t = (u : Type') (x y : List ℕ) → HasWidthsIn format t → HasWidthsIn format u → type_text end t ++ x ≡ type_text end u ++ y → (t ≡ u) × (x ≡ y)

abbrev OperandsCode : (format : Format) → ℕ → Type' → Type 0
OperandsCode format end t = (u : Type') (x y : List ℕ) → HasWidthsIn format t → HasWidthsIn format u → word_of_type t ≡ word_of_type u
    → type_operands_text end t ++ x ≡ type_operands_text end u ++ y → (t ≡ u) × (x ≡ y)

by_operands : (format : Format) (end : ℕ) (t : Type') → OperandsCode format end t → CodeAt format end t
by_operands format end t holds u x y is_t is_u same =
    let whole = sym (append_assoc (letters (word_of_type t)) (type_operands_text end t) x)
    ∙ (ap (λ text. text ++ x) (sym (text_parts end t)) ∙ (same ∙ (ap (λ text. text ++ y) (text_parts end u)
    ∙ append_assoc (letters (word_of_type u)) (type_operands_text end u) y))) in
    let word = word_code (word_of_type t) (word_of_type u) (type_operands_text end t ++ x) (type_operands_text end u ++ y) tt tt whole in
    holds u x y is_t is_u word.0 word.1

com_code : (format : Format) (end : ℕ) → OperandsCode format end Com
com_code format end Com x y is_t is_u word same = (refl, cc same)
com_code format end (Exp w) x y is_t is_u word same = absurd cc
com_code format end (Var w) x y is_t is_u word same = absurd cc
com_code format end (Pair a b) x y is_t is_u word same = absurd cc
com_code format end (Fun a b) x y is_t is_u word same = absurd cc

width_code : (format : Format) (end v w : ℕ) (x y : List ℕ) → is_ascii_digit end ≡ false → HasWidthsIn format (Exp v) → HasWidthsIn format (Exp w)
    → (32 ∷ number_text end v) ++ x ≡ (32 ∷ number_text end w) ++ y → (v ≡ w) × (x ≡ y)
width_code format end v w x y is_end is_v is_w same =
    let rest : number_text end v ++ x ≡ number_text end w ++ y = cc same in
    number_code 1 (greatest format) end (omega (arith, (greatest_is format).1)) is_end v w x y is_v is_w rest

exp_code : (format : Format) (end w : ℕ) → is_ascii_digit end ≡ false → OperandsCode format end (Exp w)
exp_code format end v is_end Com x y is_t is_u word same = absurd cc
exp_code format end v is_end (Exp w) x y is_t is_u word same = let known = width_code format end v w x y is_end is_t is_u same in (ap (λ (n : ℕ). Exp n) known.0, known.1)
exp_code format end v is_end (Var w) x y is_t is_u word same = absurd cc
exp_code format end v is_end (Pair a b) x y is_t is_u word same = absurd cc
exp_code format end v is_end (Fun a b) x y is_t is_u word same = absurd cc

var_code : (format : Format) (end w : ℕ) → is_ascii_digit end ≡ false → OperandsCode format end (Var w)
var_code format end v is_end Com x y is_t is_u word same = absurd cc
var_code format end v is_end (Exp w) x y is_t is_u word same = absurd cc
var_code format end v is_end (Var w) x y is_t is_u word same = let known = width_code format end v w x y is_end is_t is_u same in (ap (λ (n : ℕ). Var n) known.0, known.1)
var_code format end v is_end (Pair a b) x y is_t is_u word same = absurd cc
var_code format end v is_end (Fun a b) x y is_t is_u word same = absurd cc

fork_code : (format : Format) (end : ℕ) (a b d e : Type') (x y : List ℕ) → CodeAt format 32 a → CodeAt format end b → HasWidthsIn format a × HasWidthsIn format b → HasWidthsIn format d × HasWidthsIn format e
    → (32 ∷ (type_text 32 a ++ type_text end b)) ++ x ≡ (32 ∷ (type_text 32 d ++ type_text end e)) ++ y → (a ≡ d) × (b ≡ e) × (x ≡ y)
fork_code format end a b d e x y first second is_t is_u same =
    let inner : (type_text 32 a ++ type_text end b) ++ x ≡ (type_text 32 d ++ type_text end e) ++ y = cc same in
    let one = first d (type_text end b ++ x) (type_text end e ++ y) is_t.0 is_u.0
    (sym (append_assoc (type_text 32 a) (type_text end b) x) ∙ (inner ∙ append_assoc (type_text 32 d) (type_text end e) y)) in
    let two = second e x y is_t.1 is_u.1 one.1 in
    (one.0, two.0, two.1)

pair_code : (format : Format) (end : ℕ) (a b : Type') → CodeAt format 32 a → CodeAt format end b → OperandsCode format end (Pair a b)
pair_code format end a b first second Com x y is_t is_u word same = absurd cc
pair_code format end a b first second (Exp w) x y is_t is_u word same = absurd cc
pair_code format end a b first second (Var w) x y is_t is_u word same = absurd cc
pair_code format end a b first second (Pair d e) x y is_t is_u word same =
    let known = fork_code format end a b d e x y first second is_t is_u same in ((λ i. Pair (known.0 i) (known.1 i)), known.2)
pair_code format end a b first second (Fun d e) x y is_t is_u word same = absurd cc

fun_code : (format : Format) (end : ℕ) (a b : Type') → CodeAt format 32 a → CodeAt format end b → OperandsCode format end (Fun a b)
fun_code format end a b first second Com x y is_t is_u word same = absurd cc
fun_code format end a b first second (Exp w) x y is_t is_u word same = absurd cc
fun_code format end a b first second (Var w) x y is_t is_u word same = absurd cc
fun_code format end a b first second (Pair d e) x y is_t is_u word same = absurd cc
fun_code format end a b first second (Fun d e) x y is_t is_u word same =
    let known = fork_code format end a b d e x y first second is_t is_u same in ((λ i. Fun (known.0 i) (known.1 i)), known.2)

code_at : (format : Format) (end : ℕ) (t : Type') → is_ascii_digit end ≡ false → CodeAt format end t
code_at format end Com is_end = by_operands format end Com (com_code format end)
code_at format end (Exp w) is_end = by_operands format end (Exp w) (exp_code format end w is_end)
code_at format end (Var w) is_end = by_operands format end (Var w) (var_code format end w is_end)
code_at format end (Pair a b) is_end = by_operands format end (Pair a b) (pair_code format end a b (code_at format 32 a refl) (code_at format end b is_end))
code_at format end (Fun a b) is_end = by_operands format end (Fun a b) (fun_code format end a b (code_at format 32 a refl) (code_at format end b is_end))

pub type_code : (format : Format) (end : ℕ) → is_ascii_digit end ≡ false → IsCode Type' (HasWidthsIn format) (type_text end)
type_code format end is_end t u x y is_t is_u same = code_at format end t is_end u x y is_t is_u same

-- A limit that is exceeded within a type is so at its word, or behind it.
abbrev pub by_word : (format : Format) → ℕ → ℕ → Item
by_word format end before = both (type_word before) (type_operands format end before)

into_first : (format : Format) (end before : ℕ) (way : List Operand) (word : TypeWord) (source : List ℕ) (at place : ℕ) → IsFork word
    → Behind space (λ u. OverWithin format way (before + 1)) source at place → OverOperands format word before source at place
into_first format end before way types.Com source at place fork over = absurd fork
into_first format end before way types.Exp source at place fork over = absurd fork
into_first format end before way types.Var source at place fork over = absurd fork
into_first format end before way types.Pair source at place fork (u, mid, is, keeps, spans, over) = inr (u, mid, is, keeps, spans, inl (way, over))
into_first format end before way types.Fun source at place fork (u, mid, is, keeps, spans, over) = inr (u, mid, is, keeps, spans, inl (way, over))

into_second : (format : Format) (end before : ℕ) (way : List Operand) (word : TypeWord) (source : List ℕ) (at place : ℕ) → IsFork word
    → Behind space (λ u. Behind (operand format before) (λ a. OverWithin format way (before + shakes a))) source at place → OverOperands format word before source at place
into_second format end before way types.Com source at place fork over = absurd fork
into_second format end before way types.Exp source at place fork over = absurd fork
into_second format end before way types.Var source at place fork over = absurd fork
into_second format end before way types.Pair source at place fork (u, mid, is, keeps, spans, (a, last, is_a, keeps_a, spans_a, over)) =
    inr (u, mid, is, keeps, spans, inr (a, last, is_a, keeps_a, spans_a, (way, over)))
into_second format end before way types.Fun source at place fork (u, mid, is, keeps, spans, (a, last, is_a, keeps_a, spans_a, over)) =
    inr (u, mid, is, keeps, spans, inr (a, last, is_a, keeps_a, spans_a, (way, over)))

over_word : (format : Format) (end before : ℕ) (way : List Operand) (source : List ℕ) (at place : ℕ) → OverWithin format way before source at place → (by_word format end before).Over source at place
over_word format end before [] source at place over = inl over
over_word format end before (First ∷ way) source at place (word, mid, is, keeps, spans, (fork, over)) =
    inr (word, mid, is, keeps, spans, (into_first format) end before way word source mid place fork over)
over_word format end before (Second ∷ way) source at place (word, mid, is, keeps, spans, (fork, over)) =
    inr (word, mid, is, keeps, spans, (into_second format) end before way word source mid place fork over)

over_fork : (format : Format) (end before : ℕ) (word : TypeWord) (source : List ℕ) (at mid place : ℕ) → IsFork word → before + least word ≤ 64 → Spans source at mid (letters word)
    → (forks format end before).Over source mid place → (typed format end before).Over source at place
over_fork format end before word source at mid place fork keeps spans (inl none) = absurd none
over_fork format end before word source at mid place fork keeps spans (inr (u, last, is, held, spans_u, inl (way, over))) =
    (First ∷ way, (word, mid, tt, keeps, spans, (fork, (u, last, is, held, spans_u, over))))
over_fork format end before word source at mid place fork keeps spans (inr (u, last, is, held, spans_u, inr (a, stop, is_a, keeps_a, spans_a, (way, over)))) =
    (Second ∷ way, (word, mid, tt, keeps, spans, (fork, (u, last, is, held, spans_u, (a, stop, is_a, keeps_a, spans_a, over)))))

over_behind : (format : Format) (end before : ℕ) (word : TypeWord) (source : List ℕ) (at mid place : ℕ) → before + least word ≤ 64 → Spans source at mid (letters word)
    → OverOperands format word before source mid place → (typed format end before).Over source at place
over_behind format end before types.Com source at mid place keeps spans over = absurd over
over_behind format end before types.Exp source at mid place keeps spans over = absurd over
over_behind format end before types.Var source at mid place keeps spans over = absurd over
over_behind format end before types.Pair source at mid place keeps spans over = over_fork format end before types.Pair source at mid place tt keeps spans over
over_behind format end before types.Fun source at mid place keeps spans over = over_fork format end before types.Fun source at mid place tt keeps spans over

over_from : (format : Format) (end before : ℕ) (source : List ℕ) (at place : ℕ) → (by_word format end before).Over source at place → (typed format end before).Over source at place
over_from format end before source at place (inl over) = ([], over)
over_from format end before source at place (inr (word, mid, is, keeps, spans, over)) = over_behind format end before word source at mid place keeps spans over

-- A type as its word and what stands behind it.
pub typed_via : (format : Format) (end before : ℕ) → Via (typed format end before) (by_word format end before)
typed_via format end before =
    record {
      into = λ t. (word_of_type t, t);
      from = λ v. v.1;
      text = λ t is. text_parts end t;
      is = λ t is. (tt, (is, refl));
      keeps = λ t is keeps. (omega (arith, keeps, least_le t), keeps);
      back = λ t is. refl;
      from_is = λ v is. is.1.0;
      there = λ v is. (λ i. (is.1.1 i, v.1));
      over = λ source at place over. over_word format end before over.0 source at place over.1;
      over_back = over_from format end before;
    }

-- No limit is exceeded in a type that keeps it.
abbrev UnderAt : (format : Format) → Type' → Type 0
UnderAt format t = (end before : ℕ) → is_ascii_digit end ≡ false → HasWidthsIn format t → before + shakes t ≤ 64 → (source : List ℕ) (at mid place : ℕ)
    → Spans source at mid (type_text end t) → (typed format end before).Over source at place → ⊥

abbrev OperandsUnder : (format : Format) → Type' → Type 0
OperandsUnder format t = (end before : ℕ) → is_ascii_digit end ≡ false → HasWidthsIn format t → before + shakes t ≤ 64 → (source : List ℕ) (at mid place : ℕ)
    → Spans source at mid (type_operands_text end t) → OverOperands format (word_of_type t) before source at place → ⊥

under_by : (format : Format) (t : Type') → OperandsUnder format t → UnderAt format t
under_by format t holds end before is_end is keeps source at mid place spans over =
    under_both (type_word before) (type_operands format end before) word_code (word_of_type t) t tt
    (λ text start stop p spans_v. (lawful_word before).under text start stop p (word_of_type t) tt (omega (arith, keeps, least_le t)) spans_v)
    (holds end before is_end is keeps) source at mid place (subst (Spans source at mid) (text_parts end t) spans)
    (over_word format end before over.0 source at place over.1)

under_fork : (format : Format) (a b : Type') → UnderAt format a → UnderAt format b → (end before : ℕ) → is_ascii_digit end ≡ false → HasWidthsIn format a → HasWidthsIn format b → before + (shakes a + shakes b) ≤ 64
    → (source : List ℕ) (at mid place : ℕ) → Spans source at mid (32 ∷ (type_text 32 a ++ type_text end b)) → (forks format end before).Over source at place → ⊥
under_fork format a b first second end before is_end is_a is_b keeps source at mid place spans over =
    under_both space (λ u. both (typed format 32 (before + 1)) (λ a. typed format end (before + shakes a))) (lawful_exactly (32 ∷ [])).code tt (a, b) tt (λ text start stop p spans_v over. over)
    (under_both (typed format 32 (before + 1)) (λ a. typed format end (before + shakes a)) (type_code format 32 refl) a b is_a
    (first 32 (before + 1) refl is_a (omega (arith, keeps, shakes_some b)))
    (second end (before + shakes a) is_end is_b (omega (arith, keeps)))) source at mid place spans over

under_at : (format : Format) (t : Type') → UnderAt format t
under_at format Com = under_by format Com (λ end before is_end is keeps source at mid place spans over. over)
under_at format (Exp w) = under_by format (Exp w) (λ end before is_end is keeps source at mid place spans over. over)
under_at format (Var w) = under_by format (Var w) (λ end before is_end is keeps source at mid place spans over. over)
under_at format (Pair a b) =
    under_by format (Pair a b)
    (λ end before is_end is keeps source at mid place spans over.
    under_fork format a b (under_at format a) (under_at format b) end before is_end is.0 is.1 (omega (arith, keeps, shakes_pair a b)) source at mid place spans over)
under_at format (Fun a b) =
    under_by format (Fun a b)
    (λ end before is_end is keeps source at mid place spans over.
    under_fork format a b (under_at format a) (under_at format b) end before is_end is.0 is.1 (omega (arith, keeps, shakes_fun a b)) source at mid place spans over)

-- and else it is exceeded at one place alone.
not_both : (before : ℕ) (Over : TypeWord → List ℕ → ℕ → ℕ → Type 0) (source : List ℕ) (at p q : ℕ) → (type_word before).Over source at p → Behind (type_word before) Over source at q → ⊥
not_both before Over source at p q over (word, mid, is, keeps, spans, other) = (lawful_word before).under source at mid p word is keeps spans over

no_first : (format : Format) (before : ℕ) (way : List Operand) (a : Type') (source : List ℕ) (at mid p : ℕ) → HasWidthsIn format a → before + 1 + shakes a ≤ 64 → Spans source at mid (type_text 32 a)
    → OverWithin format way (before + 1) source at p → ⊥
no_first format before way a source at mid p is keeps spans over = under_at format a 32 (before + 1) refl is keeps source at mid p spans (way, over)

space_code : IsCode (Unit {0}) (λ v. Unit {0}) (λ v. 32 ∷ [])
space_code = (lawful_exactly (32 ∷ [])).code

abbrev InFirst : (format : Format) → List Operand → ℕ → Unit {0} → List ℕ → ℕ → ℕ → Type 0
InFirst format way before u = OverWithin format way (before + 1)

abbrev InSecond : (format : Format) → List Operand → ℕ → Unit {0} → List ℕ → ℕ → ℕ → Type 0
InSecond format way before u = Behind (operand format before) (λ a. OverWithin format way (before + shakes a))

abbrev Forked : (Unit {0} → List ℕ → ℕ → ℕ → Type 0) → TypeWord → List ℕ → ℕ → ℕ → Type 0
Forked Over word source at place = IsFork word × Behind space Over source at place

one_forked : (before : ℕ) (Over Other : Unit {0} → List ℕ → ℕ → ℕ → Type 0) → ((source : List ℕ) (at p q : ℕ) → Over tt source at p → Other tt source at q → p ≡ q)
    → (source : List ℕ) (at p q : ℕ) → Behind (type_word before) (Forked Over) source at p → Behind (type_word before) (Forked Other) source at q → p ≡ q
one_forked before Over Other one =
    one_behind (type_word before) word_code (Forked Over) (Forked Other)
    (λ word source at p q is keeps over other. one_behind space space_code Over Other (λ u text start a b is_u keeps_u first second. one text start a b first second) source at p q over.1 other.1)

one_within : (format : Format) (way other : List Operand) (before : ℕ) (source : List ℕ) (at p q : ℕ) → OverWithin format way before source at p → OverWithin format other before source at q → p ≡ q
one_within format [] [] before source at p q over over_other = over.0 ∙ sym over_other.0
one_within format [] (First ∷ other) before source at p q over over_other = absurd (not_both before (Forked (InFirst format other before)) source at p q over over_other)
one_within format [] (Second ∷ other) before source at p q over over_other = absurd (not_both before (Forked (InSecond format other before)) source at p q over over_other)
one_within format (First ∷ way) [] before source at p q over over_other = absurd (not_both before (Forked (InFirst format way before)) source at q p over_other over)
one_within format (Second ∷ way) [] before source at p q over over_other = absurd (not_both before (Forked (InSecond format way before)) source at q p over_other over)
one_within format (First ∷ way) (First ∷ other) before source at p q one_over other_over =
    one_forked before (InFirst format way before) (InFirst format other before) (λ source at p q over over_other. one_within format way other (before + 1) source at p q over over_other) source at p q one_over other_over
one_within format (First ∷ way) (Second ∷ other) before source at p q one_over other_over =
    one_forked before (InFirst format way before) (InSecond format other before)
    (λ source at p q over (a, mid, is, keeps, spans, over_other). absurd (no_first format before way a source at mid p is keeps spans over)) source at p q one_over other_over
one_within format (Second ∷ way) (First ∷ other) before source at p q one_over other_over =
    one_forked before (InSecond format way before) (InFirst format other before)
    (λ source at p q (a, mid, is, keeps, spans, over) over_other. absurd (no_first format before other a source at mid q is keeps spans over_other)) source at p q one_over other_over
one_within format (Second ∷ way) (Second ∷ other) before source at p q one_over other_over =
    one_forked before (InSecond format way before) (InSecond format other before)
    (one_behind (operand format before) (type_code format 32 refl) (λ a. OverWithin format way (before + shakes a)) (λ a. OverWithin format other (before + shakes a))
    (λ a source at p q is keeps over over_other. one_within format way other (before + shakes a) source at p q over over_other)) source at p q one_over other_over

pub lawful_typed : (format : Format) (end before : ℕ) → is_ascii_digit end ≡ false → Lawful (typed format end before)
lawful_typed format end before is_end =
    record {
      code = type_code format end is_end;
      some = Com;
      some_is = tt;
      under = λ source at mid place t is keeps spans over. under_at format t end before is_end is keeps source at mid place spans over;
      one = λ source at p q over other. one_within format over.0 other.0 before source at p q over.1 other.1;
    }
