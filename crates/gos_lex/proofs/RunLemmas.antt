-- The longest name and the longest numeral at the front of a text are runs of bytes of one class.
use Rattle.std.proofs.Common.{◌≡◌, ℕ, zero, suc, ◌+◌, ◌<◌, ◌≤◌, Bool, true, false, ◌&&◌, ◌||◌, cond, List, [], ◌∷◌, length, take, get_or, nat_eq, refl, sym, ◌∙◌, ap, subst, arith, IsTrue}
use Rattle.std.specs.List.{list_all, prefix_len}
use Rattle.std.specs.Char.{is_ascii_digit}
use Rattle.std.proofs.lemmas.List.Sums.{prefix_len-le-length}
use Rattle.gos_lex.specs.Bytes.{begins_name, continues_name}
use Rattle.gos_lex.specs.Names.{spells_name}
use Rattle.gos_lex.specs.Signs.{is_sign}
use Rattle.gos_lex.specs.Lexemes.{is_lexeme}

-- each byte of the run passes
pub run_passes : (p : ℕ → Bool) (text : List ℕ) → list_all p (take (prefix_len p text) text) ≡ true
run_passes p [] = refl
run_passes p (b ∷ text) = here (p b) refl (run_passes p text)
  where
    here : (passes : Bool) → p b ≡ passes → list_all p (take (prefix_len p text) text) ≡ true → list_all p (take (cond passes (1 + prefix_len p text) 0) (b ∷ text)) ≡ true
    here false e rest = refl
    here true e rest =
        let one : 1 + prefix_len p text ≡ suc (prefix_len p text) = omega arith in
        rw (one, e) rest

-- no longer run passes
pub run_longest : (p : ℕ → Bool) (text : List ℕ) (n : ℕ) → n ≤ length text → list_all p (take n text) ≡ true → n ≤ prefix_len p text
run_longest p text zero within all = omega arith
run_longest p [] (suc n) within all = within
run_longest p (b ∷ text) (suc n) within all = here (p b) (run_longest p text n (omega (arith, within))) all
  where
    here : (passes : Bool) → (list_all p (take n text) ≡ true → n ≤ prefix_len p text) → (passes && list_all p (take n text)) ≡ true → suc n ≤ cond passes (1 + prefix_len p text) 0
    here true bound rest = omega (arith, bound rest)
    here false bound rest = absurd (cc)

-- `len` bytes at the front of the text pass the test, and no more
abbrev pub TakesLongest : (List ℕ → Bool) → ℕ → List ℕ → Type 0
TakesLongest test len text =
    (len ≤ length text) × (0 < len → IsTrue (test (take len text))) × ((n : ℕ) → n ≤ length text → IsTrue (test (take n text)) → n ≤ len)

no_digit : (b : ℕ) → begins_name b ≡ true → is_ascii_digit b ≡ false
no_digit b h = grind arith

-- what begins a name or a numeral begins no sign
no_sign : (b : ℕ) (bytes : List ℕ) → (begins_name b || is_ascii_digit b) ≡ true → is_sign (b ∷ bytes) ≡ false
no_sign b bytes h =
    let e40 : nat_eq b 40 ≡ false = grind arith in
    let e41 : nat_eq b 41 ≡ false = grind arith in
    let e91 : nat_eq b 91 ≡ false = grind arith in
    let e93 : nat_eq b 93 ≡ false = grind arith in
    let e44 : nat_eq b 44 ≡ false = grind arith in
    let e46 : nat_eq b 46 ≡ false = grind arith in
    let e58 : nat_eq b 58 ≡ false = grind arith in
    let e59 : nat_eq b 59 ≡ false = grind arith in
    let e124 : nat_eq b 124 ≡ false = grind arith in
    let e38 : nat_eq b 38 ≡ false = grind arith in
    let e94 : nat_eq b 94 ≡ false = grind arith in
    let e43 : nat_eq b 43 ≡ false = grind arith in
    let e45 : nat_eq b 45 ≡ false = grind arith in
    let e61 : nat_eq b 61 ≡ false = grind arith in
    let e60 : nat_eq b 60 ≡ false = grind arith in
    let e33 : nat_eq b 33 ≡ false = grind arith in
    let e42 : nat_eq b 42 ≡ false = grind arith in
    rw (e40, e41, e91, e93, e44, e46, e58, e59, e124, e38, e94, e43, e45, e61, e60, e33, e42) refl

name_no_sign : (b : ℕ) (bytes : List ℕ) → begins_name b ≡ true → is_sign (b ∷ bytes) ≡ false
name_no_sign b bytes h = no_sign b bytes (ap (λ (t : Bool). t || is_ascii_digit b) h)

digit_no_sign : (b : ℕ) (bytes : List ℕ) → is_ascii_digit b ≡ true → is_sign (b ∷ bytes) ≡ false
digit_no_sign b bytes h = no_sign b bytes (grind (arith, h))

pub digit_no_name : (b : ℕ) → is_ascii_digit b ≡ true → begins_name b ≡ false
digit_no_name b h = grind arith

-- the first byte settles the class
one_class : (x d s l m : Bool) → x ≡ true → d ≡ false → s ≡ false → ((x && l) || ((d && m) || s)) ≡ ((x || d) && l)
one_class x d s l m p q r = rw (p, q, r) (elim l as (λ v. (v || false) ≡ v) [ true ↦ refl | false ↦ refl ])

name_lexeme : (b : ℕ) (bytes : List ℕ) → begins_name b ≡ true → is_lexeme (b ∷ bytes) ≡ list_all continues_name (b ∷ bytes)
name_lexeme b bytes h =
    one_class (begins_name b) (is_ascii_digit b) (is_sign (b ∷ bytes)) (list_all continues_name bytes) (list_all is_ascii_digit bytes)
    h (no_digit b h) (name_no_sign b bytes h)

other_class : (x d s l m : Bool) → x ≡ false → d ≡ true → s ≡ false → ((x && l) || ((d && m) || s)) ≡ (d && m)
other_class x d s l m p q r = rw (p, q, r) (elim m as (λ v. (v || false) ≡ v) [ true ↦ refl | false ↦ refl ])

numeral_lexeme : (b : ℕ) (bytes : List ℕ) → is_ascii_digit b ≡ true → is_lexeme (b ∷ bytes) ≡ list_all is_ascii_digit (b ∷ bytes)
numeral_lexeme b bytes h =
    other_class (begins_name b) (is_ascii_digit b) (is_sign (b ∷ bytes)) (list_all continues_name bytes) (list_all is_ascii_digit bytes)
    (digit_no_name b h) h (digit_no_sign b bytes h)

-- a run of one class is taken whole, where what passes at the front are runs of that class
longest_run : (test : List ℕ → Bool) (p : ℕ → Bool) (b : ℕ) (bytes : List ℕ) → ((rest : List ℕ) → test (b ∷ rest) ≡ list_all p (b ∷ rest)) → TakesLongest test (prefix_len p (b ∷ bytes)) (b ∷ bytes)
longest_run test p b bytes class =
    (prefix_len-le-length p (b ∷ bytes), λ some. front (prefix_len p (b ∷ bytes)) some ∙ run_passes p (b ∷ bytes), longest)
  where
    front : (n : ℕ) → 0 < n → test (take n (b ∷ bytes)) ≡ list_all p (take n (b ∷ bytes))
    front zero some = absurd (omega (arith, some))
    front (suc n) some = class (take n bytes)

    longest : (n : ℕ) → n ≤ length (b ∷ bytes) → IsTrue (test (take n (b ∷ bytes))) → n ≤ prefix_len p (b ∷ bytes)
    longest zero within passes = omega arith
    longest (suc n) within passes = run_longest p (b ∷ bytes) (suc n) within (sym (class (take n bytes)) ∙ passes)

pub name_run : (text : List ℕ) (len : ℕ) → 0 < length text → begins_name (get_or text 0 0) ≡ true → len ≡ prefix_len continues_name text → TakesLongest is_lexeme len text
name_run [] len some first is = absurd (omega (arith, some))
name_run (b ∷ bytes) len some first is =
    let P : ℕ → Type 0 = λ n. TakesLongest is_lexeme n (b ∷ bytes) in
    subst P (sym is) (longest_run is_lexeme continues_name b bytes (λ rest. name_lexeme b rest first))

pub spelled_run : (text : List ℕ) (len : ℕ) → 0 < length text → begins_name (get_or text 0 0) ≡ true → len ≡ prefix_len continues_name text → TakesLongest spells_name len text
spelled_run [] len some first is = absurd (omega (arith, some))
spelled_run (b ∷ bytes) len some first is =
    let P : ℕ → Type 0 = λ n. TakesLongest spells_name n (b ∷ bytes) in
    subst P (sym is) (longest_run spells_name continues_name b bytes (λ rest. rw first refl))

pub digit_run : (text : List ℕ) (len : ℕ) → 0 < length text → is_ascii_digit (get_or text 0 0) ≡ true → len ≡ prefix_len is_ascii_digit text → TakesLongest is_lexeme len text
digit_run [] len some first is = absurd (omega (arith, some))
digit_run (b ∷ bytes) len some first is =
    let P : ℕ → Type 0 = λ n. TakesLongest is_lexeme n (b ∷ bytes) in
    subst P (sym is) (longest_run is_lexeme is_ascii_digit b bytes (λ rest. numeral_lexeme b rest first))
