-- Numbers one behind the other, with a space between each two and a line feed behind the last.
use Rattle.std.proofs.Common.{◌≡◌, false, ℕ, suc, zero, ◌+◌, ◌-◌, ◌^◌, ◌<◌, ◌≤◌, List, [], ◌∷◌, ◌++◌, length, refl, sym, ◌∙◌, ap, subst, arith, append_assoc, append-nil, length-append}
use Rattle.std.specs.Char.{is_ascii_digit}
use Rattle.std.specs.Fmt.{decimal}
use Rattle.std.specs.List.{AllByRecursion, slice_range}
use Rattle.gos_lex.specs.Items.{TextAt, Misses}
use Rattle.gos_lex.proofs.PlaceLemmas.{slice_split, slice_nothing}
use Rattle.gos_netlist.specs.Writable.{IsNumber}
use Rattle.gos_lex.specs.ItemTexts.{IsInRange, IsNumberText, Passed, ended}
use Rattle.gos_netlist.specs.inner.NetLines.{end_before, end_with, numbers_text, AreNets, IsNetsText}
use Rattle.gos_lex.proofs.SequenceLemmas.{Then, IsCode, misses_as, then_first, then_rest}
use Rattle.gos_lex.proofs.NumberTextLemmas.{number_code}

no_digit : (left : ℕ) → is_ascii_digit (end_with left) ≡ false
no_digit zero = refl
no_digit (suc left) = refl

pub end_is : (ns : List ℕ) → end_before ns ≡ end_with (length ns)
end_is [] = refl
end_is (n ∷ ns) = refl

-- zeros, as many as there are to be
pub zeros : (k : ℕ) → (bytes : List ℕ) × IsNetsText k bytes
zeros zero = ([], ([], (refl, tt), refl))
zeros (suc k) =
    let rest = zeros k in
    (numbers_text (0 ∷ rest.1.0), (0 ∷ rest.1.0, (ap suc rest.1.1.0, (omega arith, rest.1.1.1)), refl))

joined : (left : ℕ) (bytes : List ℕ) → Then ℕ (IsInRange 0 4294967295) (λ n. ended (end_with left) (decimal n)) (λ n. IsNetsText left) bytes → IsNetsText (suc left) bytes
joined left bytes (n, rest, is, (ns, are, text), whole) =
    let end : end_before ns ≡ end_with left = end_is ns ∙ ap end_with are.0 in
    (n ∷ ns, (ap suc are.0, (is.1, are.1)), whole ∙ (λ i. ended (sym end i) (decimal n) ++ text i))

cut : (left : ℕ) (bytes : List ℕ) → IsNetsText (suc left) bytes → Then ℕ (IsInRange 0 4294967295) (λ n. ended (end_with left) (decimal n)) (λ n. IsNetsText left) bytes
cut left bytes ([], are, text) = absurd (omega (arith, are.0))
cut left bytes (n ∷ ns, are, text) =
    let long : length ns ≡ left = omega (arith, are.0) in
    let end : end_before ns ≡ end_with left = end_is ns ∙ ap end_with long in
    (n, numbers_text ns, (omega arith, are.1.0), (ns, (long, are.1.1), refl), text ∙ ap (λ (c : ℕ). ended c (decimal n) ++ numbers_text ns) end)

pub nets_first : (left : ℕ) (text : List ℕ) (at place : ℕ) → Misses (IsNumberText 0 4294967295 (end_with left)) text at place → Misses (IsNetsText (suc left)) text at place
nets_first left text at place misses =
    misses_as (Then ℕ (IsInRange 0 4294967295) (λ n. ended (end_with left) (decimal n)) (λ n. IsNetsText left)) (IsNetsText (suc left)) text at place (joined left) (cut left)
    (then_first ℕ (IsInRange 0 4294967295) (λ n. ended (end_with left) (decimal n)) (λ n. IsNetsText left) text at place (λ n is. zeros left) misses)

pub nets_rest : (left n : ℕ) (text : List ℕ) (at mid place : ℕ) → n ≤ 4294967295 → at ≤ mid → mid ≤ length text → slice_range text at mid ≡ ended (end_with left) (decimal n)
    → Misses (IsNetsText left) text mid place → Misses (IsNetsText (suc left)) text at place
nets_rest left n text at mid place is after within first misses =
    misses_as (Then ℕ (IsInRange 0 4294967295) (λ n. ended (end_with left) (decimal n)) (λ n. IsNetsText left)) (IsNetsText (suc left)) text at place (joined left) (cut left)
    (then_rest ℕ (IsInRange 0 4294967295) (λ n. ended (end_with left) (decimal n)) (λ n. IsNetsText left) text at mid place n (number_code 0 4294967295 (end_with left) (omega arith) (no_digit left)) (omega arith, is) after within first misses)

-- some nets are read, so many are left: what the whole reads as, and where it breaks off
pub record NetsSoFar (count : ℕ) (old now : TextAt) (ns : List ℕ) (left : ℕ) : Type 0 where
  pub text : now.text ≡ old.text
  pub after : old.at ≤ now.at
  pub within : now.at ≤ length old.text
  pub counted : length ns + left ≡ count
  pub all : AllByRecursion IsNumber ns
  pub reads : (more : List ℕ) → length more ≡ left → slice_range old.text old.at now.at ++ numbers_text more ≡ numbers_text (ns ++ more)
  pub breaks : (place : ℕ) → Misses (IsNetsText left) old.text now.at place → Misses (IsNetsText count) old.text old.at place

pub none_yet : (count : ℕ) (old : TextAt) → old.at ≤ length old.text → NetsSoFar count old old [] count
none_yet count old within =
    record {
      text = refl;
      after = omega arith;
      within = within;
      counted = omega arith;
      all = tt;
      reads = λ more long. ap (λ part. part ++ numbers_text more) (slice_nothing old.text old.at);
      breaks = λ place misses. misses;
    }

all_more : (ns : List ℕ) (n : ℕ) → AllByRecursion IsNumber ns → IsNumber n → AllByRecursion IsNumber (ns ++ n ∷ [])
all_more [] n all is = (is, tt)
all_more (m ∷ ns) n all is = (all.0, all_more ns n all.1 is)

pub one_more : (count : ℕ) (old mid new : TextAt) (ns : List ℕ) (before left n : ℕ) → before ≡ suc left → NetsSoFar count old mid ns before
    → n ≤ 4294967295 → Passed mid new (ended (end_with left) (decimal n)) → NetsSoFar count old new (ns ++ n ∷ []) left
one_more count old mid new ns before left n fewer far is passed =
    let within : new.at ≤ length old.text = subst (λ (text : List ℕ). new.at ≤ length text) far.text passed.within in
    let part : slice_range old.text mid.at new.at ≡ ended (end_with left) (decimal n) = subst (λ (text : List ℕ). slice_range text mid.at new.at ≡ ended (end_with left) (decimal n)) far.text passed.is in
    record {
      text = passed.text ∙ far.text;
      after = omega (arith, far.after, passed.after);
      within = within;
      counted = omega (arith, far.counted, length-append ns (n ∷ []), fewer);
      all = all_more ns n far.all is;
      reads = λ more long.
          let end : end_with left ≡ end_before more = sym (end_is more ∙ ap end_with long) in
          ap (λ bytes. bytes ++ numbers_text more) (slice_split old.text old.at mid.at new.at far.after passed.after ∙ ap (λ bytes. slice_range old.text old.at mid.at ++ bytes) part)
          ∙ (append_assoc (slice_range old.text old.at mid.at) (ended (end_with left) (decimal n)) (numbers_text more)
          ∙ (ap (λ (c : ℕ). slice_range old.text old.at mid.at ++ (ended c (decimal n) ++ numbers_text more)) end
          ∙ (far.reads (n ∷ more) (ap suc long ∙ sym fewer) ∙ ap numbers_text (sym (append_assoc ns (n ∷ []) more)))));
      breaks = λ place misses.
          far.breaks place (subst (λ (k : ℕ). Misses (IsNetsText k) old.text mid.at place) (sym fewer) (nets_rest left n old.text mid.at new.at place is passed.after within part misses));
    }

-- the first net is read
pub first_net : (count : ℕ) (old new : TextAt) (n : ℕ) → 0 < count → old.at ≤ length old.text → n ≤ 4294967295
    → Passed old new (ended (end_with (count - 1)) (decimal n)) → NetsSoFar count old new (n ∷ []) (count - 1)
first_net count old new n some within is passed =
    one_more count old old new [] count (count - 1) n (omega (arith, some)) (none_yet count old within) is passed

-- where a number breaks off, the nets do
pub no_more : (count : ℕ) (old mid : TextAt) (ns : List ℕ) (before left place : ℕ) → before ≡ suc left → NetsSoFar count old mid ns before
    → Misses (IsNumberText 0 4294967295 (end_with left)) mid.text mid.at place → Misses (IsNetsText count) old.text old.at place
no_more count old mid ns before left place fewer far misses =
    let here = subst (λ (text : List ℕ). Misses (IsNumberText 0 4294967295 (end_with left)) text mid.at place) far.text misses in
    far.breaks place (subst (λ (k : ℕ). Misses (IsNetsText k) old.text mid.at place) (sym fewer) (nets_first left old.text mid.at place here))

-- all nets are read
pub nets_passed : (count : ℕ) (old new : TextAt) (ns : List ℕ) (left : ℕ) → left ≡ 0 → NetsSoFar count old new ns left → Passed old new (numbers_text ns)
nets_passed count old new ns left none far =
    record {
      text = far.text;
      after = far.after;
      within = far.within;
      is = sym (append-nil (slice_range old.text old.at new.at)) ∙ (far.reads [] (sym none) ∙ ap numbers_text (append-nil ns));
    }

-- so many numbers, of 64 bits
abbrev pub AreNumbers : ℕ → List ℕ → Type 0
AreNumbers k ns = (length ns ≡ k) × AllByRecursion (λ n. n < 2 ^ 64) ns

-- the numbers of nets are such
pub are_numbers : (k : ℕ) (ns : List ℕ) → AreNets k ns → AreNumbers k ns
are_numbers k ns is = (is.0, all ns is.1)
  where
    all : (ns : List ℕ) → AllByRecursion IsNumber ns → AllByRecursion (λ n. n < 2 ^ 64) ns
    all [] are = tt
    all (n ∷ ns) are = (omega (arith, are.0), all ns are.1)

-- lists of numbers that are as long don't begin one another
pub numbers_code : (k : ℕ) → IsCode (List ℕ) (AreNumbers k) numbers_text
numbers_code zero [] [] x y is_v is_w same = (refl, same)
numbers_code zero (v ∷ vs) ws x y is_v is_w same = absurd (omega (arith, is_v.0))
numbers_code zero [] (w ∷ ws) x y is_v is_w same = absurd (omega (arith, is_w.0))
numbers_code (suc k) [] ws x y is_v is_w same = absurd (omega (arith, is_v.0))
numbers_code (suc k) (v ∷ vs) [] x y is_v is_w same = absurd (omega (arith, is_w.0))
numbers_code (suc k) (v ∷ vs) (w ∷ ws) x y is_v is_w same =
    let long_v : length vs ≡ k = omega (arith, is_v.0) in
    let long_w : length ws ≡ k = omega (arith, is_w.0) in
    let ends : end_before ws ≡ end_before vs = end_is ws ∙ (ap end_with (long_w ∙ sym long_v) ∙ sym (end_is vs)) in
    let first = number_code 0 18446744073709551615 (end_before vs) (omega arith) (no_digit_before vs) v w (numbers_text vs ++ x) (numbers_text ws ++ y) (omega arith, omega (arith, is_v.1.0)) (omega arith, omega (arith, is_w.1.0))
    (sym (append_assoc (ended (end_before vs) (decimal v)) (numbers_text vs) x) ∙ (same ∙ (append_assoc (ended (end_before ws) (decimal w)) (numbers_text ws) y ∙ ap (λ (c : ℕ). ended c (decimal w) ++ (numbers_text ws ++ y)) ends))) in
    let rest = numbers_code k vs ws x y (long_v, is_v.1.1) (long_w, is_w.1.1) first.1 in
    ((λ i. first.0 i ∷ rest.0 i), rest.1)
  where
    no_digit_before : (ns : List ℕ) → is_ascii_digit (end_before ns) ≡ false
    no_digit_before [] = refl
    no_digit_before (n ∷ ns) = refl

-- nor do those of nets
pub nets_code : (k : ℕ) → IsCode (List ℕ) (AreNets k) numbers_text
nets_code k vs ws x y is_v is_w same = numbers_code k vs ws x y (are_numbers k vs is_v) (are_numbers k ws is_w) same
