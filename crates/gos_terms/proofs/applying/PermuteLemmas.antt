-- A list's chosen elements, and then the others: where each element comes to stand, and back.
use Rattle.std.specs.Prelude.{◌≡◌, ℕ, zero, suc, ◌+◌, ◌-◌, ◌<◌, ◌≤◌, Bool, true, false, List, [], ◌∷◌, ◌++◌, length, Option, Some, None, slice_get}
use Rattle.std.proofs.Common.{refl, sym, ◌∙◌, ap, subst, arith}
use Rattle.std.proofs.lemmas.Option.{none-some, same_Some, slice_get_within}
use Rattle.gos_types.proofs.ListLemmas.{found_behind, same_in_front}

-- an element, and a number more, where it is chosen, and where it isn't
abbrev keep : {A : Type 0} → Bool → A → List A → List A
keep true x xs = x ∷ xs
keep false x xs = xs

abbrev leave : {A : Type 0} → Bool → A → List A → List A
leave true x xs = xs
leave false x xs = x ∷ xs

abbrev add : Bool → ℕ → ℕ
add true n = suc n
add false n = n

abbrev pub chosen : {A : Type 0} → (ℕ → Bool) → List A → List A
chosen f [] = []
chosen f (x ∷ xs) = keep (f 0) x (chosen (λ n. f (suc n)) xs)

abbrev pub others : {A : Type 0} → (ℕ → Bool) → List A → List A
others f [] = []
others f (x ∷ xs) = leave (f 0) x (others (λ n. f (suc n)) xs)

abbrev pub total : (ℕ → Bool) → ℕ → ℕ
total f zero = 0
total f (suc l) = add (f 0) (total (λ n. f (suc n)) l)

-- past a number that is left out
abbrev skip : ℕ → ℕ → ℕ
skip zero y = suc y
skip (suc t) zero = zero
skip (suc t) (suc y) = suc (skip t y)

abbrev next : Option ℕ → Option ℕ
next None = None
next (Some y) = Some (suc y)

abbrev unskip : ℕ → ℕ → Option ℕ
unskip zero zero = None
unskip zero (suc y) = Some y
unskip (suc t) zero = Some zero
unskip (suc t) (suc y) = next (unskip t y)

abbrev to_step : Bool → ℕ → (ℕ → ℕ) → ℕ → ℕ
to_step true t g zero = zero
to_step true t g (suc n) = suc (g n)
to_step false t g zero = t
to_step false t g (suc n) = skip t (g n)

abbrev from_one : (ℕ → ℕ) → Option ℕ → ℕ
from_one g None = 0
from_one g (Some y) = suc (g y)

abbrev from_step : Bool → ℕ → (ℕ → ℕ) → ℕ → ℕ
from_step true t g zero = zero
from_step true t g (suc y) = suc (g y)
from_step false t g y = from_one g (unskip t y)

-- where element n of l comes to stand, and what stands at y
abbrev pub put : (ℕ → Bool) → ℕ → ℕ → ℕ
put f zero n = n
put f (suc l) n = to_step (f 0) (total (λ n. f (suc n)) l) (put (λ n. f (suc n)) l) n

abbrev pub taken : (ℕ → Bool) → ℕ → ℕ → ℕ
taken f zero y = y
taken f (suc l) y = from_step (f 0) (total (λ n. f (suc n)) l) (taken (λ n. f (suc n)) l) y

unskip_skip : (t y : ℕ) → unskip t (skip t y) ≡ Some y
unskip_skip zero y = refl
unskip_skip (suc t) zero = refl
unskip_skip (suc t) (suc y) = ap next (unskip_skip t y)

unskip_at : (t : ℕ) → unskip t t ≡ None
unskip_at zero = refl
unskip_at (suc t) = ap next (unskip_at t)

no_next : (o : Option ℕ) → next o ≡ None → o ≡ None
no_next None h = refl
no_next (Some y) h = absurd (cc h)

is_next : (o : Option ℕ) (z : ℕ) → next o ≡ Some z → (y : ℕ) × (o ≡ Some y) × (suc y ≡ z)
is_next None z h = absurd (none-some z h)
is_next (Some y) z h = (y, refl, same_Some (suc y) z h)

at_none : (t y : ℕ) → unskip t y ≡ None → t ≡ y
at_none zero zero h = refl
at_none zero (suc y) h = absurd (cc h)
at_none (suc t) zero h = absurd (cc h)
at_none (suc t) (suc y) h = ap suc (at_none t y (no_next (unskip t y) h))

at_some : (t y z : ℕ) → unskip t y ≡ Some z → skip t z ≡ y
at_some zero zero z h = absurd (none-some z h)
at_some zero (suc y) z h = ap suc (sym (same_Some y z h))
at_some (suc t) zero z h = ap (skip (suc t)) (sym (same_Some zero z h))
at_some (suc t) (suc y) z h =
    let (x, is, same) = is_next (unskip t y) z h in ap (skip (suc t)) (sym same) ∙ ap suc (at_some t y x is)

there_step : (b : Bool) (t : ℕ) (g h : ℕ → ℕ) → ((n : ℕ) → h (g n) ≡ n) → (n : ℕ) → from_step b t h (to_step b t g n) ≡ n
there_step true t g h inner zero = refl
there_step true t g h inner (suc n) = ap suc (inner n)
there_step false t g h inner zero = ap (from_one h) (unskip_at t)
there_step false t g h inner (suc n) = ap (from_one h) (unskip_skip t (g n)) ∙ ap suc (inner n)

pub there_and_back : (f : ℕ → Bool) (l n : ℕ) → taken f l (put f l n) ≡ n
there_and_back f zero n = refl
there_and_back f (suc l) n =
    there_step (f 0) (total (λ n. f (suc n)) l) (put (λ n. f (suc n)) l) (taken (λ n. f (suc n)) l) (λ x. there_and_back (λ n. f (suc n)) l x) n

back_step : (b : Bool) (t : ℕ) (g h : ℕ → ℕ) → ((y : ℕ) → g (h y) ≡ y) → (y : ℕ) → to_step b t g (from_step b t h y) ≡ y
back_step true t g h inner zero = refl
back_step true t g h inner (suc y) = ap suc (inner y)
back_step false t g h inner y = by_one (unskip t y) refl
  where
    by_one : (o : Option ℕ) → unskip t y ≡ o → to_step false t g (from_one h o) ≡ y
    by_one None is = at_none t y is
    by_one (Some z) is = ap (skip t) (inner z) ∙ at_some t y z is

pub back_and_there : (f : ℕ → Bool) (l y : ℕ) → put f l (taken f l y) ≡ y
back_and_there f zero y = refl
back_and_there f (suc l) y =
    back_step (f 0) (total (λ n. f (suc n)) l) (put (λ n. f (suc n)) l) (taken (λ n. f (suc n)) l) (λ x. back_and_there (λ n. f (suc n)) l x) y

kept_length : {A : Type 0} (b : Bool) (x : A) (xs : List A) → length (keep b x xs) ≡ add b (length xs)
kept_length true x xs = refl
kept_length false x xs = refl

pub chosen_length : {A : Type 0} (f : ℕ → Bool) (xs : List A) → length (chosen f xs) ≡ total f (length xs)
chosen_length f [] = refl
chosen_length f (x ∷ xs) =
    kept_length (f 0) x (chosen (λ n. f (suc n)) xs) ∙ ap (add (f 0)) (chosen_length (λ n. f (suc n)) xs)

past_one : {A : Type 0} (xs ys : List A) (x : A) (y : ℕ) → slice_get (xs ++ x ∷ ys) (skip (length xs) y) ≡ slice_get (xs ++ ys) y
past_one [] ys x y = refl
past_one (z ∷ xs) ys x zero = refl
past_one (z ∷ xs) ys x (suc y) = past_one xs ys x y

at_one : {A : Type 0} (xs ys : List A) (x : A) → slice_get (xs ++ x ∷ ys) (length xs) ≡ Some x
at_one [] ys x = refl
at_one (z ∷ xs) ys x = at_one xs ys x

put_step : {A : Type 0} (b : Bool) (t : ℕ) (g : ℕ → ℕ) (x : A) (xs us vs : List A) → t ≡ length us → ((n : ℕ) → slice_get (us ++ vs) (g n) ≡ slice_get xs n)
    → (n : ℕ) → slice_get (keep b x us ++ leave b x vs) (to_step b t g n) ≡ slice_get (x ∷ xs) n
put_step true t g x xs us vs size inner zero = refl
put_step true t g x xs us vs size inner (suc n) = inner n
put_step false t g x xs us vs size inner zero = ap (slice_get (us ++ x ∷ vs)) size ∙ at_one us vs x
put_step false t g x xs us vs size inner (suc n) =
    ap (λ (k : ℕ). slice_get (us ++ x ∷ vs) (skip k (g n))) size ∙ (past_one us vs x (g n) ∙ inner n)

pub put_there : {A : Type 0} (f : ℕ → Bool) (xs : List A) (n : ℕ) → slice_get (chosen f xs ++ others f xs) (put f (length xs) n) ≡ slice_get xs n
put_there f [] n = refl
put_there f (x ∷ xs) n =
    put_step (f 0) (total (λ n. f (suc n)) (length xs)) (put (λ n. f (suc n)) (length xs)) x xs
    (chosen (λ n. f (suc n)) xs) (others (λ n. f (suc n)) xs)
    (sym (chosen_length (λ n. f (suc n)) xs)) (λ k. put_there (λ n. f (suc n)) xs k) n

-- what is chosen comes first
skip_low : (t y : ℕ) → y < t → skip t y < t
skip_low zero y low = absurd (omega (arith, low))
skip_low (suc t) zero low = low
skip_low (suc t) (suc y) low = let less = skip_low t y (omega (arith, low)) in omega (arith, less)

skip_high : (t y : ℕ) → t ≤ y → t ≤ skip t y
skip_high zero y high = omega arith
skip_high (suc t) zero high = absurd (omega (arith, high))
skip_high (suc t) (suc y) high = let more = skip_high t y (omega (arith, high)) in omega (arith, more)

first_step : (f : ℕ → Bool) (b : Bool) (t : ℕ) (g : ℕ → ℕ) (n : ℕ) → f 0 ≡ b → f n ≡ true
    → ((k : ℕ) → n ≡ suc k → g k < t) → to_step b t g n < add b t
first_step f true t g zero is c inner = omega arith
first_step f true t g (suc n) is c inner = let less = inner n refl in omega (arith, less)
first_step f false t g zero is c inner = let no : true ≡ false = sym c ∙ is in absurd (cc no)
first_step f false t g (suc n) is c inner = skip_low t (g n) (inner n refl)

pub comes_first : (f : ℕ → Bool) (l n : ℕ) → n < l → f n ≡ true → put f l n < total f l
comes_first f zero n low c = absurd (omega (arith, low))
comes_first f (suc l) zero low c =
    first_step f (f 0) (total (λ n. f (suc n)) l) (put (λ n. f (suc n)) l) zero refl c (λ k same. absurd (omega (arith, same)))
comes_first f (suc l) (suc n) low c =
    let less = comes_first (λ n. f (suc n)) l n (omega (arith, low)) c in
    first_step f (f 0) (total (λ n. f (suc n)) l) (put (λ n. f (suc n)) l) (suc n) refl c
    (λ k same. let is : n ≡ k = omega (arith, same) in subst (λ (x : ℕ). put (λ n. f (suc n)) l x < total (λ n. f (suc n)) l) is less)

last_step : (f : ℕ → Bool) (b : Bool) (t : ℕ) (g : ℕ → ℕ) (n : ℕ) → f 0 ≡ b → f n ≡ false
    → ((k : ℕ) → n ≡ suc k → t ≤ g k) → add b t ≤ to_step b t g n
last_step f true t g zero is c inner = let no : true ≡ false = sym is ∙ c in absurd (cc no)
last_step f true t g (suc n) is c inner = let more = inner n refl in omega (arith, more)
last_step f false t g zero is c inner = omega arith
last_step f false t g (suc n) is c inner = skip_high t (g n) (inner n refl)

pub comes_last : (f : ℕ → Bool) (l n : ℕ) → n < l → f n ≡ false → total f l ≤ put f l n
comes_last f zero n low c = absurd (omega (arith, low))
comes_last f (suc l) zero low c =
    last_step f (f 0) (total (λ n. f (suc n)) l) (put (λ n. f (suc n)) l) zero refl c (λ k same. absurd (omega (arith, same)))
comes_last f (suc l) (suc n) low c =
    let more = comes_last (λ n. f (suc n)) l n (omega (arith, low)) c in
    last_step f (f 0) (total (λ n. f (suc n)) l) (put (λ n. f (suc n)) l) (suc n) refl c
    (λ k same. let is : n ≡ k = omega (arith, same) in subst (λ (x : ℕ). total (λ n. f (suc n)) l ≤ put (λ n. f (suc n)) l x) is more)

-- an element that is chosen, and one that isn't: where it stands among these
pub record Standing {A : Type 0} (b : Bool) (f : ℕ → Bool) (xs ys : List A) (into out : ℕ → ℕ) : Type 0 where
  pub inward : (n : ℕ) (x : A) → slice_get xs n ≡ Some x → f n ≡ b → (slice_get ys (into n) ≡ Some x) × (out (into n) ≡ n)
  pub outward : (y : ℕ) (x : A) → slice_get ys y ≡ Some x → (slice_get xs (out y) ≡ Some x) × (f (out y) ≡ b) × (into (out y) ≡ y)

module _ {A : Type 0} (f : ℕ → Bool) (xs : List A) where
  abbrev size : ℕ
  size = total f (length xs)

  abbrev to : ℕ → ℕ
  to = put f (length xs)

  abbrev from : ℕ → ℕ
  from = taken f (length xs)

  by_choice : {P : Type 0} (n : ℕ) → (f n ≡ true → P) → (f n ≡ false → P) → P
  by_choice {P} n is_so not_so = tested (f n) refl
    where
      tested : (b : Bool) → f n ≡ b → P
      tested true is = is_so is
      tested false is = not_so is

  back_there : (y : ℕ) → slice_get xs (from y) ≡ slice_get (chosen f xs ++ others f xs) y
  back_there y = sym (put_there f xs (from y)) ∙ ap (slice_get (chosen f xs ++ others f xs)) (back_and_there f (length xs) y)

  pub stands_first : Standing true f xs (chosen f xs) to from
  stands_first =
      record {
        inward = λ n x at is.
            let low = slice_get_within xs n x at in
            let less = comes_first f (length xs) n low is in
            let same = chosen_length f xs in
            (sym (same_in_front (chosen f xs) (others f xs) (to n) (omega (arith, less, same))) ∙ (put_there f xs n ∙ at), there_and_back f (length xs) n);
        outward = λ y x at.
            let low = slice_get_within (chosen f xs) y x at in
            let here : slice_get xs (from y) ≡ Some x = back_there y ∙ (same_in_front (chosen f xs) (others f xs) y low ∙ at) in
            let round = back_and_there f (length xs) y in (
              here,
              by_choice (from y) (λ is. is)
                  (λ is.
                  let high = comes_last f (length xs) (from y) (slice_get_within xs (from y) x here) is in
                  let same = chosen_length f xs in
                  absurd (omega (arith, high, same, low, round))),
              round,
            );
      }

  pub stands_last : Standing false f xs (others f xs) (λ n. to n - size) (λ y. from (size + y))
  stands_last =
      record {
        inward = λ n x at is.
            let low = slice_get_within xs n x at in
            let high = comes_last f (length xs) n low is in
            let same = chosen_length f xs in
            let sum : size + (to n - size) ≡ to n = omega (arith, high) in
            let sum_two : length (chosen f xs) + (to n - size) ≡ to n = omega (arith, high, same) in (
              sym (found_behind (chosen f xs) (others f xs) (to n - size))
                  ∙ (ap (slice_get (chosen f xs ++ others f xs)) sum_two ∙ (put_there f xs n ∙ at)),
              ap from sum ∙ there_and_back f (length xs) n,
            );
        outward = λ y x at.
            let same = chosen_length f xs in
            let sum : size + y ≡ length (chosen f xs) + y = omega (arith, same) in
            let here : slice_get xs (from (size + y)) ≡ Some x =
            back_there (size + y) ∙ (ap (slice_get (chosen f xs ++ others f xs)) sum ∙ (found_behind (chosen f xs) (others f xs) y ∙ at)) in
            let round = back_and_there f (length xs) (size + y) in
            let less : (size + y) - size ≡ y = omega arith in (
              here,
              by_choice (from (size + y))
                  (λ is.
                  let low = comes_first f (length xs) (from (size + y)) (slice_get_within xs (from (size + y)) x here) is in
                  absurd (omega (arith, low, round)))
                  (λ is. is),
              ap (λ (n : ℕ). n - size) round ∙ less,
            );
      }
