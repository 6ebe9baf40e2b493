-- Each split of a term that stands for a program splits a number that is bound there.
--
-- Read first: Linearity of gos_check. A split of an unbound number would make two numbers that no typed node uses, and so
-- these would have to be split in turn; but there are fewer splits than sides.
use Rattle.std.specs.Prelude.{◌≡◌, ℕ, zero, suc, ◌+◌, ◌≤◌, ◌<◌, ◌⊎◌, ◌||◌, Bool, true, false, List, [], ◌∷◌, ◌++◌, length, nat_eq, if◌then◌else◌}
use Rattle.std.proofs.Common.{true≢false, refl, ap, sym, ◌∙◌, subst, arith, inl, inr}
use Rattle.std.proofs.lemmas.Bool.{eq-eqb}
use Rattle.gos_model.specs.Terms as terms
use Rattle.gos_model.specs.Terms.{Term}
use Rattle.gos_model.specs.Typing.{Imports}
use Rattle.gos_model.specs.Moves.{Program}
use Rattle.gos_model.proofs.NumberLemmas.{either, number_cases}
use Rattle.gos_check.proofs.TimesLemmas.{times_same, times-append, split_in-append, sides-append}
use Rattle.gos_check.specs.declared.linear.Split.{Split}
use Rattle.gos_check.specs.Linearity.{times, split_in, sides, used, made, all_sides, import_at, StandsFor}
use Rattle.gos_check.specs.Nodes.{Numbered, Closed, Use, Under, One, Two, If, Meaning, below, shifted, inside, inside_one}

-- a term is a variable or an import
abbrev pub is_bound : Term → Bool
is_bound (terms.Bound i) = true
is_bound (terms.Import x) = true
is_bound m = false

-- the numbers of uses stand for variables or imports
abbrev pub UsesBound : Meaning → Numbered → Type 0
UsesBound env (Closed t ss c) = Unit {0}
UsesBound env (Use t ss n) = is_bound (env n) ≡ true
UsesBound env (Under t ss b n m) = UsesBound (below n (inside ss env)) m
UsesBound env (One t ss f m) = UsesBound (inside ss env) m
UsesBound env (Two t ss f m n) = UsesBound (inside ss env) m × UsesBound (inside ss env) n
UsesBound env (If t ss m n p) = UsesBound (inside ss env) m × UsesBound (inside ss env) n × UsesBound (inside ss env) p

-- the splits of what is not bound where they stand
abbrev pub lost : Meaning → List Split → List Split
lost env [] = []
lost env (s ∷ ss) = if is_bound (env s.of) then lost (inside_one s env) ss else s ∷ lost (inside_one s env) ss

abbrev pub all_lost : Meaning → Numbered → List Split
all_lost env (Closed t ss c) = lost env ss
all_lost env (Use t ss n) = lost env ss
all_lost env (Under t ss b n m) = lost env ss ++ all_lost (below n (inside ss env)) m
all_lost env (One t ss f m) = lost env ss ++ all_lost (inside ss env) m
all_lost env (Two t ss f m n) = lost env ss ++ (all_lost (inside ss env) m ++ all_lost (inside ss env) n)
all_lost env (If t ss m n p) = lost env ss ++ (all_lost (inside ss env) m ++ (all_lost (inside ss env) n ++ all_lost (inside ss env) p))

-- the other splits
abbrev pub kept : Meaning → List Split → List Split
kept env [] = []
kept env (s ∷ ss) = if is_bound (env s.of) then s ∷ kept (inside_one s env) ss else kept (inside_one s env) ss

-- the numbers that are used, and those that are made, elsewhere than at a lost split
abbrev kept_used : Meaning → Numbered → List ℕ
kept_used env (Closed t ss c) = split_in (kept env ss)
kept_used env (Use t ss n) = split_in (kept env ss) ++ n ∷ []
kept_used env (Under t ss b n m) = split_in (kept env ss) ++ kept_used (below n (inside ss env)) m
kept_used env (One t ss f m) = split_in (kept env ss) ++ kept_used (inside ss env) m
kept_used env (Two t ss f m n) = split_in (kept env ss) ++ (kept_used (inside ss env) m ++ kept_used (inside ss env) n)
kept_used env (If t ss m n p) =
    split_in (kept env ss) ++ (kept_used (inside ss env) m ++ (kept_used (inside ss env) n ++ kept_used (inside ss env) p))

abbrev kept_made : Meaning → Numbered → List ℕ
kept_made env (Closed t ss c) = sides (kept env ss)
kept_made env (Use t ss n) = sides (kept env ss)
kept_made env (Under t ss b n m) = sides (kept env ss) ++ n ∷ kept_made (below n (inside ss env)) m
kept_made env (One t ss f m) = sides (kept env ss) ++ kept_made (inside ss env) m
kept_made env (Two t ss f m n) = sides (kept env ss) ++ (kept_made (inside ss env) m ++ kept_made (inside ss env) n)
kept_made env (If t ss m n p) =
    sides (kept env ss) ++ (kept_made (inside ss env) m ++ (kept_made (inside ss env) n ++ kept_made (inside ss env) p))

-- each split is lost or kept
split_counted : (k : ℕ) (env : Meaning) (ss : List Split) → times k (split_in ss) ≡ times k (split_in (lost env ss)) + times k (split_in (kept env ss))
split_counted k env [] = omega arith
split_counted k env (s ∷ ss) = by (is_bound (env s.of)) (split_counted k (inside_one s env) ss)
  where
    by : (b : Bool) → times k (split_in ss) ≡ times k (split_in (lost (inside_one s env) ss)) + times k (split_in (kept (inside_one s env) ss))
        → times k (split_in (s ∷ ss)) ≡ times k (split_in (if b then lost (inside_one s env) ss else s ∷ lost (inside_one s env) ss))
        + times k (split_in (if b then s ∷ kept (inside_one s env) ss else kept (inside_one s env) ss))
    by true h = omega (arith, h)
    by false h = omega (arith, h)

pub sides_counted : (k : ℕ) (env : Meaning) (ss : List Split) → times k (sides ss) ≡ times k (sides (lost env ss)) + times k (sides (kept env ss))
sides_counted k env [] = omega arith
sides_counted k env (s ∷ ss) = by (is_bound (env s.of)) (sides_counted k (inside_one s env) ss)
  where
    by : (b : Bool) → times k (sides ss) ≡ times k (sides (lost (inside_one s env) ss)) + times k (sides (kept (inside_one s env) ss))
        → times k (sides (s ∷ ss)) ≡ times k (sides (if b then lost (inside_one s env) ss else s ∷ lost (inside_one s env) ss))
        + times k (sides (if b then s ∷ kept (inside_one s env) ss else kept (inside_one s env) ss))
    by true h = omega (arith, h)
    by false h = omega (arith, h)

pub split_times : (k : ℕ) (ss ts : List Split) → times k (split_in (ss ++ ts)) ≡ times k (split_in ss) + times k (split_in ts)
split_times k ss ts = ap (λ (ns : List ℕ). times k ns) (split_in-append ss ts) ∙ times-append k (split_in ss) (split_in ts)

pub sides_times : (k : ℕ) (ss ts : List Split) → times k (sides (ss ++ ts)) ≡ times k (sides ss) + times k (sides ts)
sides_times k ss ts = ap (λ (ns : List ℕ). times k ns) (sides-append ss ts) ∙ times-append k (sides ss) (sides ts)

-- a number that is bound behind splits is bound before, or a side of one that is kept
pub side_bound : (k : ℕ) (env : Meaning) (s : Split) → is_bound (inside_one s env k) ≡ true
    → (is_bound (env k) ≡ true) ⊎ ((0 < times k (sides (s ∷ []))) × (is_bound (env s.of) ≡ true))
side_bound k env s =
    number_cases k s.left
    (λ e t h. inr (rw (sym e, eq-eqb k k refl) (omega arith), subst (λ (b : Bool). is_bound (if b || nat_eq k s.right then env s.of else env k) ≡ true) t h))
    (λ e t. number_cases k s.right
    (λ f u h. inr (
      rw (sym f, eq-eqb k k refl) (omega arith),
      subst (λ (b : Bool). is_bound (if b then env s.of else env k) ≡ true) u
          (subst (λ (b : Bool). is_bound (if b || nat_eq k s.right then env s.of else env k) ≡ true) t h),
    ))
    (λ f u h. inl (subst (λ (b : Bool). is_bound (if b then env s.of else env k) ≡ true) u
    (subst (λ (b : Bool). is_bound (if b || nat_eq k s.right then env s.of else env k) ≡ true) t h))))

pub inside_bound : (k : ℕ) (env : Meaning) (ss : List Split) → is_bound (inside ss env k) ≡ true
    → (is_bound (env k) ≡ true) ⊎ (0 < times k (sides (kept env ss)))
inside_bound k env [] h = inl h
inside_bound k env (s ∷ ss) h =
    elim (inside_bound k (inside_one s env) ss h) [
      | inl g ↦
          elim (side_bound k env s g) [
            | inl f ↦ inl f
            | inr one ↦ inr (rw (one.1) (let first = one.0 in omega (arith, first)))
          ]
      | inr more ↦ inr (by (is_bound (env s.of)) more)
    ]
  where
    by : (b : Bool) → 0 < times k (sides (kept (inside_one s env) ss))
        → 0 < times k (sides (if b then s ∷ kept (inside_one s env) ss else kept (inside_one s env) ss))
    by true h = omega (arith, h)
    by false h = h

from_inside : (k : ℕ) (env : Meaning) (ss : List Split) (x : ℕ) → (is_bound (inside ss env k) ≡ true) ⊎ (0 < x)
    → (is_bound (env k) ≡ true) ⊎ (0 < times k (sides (kept env ss)) + x)
from_inside k env ss x (inl h) = elim (inside_bound k env ss h) [ inl g ↦ inl g | inr more ↦ inr (omega (arith, more)) ]
from_inside k env ss x (inr h) = inr (omega (arith, h))

-- what is split where it is bound is bound before, or a side of one that is kept
split_bound : (k : ℕ) (env : Meaning) (ss : List Split) → 0 < times k (split_in (kept env ss))
    → (is_bound (env k) ≡ true) ⊎ (0 < times k (sides (kept env ss)))
split_bound k env [] h = absurd (omega (arith, h))
split_bound k env (s ∷ ss) h = by (is_bound (env s.of)) refl h (split_bound k (inside_one s env) ss)
  where
    behind : (is_bound (inside_one s env k) ≡ true) ⊎ (0 < times k (sides (kept (inside_one s env) ss))) → is_bound (env s.of) ≡ true
        → (is_bound (env k) ≡ true) ⊎ (0 < times k (s.left ∷ s.right ∷ sides (kept (inside_one s env) ss)))
    behind (inl g) is =
        elim (side_bound k env s g) [ inl f ↦ inl f | inr one ↦ inr (let first = one.0 in omega (arith, first)) ]
    behind (inr more) is = inr (omega (arith, more))

    beyond : (is_bound (inside_one s env k) ≡ true) ⊎ (0 < times k (sides (kept (inside_one s env) ss))) → is_bound (env s.of) ≡ false
        → (is_bound (env k) ≡ true) ⊎ (0 < times k (sides (kept (inside_one s env) ss)))
    beyond (inl g) is = elim (side_bound k env s g) [ inl f ↦ inl f | inr one ↦ inl (absurd (true≢false (sym one.1 ∙ is))) ]
    beyond (inr more) is = inr more

    by : (b : Bool) → is_bound (env s.of) ≡ b
        → 0 < times k (split_in (if b then s ∷ kept (inside_one s env) ss else kept (inside_one s env) ss))
        → (0 < times k (split_in (kept (inside_one s env) ss))
        → (is_bound (inside_one s env k) ≡ true) ⊎ (0 < times k (sides (kept (inside_one s env) ss))))
        → (is_bound (env k) ≡ true) ⊎ (0 < times k (sides (if b then s ∷ kept (inside_one s env) ss else kept (inside_one s env) ss)))
    by true is h rest =
        number_cases s.of k (λ e t. inl (subst (λ (n : ℕ). is_bound (env n) ≡ true) e is))
        (λ e t. behind (rest (let other : times k (s.of ∷ []) ≡ 0 = rw t refl in omega (arith, h, other))) is)
    by false is h rest = beyond (rest h) is

from_split : (k : ℕ) (env : Meaning) (ss : List Split) (x : ℕ) → 0 < times k (split_in (kept env ss))
    → (is_bound (env k) ≡ true) ⊎ (0 < times k (sides (kept env ss)) + x)
from_split k env ss x h = elim (split_bound k env ss h) [ inl g ↦ inl g | inr more ↦ inr (omega (arith, more)) ]

pub shifted_bound : (m : Term) → is_bound (shifted m) ≡ true → is_bound m ≡ true
shifted_bound (terms.Bound i) h = refl
shifted_bound m h = h

below_bound : (k n : ℕ) (env : Meaning) (x : ℕ) → (is_bound (below n env k) ≡ true) ⊎ (0 < x)
    → (is_bound (env k) ≡ true) ⊎ (0 < (if nat_eq n k then 1 else 0) + x)
below_bound k n env x (inr h) = inr (omega (arith, h))
below_bound k n env x (inl h) =
    number_cases k n (λ e t. inr (rw (eq-eqb n k (sym e)) (omega arith)))
    (λ e t. inl (shifted_bound (env k) (subst (λ (b : Bool). is_bound (if b then terms.Bound 0 else shifted (env k)) ≡ true) t h)))

-- what is used elsewhere than at a lost split is bound before, or made elsewhere than at one
used_bound : (k : ℕ) (env : Meaning) (m : Numbered) → UsesBound env m → 0 < times k (kept_used env m)
    → (is_bound (env k) ≡ true) ⊎ (0 < times k (kept_made env m))
used_bound k env (Closed t ss c) bound h = split_bound k env ss h
used_bound k env (Use t ss n) bound h =
    let parted = times-append k (split_in (kept env ss)) (n ∷ []) in
    elim (either (times k (split_in (kept env ss))) (times k (n ∷ [])) (omega (arith, h, parted))) [
      | inl a ↦ split_bound k env ss a
      | inr b ↦
          number_cases n k (λ e t. inl (subst (λ (j : ℕ). is_bound (env j) ≡ true) e bound))
          (λ e t. let other : times k (n ∷ []) ≡ 0 = rw t refl in absurd (omega (arith, b, other)))
    ]
used_bound k env (Under t ss b n m) bound h =
    let env' : Meaning = below n (inside ss env) in
    let parted = times-append k (split_in (kept env ss)) (kept_used env' m) in
    let makes = times-append k (sides (kept env ss)) (n ∷ kept_made env' m) in
    let x : ℕ = times k (n ∷ kept_made env' m) in
    let all : (is_bound (env k) ≡ true) ⊎ (0 < times k (sides (kept env ss)) + x) =
    elim (either (times k (split_in (kept env ss))) (times k (kept_used env' m)) (omega (arith, h, parted))) [
      | inl a ↦ from_split k env ss x a
      | inr c ↦ from_inside k env ss x (below_bound k n (inside ss env) (times k (kept_made env' m)) (used_bound k env' m bound c))
    ]
    in
    elim all [ inl g ↦ inl g | inr more ↦ inr (omega (arith, more, makes)) ]
used_bound k env (One t ss f m) bound h =
    let env' : Meaning = inside ss env in
    let parted = times-append k (split_in (kept env ss)) (kept_used env' m) in
    let makes = times-append k (sides (kept env ss)) (kept_made env' m) in
    let x : ℕ = times k (kept_made env' m) in
    let all : (is_bound (env k) ≡ true) ⊎ (0 < times k (sides (kept env ss)) + x) =
    elim (either (times k (split_in (kept env ss))) (times k (kept_used env' m)) (omega (arith, h, parted))) [
      | inl a ↦ from_split k env ss x a
      | inr c ↦ from_inside k env ss x (used_bound k env' m bound c)
    ]
    in
    elim all [ inl g ↦ inl g | inr more ↦ inr (omega (arith, more, makes)) ]
used_bound k env (Two t ss f m n) (bound, boundn) h =
    let env' : Meaning = inside ss env in
    let parted = times-append k (split_in (kept env ss)) (kept_used env' m ++ kept_used env' n) in
    let parted_two = times-append k (kept_used env' m) (kept_used env' n) in
    let makes = times-append k (sides (kept env ss)) (kept_made env' m ++ kept_made env' n) in
    let makes_two = times-append k (kept_made env' m) (kept_made env' n) in
    let x : ℕ = times k (kept_made env' m) in
    let y : ℕ = times k (kept_made env' n) in
    elim (either (times k (split_in (kept env ss))) (times k (kept_used env' m) + times k (kept_used env' n)) (omega (arith, h, parted, parted_two))) [
      | inl a ↦ elim (from_split k env ss x a) [ inl g ↦ inl g | inr more ↦ inr (omega (arith, more, makes, makes_two)) ]
      | inr c ↦
          elim (either (times k (kept_used env' m)) (times k (kept_used env' n)) c) [
            | inl a ↦
                elim (from_inside k env ss x (used_bound k env' m bound a))
                [ inl g ↦ inl g | inr more ↦ inr (omega (arith, more, makes, makes_two)) ]
            | inr a ↦
                elim (from_inside k env ss y (used_bound k env' n boundn a))
                [ inl g ↦ inl g | inr more ↦ inr (omega (arith, more, makes, makes_two)) ]
          ]
    ]
used_bound k env (If t ss m n p) (bound, boundn, boundp) h =
    let env' : Meaning = inside ss env in
    let parted = times-append k (split_in (kept env ss)) (kept_used env' m ++ (kept_used env' n ++ kept_used env' p)) in
    let parted_three = times-append k (kept_used env' m) (kept_used env' n ++ kept_used env' p) in
    let parted_two = times-append k (kept_used env' n) (kept_used env' p) in
    let makes = times-append k (sides (kept env ss)) (kept_made env' m ++ (kept_made env' n ++ kept_made env' p)) in
    let makes_three = times-append k (kept_made env' m) (kept_made env' n ++ kept_made env' p) in
    let makes_two = times-append k (kept_made env' n) (kept_made env' p) in
    let x : ℕ = times k (kept_made env' m) in
    let y : ℕ = times k (kept_made env' n) in
    let z : ℕ = times k (kept_made env' p) in
    elim
    (either (times k (split_in (kept env ss))) (times k (kept_used env' m) + (times k (kept_used env' n) + times k (kept_used env' p)))
    (omega (arith, h, parted, parted_three, parted_two))) [
      | inl a ↦ elim (from_split k env ss x a) [ inl g ↦ inl g | inr more ↦ inr (omega (arith, more, makes, makes_three, makes_two)) ]
      | inr c ↦
          elim (either (times k (kept_used env' m)) (times k (kept_used env' n) + times k (kept_used env' p)) c) [
            | inl a ↦
                elim (from_inside k env ss x (used_bound k env' m bound a))
                [ inl g ↦ inl g | inr more ↦ inr (omega (arith, more, makes, makes_three, makes_two)) ]
            | inr d ↦
                elim (either (times k (kept_used env' n)) (times k (kept_used env' p)) d) [
                  | inl a ↦
                      elim (from_inside k env ss y (used_bound k env' n boundn a))
                      [ inl g ↦ inl g | inr more ↦ inr (omega (arith, more, makes, makes_three, makes_two)) ]
                  | inr a ↦
                      elim (from_inside k env ss z (used_bound k env' p boundp a))
                      [ inl g ↦ inl g | inr more ↦ inr (omega (arith, more, makes, makes_three, makes_two)) ]
                ]
          ]
    ]

-- each use, each number that is made and each side is at a lost split or elsewhere
used_counted : (k : ℕ) (env : Meaning) (m : Numbered) → times k (used m) ≡ times k (split_in (all_lost env m)) + times k (kept_used env m)
used_counted k env (Closed t ss c) = split_counted k env ss
used_counted k env (Use t ss n) =
    let h = split_counted k env ss in
    let one = times-append k (split_in ss) (n ∷ []) in
    let other = times-append k (split_in (kept env ss)) (n ∷ []) in
    omega (arith, h, one, other)
used_counted k env (Under t ss b n m) =
    let env' : Meaning = below n (inside ss env) in
    let h = split_counted k env ss in
    let rest = used_counted k env' m in
    let one = times-append k (split_in ss) (used m) in
    let other = times-append k (split_in (kept env ss)) (kept_used env' m) in
    let gone = split_times k (lost env ss) (all_lost env' m) in
    omega (arith, h, rest, one, other, gone)
used_counted k env (One t ss f m) =
    let env' : Meaning = inside ss env in
    let h = split_counted k env ss in
    let rest = used_counted k env' m in
    let one = times-append k (split_in ss) (used m) in
    let other = times-append k (split_in (kept env ss)) (kept_used env' m) in
    let gone = split_times k (lost env ss) (all_lost env' m) in
    omega (arith, h, rest, one, other, gone)
used_counted k env (Two t ss f m n) =
    let env' : Meaning = inside ss env in
    let h = split_counted k env ss in
    let left = used_counted k env' m in
    let right = used_counted k env' n in
    let one = times-append k (split_in ss) (used m ++ used n) in
    let one_two = times-append k (used m) (used n) in
    let other = times-append k (split_in (kept env ss)) (kept_used env' m ++ kept_used env' n) in
    let other_two = times-append k (kept_used env' m) (kept_used env' n) in
    let gone = split_times k (lost env ss) (all_lost env' m ++ all_lost env' n) in
    let gone_two = split_times k (all_lost env' m) (all_lost env' n) in
    omega (arith, h, left, right, one, one_two, other, other_two, gone, gone_two)
used_counted k env (If t ss m n p) =
    let env' : Meaning = inside ss env in
    let h = split_counted k env ss in
    let test = used_counted k env' m in
    let left = used_counted k env' n in
    let right = used_counted k env' p in
    let one = times-append k (split_in ss) (used m ++ (used n ++ used p)) in
    let one_three = times-append k (used m) (used n ++ used p) in
    let one_two = times-append k (used n) (used p) in
    let other = times-append k (split_in (kept env ss)) (kept_used env' m ++ (kept_used env' n ++ kept_used env' p)) in
    let other_three = times-append k (kept_used env' m) (kept_used env' n ++ kept_used env' p) in
    let other_two = times-append k (kept_used env' n) (kept_used env' p) in
    let gone = split_times k (lost env ss) (all_lost env' m ++ (all_lost env' n ++ all_lost env' p)) in
    let gone_three = split_times k (all_lost env' m) (all_lost env' n ++ all_lost env' p) in
    let gone_two = split_times k (all_lost env' n) (all_lost env' p) in
    omega (arith, h, test, left, right, one, one_three, one_two, other, other_three, other_two, gone, gone_three, gone_two)

made_counted : (k : ℕ) (env : Meaning) (m : Numbered)
    → (times k (made m) ≡ times k (sides (all_lost env m)) + times k (kept_made env m)) × (times k (sides (all_lost env m)) ≤ times k (all_sides m))
made_counted k env (Closed t ss c) = let h = sides_counted k env ss in (h, omega (arith, h))
made_counted k env (Use t ss n) = let h = sides_counted k env ss in (h, omega (arith, h))
made_counted k env (Under t ss b n m) =
    let env' : Meaning = below n (inside ss env) in
    let h = sides_counted k env ss in
    let (rest, few) = made_counted k env' m in
    let one = times-append k (sides ss) (n ∷ made m) in
    let every = times-append k (sides ss) (all_sides m) in
    let other = times-append k (sides (kept env ss)) (n ∷ kept_made env' m) in
    let gone = sides_times k (lost env ss) (all_lost env' m) in
    (omega (arith, h, rest, one, other, gone), omega (arith, h, few, every, gone))
made_counted k env (One t ss f m) =
    let env' : Meaning = inside ss env in
    let h = sides_counted k env ss in
    let (rest, few) = made_counted k env' m in
    let one = times-append k (sides ss) (made m) in
    let every = times-append k (sides ss) (all_sides m) in
    let other = times-append k (sides (kept env ss)) (kept_made env' m) in
    let gone = sides_times k (lost env ss) (all_lost env' m) in
    (omega (arith, h, rest, one, other, gone), omega (arith, h, few, every, gone))
made_counted k env (Two t ss f m n) =
    let env' : Meaning = inside ss env in
    let h = sides_counted k env ss in
    let (left, few) = made_counted k env' m in
    let (right, fewn) = made_counted k env' n in
    let one = times-append k (sides ss) (made m ++ made n) in
    let one_two = times-append k (made m) (made n) in
    let every = times-append k (sides ss) (all_sides m ++ all_sides n) in
    let every_two = times-append k (all_sides m) (all_sides n) in
    let other = times-append k (sides (kept env ss)) (kept_made env' m ++ kept_made env' n) in
    let other_two = times-append k (kept_made env' m) (kept_made env' n) in
    let gone = sides_times k (lost env ss) (all_lost env' m ++ all_lost env' n) in
    let gone_two = sides_times k (all_lost env' m) (all_lost env' n) in
    (omega (arith, h, left, right, one, one_two, other, other_two, gone, gone_two), omega (arith, h, few, fewn, every, every_two, gone, gone_two))
made_counted k env (If t ss m n p) =
    let env' : Meaning = inside ss env in
    let h = sides_counted k env ss in
    let (test, few) = made_counted k env' m in
    let (left, fewn) = made_counted k env' n in
    let (right, fewp) = made_counted k env' p in
    let one = times-append k (sides ss) (made m ++ (made n ++ made p)) in
    let one_three = times-append k (made m) (made n ++ made p) in
    let one_two = times-append k (made n) (made p) in
    let every = times-append k (sides ss) (all_sides m ++ (all_sides n ++ all_sides p)) in
    let every_three = times-append k (all_sides m) (all_sides n ++ all_sides p) in
    let every_two = times-append k (all_sides n) (all_sides p) in
    let other = times-append k (sides (kept env ss)) (kept_made env' m ++ (kept_made env' n ++ kept_made env' p)) in
    let other_three = times-append k (kept_made env' m) (kept_made env' n ++ kept_made env' p) in
    let other_two = times-append k (kept_made env' n) (kept_made env' p) in
    let gone = sides_times k (lost env ss) (all_lost env' m ++ (all_lost env' n ++ all_lost env' p)) in
    let gone_three = sides_times k (all_lost env' m) (all_lost env' n ++ all_lost env' p) in
    let gone_two = sides_times k (all_lost env' n) (all_lost env' p) in (
      omega (arith, h, test, left, right, one, one_three, one_two, other, other_three, other_two, gone, gone_three, gone_two),
      omega (arith, h, few, fewn, fewp, every, every_three, every_two, gone, gone_three, gone_two),
    )

-- a list that has each number at most as often as another has no greater total, and is no longer
abbrev without : ℕ → List ℕ → List ℕ
without x [] = []
without x (n ∷ ns) = if nat_eq n x then ns else n ∷ without x ns

abbrev pub total : (ℕ → ℕ) → List ℕ → ℕ
total f [] = 0
total f (n ∷ ns) = f n + total f ns

pub total-append : (f : ℕ → ℕ) (xs ys : List ℕ) → total f (xs ++ ys) ≡ total f xs + total f ys
total-append f [] ys = omega arith
total-append f (x ∷ xs) ys = let h = total-append f xs ys in omega (arith, h)

without_times : (f : ℕ → ℕ) (x : ℕ) (ns : List ℕ) → 0 < times x ns
    → ((k : ℕ) → times k ns ≡ (if nat_eq x k then 1 else 0) + times k (without x ns)) × (total f ns ≡ f x + total f (without x ns))
without_times f x [] h = absurd (omega (arith, h))
without_times f x (n ∷ ns) h =
    number_cases n x
    (λ e t. ((λ k. rw (t, e) refl), rw (t, e) refl))
    (λ e t. let other : times x (n ∷ ns) ≡ times x ns = rw t (omega arith) in
    let (counts, size) = without_times f x ns (omega (arith, h, other)) in
    ((λ k. rw t (let rest = counts k in omega (arith, rest))), rw t (omega (arith, size))))

pub total_fewer : (f : ℕ → ℕ) (xs ys : List ℕ) → ((k : ℕ) → times k xs ≤ times k ys) → total f xs ≤ total f ys
total_fewer f [] ys h = omega arith
total_fewer f (x ∷ xs) ys h =
    let some : 1 + times x xs ≤ times x ys = subst (λ (n : ℕ). n ≤ times x ys) (times_same x xs) (h x) in
    let (counts, size) = without_times f x ys (omega (arith, some)) in
    let rest = total_fewer f xs (without x ys) (λ k. let one = counts k in let more = h k in omega (arith, one, more)) in
    omega (arith, size, rest)

total_length : (xs : List ℕ) → total (λ n. 1) xs ≡ length xs
total_length [] = refl
total_length (x ∷ xs) = let h = total_length xs in omega (arith, h)

shorter : (xs ys : List ℕ) → ((k : ℕ) → times k xs ≤ times k ys) → length xs ≤ length ys
shorter xs ys h =
    let few = total_fewer (λ n. 1) xs ys h in
    let one = total_length xs in
    let other = total_length ys in
    omega (arith, few, one, other)

sides_length : (ss : List Split) → length (sides ss) ≡ length ss + length (split_in ss)
sides_length [] = omega arith
sides_length (s ∷ ss) = let h = sides_length ss in omega (arith, h)

pub split_length : (ss : List Split) → length (split_in ss) ≡ length ss
split_length [] = refl
split_length (s ∷ ss) = ap (λ (n : ℕ). suc n) (split_length ss)

import_low : (is : Imports) (k : ℕ) → length is ≤ k → is_bound (import_at is k) ≡ true → ⊥
import_low [] k low h = true≢false (sym h)
import_low (i ∷ is) zero low h = omega (arith, low)
import_low (i ∷ is) (suc k) low h = import_low is k (omega (arith, low)) h

-- no split of a term that stands for a program, and whose uses are bound, is lost
pub none_lost : (p : Program) (m : Numbered) → StandsFor p m → UsesBound (import_at p.imports) m → length (all_lost (import_at p.imports) m) ≡ 0
none_lost p m stands bound =
    let few = shorter (sides gone) (split_in gone) (λ k. counted k (times k (sides gone)) refl) in
    let one = sides_length gone in
    let other = split_length gone in
    omega (arith, few, one, other)
  where
    env : Meaning
    env = import_at p.imports

    gone : List Split
    gone = all_lost (import_at p.imports) m

    no_more : (k : ℕ) → times k (kept_made env m) ≡ 0 → length p.imports ≤ k → (n : ℕ) → times k (kept_used env m) ≡ n → n ≡ 0
    no_more k none low zero e = refl
    no_more k none low (suc n) e =
        elim (used_bound k env m bound (omega (arith, e)))
        [ inl h ↦ absurd (import_low p.imports k low h) | inr h ↦ absurd (omega (arith, none, h)) ]

    counted : (k n : ℕ) → times k (sides gone) ≡ n → times k (sides gone) ≤ times k (split_in gone)
    counted k zero e = omega (arith, e)
    counted k (suc n) e =
        let (makes, among) = made_counted k env m in
        let made_there = stands.made_once k in
        let low : length p.imports ≤ k = stands.no_import k (omega (arith, e, makes)) in
        let uses = used_counted k env m in
        let used_there : times k (used m) ≡ 1 = stands.sides_used k (omega (arith, e, among)) in
        let none = no_more k (omega (arith, e, makes, made_there)) low (times k (kept_used env m)) refl in
        omega (arith, e, makes, made_there, uses, used_there, none)
