-- A node in which two numbers are exchanged means the same where their meanings are exchanged too.
use Rattle.std.specs.Prelude.{◌≡◌, ℕ, ◌+◌, ◌<◌, List, [], ◌∷◌, ◌++◌, ◌||◌, map, nat_eq, if◌then◌else◌}
use Rattle.std.proofs.Common.{refl, sym, ap, subst, ◌∙◌, inl, inr}
use Rattle.std.proofs.lemmas.Bool.{eq-eqb, ne_eqb}
use Rattle.gos_types.specs.Types.{Type'}
use Rattle.gos_model.specs.Terms as terms
use Rattle.gos_model.specs.Typing.{Imports}
use Rattle.gos_model.specs.Weight.{node_type}
use Rattle.gos_model.proofs.NumberLemmas.{number_cases}
use Rattle.gos_check.specs.declared.linear.Split.{Split}
use Rattle.gos_check.specs.Nodes.{Numbered, Closed, Use, Under, One, Two, If, Meaning, shifted, below, inside_one, inside, meaning, HasTypes, bound_type, binder_term, one_term, two_term}
use Rattle.gos_check.specs.Linearity.{times, split_in, sides, used, all_sides, made, IsOneOf, Comes, itself, by_left, by_right, IsSplitBetween, SidesApart}
use Rattle.gos_check.specs.Numbering.{exchanged, renamed_split, renamed}
use Rattle.gos_check.proofs.TimesLemmas.{times-append}

-- a function that undoes itself
abbrev pub UndoesItself : (ℕ → ℕ) → Type 0
UndoesItself f = (k : ℕ) → f (f k) ≡ k

pub exchange_back : (a b : ℕ) → UndoesItself (exchanged a b)
exchange_back a b k =
    number_cases k a
    (λ e t. rw t (number_cases b a (λ q u. rw u (q ∙ sym e)) (λ other f. rw (f, eq-eqb b b refl) (sym e))))
    (λ other f. rw f (number_cases k b (λ e t. rw t (rw (eq-eqb a a refl) (sym e))) (λ differs g. rw g (rw (f, g) refl))))

-- to compare with the image is to compare the image
same_test : (f : ℕ → ℕ) → UndoesItself f → (k n : ℕ) → nat_eq (f k) n ≡ nat_eq k (f n)
same_test f back k n =
    number_cases (f k) n
    (λ e t. t ∙ sym (eq-eqb k (f n) (sym (back k) ∙ ap f e)))
    (λ other g. g ∙ sym (ne_eqb k (f n) (λ e. other (ap f e ∙ back n))))

pub both_test : (f : ℕ → ℕ) → UndoesItself f → (k n : ℕ) → nat_eq (f k) (f n) ≡ nat_eq k n
both_test f back k n = same_test f back k (f n) ∙ ap (λ (j : ℕ). nat_eq k j) (back n)

below_renamed : (f : ℕ → ℕ) → UndoesItself f → (n : ℕ) (env : Meaning) → (λ k. below (f n) env (f k)) ≡ below n (λ k. env (f k))
below_renamed f back n env = λ i k. if both_test f back k n i then terms.Bound 0 else shifted (env (f k))

one_renamed : (f : ℕ → ℕ) → UndoesItself f → (s : Split) (env : Meaning)
    → (λ k. inside_one (renamed_split f s) env (f k)) ≡ inside_one s (λ k. env (f k))
one_renamed f back s env =
    λ i k. if both_test f back k s.left i || both_test f back k s.right i then env (f s.of) else env (f k)

inside_renamed : (f : ℕ → ℕ) → UndoesItself f → (ss : List Split) (env : Meaning)
    → (λ k. inside (map (renamed_split f) ss) env (f k)) ≡ inside ss (λ k. env (f k))
inside_renamed f back [] env = refl
inside_renamed f back (s ∷ ss) env =
    inside_renamed f back ss (inside_one (renamed_split f s) env) ∙ ap (λ (e : Meaning). inside ss e) (one_renamed f back s env)

-- below a binder inside of splits
under_renamed : (f : ℕ → ℕ) → UndoesItself f → (n : ℕ) (ss : List Split) (env : Meaning)
    → (λ k. below (f n) (inside (map (renamed_split f) ss) env) (f k)) ≡ below n (inside ss (λ k. env (f k)))
under_renamed f back n ss env =
    below_renamed f back n (inside (map (renamed_split f) ss) env) ∙ ap (λ (e : Meaning). below n e) (inside_renamed f back ss env)

-- a node that means the same below renamed splits means the same below the splits
meaning_inside : (f : ℕ → ℕ) → UndoesItself f → (ss : List Split) (env : Meaning) (node : Numbered)
    → meaning (inside (map (renamed_split f) ss) env) (renamed f node) ≡ meaning (λ k. inside (map (renamed_split f) ss) env (f k)) node
    → meaning (inside (map (renamed_split f) ss) env) (renamed f node) ≡ meaning (inside ss (λ k. env (f k))) node
meaning_inside f back ss env node same = same ∙ ap (λ (e : Meaning). meaning e node) (inside_renamed f back ss env)

pub meaning_renamed : (f : ℕ → ℕ) → UndoesItself f → (env : Meaning) (node : Numbered) → meaning env (renamed f node) ≡ meaning (λ k. env (f k)) node
meaning_renamed f back env (Closed t ss c) = refl
meaning_renamed f back env (Use t ss n) = refl
meaning_renamed f back env (Under t ss b n m) =
    ap (binder_term b t) (meaning_renamed f back _ m ∙ ap (λ (e : Meaning). meaning e m) (under_renamed f back n ss env))
meaning_renamed f back env (One t ss g m) = ap (one_term g) (meaning_inside f back ss env m (meaning_renamed f back (inside (map (renamed_split f) ss) env) m))
meaning_renamed f back env (Two t ss g m n) =
    let p = meaning_inside f back ss env m (meaning_renamed f back (inside (map (renamed_split f) ss) env) m) in
    let q = meaning_inside f back ss env n (meaning_renamed f back (inside (map (renamed_split f) ss) env) n) in
    λ i. two_term g (p i) (q i)
meaning_renamed f back env (If t ss m n o) =
    let p = meaning_inside f back ss env m (meaning_renamed f back (inside (map (renamed_split f) ss) env) m) in
    let q = meaning_inside f back ss env n (meaning_renamed f back (inside (map (renamed_split f) ss) env) n) in
    let r = meaning_inside f back ss env o (meaning_renamed f back (inside (map (renamed_split f) ss) env) o) in
    λ i. terms.If (p i) (q i) (r i)

-- types below splits are types below the renamed splits
types_inside : (f : ℕ → ℕ) → UndoesItself f → (i : Imports) (g : List Type') (ss : List Split) (env : Meaning) (node : Numbered)
    → HasTypes i g (inside ss (λ k. env (f k))) node → HasTypes i g (λ k. inside (map (renamed_split f) ss) env (f k)) node
types_inside f back i g ss env node h = subst (λ (e : Meaning). HasTypes i g e node) (sym (inside_renamed f back ss env)) h

pub types_renamed : (f : ℕ → ℕ) → UndoesItself f → (i : Imports) (g : List Type') (env : Meaning) (node : Numbered)
    → HasTypes i g (λ k. env (f k)) node → HasTypes i g env (renamed f node)
types_renamed f back i g env (Closed t ss c) h = h
types_renamed f back i g env (Use t ss n) h = h
types_renamed f back i g env (Under t ss b n m) h = (
  h.0 ∙ ap (node_type i g) (sym (meaning_renamed f back env (Under t ss b n m))),
  types_renamed f back i (bound_type b t ∷ g) _ m
      (subst (λ (e : Meaning). HasTypes i (bound_type b t ∷ g) e m) (sym (under_renamed f back n ss env)) h.1),
)
types_renamed f back i g env (One t ss o m) h = (
  h.0 ∙ ap (node_type i g) (sym (meaning_renamed f back env (One t ss o m))),
  types_renamed f back i g _ m (types_inside f back i g ss env m h.1),
)
types_renamed f back i g env (Two t ss o m n) h = (
  h.0 ∙ ap (node_type i g) (sym (meaning_renamed f back env (Two t ss o m n))),
  types_renamed f back i g _ m (types_inside f back i g ss env m h.1),
  types_renamed f back i g _ n (types_inside f back i g ss env n h.2),
)
types_renamed f back i g env (If t ss m n o) h = (
  h.0 ∙ ap (node_type i g) (sym (meaning_renamed f back env (If t ss m n o))),
  types_renamed f back i g _ m (types_inside f back i g ss env m h.1),
  types_renamed f back i g _ n (types_inside f back i g ss env n h.2),
  types_renamed f back i g _ o (types_inside f back i g ss env o h.3),
)

-- a number is as often in the images as its image is in the list
one_times : (f : ℕ → ℕ) → UndoesItself f → (k n : ℕ) (xs ys : List ℕ) → times k xs ≡ times (f k) ys → times k (f n ∷ xs) ≡ times (f k) (n ∷ ys)
one_times f back k n xs ys h = λ i. (if same_test f back n k i then 1 else 0) + h i

split_in_times : (f : ℕ → ℕ) → UndoesItself f → (k : ℕ) (ss : List Split) → times k (split_in (map (renamed_split f) ss)) ≡ times (f k) (split_in ss)
split_in_times f back k [] = refl
split_in_times f back k (s ∷ ss) = one_times f back k s.of _ _ (split_in_times f back k ss)

sides_times : (f : ℕ → ℕ) → UndoesItself f → (k : ℕ) (ss : List Split) → times k (sides (map (renamed_split f) ss)) ≡ times (f k) (sides ss)
sides_times f back k [] = refl
sides_times f back k (s ∷ ss) =
    one_times f back k s.left (f s.right ∷ sides (map (renamed_split f) ss)) (s.right ∷ sides ss)
    (one_times f back k s.right (sides (map (renamed_split f) ss)) (sides ss) (sides_times f back k ss))

-- lists of parts, in each of which one number is as often as another is in a list of its own
two_times : (k j : ℕ) (xs ys vs ws : List ℕ) → times k xs ≡ times j vs → times k ys ≡ times j ws → times k (xs ++ ys) ≡ times j (vs ++ ws)
two_times k j xs ys vs ws p q = times-append k xs ys ∙ ((λ i. p i + q i) ∙ sym (times-append j vs ws))

three_times : (k j : ℕ) (xs ys zs us vs ws : List ℕ) → times k xs ≡ times j us → times k ys ≡ times j vs → times k zs ≡ times j ws
    → times k (xs ++ (ys ++ zs)) ≡ times j (us ++ (vs ++ ws))
three_times k j xs ys zs us vs ws p q r = two_times k j xs (ys ++ zs) us (vs ++ ws) p (two_times k j ys zs vs ws q r)

four_times : (k j : ℕ) (rs xs ys zs ts us vs ws : List ℕ) → times k rs ≡ times j ts → times k xs ≡ times j us → times k ys ≡ times j vs
    → times k zs ≡ times j ws → times k (rs ++ (xs ++ (ys ++ zs))) ≡ times j (ts ++ (us ++ (vs ++ ws)))
four_times k j rs xs ys zs ts us vs ws o p q r = two_times k j rs (xs ++ (ys ++ zs)) ts (us ++ (vs ++ ws)) o (three_times k j xs ys zs us vs ws p q r)

pub used_times : (f : ℕ → ℕ) → UndoesItself f → (k : ℕ) (node : Numbered) → times k (used (renamed f node)) ≡ times (f k) (used node)
used_times f back k (Closed t ss c) = split_in_times f back k ss
used_times f back k (Use t ss n) =
    two_times k (f k) _ _ (split_in ss) (n ∷ []) (split_in_times f back k ss) (one_times f back k n [] [] refl)
used_times f back k (Under t ss b n m) = two_times k (f k) _ _ (split_in ss) _ (split_in_times f back k ss) (used_times f back k m)
used_times f back k (One t ss g m) = two_times k (f k) _ _ (split_in ss) _ (split_in_times f back k ss) (used_times f back k m)
used_times f back k (Two t ss g m n) =
    three_times k (f k) _ _ _ (split_in ss) (used m) _ (split_in_times f back k ss) (used_times f back k m) (used_times f back k n)
used_times f back k (If t ss m n o) =
    four_times k (f k) _ _ _ _ (split_in ss) (used m) (used n) _ (split_in_times f back k ss)
    (used_times f back k m) (used_times f back k n) (used_times f back k o)

pub all_sides_times : (f : ℕ → ℕ) → UndoesItself f → (k : ℕ) (node : Numbered) → times k (all_sides (renamed f node)) ≡ times (f k) (all_sides node)
all_sides_times f back k (Closed t ss c) = sides_times f back k ss
all_sides_times f back k (Use t ss n) = sides_times f back k ss
all_sides_times f back k (Under t ss b n m) = two_times k (f k) _ _ (sides ss) _ (sides_times f back k ss) (all_sides_times f back k m)
all_sides_times f back k (One t ss g m) = two_times k (f k) _ _ (sides ss) _ (sides_times f back k ss) (all_sides_times f back k m)
all_sides_times f back k (Two t ss g m n) =
    three_times k (f k) _ _ _ (sides ss) (all_sides m) _ (sides_times f back k ss) (all_sides_times f back k m) (all_sides_times f back k n)
all_sides_times f back k (If t ss m n o) =
    four_times k (f k) _ _ _ _ (sides ss) (all_sides m) (all_sides n) _ (sides_times f back k ss)
    (all_sides_times f back k m) (all_sides_times f back k n) (all_sides_times f back k o)

pub made_times : (f : ℕ → ℕ) → UndoesItself f → (k : ℕ) (node : Numbered) → times k (made (renamed f node)) ≡ times (f k) (made node)
made_times f back k (Closed t ss c) = sides_times f back k ss
made_times f back k (Use t ss n) = sides_times f back k ss
made_times f back k (Under t ss b n m) =
    two_times k (f k) _ _ (sides ss) (n ∷ made m) (sides_times f back k ss) (one_times f back k n _ _ (made_times f back k m))
made_times f back k (One t ss g m) = two_times k (f k) _ _ (sides ss) _ (sides_times f back k ss) (made_times f back k m)
made_times f back k (Two t ss g m n) =
    three_times k (f k) _ _ _ (sides ss) (made m) _ (sides_times f back k ss) (made_times f back k m) (made_times f back k n)
made_times f back k (If t ss m n o) =
    four_times k (f k) _ _ _ _ (sides ss) (made m) (made n) _ (sides_times f back k ss)
    (made_times f back k m) (made_times f back k n) (made_times f back k o)

-- a renamed split back as it was
one_of_renamed : (f : ℕ → ℕ) (s : Split) (ss : List Split) → IsOneOf s (map (renamed_split f) ss) → (t : Split) × (s ≡ renamed_split f t) × IsOneOf t ss
one_of_renamed f s [] h = absurd h
one_of_renamed f s (t ∷ ss) (inl e) = (t, e, inl refl)
one_of_renamed f s (t ∷ ss) (inr h) = let r = one_of_renamed f s ss h in (r.0, r.1, inr r.2)

comes_back : (f : ℕ → ℕ) → UndoesItself f → (ss : List Split) (n a : ℕ) → Comes (map (renamed_split f) ss) n a → Comes ss (f n) (f a)
comes_back f back ss n a (itself _) = itself (f n)
comes_back f back ss n a (by_left s _ h c) =
    let r = one_of_renamed f s ss h in
    let left : f s.left ≡ r.0.left = ap (λ (u : Split). f u.left) r.1 ∙ back r.0.left in
    let outer : f s.of ≡ r.0.of = ap (λ (u : Split). f u.of) r.1 ∙ back r.0.of in
    subst (λ (j : ℕ). Comes ss j (f a)) (sym outer) (by_left r.0 (f a) r.2 (subst (λ (j : ℕ). Comes ss j (f a)) left (comes_back f back ss s.left a c)))
comes_back f back ss n a (by_right s _ h c) =
    let r = one_of_renamed f s ss h in
    let right : f s.right ≡ r.0.right = ap (λ (u : Split). f u.right) r.1 ∙ back r.0.right in
    let outer : f s.of ≡ r.0.of = ap (λ (u : Split). f u.of) r.1 ∙ back r.0.of in
    subst (λ (j : ℕ). Comes ss j (f a)) (sym outer) (by_right r.0 (f a) r.2 (subst (λ (j : ℕ). Comes ss j (f a)) right (comes_back f back ss s.right a c)))

between_renamed : (f : ℕ → ℕ) → UndoesItself f → (ss : List Split) (part : Numbered) → IsSplitBetween ss part
    → IsSplitBetween (map (renamed_split f) ss) (renamed f part)
between_renamed f back ss part h s a b m x y u v =
    let r = one_of_renamed f s ss m in
    let left : f s.left ≡ r.0.left = ap (λ (w : Split). f w.left) r.1 ∙ back r.0.left in
    let right : f s.right ≡ r.0.right = ap (λ (w : Split). f w.right) r.1 ∙ back r.0.right in
    h r.0 (f a) (f b) r.2
    (subst (λ (j : ℕ). Comes ss j (f a)) left (comes_back f back ss s.left a x))
    (subst (λ (j : ℕ). Comes ss j (f b)) right (comes_back f back ss s.right b y))
    (subst (λ (j : ℕ). 0 < j) (used_times f back a part) u)
    (subst (λ (j : ℕ). 0 < j) (used_times f back b part) v)

pub apart_renamed : (f : ℕ → ℕ) → UndoesItself f → (node : Numbered) → SidesApart node → SidesApart (renamed f node)
apart_renamed f back (Closed t ss c) h = tt
apart_renamed f back (Use t ss n) h = tt
apart_renamed f back (Under t ss b n m) h = (between_renamed f back ss m h.0, apart_renamed f back m h.1)
apart_renamed f back (One t ss g m) h = (between_renamed f back ss m h.0, apart_renamed f back m h.1)
apart_renamed f back (Two t ss g m n) h =
    (between_renamed f back ss m h.0, between_renamed f back ss n h.1, apart_renamed f back m h.2, apart_renamed f back n h.3)
apart_renamed f back (If t ss m n o) h =
    (between_renamed f back ss m h.0, between_renamed f back ss n h.1, between_renamed f back ss o h.2, apart_renamed f back m h.3, apart_renamed f back n h.4, apart_renamed f back o h.5)
