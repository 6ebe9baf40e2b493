-- What is free in a term, and what is free in a part of it.
use Rattle.std.specs.Prelude.{◌≡◌, ◌⊎◌, ◌+◌, ◌-◌, ℕ, zero, suc, Bool, true, false, ◌||◌, List, [], ◌∷◌, ◌++◌, Contains, nat_eq, nat_lt, if◌then◌else◌}
use Rattle.std.proofs.Common.{arith, refl, sym, ap, subst, inl, inr}
use Rattle.std.proofs.lemmas.Bool.Decides.{nat_tests}
use Rattle.std.proofs.lemmas.List.Elements.{Contains-append_left, Contains-append_right, Contains-append_cases}
use Rattle.gos_model.specs.Terms.{Term, Skip, Lit, Bound, Import, Lam, App, Both, Fst, Snd, Seq, Par, If, While, Assign, Deref, New, Not, Bin, Loc, Scope, Wait, Held, Put, NewArray, Arr}
use Rattle.gos_model.specs.Substitution.{put_at}
use Rattle.gos_model.specs.Stores.{Store}
use Rattle.gos_model.specs.Typing.{Thing, Variable, Named, Place, things, Apart}
use Rattle.gos_programs.specs.contexts.Contexts.{Context, SeqFirst, ParLeft, ParRight, IfTest, BinLeft, HeldRight, NotOf, AssignRight, ScopeBody, ReadIndex, WriteIndex, plug, ReadAt, WriteAt}
use Rattle.gos_programs.specs.contexts.Standing.{Present, StandsIn}
use Rattle.gos_swaps.specs.proper.Proper.{IsClosed}

-- lists of one thing, and of none
pub only_one : (a t : Thing) → Contains (a ∷ []) t → t ≡ a
only_one a t (zero, l, e) = sym e
only_one a t (suc k, l, e) = let bad : ⊥ = omega (arith, l) in absurd bad

pub there : (a : Thing) → Contains (a ∷ []) a
there a = (0, omega arith, refl)

pub nothing : {P : Type 0} (t : Thing) → Contains [] t → P
nothing t (k, l, e) = let bad : ⊥ = omega (arith, l) in absurd bad

pub left_part : (xs ys : List Thing) (x : Thing) → Contains xs x → Contains (xs ++ ys) x
left_part xs ys x h = Contains-append_left xs ys x h

pub right_part : (xs ys : List Thing) (x : Thing) → Contains ys x → Contains (xs ++ ys) x
right_part xs ys x h = Contains-append_right xs ys x h

pub by_parts : {P : Type 0} (xs ys : List Thing) (x : Thing) → (Contains xs x → P) → (Contains ys x → P) → Contains (xs ++ ys) x → P
by_parts {P} xs ys x f g h = split (Contains-append_cases xs ys x h)
  where
    split : Contains xs x ⊎ Contains ys x → P
    split (inl k) = f k
    split (inr k) = g k

pub both_parts : (xs ys zs ws : List Thing) (x : Thing) → (Contains xs x → Contains zs x) → (Contains ys x → Contains ws x) → Contains (xs ++ ys) x
    → Contains (zs ++ ws) x
both_parts xs ys zs ws x f g h = by_parts xs ys x (λ k. left_part zs ws x (f k)) (λ k. right_part zs ws x (g k)) h

-- whether variable d stands in a term
abbrev pub has : ℕ → Term → Bool
has d (Bound i) = nat_eq i d
has d (Lam a m) = has (suc d) m
has d (App m n) = has d m || has d n
has d (Both m n) = has d m || has d n
has d (Fst m) = has d m
has d (Snd m) = has d m
has d (Seq m n) = has d m || has d n
has d (Par m n) = has d m || has d n
has d (If m n p) = has d m || (has d n || has d p)
has d (While m n) = has d m || has d n
has d (Assign m n) = has d m || has d n
has d (Deref m) = has d m
has d (New w m) = has (suc d) m
has d (NewArray n w m) = has (suc d) m
has d (Not m) = has d m
has d (Bin op m n) = has d m || has d n
has d (Scope l m) = has d m
has d (Held k op n) = has d n
has d (Put m k) = has d m
has d m = false

one : (a b : Bool) → (a || b) ≡ false → a ≡ false
one true b e = e
one false b e = refl

two : (a b : Bool) → (a || b) ≡ false → b ≡ false
two true b e = absurd (cc e)
two false b e = e

some : (a b : Bool) → (a || b) ≡ true → (a ≡ true) ⊎ (b ≡ true)
some true b e = inl refl
some false b e = inr e

pub or_first : (a b : Bool) → a ≡ true → (a || b) ≡ true
or_first true b e = refl
or_first false b e = absurd (cc e)

pub or_second : (a b : Bool) → b ≡ true → (a || b) ≡ true
or_second true b e = refl
or_second false b e = e

chosen : (b : Bool) (m n : Term) → b ≡ false → (if b then m else n) ≡ n
chosen true m n e = absurd (cc e)
chosen false m n e = refl

-- a term without it stays
pub absent : (m : Term) (d : ℕ) (q : Term) → has d m ≡ false → put_at d q m ≡ m
absent Skip d q h = refl
absent (Lit k w) d q h = refl
absent (Bound n) d q h = chosen (nat_eq n d) q (Bound n) h
absent (Import x) d q h = refl
absent (Lam a m) d q h = λ i. Lam a (absent m (suc d) q h i)
absent (App m n) d q h = λ i. App (absent m d q (one (has d m) (has d n) h) i) (absent n d q (two (has d m) (has d n) h) i)
absent (Both m n) d q h = λ i. Both (absent m d q (one (has d m) (has d n) h) i) (absent n d q (two (has d m) (has d n) h) i)
absent (Fst m) d q h = λ i. Fst (absent m d q h i)
absent (Snd m) d q h = λ i. Snd (absent m d q h i)
absent (Seq m n) d q h = λ i. Seq (absent m d q (one (has d m) (has d n) h) i) (absent n d q (two (has d m) (has d n) h) i)
absent (Par m n) d q h = λ i. Par (absent m d q (one (has d m) (has d n) h) i) (absent n d q (two (has d m) (has d n) h) i)
absent (If m n p) d q h =
    let rest = two (has d m) (has d n || has d p) h in
    λ i. If
    (absent m d q (one (has d m) (has d n || has d p) h) i)
    (absent n d q (one (has d n) (has d p) rest) i)
    (absent p d q (two (has d n) (has d p) rest) i)
absent (While m n) d q h = λ i. While (absent m d q (one (has d m) (has d n) h) i) (absent n d q (two (has d m) (has d n) h) i)
absent (Assign m n) d q h = λ i. Assign (absent m d q (one (has d m) (has d n) h) i) (absent n d q (two (has d m) (has d n) h) i)
absent (Deref m) d q h = λ i. Deref (absent m d q h i)
absent (New w m) d q h = λ i. New w (absent m (suc d) q h i)
absent (NewArray n w m) d q h = λ i. NewArray n w (absent m (suc d) q h i)
absent (Not m) d q h = λ i. Not (absent m d q h i)
absent (Bin op m n) d q h = λ i. Bin op (absent m d q (one (has d m) (has d n) h) i) (absent n d q (two (has d m) (has d n) h) i)
absent (Loc l) d q h = refl
absent (Arr l) d q h = refl
absent (Scope l m) d q h = λ i. Scope l (absent m d q h i)
absent (Wait x s) d q h = refl
absent (Held k op n) d q h = λ i. Held k op (absent n d q h i)
absent (Put m k) d q h = λ i. Put (absent m d q h i) k

-- a term with it has it among its things
found_bound : (c e n : ℕ) → nat_eq n (c + e) ≡ true → Contains (if nat_lt n c then [] else Variable (n - c) ∷ []) (Variable e)
found_bound c e n h = tested (nat_lt n c) refl
  where
    tested : (t : Bool) → nat_lt n c ≡ t → Contains (if t then [] else Variable (n - c) ∷ []) (Variable e)
    tested true l = let no : ⊥ = grind (arith, nat_tests, h, l) in absurd no
    tested false l = let same : n - c ≡ e = grind (arith, nat_tests, h) in (0, omega arith, ap Variable same)

further : (m : Term) (c e : ℕ) → has (suc (c + e)) m ≡ true → has (suc c + e) m ≡ true
further m c e h = let same : suc (c + e) ≡ suc c + e = omega arith in subst (λ x. has x m ≡ true) same h

nearer : (m : Term) (c e : ℕ) → has (suc c + e) m ≡ true → has (suc (c + e)) m ≡ true
nearer m c e h = let same : suc c + e ≡ suc (c + e) = omega arith in subst (λ x. has x m ≡ true) same h

in_two :
    (m n : Term) (c e : ℕ) → (has (c + e) m || has (c + e) n) ≡ true
    → (has (c + e) m ≡ true → Contains (things c m) (Variable e)) → (has (c + e) n ≡ true → Contains (things c n) (Variable e))
    → Contains (things c m ++ things c n) (Variable e)
in_two m n c e h first second = split (some (has (c + e) m) (has (c + e) n) h)
  where
    split : (has (c + e) m ≡ true) ⊎ (has (c + e) n ≡ true) → Contains (things c m ++ things c n) (Variable e)
    split (inl k) = left_part (things c m) (things c n) (Variable e) (first k)
    split (inr k) = right_part (things c m) (things c n) (Variable e) (second k)

in_three :
    (m n p : Term) (c e : ℕ) → (has (c + e) m || (has (c + e) n || has (c + e) p)) ≡ true
    → (has (c + e) m ≡ true → Contains (things c m) (Variable e))
    → ((has (c + e) n || has (c + e) p) ≡ true → Contains (things c n ++ things c p) (Variable e))
    → Contains (things c m ++ (things c n ++ things c p)) (Variable e)
in_three m n p c e h first rest = split (some (has (c + e) m) (has (c + e) n || has (c + e) p) h)
  where
    split :
        (has (c + e) m ≡ true) ⊎ ((has (c + e) n || has (c + e) p) ≡ true) → Contains (things c m ++ (things c n ++ things c p)) (Variable e)
    split (inl k) = left_part (things c m) (things c n ++ things c p) (Variable e) (first k)
    split (inr k) = right_part (things c m) (things c n ++ things c p) (Variable e) (rest k)

pub present : (m : Term) (c e : ℕ) → has (c + e) m ≡ true → Contains (things c m) (Variable e)
present Skip c e h = absurd (cc h)
present (Lit k w) c e h = absurd (cc h)
present (Bound n) c e h = found_bound c e n h
present (Import x) c e h = absurd (cc h)
present (Lam a m) c e h = present m (suc c) e (further m c e h)
present (App m n) c e h = in_two m n c e h (present m c e) (present n c e)
present (Both m n) c e h = in_two m n c e h (present m c e) (present n c e)
present (Fst m) c e h = present m c e h
present (Snd m) c e h = present m c e h
present (Seq m n) c e h = in_two m n c e h (present m c e) (present n c e)
present (Par m n) c e h = in_two m n c e h (present m c e) (present n c e)
present (If m n p) c e h = in_three m n p c e h (present m c e) (λ k. in_two n p c e k (present n c e) (present p c e))
present (While m n) c e h = in_two m n c e h (present m c e) (present n c e)
present (Assign m n) c e h = in_two m n c e h (present m c e) (present n c e)
present (Deref m) c e h = present m c e h
present (New w m) c e h = present m (suc c) e (further m c e h)
present (NewArray n w m) c e h = present m (suc c) e (further m c e h)
present (Not m) c e h = present m c e h
present (Bin op m n) c e h = in_two m n c e h (present m c e) (present n c e)
present (Loc l) c e h = absurd (cc h)
present (Arr l) c e h = absurd (cc h)
present (Scope l m) c e h = right_part (Place l ∷ []) (things c m) (Variable e) (present m c e h)
present (Wait x s) c e h = absurd (cc h)
present (Held k op n) c e h = present n c e h
present (Put m k) c e h = present m c e h

-- and the other way round
variable_of : (e n : ℕ) → Variable e ≡ Variable n → e ≡ n
variable_of e n h = ap number h
  where
    number : Thing → ℕ
    number (Variable k) = k
    number t = 0

no_variable : {P : Type 0} (e : ℕ) (t : Thing) → (t ≡ Variable e → ⊥) → Contains (t ∷ []) (Variable e) → P
no_variable e t other h = absurd (other (sym (only_one t (Variable e) h)))

seen_bound : (c e n : ℕ) → Contains (if nat_lt n c then [] else Variable (n - c) ∷ []) (Variable e) → nat_eq n (c + e) ≡ true
seen_bound c e n h = tested (nat_lt n c) refl h
  where
    tested : (t : Bool) → nat_lt n c ≡ t → Contains (if t then [] else Variable (n - c) ∷ []) (Variable e) → nat_eq n (c + e) ≡ true
    tested true l k = nothing (Variable e) k
    tested false l k =
        let same : e ≡ n - c = variable_of e (n - c) (only_one (Variable (n - c)) (Variable e) k) in grind (arith, nat_tests, l, same)

seen_two :
    (m n : Term) (c e : ℕ) → (Contains (things c m) (Variable e) → has (c + e) m ≡ true) → (Contains (things c n) (Variable e) → has (c + e) n ≡ true)
    → Contains (things c m ++ things c n) (Variable e) → (has (c + e) m || has (c + e) n) ≡ true
seen_two m n c e f g h =
    by_parts (things c m) (things c n) (Variable e)
    (λ k. or_first (has (c + e) m) (has (c + e) n) (f k)) (λ k. or_second (has (c + e) m) (has (c + e) n) (g k)) h

pub seen : (m : Term) (c e : ℕ) → Contains (things c m) (Variable e) → has (c + e) m ≡ true
seen Skip c e h = nothing (Variable e) h
seen (Lit k w) c e h = nothing (Variable e) h
seen (Bound n) c e h = seen_bound c e n h
seen (Import x) c e h = no_variable e (Named x) (λ k. cc k) h
seen (Lam a m) c e h = nearer m c e (seen m (suc c) e h)
seen (App m n) c e h = seen_two m n c e (seen m c e) (seen n c e) h
seen (Both m n) c e h = seen_two m n c e (seen m c e) (seen n c e) h
seen (Fst m) c e h = seen m c e h
seen (Snd m) c e h = seen m c e h
seen (Seq m n) c e h = seen_two m n c e (seen m c e) (seen n c e) h
seen (Par m n) c e h = seen_two m n c e (seen m c e) (seen n c e) h
seen (If m n p) c e h =
    by_parts (things c m) (things c n ++ things c p) (Variable e)
    (λ k. or_first (has (c + e) m) (has (c + e) n || has (c + e) p) (seen m c e k))
    (λ k. or_second (has (c + e) m) (has (c + e) n || has (c + e) p) (seen_two n p c e (seen n c e) (seen p c e) k)) h
seen (While m n) c e h = seen_two m n c e (seen m c e) (seen n c e) h
seen (Assign m n) c e h = seen_two m n c e (seen m c e) (seen n c e) h
seen (Deref m) c e h = seen m c e h
seen (New w m) c e h = nearer m c e (seen m (suc c) e h)
seen (NewArray n w m) c e h = nearer m c e (seen m (suc c) e h)
seen (Not m) c e h = seen m c e h
seen (Bin op m n) c e h = seen_two m n c e (seen m c e) (seen n c e) h
seen (Loc l) c e h = no_variable e (Place l) (λ k. cc k) h
seen (Arr l) c e h = no_variable e (Place l) (λ k. cc k) h
seen (Scope l m) c e h = by_parts (Place l ∷ []) (things c m) (Variable e) (no_variable e (Place l) (λ k. cc k)) (seen m c e) h
seen (Wait x s) c e h = no_variable e (Named x) (λ k. cc k) h
seen (Held k op n) c e h = seen n c e h
seen (Put m k) c e h = seen m c e h

-- a variable is in one part alone of two that are apart
pub lone : (m n : Term) (d : ℕ) → Apart m n → has d m ≡ true → has d n ≡ false
lone m n d apart h = tested (has d n) refl
  where
    at_once : (p : Term) → has d p ≡ true → has (0 + d) p ≡ true
    at_once p k = let same : d ≡ 0 + d = omega arith in subst (λ x. has x p ≡ true) same k

    tested : (t : Bool) → has d n ≡ t → t ≡ false
    tested true k = absurd (apart (Variable d) (present m 0 d (at_once m h)) (present n 0 d (at_once n k)))
    tested false k = refl

-- ports and locations are the same under any number of binders
abbrev pub IsSteady : Thing → Type 0
IsSteady (Variable n) = ⊥
IsSteady t = Unit {0}

steady_bound : {P : Type 0} (c n : ℕ) (x : Thing) → IsSteady x → Contains (if nat_lt n c then [] else Variable (n - c) ∷ []) x → P
steady_bound {P} c n x is h = tested (nat_lt n c) h
  where
    tested : (t : Bool) → Contains (if t then [] else Variable (n - c) ∷ []) x → P
    tested true k = nothing x k
    tested false k = absurd (subst IsSteady (only_one (Variable (n - c)) x k) is)

pub steady : (m : Term) (c d : ℕ) (x : Thing) → IsSteady x → Contains (things c m) x → Contains (things d m) x
steady Skip c d x is h = h
steady (Lit k w) c d x is h = h
steady (Bound n) c d x is h = steady_bound c n x is h
steady (Import y) c d x is h = h
steady (Lam a m) c d x is h = steady m (suc c) (suc d) x is h
steady (App m n) c d x is h = both_parts (things c m) (things c n) (things d m) (things d n) x (steady m c d x is) (steady n c d x is) h
steady (Both m n) c d x is h = both_parts (things c m) (things c n) (things d m) (things d n) x (steady m c d x is) (steady n c d x is) h
steady (Fst m) c d x is h = steady m c d x is h
steady (Snd m) c d x is h = steady m c d x is h
steady (Seq m n) c d x is h = both_parts (things c m) (things c n) (things d m) (things d n) x (steady m c d x is) (steady n c d x is) h
steady (Par m n) c d x is h = both_parts (things c m) (things c n) (things d m) (things d n) x (steady m c d x is) (steady n c d x is) h
steady (If m n p) c d x is h =
    both_parts (things c m) (things c n ++ things c p) (things d m) (things d n ++ things d p) x (steady m c d x is)
    (both_parts (things c n) (things c p) (things d n) (things d p) x (steady n c d x is) (steady p c d x is)) h
steady (While m n) c d x is h = both_parts (things c m) (things c n) (things d m) (things d n) x (steady m c d x is) (steady n c d x is) h
steady (Assign m n) c d x is h = both_parts (things c m) (things c n) (things d m) (things d n) x (steady m c d x is) (steady n c d x is) h
steady (Deref m) c d x is h = steady m c d x is h
steady (New w m) c d x is h = steady m (suc c) (suc d) x is h
steady (NewArray n w m) c d x is h = steady m (suc c) (suc d) x is h
steady (Not m) c d x is h = steady m c d x is h
steady (Bin op m n) c d x is h = both_parts (things c m) (things c n) (things d m) (things d n) x (steady m c d x is) (steady n c d x is) h
steady (Loc l) c d x is h = h
steady (Arr l) c d x is h = h
steady (Scope l m) c d x is h = both_parts (Place l ∷ []) (things c m) (Place l ∷ []) (things d m) x (λ k. k) (steady m c d x is) h
steady (Wait y s) c d x is h = h
steady (Held k op n) c d x is h = steady n c d x is h
steady (Put m k) c d x is h = steady m c d x is h

-- of a closed term all things are so
pub closed_things : (q : Term) (c : ℕ) (x : Thing) → IsClosed q → Contains (things c q) x → IsSteady x × Contains (things 0 q) x
closed_things q c (Variable e) closed h = absurd (closed (c + e) (present q 0 (c + e) (same (c + e) (seen q c e h))))
  where
    same : (k : ℕ) → has k q ≡ true → has (0 + k) q ≡ true
    same k g = let is : k ≡ 0 + k = omega arith in subst (λ (z : ℕ). has z q ≡ true) is g
closed_things q c (Named y) closed h = (tt, steady q c 0 (Named y) tt h)
closed_things q c (Place l) closed h = (tt, steady q c 0 (Place l) tt h)

-- what is free in the term of a context is free in the whole
pub within : (c : Context) (m : Term) (x : Thing) → Contains (things 0 m) x → Contains (things 0 (plug c m)) x
within (SeqFirst n) m x h = left_part (things 0 m) (things 0 n) x h
within (ParLeft n) m x h = left_part (things 0 m) (things 0 n) x h
within (ParRight n) m x h = right_part (things 0 n) (things 0 m) x h
within (IfTest n p) m x h = left_part (things 0 m) (things 0 n ++ things 0 p) x h
within (BinLeft op n) m x h = left_part (things 0 m) (things 0 n) x h
within (HeldRight k op) m x h = h
within NotOf m x h = h
within (AssignRight n) m x h = right_part (things 0 n) (things 0 m) x h
within (ScopeBody l) m x h = right_part (Place l ∷ []) (things 0 m) x h
within (ReadIndex y n) m x h = right_part (Named y ∷ []) (things 0 n ++ things 0 m) x (right_part (things 0 n) (things 0 m) x h)
within (WriteIndex y n k) m x h = right_part (Named y ∷ []) (things 0 n ++ things 0 m) x (right_part (things 0 n) (things 0 m) x h)
within (ReadAt l) m x h = right_part (Place l ∷ []) (things 0 m) x h
within (WriteAt l k) m x h = right_part (Place l ∷ []) (things 0 m) x h

-- each location of a term that stands in a store is there
place_of : (l k : ℕ) → Place l ≡ Place k → k ≡ l
place_of l k h = sym (ap number h)
  where
    number : Thing → ℕ
    number (Place n) = n
    number t = 0

no_place : {P : Type 0} (l : ℕ) (t : Thing) → (t ≡ Place l → ⊥) → Contains (t ∷ []) (Place l) → P
no_place l t other h = absurd (other (sym (only_one t (Place l) h)))

same_place : (s : Store) (k l : ℕ) → Present s k → Contains (Place k ∷ []) (Place l) → Present s l
same_place s k l p h = subst (Present s) (place_of l k (only_one (Place k) (Place l) h)) p

pub place_present : (s : Store) (m : Term) (c l : ℕ) → StandsIn s m → Contains (things c m) (Place l) → Present s l
place_present s Skip c l st h = nothing (Place l) h
place_present s (Lit k w) c l st h = nothing (Place l) h
place_present s (Bound n) c l st h = steady_bound c n (Place l) tt h
place_present s (Import x) c l st h = no_place l (Named x) (λ k. cc k) h
place_present s (Lam a m) c l st h = place_present s m (suc c) l st h
place_present s (App m n) c l st h =
    by_parts (things c m) (things c n) (Place l) (place_present s m c l st.0) (place_present s n c l st.1) h
place_present s (Both m n) c l st h =
    by_parts (things c m) (things c n) (Place l) (place_present s m c l st.0) (place_present s n c l st.1) h
place_present s (Fst m) c l st h = place_present s m c l st h
place_present s (Snd m) c l st h = place_present s m c l st h
place_present s (Seq m n) c l st h =
    by_parts (things c m) (things c n) (Place l) (place_present s m c l st.0) (place_present s n c l st.1) h
place_present s (Par m n) c l st h =
    by_parts (things c m) (things c n) (Place l) (place_present s m c l st.0) (place_present s n c l st.1) h
place_present s (If m n p) c l st h =
    by_parts (things c m) (things c n ++ things c p) (Place l) (place_present s m c l st.0)
    (by_parts (things c n) (things c p) (Place l) (place_present s n c l st.1) (place_present s p c l st.2)) h
place_present s (While m n) c l st h =
    by_parts (things c m) (things c n) (Place l) (place_present s m c l st.0) (place_present s n c l st.1) h
place_present s (Assign m n) c l st h =
    by_parts (things c m) (things c n) (Place l) (place_present s m c l st.0) (place_present s n c l st.1) h
place_present s (Deref m) c l st h = place_present s m c l st h
place_present s (New w m) c l st h = place_present s m (suc c) l st h
place_present s (NewArray n w m) c l st h = place_present s m (suc c) l st h
place_present s (Not m) c l st h = place_present s m c l st h
place_present s (Bin op m n) c l st h =
    by_parts (things c m) (things c n) (Place l) (place_present s m c l st.0) (place_present s n c l st.1) h
place_present s (Loc k) c l st h = same_place s k l st h
place_present s (Arr k) c l st h = same_place s k l st h
place_present s (Scope k m) c l st h =
    by_parts (Place k ∷ []) (things c m) (Place l) (same_place s k l st.0) (place_present s m c l st.1) h
place_present s (Wait x n) c l st h = no_place l (Named x) (λ k. cc k) h
place_present s (Held k op n) c l st h = place_present s n c l st h
place_present s (Put m k) c l st h = place_present s m c l st h

-- and a term of which each location is there stands in the store
abbrev pub AllPresent : Store → List Thing → Type 0
AllPresent s xs = (l : ℕ) → Contains xs (Place l) → Present s l

present_left : (s : Store) (xs ys : List Thing) → AllPresent s (xs ++ ys) → AllPresent s xs
present_left s xs ys f l h = f l (left_part xs ys (Place l) h)

present_right : (s : Store) (xs ys : List Thing) → AllPresent s (xs ++ ys) → AllPresent s ys
present_right s xs ys f l h = f l (right_part xs ys (Place l) h)

stands_two : (s : Store) (m n : Term) (c : ℕ) → (AllPresent s (things c m) → StandsIn s m) → (AllPresent s (things c n) → StandsIn s n)
    → AllPresent s (things c m ++ things c n) → StandsIn s m × StandsIn s n
stands_two s m n c f g h = (f (present_left s (things c m) (things c n) h), g (present_right s (things c m) (things c n) h))

pub stands_from : (s : Store) (m : Term) (c : ℕ) → AllPresent s (things c m) → StandsIn s m
stands_from s Skip c h = tt
stands_from s (Lit k w) c h = tt
stands_from s (Bound n) c h = tt
stands_from s (Import x) c h = tt
stands_from s (Lam a m) c h = stands_from s m (suc c) h
stands_from s (App m n) c h = stands_two s m n c (stands_from s m c) (stands_from s n c) h
stands_from s (Both m n) c h = stands_two s m n c (stands_from s m c) (stands_from s n c) h
stands_from s (Fst m) c h = stands_from s m c h
stands_from s (Snd m) c h = stands_from s m c h
stands_from s (Seq m n) c h = stands_two s m n c (stands_from s m c) (stands_from s n c) h
stands_from s (Par m n) c h = stands_two s m n c (stands_from s m c) (stands_from s n c) h
stands_from s (If m n p) c h =
    let rest = present_right s (things c m) (things c n ++ things c p) h in (
      stands_from s m c (present_left s (things c m) (things c n ++ things c p) h),
      stands_from s n c (present_left s (things c n) (things c p) rest),
      stands_from s p c (present_right s (things c n) (things c p) rest),
    )
stands_from s (While m n) c h = stands_two s m n c (stands_from s m c) (stands_from s n c) h
stands_from s (Assign m n) c h = stands_two s m n c (stands_from s m c) (stands_from s n c) h
stands_from s (Deref m) c h = stands_from s m c h
stands_from s (New w m) c h = stands_from s m (suc c) h
stands_from s (NewArray n w m) c h = stands_from s m (suc c) h
stands_from s (Not m) c h = stands_from s m c h
stands_from s (Bin op m n) c h = stands_two s m n c (stands_from s m c) (stands_from s n c) h
stands_from s (Loc l) c h = h l (there (Place l))
stands_from s (Arr l) c h = h l (there (Place l))
stands_from s (Scope l m) c h =
    (h l (left_part (Place l ∷ []) (things c m) (Place l) (there (Place l))), stands_from s m c (present_right s (Place l ∷ []) (things c m) h))
stands_from s (Wait x n) c h = tt
stands_from s (Held k op n) c h = stands_from s n c h
stands_from s (Put m k) c h = stands_from s m c h
