-- A closed term that shares nothing with m may be put in for a variable of m: parts that are apart stay apart.
use Rattle.std.specs.Prelude.{◌≡◌, ◌≢◌, ◌⊎◌, ◌+◌, ◌-◌, ℕ, suc, Bool, true, false, ◌||◌, List, [], ◌∷◌, ◌++◌, Contains, nat_eq, nat_lt, if◌then◌else◌}
use Rattle.std.proofs.Common.{arith, refl, sym, subst, inl, inr, ◌∙◌}
use Rattle.std.proofs.lemmas.Bool.Decides.{nat_tests}
use Rattle.gos_model.specs.Terms.{Term, Skip, Lit, Bound, Import, Lam, App, Both, Fst, Snd, Seq, Par, If, While, Assign, Deref, New, Not, Bin, Loc, Scope, Wait, Held, Put, NewArray, Arr}
use Rattle.gos_model.specs.Substitution.{put_at}
use Rattle.gos_model.specs.Typing.{Thing, Variable, Named, Place, things, Apart}
use Rattle.gos_swaps.specs.proper.Proper.{PartsApart, IsClosed, PuttingKeepsApart}
use Rattle.gos_swaps.proofs.proper.ThingLemmas.{only_one, nothing, left_part, right_part, by_parts, has, or_first, or_second, lone, IsSteady, steady, closed_things}

-- under c binders, a thing other than variable d
abbrev pub IsOther : ℕ → ℕ → Thing → Type 0
IsOther c d (Variable e) = c + e ≢ d
IsOther c d x = Unit {0}

further_other : (c d : ℕ) (x : Thing) → IsOther (suc c) (suc d) x → IsOther c d x
further_other c d (Variable e) f = λ h. f (omega (arith, h))
further_other c d (Named y) f = tt
further_other c d (Place l) f = tt

-- What is free after q was put in: a thing of m other than the variable, or one of q, where m has the variable.
abbrev pub PutThing : ℕ → ℕ → Term → Term → Thing → Type 0
PutThing c d q m x = (Contains (things c m) x × IsOther c d x) ⊎ (IsSteady x × Contains (things 0 q) x × (has d m ≡ true))

put_steady : (c d : ℕ) (q : Term) (t : Thing) (m : Term) (x : Thing) → IsSteady t → things c m ≡ t ∷ [] → Contains (things c m) x → PutThing c d q m x
put_steady c d q t m x is e h = inl (h, other t is (only_one t x (subst (λ (z : List Thing). Contains z x) e h)))
  where
    other : (t : Thing) → IsSteady t → x ≡ t → IsOther c d x
    other (Variable n) never same = absurd never
    other (Named y) tt same = subst (IsOther c d) (sym same) tt
    other (Place l) tt same = subst (IsOther c d) (sym same) tt

put_bound : (c d n : ℕ) (q : Term) (x : Thing) → IsClosed q → Contains (things c (if nat_eq n d then q else Bound n)) x → PutThing c d q (Bound n) x
put_bound c d n q x closed h = tested (nat_eq n d) refl h
  where
    other : (t : Bool) → nat_lt n c ≡ t → nat_eq n d ≡ false → Contains (if t then [] else Variable (n - c) ∷ []) x → IsOther c d x
    other true l e k = nothing x k
    other false l e k =
        subst (IsOther c d) (sym (only_one (Variable (n - c)) x k)) (λ same. let bad : ⊥ = grind (arith, nat_tests, l, e, same) in bad)

    tested : (t : Bool) → nat_eq n d ≡ t → Contains (things c (if t then q else Bound n)) x → PutThing c d q (Bound n) x
    tested true e k = let (is, g) = closed_things q c x closed k in inr (is, g, e)
    tested false e k = inl (k, other (nat_lt n c) refl e k)

-- of two parts
put_two : (c d : ℕ) (q m n : Term) (x : Thing) (mn : Term) → things c mn ≡ things c m ++ things c n → has d mn ≡ (has d m || has d n)
    → (Contains (things c (put_at d q m)) x → PutThing c d q m x) → (Contains (things c (put_at d q n)) x → PutThing c d q n x)
    → Contains (things c (put_at d q m) ++ things c (put_at d q n)) x → PutThing c d q mn x
put_two c d q m n x mn et eh f g h =
    by_parts (things c (put_at d q m)) (things c (put_at d q n)) x (λ k. first (f k)) (λ k. second (g k)) h
  where
    first : PutThing c d q m x → PutThing c d q mn x
    first (inl (k, o)) = inl (subst (λ (z : List Thing). Contains z x) (sym et) (left_part (things c m) (things c n) x k), o)
    first (inr (is, k, w)) = inr (is, k, eh ∙ or_first (has d m) (has d n) w)

    second : PutThing c d q n x → PutThing c d q mn x
    second (inl (k, o)) = inl (subst (λ (z : List Thing). Contains z x) (sym et) (right_part (things c m) (things c n) x k), o)
    second (inr (is, k, w)) = inr (is, k, eh ∙ or_second (has d m) (has d n) w)

under_one_more : (c d : ℕ) (q m lm : Term) (x : Thing) → things c lm ≡ things (suc c) m → has d lm ≡ has (suc d) m → PutThing (suc c) (suc d) q m x
    → PutThing c d q lm x
under_one_more c d q m lm x et eh (inl (h, o)) = inl (subst (λ (z : List Thing). Contains z x) (sym et) h, further_other c d x o)
under_one_more c d q m lm x et eh (inr (is, h, g)) = inr (is, h, eh ∙ g)

pub things_put : (m : Term) (c d : ℕ) (q : Term) (x : Thing) → IsClosed q → Contains (things c (put_at d q m)) x → PutThing c d q m x
things_put Skip c d q x closed h = nothing x h
things_put (Lit k w) c d q x closed h = nothing x h
things_put (Bound n) c d q x closed h = put_bound c d n q x closed h
things_put (Import y) c d q x closed h = put_steady c d q (Named y) (Import y) x tt refl h
things_put (Lam a m) c d q x closed h = under_one_more c d q m (Lam a m) x refl refl (things_put m (suc c) (suc d) q x closed h)
things_put (App m n) c d q x closed h =
    put_two c d q m n x (App m n) refl refl (things_put m c d q x closed) (things_put n c d q x closed) h
things_put (Both m n) c d q x closed h =
    put_two c d q m n x (Both m n) refl refl (things_put m c d q x closed) (things_put n c d q x closed) h
things_put (Fst m) c d q x closed h = things_put m c d q x closed h
things_put (Snd m) c d q x closed h = things_put m c d q x closed h
things_put (Seq m n) c d q x closed h =
    put_two c d q m n x (Seq m n) refl refl (things_put m c d q x closed) (things_put n c d q x closed) h
things_put (Par m n) c d q x closed h =
    put_two c d q m n x (Par m n) refl refl (things_put m c d q x closed) (things_put n c d q x closed) h
things_put (If m n p) c d q x closed h =
    put_two c d q m (Seq n p) x (If m n p) refl refl (things_put m c d q x closed)
    (put_two c d q n p x (Seq n p) refl refl (things_put n c d q x closed) (things_put p c d q x closed)) h
things_put (While m n) c d q x closed h =
    put_two c d q m n x (While m n) refl refl (things_put m c d q x closed) (things_put n c d q x closed) h
things_put (Assign m n) c d q x closed h =
    put_two c d q m n x (Assign m n) refl refl (things_put m c d q x closed) (things_put n c d q x closed) h
things_put (Deref m) c d q x closed h = things_put m c d q x closed h
things_put (New w m) c d q x closed h = under_one_more c d q m (New w m) x refl refl (things_put m (suc c) (suc d) q x closed h)
things_put (NewArray n w m) c d q x closed h = under_one_more c d q m (NewArray n w m) x refl refl (things_put m (suc c) (suc d) q x closed h)
things_put (Not m) c d q x closed h = things_put m c d q x closed h
things_put (Bin op m n) c d q x closed h =
    put_two c d q m n x (Bin op m n) refl refl (things_put m c d q x closed) (things_put n c d q x closed) h
things_put (Loc l) c d q x closed h = put_steady c d q (Place l) (Loc l) x tt refl h
things_put (Arr l) c d q x closed h = put_steady c d q (Place l) (Arr l) x tt refl h
things_put (Scope l m) c d q x closed h =
    put_two c d q (Loc l) m x (Scope l m) refl refl (put_steady c d q (Place l) (Loc l) x tt refl) (things_put m c d q x closed) h
things_put (Wait y s) c d q x closed h = put_steady c d q (Named y) (Wait y s) x tt refl h
things_put (Held k op n) c d q x closed h = things_put n c d q x closed h
things_put (Put m k) c d q x closed h = things_put m c d q x closed h

-- q shares nothing with a part
part_apart : (m mn q : Term) → ((x : Thing) → Contains (things 0 m) x → Contains (things 0 mn) x) → Apart mn q → Apart m q
part_apart m mn q f apart x h g = apart x (f x h) g

under_apart : (m q : Term) → IsClosed q → ((x : Thing) → Contains (things 1 m) x → Contains (things 0 q) x → ⊥) → Apart m q
under_apart m q closed apart x h g = apart x (steady m 0 1 x (closed_things q 0 x closed g).0 h) g

-- two parts that are apart
still_apart : (m n : Term) (d : ℕ) (q : Term) → IsClosed q → Apart m n → Apart m q → Apart n q → Apart (put_at d q m) (put_at d q n)
still_apart m n d q closed apart of_m of_n x h g = both (things_put m 0 d q x closed h) (things_put n 0 d q x closed g)
  where
    both : PutThing 0 d q m x → PutThing 0 d q n x → ⊥
    both (inl (k, o)) (inl (l, p)) = apart x k l
    both (inl (k, o)) (inr (is, l, w)) = of_m x k l
    both (inr (is, k, w)) (inl (l, p)) = of_n x l k
    both (inr (is, k, w)) (inr (has_it, l, v)) = let bad : true ≡ false = sym v ∙ lone m n d apart w in absurd (cc bad)

left_apart : (m n mn q : Term) → things 0 mn ≡ things 0 m ++ things 0 n → Apart mn q → Apart m q
left_apart m n mn q e apart =
    part_apart m mn q (λ x h. subst (λ (z : List Thing). Contains z x) (sym e) (left_part (things 0 m) (things 0 n) x h)) apart

right_apart : (m n mn q : Term) → things 0 mn ≡ things 0 m ++ things 0 n → Apart mn q → Apart n q
right_apart m n mn q e apart =
    part_apart n mn q (λ x h. subst (λ (z : List Thing). Contains z x) (sym e) (right_part (things 0 m) (things 0 n) x h)) apart

pub apart_put : (m : Term) (d : ℕ) (q : Term) → IsClosed q → Apart m q → PartsApart m → PartsApart q → PartsApart (put_at d q m)
apart_put Skip d q closed a p r = tt
apart_put (Lit k w) d q closed a p r = tt
apart_put (Bound n) d q closed a p r = of_choice (nat_eq n d)
  where
    of_choice : (b : Bool) → PartsApart (if b then q else Bound n)
    of_choice true = r
    of_choice false = tt
apart_put (Import x) d q closed a p r = tt
apart_put (Lam t m) d q closed a p r = apart_put m (suc d) q closed (under_apart m q closed a) p r
apart_put (App m n) d q closed a (apart, p, o) r =
    let of_m = left_apart m n (App m n) q refl a in
    let of_n = right_apart m n (App m n) q refl a in
    (still_apart m n d q closed apart of_m of_n, apart_put m d q closed of_m p r, apart_put n d q closed of_n o r)
apart_put (Both m n) d q closed a (p, o) r =
    (apart_put m d q closed (left_apart m n (Both m n) q refl a) p r, apart_put n d q closed (right_apart m n (Both m n) q refl a) o r)
apart_put (Fst m) d q closed a p r = apart_put m d q closed a p r
apart_put (Snd m) d q closed a p r = apart_put m d q closed a p r
apart_put (Seq m n) d q closed a (p, o) r =
    (apart_put m d q closed (left_apart m n (Seq m n) q refl a) p r, apart_put n d q closed (right_apart m n (Seq m n) q refl a) o r)
apart_put (Par m n) d q closed a (apart, p, o) r =
    let of_m = left_apart m n (Par m n) q refl a in
    let of_n = right_apart m n (Par m n) q refl a in
    (still_apart m n d q closed apart of_m of_n, apart_put m d q closed of_m p r, apart_put n d q closed of_n o r)
apart_put (If m n k) d q closed a (p, o, l) r =
    let rest : Apart (Seq n k) q = right_apart m (Seq n k) (If m n k) q refl a in (
      apart_put m d q closed (left_apart m (Seq n k) (If m n k) q refl a) p r,
      apart_put n d q closed (left_apart n k (Seq n k) q refl rest) o r,
      apart_put k d q closed (right_apart n k (Seq n k) q refl rest) l r,
    )
apart_put (While m n) d q closed a (p, o) r =
    (apart_put m d q closed (left_apart m n (While m n) q refl a) p r, apart_put n d q closed (right_apart m n (While m n) q refl a) o r)
apart_put (Assign m n) d q closed a (p, o) r =
    (apart_put m d q closed (left_apart m n (Assign m n) q refl a) p r, apart_put n d q closed (right_apart m n (Assign m n) q refl a) o r)
apart_put (Deref m) d q closed a p r = apart_put m d q closed a p r
apart_put (New w m) d q closed a p r = apart_put m (suc d) q closed (under_apart m q closed a) p r
apart_put (NewArray n w m) d q closed a p r = apart_put m (suc d) q closed (under_apart m q closed a) p r
apart_put (Not m) d q closed a p r = apart_put m d q closed a p r
apart_put (Bin op m n) d q closed a (p, o) r =
    (apart_put m d q closed (left_apart m n (Bin op m n) q refl a) p r, apart_put n d q closed (right_apart m n (Bin op m n) q refl a) o r)
apart_put (Loc l) d q closed a p r = tt
apart_put (Arr l) d q closed a p r = tt
apart_put (Scope l m) d q closed a p r = apart_put m d q closed (right_apart (Loc l) m (Scope l m) q refl a) p r
apart_put (Wait x s) d q closed a p r = tt
apart_put (Held k op n) d q closed a p r = apart_put n d q closed a p r
apart_put (Put m k) d q closed a p r = apart_put m d q closed a p r

pub putting_keeps_apart : PuttingKeepsApart
putting_keeps_apart d n m closed apart p q = apart_put m d n closed apart p q
