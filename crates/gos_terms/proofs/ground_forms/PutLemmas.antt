-- A closed term in the place of a variable: a term that is typed with the variable is so with the closed term, where they have no name in common.
use Rattle.std.specs.Prelude.{◌≡◌, ◌≢◌, ℕ, zero, suc, ◌+◌, ◌-◌, ◌<◌, ◌≤◌, Bool, true, false, List, [], ◌∷◌, ◌++◌, ◌⊎◌, length, Some, Contains, nat_eq, nat_lt, slice_get, if◌then◌else◌}
use Rattle.std.proofs.Common.{refl, sym, ◌∙◌, ap, subst, arith, inl, inr}
use Rattle.std.proofs.lemmas.List.Elements.{Contains-append_left, Contains-append_right, Contains-append_cases}
use Rattle.gos_types.specs.Types.{Type', Com, Exp, Var, Pair, Fun}
use Rattle.gos_model.specs.Terms.{Term, Name, Skip, Lit, Bound, Import, Lam, App, Both, Fst, Snd, Seq, Par, If, While, Assign, Deref, New, NewArray, Not, Bin, Loc, Arr, Scope, Wait, Held, Put}
use Rattle.gos_model.specs.Typing.{Imports, Thing, Variable, Named, things, Apart, array_type, Typed}
use Rattle.gos_model.specs.Substitution.{put_at}
use Rattle.gos_supplies.proofs.typing.WhenceLemmas.{named}
use Rattle.gos_supplies.proofs.typing.NameLemmas.{typed_under}
use Rattle.gos_terms.proofs.ground_forms.WhoseLemmas.{bound_names}

-- What is free after the term was put in, under e binders: it was so before, or it is free in the term, in the place of variable d.
abbrev Kept : ℕ → ℕ → Term → Term → Thing → Type 0
Kept e d x m y = Contains (things e m) y ⊎ (Contains (things 0 x) y × Contains (things e m) (Variable d))

two_kept : (e d : ℕ) (x m n : Term) (y : Thing)
    → Contains (things e (put_at (e + d) x m) ++ things e (put_at (e + d) x n)) y
    → (Contains (things e (put_at (e + d) x m)) y → Kept e d x m y) → (Contains (things e (put_at (e + d) x n)) y → Kept e d x n y)
    → Contains (things e m ++ things e n) y ⊎ (Contains (things 0 x) y × Contains (things e m ++ things e n) (Variable d))
two_kept e d x m n y has f g = by_side (Contains-append_cases (things e (put_at (e + d) x m)) (things e (put_at (e + d) x n)) y has)
  where
    left : Kept e d x m y → Contains (things e m ++ things e n) y ⊎ (Contains (things 0 x) y × Contains (things e m ++ things e n) (Variable d))
    left (inl h) = inl (Contains-append_left (things e m) (things e n) y h)
    left (inr (is, h)) = inr (is, Contains-append_left (things e m) (things e n) (Variable d) h)

    right : Kept e d x n y → Contains (things e m ++ things e n) y ⊎ (Contains (things 0 x) y × Contains (things e m ++ things e n) (Variable d))
    right (inl h) = inl (Contains-append_right (things e m) (things e n) y h)
    right (inr (is, h)) = inr (is, Contains-append_right (things e m) (things e n) (Variable d) h)

    by_side : Contains (things e (put_at (e + d) x m)) y ⊎ Contains (things e (put_at (e + d) x n)) y
        → Contains (things e m ++ things e n) y ⊎ (Contains (things 0 x) y × Contains (things e m ++ things e n) (Variable d))
    by_side (inl h) = left (f h)
    by_side (inr h) = right (g h)

-- what is free in the term under any binders is so under none
abbrev IsShut : Term → Type 0
IsShut x = (e : ℕ) (y : Thing) → Contains (things e x) y → Contains (things 0 x) y

bound_kept : (e d j : ℕ) (x : Term) (y : Thing) → IsShut x → (b : Bool) → nat_eq j (e + d) ≡ b
    → Contains (things e (if b then x else Bound j)) y → Kept e d x (Bound j) y
bound_kept e d j x y shut true is h =
    let at : j ≡ e + d = grind (arith, is) in
    let no : nat_lt j e ≡ false = not_below j e (omega (arith, at)) in
    let less : j - e ≡ d = omega (arith, at) in
    inr (
      shut e y h,
      subst (λ (c : Bool). Contains (if c then [] else Variable (j - e) ∷ []) (Variable d)) (sym no)
          (0, omega arith, ap (λ (k : ℕ). Variable k) less),
    )
  where
    not_below : (j e : ℕ) → e ≤ j → nat_lt j e ≡ false
    not_below j e l = by_test (nat_lt j e) refl
      where
        by_test : (b : Bool) → nat_lt j e ≡ b → nat_lt j e ≡ false
        by_test true t = let less : j < e = grind (arith, t) in absurd (omega (arith, less, l))
        by_test false t = t
bound_kept e d j x y shut false is h = inl h

further : (e d : ℕ) → suc (e + d) ≡ suc e + d
further e d = omega arith

kept : (m : Term) (e d : ℕ) (x : Term) (y : Thing) → IsShut x → Contains (things e (put_at (e + d) x m)) y → Kept e d x m y
kept Skip e d x y shut h = inl h
kept (Lit k w) e d x y shut h = inl h
kept (Bound j) e d x y shut h = bound_kept e d j x y shut (nat_eq j (e + d)) refl h
kept (Import z) e d x y shut h = inl h
kept (Lam a m) e d x y shut h = kept m (suc e) d x y shut (subst (λ (k : ℕ). Contains (things (suc e) (put_at k x m)) y) (further e d) h)
kept (App m n) e d x y shut h = two_kept e d x m n y h (kept m e d x y shut) (kept n e d x y shut)
kept (Both m n) e d x y shut h = two_kept e d x m n y h (kept m e d x y shut) (kept n e d x y shut)
kept (Fst m) e d x y shut h = kept m e d x y shut h
kept (Snd m) e d x y shut h = kept m e d x y shut h
kept (Seq m n) e d x y shut h = two_kept e d x m n y h (kept m e d x y shut) (kept n e d x y shut)
kept (Par m n) e d x y shut h = two_kept e d x m n y h (kept m e d x y shut) (kept n e d x y shut)
kept (If m n p) e d x y shut h =
    two_kept e d x m (Seq n p) y h (kept m e d x y shut) (λ g. two_kept e d x n p y g (kept n e d x y shut) (kept p e d x y shut))
kept (While m n) e d x y shut h = two_kept e d x m n y h (kept m e d x y shut) (kept n e d x y shut)
kept (Assign m n) e d x y shut h = two_kept e d x m n y h (kept m e d x y shut) (kept n e d x y shut)
kept (Deref m) e d x y shut h = kept m e d x y shut h
kept (New w m) e d x y shut h = kept m (suc e) d x y shut (subst (λ (k : ℕ). Contains (things (suc e) (put_at k x m)) y) (further e d) h)
kept (NewArray c w m) e d x y shut h = kept m (suc e) d x y shut (subst (λ (k : ℕ). Contains (things (suc e) (put_at k x m)) y) (further e d) h)
kept (Not m) e d x y shut h = kept m e d x y shut h
kept (Bin op m n) e d x y shut h = two_kept e d x m n y h (kept m e d x y shut) (kept n e d x y shut)
kept (Loc l) e d x y shut h = inl h
kept (Arr l) e d x y shut h = inl h
kept (Scope l m) e d x y shut (zero, small, at) = inl (0, omega arith, at)
kept (Scope l m) e d x y shut (suc k, small, at) = beside (kept m e d x y shut (k, omega (arith, small), at))
  where
    beside : Kept e d x m y → Kept e d x (Scope l m) y
    beside (inl (n, less, is)) = inl (suc n, omega (arith, less), is)
    beside (inr (same, (n, less, is))) = inr (same, (suc n, omega (arith, less), is))
kept (Wait z s) e d x y shut h = inl h
kept (Held k op m) e d x y shut h = kept m e d x y shut h
kept (Put m k) e d x y shut h = kept m e d x y shut h

of_two : (xs ys us vs : List Thing) (y : Thing)
    → (Contains xs y → Contains us y) → (Contains ys y → Contains vs y) → Contains (xs ++ ys) y → Contains (us ++ vs) y
of_two xs ys us vs y f g has =
    elim (Contains-append_cases xs ys y has) [
      | inl h ↦ Contains-append_left us vs y (f h)
      | inr h ↦ Contains-append_right us vs y (g h)
    ]

-- a name is free under however many binders
pub under_any : (m : Term) (e f : ℕ) (x : Name) → Contains (things e m) (Named x) → Contains (things f m) (Named x)
under_any Skip e f x h = h
under_any (Lit k w) e f x h = h
under_any (Bound j) e f x h = absurd (bound_names e j x h)
under_any (Import z) e f x h = h
under_any (Lam a m) e f x h = under_any m (suc e) (suc f) x h
under_any (App m n) e f x h = of_two (things e m) (things e n) (things f m) (things f n) (Named x) (under_any m e f x) (under_any n e f x) h
under_any (Both m n) e f x h = of_two (things e m) (things e n) (things f m) (things f n) (Named x) (under_any m e f x) (under_any n e f x) h
under_any (Fst m) e f x h = under_any m e f x h
under_any (Snd m) e f x h = under_any m e f x h
under_any (Seq m n) e f x h = of_two (things e m) (things e n) (things f m) (things f n) (Named x) (under_any m e f x) (under_any n e f x) h
under_any (Par m n) e f x h = of_two (things e m) (things e n) (things f m) (things f n) (Named x) (under_any m e f x) (under_any n e f x) h
under_any (If m n p) e f x h =
    of_two (things e m) (things e n ++ things e p) (things f m) (things f n ++ things f p) (Named x) (under_any m e f x)
    (of_two (things e n) (things e p) (things f n) (things f p) (Named x) (under_any n e f x) (under_any p e f x)) h
under_any (While m n) e f x h = of_two (things e m) (things e n) (things f m) (things f n) (Named x) (under_any m e f x) (under_any n e f x) h
under_any (Assign m n) e f x h = of_two (things e m) (things e n) (things f m) (things f n) (Named x) (under_any m e f x) (under_any n e f x) h
under_any (Deref m) e f x h = under_any m e f x h
under_any (New w m) e f x h = under_any m (suc e) (suc f) x h
under_any (NewArray n w m) e f x h = under_any m (suc e) (suc f) x h
under_any (Not m) e f x h = under_any m e f x h
under_any (Bin op m n) e f x h = of_two (things e m) (things e n) (things f m) (things f n) (Named x) (under_any m e f x) (under_any n e f x) h
under_any (Loc l) e f x h = h
under_any (Arr l) e f x h = h
under_any (Scope l m) e f x (zero, small, at) = absurd (cc at)
under_any (Scope l m) e f x (suc k, small, at) = let (n, less, is) = under_any m e f x (k, omega (arith, small), at) in (suc n, omega (arith, less), is)
under_any (Wait z s) e f x h = h
under_any (Held k op m) e f x h = under_any m e f x h
under_any (Put m k) e f x h = under_any m e f x h

-- names alone are free in the term
abbrev HasNames : Term → Type 0
HasNames x = (y : Thing) → Contains (things 0 x) y → (z : Name) × (y ≡ Named z)

left_apart : (x m n : Term) → ((y : Thing) → Contains (things 0 m ++ things 0 n) y → Contains (things 0 x) y → ⊥) → Apart m x
left_apart x m n free y h = free y (Contains-append_left (things 0 m) (things 0 n) y h)

right_apart : (x m n : Term) → ((y : Thing) → Contains (things 0 m ++ things 0 n) y → Contains (things 0 x) y → ⊥) → Apart n x
right_apart x m n free y h = free y (Contains-append_right (things 0 m) (things 0 n) y h)

under_apart : (x m : Term) → HasNames x → ((y : Thing) → Contains (things 1 m) y → Contains (things 0 x) y → ⊥) → Apart m x
under_apart x m names free y h k =
    let (z, is) = names y k in
    free (Named z) (under_any m 0 1 z (subst (λ (t : Thing). Contains (things 0 m) t) is h)) (subst (λ (t : Thing). Contains (things 0 x) t) is k)

-- what two parts don't share they don't share with the term either
apart : (m n : Term) (d : ℕ) (x : Term) → IsShut x → Apart m x → Apart n x → Apart m n → Apart (put_at d x m) (put_at d x n)
apart m n d x shut no_m no_n old y in_m in_n =
    by_kept (kept m 0 d x y shut (subst (λ (k : ℕ). Contains (things 0 (put_at k x m)) y) zeros in_m))
    (kept n 0 d x y shut (subst (λ (k : ℕ). Contains (things 0 (put_at k x n)) y) zeros in_n))
  where
    zeros : d ≡ 0 + d
    zeros = omega arith

    by_kept : Kept 0 d x m y → Kept 0 d x n y → ⊥
    by_kept (inl a) (inl b) = old y a b
    by_kept (inl a) (inr (is, b)) = no_m y a is
    by_kept (inr (is, a)) (inl b) = no_n y b is
    by_kept (inr (is, a)) (inr (also, b)) = old (Variable d) a b

-- the variable behind others, and these
last_type : (g : List Type') (a t : Type') → slice_get (g ++ a ∷ []) (length g) ≡ Some t → a ≡ t
last_type [] a t h = cc h
last_type (b ∷ g) a t h = last_type g a t h

earlier_type : (g : List Type') (a t : Type') (j : ℕ) → j ≢ length g → slice_get (g ++ a ∷ []) j ≡ Some t → slice_get g j ≡ Some t
earlier_type [] a t zero free h = absurd (free refl)
earlier_type [] a t (suc j) free h = absurd (grind (arith, h))
earlier_type (b ∷ g) a t zero free h = h
earlier_type (b ∷ g) a t (suc j) free h = earlier_type g a t j (λ e. free (ap suc e)) h

module _ (i : Imports) (x : Term) (a : Type') (closed : Typed i [] x a) where
  shut : IsShut x
  shut e y h = let name = named i y x e [] a (omega arith) closed h in
      subst (λ (z : Thing). Contains (things 0 x) z) (sym name.same)
      (under_any x e 0 name.import.name (subst (λ (z : Thing). Contains (things e x) z) name.same h))

  names : HasNames x
  names y h = let name = named i y x 0 [] a (omega arith) closed h in (name.import.name, name.same)

  pub put_typed : (m : Term) (g : List Type') (t : Type') → Apart m x → Typed i (g ++ a ∷ []) m t → Typed i g (put_at (length g) x m) t
  put_typed Skip g t free h = h
  put_typed (Lit k w) g t free h = h
  put_typed (Bound j) g t free h = by_test (nat_eq j (length g)) refl
    where
      by_test : (b : Bool) → nat_eq j (length g) ≡ b → Typed i g (if b then x else Bound j) t
      by_test true is =
          let at : j ≡ length g = grind (arith, is) in
          subst (λ (u : Type'). Typed i g x u) (last_type g a t (subst (λ (k : ℕ). slice_get (g ++ a ∷ []) k ≡ Some t) at h))
          (typed_under i i x 0 [] g a (λ y has. refl) closed)
      by_test false is = earlier_type g a t j (λ e. let same : nat_eq j (length g) ≡ true = grind (arith, e) in cc (sym same ∙ is)) h
  put_typed (Import z) g t free h = h
  put_typed (Lam b m) g t free (c, e, h) = (c, e, put_typed m (b ∷ g) c (under_apart x m names free) h)
  put_typed (App m n) g t free (b, h, k, old) = (
    b,
    put_typed m g (Fun b t) (left_apart x m n free) h,
    put_typed n g b (right_apart x m n free) k,
    apart m n (length g) x shut (left_apart x m n free) (right_apart x m n free) old,
  )
  put_typed (Both m n) g t free (b, c, e, h, k) = (b, c, e, put_typed m g b (left_apart x m n free) h, put_typed n g c (right_apart x m n free) k)
  put_typed (Fst m) g t free (b, h) = (b, put_typed m g (Pair t b) free h)
  put_typed (Snd m) g t free (b, h) = (b, put_typed m g (Pair b t) free h)
  put_typed (Seq m n) g t free (done, h, k) = (done, put_typed m g Com (left_apart x m n free) h, put_typed n g t (right_apart x m n free) k)
  put_typed (Par m n) g t free (e, h, k, old) = (
    e,
    put_typed m g Com (left_apart x m n free) h,
    put_typed n g Com (right_apart x m n free) k,
    apart m n (length g) x shut (left_apart x m n free) (right_apart x m n free) old,
  )
  put_typed (If m n p) g t free (done, h, k, l) =
      let rest = right_apart x m (Seq n p) free in (
        done,
        put_typed m g (Exp 1) (left_apart x m (Seq n p) free) h,
        put_typed n g t (left_apart x n p rest) k,
        put_typed p g t (right_apart x n p rest) l,
      )
  put_typed (While m n) g t free (e, h, k) = (e, put_typed m g (Exp 1) (left_apart x m n free) h, put_typed n g Com (right_apart x m n free) k)
  put_typed (Assign m n) g t free (w, e, h, k) =
      (w, e, put_typed m g (Var w) (left_apart x m n free) h, put_typed n g (Exp w) (right_apart x m n free) k)
  put_typed (Deref m) g t free (w, e, h) = (w, e, put_typed m g (Var w) free h)
  put_typed (New w m) g t free (done, wide, h) = (done, wide, put_typed m (Var w ∷ g) t (under_apart x m names free) h)
  put_typed (NewArray n w m) g t free (done, length, wide, h) = (done, length, wide, put_typed m (array_type n w ∷ g) t (under_apart x m names free) h)
  put_typed (Not m) g t free (w, e, h) = (w, e, put_typed m g (Exp w) free h)
  put_typed (Bin op m n) g t free (w, e, h, k) = (w, e, put_typed m g (Exp w) (left_apart x m n free) h, put_typed n g (Exp w) (right_apart x m n free) k)
  put_typed (Loc l) g t free h = absurd h
  put_typed (Arr l) g t free h = absurd h
  put_typed (Scope l m) g t free h = absurd h
  put_typed (Wait z s) g t free h = absurd h
  put_typed (Held k op m) g t free h = absurd h
  put_typed (Put m k) g t free h = absurd h

-- a name in the variable's place: the term hasn't it
abbrev pub IsWithout : Name → Term → Type 0
IsWithout x m = Contains (things 0 m) (Named x) → ⊥

pub name_apart : (x : Name) (m : Term) → IsWithout x m → Apart m (Import x)
name_apart x m free y h (zero, small, at) = free (subst (λ (z : Thing). Contains (things 0 m) z) (sym at) h)
name_apart x m free y h (suc k, small, at) = absurd (omega (arith, small))
