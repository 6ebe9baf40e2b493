-- Two parts share no name exactly where they share nothing in the model.
use Rattle.std.specs.Prelude.{◌≡◌, ◌⊎◌, ◌<◌, ◌+◌, ◌-◌, ℕ, zero, suc, List, [], ◌∷◌, ◌++◌, length, true, false, Option, Some, None, Ok, Contains, nat_lt}
use Rattle.std.proofs.Common.{arith, refl, sym, ap, subst, ◌∙◌, inl, inr}
use Rattle.std.proofs.lemmas.Bool.Decides.{nat_tests}
use Rattle.std.proofs.lemmas.List.Elements.{Contains-append_left, Contains-append_right, Contains-append_cases}
use Rattle.gos_syntax.specs.Trees.{Tree, Skip, Lit, Use, Lam, New, Array, App, Both, Fst, Snd, Seq, Par, If, While, Assign, Deref, Not, Bin}
use Rattle.gos_model.specs.Terms.{Name}
use Rattle.gos_model.specs.Typing.{Thing, Variable, Named, things, Apart}
use Rattle.gos_model.specs.Sources.{term_of, binder_of, bound_or_import, one_further}
use Rattle.gos_check.specs.declared.free.Occurrence.{Occurrence}
use Rattle.gos_check.specs.Free.{joined, without, free, apart}
use Rattle.gos_check.proofs.NameLemmas.{Has, IsNone, name_cases, other_false, apart_shares_none, apart_where_none, joined_has, has_joined, without_has, has_without}

-- what a name with this binder, or with none, is in the model
abbrev pub thing_at : Name → Option ℕ → Thing
thing_at x None = Named x
thing_at x (Some n) = Variable n

-- what a name is in the model, under these binders
abbrev pub thing_of : List Name → Name → Thing
thing_of names x = thing_at x (binder_of names x)

abbrev further : ℕ → Option ℕ → Option ℕ
further d None = None
further d (Some n) = Some (n + d)

further_none : (o : Option ℕ) → further 0 o ≡ o
further_none None = refl
further_none (Some n) = let e : n + 0 ≡ n = omega arith in ap Some e

further_one : (d : ℕ) (o : Option ℕ) → one_further (further d o) ≡ further (suc d) o
further_one d None = refl
further_one d (Some n) = let e : suc (n + d) ≡ n + suc d = omega arith in ap Some e

further_is : (o : Option ℕ) (n : ℕ) → one_further o ≡ Some n → (m : ℕ) × (o ≡ Some m) × (suc m ≡ n)
further_is None n h = cc
further_is (Some m) n h = (m, refl, (cc))

-- a name that is none of the inner ones has its binder further out
outer_binder : (xs ns : List Name) (x : Name) → IsNone x xs → binder_of (xs ++ ns) x ≡ further (length xs) (binder_of ns x)
outer_binder [] ns x h = sym (further_none (binder_of ns x))
outer_binder (y ∷ xs) ns x h =
    rw (other_false y x h.0) (ap one_further (outer_binder xs ns x h.1) ∙ further_one (length xs) (binder_of ns x))

-- a name is none of the inner ones, or its binder is one of them
none_or_inside : (xs ns : List Name) (x : Name) → IsNone x xs ⊎ ((n : ℕ) × (binder_of (xs ++ ns) x ≡ Some n) × (n < length xs))
none_or_inside [] ns x = inl tt
none_or_inside (y ∷ xs) ns x =
    name_cases y x (λ e t. inr (0, rw t refl, omega arith))
    (λ other f.
    elim (none_or_inside xs ns x) [
      | inl k ↦ inl (other, k)
      | inr q ↦ inr (suc q.0, rw (f, q.1) refl, omega (arith, q.2))
    ])

use_thing : (d : ℕ) (x : Name) (o : Option ℕ) → things d (bound_or_import x (further d o)) ≡ thing_at x o ∷ []
use_thing d x None = refl
use_thing d x (Some n) =
    let f : nat_lt (n + d) d ≡ false = grind (arith, nat_tests) in
    let e : n + d - d ≡ n = omega arith in
    rw (f, e) refl

inside_thing : (d : ℕ) (x : Name) (n : ℕ) → n < d → things d (bound_or_import x (Some n)) ≡ []
inside_thing d x n h = let t : nat_lt n d ≡ true = grind (arith, nat_tests) in rw t refl

only_one : (a t : Thing) → Contains (a ∷ []) t → t ≡ a
only_one a t (zero, l, e) = sym e
only_one a t (suc k, l, e) = let contradiction : ⊥ = omega (arith, l) in absurd contradiction

there : (a : Thing) → Contains (a ∷ []) a
there a = (0, omega arith, refl)

nothing : (t : Thing) → Contains [] t → ⊥
nothing t (k, l, e) = omega (arith, l)

-- a thing is a name of a list, other than the inner ones
abbrev Means : List Name → List Name → List Occurrence → Thing → Type 0
Means xs ns os t = (x : Name) × Has x os × IsNone x xs × (t ≡ thing_of ns x)

means_two : (xs ns : List Name) (os ps : List Occurrence) (t : Thing) → Means xs ns os t ⊎ Means xs ns ps t → Means xs ns (joined os ps) t
means_two xs ns os ps t (inl m) = (m.0, has_joined os ps m.0 (inl m.1), m.2, m.3)
means_two xs ns os ps t (inr m) = (m.0, has_joined os ps m.0 (inr m.1), m.2, m.3)

means_below : (y : Name) (xs ns : List Name) (os : List Occurrence) (t : Thing) → Means (y ∷ xs) ns os t → Means xs ns (without y os) t
means_below y xs ns os t m = (m.0, has_without y os m.0 m.1 m.2.0, m.2.1, m.3)

either_way : (a b : List Thing) (t : Thing) {P Q : Type 0} → (Contains a t → P) → (Contains b t → Q) → Contains (a ++ b) t → P ⊎ Q
either_way a b t p q h = elim (Contains-append_cases a b t h) [ inl k ↦ inl (p k) | inr k ↦ inr (q k) ]

-- a thing of a term is one of its free names
things_free : (xs ns : List Name) (tree : Tree) (t : Thing) → Contains (things (length xs) (term_of (xs ++ ns) tree)) t → Means xs ns (free tree) t
things_free xs ns (Skip s) t h = absurd (nothing t h)
things_free xs ns (Lit s k w) t h = absurd (nothing t h)
things_free xs ns (Use s x) t h =
    elim (none_or_inside xs ns x) [
      | inl k ↦ (
        x,
        inl refl,
        k,
        only_one (thing_of ns x) t
            (subst (λ (ts : List Thing). Contains ts t)
            (ap (λ o. things (length xs) (bound_or_import x o)) (outer_binder xs ns x k) ∙ use_thing (length xs) x (binder_of ns x)) h),
      )
      | inr q ↦ absurd
          (nothing t
          (subst (λ (ts : List Thing). Contains ts t)
          (ap (λ o. things (length xs) (bound_or_import x o)) q.1 ∙ inside_thing (length xs) x q.0 q.2) h))
    ]
things_free xs ns (Lam s x a at m) t h = means_below x xs ns (free m) t (things_free (x ∷ xs) ns m t h)
things_free xs ns (New s x w wt m) t h = means_below x xs ns (free m) t (things_free (x ∷ xs) ns m t h)
things_free xs ns (Array s x n u w wt m) t h = means_below x xs ns (free m) t (things_free (x ∷ xs) ns m t h)
things_free xs ns (App s m n) t h = means_two xs ns _ _ t (either_way _ _ t (things_free xs ns m t) (things_free xs ns n t) h)
things_free xs ns (Both s m n) t h = means_two xs ns _ _ t (either_way _ _ t (things_free xs ns m t) (things_free xs ns n t) h)
things_free xs ns (Fst s m) t h = things_free xs ns m t h
things_free xs ns (Snd s m) t h = things_free xs ns m t h
things_free xs ns (Seq s m n) t h = means_two xs ns _ _ t (either_way _ _ t (things_free xs ns m t) (things_free xs ns n t) h)
things_free xs ns (Par s m n) t h = means_two xs ns _ _ t (either_way _ _ t (things_free xs ns m t) (things_free xs ns n t) h)
things_free xs ns (If s m n p) t h =
    let q = either_way _ _ t (things_free xs ns m t) (either_way _ _ t (things_free xs ns n t) (things_free xs ns p t)) h in
    means_two xs ns (joined (free m) (free n)) (free p) t
    (elim q [
      | inl a ↦ inl (means_two xs ns (free m) (free n) t (inl a))
      | inr b ↦ elim b [ inl c ↦ inl (means_two xs ns (free m) (free n) t (inr c)) | inr d ↦ inr d ]
    ])
things_free xs ns (While s m n) t h = means_two xs ns _ _ t (either_way _ _ t (things_free xs ns m t) (things_free xs ns n t) h)
things_free xs ns (Assign s m n) t h = means_two xs ns _ _ t (either_way _ _ t (things_free xs ns m t) (things_free xs ns n t) h)
things_free xs ns (Deref s m) t h = things_free xs ns m t h
things_free xs ns (Not s m) t h = things_free xs ns m t h
things_free xs ns (Bin s op m n) t h = means_two xs ns _ _ t (either_way _ _ t (things_free xs ns m t) (things_free xs ns n t) h)

two_things : (a b : List Thing) (t : Thing) (os ps : List Occurrence) (x : Name) → (Has x os → Contains a t) → (Has x ps → Contains b t)
    → Has x (joined os ps) → Contains (a ++ b) t
two_things a b t os ps x p q h =
    elim (joined_has os ps x h) [ inl k ↦ Contains-append_left a b t (p k) | inr k ↦ Contains-append_right a b t (q k) ]

three_things : (a b c : List Thing) (t : Thing) (os ps qs : List Occurrence) (x : Name) → (Has x os → Contains a t) → (Has x ps → Contains b t)
    → (Has x qs → Contains c t) → Has x (joined (joined os ps) qs) → Contains (a ++ (b ++ c)) t
three_things a b c t os ps qs x p q r h =
    elim (joined_has (joined os ps) qs x h) [
      | inl l ↦ elim (joined_has os ps x l) [
        | inl k ↦ Contains-append_left a (b ++ c) t (p k)
        | inr k ↦ Contains-append_right a (b ++ c) t (Contains-append_left b c t (q k))
      ]
      | inr k ↦ Contains-append_right a (b ++ c) t (Contains-append_right b c t (r k))
    ]

-- a free name of a term is one of its things
free_things : (xs ns : List Name) (tree : Tree) (x : Name) → Has x (free tree) → IsNone x xs
    → Contains (things (length xs) (term_of (xs ++ ns) tree)) (thing_of ns x)
free_things xs ns (Skip s) x h k = absurd h
free_things xs ns (Lit s v w) x h k = absurd h
free_things xs ns (Use s y) x (inr h) k = absurd h
free_things xs ns (Use s y) x (inl e) k =
    subst (λ (z : Name). Contains (things (length xs) (bound_or_import z (binder_of (xs ++ ns) z))) (thing_of ns x)) (sym e)
    (subst (λ (ts : List Thing). Contains ts (thing_of ns x))
    (sym (ap (λ o. things (length xs) (bound_or_import x o)) (outer_binder xs ns x k) ∙ use_thing (length xs) x (binder_of ns x)))
    (there (thing_of ns x)))
free_things xs ns (Lam s y a at m) x h k = let q = without_has y (free m) x h in free_things (y ∷ xs) ns m x q.0 (q.1, k)
free_things xs ns (New s y w wt m) x h k = let q = without_has y (free m) x h in free_things (y ∷ xs) ns m x q.0 (q.1, k)
free_things xs ns (Array s y n u w wt m) x h k = let q = without_has y (free m) x h in free_things (y ∷ xs) ns m x q.0 (q.1, k)
free_things xs ns (App s m n) x h k = two_things _ _ _ (free m) (free n) x (λ l. free_things xs ns m x l k) (λ l. free_things xs ns n x l k) h
free_things xs ns (Both s m n) x h k = two_things _ _ _ (free m) (free n) x (λ l. free_things xs ns m x l k) (λ l. free_things xs ns n x l k) h
free_things xs ns (Fst s m) x h k = free_things xs ns m x h k
free_things xs ns (Snd s m) x h k = free_things xs ns m x h k
free_things xs ns (Seq s m n) x h k = two_things _ _ _ (free m) (free n) x (λ l. free_things xs ns m x l k) (λ l. free_things xs ns n x l k) h
free_things xs ns (Par s m n) x h k = two_things _ _ _ (free m) (free n) x (λ l. free_things xs ns m x l k) (λ l. free_things xs ns n x l k) h
free_things xs ns (If s m n p) x h k =
    three_things _ _ _ _ (free m) (free n) (free p) x (λ l. free_things xs ns m x l k) (λ l. free_things xs ns n x l k) (λ l. free_things xs ns p x l k) h
free_things xs ns (While s m n) x h k = two_things _ _ _ (free m) (free n) x (λ l. free_things xs ns m x l k) (λ l. free_things xs ns n x l k) h
free_things xs ns (Assign s m n) x h k = two_things _ _ _ (free m) (free n) x (λ l. free_things xs ns m x l k) (λ l. free_things xs ns n x l k) h
free_things xs ns (Deref s m) x h k = free_things xs ns m x h k
free_things xs ns (Not s m) x h k = free_things xs ns m x h k
free_things xs ns (Bin s op m n) x h k = two_things _ _ _ (free m) (free n) x (λ l. free_things xs ns m x l k) (λ l. free_things xs ns n x l k) h

-- two names with one binder are one
same_binder : (ns : List Name) (x y : Name) (n : ℕ) → binder_of ns x ≡ Some n → binder_of ns y ≡ Some n → x ≡ y
same_binder [] x y n h k = cc
same_binder (z ∷ ns) x y n h k =
    name_cases z x
    (λ e t. name_cases z y (λ f u. sym e ∙ f)
    (λ other u.
    let p : Some 0 ≡ Some n = sym (rw t refl) ∙ h in
    let q = further_is (binder_of ns y) n (sym (rw u refl) ∙ k) in
    let r : 0 ≡ n = cc in
    absurd (omega (arith, r, q.2))))
    (λ other t. name_cases z y
    (λ f u.
    let p : Some 0 ≡ Some n = sym (rw u refl) ∙ k in
    let q = further_is (binder_of ns x) n (sym (rw t refl) ∙ h) in
    let r : 0 ≡ n = cc in
    absurd (omega (arith, r, q.2)))
    (λ differs u.
    let p = further_is (binder_of ns x) n (sym (rw t refl) ∙ h) in
    let q = further_is (binder_of ns y) n (sym (rw u refl) ∙ k) in
    let e : q.0 ≡ p.0 = omega (arith, p.2, q.2) in
    same_binder ns x y p.0 p.1 (q.1 ∙ ap Some e)))

-- two names that are one thing are one
same_thing : (x y : Name) (ns : List Name) (o u : Option ℕ) → binder_of ns x ≡ o → binder_of ns y ≡ u → thing_at x o ≡ thing_at y u → x ≡ y
same_thing x y ns None None h k e = cc
same_thing x y ns None (Some m) h k e = cc
same_thing x y ns (Some n) None h k e = cc
same_thing x y ns (Some n) (Some m) h k e = let r : m ≡ n = cc in same_binder ns x y n h (k ∙ ap Some r)

-- parts that are found to share no name share nothing
pub apart_in_model : (ns : List Name) (m n : Tree) → apart (free m) (free n) ≡ Ok tt → Apart (term_of ns m) (term_of ns n)
apart_in_model ns m n h t k l =
    let p = things_free [] ns m t k in
    let q = things_free [] ns n t l in
    let e : q.0 ≡ p.0 = same_thing q.0 p.0 ns (binder_of ns q.0) (binder_of ns p.0) refl refl (sym q.3 ∙ p.3) in
    apart_shares_none (free m) (free n) p.0 h p.1 (subst (λ (x : Name). Has x (free n)) e q.1)

-- and the other way round
pub apart_of_model : (ns : List Name) (m n : Tree) → Apart (term_of ns m) (term_of ns n) → apart (free m) (free n) ≡ Ok tt
apart_of_model ns m n h =
    apart_where_none (free m) (free n) (λ x k l. h (thing_of ns x) (free_things [] ns m x k tt) (free_things [] ns n x l tt))
