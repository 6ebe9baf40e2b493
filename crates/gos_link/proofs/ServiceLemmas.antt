-- Which handshakes the services link, and which imports stay.
use Rattle.std.specs.Prelude.{◌≡◌, ℕ, zero, suc, ◌+◌, ◌<◌, ◌≤◌, ◌⊎◌, ◌&&◌, ◌||◌, Bool, true, false, List, [], ◌∷◌, ◌++◌, length, Option, Some, None, Contains, slice_get, get_or, nat_eq}
use Rattle.std.proofs.Common.{refl, sym, ◌∙◌, ap, subst, arith, inl, inr, length-append}
use Rattle.std.proofs.lemmas.List.{length-map}
use Rattle.std.proofs.lemmas.List.Quantifiers.{position-Some}
use Rattle.std.proofs.lemmas.Option.{slice_get-get_or}
use Rattle.std.proofs.lemmas.Bool.Decides.{nat_tests}
use Rattle.std.proofs.lemmas.Bool.{eq-eqb}
use Rattle.gos_types.specs.Types.{Type', Com, Exp, Var, Pair, Fun}
use Rattle.gos_model.specs.Typing.{Imported}
use Rattle.gos_model.proofs.NumberLemmas.{number_cases}
use Rattle.gos_plan.specs.Kinds.{contacts_of}
use Rattle.gos_plan.specs.Plans.{Plan, contacts_of_import}
use Rattle.gos_plan.specs.Joining.{Link, is_at_import, is_joined, LeftImport, left_in, left_among, all_left}
use Rattle.gos_link.specs.declared.services.Service.{Service}
use Rattle.gos_link.specs.Linked.{imports_of, shakes_at, link_at, links_from, links_of, wiring_of}
use Rattle.gos_link.specs.inner.Opens.{number_bound, opens_in, opens_among}
use Rattle.gos_link.specs.inner.Wired.{number_used, AreJoinable}

-- one of a list
abbrev pub In : {X : Type 0} → List X → X → Type 0
In [] x = ⊥
In (y ∷ ys) x = (y ≡ x) ⊎ In ys x

pub in_contained : {X : Type 0} (xs : List X) (x : X) → Contains xs x → In xs x
in_contained [] x (k, small, e) = absurd (omega (arith, small))
in_contained (y ∷ xs) x (zero, small, e) = inl e
in_contained (y ∷ xs) x (suc k, small, e) = inr (in_contained xs x (k, omega (arith, small), e))

pub contains_in : {X : Type 0} (xs : List X) (x : X) → In xs x → Contains xs x
contains_in [] x h = absurd h
contains_in (y ∷ xs) x (inl e) = (0, omega arith, e)
contains_in (y ∷ xs) x (inr h) = let (k, small, e) = contains_in xs x h in (suc k, omega (arith, small), e)

in_left : {X : Type 0} (xs ys : List X) (x : X) → In xs x → In (xs ++ ys) x
in_left [] ys x h = absurd h
in_left (z ∷ xs) ys x (inl e) = inl e
in_left (z ∷ xs) ys x (inr h) = inr (in_left xs ys x h)

in_right : {X : Type 0} (xs ys : List X) (x : X) → In ys x → In (xs ++ ys) x
in_right [] ys x h = h
in_right (z ∷ xs) ys x h = inr (in_right xs ys x h)

in_either : {X : Type 0} (xs ys : List X) (x : X) → In (xs ++ ys) x → In xs x ⊎ In ys x
in_either [] ys x h = inr h
in_either (z ∷ xs) ys x (inl e) = inl (inl e)
in_either (z ∷ xs) ys x (inr h) = elim (in_either xs ys x h) [ inl a ↦ inl (inr a) | inr b ↦ inr b ]

none : Service
none = record { line = 0; user = 0; import = 0; giver = 0 }

-- what a number of a service tells
both_true : (a b c d : ℕ) → (nat_eq a b && nat_eq c d) ≡ true → (a ≡ b) × (c ≡ d)
both_true a b c d h = (grind (arith, nat_tests, h), grind (arith, nat_tests, h))

pub bound_tells : (ss : List Service) (k i t : ℕ) → number_bound ss k i ≡ Some t → (s : Service) × (slice_get ss t ≡ Some s) × (s.user ≡ k) × (s.import ≡ i)
bound_tells ss k i t e =
    let (low, holds, before) = position-Some (λ s. nat_eq s.user k && nat_eq s.import i) ss t none e in
    let s : Service = get_or ss t none in
    let (user, import) = both_true s.user k s.import i holds in
    (s, slice_get-get_or ss t none low, user, import)

pub used_tells : (ss : List Service) (k t : ℕ) → number_used ss k ≡ Some t → (s : Service) × (slice_get ss t ≡ Some s) × (s.giver ≡ k)
used_tells ss k t e =
    let (low, holds, before) = position-Some (λ s. nat_eq s.giver k) ss t none e in
    let s : Service = get_or ss t none in
    (s, slice_get-get_or ss t none low, (let is : s.giver ≡ k = grind (arith, nat_tests, holds) in is))

-- each type has a handshake
pub some_shake : (t : Type') → 1 ≤ length (contacts_of t)
some_shake Com = omega arith
some_shake (Exp w) = omega arith
some_shake (Var w) = omega arith
some_shake (Pair a b) =
    let h = some_shake a in
    let e : length (contacts_of (Pair a b)) ≡ length (contacts_of a) + length (contacts_of b) = simp (length-append, length-map) refl in
    omega (arith, h, e)
some_shake (Fun a b) =
    let h = some_shake a in
    let e : length (contacts_of (Fun a b)) ≡ length (contacts_of a) + length (contacts_of b) = simp (length-append, length-map) refl in
    omega (arith, h, e)

-- the links of a service, and of all
in_from : (s : Service) (h n : ℕ) (l : Link) → In (links_from s h n) l → (g : ℕ) × (g < h + n) × (l ≡ link_at s g)
in_from s h zero l i = absurd i
in_from s h (suc n) l (inl e) = (h, omega arith, sym e)
in_from s h (suc n) l (inr i) = let (g, low, e) = in_from s (suc h) n l i in (g, omega (arith, low), e)

from_in : (s : Service) (h n g : ℕ) → h ≤ g → g < h + n → In (links_from s h n) (link_at s g)
from_in s h zero g low high = absurd (omega (arith, low, high))
from_in s h (suc n) g low high =
    number_cases h g (λ e b. inl (ap (link_at s) e)) (λ e b. inr (from_in s (suc h) n g (omega (arith, low, e)) (omega (arith, high))))

-- a link is one of a service's handshakes
abbrev pub IsLinkOf : List Plan → List Service → Link → Type 0
IsLinkOf ps ss l = (t : ℕ) × (s : Service) × (h : ℕ) × (slice_get ss t ≡ Some s) × (h < shakes_at ps s) × (l ≡ link_at s h)

pub link_tells : (ps : List Plan) (ss : List Service) (l : Link) → In (links_of ps ss) l → IsLinkOf ps ss l
link_tells ps [] l i = absurd i
link_tells ps (s ∷ ss) l i =
    elim (in_either (links_from s 0 (shakes_at ps s)) (links_of ps ss) l i) [
      | inl a ↦ (let (g, low, e) = in_from s 0 (shakes_at ps s) l a in (0, s, g, refl, omega (arith, low), e))
      | inr b ↦ (let (t, r, h, at, low, e) = link_tells ps ss l b in (suc t, r, h, at, low, e))
    ]

pub link_in : (ps : List Plan) (ss : List Service) (t : ℕ) (s : Service) (h : ℕ) → slice_get ss t ≡ Some s → h < shakes_at ps s → In (links_of ps ss) (link_at s h)
link_in ps [] t s h at low = absurd (cc at)
link_in ps (r ∷ ss) zero s h at low =
    let same : r ≡ s = cc at in
    in_left (links_from r 0 (shakes_at ps r)) (links_of ps ss) (link_at s h)
    (subst (λ (q : Service). In (links_from q 0 (shakes_at ps q)) (link_at s h)) (sym same) (from_in s 0 (shakes_at ps s) h (omega arith) (omega (arith, low))))
link_in ps (r ∷ ss) (suc t) s h at low =
    in_right (links_from r 0 (shakes_at ps r)) (links_of ps ss) (link_at s h) (link_in ps ss t s h at low)

-- which imports are joined by links
joined_here : (k i : ℕ) (l : Link) (ls : List Link) → In ls l → is_at_import k i l.one ≡ true → is_joined ls k i ≡ true
joined_here k i l [] h e = absurd h
joined_here k i l (m ∷ ls) (inl same) e =
    let at : is_at_import k i m.one ≡ true = subst (λ (x : Link). is_at_import k i x.one ≡ true) (sym same) e in rw at refl
joined_here k i l (m ∷ ls) (inr h) e = or_true (is_at_import k i m.one || is_at_import k i m.other) (is_joined ls k i) (joined_here k i l ls h e)
  where
    or_true : (a b : Bool) → b ≡ true → (a || b) ≡ true
    or_true true b h = refl
    or_true false b h = h

not_joined : (k i : ℕ) (ls : List Link) → ((l : Link) → In ls l → (is_at_import k i l.one ≡ false) × (is_at_import k i l.other ≡ false)) → is_joined ls k i ≡ false
not_joined k i [] h = refl
not_joined k i (l ∷ ls) h =
    let (one, other) = h l (inl refl) in
    let rest = not_joined k i ls (λ m j. h m (inr j)) in
    rw (one, other, rest) refl

abbrev pub is_bound : Option ℕ → Bool
is_bound None = false
is_bound (Some t) = true

module _ (ps : List Plan) (ss : List Service) (root : ℕ) (known : AreJoinable ps ss root) where
  -- a service has a handshake
  some_at : (t : ℕ) (s : Service) → slice_get ss t ≡ Some s → 0 < shakes_at ps s
  some_at t s at =
      let (p, q, x, of_user, of_giver, import, type) = known.fits t s at in
      let shakes : shakes_at ps s ≡ length (contacts_of x.ty) =
      (λ j. length (contacts_of_import (slice_get (imports_of (of_user j)) s.import))) ∙ (λ j. length (contacts_of_import (import j)))
      in
      let some = some_shake x.ty in
      omega (arith, shakes, some)

  joined_bound : (k i : ℕ) → is_joined (links_of ps ss) k i ≡ is_bound (number_bound ss k i)
  joined_bound k i = by (number_bound ss k i) refl
    where
      by : (o : Option ℕ) → number_bound ss k i ≡ o → is_joined (links_of ps ss) k i ≡ is_bound o
      by (Some t) e =
          let (s, at, user, import) = bound_tells ss k i t e in
          joined_here k i (link_at s 0) (links_of ps ss) (link_in ps ss t s 0 at (some_at t s at))
          (rw (eq-eqb s.user k user, eq-eqb s.import i import) refl)
      by None e =
          not_joined k i (links_of ps ss)
          (λ l j.
          let (t, s, h, at, low, is) = link_tells ps ss l j in (
            ap (λ (x : Link). is_at_import k i x.one) is ∙ apart t s at,
            ap (λ (x : Link). is_at_import k i x.other) is ∙ (let f : (nat_eq s.giver k && false) ≡ false = and_false (nat_eq s.giver k) in f),
          ))
        where
          and_false : (b : Bool) → (b && false) ≡ false
          and_false true = refl
          and_false false = refl

          apart : (t : ℕ) (s : Service) → slice_get ss t ≡ Some s → (nat_eq s.user k && nat_eq s.import i) ≡ false
          apart t s at =
              number_cases s.user k
              (λ u b. number_cases s.import i
              (λ v c.
              let wrong : Some t ≡ None = sym (known.bound t s at) ∙ ((λ j. number_bound ss (u j) (v j)) ∙ e) in
              absurd (cc wrong))
              (λ v c. rw (b, c) refl))
              (λ u b. rw b refl)

  -- the imports that stay
  opens_left_in : (k i : ℕ) (xs : List Imported) → left_in (links_of ps ss) k i xs ≡ opens_in ss k i xs
  opens_left_in k i [] = refl
  opens_left_in k i (x ∷ xs) =
      let e : suc i ≡ i + 1 = omega arith in
      by (number_bound ss k i) refl (opens_left_in k (suc i) xs ∙ ap (λ (j : ℕ). opens_in ss k j xs) e)
    where
      by : (o : Option ℕ) → number_bound ss k i ≡ o → left_in (links_of ps ss) k (suc i) xs ≡ opens_in ss k (i + 1) xs
          → left_in (links_of ps ss) k i (x ∷ xs) ≡ opens_in ss k i (x ∷ xs)
      by None e rest =
          let not : is_joined (links_of ps ss) k i ≡ false = joined_bound k i ∙ ap is_bound e in
          rw (not, e) (ap (λ (ls : List LeftImport). record { plan = k; number = i; import = x } ∷ ls) rest)
      by (Some t) e rest =
          let is : is_joined (links_of ps ss) k i ≡ true = joined_bound k i ∙ ap is_bound e in rw (is, e) rest

  opens_left_among : (k : ℕ) (qs : List Plan) → left_among (links_of ps ss) k qs ≡ opens_among ss k qs
  opens_left_among k [] = refl
  opens_left_among k (q ∷ qs) =
      let e : suc k ≡ k + 1 = omega arith in
      (λ j. opens_left_in k 0 q.imports j ++ (opens_left_among (suc k) qs ∙ ap (λ (n : ℕ). opens_among ss n qs) e) j)

  pub opens_left : all_left (wiring_of ps ss root) ≡ opens_among ss 0 ps
  opens_left = opens_left_among 0 ps
