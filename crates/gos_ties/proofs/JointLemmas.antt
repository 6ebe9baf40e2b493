-- The joints that are found are those that the ties connect.
use Rattle.std.specs.Prelude.{◌≡◌, ◌↔◌, ℕ, ◌≤◌, ◌⊎◌, Bool, true, false, ◌&&◌, List, [], ◌∷◌, ◌++◌, Option, Some, None, map, nat_eq, if◌then◌else◌, unwrap_or, slice_get}
use Rattle.std.proofs.Common.{refl, ap, sym, ◌∙◌, subst, arith, inl, inr}
use Rattle.std.proofs.lemmas.Bool.Decides.{nat_tests}
use Rattle.std.proofs.lemmas.Bool.{eq-eqb}
use Rattle.gos_types.specs.declared.shakes.Role.{Role}
use Rattle.gos_types.specs.declared.shakes.Role.TheVariants.{Serve, Ask}
use Rattle.gos_types.proofs.RoleLemmas.{ask_is_not_serve}
use Rattle.gos_plan.specs.Kinds.{Contact, asks, serves}
use Rattle.gos_plan.specs.Plans.{End, PartEnd, ImportEnd, ResultEnd, Joint, Plan, contact_at}
use Rattle.gos_ties.specs.declared.points.Place.{Place}
use Rattle.gos_ties.specs.declared.points.Place.TheVariants as places
use Rattle.gos_ties.specs.declared.points.Point.{Point}
use Rattle.gos_ties.specs.declared.points.Tie.{Tie}
use Rattle.gos_ties.specs.Ties.{at, point, Meet, Path, here, along, Connects, joint, Has, end_of_place, end_at}
use Rattle.gos_ties.specs.inner.Joined.{touches, AreFar, far_at}
use Rattle.gos_ties.specs.inner.Found.{code, bond_of, IsTied, asks_there, serves_there, do_fit, found_from, found, all_found, far_point, AreNumbered}
use Rattle.gos_ties.proofs.CodeLemmas.{codes_tell, path_leads, leads_path}

-- ends and their points
place_tells : (place : Place) (h : ℕ) (e : End) → end_of_place place h ≡ Some e → point place h ≡ at e
place_tells (places.Part i) h e is = ap (λ (o : Option End). at (unwrap_or o e)) is
place_tells (places.Import i) h e is = ap (λ (o : Option End). at (unwrap_or o e)) is
place_tells places.Result h e is = ap (λ (o : Option End). at (unwrap_or o e)) is
place_tells (places.Number k) h e is = cc
place_tells (places.Node j) h e is = cc

pub end_tells : (p : Point) (e : End) → end_at p ≡ Some e → p ≡ at e
end_tells p e is = place_tells p.place p.shake e is

pub at_end : (e : End) → end_at (at e) ≡ Some e
at_end (PartEnd i h) = refl
at_end (ImportEnd i h) = refl
at_end (ResultEnd h) = refl

-- joints of lists
has_left : (xs ys : List Joint) (j : Joint) → Has xs j → Has (xs ++ ys) j
has_left [] ys j h = absurd h
has_left (x ∷ xs) ys j (inl e) = inl e
has_left (x ∷ xs) ys j (inr h) = inr (has_left xs ys j h)

has_right : (xs ys : List Joint) (j : Joint) → Has ys j → Has (xs ++ ys) j
has_right [] ys j h = h
has_right (x ∷ xs) ys j h = inr (has_right xs ys j h)

has_either : (xs ys : List Joint) (j : Joint) → Has (xs ++ ys) j → Has xs j ⊎ Has ys j
has_either [] ys j h = inr h
has_either (x ∷ xs) ys j (inl e) = inl (inl e)
has_either (x ∷ xs) ys j (inr h) = elim (has_either xs ys j h) [ inl a ↦ inl (inr a) | inr b ↦ inr b ]

-- contacts that fit
role_tells : (r s : Role) (q a q' a' : ℕ) → (asks_there r && (serves_there s && (nat_eq q q' && nat_eq a a'))) ≡ true
    → (r ≡ Ask) × (s ≡ Serve) × (q' ≡ q) × (a' ≡ a)
role_tells Serve s q a q' a' h = cc
role_tells Ask Ask q a q' a' h = cc
role_tells Ask Serve q a q' a' h = (refl, refl, grind (arith, nat_tests), grind (arith, nat_tests))

pub fit_tells : (x y : Option Contact) → do_fit x y ≡ true → (q : ℕ) × (v : ℕ) × (x ≡ Some (asks q v)) × (y ≡ Some (serves q v))
fit_tells None y h = cc
fit_tells (Some c) None h = cc
fit_tells (Some c) (Some d) h =
    let (r, s, q, a) = role_tells c.role d.role c.ask_bits c.answer_bits d.ask_bits d.answer_bits h in (
      c.ask_bits,
      c.answer_bits,
      (λ i. Some (record { role = r i; ask_bits = c.ask_bits; answer_bits = c.answer_bits })),
      (λ i. Some (record { role = s i; ask_bits = q i; answer_bits = a i })),
    )

-- what is found at a point
one_has : (u : Bool) (j k : Joint) → Has (if u then j ∷ [] else []) k → (u ≡ true) × (j ≡ k)
one_has true j k (inl e) = (refl, e)
one_has true j k (inr h) = absurd h
one_has false j k h = absurd h

pub from_ends : (p : Plan) (x y : Option End) (a b : End) → Has (found_from p x y) (joint a b)
    → (x ≡ Some a) × (y ≡ Some b) × (do_fit (contact_at p a) (contact_at p b) ≡ true)
from_ends p None y a b h = absurd h
from_ends p (Some c) None a b h = absurd h
from_ends p (Some c) (Some d) a b h =
    let (fits, same) = one_has (do_fit (contact_at p c) (contact_at p d)) (joint c d) (joint a b) h in
    let one : c ≡ a = ap (λ (j : Joint). j.asking) same in
    let other : d ≡ b = ap (λ (j : Joint). j.serving) same in
    (ap (λ (e : End). Some e) one, ap (λ (e : End). Some e) other, subst (λ (j : Joint). do_fit (contact_at p j.asking) (contact_at p j.serving) ≡ true) same fits)

-- each joint that is found is found at a point of the ties, and none is left out
found_at : (p : Plan) (far : Point → Point) (ts : List Tie) (j : Joint) → Has (all_found p far ts) j → (q : Point) × IsTied ts q × Has (found p far q) j
found_at p far [] j h = absurd h
found_at p far (t ∷ ts) j h =
    elim (has_either (found p far t.one) (found p far t.other ++ all_found p far ts) j h) [
      | inl a ↦ (t.one, inl refl, a)
      | inr b ↦
          elim (has_either (found p far t.other) (all_found p far ts) j b)
          [ inl c ↦ (t.other, inr (inl refl), c) | inr d ↦ (let (q, i, k) = found_at p far ts j d in (q, inr (inr i), k)) ]
    ]

pub all_at : (p : Plan) (far : Point → Point) (ts : List Tie) (j : Joint) (q : Point) → IsTied ts q → Has (found p far q) j → Has (all_found p far ts) j
all_at p far [] j q i h = absurd i
all_at p far (t ∷ ts) j q (inl e) h =
    has_left (found p far t.one) (found p far t.other ++ all_found p far ts) j (subst (λ (r : Point). Has (found p far r) j) e h)
all_at p far (t ∷ ts) j q (inr (inl e)) h =
    has_right (found p far t.one) (found p far t.other ++ all_found p far ts) j
    (has_left (found p far t.other) (all_found p far ts) j (subst (λ (r : Point). Has (found p far r) j) e h))
all_at p far (t ∷ ts) j q (inr (inr i)) h =
    has_right (found p far t.one) (found p far t.other ++ all_found p far ts) j
    (has_right (found p far t.other) (all_found p far ts) j (all_at p far ts j q i h))

-- both ends of a path are in ties
meet_left : (ts : List Tie) (a b : Point) → Meet ts a b → IsTied ts a
meet_left [] a b m = m
meet_left (t ∷ ts) a b (inl e) = inl (sym (ap (λ (u : Tie). u.one) e))
meet_left (t ∷ ts) a b (inr (inl e)) = inr (inl (sym (ap (λ (u : Tie). u.other) e)))
meet_left (t ∷ ts) a b (inr (inr m)) = inr (inr (meet_left ts a b m))

meet_right : (ts : List Tie) (a b : Point) → Meet ts a b → IsTied ts b
meet_right [] a b m = m
meet_right (t ∷ ts) a b (inl e) = inr (inl (sym (ap (λ (u : Tie). u.other) e)))
meet_right (t ∷ ts) a b (inr (inl e)) = inl (sym (ap (λ (u : Tie). u.one) e))
meet_right (t ∷ ts) a b (inr (inr m)) = inr (inr (meet_right ts a b m))

path_right : (ts : List Tie) (a b : Point) → IsTied ts a → Path ts a b → IsTied ts b
path_right ts a b i (here _) = i
path_right ts a b i (along _ c _ m l) = path_right ts c b (meet_right ts a c m) l

pub path_ends : (ts : List Tie) (a b : Point) → Path ts a b → (a ≡ b) ⊎ (IsTied ts a × IsTied ts b)
path_ends ts a b (here _) = inl refl
path_ends ts a b (along _ c _ m l) = inr (meet_left ts a c m, path_right ts c b (meet_right ts a c m) l)

abbrev pub role_or : Option Contact → Role
role_or None = Ask
role_or (Some c) = c.role

pub not_both : (p : Plan) (a b : End) (q v : ℕ) → contact_at p a ≡ Some (asks q v) → contact_at p b ≡ Some (serves q v) → at a ≡ at b → ⊥
not_both p a b q v one other e =
    let same : a ≡ b = ap (λ (o : Option End). unwrap_or o a) (sym (at_end a) ∙ (ap (λ (x : Point). end_at x) e ∙ at_end b)) in
    ask_is_not_serve (ap (λ (o : Option Contact). role_or o) (sym one ∙ (ap (λ (x : End). contact_at p x) same ∙ other)))

fits_so : (q v : ℕ) → do_fit (Some (asks q v)) (Some (serves q v)) ≡ true
fits_so q v = rw (eq-eqb q q refl, eq-eqb v v refl) refl

pub joints_found : (ts : List Tie) (far : List ℕ) (points : List Point) (p : Plan) → AreNumbered points ts
    → AreFar (map (bond_of points) ts) (far_at far)
    → ((q : Point) (e : End) → IsTied ts q → end_at q ≡ Some e → touches (code points q) (map (bond_of points) ts) ≤ 1)
    → (a b : End) → Has (all_found p (far_point far points) ts) (joint a b) ↔ Connects ts p a b
joints_found ts far points p numbered ends free a b = (sound, complete)
  where
    far_path : (q : Point) → IsTied ts q → Path ts q (far_point far points q)
    far_path q tied =
        let (c, is, tied_c, path) = leads_path points ts numbered q tied (code points q) (far_at far (code points q)) refl (ends.reached (code points q)) in
        let there : far_point far points q ≡ c =
        ap (λ (n : ℕ). unwrap_or (slice_get points n) q) is ∙ ap (λ (o : Option Point). unwrap_or o q) (numbered c tied_c)
        in
        subst (λ (r : Point). Path ts q r) (sym there) path

    sound : Has (all_found p (far_point far points) ts) (joint a b) → Connects ts p a b
    sound h =
        let (q, tied, found_here) = found_at p (far_point far points) ts (joint a b) h in
        let (one, other, fits) = from_ends p (end_at q) (end_at (far_point far points q)) a b found_here in
        let (n, v, asks_a, serves_b) = fit_tells (contact_at p a) (contact_at p b) fits in
        let at_a : q ≡ at a = end_tells q a one in
        let at_b : far_point far points q ≡ at b = end_tells (far_point far points q) b other in (
          n,
          v,
          asks_a,
          serves_b,
          subst (λ (r : Point). Path ts (at a) r) at_b
              (subst (λ (r : Point). Path ts r (far_point far points q)) at_a (far_path q tied)),
        )

    complete : Connects ts p a b → Has (all_found p (far_point far points) ts) (joint a b)
    complete (n, v, asks_a, serves_b, path) =
        elim (path_ends ts (at a) (at b) path) [
          | inl e ↦ absurd (not_both p a b n v asks_a serves_b e)
          | inr tied ↦
              let free_a = free (at a) a tied.0 (at_end a) in
              let free_b = free (at b) b tied.1 (at_end b) in
              let there : far_point far points (at a) ≡ at b =
              elim (ends.only (code points (at a)) (code points (at b)) free_a free_b (path_leads points ts (at a) (at b) path)) [
                | inl e ↦
                    absurd
                    (not_both p a b n v asks_a serves_b
                    (sym (codes_tell points (at b) (at a) (numbered (at b) tied.1) (numbered (at a) tied.0) e)))
                | inr e ↦
                    ap (λ (k : ℕ). unwrap_or (slice_get points k) (at a)) (sym e) ∙ ap (λ (o : Option Point). unwrap_or o (at a)) (numbered (at b) tied.1)
              ]
              in
              let fits : do_fit (contact_at p a) (contact_at p b) ≡ true = rw (asks_a, serves_b) (fits_so n v) in
              let one : found p (far_point far points) (at a) ≡ joint a b ∷ [] =
              rw (there, at_end a, at_end b, fits) refl
              in
              all_at p (far_point far points) ts (joint a b) (at a) tied.0
              (subst (λ (js : List Joint). Has js (joint a b)) (sym one) (inl refl))
        ]

pub same_at : (a b : End) → at a ≡ at b → a ≡ b
same_at a b e = ap (λ (o : Option End). unwrap_or o a) (sym (at_end a) ∙ (ap (λ (p : Point). end_at p) e ∙ at_end b))
