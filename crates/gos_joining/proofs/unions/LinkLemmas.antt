-- The links of the flat wiring: those of each joining, and those of the joinings; and which imports a link joins.
use Rattle.std.specs.Prelude.{◌≡◌, ℕ, zero, suc, ◌+◌, ◌<◌, ◌||◌, true, List, [], ◌∷◌, ◌⊎◌, length, map, Option, Some, None, Contains, slice_get, nat_eq}
use Rattle.std.proofs.Common.{refl, sym, ◌∙◌, ap, subst, arith, inl, inr}
use Rattle.std.proofs.lemmas.Option.{slice_get_within}
use Rattle.std.proofs.lemmas.List.Elements.{Contains-append_left, Contains-append_right, Contains-append_cases}
use Rattle.std.proofs.lemmas.Bool.{eqb-true, or_cases, or_right, or_left}
use Rattle.gos_types.proofs.BoolLemmas.{and_first, and_second}
use Rattle.gos_plan.specs.Plans.{End, PartEnd, ImportEnd, ResultEnd, Plan}
use Rattle.gos_plan.specs.Joining.{Place, place, Link, Wiring, is_of_import, is_at_import, is_joined}
use Rattle.gos_plan.proofs.WiringLemmas.{place_is}
use Rattle.gos_realises.specs.realises.Links.{contact_in}
use Rattle.gos_realises.proofs.joined.OriginLemmas.{at_import}
use Rattle.gos_joining.specs.unions.Unions.{IsThere}
use Rattle.gos_joining.specs.unions.Flat.{first_of, later_link, inner_links, deeper_link, flat}
use Rattle.gos_joining.proofs.unions.UnionLemmas.{Image, of_image, in_image}

-- a place where there is a handshake is one of a plan that there is
pub in_range : (w : Wiring) (a : Place) → IsThere w a → a.plan < length w.plans
in_range w a (c, there) = by_plan (slice_get w.plans a.plan) refl there
  where
    by_plan : (o : Option Plan) → slice_get w.plans a.plan ≡ o → contact_in o a.end ≡ Some c → a.plan < length w.plans
    by_plan None none e = absurd (cc e)
    by_plan (Some p) is e = slice_get_within w.plans a.plan p is

abbrev pub OfInner : ℕ → List Wiring → Link → Type 0
OfInner n vs m = (k : ℕ) × (v : Wiring) × (l : Link) × (slice_get vs k ≡ Some v) × Contains v.links l × (later_link (n + first_of vs k) l ≡ m)

in_inner : (n : ℕ) (vs : List Wiring) (k : ℕ) (v : Wiring) (l : Link) → slice_get vs k ≡ Some v → Contains v.links l
    → Contains (inner_links n vs) (later_link (n + first_of vs k) l)
in_inner n [] k v l is has = absurd (cc is)
in_inner n (u ∷ vs) zero v l is has =
    let same : u ≡ v = cc is in
    let sum : n ≡ n + 0 = omega arith in
    let among : Contains (map (later_link n) u.links) (later_link n l) =
    in_image (later_link n) u.links l (subst (λ (x : Wiring). Contains x.links l) (sym same) has)
    in
    Contains-append_left (map (later_link n) u.links) (inner_links (n + length u.plans) vs) (later_link (n + 0) l)
    (subst (λ (m : ℕ). Contains (map (later_link n) u.links) (later_link m l)) sum among)
in_inner n (u ∷ vs) (suc k) v l is has =
    let sum : n + length u.plans + first_of vs k ≡ n + (length u.plans + first_of vs k) = omega arith in
    Contains-append_right (map (later_link n) u.links) (inner_links (n + length u.plans) vs) (later_link (n + (length u.plans + first_of vs k)) l)
    (subst (λ (m : ℕ). Contains (inner_links (n + length u.plans) vs) (later_link m l)) sum (in_inner (n + length u.plans) vs k v l is has))

of_inner : (n : ℕ) (vs : List Wiring) (m : Link) → Contains (inner_links n vs) m → OfInner n vs m
of_inner n [] m (k, small, e) = absurd (omega (arith, small))
of_inner n (u ∷ vs) m has =
    elim (Contains-append_cases (map (later_link n) u.links) (inner_links (n + length u.plans) vs) m has) [
      | inl h ↦ first (of_image (later_link n) u.links m h)
      | inr h ↦ further (of_inner (n + length u.plans) vs m h)
    ]
  where
    first : Image (later_link n) u.links m → OfInner n (u ∷ vs) m
    first (l, is_in, same) =
        let sum : n + 0 ≡ n = omega arith in (0, u, l, refl, is_in, ap (λ (x : ℕ). later_link x l) sum ∙ same)

    further : OfInner (n + length u.plans) vs m → OfInner n (u ∷ vs) m
    further (k, v, l, is, is_in, same) =
        let sum : n + (length u.plans + first_of vs k) ≡ n + length u.plans + first_of vs k = omega arith in
        (suc k, v, l, is, is_in, ap (λ (x : ℕ). later_link x l) sum ∙ same)

-- links of the flat wiring
pub flat_inner : (w : Wiring) (vs : List Wiring) (k : ℕ) (v : Wiring) (l : Link) → slice_get vs k ≡ Some v → Contains v.links l
    → Contains (flat w vs).links (later_link (first_of vs k) l)
flat_inner w vs k v l is has =
    let sum : 0 + first_of vs k ≡ first_of vs k = omega arith in
    Contains-append_left (inner_links 0 vs) (map (deeper_link vs) w.links) (later_link (first_of vs k) l)
    (subst (λ (m : ℕ). Contains (inner_links 0 vs) (later_link m l)) sum (in_inner 0 vs k v l is has))

pub flat_outer : (w : Wiring) (vs : List Wiring) (l : Link) → Contains w.links l → Contains (flat w vs).links (deeper_link vs l)
flat_outer w vs l has =
    Contains-append_right (inner_links 0 vs) (map (deeper_link vs) w.links) (deeper_link vs l) (in_image (deeper_link vs) w.links l has)

abbrev pub OfWiring : List Wiring → Link → Type 0
OfWiring vs m = (k : ℕ) × (v : Wiring) × (l : Link) × (slice_get vs k ≡ Some v) × Contains v.links l × (later_link (first_of vs k) l ≡ m)

abbrev pub OfOuter : Wiring → List Wiring → Link → Type 0
OfOuter w vs m = (l : Link) × Contains w.links l × (deeper_link vs l ≡ m)

pub of_flat : (w : Wiring) (vs : List Wiring) (m : Link) → Contains (flat w vs).links m → OfWiring vs m ⊎ OfOuter w vs m
of_flat w vs m has =
    elim (Contains-append_cases (inner_links 0 vs) (map (deeper_link vs) w.links) m has) [
      | inl h ↦ inl (plain (of_inner 0 vs m h))
      | inr h ↦ inr (of_image (deeper_link vs) w.links m h)
    ]
  where
    plain : OfInner 0 vs m → OfWiring vs m
    plain (k, v, l, is, is_in, same) =
        let sum : first_of vs k ≡ 0 + first_of vs k = omega arith in (k, v, l, is, is_in, ap (λ (x : ℕ). later_link x l) sum ∙ same)

-- imports that are joined
abbrev pub IsAt : ℕ → ℕ → Place → Type 0
IsAt k i a = (h : ℕ) × (a ≡ place k (ImportEnd i h))

abbrev pub JoinedBy : List Link → ℕ → ℕ → Type 0
JoinedBy ls k i = (l : Link) × Contains ls l × (IsAt k i l.one ⊎ IsAt k i l.other)

end_is : (i : ℕ) (e : End) → is_of_import i e ≡ true → (h : ℕ) × (e ≡ ImportEnd i h)
end_is i (PartEnd j h) t = absurd (cc t)
end_is i (ImportEnd j h) t = (h, ap (λ (m : ℕ). ImportEnd m h) (eqb-true j i t))
end_is i (ResultEnd h) t = absurd (cc t)

place_at : (k i : ℕ) (a : Place) → is_at_import k i a ≡ true → IsAt k i a
place_at k i a t =
    let plans : a.plan ≡ k = eqb-true a.plan k (and_first (nat_eq a.plan k) (is_of_import i a.end) t) in
    let (h, e) = end_is i a.end (and_second (nat_eq a.plan k) (is_of_import i a.end) t) in
    (h, place_is a (place k (ImportEnd i h)) plans e)

at_place : (k i : ℕ) (a : Place) → IsAt k i a → is_at_import k i a ≡ true
at_place k i a (h, e) = ap (is_at_import k i) e ∙ at_import k i h

pub joined_by : (ls : List Link) (k i : ℕ) → is_joined ls k i ≡ true → JoinedBy ls k i
joined_by [] k i t = absurd (cc t)
joined_by (l ∷ ls) k i t =
    elim (or_cases (is_at_import k i l.one || is_at_import k i l.other) (is_joined ls k i) t) [
      | inl h ↦
          elim (or_cases (is_at_import k i l.one) (is_at_import k i l.other) h) [
            | inl one ↦ (l, (0, omega arith, refl), inl (place_at k i l.one one))
            | inr other ↦ (l, (0, omega arith, refl), inr (place_at k i l.other other))
          ]
      | inr h ↦ rest (joined_by ls k i h)
    ]
  where
    rest : JoinedBy ls k i → JoinedBy (l ∷ ls) k i
    rest (m, (n, small, e), ends) = (m, (suc n, omega (arith, small), e), ends)

pub by_joined : (ls : List Link) (k i : ℕ) → JoinedBy ls k i → is_joined ls k i ≡ true
by_joined [] k i (m, (n, small, e), ends) = absurd (omega (arith, small))
by_joined (l ∷ ls) k i (m, (zero, small, e), ends) =
    or_left (is_at_import k i l.one || is_at_import k i l.other) (is_joined ls k i) (by_end ends)
  where
    by_end : IsAt k i m.one ⊎ IsAt k i m.other → (is_at_import k i l.one || is_at_import k i l.other) ≡ true
    by_end (inl one) =
        or_left (is_at_import k i l.one) (is_at_import k i l.other)
        (at_place k i l.one (subst (λ (x : Link). IsAt k i x.one) (sym e) one))
    by_end (inr other) =
        or_right (is_at_import k i l.one) (is_at_import k i l.other)
        (at_place k i l.other (subst (λ (x : Link). IsAt k i x.other) (sym e) other))
by_joined (l ∷ ls) k i (m, (suc n, small, e), ends) =
    or_right (is_at_import k i l.one || is_at_import k i l.other) (is_joined ls k i) (by_joined ls k i (m, (n, omega (arith, small), e), ends))
