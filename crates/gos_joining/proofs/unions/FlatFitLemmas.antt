-- The links of the flat wiring fit where the inner and the outer ones do.
use Rattle.std.specs.Prelude.{◌≡◌, ℕ, zero, suc, ◌+◌, ◌<◌, List, [], ◌∷◌, ◌++◌, ◌⊎◌, length, map, Option, Some, None, Contains, slice_get}
use Rattle.std.proofs.Common.{refl, sym, ◌∙◌, ap, subst, arith, inl, inr}
use Rattle.gos_types.proofs.ListLemmas.{mapped_at}
use Rattle.gos_plan.specs.Kinds.{Contact, contacts_of, turned_contact}
use Rattle.gos_plan.specs.Plans.{End, PartEnd, ImportEnd, ResultEnd, Plan, contact_at, turned_if, IsRight}
use Rattle.gos_plan.specs.Joining.{Place, place, Link, Wiring, origin, contacts_of_result, IsJoining}
use Rattle.gos_plan.proofs.WiringLemmas.{place_is}
use Rattle.gos_realises.specs.realises.Links.{contact_of, contact_in, IsUnjoined, EndsFit, LinkFits, StandsIn, LinksFit}
use Rattle.gos_realises.proofs.realises.PlaceLemmas.{contains_at, place_of}
use Rattle.gos_realises.proofs.joined.OriginLemmas.{sort, sort_of, at_origin}
use Rattle.gos_realises.proofs.joined.StepLemmas.{IsPart}
use Rattle.gos_joining.specs.unions.Unions.{IsThere, LinksStand, HasResult}
use Rattle.gos_joining.specs.unions.Flat.{all_plans, first_of, later, later_link, inner_links, deeper, deeper_link, flat, AreJoinings, AreJoined, AllLinksStand, IsBare, LinkedPartsAreBare, FlatFits, JoinedIsFlat, FlatIsJoined}
use Rattle.gos_joining.proofs.unions.PlaceLemmas.{fields_of, same_contact, stands_alone}
use Rattle.gos_joining.proofs.unions.NumberLemmas.{plan_of, flat_at, one_number}
use Rattle.gos_joining.proofs.unions.LinkLemmas.{in_range}
use Rattle.gos_joining.proofs.unions.DeepLemmas.{contact_in_wiring, there_in, wiring_at, deeper_at, same_place, result_flat, result_in}
use Rattle.gos_joining.proofs.unions.FlatLemmas.{joinings_join, flat_joins}

-- what fits stands
pub links_stand : (w : Wiring) → LinksFit w → LinksStand w
links_stand w fit l has =
    let (k, at) = place_of w.links l has in
    let (apart, (c, d, at_one, at_other, ends)) = fit.each k l at in
    ((c, at_one), (d, at_other))

pub has_result : (w : Wiring) → LinksFit w → HasResult w
has_result w fit h c there = (fit.left h c there).0

pub are_joinings : (vs : List Wiring) (ps : List Plan) → AreJoined vs ps → AreJoinings vs ps
are_joinings [] [] are = tt
are_joinings [] (p ∷ ps) are = are
are_joinings (v ∷ vs) [] are = are
are_joinings (v ∷ vs) (p ∷ ps) are = (are.0.joining, are_joinings vs ps are.1)

pub all_links_stand : (vs : List Wiring) (ps : List Plan) → AreJoined vs ps → AllLinksStand vs
all_links_stand [] [] are = tt
all_links_stand [] (p ∷ ps) are = absurd are
all_links_stand (v ∷ vs) [] are = absurd are
all_links_stand (v ∷ vs) (p ∷ ps) are = (links_stand v are.0.fits, all_links_stand vs ps are.1)

fits_of : (vs : List Wiring) (ps : List Plan) (k : ℕ) (v : Wiring) → AreJoined vs ps → slice_get vs k ≡ Some v → LinksFit v
fits_of [] ps k v are is = absurd (cc is)
fits_of (u ∷ vs) [] k v are is = absurd are
fits_of (u ∷ vs) (p ∷ ps) zero v are is = let same : u ≡ v = cc is in subst LinksFit same are.0.fits
fits_of (u ∷ vs) (p ∷ ps) (suc k) v are is = fits_of vs ps k v are.1 is

-- an element of two lists stands in one of them
abbrev pub InTwo : {X : Type 0} → List X → List X → ℕ → X → Type 0
InTwo xs ys k x = (slice_get xs k ≡ Some x) ⊎ ((n : ℕ) × (k ≡ length xs + n) × (slice_get ys n ≡ Some x))

pub in_two : {X : Type 0} (xs ys : List X) (k : ℕ) (x : X) → slice_get (xs ++ ys) k ≡ Some x → InTwo xs ys k x
in_two [] ys k x e = inr (k, omega arith, e)
in_two (y ∷ xs) ys zero x e = inl e
in_two (y ∷ xs) ys (suc k) x e =
    elim (in_two xs ys k x e) [
      | inl h ↦ inl h
      | inr h ↦ (let sum = h.1 in inr (h.0, omega (arith, sum), h.2))
    ]

-- plan n of the flat wiring is one of some wiring
abbrev OfPlans : List Wiring → ℕ → Plan → Type 0
OfPlans vs n p = (k : ℕ) × (v : Wiring) × (j : ℕ) × (slice_get vs k ≡ Some v) × (slice_get v.plans j ≡ Some p)

of_plans : (vs : List Wiring) (n : ℕ) (p : Plan) → slice_get (all_plans vs) n ≡ Some p → OfPlans vs n p
of_plans [] n p e = absurd (cc e)
of_plans (v ∷ vs) n p e = by_part (in_two v.plans (all_plans vs) n p e) (λ m. of_plans vs m p)
  where
    by_part : InTwo v.plans (all_plans vs) n p → ((m : ℕ) → slice_get (all_plans vs) m ≡ Some p → OfPlans vs m p) → OfPlans (v ∷ vs) n p
    by_part (inl h) rest = (0, v, n, refl, h)
    by_part (inr (m, sum, h)) rest = let (k, u, j, is, at) = rest m h in (suc k, u, j, is, at)

-- link n of the inner ones is one of some wiring
abbrev links_before : List Wiring → ℕ → ℕ
links_before [] k = 0
links_before (v ∷ vs) zero = 0
links_before (v ∷ vs) (suc k) = length v.links + links_before vs k

record InnerAt (n : ℕ) (vs : List Wiring) (j : ℕ) (m : Link) : Type 0 where
  joining : ℕ
  wiring : Wiring
  number : ℕ
  link : Link
  is : slice_get vs joining ≡ Some wiring
  at : slice_get wiring.links number ≡ Some link
  same : later_link (n + first_of vs joining) link ≡ m
  sum : j ≡ links_before vs joining + number

pub length_of_map : {X Y : Type 0} (f : X → Y) (xs : List X) → length (map f xs) ≡ length xs
length_of_map f [] = refl
length_of_map f (x ∷ xs) = ap suc (length_of_map f xs)

inner_at : (n : ℕ) (vs : List Wiring) (j : ℕ) (m : Link) → slice_get (inner_links n vs) j ≡ Some m → InnerAt n vs j m
inner_at n [] j m e = absurd (cc e)
inner_at n (v ∷ vs) j m e =
    by_part (in_two (map (later_link n) v.links) (inner_links (n + length v.plans) vs) j m e) (λ i. inner_at (n + length v.plans) vs i m)
  where
    by_part : InTwo (map (later_link n) v.links) (inner_links (n + length v.plans) vs) j m
        → ((i : ℕ) → slice_get (inner_links (n + length v.plans) vs) i ≡ Some m → InnerAt (n + length v.plans) vs i m) → InnerAt n (v ∷ vs) j m
    by_part (inl h) rest =
        let (l, at, same) = mapped_at (later_link n) v.links j m h in
        let zeros : n + 0 ≡ n = omega arith in
        record {
          joining = 0;
          wiring = v;
          number = j;
          link = l;
          is = refl;
          at = at;
          same = ap (λ (x : ℕ). later_link x l) zeros ∙ same;
          sum = omega arith;
        }
    by_part (inr (i, total, h)) rest =
        let there = rest i h in
        let number = there.sum in
        let lengths = length_of_map (later_link n) v.links in
        let firsts : n + (length v.plans + first_of vs there.joining) ≡ n + length v.plans + first_of vs there.joining = omega arith in
        record {
          joining = suc there.joining;
          wiring = there.wiring;
          number = there.number;
          link = there.link;
          is = there.is;
          at = there.at;
          same = ap (λ (x : ℕ). later_link x there.link) firsts ∙ there.same;
          sum = omega (arith, total, lengths, number);
        }

-- how ends fit, by whether they are parts'
abbrev BySort : Wiring → Place → Place → Contact → Contact → ℕ → ℕ → Type 0
BySort w a b c d zero zero = ⊥
BySort w a b c d zero (suc n) = (d ≡ c) × IsUnjoined (slice_get w.plans a.plan) a.end
BySort w a b c d (suc m) zero = (d ≡ c) × IsUnjoined (slice_get w.plans b.plan) b.end
BySort w a b c d (suc m) (suc n) = d ≡ turned_contact c

to_sorts : (w : Wiring) (a b : Place) (c d : Contact) (e f : End) → EndsFit w a b c d e f → BySort w a b c d (sort e) (sort f)
to_sorts w a b c d (PartEnd i h) (PartEnd j g) fit = fit
to_sorts w a b c d (PartEnd i h) (ImportEnd j g) fit = fit
to_sorts w a b c d (PartEnd i h) (ResultEnd g) fit = fit
to_sorts w a b c d (ImportEnd i h) (PartEnd j g) fit = fit
to_sorts w a b c d (ImportEnd i h) (ImportEnd j g) fit = fit
to_sorts w a b c d (ImportEnd i h) (ResultEnd g) fit = fit
to_sorts w a b c d (ResultEnd h) (PartEnd j g) fit = fit
to_sorts w a b c d (ResultEnd h) (ImportEnd j g) fit = fit
to_sorts w a b c d (ResultEnd h) (ResultEnd g) fit = fit

from_sorts : (w : Wiring) (a b : Place) (c d : Contact) (e f : End) → BySort w a b c d (sort e) (sort f) → EndsFit w a b c d e f
from_sorts w a b c d (PartEnd i h) (PartEnd j g) fit = fit
from_sorts w a b c d (PartEnd i h) (ImportEnd j g) fit = fit
from_sorts w a b c d (PartEnd i h) (ResultEnd g) fit = fit
from_sorts w a b c d (ImportEnd i h) (PartEnd j g) fit = fit
from_sorts w a b c d (ImportEnd i h) (ImportEnd j g) fit = fit
from_sorts w a b c d (ImportEnd i h) (ResultEnd g) fit = fit
from_sorts w a b c d (ResultEnd h) (PartEnd j g) fit = fit
from_sorts w a b c d (ResultEnd h) (ImportEnd j g) fit = fit
from_sorts w a b c d (ResultEnd h) (ResultEnd g) fit = fit

-- where a part's end is free in one wiring, it is in the other
abbrev KeepsFree : Wiring → Wiring → Place → Place → Type 0
KeepsFree w v a x = (sort a.end ≡ 0) → IsUnjoined (slice_get w.plans a.plan) a.end → IsUnjoined (slice_get v.plans x.plan) x.end

sorts_moved : (w v : Wiring) (a b x y : Place) (c d : Contact) (m n : ℕ) → ((m ≡ 0) → IsUnjoined (slice_get w.plans a.plan) a.end → IsUnjoined (slice_get v.plans x.plan) x.end)
    → ((n ≡ 0) → IsUnjoined (slice_get w.plans b.plan) b.end → IsUnjoined (slice_get v.plans y.plan) y.end)
    → BySort w a b c d m n → BySort v x y c d m n
sorts_moved w v a b x y c d zero zero free_a free_b fit = fit
sorts_moved w v a b x y c d zero (suc n) free_a free_b fit = (fit.0, free_a refl fit.1)
sorts_moved w v a b x y c d (suc m) zero free_a free_b fit = (fit.0, free_b refl fit.1)
sorts_moved w v a b x y c d (suc m) (suc n) free_a free_b fit = fit

ends_moved : (w v : Wiring) (a b x y : Place) (c d : Contact) → sort x.end ≡ sort a.end → sort y.end ≡ sort b.end → KeepsFree w v a x → KeepsFree w v b y
    → EndsFit w a b c d a.end b.end → EndsFit v x y c d x.end y.end
ends_moved w v a b x y c d of_x of_y free_a free_b fit =
    from_sorts v x y c d x.end y.end
    (subst (λ (m : ℕ). BySort v x y c d m (sort y.end)) (sym of_x)
    (subst (λ (n : ℕ). BySort v x y c d (sort a.end) n) (sym of_y)
    (sorts_moved w v a b x y c d (sort a.end) (sort b.end) free_a free_b (to_sorts w a b c d a.end b.end fit))))

module _ (w : Wiring) (vs : List Wiring) (are : AreJoined vs w.plans) (bare : LinkedPartsAreBare w vs) (fit : LinksFit w) where
  abbrev joinings : AreJoinings vs w.plans
  joinings = are_joinings vs w.plans are

  abbrev all_stand : AllLinksStand vs
  all_stand = all_links_stand vs w.plans are

  abbrev stand : LinksStand w
  stand = links_stand w fit

  plan_flat : (k : ℕ) (v : Wiring) (a : Place) → slice_get vs k ≡ Some v → a.plan < length v.plans
      → slice_get (all_plans vs) (first_of vs k + a.plan) ≡ slice_get v.plans a.plan
  plan_flat k v a is low = flat_at vs k a.plan v is low

  contact_flat : (k : ℕ) (v : Wiring) (a : Place) → slice_get vs k ≡ Some v → a.plan < length v.plans
      → contact_of (flat w vs) (later (first_of vs k) a) ≡ contact_of v a
  contact_flat k v a is low = ap (λ (o : Option Plan). contact_in o a.end) (plan_flat k v a is low)

  -- inner links
  inner_fits : (k : ℕ) (v : Wiring) (l : Link) → slice_get vs k ≡ Some v → LinkFits v l → LinkFits (flat w vs) (later_link (first_of vs k) l)
  inner_fits k v l is (apart, (c, d, at_one, at_other, ends)) =
      let low_one = in_range v l.one (c, at_one) in
      let low_other = in_range v l.other (d, at_other) in (
        (λ e. apart (omega (arith, e))),
        (
          c,
          d,
          contact_flat k v l.one is low_one ∙ at_one,
          contact_flat k v l.other is low_other ∙ at_other,
          ends_moved v (flat w vs) l.one l.other (later (first_of vs k) l.one) (later (first_of vs k) l.other) c d refl refl
              (λ part free. subst (λ (o : Option Plan). IsUnjoined o l.one.end) (sym (plan_flat k v l.one is low_one)) free)
              (λ part free. subst (λ (o : Option Plan). IsUnjoined o l.other.end) (sym (plan_flat k v l.other is low_other)) free) ends,
        ),
      )

  -- outer links
  bare_free : (v : Wiring) (e : End) → sort e ≡ 0 → IsBare (Some v) e → IsUnjoined (slice_get v.plans (origin v e).plan) (origin v e).end
  bare_free v (PartEnd i h) part bare_e = bare_e.0
  bare_free v (ImportEnd i h) part bare_e = absurd (omega (arith, part))
  bare_free v (ResultEnd h) part bare_e = absurd (omega (arith, part))

  outer_contact : (a : Place) (c : Contact) → contact_of w a ≡ Some c → contact_of (flat w vs) (deeper vs a) ≡ Some c
  outer_contact a c there =
      let (v, is) = wiring_at w vs joinings all_stand stand a (c, there) in
      let at_v = contact_in_wiring w vs joinings all_stand stand a c there v is in
      ap (contact_of (flat w vs)) (deeper_at w vs joinings all_stand stand a v is)
      ∙ (contact_flat a.plan v (origin v a.end) is (in_range v (origin v a.end) (c, at_v)) ∙ at_v)

  outer_sort : (a : Place) (c : Contact) → contact_of w a ≡ Some c → sort (deeper vs a).end ≡ sort a.end
  outer_sort a c there =
      let (v, is) = wiring_at w vs joinings all_stand stand a (c, there) in
      let joins = plan_of vs w.plans a.plan v joinings is in
      let u = joins.wiring in
      let at_u : contact_at joins.plan a.end ≡ Some c = ap (λ (o : Option Plan). contact_in o a.end) (sym joins.is_plan) ∙ there in
      let plain = sym (same_contact u joins.plan joins.plan.joints (fields_of u joins.plan joins.joins) a.end) ∙ at_u in
      ap (λ (x : Place). sort x.end) (deeper_at w vs joinings all_stand stand a u joins.is_wiring) ∙ sort_of u joins.plan.joints a.end c plain

  outer_free : (a : Place) (c : Contact) → contact_of w a ≡ Some c → IsBare (slice_get vs a.plan) a.end → KeepsFree w (flat w vs) a (deeper vs a)
  outer_free a c there bare_a part free =
      let (v, is) = wiring_at w vs joinings all_stand stand a (c, there) in
      let at_v = contact_in_wiring w vs joinings all_stand stand a c there v is in
      let at_a = bare_free v a.end part (subst (λ (o : Option Wiring). IsBare o a.end) is bare_a) in
      subst (λ (x : Place). IsUnjoined (slice_get (all_plans vs) x.plan) x.end) (sym (deeper_at w vs joinings all_stand stand a v is))
      (subst (λ (o : Option Plan). IsUnjoined o (origin v a.end).end) (sym (plan_flat a.plan v (origin v a.end) is (in_range v (origin v a.end) (c, at_v)))) at_a)

  -- two places of the joinings are two in the flat wiring
  deeper_is : (a b : Place) → IsThere w a → IsThere w b → deeper vs a ≡ deeper vs b → a ≡ b
  deeper_is a b (c, there_a) (d, there_b) e =
      let (u, is_u) = wiring_at w vs joinings all_stand stand a (c, there_a) in
      let (v, is_v) = wiring_at w vs joinings all_stand stand b (d, there_b) in
      let low_u = in_range u (origin u a.end) (there_in w vs joinings all_stand stand a (c, there_a) u is_u) in
      let low_v = in_range v (origin v b.end) (there_in w vs joinings all_stand stand b (d, there_b) v is_v) in
      let deep = sym (deeper_at w vs joinings all_stand stand a u is_u) ∙ (e ∙ deeper_at w vs joinings all_stand stand b v is_v) in
      let found = same_place w vs joinings all_stand stand a.plan b.plan u v (origin u a.end) (origin v b.end) is_u is_v low_u low_v deep in
      let joins = plan_of vs w.plans a.plan u joinings is_u in
      let x = joins.wiring in
      let same_u : Some x ≡ Some u = sym joins.is_wiring ∙ is_u in
      let same_v : Some x ≡ Some v = sym joins.is_wiring ∙ (ap (slice_get vs) found.0 ∙ is_v) in
      let to_u : x ≡ u = cc same_u in
      let to_v : x ≡ v = cc same_v in
      let at_a : contact_at joins.plan a.end ≡ Some c = ap (λ (o : Option Plan). contact_in o a.end) (sym joins.is_plan) ∙ there_a in
      let at_b : contact_at joins.plan b.end ≡ Some d =
      ap (λ (o : Option Plan). contact_in o b.end) (sym joins.is_plan) ∙ (ap (λ (n : ℕ). contact_in (slice_get w.plans n) b.end) found.0 ∙ there_b)
      in
      let origins : origin x a.end ≡ origin x b.end = ap (λ (y : Wiring). origin y a.end) to_u ∙ (found.1 ∙ ap (λ (y : Wiring). origin y b.end) (sym to_v)) in
      place_is a b found.0 (stands_alone x joins.plan (fields_of x joins.plan joins.joins) a.end b.end c d at_a at_b origins)

  outer_fits : (l : Link) → Contains w.links l → LinkFits w l → LinkFits (flat w vs) (deeper_link vs l)
  outer_fits l has (apart, (c, d, at_one, at_other, ends)) = (
    plans_differ,
    (
      c,
      d,
      outer_contact l.one c at_one,
      outer_contact l.other d at_other,
      ends_moved w (flat w vs) l.one l.other (deeper vs l.one) (deeper vs l.other) c d (outer_sort l.one c at_one) (outer_sort l.other d at_other)
          (outer_free l.one c at_one (bare l l.one has (inl refl))) (outer_free l.other d at_other (bare l l.other has (inr refl))) ends,
    ),
  )
    where
      plans_differ : (deeper vs l.one).plan ≡ (deeper vs l.other).plan → ⊥
      plans_differ e =
          let (u, is_u) = wiring_at w vs joinings all_stand stand l.one (c, at_one) in
          let (v, is_v) = wiring_at w vs joinings all_stand stand l.other (d, at_other) in
          let low_u = in_range u (origin u l.one.end) (there_in w vs joinings all_stand stand l.one (c, at_one) u is_u) in
          let low_v = in_range v (origin v l.other.end) (there_in w vs joinings all_stand stand l.other (d, at_other) v is_v) in
          let numbers : first_of vs l.one.plan + (origin u l.one.end).plan ≡ first_of vs l.other.plan + (origin v l.other.end).plan =
          ap (λ (x : Place). x.plan) (sym (deeper_at w vs joinings all_stand stand l.one u is_u))
          ∙ (e ∙ ap (λ (x : Place). x.plan) (deeper_at w vs joinings all_stand stand l.other v is_v))
          in
          apart (one_number vs l.one.plan l.other.plan (origin u l.one.end).plan (origin v l.other.end).plan u v is_u is_v low_u low_v numbers).0

  -- a linked place of the joinings stands in no inner link
  bare_apart : (v : Wiring) (e : End) (k : ℕ) (l : Link) → IsPart (origin v e).end → sort (origin v e).end ≡ sort e → IsBare (Some v) e
      → slice_get v.links k ≡ Some l → StandsIn (origin v e) l → ⊥
  bare_apart v (PartEnd i h) k l part sorts bare_e at stands = bare_e.1 k l at stands
  bare_apart v (ImportEnd i h) k l part sorts bare_e at stands = not_part (origin v (ImportEnd i h)).end part (omega (arith, sorts))
    where
      not_part : (f : End) → IsPart f → (sort f ≡ 0 → ⊥) → ⊥
      not_part (PartEnd j g) p other = other refl
      not_part (ImportEnd j g) p other = p
      not_part (ResultEnd g) p other = p
  bare_apart v (ResultEnd h) k l part sorts bare_e at stands = part

  abbrev other_of : (a : Place) (l : Link) → StandsIn a l → Place
  other_of a l (inl e) = l.other
  other_of a l (inr e) = l.one

  not_inner : (a : Place) (c : Contact) (n : ℕ) (v : Wiring) (k : ℕ) (l : Link) → contact_of w a ≡ Some c → IsBare (slice_get vs a.plan) a.end
      → slice_get vs n ≡ Some v → slice_get v.links k ≡ Some l → StandsIn (deeper vs a) (later_link (first_of vs n) l) → ⊥
  not_inner a c n v k l there bare_a is_v at stands = by_place (lands stands)
    where
      found : (u : Wiring) × (slice_get vs a.plan ≡ Some u)
      found = wiring_at w vs joinings all_stand stand a (c, there)

      inner : LinkFits v l
      inner = (fits_of vs w.plans n v are is_v).each k l at

      at_place : (x : Place) (d : Contact) → contact_of v x ≡ Some d → deeper vs a ≡ later (first_of vs n) x → (a.plan ≡ n) × (origin v a.end ≡ x)
      at_place x d at_x e =
          let (u, is_u) = found in
          let low_u = in_range u (origin u a.end) (there_in w vs joinings all_stand stand a (c, there) u is_u) in
          let deep = sym (deeper_at w vs joinings all_stand stand a u is_u) ∙ e in
          let both = same_place w vs joinings all_stand stand a.plan n u v (origin u a.end) x is_u is_v low_u (in_range v x (d, at_x)) deep in
          let wirings : Some u ≡ Some v = sym is_u ∙ (ap (slice_get vs) both.0 ∙ is_v) in
          let same : u ≡ v = cc wirings in
          (both.0, ap (λ (y : Wiring). origin y a.end) (sym same) ∙ both.1)

      lands : StandsIn (deeper vs a) (later_link (first_of vs n) l) → (a.plan ≡ n) × StandsIn (origin v a.end) l
      lands (inl e) = let (apart, (b, d, at_one, at_other, ends)) = inner in let (same, is) = at_place l.one b at_one e in (same, inl is)
      lands (inr e) = let (apart, (b, d, at_one, at_other, ends)) = inner in let (same, is) = at_place l.other d at_other e in (same, inr is)

      by_place : (a.plan ≡ n) × StandsIn (origin v a.end) l → ⊥
      by_place (same, stands_v) =
          let is : slice_get vs a.plan ≡ Some v = ap (slice_get vs) same ∙ is_v in
          let joins = plan_of vs w.plans a.plan v joinings is in
          let both : Some joins.wiring ≡ Some v = sym joins.is_wiring ∙ is in
          let wirings : joins.wiring ≡ v = cc both in
          let joining : IsJoining v joins.plan = subst (λ (x : Wiring). IsJoining x joins.plan) wirings joins.joins in
          let at_a : contact_at joins.plan a.end ≡ Some c = ap (λ (o : Option Plan). contact_in o a.end) (sym joins.is_plan) ∙ there in
          let plain = sym (same_contact v joins.plan joins.plan.joints (fields_of v joins.plan joining) a.end) ∙ at_a in
          let sorts = sort_of v joins.plan.joints a.end c plain in
          let bare_v : IsBare (Some v) a.end = subst (λ (o : Option Wiring). IsBare o a.end) is bare_a in
          elim (at_origin v (fits_of vs w.plans n v are is_v) joins.plan.joints a.end c plain).1 [
            | inl part ↦ bare_apart v a.end k l part sorts bare_v at stands_v
            | inr none ↦ none (other_of (origin v a.end) l stands_v) (l, contains_at v.links k l at, across stands_v)
          ]
        where
          across : (s : StandsIn (origin v a.end) l)
              → ((origin v a.end ≡ l.one) × (other_of (origin v a.end) l s ≡ l.other)) ⊎ ((origin v a.end ≡ l.other) × (other_of (origin v a.end) l s ≡ l.one))
          across (inl e) = inl (e, refl)
          across (inr e) = inr (e, refl)

  -- the links, by number
  abbrev OuterAt : ℕ → Link → Type 0
  OuterAt j m = (n : ℕ) × (l : Link) × (j ≡ length (inner_links 0 vs) + n) × (slice_get w.links n ≡ Some l) × (deeper_link vs l ≡ m)

  flat_link : (j : ℕ) (m : Link) → slice_get (flat w vs).links j ≡ Some m → InnerAt 0 vs j m ⊎ OuterAt j m
  flat_link j m e =
      elim (in_two (inner_links 0 vs) (map (deeper_link vs) w.links) j m e) [
        | inl h ↦ inl (inner_at 0 vs j m h)
        | inr h ↦ inr (let (l, at, same) = mapped_at (deeper_link vs) w.links h.0 m h.2 in (h.0, l, h.1, at, same))
      ]

  inner_same : (j : ℕ) (m : Link) (x : InnerAt 0 vs j m) → later_link (first_of vs x.joining) x.link ≡ m
  inner_same j m x = let zeros : first_of vs x.joining ≡ 0 + first_of vs x.joining = omega arith in ap (λ (n : ℕ). later_link n x.link) zeros ∙ x.same

  each : (j : ℕ) (m : Link) → slice_get (flat w vs).links j ≡ Some m → LinkFits (flat w vs) m
  each j m e =
      elim (flat_link j m e) [
        | inl x ↦
            subst (LinkFits (flat w vs)) (inner_same j m x)
            (inner_fits x.joining x.wiring x.link x.is ((fits_of vs w.plans x.joining x.wiring are x.is).each x.number x.link x.at))
        | inr (n, l, sum, at, same) ↦ subst (LinkFits (flat w vs)) same (outer_fits l (contains_at w.links n l at) (fit.each n l at))
      ]

  -- a place of an inner link
  abbrev InnerPlace : Wiring → Link → ℕ → Place → Type 0
  InnerPlace v l k a = (x : Place) × StandsIn x l × IsThere v x × (a ≡ later (first_of vs k) x)

  inner_place : (k : ℕ) (v : Wiring) (l : Link) (a : Place) → LinkFits v l → StandsIn a (later_link (first_of vs k) l) → InnerPlace v l k a
  inner_place k v l a (apart, (c, d, at_one, at_other, ends)) (inl e) = (l.one, inl refl, (c, at_one), e)
  inner_place k v l a (apart, (c, d, at_one, at_other, ends)) (inr e) = (l.other, inr refl, (d, at_other), e)

  abbrev OuterPlace : Link → Place → Type 0
  OuterPlace l a = (x : Place) × StandsIn x l × IsThere w x × (a ≡ deeper vs x)

  outer_place : (l : Link) (a : Place) → LinkFits w l → StandsIn a (deeper_link vs l) → OuterPlace l a
  outer_place l a (apart, (c, d, at_one, at_other, ends)) (inl e) = (l.one, inl refl, (c, at_one), e)
  outer_place l a (apart, (c, d, at_one, at_other, ends)) (inr e) = (l.other, inr refl, (d, at_other), e)

  two_inner : (i j : ℕ) (l m : Link) (a : Place) → (x : InnerAt 0 vs i l) → (y : InnerAt 0 vs j m) → StandsIn a l → StandsIn a m → i ≡ j
  two_inner i j l m a x y in_l in_m =
      let fits_x = fits_of vs w.plans x.joining x.wiring are x.is in
      let fits_y = fits_of vs w.plans y.joining y.wiring are y.is in
      let (b, b_in, b_there, b_is) =
      inner_place x.joining x.wiring x.link a (fits_x.each x.number x.link x.at) (subst (StandsIn a) (sym (inner_same i l x)) in_l)
      in
      let (c, c_in, c_there, c_is) =
      inner_place y.joining y.wiring y.link a (fits_y.each y.number y.link y.at) (subst (StandsIn a) (sym (inner_same j m y)) in_m)
      in
      let both =
      same_place w vs joinings all_stand stand x.joining y.joining x.wiring y.wiring b c x.is y.is (in_range x.wiring b b_there) (in_range y.wiring c c_there)
      (sym b_is ∙ c_is)
      in
      let wirings : Some x.wiring ≡ Some y.wiring = sym x.is ∙ (ap (slice_get vs) both.0 ∙ y.is) in
      let same : x.wiring ≡ y.wiring = cc wirings in
      let at_x : slice_get y.wiring.links x.number ≡ Some x.link = subst (λ (v : Wiring). slice_get v.links x.number ≡ Some x.link) same x.at in
      let numbers : x.number ≡ y.number = fits_y.once x.number y.number x.link y.link c at_x y.at (subst (λ (z : Place). StandsIn z x.link) both.1 b_in) c_in in
      let before : links_before vs x.joining ≡ links_before vs y.joining = ap (links_before vs) both.0 in
      let sum_x = x.sum in
      let sum_y = y.sum in
      omega (arith, sum_x, sum_y, before, numbers)

  not_two : (i j : ℕ) (l m : Link) (a : Place) → InnerAt 0 vs i l → OuterAt j m → StandsIn a l → StandsIn a m → ⊥
  not_two i j l m a x (n, k, sum, at, same) in_l in_m =
      let has = contains_at w.links n k at in
      let (b, b_in, (c, b_there), b_is) = outer_place k a (fit.each n k at) (subst (StandsIn a) (sym same) in_m) in
      not_inner b c x.joining x.wiring x.number x.link b_there (bare k b has b_in) x.is x.at
      (subst (λ (z : Place). StandsIn z (later_link (first_of vs x.joining) x.link)) b_is (subst (StandsIn a) (sym (inner_same i l x)) in_l))

  two_outer : (i j : ℕ) (l m : Link) (a : Place) → OuterAt i l → OuterAt j m → StandsIn a l → StandsIn a m → i ≡ j
  two_outer i j l m a (n, x, sum_x, at_x, same_x) (o, y, sum_y, at_y, same_y) in_l in_m =
      let (b, b_in, b_there, b_is) = outer_place x a (fit.each n x at_x) (subst (StandsIn a) (sym same_x) in_l) in
      let (c, c_in, c_there, c_is) = outer_place y a (fit.each o y at_y) (subst (StandsIn a) (sym same_y) in_m) in
      let same : b ≡ c = deeper_is b c b_there c_there (sym b_is ∙ c_is) in
      let numbers : n ≡ o = fit.once n o x y c at_x at_y (subst (λ (z : Place). StandsIn z x) same b_in) c_in in
      omega (arith, sum_x, sum_y, numbers)

  once : (i j : ℕ) (l m : Link) (a : Place) → slice_get (flat w vs).links i ≡ Some l → slice_get (flat w vs).links j ≡ Some m → StandsIn a l → StandsIn a m
      → i ≡ j
  once i j l m a at_i at_j in_l in_m = by_sides (flat_link i l at_i) (flat_link j m at_j)
    where
      by_sides : InnerAt 0 vs i l ⊎ OuterAt i l → InnerAt 0 vs j m ⊎ OuterAt j m → i ≡ j
      by_sides (inl x) (inl y) = two_inner i j l m a x y in_l in_m
      by_sides (inl x) (inr y) = absurd (not_two i j l m a x y in_l in_m)
      by_sides (inr x) (inl y) = absurd (not_two j i m l a y x in_m in_l)
      by_sides (inr x) (inr y) = two_outer i j l m a x y in_l in_m

  -- the result is free
  result_bare : (o : Option Wiring) (n : ℕ) → IsBare o (ResultEnd n)
  result_bare None n = tt
  result_bare (Some v) n = tt

  result_there : (o : Option Plan) (n : ℕ) (c : Contact) → slice_get (contacts_of_result o) n ≡ Some c → contact_in o (ResultEnd n) ≡ Some (turned_contact c)
  result_there None n c e = absurd (cc e)
  result_there (Some p) n c e = ap turned_if e

  result_free : (h : ℕ) (c : Contact) → slice_get (contacts_of w.outcome) h ≡ Some c → (j : ℕ) (m : Link) → slice_get (flat w vs).links j ≡ Some m
      → StandsIn (place (flat w vs).giver (ResultEnd ((flat w vs).skipped + h))) m → ⊥
  result_free h c there j m at stands = by_side (flat_link j m at)
    where
      here : Place
      here = place w.giver (ResultEnd (w.skipped + h))

      at_here : contact_of w here ≡ Some (turned_contact c)
      at_here = result_there (slice_get w.plans w.giver) (w.skipped + h) c (fit.left h c there).0

      deep : place (flat w vs).giver (ResultEnd ((flat w vs).skipped + h)) ≡ deeper vs here
      deep = result_in w vs joinings all_stand stand (first_of vs w.giver) w.skipped h (slice_get vs w.giver)

      by_side : InnerAt 0 vs j m ⊎ OuterAt j m → ⊥
      by_side (inl x) =
          not_inner here (turned_contact c) x.joining x.wiring x.number x.link at_here (result_bare (slice_get vs w.giver) (w.skipped + h)) x.is x.at
          (subst (λ (z : Place). StandsIn z (later_link (first_of vs x.joining) x.link)) deep
          (subst (StandsIn (place (flat w vs).giver (ResultEnd ((flat w vs).skipped + h)))) (sym (inner_same j m x)) stands))
      by_side (inr (n, l, sum, at_n, same)) =
          let (b, b_in, b_there, b_is) =
          outer_place l (place (flat w vs).giver (ResultEnd ((flat w vs).skipped + h))) (fit.each n l at_n)
          (subst (StandsIn (place (flat w vs).giver (ResultEnd ((flat w vs).skipped + h)))) (sym same) stands)
          in
          let is : here ≡ b = deeper_is here b (turned_contact c, at_here) b_there (sym deep ∙ b_is) in
          (fit.left h c there).1 n l at_n (subst (λ (z : Place). StandsIn z l) (sym is) b_in)

  rights : (n : ℕ) (p : Plan) → slice_get (all_plans vs) n ≡ Some p → IsRight p
  rights n p e =
      let (k, v, j, is, at) = of_plans vs n p e in (fits_of vs w.plans k v are is).right j p at

pub flat_fits : FlatFits
flat_fits w vs are bare fit =
    record {
      right = rights w vs are bare fit;
      each = each w vs are bare fit;
      once = once w vs are bare fit;
      left = λ h c there. (
        result_flat w vs (are_joinings vs w.plans are) (all_links_stand vs w.plans are) (links_stand w fit) (has_result w fit) h c there,
        result_free w vs are bare fit h c there,
      );
    }

pub joined_is_flat : JoinedIsFlat
joined_is_flat w vs r are bare is =
    record {
      fits = flat_fits w vs are bare is.fits;
      joining = joinings_join w vs r (are_joinings vs w.plans are) (all_links_stand vs w.plans are) (links_stand w is.fits) is.joining;
    }

pub flat_is_joined : FlatIsJoined
flat_is_joined w vs r are fit is =
    record {
      fits = fit;
      joining = flat_joins w vs r (are_joinings vs w.plans are) (all_links_stand vs w.plans are) (links_stand w fit) (has_result w fit) is;
    }
