-- Where ends stand in the flat wiring: where the joining's plan has them, so many plans later.
use Rattle.std.specs.Prelude.{◌≡◌, ℕ, zero, suc, ◌+◌, ◌-◌, ◌<◌, true, false, List, [], ◌∷◌, ◌++◌, ◌⊎◌, length, map, Option, Some, None, Contains, slice_get, nat_lt, option_map}
use Rattle.std.proofs.Common.{refl, sym, ◌∙◌, ap, subst, arith, inl, inr}
use Rattle.std.proofs.lemmas.Bool.Decides.{nat_tests}
use Rattle.std.proofs.lemmas.List.{map-append}
use Rattle.std.proofs.lemmas.Option.{slice_get-map, slice_get_within}
use Rattle.gos_types.proofs.BoolLemmas.{same_tests}
use Rattle.gos_model.specs.Typing.{Imported}
use Rattle.gos_plan.specs.Kinds.{Part, Contact, contacts_of}
use Rattle.gos_plan.specs.Plans.{End, PartEnd, ImportEnd, ResultEnd, Joint, Plan, contact_at, contacts_of_part, contacts_of_import}
use Rattle.gos_plan.specs.Joining.{Place, place, Link, Wiring, is_joined, LeftImport, left_in, left_among, all_left, left_place, part_place, origin, all_parts, all_weight, contacts_of_result, IsJoining}
use Rattle.gos_plan.proofs.WiringLemmas.{place_is}
use Rattle.gos_realises.specs.realises.Links.{contact_of, contact_in}
use Rattle.gos_realises.proofs.joined.OriginLemmas.{before, part_at, import_of, left_index, left_at, import_at, sort, sort_of, whole}
use Rattle.gos_joining.specs.unions.Unions.{IsThere, LinksStand, HasResult, HasFieldsOf}
use Rattle.gos_joining.specs.unions.Flat.{all_plans, first_of, later, later_link, origin_if, deeper, deeper_link, giver_if, skipped_if, flat, AreJoinings, AllLinksStand}
use Rattle.gos_joining.proofs.unions.PlaceLemmas.{fields_of, stands_at, same_contact}
use Rattle.gos_joining.proofs.unions.NumberLemmas.{wiring_of, plan_of, stands_of, flat_at, one_number, before_flat}
use Rattle.gos_joining.proofs.unions.LinkLemmas.{in_range, flat_inner, flat_outer, OfWiring, OfOuter, of_flat, IsAt, JoinedBy, joined_by, by_joined}
use Rattle.gos_joining.proofs.unions.LeftLemmas.{Lowers, lowered_all, left_two}

-- part j of plan k, by its number among all
pub place_of_part : (n : ℕ) (qs : List Plan) (k j h : ℕ) (q : Plan) → slice_get qs k ≡ Some q → j < length q.parts
    → part_place n qs (before qs k + j) h ≡ place (n + k) (PartEnd j h)
place_of_part n [] k j h q is small = absurd (cc is)
place_of_part n (x ∷ qs) zero j h q is small =
    let same : x ≡ q = cc is in
    let low : j < length x.parts = subst (λ (y : Plan). j < length y.parts) (sym same) small in
    let test : nat_lt (0 + j) (length x.parts) ≡ true = grind (arith, nat_tests, low) in
    let sum : n ≡ n + 0 = omega arith in
    let zeros : 0 + j ≡ j = omega arith in
    rw test (λ i. place (sum i) (PartEnd (zeros i) h))
place_of_part n (x ∷ qs) (suc k) j h q is small =
    let test : nat_lt (length x.parts + before qs k + j) (length x.parts) ≡ false = grind (arith, nat_tests) in
    let less : (length x.parts + before qs k + j) - length x.parts ≡ before qs k + j = omega arith in
    let sum : suc n + k ≡ n + suc k = omega arith in
    rw test (ap (λ (i : ℕ). part_place (suc n) qs i h) less ∙ (place_of_part (suc n) qs k j h q is small ∙ ap (λ (m : ℕ). place m (PartEnd j h)) sum))

part_in : (ks : List Part) (i h : ℕ) (c : Contact) → slice_get (contacts_of_part (slice_get ks i)) h ≡ Some c → i < length ks
part_in ks i h c e = by_part (slice_get ks i) refl e
  where
    by_part : (o : Option Part) → slice_get ks i ≡ o → slice_get (contacts_of_part o) h ≡ Some c → i < length ks
    by_part None none there = absurd (cc there)
    by_part (Some k) is there = slice_get_within ks i k is

import_in : (xs : List Imported) (i h : ℕ) (c : Contact) → slice_get (contacts_of_import (slice_get xs i)) h ≡ Some c → (x : Imported) × (slice_get xs i ≡ Some x)
import_in xs i h c e = by_import (slice_get xs i) refl e
  where
    by_import : (o : Option Imported) → slice_get xs i ≡ o → slice_get (contacts_of_import o) h ≡ Some c → (x : Imported) × (slice_get xs i ≡ Some x)
    by_import None none there = absurd (cc there)
    by_import (Some x) is there = (x, is)

map_some : {X Y : Type 0} (f : X → Y) (xs : List X) (i : ℕ) (y : Y) → slice_get (map f xs) i ≡ Some y → (x : X) × (slice_get xs i ≡ Some x)
map_some f [] i y e = absurd (cc e)
map_some f (x ∷ xs) zero y e = (x, refl)
map_some f (x ∷ xs) (suc i) y e = map_some f xs i y e

-- an import that stays, in the flat wiring
abbrev pub lower : Option LeftImport → ℕ → Imported → LeftImport
lower None n x = record { plan = n; number = 0; import = x }
lower (Some m) n x = record { plan = n + m.plan; number = m.number; import = x }

lower_import : (o : Option LeftImport) (n : ℕ) (x : Imported) → (lower o n x).import ≡ x
lower_import None n x = refl
lower_import (Some m) n x = refl

abbrev pub left_of : Option Wiring → ℕ → Option LeftImport
left_of None t = None
left_of (Some v) t = slice_get (all_left v) t

abbrev pub deep_left : List Wiring → LeftImport → LeftImport
deep_left vs l = lower (left_of (slice_get vs l.plan) l.number) (first_of vs l.plan) l.import

-- parts and weights of all
parts_two : (ps qs : List Plan) → all_parts (ps ++ qs) ≡ all_parts ps ++ all_parts qs
parts_two [] qs = refl
parts_two (p ∷ ps) qs = ap (λ (ks : List Part). p.parts ++ ks) (parts_two ps qs) ∙ twice p.parts (all_parts ps) (all_parts qs)
  where
    twice : (xs ys zs : List Part) → xs ++ (ys ++ zs) ≡ (xs ++ ys) ++ zs
    twice [] ys zs = refl
    twice (x ∷ xs) ys zs = ap (λ (ks : List Part). x ∷ ks) (twice xs ys zs)

weight_two : (ps qs : List Plan) → all_weight (ps ++ qs) ≡ all_weight ps + all_weight qs
weight_two [] qs = omega arith
weight_two (p ∷ ps) qs = let rest = weight_two ps qs in omega (arith, rest)

parts_all : (vs : List Wiring) (ps : List Plan) → AreJoinings vs ps → all_parts (all_plans vs) ≡ all_parts ps
parts_all [] [] are = refl
parts_all [] (p ∷ ps) are = absurd are
parts_all (v ∷ vs) [] are = absurd are
parts_all (v ∷ vs) (p ∷ ps) are = parts_two v.plans (all_plans vs) ∙ ((λ i. sym are.0.parts i ++ parts_all vs ps are.1 i))

weight_all : (vs : List Wiring) (ps : List Plan) → AreJoinings vs ps → all_weight (all_plans vs) ≡ all_weight ps
weight_all [] [] are = refl
weight_all [] (p ∷ ps) are = absurd are
weight_all (v ∷ vs) [] are = absurd are
weight_all (v ∷ vs) (p ∷ ps) are =
    let first = weight_two v.plans (all_plans vs) in
    let here = are.0.weight in
    let rest = weight_all vs ps are.1 in
    omega (arith, first, here, rest)

module _ (w : Wiring) (vs : List Wiring) (are : AreJoinings vs w.plans) (all_stand : AllLinksStand vs) (stand : LinksStand w) where
  -- parts
  pub part_deep : (js : List Joint) (i h : ℕ) (c : Contact) → contact_at (whole w js) (PartEnd i h) ≡ Some c
      → origin (flat w vs) (PartEnd i h) ≡ deeper vs (origin w (PartEnd i h))
  part_deep js i h c e =
      let outer = part_at 0 w.plans i h c e in
      let k = outer.plan in
      let zero_k : 0 + k ≡ k = omega arith in
      let joins = wiring_of vs w.plans k outer.of are outer.is in
      let v = joins.wiring in
      let same : joins.plan ≡ outer.of = (let both : Some joins.plan ≡ Some outer.of = sym joins.is_plan ∙ outer.is in cc both) in
      let parts : outer.of.parts ≡ all_parts v.plans = ap (λ (x : Plan). x.parts) (sym same) ∙ joins.joins.parts in
      let has : slice_get (contacts_of_part (slice_get (all_parts v.plans) outer.part)) h ≡ Some c =
      ap (λ (ks : List Part). slice_get (contacts_of_part (slice_get ks outer.part)) h) (sym parts) ∙ outer.has
      in
      let inner = part_at 0 v.plans outer.part h c has in
      let j = inner.plan in
      let zero_j : 0 + j ≡ j = omega arith in
      let low : j < length v.plans = slice_get_within v.plans j inner.of inner.is in
      let at_flat : slice_get (all_plans vs) (first_of vs k + j) ≡ Some inner.of = flat_at vs k j v joins.is_wiring low ∙ inner.is in
      let sums = before_flat vs w.plans k j v are joins.is_wiring (omega (arith, low)) in
      let outer_number = outer.number in
      let inner_number = inner.number in
      let number : i ≡ before (all_plans vs) (first_of vs k + j) + inner.part = omega (arith, outer_number, inner_number, sums) in
      let small = part_in inner.of.parts inner.part h c inner.has in
      let zero_flat : 0 + (first_of vs k + j) ≡ first_of vs k + j = omega arith in
      let there : origin (flat w vs) (PartEnd i h) ≡ place (first_of vs k + j) (PartEnd inner.part h) =
      ap (λ (n : ℕ). part_place 0 (all_plans vs) n h) number
      ∙ (place_of_part 0 (all_plans vs) (first_of vs k + j) inner.part h inner.of at_flat small ∙ ap (λ (n : ℕ). place n (PartEnd inner.part h)) zero_flat)
      in
      let at_outer : origin w (PartEnd i h) ≡ place k (PartEnd outer.part h) = outer.stands ∙ ap (λ (n : ℕ). place n (PartEnd outer.part h)) zero_k in
      let at_inner : origin v (PartEnd outer.part h) ≡ place j (PartEnd inner.part h) = inner.stands ∙ ap (λ (n : ℕ). place n (PartEnd inner.part h)) zero_j in
      there
      ∙ sym (ap (deeper vs) at_outer ∙ (ap (λ (o : Option Wiring). later (first_of vs k) (origin_if o (PartEnd outer.part h))) joins.is_wiring ∙ ap (later (first_of vs k)) at_inner))

  -- where an end of joining k that there is stands
  pub contact_in_wiring : (a : Place) (c : Contact) → contact_of w a ≡ Some c → (v : Wiring) → slice_get vs a.plan ≡ Some v → contact_of v (origin v a.end) ≡ Some c
  contact_in_wiring a c there v is =
      let joins = plan_of vs w.plans a.plan v are is in
      let same : joins.wiring ≡ v = (let both : Some joins.wiring ≡ Some v = sym joins.is_wiring ∙ is in cc both) in
      let here : contact_at joins.plan a.end ≡ Some c = ap (λ (o : Option Plan). contact_in o a.end) (sym joins.is_plan) ∙ there in
      subst (λ (x : Wiring). contact_of x (origin x a.end) ≡ Some c) same (stands_at joins.wiring joins.plan (fields_of joins.wiring joins.plan joins.joins) a.end c here)

  pub there_in : (a : Place) → IsThere w a → (v : Wiring) → slice_get vs a.plan ≡ Some v → IsThere v (origin v a.end)
  there_in a (c, there) v is = (c, contact_in_wiring a c there v is)

  -- and there is such a wiring
  pub wiring_at : (a : Place) → IsThere w a → (v : Wiring) × (slice_get vs a.plan ≡ Some v)
  wiring_at a (c, there) = by_plan (slice_get w.plans a.plan) refl there
    where
      by_plan : (o : Option Plan) → slice_get w.plans a.plan ≡ o → contact_in o a.end ≡ Some c → (v : Wiring) × (slice_get vs a.plan ≡ Some v)
      by_plan None none e = absurd (cc e)
      by_plan (Some p) is e = let joins = wiring_of vs w.plans a.plan p are is in (joins.wiring, joins.is_wiring)

  pub deeper_at : (a : Place) (v : Wiring) → slice_get vs a.plan ≡ Some v → deeper vs a ≡ later (first_of vs a.plan) (origin v a.end)
  deeper_at a v is = ap (λ (o : Option Wiring). later (first_of vs a.plan) (origin_if o a.end)) is

  -- a place of wiring k and one of wiring l that are one in the flat wiring are one
  pub same_place : (k l : ℕ) (u v : Wiring) (a b : Place) → slice_get vs k ≡ Some u → slice_get vs l ≡ Some v → a.plan < length u.plans → b.plan < length v.plans
      → later (first_of vs k) a ≡ later (first_of vs l) b → (k ≡ l) × (a ≡ b)
  same_place k l u v a b is_u is_v low_a low_b e =
      let sums : first_of vs k + a.plan ≡ first_of vs l + b.plan = ap (λ (x : Place). x.plan) e in
      let both = one_number vs k l a.plan b.plan u v is_u is_v low_a low_b sums in
      (both.0, place_is a b both.1 (ap (λ (x : Place). x.end) e))

  -- imports
  abbrev flats : List Link
  flats = (flat w vs).links

  deep_import : (k t h : ℕ) (v : Wiring) (l : LeftImport) → slice_get vs k ≡ Some v → slice_get (all_left v) t ≡ Some l
      → deeper vs (place k (ImportEnd t h)) ≡ place (first_of vs k + l.plan) (ImportEnd l.number h)
  deep_import k t h v l is e =
      ap (λ (o : Option Wiring). later (first_of vs k) (origin_if o (ImportEnd t h))) is ∙ ap (λ (o : Option LeftImport). later (first_of vs k) (left_place o h)) e

  later_ends : (m n i : ℕ) (l : Link) → IsAt n i l.one ⊎ IsAt n i l.other → IsAt (m + n) i (later m l.one) ⊎ IsAt (m + n) i (later m l.other)
  later_ends m n i l (inl (h, e)) = inl (h, ap (later m) e)
  later_ends m n i l (inr (h, e)) = inr (h, ap (later m) e)

  kept : (k : ℕ) (v : Wiring) → slice_get vs k ≡ Some v → (n i : ℕ) → is_joined v.links n i ≡ true → is_joined flats (first_of vs k + n) i ≡ true
  kept k v is n i t =
      let (l, has, ends) = joined_by v.links n i t in
      by_joined flats (first_of vs k + n) i (later_link (first_of vs k) l, flat_inner w vs k v l is has, later_ends (first_of vs k) n i l ends)

  -- one import that stays in joining k, number t there
  module _ (k t : ℕ) (v : Wiring) (l : LeftImport) (is : slice_get vs k ≡ Some v) (at_t : slice_get (all_left v) t ≡ Some l) where
    low : l.plan < length v.plans
    low = let there = left_at v.links 0 v.plans t l at_t in
        let within = slice_get_within v.plans there.plan there.of there.is in
        let plan = there.plan_is in omega (arith, within, plan)

    inner_end : (m : ℕ) (u : Wiring) (a : Place) → slice_get vs m ≡ Some u → IsThere u a → IsAt (first_of vs k + l.plan) l.number (later (first_of vs m) a)
        → (u ≡ v) × IsAt l.plan l.number a
    inner_end m u a is_u there (h, e) =
        let (same, at) = same_place m k u v a (place l.plan (ImportEnd l.number h)) is_u is (in_range u a there) low e in
        let both : Some u ≡ Some v = sym is_u ∙ (ap (slice_get vs) same ∙ is) in
        (cc both, (h, at))

    import_only : (e : End) (c : Contact) (p : Plan) (h : ℕ) → HasFieldsOf v p → contact_at p e ≡ Some c → origin v e ≡ place l.plan (ImportEnd l.number h) → e ≡ ImportEnd t h
    import_only (PartEnd i g) c p h has at_e e =
        let sorts = sort_of v p.joints (PartEnd i g) c (sym (same_contact v p p.joints has (PartEnd i g)) ∙ at_e) in
        let no : 1 ≡ 0 = sym (ap (λ (x : Place). sort x.end) e) ∙ sorts in
        absurd (omega (arith, no))
    import_only (ResultEnd g) c p h has at_e e =
        let no : 2 ≡ 1 = ap (λ (x : Place). sort x.end) e in absurd (omega (arith, no))
    import_only (ImportEnd i g) c p h has at_e e =
        let x = import_at v i g c (sym (same_contact v p p.joints has (ImportEnd i g)) ∙ at_e) in
        let there = left_at v.links 0 v.plans t l at_t in
        let same : place x.left.plan (ImportEnd x.left.number g) ≡ place l.plan (ImportEnd l.number h) = sym x.stands ∙ e in
        let left_plans : x.left.plan ≡ l.plan = ap (λ (z : Place). z.plan) same in
        let of_x = x.at.plan_is in
        let of_l = there.plan_is in
        let plans : x.at.plan ≡ there.plan = omega (arith, left_plans, of_x, of_l) in
        let ends : ImportEnd x.left.number g ≡ ImportEnd l.number h = ap (λ (z : Place). z.end) same in
        let imports : x.left.number ≡ l.number = cc ends in
        let shakes : g ≡ h = cc ends in
        let numbers : i ≡ t = x.at.place_of ∙ ((λ j. left_index v.links 0 v.plans (plans j) (imports j)) ∙ sym there.place_of) in
        λ j. ImportEnd (numbers j) (shakes j)

    outer_end : (a : Place) → IsThere w a → IsAt (first_of vs k + l.plan) l.number (deeper vs a) → IsAt k t a
    outer_end a there (h, e) =
        let (u, is_u) = wiring_at a there in
        let at_u = there_in a there u is_u in
        let deep : later (first_of vs a.plan) (origin u a.end) ≡ later (first_of vs k) (place l.plan (ImportEnd l.number h)) = sym (deeper_at a u is_u) ∙ e in
        let (same, at) = same_place a.plan k u v (origin u a.end) (place l.plan (ImportEnd l.number h)) is_u is (in_range u (origin u a.end) at_u) low deep in
        let both : Some u ≡ Some v = sym is_u ∙ (ap (slice_get vs) same ∙ is) in
        let wirings : u ≡ v = cc both in
        let joins = plan_of vs w.plans k v are is in
        let same_wiring : joins.wiring ≡ v = (let also : Some joins.wiring ≡ Some v = sym joins.is_wiring ∙ is in cc also) in
        let has : HasFieldsOf v joins.plan = subst (λ (x : Wiring). HasFieldsOf x joins.plan) same_wiring (fields_of joins.wiring joins.plan joins.joins) in
        let here : contact_at joins.plan a.end ≡ Some there.0 =
        ap (λ (o : Option Plan). contact_in o a.end) (sym joins.is_plan) ∙ (ap (λ (n : ℕ). contact_in (slice_get w.plans n) a.end) (sym same) ∙ there.1)
        in
        let end = import_only a.end there.0 joins.plan h has here (ap (λ (x : Wiring). origin x a.end) (sym wirings) ∙ at) in
        (h, place_is a (place k (ImportEnd t h)) same end)

    deep_end : (a : Place) → IsAt k t a → IsAt (first_of vs k + l.plan) l.number (deeper vs a)
    deep_end a (h, e) = (h, ap (deeper vs) e ∙ deep_import k t h v l is at_t)

    stays_joined : is_joined w.links k t ≡ true → is_joined flats (first_of vs k + l.plan) l.number ≡ true
    stays_joined test =
        let (m, has, ends) = joined_by w.links k t test in
        by_joined flats (first_of vs k + l.plan) l.number (
          deeper_link vs m,
          flat_outer w vs m has,
          elim ends [ inl x ↦ inl (deep_end m.one x) | inr x ↦ inr (deep_end m.other x) ],
        )

    not_within : (m : Link) → OfWiring vs m → IsAt (first_of vs k + l.plan) l.number m.one ⊎ IsAt (first_of vs k + l.plan) l.number m.other → ⊥
    not_within m (n, u, x, is_u, has, same) ends =
        let stands = stands_of vs n u all_stand is_u x has in
        let there = left_at v.links 0 v.plans t l at_t in
        let clash : is_joined v.links l.plan l.number ≡ true → ⊥ = λ yes. (let no : true ≡ false = sym yes ∙ there.stays in cc no) in
        elim ends [
          | inl at ↦ clash (by_inner u x has (inner_one u x is_u stands at same))
          | inr at ↦ clash (by_inner u x has (inner_other u x is_u stands at same))
        ]
      where
        by_inner : (u : Wiring) (x : Link) → Contains u.links x → (u ≡ v) × (IsAt l.plan l.number x.one ⊎ IsAt l.plan l.number x.other)
            → is_joined v.links l.plan l.number ≡ true
        by_inner u x has (same, ends) = subst (λ (y : Wiring). is_joined y.links l.plan l.number ≡ true) same (by_joined u.links l.plan l.number (x, has, ends))

        inner_one : (u : Wiring) (x : Link) → slice_get vs n ≡ Some u → IsThere u x.one × IsThere u x.other → IsAt (first_of vs k + l.plan) l.number m.one
            → later_link (first_of vs n) x ≡ m → (u ≡ v) × (IsAt l.plan l.number x.one ⊎ IsAt l.plan l.number x.other)
        inner_one u x is_u stands at same =
            let found = inner_end n u x.one is_u stands.0 (subst (λ (y : Link). IsAt (first_of vs k + l.plan) l.number y.one) (sym same) at) in
            (found.0, inl found.1)

        inner_other : (u : Wiring) (x : Link) → slice_get vs n ≡ Some u → IsThere u x.one × IsThere u x.other → IsAt (first_of vs k + l.plan) l.number m.other
            → later_link (first_of vs n) x ≡ m → (u ≡ v) × (IsAt l.plan l.number x.one ⊎ IsAt l.plan l.number x.other)
        inner_other u x is_u stands at same =
            let found = inner_end n u x.other is_u stands.1 (subst (λ (y : Link). IsAt (first_of vs k + l.plan) l.number y.other) (sym same) at) in
            (found.0, inr found.1)

    by_outer : (m : Link) → OfOuter w vs m → IsAt (first_of vs k + l.plan) l.number m.one ⊎ IsAt (first_of vs k + l.plan) l.number m.other → JoinedBy w.links k t
    by_outer m (x, has, same) (inl at) =
        (x, has, inl (outer_end x.one (stand x has).0 (subst (λ (y : Link). IsAt (first_of vs k + l.plan) l.number y.one) (sym same) at)))
    by_outer m (x, has, same) (inr at) =
        (x, has, inr (outer_end x.other (stand x has).1 (subst (λ (y : Link). IsAt (first_of vs k + l.plan) l.number y.other) (sym same) at)))

    was_joined : is_joined flats (first_of vs k + l.plan) l.number ≡ true → is_joined w.links k t ≡ true
    was_joined test =
        let (m, has, ends) = joined_by flats (first_of vs k + l.plan) l.number test in
        elim (of_flat w vs m has) [
          | inl of_wiring ↦ absurd (not_within m of_wiring ends)
          | inr of_outer ↦ by_joined w.links k t (by_outer m of_outer ends)
        ]

    same_joined : is_joined flats (first_of vs k + l.plan) l.number ≡ is_joined w.links k t
    same_joined =
        same_tests (is_joined flats (first_of vs k + l.plan) l.number) (is_joined w.links k t) was_joined stays_joined

    lowered_one : record { plan = first_of vs k + l.plan; number = l.number; import = l.import } ≡ deep_left vs (record { plan = k; number = t; import = l.import })
    lowered_one =
        sym (ap (λ (o : Option Wiring). lower (left_of o t) (first_of vs k) l.import) is ∙ ap (λ (o : Option LeftImport). lower o (first_of vs k) l.import) at_t)

  lowers : (k : ℕ) (v : Wiring) → slice_get vs k ≡ Some v → Lowers flats v.links w.links (first_of vs k) k (all_left v) (deep_left vs)
  lowers k v is = record { kept = kept k v is; same = λ t l e. same_joined k t v l is e; lowered = λ t l e. lowered_one k t v l is e }

  lowered_head : (k n : ℕ) (v : Wiring) (p : Plan) → IsJoining v p → slice_get vs k ≡ Some v → first_of vs k ≡ n
      → left_among flats n v.plans ≡ map (deep_left vs) (left_in w.links k 0 p.imports)
  lowered_head k n v p joining is first =
      ap (λ (m : ℕ). left_among flats m v.plans) (sym first)
      ∙ (lowered_all flats v.links w.links (first_of vs k) k (all_left v) (deep_left vs) (lowers k v is) v.plans refl
      ∙ ap (λ (xs : List Imported). map (deep_left vs) (left_in w.links k 0 xs)) (sym joining.imports))

  lowered_from : (k n : ℕ) (us : List Wiring) (ps : List Plan) → AreJoinings us ps → ((m : ℕ) → slice_get vs (k + m) ≡ slice_get us m)
      → ((m : ℕ) → first_of vs (k + m) ≡ n + first_of us m)
      → left_among flats n (all_plans us) ≡ map (deep_left vs) (left_among w.links k ps)
  lowered_from k n [] [] joinings same firsts = refl
  lowered_from k n [] (p ∷ ps) joinings same firsts = absurd joinings
  lowered_from k n (v ∷ us) [] joinings same firsts = absurd joinings
  lowered_from k n (v ∷ us) (p ∷ ps) joinings same firsts =
      let here : k ≡ k + 0 = omega arith in
      let zeros : n + 0 ≡ n = omega arith in
      let is : slice_get vs k ≡ Some v = ap (slice_get vs) here ∙ same 0 in
      let first : first_of vs k ≡ n = ap (first_of vs) here ∙ (firsts 0 ∙ zeros) in
      let tail =
      lowered_from (suc k) (n + length v.plans) us ps joinings.1
      (λ m. (let e : suc k + m ≡ k + suc m = omega arith in ap (slice_get vs) e ∙ same (suc m)))
      (λ m. (let e : suc k + m ≡ k + suc m = omega arith in
      let sum : n + (length v.plans + first_of us m) ≡ n + length v.plans + first_of us m = omega arith in
      ap (first_of vs) e ∙ (firsts (suc m) ∙ sum)))
      in
      left_two flats n v.plans (all_plans us)
      ∙ ((λ i. lowered_head k n v p joinings.0 is first i ++ tail i) ∙ sym (map-append (deep_left vs) (left_in w.links k 0 p.imports) (left_among w.links (suc k) ps)))

  pub left_flat : all_left (flat w vs) ≡ map (deep_left vs) (all_left w)
  left_flat =
      lowered_from 0 0 vs w.plans are (λ m. (let e : 0 + m ≡ m = omega arith in ap (slice_get vs) e))
      (λ m. (let e : 0 + m ≡ m = omega arith in let sum : first_of vs m ≡ 0 + first_of vs m = omega arith in ap (first_of vs) e ∙ sum))

  pub import_deep : (js : List Joint) (i h : ℕ) (c : Contact) → contact_at (whole w js) (ImportEnd i h) ≡ Some c
      → origin (flat w vs) (ImportEnd i h) ≡ deeper vs (origin w (ImportEnd i h))
  import_deep js i h c e =
      let (x, among) = import_in (map import_of (all_left w)) i h c e in
      let (l, at_i) = map_some import_of (all_left w) i x among in
      let there = left_at w.links 0 w.plans i l at_i in
      let plan : there.plan ≡ l.plan = (let sum = there.plan_is in omega (arith, sum)) in
      let joins = wiring_of vs w.plans there.plan there.of are there.is in
      let v = joins.wiring in
      let same : joins.plan ≡ there.of = (let both : Some joins.plan ≡ Some there.of = sym joins.is_plan ∙ there.is in cc both) in
      let imports : there.of.imports ≡ map import_of (all_left v) = ap (λ (p : Plan). p.imports) (sym same) ∙ joins.joins.imports in
      let (m, at_m) = map_some import_of (all_left v) l.number l.import (ap (λ (xs : List Imported). slice_get xs l.number) (sym imports) ∙ there.has) in
      let is : slice_get vs l.plan ≡ Some v = ap (slice_get vs) (sym plan) ∙ joins.is_wiring in
      let deep : deep_left vs l ≡ record { plan = first_of vs l.plan + m.plan; number = m.number; import = l.import } =
      ap (λ (o : Option Wiring). lower (left_of o l.number) (first_of vs l.plan) l.import) is ∙ ap (λ (o : Option LeftImport). lower o (first_of vs l.plan) l.import) at_m
      in
      let in_flat : slice_get (all_left (flat w vs)) i ≡ Some (deep_left vs l) =
      ap (λ (ls : List LeftImport). slice_get ls i) left_flat ∙ (slice_get-map (deep_left vs) (all_left w) i ∙ ap (option_map (deep_left vs)) at_i)
      in
      ap (λ (o : Option LeftImport). left_place o h) in_flat
      ∙ (ap (λ (x : LeftImport). left_place (Some x) h) deep
      ∙ sym (ap (λ (o : Option LeftImport). deeper vs (left_place o h)) at_i ∙ deep_import l.plan l.number h v m is at_m))

  -- the result
  pub result_in : (n s h : ℕ) (o : Option Wiring) → place (n + giver_if o) (ResultEnd (skipped_if o + s + h)) ≡ later n (origin_if o (ResultEnd (s + h)))
  result_in n s h None = let sum : 0 + s + h ≡ s + h = omega arith in ap (λ (m : ℕ). place (n + 0) (ResultEnd m)) sum
  result_in n s h (Some v) =
      let sum : v.skipped + s + h ≡ v.skipped + (s + h) = omega arith in ap (λ (m : ℕ). place (n + v.giver) (ResultEnd m)) sum

  pub origin_deep : (r : Plan) → HasFieldsOf w r → (e : End) (c : Contact) → contact_at r e ≡ Some c → origin (flat w vs) e ≡ deeper vs (origin w e)
  origin_deep r has (PartEnd i h) c e = part_deep r.joints i h c (sym (same_contact w r r.joints has (PartEnd i h)) ∙ e)
  origin_deep r has (ImportEnd i h) c e = import_deep r.joints i h c (sym (same_contact w r r.joints has (ImportEnd i h)) ∙ e)
  origin_deep r has (ResultEnd h) c e = result_in (first_of vs w.giver) w.skipped h (slice_get vs w.giver)

  -- fields
  same_imports : (ls : List LeftImport) → map import_of (map (deep_left vs) ls) ≡ map import_of ls
  same_imports [] = refl
  same_imports (l ∷ ls) = λ i. lower_import (left_of (slice_get vs l.plan) l.number) (first_of vs l.plan) l.import i ∷ same_imports ls i

  imports_flat : map import_of (all_left (flat w vs)) ≡ map import_of (all_left w)
  imports_flat = ap (map import_of) left_flat ∙ same_imports (all_left w)

  pub result_flat : HasResult w → HasResult (flat w vs)
  result_flat results h c e = by_plan (slice_get w.plans w.giver) refl (results h c e)
    where
      by_plan : (o : Option Plan) → slice_get w.plans w.giver ≡ o → slice_get (contacts_of_result o) (w.skipped + h) ≡ Some c
          → slice_get (contacts_of_result (slice_get (flat w vs).plans (flat w vs).giver)) ((flat w vs).skipped + h) ≡ Some c
      by_plan None none there = absurd (cc there)
      by_plan (Some p) is there =
          let joins = wiring_of vs w.plans w.giver p are is in
          let v = joins.wiring in
          let same : joins.plan ≡ p = (let both : Some joins.plan ≡ Some p = sym joins.is_plan ∙ is in cc both) in
          let outcome : p.outcome ≡ v.outcome = ap (λ (x : Plan). x.outcome) (sym same) ∙ joins.joins.outcome in
          let of_v : slice_get (contacts_of_result (slice_get v.plans v.giver)) (v.skipped + (w.skipped + h)) ≡ Some c =
          joins.joins.result (w.skipped + h) c (ap (λ t. slice_get (contacts_of t) (w.skipped + h)) (sym outcome) ∙ there)
          in
          let sum : v.skipped + w.skipped + h ≡ v.skipped + (w.skipped + h) = omega arith in
          let giver : slice_get (all_plans vs) (first_of vs w.giver + v.giver) ≡ slice_get v.plans v.giver =
          flat_at vs w.giver v.giver v joins.is_wiring (giver_in v (v.skipped + (w.skipped + h)) of_v)
          in
          ap
          (λ (o : Option Wiring). slice_get (contacts_of_result (slice_get (all_plans vs) (first_of vs w.giver + giver_if o))) (skipped_if o + w.skipped + h))
          joins.is_wiring
          ∙ ((λ i. slice_get (contacts_of_result (giver i)) (sum i)) ∙ of_v)
        where
          giver_in : (v : Wiring) (n : ℕ) → slice_get (contacts_of_result (slice_get v.plans v.giver)) n ≡ Some c → v.giver < length v.plans
          giver_in v n has = by_giver (slice_get v.plans v.giver) refl has
            where
              by_giver : (o : Option Plan) → slice_get v.plans v.giver ≡ o → slice_get (contacts_of_result o) n ≡ Some c → v.giver < length v.plans
              by_giver None none there = absurd (cc there)
              by_giver (Some q) is_q there = slice_get_within v.plans v.giver q is_q

  pub fields_flat : (r : Plan) → HasFieldsOf w r → HasFieldsOf (flat w vs) r
  fields_flat r has =
      record {
        parts = has.parts ∙ sym (parts_all vs w.plans are);
        imports = has.imports ∙ sym imports_flat;
        outcome = has.outcome;
        weight = has.weight ∙ sym (weight_all vs w.plans are);
        result = result_flat has.result;
      }

  pub fields_back : (r : Plan) → HasResult w → HasFieldsOf (flat w vs) r → HasFieldsOf w r
  fields_back r results has =
      record {
        parts = has.parts ∙ parts_all vs w.plans are;
        imports = has.imports ∙ imports_flat;
        outcome = has.outcome;
        weight = has.weight ∙ weight_all vs w.plans are;
        result = results;
      }
