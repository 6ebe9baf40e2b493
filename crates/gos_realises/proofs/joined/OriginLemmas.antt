-- Where the ends of a joining stand: each has its handshake there, is the end of a chain, and stands alone.
use Rattle.std.specs.Prelude.{◌≡◌, ℕ, zero, suc, ◌+◌, ◌-◌, ◌<◌, ◌≤◌, Bool, true, false, List, [], ◌∷◌, ◌++◌, length, map, Option, Some, None, slice_get, nat_lt, if◌then◌else◌, option_map}
use Rattle.std.proofs.Common.{refl, sym, ◌∙◌, ap, subst, arith, inl, inr}
use Rattle.std.proofs.lemmas.Option.{slice_get-map}
use Rattle.gos_types.proofs.ListLemmas.{same_in_front}
use Rattle.gos_model.specs.Typing.{Imported}
use Rattle.gos_plan.specs.Kinds.{Part, Contact, contacts_of}
use Rattle.gos_plan.specs.Plans.{End, PartEnd, ImportEnd, ResultEnd, Joint, Plan, contact_at, contacts_of_part, contacts_of_import, turned_if}
use Rattle.gos_plan.specs.Joining.{Place, place, Link, Wiring, all_parts, all_weight, is_at_import, is_joined, LeftImport, left_in, left_among, all_left, part_place, left_place, origin, contacts_of_result}
use Rattle.gos_realises.specs.realises.Links.{contact_of, contact_in, StandsIn, LinksFit}
use Rattle.gos_realises.proofs.realises.PlaceLemmas.{place_of}
use Rattle.gos_realises.proofs.joined.StepLemmas.{IsOutside, stands_link}

-- the joining, with these joints
abbrev pub whole : Wiring → List Joint → Plan
whole w js =
    record {
      weight = all_weight w.plans;
      imports = map (λ l. l.import) (all_left w);
      outcome = w.outcome;
      parts = all_parts w.plans;
      joints = js;
    }

pub behind_at : {X : Type 0} (xs ys : List X) (i : ℕ) → length xs ≤ i → slice_get (xs ++ ys) i ≡ slice_get ys (i - length xs)
behind_at [] ys i large = let e : i ≡ i - 0 = omega arith in ap (slice_get ys) e
behind_at (x ∷ xs) ys zero large = absurd (omega (arith, large))
behind_at (x ∷ xs) ys (suc i) large =
    let e : i - length xs ≡ suc i - suc (length xs) = omega arith in behind_at xs ys i (omega (arith, large)) ∙ ap (slice_get ys) e

-- parts
abbrev pub before : List Plan → ℕ → ℕ
before [] k = 0
before (p ∷ ps) zero = 0
before (p ∷ ps) (suc k) = length p.parts + before ps k

pub next_place : (a : Place) (n k : ℕ) (e : End) → a ≡ place (suc n + k) e → a ≡ place (n + suc k) e
next_place a n k e is = let sum : suc n + k ≡ n + suc k = omega arith in is ∙ ap (λ (m : ℕ). place m e) sum

-- a part of all, which have plans from number n on, is a part of one
pub record PartOf (n : ℕ) (ps : List Plan) (i : ℕ) (x : Part) : Type 0 where
  pub plan : ℕ
  pub part : ℕ
  pub of : Plan
  pub number : i ≡ before ps plan + part
  pub stands : (h : ℕ) → part_place n ps i h ≡ place (n + plan) (PartEnd part h)
  pub is : slice_get ps plan ≡ Some of
  pub has : slice_get of.parts part ≡ Some x

pub part_of : (n : ℕ) (ps : List Plan) (i : ℕ) (x : Part) → slice_get (all_parts ps) i ≡ Some x → PartOf n ps i x
part_of n [] i x e = absurd (cc e)
part_of n (p ∷ ps) i x e = by_test (nat_lt i (length p.parts)) refl (part_of (suc n) ps (i - length p.parts) x)
  where
    by_test : (b : Bool) → nat_lt i (length p.parts) ≡ b
        → (slice_get (all_parts ps) (i - length p.parts) ≡ Some x → PartOf (suc n) ps (i - length p.parts) x) → PartOf n (p ∷ ps) i x
    by_test true t rest =
        let small : i < length p.parts = grind (arith, t) in
        let sum : n ≡ n + 0 = omega arith in
        record {
          plan = 0;
          part = i;
          of = p;
          number = omega arith;
          stands = λ h. rw t (ap (λ (k : ℕ). place k (PartEnd i h)) sum);
          is = refl;
          has = sym (same_in_front p.parts (all_parts ps) i small) ∙ e;
        }
    by_test false t rest =
        let large : length p.parts ≤ i = grind (arith, t) in
        let there = rest (sym (behind_at p.parts (all_parts ps) i large) ∙ e) in
        let number = there.number in
        record {
          plan = suc there.plan;
          part = there.part;
          of = there.of;
          number = omega (arith, number, large);
          stands = λ h. rw t (next_place (part_place (suc n) ps (i - length p.parts) h) n there.plan (PartEnd there.part h) (there.stands h));
          is = there.is;
          has = there.has;
        }

-- and so is a part at one of its handshakes
pub record PartAt (n : ℕ) (ps : List Plan) (i h : ℕ) (c : Contact) : Type 0 where
  pub plan : ℕ
  pub part : ℕ
  pub of : Plan
  pub number : i ≡ before ps plan + part
  pub stands : part_place n ps i h ≡ place (n + plan) (PartEnd part h)
  pub is : slice_get ps plan ≡ Some of
  pub has : slice_get (contacts_of_part (slice_get of.parts part)) h ≡ Some c

pub part_at : (n : ℕ) (ps : List Plan) (i h : ℕ) (c : Contact) → slice_get (contacts_of_part (slice_get (all_parts ps) i)) h ≡ Some c → PartAt n ps i h c
part_at n ps i h c e = by_part (slice_get (all_parts ps) i) refl
  where
    by_part : (o : Option Part) → slice_get (all_parts ps) i ≡ o → PartAt n ps i h c
    by_part None at =
        let none : slice_get (contacts_of_part None) h ≡ Some c = sym (ap (λ (o : Option Part). slice_get (contacts_of_part o) h) at) ∙ e in absurd (cc none)
    by_part (Some x) at =
        let there = part_of n ps i x at in
        record {
          plan = there.plan;
          part = there.part;
          of = there.of;
          number = there.number;
          stands = there.stands h;
          is = there.is;
          has = ap (λ (o : Option Part). slice_get (contacts_of_part o) h) (there.has ∙ sym at) ∙ e;
        }

-- imports that stay
abbrev pub left_before : List Link → ℕ → ℕ → List Imported → ℕ → ℕ
left_before ls k n [] m = 0
left_before ls k n (x ∷ xs) zero = 0
left_before ls k n (x ∷ xs) (suc m) = (if is_joined ls k n then 0 else 1) + left_before ls k (suc n) xs m

record LeftIn (ls : List Link) (k n : ℕ) (xs : List Imported) (i : ℕ) (l : LeftImport) : Type 0 where
  number : ℕ
  place_of : i ≡ left_before ls k n xs number
  plan_is : l.plan ≡ k
  number_is : l.number ≡ n + number
  has : slice_get xs number ≡ Some l.import
  stays : is_joined ls k (n + number) ≡ false

left_one : (ls : List Link) (k n : ℕ) (xs : List Imported) (i : ℕ) (l : LeftImport) → slice_get (left_in ls k n xs) i ≡ Some l → LeftIn ls k n xs i l
left_one ls k n [] i l e = absurd (cc e)
left_one ls k n (x ∷ xs) i l e = by_test (is_joined ls k n) refl i e (λ m. left_one ls k (suc n) xs m l)
  where
    by_test : (b : Bool) → is_joined ls k n ≡ b → (i : ℕ) → slice_get (left_in ls k n (x ∷ xs)) i ≡ Some l
        → ((m : ℕ) → slice_get (left_in ls k (suc n) xs) m ≡ Some l → LeftIn ls k (suc n) xs m l) → LeftIn ls k n (x ∷ xs) i l
    by_test true t i e rest =
        let there = rest i (rw t at e) in
        let number = there.place_of in
        let is = there.number_is in
        let sum : suc n + there.number ≡ n + suc there.number = omega arith in
        record {
          number = suc there.number;
          place_of = rw t (omega (arith, number));
          plan_is = there.plan_is;
          number_is = is ∙ sum;
          has = there.has;
          stays = ap (is_joined ls k) (sym sum) ∙ there.stays;
        }
    by_test false t zero e rest =
        let at_first : slice_get (record { plan = k; number = n; import = x } ∷ left_in ls k (suc n) xs) 0 ≡ Some l = rw t at e in
        let same : record { plan = k; number = n; import = x } ≡ l = cc at_first in
        let sum : n ≡ n + 0 = omega arith in
        record {
          number = 0;
          place_of = refl;
          plan_is = ap (λ (y : LeftImport). y.plan) (sym same);
          number_is = ap (λ (y : LeftImport). y.number) (sym same) ∙ sum;
          has = ap (λ (y : LeftImport). Some y.import) same;
          stays = ap (is_joined ls k) (sym sum) ∙ t;
        }
    by_test false t (suc i) e rest =
        let there = rest i (rw t at e) in
        let number = there.place_of in
        let is = there.number_is in
        let sum : suc n + there.number ≡ n + suc there.number = omega arith in
        record {
          number = suc there.number;
          place_of = rw t (omega (arith, number));
          plan_is = there.plan_is;
          number_is = is ∙ sum;
          has = there.has;
          stays = ap (is_joined ls k) (sym sum) ∙ there.stays;
        }

abbrev pub left_index : List Link → ℕ → List Plan → ℕ → ℕ → ℕ
left_index ls n [] k m = 0
left_index ls n (p ∷ ps) zero m = left_before ls n 0 p.imports m
left_index ls n (p ∷ ps) (suc k) m = length (left_in ls n 0 p.imports) + left_index ls (suc n) ps k m

pub record LeftAt (ls : List Link) (n : ℕ) (ps : List Plan) (i : ℕ) (l : LeftImport) : Type 0 where
  pub plan : ℕ
  pub of : Plan
  pub place_of : i ≡ left_index ls n ps plan l.number
  pub plan_is : l.plan ≡ n + plan
  pub is : slice_get ps plan ≡ Some of
  pub has : slice_get of.imports l.number ≡ Some l.import
  pub stays : is_joined ls l.plan l.number ≡ false

pub left_at : (ls : List Link) (n : ℕ) (ps : List Plan) (i : ℕ) (l : LeftImport) → slice_get (left_among ls n ps) i ≡ Some l → LeftAt ls n ps i l
left_at ls n [] i l e = absurd (cc e)
left_at ls n (p ∷ ps) i l e = by_test (nat_lt i (length (left_in ls n 0 p.imports))) refl (left_at ls (suc n) ps (i - length (left_in ls n 0 p.imports)) l)
  where
    by_test : (b : Bool) → nat_lt i (length (left_in ls n 0 p.imports)) ≡ b
        → (slice_get (left_among ls (suc n) ps) (i - length (left_in ls n 0 p.imports)) ≡ Some l → LeftAt ls (suc n) ps (i - length (left_in ls n 0 p.imports)) l)
        → LeftAt ls n (p ∷ ps) i l
    by_test true t rest =
        let small : i < length (left_in ls n 0 p.imports) = grind (arith, t) in
        let there = left_one ls n 0 p.imports i l (sym (same_in_front (left_in ls n 0 p.imports) (left_among ls (suc n) ps) i small) ∙ e) in
        let is = there.number_is in
        let number : there.number ≡ l.number = omega (arith, is) in
        record {
          plan = 0;
          of = p;
          place_of = there.place_of ∙ ap (left_before ls n 0 p.imports) number;
          plan_is = (let plan = there.plan_is in omega (arith, plan));
          is = refl;
          has = ap (slice_get p.imports) (sym number) ∙ there.has;
          stays = (λ j. is_joined ls (there.plan_is j) (is j)) ∙ there.stays;
        }
    by_test false t rest =
        let large : length (left_in ls n 0 p.imports) ≤ i = grind (arith, t) in
        let there = rest (sym (behind_at (left_in ls n 0 p.imports) (left_among ls (suc n) ps) i large) ∙ e) in
        let number = there.place_of in
        let plan = there.plan_is in
        record {
          plan = suc there.plan;
          of = there.of;
          place_of = omega (arith, number, large);
          plan_is = omega (arith, plan);
          is = there.is;
          has = there.has;
          stays = there.stays;
        }

pub at_import : (k i h : ℕ) → is_at_import k i (place k (ImportEnd i h)) ≡ true
at_import k i h = grind arith

pub no_link : (ls : List Link) (k i h : ℕ) (l : Link) (n : ℕ) → slice_get ls n ≡ Some l → StandsIn (place k (ImportEnd i h)) l → is_joined ls k i ≡ false → ⊥
no_link [] k i h l n at stands none = absurd (cc at)
no_link (x ∷ ls) k i h l (suc n) at stands none = no_link ls k i h l n at stands (grind (arith, none))
no_link (x ∷ ls) k i h l zero at stands none = by_way stands
  where
    same : x ≡ l
    same = cc at

    by_way : StandsIn (place k (ImportEnd i h)) l → ⊥
    by_way (inl e) =
        let one : is_at_import k i x.one ≡ true = subst (λ (y : Place). is_at_import k i y ≡ true) (e ∙ ap (λ (y : Link). y.one) (sym same)) (at_import k i h) in
        grind (arith, none, one)
    by_way (inr e) =
        let one : is_at_import k i x.other ≡ true = subst (λ (y : Place). is_at_import k i y ≡ true) (e ∙ ap (λ (y : Link). y.other) (sym same)) (at_import k i h) in
        grind (arith, none, one)

-- an import of the joining stands at one that stays
pub record ImportAt (w : Wiring) (i h : ℕ) (c : Contact) : Type 0 where
  pub left : LeftImport
  pub at : LeftAt w.links 0 w.plans i left
  pub stands : origin w (ImportEnd i h) ≡ place left.plan (ImportEnd left.number h)
  pub has : slice_get (contacts_of left.import.ty) h ≡ Some c

abbrev pub import_of : LeftImport → Imported
import_of l = l.import

pub import_at : (w : Wiring) (i h : ℕ) (c : Contact) → slice_get (contacts_of_import (slice_get (map (λ l. l.import) (all_left w)) i)) h ≡ Some c → ImportAt w i h c
import_at w i h c e =
    by_left (slice_get (all_left w) i) refl
    (ap (λ (o : Option Imported). slice_get (contacts_of_import o) h) (sym (slice_get-map import_of (all_left w) i)) ∙ e)
  where
    by_left : (o : Option LeftImport) → slice_get (all_left w) i ≡ o → slice_get (contacts_of_import (option_map import_of o)) h ≡ Some c → ImportAt w i h c
    by_left None is there = absurd (cc there)
    by_left (Some l) is there =
        record { left = l; at = left_at w.links 0 w.plans i l is; stands = ap (λ (o : Option LeftImport). left_place o h) is; has = there }

pub result_contact : (o : Option Plan) (n : ℕ) → contact_in o (ResultEnd n) ≡ turned_if (slice_get (contacts_of_result o) n)
result_contact None n = refl
result_contact (Some p) n = refl

abbrev pub StandsWell : Wiring → Contact → Place → Type 0
StandsWell w c a = (contact_of w a ≡ Some c) × IsOutside w a

pub at_origin : (w : Wiring) → LinksFit w → (js : List Joint) (e : End) (c : Contact) → contact_at (whole w js) e ≡ Some c → StandsWell w c (origin w e)
at_origin w fit js (PartEnd i h) c e =
    let there = part_at 0 w.plans i h c e in
    let sum : 0 + there.plan ≡ there.plan = omega arith in
    subst (StandsWell w c) (sym there.stands) (
      ap (λ (k : ℕ). contact_in (slice_get w.plans k) (PartEnd there.part h)) sum
          ∙ (ap (λ (o : Option Plan). contact_in o (PartEnd there.part h)) there.is ∙ there.has),
      inl tt,
    )
at_origin w fit js (ImportEnd i h) c e =
    let there = import_at w i h c e in
    let l = there.left in
    let sum : l.plan ≡ there.at.plan = (let plan = there.at.plan_is in omega (arith, plan)) in
    subst (StandsWell w c) (sym there.stands) (
      ap (λ (k : ℕ). contact_in (slice_get w.plans k) (ImportEnd l.number h)) sum
          ∙ (ap (λ (o : Option Plan). contact_in o (ImportEnd l.number h)) there.at.is
          ∙ (ap (λ (o : Option Imported). slice_get (contacts_of_import o) h) there.at.has ∙ there.has)),
      inr
          (λ b linked.
          let (m, has, ways) = linked in
          let (n, at) = place_of w.links m has in
          no_link w.links l.plan l.number h m n at (stands_link m (place l.plan (ImportEnd l.number h)) b ways) there.at.stays),
    )
at_origin w fit js (ResultEnd h) c e = by_contact (slice_get (contacts_of w.outcome) h) refl e
  where
    by_contact : (o : Option Contact) → slice_get (contacts_of w.outcome) h ≡ o → turned_if o ≡ Some c → StandsWell w c (place w.giver (ResultEnd (w.skipped + h)))
    by_contact None is there = absurd (cc there)
    by_contact (Some d) is there =
        let left = fit.left h d is in (
          result_contact (slice_get w.plans w.giver) (w.skipped + h) ∙ (ap turned_if left.0 ∙ there),
          inr
              (λ b linked.
              let (m, has, ways) = linked in
              let (n, at) = place_of w.links m has in
              left.1 n m at (stands_link m (place w.giver (ResultEnd (w.skipped + h))) b ways)),
        )

-- no two ends stand at one place
abbrev pub sort : End → ℕ
sort (PartEnd i h) = 0
sort (ImportEnd i h) = 1
sort (ResultEnd h) = 2

pub left_sort : (o : Option LeftImport) (h : ℕ) → sort (left_place o h).end ≡ 1
left_sort None h = refl
left_sort (Some l) h = refl

pub sort_of : (w : Wiring) (js : List Joint) (e : End) (c : Contact) → contact_at (whole w js) e ≡ Some c → sort (origin w e).end ≡ sort e
sort_of w js (PartEnd i h) c e = ap (λ (x : Place). sort x.end) (part_at 0 w.plans i h c e).stands
sort_of w js (ImportEnd i h) c e = left_sort (slice_get (all_left w) i) h
sort_of w js (ResultEnd h) c e = refl

same_sort : (w : Wiring) (js : List Joint) (a b : End) (c d : Contact) → contact_at (whole w js) a ≡ Some c → contact_at (whole w js) b ≡ Some d
    → origin w a ≡ origin w b → sort a ≡ sort b
same_sort w js a b c d at_a at_b e = sym (sort_of w js a c at_a) ∙ (ap (λ (x : Place). sort x.end) e ∙ sort_of w js b d at_b)

pub one_origin : (w : Wiring) (js : List Joint) (a b : End) (c d : Contact) → contact_at (whole w js) a ≡ Some c → contact_at (whole w js) b ≡ Some d
    → origin w a ≡ origin w b → a ≡ b
one_origin w js (PartEnd i h) (PartEnd j g) c d at_a at_b e =
    let x = part_at 0 w.plans i h c at_a in
    let y = part_at 0 w.plans j g d at_b in
    let same : place (0 + x.plan) (PartEnd x.part h) ≡ place (0 + y.plan) (PartEnd y.part g) = sym x.stands ∙ (e ∙ y.stands) in
    let sums : 0 + x.plan ≡ 0 + y.plan = ap (λ (z : Place). z.plan) same in
    let plans : x.plan ≡ y.plan = omega (arith, sums) in
    let ends : PartEnd x.part h ≡ PartEnd y.part g = ap (λ (z : Place). z.end) same in
    let parts : x.part ≡ y.part = cc ends in
    let shakes : h ≡ g = cc ends in
    let numbers : i ≡ j = x.number ∙ ((λ t. before w.plans (plans t) + parts t) ∙ sym y.number) in
    λ t. PartEnd (numbers t) (shakes t)
one_origin w js (ImportEnd i h) (ImportEnd j g) c d at_a at_b e =
    let x = import_at w i h c at_a in
    let y = import_at w j g d at_b in
    let same : place x.left.plan (ImportEnd x.left.number h) ≡ place y.left.plan (ImportEnd y.left.number g) = sym x.stands ∙ (e ∙ y.stands) in
    let left_plans : x.left.plan ≡ y.left.plan = ap (λ (z : Place). z.plan) same in
    let of_x = x.at.plan_is in
    let of_y = y.at.plan_is in
    let plans : x.at.plan ≡ y.at.plan = omega (arith, left_plans, of_x, of_y) in
    let ends : ImportEnd x.left.number h ≡ ImportEnd y.left.number g = ap (λ (z : Place). z.end) same in
    let imports : x.left.number ≡ y.left.number = cc ends in
    let shakes : h ≡ g = cc ends in
    let numbers : i ≡ j = x.at.place_of ∙ ((λ t. left_index w.links 0 w.plans (plans t) (imports t)) ∙ sym y.at.place_of) in
    λ t. ImportEnd (numbers t) (shakes t)
one_origin w js (ResultEnd h) (ResultEnd g) c d at_a at_b e =
    let ends : ResultEnd (w.skipped + h) ≡ ResultEnd (w.skipped + g) = ap (λ (z : Place). z.end) e in
    let sums : w.skipped + h ≡ w.skipped + g = cc ends in
    let shakes : h ≡ g = omega (arith, sums) in
    ap ResultEnd shakes
one_origin w js (PartEnd i h) (ImportEnd j g) c d at_a at_b e =
    let no : 0 ≡ 1 = same_sort w js (PartEnd i h) (ImportEnd j g) c d at_a at_b e in absurd (omega (arith, no))
one_origin w js (PartEnd i h) (ResultEnd g) c d at_a at_b e =
    let no : 0 ≡ 2 = same_sort w js (PartEnd i h) (ResultEnd g) c d at_a at_b e in absurd (omega (arith, no))
one_origin w js (ImportEnd i h) (PartEnd j g) c d at_a at_b e =
    let no : 1 ≡ 0 = same_sort w js (ImportEnd i h) (PartEnd j g) c d at_a at_b e in absurd (omega (arith, no))
one_origin w js (ImportEnd i h) (ResultEnd g) c d at_a at_b e =
    let no : 1 ≡ 2 = same_sort w js (ImportEnd i h) (ResultEnd g) c d at_a at_b e in absurd (omega (arith, no))
one_origin w js (ResultEnd h) (PartEnd j g) c d at_a at_b e =
    let no : 2 ≡ 0 = same_sort w js (ResultEnd h) (PartEnd j g) c d at_a at_b e in absurd (omega (arith, no))
one_origin w js (ResultEnd h) (ImportEnd j g) c d at_a at_b e =
    let no : 2 ≡ 1 = same_sort w js (ResultEnd h) (ImportEnd j g) c d at_a at_b e in absurd (omega (arith, no))
