-- What lies in a place stays until it is taken, and so parts take what lay there before a list, where they take no
-- more.
--
-- An element that puts something where a token lies would leave two; an orderly one doesn't (PlaceLemmas).
use Rattle.std.specs.Prelude.{Option, None, ◌<◌, ◌≤◌}
use Rattle.std.proofs.Common.{◌≡◌, ℕ, suc, ◌+◌, Bool, true, false, List, [], ◌∷◌, Some, slice_get, refl, sym, ◌∙◌, ap, subst, arith, nat_eq, if◌then◌else◌}
use Rattle.gos_types.specs.declared.shakes.Role.TheVariants.{Serve, Ask}
use Rattle.gos_types.specs.Events.{Direction, Request, Answer}
use Rattle.gos_plan.specs.Kinds.{Part, Contact}
use Rattle.gos_plan.specs.Firing.{Slot, Token, same_slot, firing}
use Rattle.gos_plan.specs.Plans.{End, PartEnd, Joint, Plan, IsRight, contact_at, same_end}
use Rattle.gos_plan.specs.Tokens.{Tokens, Element, Fire, Out, In, places_of, held_at, token_at, shake_of, way_of, end_of, way_taken, way_put, firing_of, Passes, Does}
use Rattle.gos_plan.specs.Orderly.{Open, ComesInOrder, OrderlyFrom}
use Rattle.gos_plan.specs.Firings.{times}
use Rattle.gos_plan.specs.Projection.{firings_of, TakesValue, TakesValues}
use Rattle.gos_plan.specs.Accounts.{count, number, slot_at, taken_at}
use Rattle.gos_plan.specs.Staying.{TokensStay, number_for, numbers_for, PartsTakeWhatLay}
use Rattle.gos_plan.proofs.JointLemmas.{IsIn, same_itself, same_is, fits, Found, found, asking_role, serving_role, joined, contained}
use Rattle.gos_plan.proofs.RowLemmas.{role_taking}
use Rattle.gos_plan.proofs.AskingLemmas.{RoleIs, row_roles}
use Rattle.gos_plan.proofs.DecidedLemmas.{one_state}
use Rattle.gos_plan.proofs.PlaceLemmas.{worth, Side, asking_side, serving_side, took, filled, empty_before, takes_so, put_here, fire_step, turns_at}
use Rattle.gos_plan.proofs.CountLemmas.{fire_taken, out_taken, in_taken, taken_one}
use Rattle.gos_plan.proofs.HeldLemmas as holding

-- a place whose worth grows holds what it held
stays_by : (a b : Option ℕ) (v m n : ℕ) → b ≡ Some v → worth (λ x. 1) a ≡ worth (λ x. 1) b + m → worth (λ x. x) a ≡ worth (λ x. x) b + n → (m ≡ 0 → n ≡ 0) → a ≡ Some v
stays_by None b v m n is counts sums none = let one = ap (worth (λ x. 1)) is in absurd (omega (arith, counts, one))
stays_by (Some y) b v m n is counts sums none =
    let one = ap (worth (λ x. 1)) is in
    let nothing : n ≡ 0 = none (omega (arith, counts, one)) in
    let same = ap (worth (λ x. x)) is in
    let number : y ≡ v = omega (arith, sums, same, nothing) in
    ap Some number

abbrev if_so : Bool → ℕ → ℕ
if_so b n = if b then n else 0

none_if : (b : Bool) (v : ℕ) → if_so b 1 ≡ 0 → if_so b v ≡ 0
none_if true v some = absurd (omega (arith, some))
none_if false v none = refl

nothing_put : (i : ℕ) (ts : List Token) (e : End) → put_here (λ x. 1) i ts e ≡ 0 → put_here (λ x. x) i ts e ≡ 0
nothing_put i [] e none = refl
nothing_put i (t ∷ ts) e none = by_test (same_end (end_of i t.slot) e) none (nothing_put i ts e)
  where
    by_test : (b : Bool) → if_so b 1 + put_here (λ x. 1) i ts e ≡ 0
        → (put_here (λ x. 1) i ts e ≡ 0 → put_here (λ x. x) i ts e ≡ 0) → if_so b t.value + put_here (λ x. x) i ts e ≡ 0
    by_test true some further = absurd (omega (arith, some))
    by_test false none further = let rest = further (omega (arith, none)) in omega (arith, rest)

-- how many tokens an element takes at an end
abbrev amount : End → Element → ℕ
amount e (Fire i t) = if same_end (end_of i t) e then 1 else 0
amount e (Out d v) = if same_end d e then 1 else 0
amount e (In d v) = 0

stay_step : (p : Plan) (j : Joint) (way : Direction) (source target : End) → IsRight p → Side p j way source way_put → Side p j way target way_taken
    → (x : Element) (o m : Open) (s w : Tokens) (v : ℕ) → holding.AllFit o s → Does p x s w → ComesInOrder p x s o m → amount target x ≡ 0
    → s.in_place way j.asking ≡ Some v → w.in_place way j.asking ≡ Some v
stay_step p j way source target right filling emptying (Fire i slot) o m s w v fit (n, r, lies, fire, leads) comes none held = of_part (slice_get p.parts i) refl
  where
    of_firing : (k : Part) → slice_get p.parts i ≡ Some k → firing k (s.state i) slot ≡ Some r → w.in_place way j.asking ≡ Some v
    of_firing k is fires =
        let counts = fire_step (λ x. 1) p j way source target right filling emptying i k slot n r o m s w is lies fires fire leads comes fit in
        let sums = fire_step (λ x. x) p j way source target right filling emptying i k slot n r o m s w is lies fires fire leads comes fit in
        let number = none_if (same_end (end_of i slot) target) n none in
        stays_by (w.in_place way j.asking) (s.in_place way j.asking) v (put_here (λ x. 1) i (r.puts n) source) (put_here (λ x. x) i (r.puts n) source) held
        (omega (arith, counts, none)) (omega (arith, sums, number)) (nothing_put i (r.puts n) source)

    of_part : (g : Option Part) → slice_get p.parts i ≡ g → w.in_place way j.asking ≡ Some v
    of_part None none = absurd (let some : None ≡ Some r = subst (λ (g : Option Part). firing_of g (s.state i) slot ≡ Some r) none fire in cc some)
    of_part (Some k) is = of_firing k is (subst (λ (g : Option Part). firing_of g (s.state i) slot ≡ Some r) is fire)
stay_step p j way source target right filling emptying (Out d n) o m s w v fit does comes none held = of_contact (contact_at p d) refl
  where
    of_contact : (g : Option Contact) → contact_at p d ≡ g → w.in_place way j.asking ≡ Some v
    of_contact None missing = absurd (subst (λ (g : Option Contact). Passes p (Out d n) g s w) missing does.1)
    of_contact (Some c) there =
        let passes = subst (λ (g : Option Contact). Passes p (Out d n) g s w) there does.1 in
        let by_role = λ (b : Contact) (also : contact_at p d ≡ Some b). let is : c ≡ b = cc (there, also) in ap (λ (x : Contact). way_taken x.role) is in
        let counts = took (λ x. 1) p j way target right emptying d (way_taken c.role) n s by_role passes.0 in
        let sums = took (λ x. x) p j way target right emptying d (way_taken c.role) n s by_role passes.0 in
        let number = none_if (same_end d target) n none in
        let one = ap (λ (z : Tokens). worth (λ x. 1) (z.in_place way j.asking)) passes.1 in
        let two = ap (λ (z : Tokens). worth (λ x. x) (z.in_place way j.asking)) passes.1 in
        stays_by (w.in_place way j.asking) (s.in_place way j.asking) v 0 0 held (omega (arith, counts, none, one)) (omega (arith, sums, number, two)) (λ e. e)
stay_step p j way source target right filling emptying (In d n) o m s w v fit does comes none held = of_contact (contact_at p d) refl
  where
    of_contact : (g : Option Contact) → contact_at p d ≡ g → w.in_place way j.asking ≡ Some v
    of_contact None missing = absurd (subst (λ (g : Option Contact). Passes p (In d n) g s w) missing does.1)
    of_contact (Some c) there =
        let passes = subst (λ (g : Option Contact). Passes p (In d n) g s w) there does.1 in
        let by_role = λ (b : Contact) (also : contact_at p d ≡ Some b). let is : c ≡ b = cc (there, also) in ap (λ (x : Contact). way_put x.role) is in
        let empty = empty_before p d (way_put c.role) o s (comes c there).0 fit in
        let counts = filled (λ x. 1) p j way source right filling d (way_put c.role) n s by_role empty in
        let sums = filled (λ x. x) p j way source right filling d (way_put c.role) n s by_role empty in
        let one = ap (λ (z : Tokens). worth (λ x. 1) (z.in_place way j.asking)) passes.1 in
        let two = ap (λ (z : Tokens). worth (λ x. x) (z.in_place way j.asking)) passes.1 in
        stays_by (w.in_place way j.asking) (s.in_place way j.asking) v (if same_end d source then 1 else 0) (if same_end d source then n else 0) held
        (one ∙ counts) (two ∙ sums) (none_if (same_end d source) n)

-- what is taken at an end, by the first element and the others
taken_next : (p : Plan) (j : Joint) (way : Direction) (target : End) → IsRight p → Side p j way target way_taken → (x : Element) (xs : List Element) (s w : Tokens)
    → Does p x s w → taken_at way target (x ∷ xs) ≡ amount target x + taken_at way target xs
taken_next p j way target right emptying (Fire i slot) xs s w (n, r, lies, fire, leads) = of_part (slice_get p.parts i) refl
  where
    of_firing : (k : Part) → slice_get p.parts i ≡ Some k → firing k (s.state i) slot ≡ Some r
        → taken_at way target (Fire i slot ∷ xs) ≡ amount target (Fire i slot) + taken_at way target xs
    of_firing k is fires =
        let row = row_roles k (s.state i) slot r n fires in
        let role = subst (λ (x : Slot). RoleIs k (shake_of x) (role_taking x)) row.0 row.1.0 in
        let all =
        fire_taken (λ x. 1) (λ l h. n) way target i slot xs n refl (turns_at p j way target right emptying (end_of i slot) (way_of slot) s (takes_so p i k slot is role)) in
        omega (arith, all, taken_one (λ l h. n) way target (Fire i slot ∷ xs), taken_one (λ l h. n) way target xs)

    of_part : (g : Option Part) → slice_get p.parts i ≡ g → taken_at way target (Fire i slot ∷ xs) ≡ amount target (Fire i slot) + taken_at way target xs
    of_part None none = absurd (let some : None ≡ Some r = subst (λ (g : Option Part). firing_of g (s.state i) slot ≡ Some r) none fire in cc some)
    of_part (Some k) is = of_firing k is (subst (λ (g : Option Part). firing_of g (s.state i) slot ≡ Some r) is fire)
taken_next p j way target right emptying (Out d n) xs s w does =
    let all = out_taken (λ x. 1) (λ l h. n) way target d n xs does.0 in
    omega (arith, all, taken_one (λ l h. n) way target (Out d n ∷ xs), taken_one (λ l h. n) way target xs)
taken_next p j way target right emptying (In d n) xs s w does =
    let all = in_taken (λ x. 1) (λ l h. n) way target d n xs in
    omega (arith, all, taken_one (λ l h. n) way target (In d n ∷ xs), taken_one (λ l h. n) way target xs)

stay : (p : Plan) (j : Joint) (way : Direction) (source target : End) → IsRight p → Side p j way source way_put → Side p j way target way_taken
    → (xs : List Element) (o u : Open) (s t : Tokens) (v : ℕ) → holding.AllFit o s → OrderlyFrom p xs o s u t → taken_at way target xs ≡ 0
    → s.in_place way j.asking ≡ Some v → t.in_place way j.asking ≡ Some v
stay p j way source target right filling emptying [] o u s t v fit list none held = ap (λ (z : Tokens). z.in_place way j.asking) list.1 ∙ held
stay p j way source target right filling emptying (x ∷ xs) o u s t v fit (m, w, does, comes, welcome, list) none held =
    let next = taken_next p j way target right emptying x xs s w does in
    stay p j way source target right filling emptying xs m u w t v (holding.step p x o m s w does comes fit) list (omega (arith, next, none))
    (stay_step p j way source target right filling emptying x o m s w v fit does comes (omega (arith, next, none)) held)

pub tokens_stay : TokensStay
tokens_stay p ys xs o u first s t j v right idle before list contains = (
  (λ held none. stay p j Request j.asking j.serving right (asking_side p j Request way_put right is_in refl (λ e. cc e)) (serving_side p j Request way_taken right is_in refl (λ e. cc e))
      xs o u s t v fit list none held),
  (λ held none. stay p j Answer j.serving j.asking right (serving_side p j Answer way_put right is_in refl (λ e. cc e)) (asking_side p j Answer way_taken right is_in refl (λ e. cc e))
      xs o u s t v fit list none held),
)
  where
    is_in : IsIn j p.joints
    is_in = contained p.joints j contains

    fit : holding.AllFit o s
    fit = holding.all_fit p ys _ o first s before (λ a. (idle.0 Request a, idle.0 Answer a))

-- the joint of an end at which a token lies for who stands there
record Place (p : Plan) (e : End) (way : Direction) : Type 0 where
  joint : Joint
  source : End
  named : places_of p e ≡ Some joint.asking
  filling : Side p joint way source way_put
  emptying : Side p joint way e way_taken

place_of : (p : Plan) (e a : End) (c : Contact) → IsRight p → places_of p e ≡ Some a → contact_at p e ≡ Some c → Place p e (way_taken c.role)
place_of p e a c right named there = by_test (same_end e f.joint.asking) refl
  where
    f : Found p.joints e a
    f = found p.joints e a named

    by_test : (b : Bool) → same_end e f.joint.asking ≡ b → Place p e (way_taken c.role)
    by_test true t =
        let is : e ≡ f.joint.asking = same_is e f.joint.asking t in
        let role : c.role ≡ Ask = asking_role p f.joint c (fits p [] p.joints f.joint right f.is_in) (ap (contact_at p) (sym is) ∙ there) in
        let way : way_taken c.role ≡ Answer = ap way_taken role in
        subst (λ (z : Direction). Place p e z) (sym way) (record {
          joint = f.joint;
          source = f.joint.serving;
          named = named ∙ ap Some (sym f.named);
          filling = serving_side p f.joint Answer way_put right f.is_in refl (λ e. cc e);
          emptying = subst (λ (x : End). Side p f.joint Answer x way_taken) (sym is) (asking_side p f.joint Answer way_taken right f.is_in refl (λ e. cc e));
        })
    by_test false t =
        let s : same_end e f.joint.serving ≡ true = grind (arith, f.stands, t) in
        let is : e ≡ f.joint.serving = same_is e f.joint.serving s in
        let role : c.role ≡ Serve = serving_role p f.joint c (fits p [] p.joints f.joint right f.is_in) (ap (contact_at p) (sym is) ∙ there) in
        let way : way_taken c.role ≡ Request = ap way_taken role in
        subst (λ (z : Direction). Place p e z) (sym way) (record {
          joint = f.joint;
          source = f.joint.asking;
          named = named ∙ ap Some (sym f.named);
          filling = asking_side p f.joint Request way_put right f.is_in refl (λ e. cc e);
          emptying = subst (λ (x : End). Side p f.joint Request x way_taken) (sym is) (serving_side p f.joint Request way_taken right f.is_in refl (λ e. cc e));
        })

-- an end at which a token lies has a place
has_name : (p : Plan) (s : Tokens) (e : End) (way : Direction) (v : ℕ) → token_at p s e way ≡ Some v → (a : End) × (places_of p e ≡ Some a)
has_name p s e way v lies = by_place (places_of p e) refl
  where
    by_place : (f : Option End) → places_of p e ≡ f → (a : End) × (places_of p e ≡ Some a)
    by_place None none = absurd (let some : None ≡ Some v = sym (ap (held_at s way) none) ∙ lies in cc some)
    by_place (Some a) named = (a, named)

-- where a part takes more in a list, what lies there is what lay there at first, and it takes no more than that
abbrev Remains : Plan → Tokens → List Element → Tokens → Type 0
Remains p first xs s =
    (i h : ℕ) (c : Contact) → contact_at p (PartEnd i h) ≡ Some c
    → (0 < taken_at (way_taken c.role) (PartEnd i h) xs → token_at p s (PartEnd i h) (way_taken c.role) ≡ token_at p first (PartEnd i h) (way_taken c.role))
    × (taken_at (way_taken c.role) (PartEnd i h) xs ≤ count (token_at p first (PartEnd i h) (way_taken c.role)))

counted : (f : Option ℕ) → 0 < count f → (v : ℕ) × (f ≡ Some v)
counted None some = absurd (omega (arith, some))
counted (Some v) some = (v, refl)

at_most_one : (f : Option ℕ) → count f ≤ 1
at_most_one None = omega arith
at_most_one (Some v) = omega arith

fewer : (way : Direction) (i h : ℕ) (x : Element) (xs : List Element) → taken_at way (PartEnd i h) xs ≤ taken_at way (PartEnd i h) (x ∷ xs)
fewer way i h (Out d v) xs = omega arith
fewer way i h (In d v) xs = omega arith
fewer way i h (Fire l t) xs = by_tests (nat_eq l i) (same_slot t (slot_at way h)) refl
  where
    by_tests : (a b : Bool) → same_slot t (slot_at way h) ≡ b
        → times (slot_at way h) (firings_of i xs) ≤ times (slot_at way h) (if a then t ∷ firings_of i xs else firings_of i xs)
    by_tests false b same = omega arith
    by_tests true b same =
        subst (λ (c : Bool). times (slot_at way h) (firings_of i xs) ≤ (if c then suc (times (slot_at way h) (firings_of i xs)) else times (slot_at way h) (firings_of i xs))) (sym same)
        (either b (times (slot_at way h) (firings_of i xs)))
      where
        either : (c : Bool) (n : ℕ) → n ≤ (if c then suc n else n)
        either true n = omega arith
        either false n = omega arith

remains : (p : Plan) (first : Tokens) (x : Element) (xs : List Element) (o m : Open) (s w : Tokens) → IsRight p → holding.AllFit o s → Does p x s w → ComesInOrder p x s o m
    → Remains p first (x ∷ xs) s → Remains p first xs w
remains p first x xs o m s w right fit does comes known i h c there = by_place (places_of p e) refl
  where
    e : End
    e = PartEnd i h

    way : Direction
    way = way_taken c.role

    before : (0 < taken_at way e (x ∷ xs) → token_at p s e way ≡ token_at p first e way) × (taken_at way e (x ∷ xs) ≤ count (token_at p first e way))
    before = known i h c there

    by_place : (f : Option End) → places_of p e ≡ f
        → (0 < taken_at way e xs → token_at p w e way ≡ token_at p first e way) × (taken_at way e xs ≤ count (token_at p first e way))
    by_place None none =
        let nothing : count (token_at p first e way) ≡ 0 = ap (λ (f : Option End). count (held_at first way f)) none in
        let less = fewer way i h x xs in
        ((λ more. absurd (omega (arith, before.1, nothing, less, more))), omega (arith, before.1, less))
    by_place (Some a) named =
        let place = place_of p e a c right named there in
        let next = taken_next p place.joint way e right place.emptying x xs s w does in
        let small = at_most_one (token_at p first e way) in (
          (λ more.
              let was = before.0 (omega (arith, next, more)) in
              let some = counted (token_at p first e way) (omega (arith, next, more, before.1)) in
              let held = sym (ap (held_at s way) place.named) ∙ (was ∙ some.1) in
              let holds =
              stay_step p place.joint way place.source e right place.filling place.emptying x o m s w some.0 fit does comes (omega (arith, next, more, before.1, small)) held in
              ap (held_at w way) place.named ∙ (holds ∙ sym some.1)),
          omega (arith, next, before.1),
        )

-- what one element takes
takes_one : (p : Plan) (first : Tokens) (x : Element) (xs : List Element) (s w : Tokens) → IsRight p → Does p x s w → Remains p first (x ∷ xs) s → (i : ℕ)
    → TakesValue p i (numbers_for p first i) x s
takes_one p first (Out d v) xs s w right does known i = tt
takes_one p first (In d v) xs s w right does known i = tt
takes_one p first (Fire l slot) xs s w right (n, r, lies, fire, leads) known i = λ same.
    subst (λ (j : ℕ). token_at p s (end_of j slot) (way_of slot) ≡ Some (numbers_for p first j (shake_of slot))) same (of_part (slice_get p.parts l) refl)
  where
    e : End
    e = end_of l slot

    of_firing : (k : Part) → slice_get p.parts l ≡ Some k → firing k (s.state l) slot ≡ Some r → token_at p s e (way_of slot) ≡ Some (numbers_for p first l (shake_of slot))
    of_firing k is fires =
        let row = row_roles k (s.state l) slot r n fires in
        let role = subst (λ (x : Slot). RoleIs k (shake_of x) (role_taking x)) row.0 row.1.0 in
        let name = has_name p s e (way_of slot) n lies in
        let at_end = joined p e name.0 right name.1 in
        let way = takes_so p l k slot is role at_end.here at_end.is_here in
        let place = place_of p e name.0 at_end.here right name.1 at_end.is_here in
        let next = taken_next p place.joint (way_taken at_end.here.role) e right place.emptying (Fire l slot) xs s w (n, r, lies, fire, leads) in
        let one : amount e (Fire l slot) ≡ 1 = ap (λ (b : Bool). if b then 1 else 0) (same_itself e) in
        let was = (known l (shake_of slot) at_end.here at_end.is_here).0 (omega (arith, next, one)) in
        let lying : token_at p first e (way_taken at_end.here.role) ≡ Some n = sym was ∙ subst (λ (z : Direction). token_at p s e z ≡ Some n) way lies in
        let value : numbers_for p first l (shake_of slot) ≡ n = ap (number_for p first e) at_end.is_here ∙ ap number lying in
        lies ∙ ap Some (sym value)

    of_part : (g : Option Part) → slice_get p.parts l ≡ g → token_at p s e (way_of slot) ≡ Some (numbers_for p first l (shake_of slot))
    of_part None none = absurd (let some : None ≡ Some r = subst (λ (g : Option Part). firing_of g (s.state l) slot ≡ Some r) none fire in cc some)
    of_part (Some k) is = of_firing k is (subst (λ (g : Option Part). firing_of g (s.state l) slot ≡ Some r) is fire)

take_all : (p : Plan) (first : Tokens) (xs : List Element) (o u : Open) (s t : Tokens) → IsRight p → holding.AllFit o s → OrderlyFrom p xs o s u t → Remains p first xs s
    → (i : ℕ) → TakesValues p i (numbers_for p first i) xs s
take_all p first [] o u s t right fit list known i = tt
take_all p first (x ∷ xs) o u s t right fit (m, w, does, comes, welcome, list) known i =
    let rest = take_all p first xs m u w t right (holding.step p x o m s w does comes fit) list (remains p first x xs o m s w right fit does comes known) i in
    (takes_one p first x xs s w right does known i, λ z also. subst (λ (y : Tokens). TakesValues p i (numbers_for p first i) xs y) (one_state p x s w z does also) rest)

pub parts_take_what_lay : PartsTakeWhatLay
parts_take_what_lay p ys xs o u first s t right idle before list few i =
    take_all p s xs o u s t right (holding.all_fit p ys _ o first s before (λ a. (idle.0 Request a, idle.0 Answer a))) list
    (λ l h c there. ((λ more. refl), few l h c there)) i
