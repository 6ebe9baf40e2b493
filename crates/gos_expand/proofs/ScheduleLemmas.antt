-- The order of a cycle's firings: the early ones by the ranks of the ends at which their tokens are taken, and then the late
-- ones. Here it is told how often each slot stands in it, and which ranks there are.
use Rattle.std.specs.Prelude.{◌&&◌, nat_lt}
use Rattle.std.proofs.Common.{◌≡◌, ℕ, zero, suc, ◌+◌, ◌≤◌, ◌<◌, Bool, true, false, not, List, [], ◌∷◌, ◌++◌, Some, slice_get, length, refl, sym, ◌∙◌, ap, subst, arith, nat_eq, if◌then◌else◌}
use Rattle.gos_netlist.specs.Settling.{Numbers}
use Rattle.gos_plan.specs.Kinds.{Part, Contact, part_contacts}
use Rattle.gos_plan.specs.Firing.{Slot}
use Rattle.gos_plan.specs.Plans.{End, PartEnd, Plan}
use Rattle.gos_plan.specs.Tokens.{Element, Fire, shake_of}
use Rattle.gos_macro.specs.Gates.{slot_in, slots_of, is_among, pulse_in}
use Rattle.gos_macro.specs.Law.{pulse_at, pulsed, late_slots, early_slots, Order, in_order}
use Rattle.gos_macro.specs.laws.AnyOrder.{ranked_below, in_order_times, exactly_in_order}
pub use Rattle.gos_macro.specs.laws.Counting.{times_pulsed}
use Rattle.gos_macro.proofs.causal.FiringLemmas.{pulsed-append, same_in_order, none_pulsed}
use Rattle.gos_plan.specs.Firings.{times}
use Rattle.gos_plan.specs.Made.{PartFiring, fires_of}
use Rattle.gos_plan.specs.Projection.{firings_of}
use Rattle.gos_expand.specs.Starts.{Laying}
use Rattle.gos_expand.specs.Gates.{Making, late_of}
use Rattle.gos_expand.specs.Facts.{Places, incoming_at, order_at}
use Rattle.gos_expand.proofs.TallyLemmas.{Each, times-append, firings-append, each_once, pulse_there, shake_in}

-- which handshakes of which parts
abbrev pub Choice : Type 0
Choice = ℕ → Part → ℕ → Bool

abbrev pub tagged : ℕ → List Slot → List PartFiring
tagged i [] = []
tagged i (t ∷ ts) = record { part = i; takes = t } ∷ tagged i ts

-- those that are chosen, from part i on
abbrev pub chosen_from : Choice → ℕ → List Part → List PartFiring
chosen_from these i [] = []
chosen_from these i (k ∷ ks) = tagged i (slots_of (these i k) 0 (part_contacts k)) ++ chosen_from these (suc i) ks

-- the early ones of a rank, and of lower ranks; and the late ones
abbrev pub is_early : Making → Part → ℕ → Bool
is_early m k h = not (is_among (late_of m k) h)

abbrev pub at_rank : Laying → (End → ℕ) → ℕ → Choice
at_rank lay rank r i k h = is_early (lay.making i) k h && nat_eq (rank (PartEnd i h)) r

abbrev pub below_rank : Laying → (End → ℕ) → ℕ → Choice
below_rank lay rank r i k h = is_early (lay.making i) k h && nat_lt (rank (PartEnd i h)) r

abbrev pub are_late : Laying → Choice
are_late lay i k h = is_among (late_of (lay.making i) k) h

-- the early ones of ranks below r, in the order of ranks
abbrev pub early_below : Laying → Plan → (End → ℕ) → ℕ → List PartFiring
early_below lay p rank zero = []
early_below lay p rank (suc r) = early_below lay p rank r ++ chosen_from (at_rank lay rank r) 0 p.parts

abbrev pub late_ones : Laying → Plan → List PartFiring
late_ones lay p = chosen_from (are_late lay) 0 p.parts

-- a number above the ranks of all ends of parts
abbrev pub top_of : (ℕ → ℕ) → ℕ → List Contact → ℕ
top_of f h [] = 0
top_of f h (c ∷ cs) = suc (f h) + top_of f (suc h) cs

abbrev pub top_from : (End → ℕ) → ℕ → List Part → ℕ
top_from rank i [] = 0
top_from rank i (k ∷ ks) = top_of (λ h. rank (PartEnd i h)) 0 (part_contacts k) + top_from rank (suc i) ks

abbrev pub top : Plan → (End → ℕ) → ℕ
top p rank = top_from rank 0 p.parts

-- those at which a pulse comes in
abbrev pub with_pulse : Plan → Places → Numbers → List PartFiring → List PartFiring
with_pulse p n v [] = []
with_pulse p n v (f ∷ fs) =
    if nat_eq (pulse_in v (incoming_at p n f.part) (shake_of f.takes)) 1 then f ∷ with_pulse p n v fs else with_pulse p n v fs

abbrev pub early_made : Laying → Plan → Places → (End → ℕ) → Numbers → ℕ → List PartFiring
early_made lay p n rank v r = with_pulse p n v (early_below lay p rank r)

abbrev pub made_firings : Laying → Plan → Places → (End → ℕ) → Numbers → List PartFiring
made_firings lay p n rank v = early_made lay p n rank v (top p rank) ++ with_pulse p n v (late_ones lay p)

pub fires-append : (xs ys : List PartFiring) → fires_of (xs ++ ys) ≡ fires_of xs ++ fires_of ys
fires-append [] ys = refl
fires-append (x ∷ xs) ys = ap (λ (l : List Element). Fire x.part x.takes ∷ l) (fires-append xs ys)

pub firings_joined : (i : ℕ) (xs ys : List PartFiring) → firings_of i (fires_of (xs ++ ys)) ≡ firings_of i (fires_of xs) ++ firings_of i (fires_of ys)
firings_joined i xs ys = ap (firings_of i) (fires-append xs ys) ∙ firings-append i (fires_of xs) (fires_of ys)

abbrev no_slots : List Slot
no_slots = []

firings_tagged : (i j : ℕ) (ts : List Slot) → firings_of j (fires_of (tagged i ts)) ≡ (if nat_eq i j then ts else [])
firings_tagged i j [] = by_test (nat_eq i j)
  where
    by_test : (b : Bool) → no_slots ≡ (if b then no_slots else no_slots)
    by_test true = refl
    by_test false = refl
firings_tagged i j (t ∷ ts) = by_test (nat_eq i j) (firings_tagged i j ts)
  where
    by_test : (b : Bool) → firings_of j (fires_of (tagged i ts)) ≡ (if b then ts else [])
        → (if b then t ∷ firings_of j (fires_of (tagged i ts)) else firings_of j (fires_of (tagged i ts))) ≡ (if b then t ∷ ts else [])
    by_test true h = ap (λ (l : List Slot). t ∷ l) h
    by_test false h = h

abbrev slots_here : Choice → ℕ → Part → List Slot
slots_here these i k = slots_of (these i k) 0 (part_contacts k)

firings_two : (these : Choice) (i j : ℕ) (k : Part) (ks : List Part)
    → firings_of j (fires_of (chosen_from these i (k ∷ ks)))
    ≡ (if nat_eq i j then slots_here these i k else []) ++ firings_of j (fires_of (chosen_from these (suc i) ks))
firings_two these i j k ks =
    firings_joined j (tagged i (slots_here these i k)) (chosen_from these (suc i) ks)
    ∙ ap (λ (l : List Slot). l ++ firings_of j (fires_of (chosen_from these (suc i) ks))) (firings_tagged i j (slots_here these i k))

no_firings_before : (these : Choice) (i j : ℕ) (ks : List Part) → j < i → firings_of j (fires_of (chosen_from these i ks)) ≡ []
no_firings_before these i j [] lt = refl
no_firings_before these i j (k ∷ ks) lt =
    let other : nat_eq i j ≡ false = grind (arith, lt) in
    firings_two these i j k ks ∙ rw other (no_firings_before these (suc i) j ks (omega (arith, lt)))

nil_right : (xs : List Slot) → xs ++ [] ≡ xs
nil_right [] = refl
nil_right (x ∷ xs) = ap (λ (l : List Slot). x ∷ l) (nil_right xs)

firings_among : (these : Choice) (i m j : ℕ) (ks : List Part) (k : Part) → j ≡ i + m → slice_get ks m ≡ Some k
    → firings_of j (fires_of (chosen_from these i ks)) ≡ slots_here these j k
firings_among these i m j [] k e there = absurd (grind (arith, there))
firings_among these i zero j (x ∷ ks) k e there =
    let here : i ≡ j = omega (arith, e) in
    let is : x ≡ k = cc there in
    let at_j : nat_eq i j ≡ true = grind (arith, here) in
    firings_two these i j x ks
    ∙ (ap (λ (l : List Slot). (if nat_eq i j then slots_here these i x else []) ++ l) (no_firings_before these (suc i) j ks (omega (arith, here)))
    ∙ (nil_right (if nat_eq i j then slots_here these i x else []) ∙ rw at_j (λ l. slots_here these (here l) (is l))))
firings_among these i (suc m) j (x ∷ ks) k e there =
    let other : nat_eq i j ≡ false = grind (arith, e) in
    firings_two these i j x ks ∙ rw other (firings_among these (suc i) m j ks k (omega (arith, e)) there)

-- those of one part
pub firings_chosen : (p : Plan) (these : Choice) (i : ℕ) (k : Part) → slice_get p.parts i ≡ Some k
    → firings_of i (fires_of (chosen_from these 0 p.parts)) ≡ slots_of (these i k) 0 (part_contacts k)
firings_chosen p these i k is = firings_among these 0 i i p.parts k (omega arith) is

-- with a pulse
pub firings_pulsed : (p : Plan) (n : Places) (v : Numbers) (i : ℕ) (fs : List PartFiring)
    → firings_of i (fires_of (with_pulse p n v fs)) ≡ pulsed (pulse_in v (incoming_at p n i)) (firings_of i (fires_of fs))
firings_pulsed p n v i [] = refl
firings_pulsed p n v i (f ∷ fs) = by_part (nat_eq f.part i) refl (firings_pulsed p n v i fs)
  where
    rest : List PartFiring
    rest = with_pulse p n v fs

    behind : List Slot
    behind = firings_of i (fires_of fs)

    pulse : ℕ → ℕ
    pulse = pulse_in v (incoming_at p n i)

    test : ℕ → Bool
    test m = nat_eq (pulse_in v (incoming_at p n m) (shake_of f.takes)) 1

    own : (x : Bool) → nat_eq f.part i ≡ true → firings_of i (fires_of rest) ≡ pulsed pulse behind
        → firings_of i (fires_of (if x then f ∷ rest else rest)) ≡ (if x then f.takes ∷ pulsed pulse behind else pulsed pulse behind)
    own true here h = rw here (ap (λ (l : List Slot). f.takes ∷ l) h)
    own false here h = h

    other : (x : Bool) → nat_eq f.part i ≡ false → firings_of i (fires_of rest) ≡ pulsed pulse behind
        → firings_of i (fires_of (if x then f ∷ rest else rest)) ≡ pulsed pulse behind
    other true apart h = rw apart h
    other false apart h = h

    by_part : (b : Bool) → nat_eq f.part i ≡ b → firings_of i (fires_of rest) ≡ pulsed pulse behind
        → firings_of i (fires_of (if test f.part then f ∷ rest else rest)) ≡ pulsed pulse (if b then f.takes ∷ behind else behind)
    by_part true here h =
        let same_part : f.part ≡ i = grind (arith, here) in
        ap (λ (m : ℕ). firings_of i (fires_of (if test m then f ∷ rest else rest))) same_part ∙ own (test i) here h
    by_part false apart h = other (test f.part) apart h

pub with_pulse-append : (p : Plan) (n : Places) (v : Numbers) (xs ys : List PartFiring) → with_pulse p n v (xs ++ ys) ≡ with_pulse p n v xs ++ with_pulse p n v ys
with_pulse-append p n v [] ys = refl
with_pulse-append p n v (x ∷ xs) ys = by_test (nat_eq (pulse_in v (incoming_at p n x.part) (shake_of x.takes)) 1) (with_pulse-append p n v xs ys)
  where
    by_test : (b : Bool) → with_pulse p n v (xs ++ ys) ≡ with_pulse p n v xs ++ with_pulse p n v ys
        → (if b then x ∷ with_pulse p n v (xs ++ ys) else with_pulse p n v (xs ++ ys)) ≡ (if b then x ∷ with_pulse p n v xs else with_pulse p n v xs) ++ with_pulse p n v ys
    by_test true h = ap (λ (l : List PartFiring). x ∷ l) h
    by_test false h = h

-- the early firings of a part, of ranks below r, stand in this order
pub early_listed : (lay : Laying) → (p : Plan) (rank : End → ℕ) (r i : ℕ) (k : Part) → slice_get p.parts i ≡ Some k
    → firings_of i (fires_of (early_below lay p rank r)) ≡ in_order (order_at rank i) r (is_early (lay.making i) k) (part_contacts k)
early_listed lay p rank zero i k is = refl
early_listed lay p rank (suc r) i k is =
    firings_joined i (early_below lay p rank r) (chosen_from (at_rank lay rank r) 0 p.parts)
    ∙ (λ l. early_listed lay p rank r i k is l ++ firings_chosen p (at_rank lay rank r) i k is l)

-- so each slot stands there as often as by number
pub early_times : (lay : Laying) → (p : Plan) (rank : End → ℕ) (r i : ℕ) (k : Part) (s : Slot) → slice_get p.parts i ≡ Some k
    → times s (firings_of i (fires_of (early_below lay p rank r))) ≡ times s (slots_of (below_rank lay rank r i k) 0 (part_contacts k))
early_times lay p rank r i k s is =
    ap (times s) (early_listed lay p rank r i k is) ∙ in_order_times (order_at rank i) r (is_early (lay.making i) k) (part_contacts k) s

-- all ranks are below the top
top_within : (f : ℕ → ℕ) (h g m : ℕ) (cs : List Contact) → m ≡ h + g → g < length cs → f m < top_of f h cs
top_within f h g m [] e lt = absurd (omega (arith, lt))
top_within f h zero m (c ∷ cs) e lt =
    let same : h ≡ m = omega (arith, e) in
    let values : f h ≡ f m = ap f same in
    omega (arith, values)
top_within f h (suc g) m (c ∷ cs) e lt = let rest = top_within f (suc h) g m cs (omega (arith, e)) (omega (arith, lt)) in omega (arith, rest)

top_among : (rank : End → ℕ) (i m j h : ℕ) (ks : List Part) (k : Part) → j ≡ i + m → slice_get ks m ≡ Some k → h < length (part_contacts k)
    → rank (PartEnd j h) < top_from rank i ks
top_among rank i m j h [] k e there lt = absurd (grind (arith, there))
top_among rank i zero j h (x ∷ ks) k e there lt =
    let here : i ≡ j = omega (arith, e) in
    let is : x ≡ k = cc there in
    let within : rank (PartEnd i h) < top_of (λ g. rank (PartEnd i g)) 0 (part_contacts x) =
    top_within (λ g. rank (PartEnd i g)) 0 h h (part_contacts x) (omega arith) (subst (λ (y : Part). h < length (part_contacts y)) (sym is) lt) in
    let same_rank : rank (PartEnd i h) ≡ rank (PartEnd j h) = ap (λ (l : ℕ). rank (PartEnd l h)) here in
    omega (arith, within, same_rank)
top_among rank i (suc m) j h (x ∷ ks) k e there lt =
    let rest = top_among rank (suc i) m j h ks k (omega (arith, e)) there lt in omega (arith, rest)

pub below_top : (p : Plan) (rank : End → ℕ) (i h : ℕ) (k : Part) → slice_get p.parts i ≡ Some k → h < length (part_contacts k)
    → rank (PartEnd i h) < top p rank
below_top p rank i h k is lt = top_among rank 0 i i h p.parts k (omega arith) is lt

-- With the pulses of ranks below r alone, a list of more ranks is that of these.
pub cut_order : (f : ℕ → ℕ) (rank : Order) (these : ℕ → Bool) (cs : List Contact) (r m t : ℕ) → t ≡ m + r
    → pulsed (λ h. if ranked_below rank r these h then f h else 0) (in_order rank t these cs) ≡ pulsed f (in_order rank r these cs)
cut_order f rank these cs r zero t is =
    let here : t ≡ r = omega (arith, is) in
    ap (λ (n : ℕ). pulsed g (in_order rank n these cs)) here ∙ same_in_order g f rank these cs r (λ h small in_these low. inside (these h) (rank h) (f h) in_these low)
  where
    g : ℕ → ℕ
    g h = if ranked_below rank r these h then f h else 0

    inside : (x : Bool) (n a : ℕ) → x ≡ true → n < r → (if x && nat_lt n r then a else 0) ≡ a
    inside true n a e low = let below : nat_lt n r ≡ true = grind (arith, low) in rw below refl
    inside false n a e low = absurd (cc e)
cut_order f rank these cs r (suc m) zero is = absurd (omega (arith, is))
cut_order f rank these cs r (suc m) (suc t) is =
    pulsed-append g (in_order rank t these cs) (slots_of chosen 0 cs)
    ∙ ((λ j. cut_order f rank these cs r m t (omega (arith, is)) j ++ none_pulsed g chosen (length cs) (λ h small at_t. behind (these h) (rank h) (f h) at_t) 0 cs (omega arith) j)
    ∙ nil_right (pulsed f (in_order rank r these cs)))
  where
    g : ℕ → ℕ
    g h = if ranked_below rank r these h then f h else 0

    chosen : ℕ → Bool
    chosen h = these h && nat_eq (rank h) t

    behind : (x : Bool) (n a : ℕ) → (x && nat_eq n t) ≡ true → (if x && nat_lt n r then a else 0) ≡ 0
    behind true n a e = let not_below : nat_lt n r ≡ false = grind (arith, e, is) in rw not_below refl
    behind false n a e = refl

-- the slots of a part in all firings
pub slots_made : (lay : Laying) → (p : Plan) (n : Places) (rank : End → ℕ) (v : Numbers) (i : ℕ) (k : Part) → slice_get p.parts i ≡ Some k
    → firings_of i (fires_of (made_firings lay p n rank v))
    ≡ pulsed (pulse_in v (incoming_at p n i)) (firings_of i (fires_of (early_below lay p rank (top p rank))))
    ++ pulsed (pulse_in v (incoming_at p n i)) (late_slots k (late_of (lay.making i) k))
slots_made lay p n rank v i k is =
    firings_joined i (early_made lay p n rank v (top p rank)) (with_pulse p n v (late_ones lay p))
    ∙ (λ l. firings_pulsed p n v i (early_below lay p rank (top p rank)) l ++ late l)
  where
    late : firings_of i (fires_of (with_pulse p n v (late_ones lay p))) ≡ pulsed (pulse_in v (incoming_at p n i)) (late_slots k (late_of (lay.making i) k))
    late = firings_pulsed p n v i (late_ones lay p) ∙ ap (pulsed (pulse_in v (incoming_at p n i))) (firings_chosen p (are_late lay) i k is)

-- of which the early ones are exactly those that have a pulse
pub exactly_early : (lay : Laying) → (p : Plan) (rank : End → ℕ) (f : ℕ → ℕ) (i : ℕ) (k : Part) (s : Slot) → slice_get p.parts i ≡ Some k
    → ((g : ℕ) → g < length (part_contacts k) → f g ≤ 1)
    → times s (pulsed f (firings_of i (fires_of (early_below lay p rank (top p rank))))) ≡ pulse_at f s (early_slots k (late_of (lay.making i) k))
exactly_early lay p rank f i k s is small =
    ap (λ (l : List Slot). times s (pulsed f l)) (early_listed lay p rank (top p rank) i k is)
    ∙ exactly_in_order f (order_at rank i) (top p rank) (is_early (lay.making i) k) (part_contacts k) (λ h lt. below_top p rank i h k is lt) (λ h lt in_these. small h lt) s

-- one slot stands once where its handshake is chosen
all_pulsed : (ts : List Slot) → pulsed (λ h. 1) ts ≡ ts
all_pulsed [] = refl
all_pulsed (t ∷ ts) = ap (λ (l : List Slot). t ∷ l) (all_pulsed ts)

pub chosen_once : (these : ℕ → Bool) (h : ℕ) (cs : List Contact) (c : Contact) → slice_get cs h ≡ Some c
    → times (slot_in c.role h) (slots_of these 0 cs) ≡ (if these h then 1 else 0)
chosen_once these h cs c there =
    ap (times (slot_in c.role h)) (sym (all_pulsed (slots_of these 0 cs)))
    ∙ (each_once (λ g. 1) these 0 cs (slot_in c.role h) (λ g lt. omega arith) ∙ pulse_there (λ g. 1) these 0 h h cs c (omega arith) there)

pub pulsed_once : (f : ℕ → ℕ) (these : ℕ → Bool) (h : ℕ) (cs : List Contact) (c : Contact) → slice_get cs h ≡ Some c
    → times (slot_in c.role h) (pulsed f (slots_of these 0 cs)) ≡ (if nat_eq (f h) 1 then (if these h then 1 else 0) else 0)
pulsed_once f these h cs c there =
    times_pulsed f (slot_in c.role h) (slots_of these 0 cs)
    ∙ (λ l. if nat_eq (f (shake_in c.role h l)) 1 then chosen_once these h cs c there l else 0)

-- how often a slot stands among all firings: as its pulse says
pub slot_count : (lay : Laying) → (p : Plan) (n : Places) (rank : End → ℕ) (v : Numbers) (i h : ℕ) (k : Part) (c : Contact) → slice_get p.parts i ≡ Some k
    → ((g : ℕ) → g < length (part_contacts k) → pulse_in v (incoming_at p n i) g ≤ 1) → slice_get (part_contacts k) h ≡ Some c
    → times (slot_in c.role h) (firings_of i (fires_of (made_firings lay p n rank v))) ≡ pulse_in v (incoming_at p n i) h
slot_count lay p n rank v i h k c is small there =
    ap (times (slot_in c.role h)) (slots_made lay p n rank v i k is)
    ∙ (times-append (slot_in c.role h) (pulsed pulse (firings_of i (fires_of (early_below lay p rank (top p rank))))) (pulsed pulse (late_slots k (late_of (lay.making i) k)))
    ∙ ((λ l. early l + late l) ∙ by_test (is_among (late_of (lay.making i) k) h)))
  where
    pulse : ℕ → ℕ
    pulse = pulse_in v (incoming_at p n i)

    early : times (slot_in c.role h) (pulsed pulse (firings_of i (fires_of (early_below lay p rank (top p rank))))) ≡ (if not (is_among (late_of (lay.making i) k) h) then pulse h else 0)
    early = exactly_early lay p rank pulse i k (slot_in c.role h) is small ∙ pulse_there pulse (is_early (lay.making i) k) 0 h h (part_contacts k) c (omega arith) there

    late : times (slot_in c.role h) (pulsed pulse (late_slots k (late_of (lay.making i) k))) ≡ (if is_among (late_of (lay.making i) k) h then pulse h else 0)
    late =
        each_once pulse (is_among (late_of (lay.making i) k)) 0 (part_contacts k) (slot_in c.role h) (λ g lt. small g (omega (arith, lt)))
        ∙ pulse_there pulse (is_among (late_of (lay.making i) k)) 0 h h (part_contacts k) c (omega arith) there

    by_test : (b : Bool) → (if not b then pulse h else 0) + (if b then pulse h else 0) ≡ pulse h
    by_test true = omega arith
    by_test false = omega arith

-- what holds of each firing of a list
abbrev pub EachFiring : (PartFiring → Type 0) → List PartFiring → Type 0
EachFiring Q [] = Unit {0}
EachFiring Q (f ∷ fs) = Q f × EachFiring Q fs

each_joined : (Q : PartFiring → Type 0) (xs ys : List PartFiring) → EachFiring Q xs → EachFiring Q ys → EachFiring Q (xs ++ ys)
each_joined Q [] ys h g = g
each_joined Q (x ∷ xs) ys h g = (h.0, each_joined Q xs ys h.1 g)

each_tagged : (Q : PartFiring → Type 0) (i : ℕ) (ts : List Slot) → Each (λ t. Q (record { part = i; takes = t })) ts → EachFiring Q (tagged i ts)
each_tagged Q i [] h = tt
each_tagged Q i (t ∷ ts) h = (h.0, each_tagged Q i ts h.1)

each_slot : (Q : Slot → Type 0) (these : ℕ → Bool) (h : ℕ) (cs : List Contact)
    → ((g m : ℕ) (c : Contact) → m ≡ h + g → slice_get cs g ≡ Some c → these m ≡ true → Q (slot_in c.role m)) → Each Q (slots_of these h cs)
each_slot Q these h [] all = tt
each_slot Q these h (c ∷ cs) all = by_test (these h) (all 0 h c (omega arith) refl) (each_slot Q these (suc h) cs (λ g m d e there. all (suc g) m d (omega (arith, e)) there))
  where
    by_test : (b : Bool) → (b ≡ true → Q (slot_in c.role h)) → Each Q (slots_of these (suc h) cs)
        → Each Q (if b then slot_in c.role h ∷ slots_of these (suc h) cs else slots_of these (suc h) cs)
    by_test true here rest = (here refl, rest)
    by_test false here rest = rest

each_from : (Q : PartFiring → Type 0) (these : Choice) (i : ℕ) (ks : List Part)
    → ((m j h : ℕ) (k : Part) (c : Contact) → j ≡ i + m → slice_get ks m ≡ Some k → slice_get (part_contacts k) h ≡ Some c → these j k h ≡ true
    → Q (record { part = j; takes = slot_in c.role h })) → EachFiring Q (chosen_from these i ks)
each_from Q these i [] all = tt
each_from Q these i (k ∷ ks) all =
    each_joined Q (tagged i (slots_here these i k)) (chosen_from these (suc i) ks)
    (each_tagged Q i (slots_here these i k)
    (each_slot (λ t. Q (record { part = i; takes = t })) (these i k) 0 (part_contacts k)
    (λ g m c e there chosen.
    let same_place : g ≡ m = omega (arith, e) in
    all 0 i m k c (omega arith) refl (subst (λ (x : ℕ). slice_get (part_contacts k) x ≡ Some c) same_place there) chosen)))
    (each_from Q these (suc i) ks (λ m j h x c e there own chosen. all (suc m) j h x c (omega (arith, e)) there own chosen))

pub each_chosen : (p : Plan) (Q : PartFiring → Type 0) (these : Choice)
    → ((i h : ℕ) (k : Part) (c : Contact) → slice_get p.parts i ≡ Some k → slice_get (part_contacts k) h ≡ Some c → these i k h ≡ true
    → Q (record { part = i; takes = slot_in c.role h })) → EachFiring Q (chosen_from these 0 p.parts)
each_chosen p Q these all =
    each_from Q these 0 p.parts
    (λ m j h k c e there own chosen.
    let same_part : m ≡ j = omega (arith, e) in
    all j h k c (subst (λ (x : ℕ). slice_get p.parts x ≡ Some k) same_part there) own chosen)

pub each_with_pulse : (p : Plan) (n : Places) (v : Numbers) (Q : PartFiring → Type 0) (fs : List PartFiring)
    → EachFiring (λ f. pulse_in v (incoming_at p n f.part) (shake_of f.takes) ≡ 1 → Q f) fs → EachFiring Q (with_pulse p n v fs)
each_with_pulse p n v Q [] h = tt
each_with_pulse p n v Q (f ∷ fs) h = by_test (nat_eq (pulse_in v (incoming_at p n f.part) (shake_of f.takes)) 1) refl (each_with_pulse p n v Q fs h.1)
  where
    by_test : (b : Bool) → nat_eq (pulse_in v (incoming_at p n f.part) (shake_of f.takes)) 1 ≡ b → EachFiring Q (with_pulse p n v fs)
        → EachFiring Q (if b then f ∷ with_pulse p n v fs else with_pulse p n v fs)
    by_test true e rest = (h.0 (grind (arith, e)), rest)
    by_test false e rest = rest
