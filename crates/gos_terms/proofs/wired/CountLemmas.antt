-- How often a point is met in a role: in flows, and among points that see handshakes.
--
-- Read first: FlowedLemmas; Counted of gos_ties.
use Rattle.std.specs.Prelude.{◌≡◌, ℕ, zero, suc, ◌+◌, ◌-◌, ◌≤◌, ◌<◌, Bool, true, false, List, [], ◌∷◌, ◌++◌, length, take, drop, Option, Some, None, slice_get, nat_eq, if◌then◌else◌, option_map}
use Rattle.std.proofs.Common.{refl, sym, ap, subst, arith}
use Rattle.std.proofs.lemmas.Option.{slice_get-map}
use Rattle.std.proofs.lemmas.Bool.{ne_eqb}
use Rattle.gos_types.specs.declared.shakes.Role.{Role}
use Rattle.gos_types.specs.declared.shakes.Role.TheVariants.{Serve, Ask}
use Rattle.gos_types.specs.Handshakes.{turned}
use Rattle.gos_model.proofs.NumberLemmas.{number_cases}
use Rattle.gos_plan.specs.Kinds.{Contact, other_side, turned_contact}
use Rattle.gos_ties.specs.declared.points.Place.{Place}
use Rattle.gos_ties.specs.declared.points.Point.{Point}
use Rattle.gos_ties.specs.Ties.{point}
use Rattle.gos_ties.specs.Counted.{place_once, once}
use Rattle.gos_compile.specs.Wiring.{row}
use Rattle.gos_terms.proofs.wired.FlowLemmas.{Flow}
use Rattle.gos_terms.proofs.wired.FlowedLemmas.{flowing}

abbrev pub alike : Role → Role → Bool
alike Serve Serve = true
alike Serve Ask = false
alike Ask Serve = false
alike Ask Ask = true

-- 1 where the point q is p, which sees a handshake in this role
abbrev pub held : Role → Point → Point → Contact → ℕ
held r q p c = if alike r c.role then once q p else 0

abbrev pub meets : Role → Point → List Flow → ℕ
meets r q [] = 0
meets r q (f ∷ fs) = held r q f.one f.contact + held r q f.other (turned_contact f.contact) + meets r q fs

abbrev pub occurs : Role → Point → List Contact → List Point → ℕ
occurs r q [] ps = 0
occurs r q (c ∷ cs) [] = 0
occurs r q (c ∷ cs) (p ∷ ps) = held r q p c + occurs r q cs ps

pub meets_two : (r : Role) (q : Point) (fs gs : List Flow) → meets r q (fs ++ gs) ≡ meets r q fs + meets r q gs
meets_two r q [] gs = omega arith
meets_two r q (f ∷ fs) gs = let rest = meets_two r q fs gs in omega (arith, rest)

pub meets_flowing : (r : Role) (q : Point) (cs : List Contact) (ps : List Point) (place : Place) (h : ℕ)
    → meets r q (flowing cs ps place h) ≡ occurs r q cs ps + occurs r q (other_side cs) (row place h (length ps))
meets_flowing r q [] ps place h = omega arith
meets_flowing r q (c ∷ cs) [] place h = omega arith
meets_flowing r q (c ∷ cs) (a ∷ ps) place h = let rest = meets_flowing r q cs ps place (suc h) in omega (arith, rest)

pub occurs_none : (r : Role) (q : Point) (cs : List Contact) → occurs r q cs [] ≡ 0
occurs_none r q [] = refl
occurs_none r q (c ∷ cs) = refl

pub occurs_two : (r : Role) (q : Point) (cs ds : List Contact) (ps rs : List Point) → length ps ≡ length cs
    → occurs r q (cs ++ ds) (ps ++ rs) ≡ occurs r q cs ps + occurs r q ds rs
occurs_two r q [] ds [] rs e = omega arith
occurs_two r q [] ds (p ∷ ps) rs e = absurd (omega (arith, e))
occurs_two r q (c ∷ cs) ds [] rs e = absurd (omega (arith, e))
occurs_two r q (c ∷ cs) ds (p ∷ ps) rs e = let rest = occurs_two r q cs ds ps rs (omega (arith, e)) in omega (arith, rest)

pub occurs_front : (r : Role) (q : Point) (cs ds : List Contact) (ps : List Point) → length ps ≤ length cs → occurs r q (cs ++ ds) ps ≡ occurs r q cs ps
occurs_front r q [] ds [] few = occurs_none r q ds
occurs_front r q [] ds (p ∷ ps) few = absurd (omega (arith, few))
occurs_front r q (c ∷ cs) ds [] few = refl
occurs_front r q (c ∷ cs) ds (p ∷ ps) few = let rest = occurs_front r q cs ds ps (omega (arith, few)) in omega (arith, rest)

pub occurs_parted : (r : Role) (q : Point) (n : ℕ) (cs ds : List Contact) (ps : List Point) → n ≡ length cs
    → occurs r q (cs ++ ds) ps ≡ occurs r q cs (take n ps) + occurs r q ds (drop n ps)
occurs_parted r q zero [] ds [] e = omega arith
occurs_parted r q zero [] ds (p ∷ ps) e = omega arith
occurs_parted r q zero (c ∷ cs) ds ps e = absurd (omega (arith, e))
occurs_parted r q (suc n) [] ds ps e = absurd (omega (arith, e))
occurs_parted r q (suc n) (c ∷ cs) ds [] e = let none = occurs_none r q ds in omega (arith, none)
occurs_parted r q (suc n) (c ∷ cs) ds (p ∷ ps) e = let rest = occurs_parted r q n cs ds ps (omega (arith, e)) in omega (arith, rest)

nothing : (b d : Bool) (x : ℕ) → x ≡ 0 → (if b then if d then x else 0 else 0) ≡ 0
nothing true true x e = e
nothing true false x e = refl
nothing false d x e = refl

pub held_none : (r : Role) (q p : Point) (c : Contact) → place_once q.place p.place ≡ 0 → held r q p c ≡ 0
held_none r q p c e = nothing (alike r c.role) (nat_eq p.shake q.shake) (place_once q.place p.place) e

pub row_none : (r : Role) (q : Point) (cs : List Contact) (place : Place) (h n : ℕ) → place_once q.place place ≡ 0 → occurs r q cs (row place h n) ≡ 0
row_none r q [] place h n e = refl
row_none r q (c ∷ cs) place h zero e = refl
row_none r q (c ∷ cs) place h (suc n) e =
    let first = held_none r q (point place h) c e in let rest = row_none r q cs place (suc h) n e in omega (arith, first, rest)

-- what is seen at a place's handshake, in a role
abbrev pub place_held : Role → Point → Place → Option Contact → ℕ
place_held r q place None = 0
place_held r q place (Some c) = if alike r c.role then place_once q.place place else 0

off : (b d : Bool) (x : ℕ) → d ≡ false → (if b then if d then x else 0 else 0) ≡ 0
off true true x e = absurd (cc e)
off true false x e = refl
off false d x e = refl

on : (b d : Bool) (x : ℕ) → (if b then if d then x else 0 else 0) ≤ (if b then x else 0)
on true true x = omega arith
on true false x = omega arith
on false d x = omega arith

row_beyond : (r : Role) (q : Point) (cs : List Contact) (place : Place) (h n : ℕ) → q.shake < h → occurs r q cs (row place h n) ≡ 0
row_beyond r q [] place h n low = refl
row_beyond r q (c ∷ cs) place h zero low = refl
row_beyond r q (c ∷ cs) place h (suc n) low =
    let differ : nat_eq h q.shake ≡ false = ne_eqb h q.shake (λ e. let f : h ≡ q.shake = e in omega (arith, f, low)) in
    let first : held r q (point place h) c ≡ 0 = off (alike r c.role) (nat_eq h q.shake) (place_once q.place place) differ in
    let rest = row_beyond r q cs place (suc h) n (omega (arith, low)) in
    omega (arith, first, rest)

row_from : (r : Role) (q : Point) (cs : List Contact) (place : Place) (h n : ℕ) → h ≤ q.shake
    → occurs r q cs (row place h n) ≤ place_held r q place (slice_get cs (q.shake - h))
row_from r q [] place h n low = omega arith
row_from r q (c ∷ cs) place h zero low = omega arith
row_from r q (c ∷ cs) place h (suc n) low =
    number_cases h q.shake
    (λ e t. let none : q.shake - h ≡ 0 = (let f : h ≡ q.shake = e in omega (arith, f)) in
    let first : held r q (point place h) c ≤ (if alike r c.role then place_once q.place place else 0) = on (alike r c.role) (nat_eq h q.shake) (place_once q.place place) in
    let rest = row_beyond r q cs place (suc h) n (let f : h ≡ q.shake = e in omega (arith, f)) in
    let at : place_held r q place (slice_get (c ∷ cs) (q.shake - h)) ≡ (if alike r c.role then place_once q.place place else 0) =
    ap (λ (k : ℕ). place_held r q place (slice_get (c ∷ cs) k)) none
    in
    omega (arith, first, rest, at))
    (λ e t. let first : held r q (point place h) c ≡ 0 = off (alike r c.role) (nat_eq h q.shake) (place_once q.place place) t in
    let above : suc h ≤ q.shake = (let f : h ≡ q.shake → ⊥ = e in omega (arith, f, low)) in
    let rest = row_from r q cs place (suc h) n above in
    let less : q.shake - h ≡ suc (q.shake - suc h) = omega (arith, above) in
    let at : place_held r q place (slice_get (c ∷ cs) (q.shake - h)) ≡ place_held r q place (slice_get cs (q.shake - suc h)) =
    ap (λ (k : ℕ). place_held r q place (slice_get (c ∷ cs) k)) less
    in
    omega (arith, first, rest, at))

pub row_at : (r : Role) (q : Point) (cs : List Contact) (place : Place) (n : ℕ) → occurs r q cs (row place 0 n) ≤ place_held r q place (slice_get cs q.shake)
row_at r q cs place n =
    let all = row_from r q cs place 0 n (omega arith) in
    let same : q.shake - 0 ≡ q.shake = omega arith in
    let at : place_held r q place (slice_get cs (q.shake - 0)) ≡ place_held r q place (slice_get cs q.shake) =
    ap (λ (k : ℕ). place_held r q place (slice_get cs k)) same
    in
    omega (arith, all, at)

-- whether what is seen is in this role
abbrev pub is_it : Role → Option Contact → Bool
is_it r None = false
is_it r (Some c) = alike r c.role

one_role : (b : Bool) (x : ℕ) → x ≤ 1 → (if b then x else 0) ≤ (if b then 1 else 0)
one_role true x few = few
one_role false x few = omega arith

pub place_few : (r : Role) (q : Point) (place : Place) (o : Option Contact) → place_once q.place place ≤ 1 → place_held r q place o ≤ (if is_it r o then 1 else 0)
place_few r q place None few = omega arith
place_few r q place (Some c) few = one_role (alike r c.role) (place_once q.place place) few

no_role : (b : Bool) (x : ℕ) → x ≡ 0 → (if b then x else 0) ≡ 0
no_role true x e = e
no_role false x e = refl

pub place_none : (r : Role) (q : Point) (place : Place) (o : Option Contact) → place_once q.place place ≡ 0 → place_held r q place o ≡ 0
place_none r q place None e = refl
place_none r q place (Some c) e = no_role (alike r c.role) (place_once q.place place) e

other_role : (r : Role) (c : Contact) → (if alike r (turned_contact c).role then 1 else 0) ≤ (if alike r c.role then 0 else 1)
other_role r c = by r c.role
  where
    by : (s t : Role) → (if alike s (turned t) then 1 else 0) ≤ (if alike s t then 0 else 1)
    by Serve Serve = omega arith
    by Serve Ask = omega arith
    by Ask Serve = omega arith
    by Ask Ask = omega arith

turned_role : (r : Role) (o : Option Contact) → (if is_it r (option_map turned_contact o) then 1 else 0) ≤ (if is_it r o then 0 else 1)
turned_role r None = omega arith
turned_role r (Some c) = other_role r c

-- what the other side sees is in the other role
pub turned_few : (r : Role) (cs : List Contact) (k : ℕ) → (if is_it r (slice_get (other_side cs) k) then 1 else 0) ≤ (if is_it r (slice_get cs k) then 0 else 1)
turned_few r cs k =
    subst (λ (o : Option Contact). (if is_it r o then 1 else 0) ≤ (if is_it r (slice_get cs k) then 0 else 1)) (sym (slice_get-map turned_contact cs k))
    (turned_role r (slice_get cs k))
