-- The joints of a plan that is right are at most half of its ends: no end stands in two of them.
use Rattle.std.specs.Prelude.{◌≡◌, ℕ, zero, suc, ◌+◌, ◌*◌, ◌≤◌, ◌<◌, Bool, true, false, not, ◌&&◌, ◌||◌, List, [], ◌∷◌, ◌++◌, Option, None, Some, length, slice_get, if◌then◌else◌}
use Rattle.std.proofs.Common.{refl, ap, sym, ◌∙◌, subst, arith, true≢false, length-append}
use Rattle.gos_types.specs.declared.shakes.Role.{Role}
use Rattle.gos_types.specs.declared.shakes.Role.TheVariants.{Ask}
use Rattle.gos_types.proofs.RoleLemmas.{ask_is_not_serve}
use Rattle.gos_model.specs.Typing.{Imports}
use Rattle.gos_plan.specs.Kinds.{Part, Contact, asks, serves, contacts_of, part_contacts}
use Rattle.gos_plan.specs.Plans.{End, PartEnd, ImportEnd, ResultEnd, Joint, Plan, contact_at, contacts_of_part, contacts_of_import, turned_if, same_end, is_free, AreRight, IsRight}
use Rattle.gos_realises.specs.realises.Regular.{count}
use Rattle.gos_realises.specs.realises.Slim.{all_shakes}
use Rattle.gos_plan.proofs.JointLemmas.{same_is, same_itself}

abbrev role_or : Option Contact → Role
role_or None = Ask
role_or (Some c) = c.role

-- how often an end is in a list
abbrev appears : End → List End → ℕ
appears e [] = 0
appears e (x ∷ xs) = (if same_end x e then 1 else 0) + appears e xs

appears-append : (e : End) (xs ys : List End) → appears e (xs ++ ys) ≡ appears e xs + appears e ys
appears-append e [] ys = omega arith
appears-append e (x ∷ xs) ys = let rest = appears-append e xs ys in omega (arith, rest)

-- a list that has each end at most as often as another is no longer
abbrev without : End → List End → List End
without x [] = []
without x (y ∷ ys) = if same_end y x then ys else y ∷ without x ys

without_one : (x : End) (ys : List End) → 0 < appears x ys
    → ((e : End) → appears e ys ≡ (if same_end x e then 1 else 0) + appears e (without x ys)) × (length ys ≡ suc (length (without x ys)))
without_one x [] h = absurd (omega (arith, h))
without_one x (y ∷ ys) h = by (same_end y x) refl (without_one x ys) h
  where
    by : (b : Bool) → same_end y x ≡ b
        → (0 < appears x ys
        → ((e : End) → appears e ys ≡ (if same_end x e then 1 else 0) + appears e (without x ys)) × (length ys ≡ suc (length (without x ys))))
        → 0 < (if b then 1 else 0) + appears x ys
        → ((e : End) → appears e (y ∷ ys) ≡ (if same_end x e then 1 else 0) + appears e (if b then ys else y ∷ without x ys))
        × (length (y ∷ ys) ≡ suc (length (if b then ys else y ∷ without x ys)))
    by true t rest some =
        let same : y ≡ x = same_is y x t in
        ((λ e. ap (λ (z : End). (if same_end z e then 1 else 0) + appears e ys) same), refl)
    by false t rest some =
        let (counts, size) = rest (omega (arith, some)) in ((λ e. let one = counts e in omega (arith, one)), omega (arith, size))

shorter : (xs ys : List End) → ((e : End) → appears e xs ≤ appears e ys) → length xs ≤ length ys
shorter [] ys h = omega arith
shorter (x ∷ xs) ys h =
    let there : appears x (x ∷ xs) ≡ 1 + appears x xs = rw (same_itself x) refl in
    let all = h x in
    let (counts, size) = without_one x ys (omega (arith, all, there)) in
    let rest = shorter xs (without x ys) (λ e. let one = counts e in let more = h e in omega (arith, one, more)) in
    omega (arith, size, rest)

-- the ends of joints
abbrev ends_of : List Joint → List End
ends_of [] = []
ends_of (j ∷ js) = j.asking ∷ j.serving ∷ ends_of js

ends_length : (js : List Joint) → length (ends_of js) ≡ 2 * length js
ends_length [] = omega arith
ends_length (j ∷ js) = let rest = ends_length js in omega (arith, rest)

-- there is a handshake at the end
abbrev IsThere : Plan → End → Type 0
IsThere p e = (c : Contact) × (contact_at p e ≡ Some c)

-- an end stands at most once in joints that are right, in none before them, and is there
abbrev IsFresh : Plan → List Joint → List Joint → End → Type 0
IsFresh p before js e = (appears e (ends_of js) ≤ 1) × (0 < appears e (ends_of js) → (is_free e before ≡ true) × IsThere p e)

free_parts : (a b c : Bool) → (not (a || b) && c) ≡ true → (a ≡ false) × (b ≡ false) × (c ≡ true)
free_parts true b c h = absurd (true≢false (sym h))
free_parts false true c h = absurd (true≢false (sym h))
free_parts false false c h = (refl, refl, h)

fresh : (p : Plan) (before js : List Joint) → AreRight p before js → (e : End) → IsFresh p before js e
fresh p before [] right e = (omega arith, λ h. absurd (omega (arith, h)))
fresh p before (j ∷ js) (((q, v, asks_there, serves_there), free_asking, free_serving), rest) e =
    by (same_end j.asking e) (same_end j.serving e) refl refl (fresh p (j ∷ before) js rest e)
  where
    -- an end of this joint is in none of those behind it
    gone : (same_end e j.asking ≡ true) → IsFresh p (j ∷ before) js e → appears e (ends_of js) ≡ 0
    gone same (few, known) = none (appears e (ends_of js)) refl
      where
        none : (n : ℕ) → appears e (ends_of js) ≡ n → appears e (ends_of js) ≡ 0
        none zero is = is
        none (suc n) is =
            let (free, there) = known (omega (arith, is)) in
            let (other, more, rest) = free_parts (same_end e j.asking) (same_end e j.serving) (is_free e before) free in
            absurd (true≢false (sym same ∙ other))

    gone_serving : (same_end e j.serving ≡ true) → IsFresh p (j ∷ before) js e → appears e (ends_of js) ≡ 0
    gone_serving same (few, known) = none (appears e (ends_of js)) refl
      where
        none : (n : ℕ) → appears e (ends_of js) ≡ n → appears e (ends_of js) ≡ 0
        none zero is = is
        none (suc n) is =
            let (free, there) = known (omega (arith, is)) in
            let (more, other, rest) = free_parts (same_end e j.asking) (same_end e j.serving) (is_free e before) free in
            absurd (true≢false (sym same ∙ other))

    turned : (x : End) → same_end x e ≡ true → same_end e x ≡ true
    turned x h = let same : x ≡ e = same_is x e h in ap (λ (y : End). same_end e y) same ∙ same_itself e

    not_both : j.asking ≡ e → j.serving ≡ e → ⊥
    not_both one other =
        let there : contact_at p j.asking ≡ Some (serves q v) =
        subst (λ (x : End). contact_at p x ≡ Some (serves q v)) (other ∙ sym one) serves_there
        in
        ask_is_not_serve (ap (λ (o : Option Contact). role_or o) (sym asks_there ∙ there))

    by : (a b : Bool) → same_end j.asking e ≡ a → same_end j.serving e ≡ b → IsFresh p (j ∷ before) js e
        → ((if a then 1 else 0) + ((if b then 1 else 0) + appears e (ends_of js)) ≤ 1)
        × (0 < (if a then 1 else 0) + ((if b then 1 else 0) + appears e (ends_of js)) → (is_free e before ≡ true) × IsThere p e)
    by true true s t known = absurd (not_both (same_is j.asking e s) (same_is j.serving e t))
    by true false s t known =
        let none = gone (turned j.asking s) known in
        let here : j.asking ≡ e = same_is j.asking e s in (
          omega (arith, none),
          λ h. (
            subst (λ (x : End). is_free x before ≡ true) here free_asking,
            (asks q v, subst (λ (x : End). contact_at p x ≡ Some (asks q v)) here asks_there),
          ),
        )
    by false true s t known =
        let none = gone_serving (turned j.serving t) known in
        let here : j.serving ≡ e = same_is j.serving e t in (
          omega (arith, none),
          λ h. (
            subst (λ (x : End). is_free x before ≡ true) here free_serving,
            (serves q v, subst (λ (x : End). contact_at p x ≡ Some (serves q v)) here serves_there),
          ),
        )
    by false false s t (few, known) = (
      omega (arith, few),
      λ h. (let (free, there) = known (omega (arith, h)) in
          let (other, more, left) = free_parts (same_end e j.asking) (same_end e j.serving) (is_free e before) free in
          (left, there)),
    )

-- all ends of a plan
abbrev end_row : (ℕ → End) → ℕ → ℕ → List End
end_row f h zero = []
end_row f h (suc n) = f h ∷ end_row f (suc h) n

abbrev parts_ends : ℕ → List Part → List End
parts_ends i [] = []
parts_ends i (k ∷ ks) = end_row (PartEnd i) 0 (length (part_contacts k)) ++ parts_ends (suc i) ks

abbrev imports_ends : ℕ → Imports → List End
imports_ends i [] = []
imports_ends i (x ∷ xs) = end_row (ImportEnd i) 0 (length (contacts_of x.ty)) ++ imports_ends (suc i) xs

abbrev all_ends : Plan → List End
all_ends p = parts_ends 0 p.parts ++ (imports_ends 0 p.imports ++ end_row (λ h. ResultEnd h) 0 (length (contacts_of p.outcome)))

row_length : (f : ℕ → End) (h n : ℕ) → length (end_row f h n) ≡ n
row_length f h zero = refl
row_length f h (suc n) = let rest = row_length f (suc h) n in omega (arith, rest)

parts_length : (i : ℕ) (ks : List Part) → length (parts_ends i ks) ≡ all_shakes ks
parts_length i [] = refl
parts_length i (k ∷ ks) =
    let parted = length-append (end_row (PartEnd i) 0 (length (part_contacts k))) (parts_ends (suc i) ks) in
    let one = row_length (PartEnd i) 0 (length (part_contacts k)) in
    let rest = parts_length (suc i) ks in
    omega (arith, parted, one, rest)

-- the handshakes of imports
abbrev pub imports_shakes : Imports → ℕ
imports_shakes [] = 0
imports_shakes (x ∷ xs) = count x.ty + imports_shakes xs

imports_length : (i : ℕ) (xs : Imports) → length (imports_ends i xs) ≡ imports_shakes xs
imports_length i [] = refl
imports_length i (x ∷ xs) =
    let parted = length-append (end_row (ImportEnd i) 0 (length (contacts_of x.ty))) (imports_ends (suc i) xs) in
    let one = row_length (ImportEnd i) 0 (length (contacts_of x.ty)) in
    let rest = imports_length (suc i) xs in
    omega (arith, parted, one, rest)

-- an end that is there is among them
row_has : (f : ℕ → End) (from h n : ℕ) → h < n → 0 < appears (f (from + h)) (end_row f from n)
row_has f from h zero low = absurd (omega (arith, low))
row_has f from zero (suc n) low =
    let same : f (from + 0) ≡ f from = ap f (omega arith) in
    let here : same_end (f from) (f (from + 0)) ≡ true = ap (λ (x : End). same_end (f from) x) same ∙ same_itself (f from) in
    rw here (omega arith)
row_has f from (suc h) (suc n) low =
    let there : 0 < appears (f (suc from + h)) (end_row f (suc from) n) = row_has f (suc from) h n (omega (arith, low)) in
    let same : f (suc from + h) ≡ f (from + suc h) = ap f (omega arith) in
    let rest : 0 < appears (f (from + suc h)) (end_row f (suc from) n) = subst (λ (x : End). 0 < appears x (end_row f (suc from) n)) same there in
    omega (arith, rest)

pub short : (cs : List Contact) (h : ℕ) (c : Contact) → slice_get cs h ≡ Some c → h < length cs
short [] h c e = cc
short (d ∷ cs) zero c e = omega arith
short (d ∷ cs) (suc h) c e = let rest = short cs h c e in omega (arith, rest)

part_has : (from : ℕ) (ks : List Part) (i h : ℕ) (c : Contact) → slice_get (contacts_of_part (slice_get ks i)) h ≡ Some c
    → 0 < appears (PartEnd (from + i) h) (parts_ends from ks)
part_has from [] i h c e = cc
part_has from (k ∷ ks) zero h c e =
    let low = short (part_contacts k) h c e in
    let there : 0 < appears (PartEnd from (0 + h)) (end_row (PartEnd from) 0 (length (part_contacts k))) =
    row_has (PartEnd from) 0 h (length (part_contacts k)) low
    in
    let same : PartEnd from (0 + h) ≡ PartEnd (from + 0) h =
    (let one : from ≡ from + 0 = omega arith in let other : 0 + h ≡ h = omega arith in λ i. PartEnd (one i) (other i))
    in
    let here : 0 < appears (PartEnd (from + 0) h) (end_row (PartEnd from) 0 (length (part_contacts k))) =
    subst (λ (x : End). 0 < appears x (end_row (PartEnd from) 0 (length (part_contacts k)))) same there
    in
    let parted = appears-append (PartEnd (from + 0) h) (end_row (PartEnd from) 0 (length (part_contacts k))) (parts_ends (suc from) ks) in
    omega (arith, here, parted)
part_has from (k ∷ ks) (suc i) h c e =
    let there : 0 < appears (PartEnd (suc from + i) h) (parts_ends (suc from) ks) = part_has (suc from) ks i h c e in
    let same : PartEnd (suc from + i) h ≡ PartEnd (from + suc i) h =
    ap (λ (n : ℕ). PartEnd n h) (let one : suc from + i ≡ from + suc i = omega arith in one)
    in
    let here : 0 < appears (PartEnd (from + suc i) h) (parts_ends (suc from) ks) =
    subst (λ (x : End). 0 < appears x (parts_ends (suc from) ks)) same there
    in
    let parted = appears-append (PartEnd (from + suc i) h) (end_row (PartEnd from) 0 (length (part_contacts k))) (parts_ends (suc from) ks) in
    omega (arith, here, parted)

import_has : (from : ℕ) (xs : Imports) (i h : ℕ) (c : Contact) → slice_get (contacts_of_import (slice_get xs i)) h ≡ Some c
    → 0 < appears (ImportEnd (from + i) h) (imports_ends from xs)
import_has from [] i h c e = cc
import_has from (k ∷ ks) zero h c e =
    let low = short (contacts_of k.ty) h c e in
    let there : 0 < appears (ImportEnd from (0 + h)) (end_row (ImportEnd from) 0 (length (contacts_of k.ty))) =
    row_has (ImportEnd from) 0 h (length (contacts_of k.ty)) low
    in
    let same : ImportEnd from (0 + h) ≡ ImportEnd (from + 0) h =
    (let one : from ≡ from + 0 = omega arith in let other : 0 + h ≡ h = omega arith in λ i. ImportEnd (one i) (other i))
    in
    let here : 0 < appears (ImportEnd (from + 0) h) (end_row (ImportEnd from) 0 (length (contacts_of k.ty))) =
    subst (λ (x : End). 0 < appears x (end_row (ImportEnd from) 0 (length (contacts_of k.ty)))) same there
    in
    let parted = appears-append (ImportEnd (from + 0) h) (end_row (ImportEnd from) 0 (length (contacts_of k.ty))) (imports_ends (suc from) ks) in
    omega (arith, here, parted)
import_has from (k ∷ ks) (suc i) h c e =
    let there : 0 < appears (ImportEnd (suc from + i) h) (imports_ends (suc from) ks) = import_has (suc from) ks i h c e in
    let same : ImportEnd (suc from + i) h ≡ ImportEnd (from + suc i) h =
    ap (λ (n : ℕ). ImportEnd n h) (let one : suc from + i ≡ from + suc i = omega arith in one)
    in
    let here : 0 < appears (ImportEnd (from + suc i) h) (imports_ends (suc from) ks) =
    subst (λ (x : End). 0 < appears x (imports_ends (suc from) ks)) same there
    in
    let parted = appears-append (ImportEnd (from + suc i) h) (end_row (ImportEnd from) 0 (length (contacts_of k.ty))) (imports_ends (suc from) ks) in
    omega (arith, here, parted)

pub turned_some : (cs : List Contact) (h : ℕ) (c : Contact) → turned_if (slice_get cs h) ≡ Some c → h < length cs
turned_some [] h c e = cc
turned_some (d ∷ cs) zero c e = omega arith
turned_some (d ∷ cs) (suc h) c e = let rest = turned_some cs h c e in omega (arith, rest)

has_end : (p : Plan) (e : End) → IsThere p e → 0 < appears e (all_ends p)
has_end p e (c, is) = by e is
  where
    imports : List End
    imports = imports_ends 0 p.imports

    result : List End
    result = end_row (λ h. ResultEnd h) 0 (length (contacts_of p.outcome))

    by : (e : End) → contact_at p e ≡ Some c → 0 < appears e (all_ends p)
    by (PartEnd i h) is =
        let there : 0 < appears (PartEnd i h) (parts_ends 0 p.parts) =
        subst (λ (n : ℕ). 0 < appears (PartEnd n h) (parts_ends 0 p.parts)) (let none : 0 + i ≡ i = omega arith in none) (part_has 0 p.parts i h c is)
        in
        let parted = appears-append (PartEnd i h) (parts_ends 0 p.parts) (imports ++ result) in
        omega (arith, there, parted)
    by (ImportEnd i h) is =
        let there : 0 < appears (ImportEnd i h) imports =
        subst (λ (n : ℕ). 0 < appears (ImportEnd n h) imports) (let none : 0 + i ≡ i = omega arith in none) (import_has 0 p.imports i h c is)
        in
        let parted = appears-append (ImportEnd i h) (parts_ends 0 p.parts) (imports ++ result) in
        let parted_two = appears-append (ImportEnd i h) imports result in
        omega (arith, there, parted, parted_two)
    by (ResultEnd h) is =
        let low = turned_some (contacts_of p.outcome) h c is in
        let there : 0 < appears (ResultEnd h) result =
        subst (λ (n : ℕ). 0 < appears (ResultEnd n) result) (let none : 0 + h ≡ h = omega arith in none)
        (row_has (λ h. ResultEnd h) 0 h (length (contacts_of p.outcome)) low)
        in
        let parted = appears-append (ResultEnd h) (parts_ends 0 p.parts) (imports ++ result) in
        let parted_two = appears-append (ResultEnd h) imports result in
        omega (arith, there, parted, parted_two)

pub few_joints : (p : Plan) → IsRight p → 2 * length p.joints ≤ all_shakes p.parts + imports_shakes p.imports + count p.outcome
few_joints p right =
    let few = shorter (ends_of p.joints) (all_ends p) (λ e. by e (appears e (ends_of p.joints)) refl) in
    let size = ends_length p.joints in
    let parted = length-append (parts_ends 0 p.parts) (imports_ends 0 p.imports ++ end_row (λ h. ResultEnd h) 0 (length (contacts_of p.outcome))) in
    let parted_two = length-append (imports_ends 0 p.imports) (end_row (λ h. ResultEnd h) 0 (length (contacts_of p.outcome))) in
    let of_parts = parts_length 0 p.parts in
    let of_imports = imports_length 0 p.imports in
    let of_result = row_length (λ h. ResultEnd h) 0 (length (contacts_of p.outcome)) in
    omega (arith, few, size, parted, parted_two, of_parts, of_imports, of_result)
  where
    by : (e : End) (n : ℕ) → appears e (ends_of p.joints) ≡ n → appears e (ends_of p.joints) ≤ appears e (all_ends p)
    by e zero is = omega (arith, is)
    by e (suc n) is =
        let (once, known) = fresh p [] p.joints right e in
        let (free, there) = known (omega (arith, is)) in
        let some = has_end p e there in
        omega (arith, once, some)
