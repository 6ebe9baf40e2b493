-- The ends of a plan, place by place: how their list grows, and that each of them is there.
use Rattle.std.specs.Prelude.{Some, IsSome, Bool, true, false, filter}
use Rattle.std.proofs.Common.{◌≡◌, ℕ, zero, suc, ◌+◌, List, [], ◌∷◌, ◌++◌, length, map, take, slice_get, refl, sym, ap, subst, arith, ◌∙◌, append_assoc}
use Rattle.std.proofs.lemmas.List.{length-map, map-append}
use Rattle.std.proofs.lemmas.List.Elements.{filter-append}
use Rattle.gos_types.specs.Handshakes.{handshakes_of}
use Rattle.gos_plan.specs.declared.plan.End as declared
use Rattle.gos_plan.specs.Kinds.{Part, Contact, contact, contacts_of, part_contacts}
use Rattle.gos_model.specs.Typing.{Imported}
use Rattle.gos_plan.specs.Plans.{End, PartEnd, ImportEnd, ResultEnd, Plan, contact_at}
use Rattle.gos_plan.specs.Seen.{end_of}
use Rattle.gos_expand.specs.Starts.{ports_of, taken_ports, ends_at, port_ends, part_ends}
use Rattle.gos_expand.specs.inner.Arrivals.{Exist}
use Rattle.gos_expand.specs.inner.Numbering.{ends_from}
use Rattle.gos_expand.proofs.BlockLemmas.{take_one}

-- one end more
ends_from_more : (end : ℕ → End) (h n : ℕ) → ends_from end h (suc n) ≡ ends_from end h n ++ end (h + n) ∷ []
ends_from_more end h zero = let here : h + 0 ≡ h = omega arith in rw here refl
ends_from_more end h (suc n) =
    let shift : suc h + n ≡ h + suc n = omega arith in
    ap (λ (es : List End). end h ∷ es) (ends_from_more end (suc h) n ∙ ap (λ (m : ℕ). ends_from end (suc h) n ++ end m ∷ []) shift)

pub ends_added : (end : ℕ → End) (xs : List End) (n : ℕ) (before : List declared.End) (e : declared.End)
    → map end_of before ≡ xs ++ ends_from end 0 n → end_of e ≡ end n → map end_of (before ++ e ∷ []) ≡ xs ++ ends_from end 0 (n + 1)
ends_added end xs n before e so_far is =
    let up : n + 1 ≡ suc n = omega arith in
    let none : 0 + n ≡ n = omega arith in
    map-append end_of before (e ∷ [])
    ∙ (ap (λ (es : List End). es ++ end_of e ∷ []) so_far
    ∙ (append_assoc xs (ends_from end 0 n) (end_of e ∷ [])
    ∙ ap (λ (es : List End). xs ++ es)
    (ap (λ (d : End). ends_from end 0 n ++ d ∷ []) (is ∙ ap end (sym none)) ∙ (sym (ends_from_more end 0 n) ∙ ap (ends_from end 0) (sym up)))))

-- by handshakes or by their number
pub ends_counted : (end : ℕ → End) (h : ℕ) (cs : List Contact) → ends_from end h (length cs) ≡ ends_at end h cs
ends_counted end h [] = refl
ends_counted end h (c ∷ cs) = ap (λ (es : List End). end h ∷ es) (ends_counted end (suc h) cs)

part_ends_end : (n : ℕ) (ks : List Part) (k : Part) → part_ends n (ks ++ k ∷ []) ≡ part_ends n ks ++ ends_at (PartEnd (n + length ks)) 0 (part_contacts k)
part_ends_end n [] k = let here : n + 0 ≡ n = omega arith in rw here (append_nil (ends_at (PartEnd n) 0 (part_contacts k)))
  where
    append_nil : (es : List End) → es ++ [] ≡ es
    append_nil [] = refl
    append_nil (e ∷ es) = ap (λ (ds : List End). e ∷ ds) (append_nil es)
part_ends_end n (x ∷ xs) k =
    let shift : suc n + length xs ≡ n + suc (length xs) = omega arith in
    ap (λ (es : List End). ends_at (PartEnd n) 0 (part_contacts x) ++ es)
    (part_ends_end (suc n) xs k ∙ ap (λ (m : ℕ). part_ends (suc n) xs ++ ends_at (PartEnd m) 0 (part_contacts k)) shift)
    ∙ sym (append_assoc (ends_at (PartEnd n) 0 (part_contacts x)) (part_ends (suc n) xs) (ends_at (PartEnd (n + suc (length xs))) 0 (part_contacts k)))

import_ends_end : (n : ℕ) (is : List Imported) (i : Imported)
    → port_ends (taken_ports n (is ++ i ∷ [])) ≡ port_ends (taken_ports n is) ++ ends_at (ImportEnd (n + length is)) 0 (contacts_of i.ty)
import_ends_end n [] i = let here : n + 0 ≡ n = omega arith in rw here (append_nil (ends_at (ImportEnd n) 0 (contacts_of i.ty)))
  where
    append_nil : (es : List End) → es ++ [] ≡ es
    append_nil [] = refl
    append_nil (e ∷ es) = ap (λ (ds : List End). e ∷ ds) (append_nil es)
import_ends_end n (x ∷ xs) i =
    let shift : suc n + length xs ≡ n + suc (length xs) = omega arith in
    ap (λ (es : List End). ends_at (ImportEnd n) 0 (contacts_of x.ty) ++ es)
    (import_ends_end (suc n) xs i ∙ ap (λ (m : ℕ). port_ends (taken_ports (suc n) xs) ++ ends_at (ImportEnd m) 0 (contacts_of i.ty)) shift)
    ∙ sym (append_assoc (ends_at (ImportEnd n) 0 (contacts_of x.ty)) (port_ends (taken_ports (suc n) xs)) (ends_at (ImportEnd (n + suc (length xs))) 0 (contacts_of i.ty)))

pub length_first : {A : Type 0} (i : ℕ) (xs : List A) (x : A) → slice_get xs i ≡ Some x → length (take i xs) ≡ i
length_first i [] x e = absurd (cc e)
length_first zero (y ∷ ys) x e = refl
length_first (suc i) (y ∷ ys) x e = ap (λ (n : ℕ). suc n) (length_first i ys x e)

-- the ends of one part more
pub part_added : (i n : ℕ) (ks : List Part) (k : Part) (old now : List End) (xs : List End) → slice_get ks i ≡ Some k → n ≡ length (part_contacts k)
    → old ≡ xs ++ part_ends 0 (take i ks) → now ≡ old ++ ends_from (PartEnd i) 0 n → now ≡ xs ++ part_ends 0 (take (i + 1) ks)
part_added i n ks k old now xs there count so_far more =
    let none : 0 + length (take i ks) ≡ i = (let first = length_first i ks k there in omega (arith, first)) in
    more
    ∙ (ap (λ (m : ℕ). old ++ ends_from (PartEnd i) 0 m) count
    ∙ (ap (λ (es : List End). old ++ es) (ends_counted (PartEnd i) 0 (part_contacts k))
    ∙ (ap (λ (es : List End). es ++ ends_at (PartEnd i) 0 (part_contacts k)) so_far
    ∙ (append_assoc xs (part_ends 0 (take i ks)) (ends_at (PartEnd i) 0 (part_contacts k))
    ∙ ap (λ (es : List End). xs ++ es)
    (ap (λ (m : ℕ). part_ends 0 (take i ks) ++ ends_at (PartEnd m) 0 (part_contacts k)) (sym none)
    ∙ (sym (part_ends_end 0 (take i ks) k) ∙ ap (part_ends 0) (sym (take_one i ks k there))))))))

-- and of one import more
pub import_added : (i n : ℕ) (is : List Imported) (x : Imported) (old now : List End) (xs : List End) → slice_get is i ≡ Some x → n ≡ length (handshakes_of x.ty)
    → old ≡ xs ++ port_ends (taken_ports 0 (take i is)) → now ≡ old ++ ends_from (ImportEnd i) 0 n → now ≡ xs ++ port_ends (taken_ports 0 (take (i + 1) is))
import_added i n is x old now xs there count so_far more =
    let none : 0 + length (take i is) ≡ i = (let first = length_first i is x there in omega (arith, first)) in
    let counted : n ≡ length (contacts_of x.ty) = count ∙ sym (length-map (handshakes_of x.ty) contact) in
    more
    ∙ (ap (λ (m : ℕ). old ++ ends_from (ImportEnd i) 0 m) counted
    ∙ (ap (λ (es : List End). old ++ es) (ends_counted (ImportEnd i) 0 (contacts_of x.ty))
    ∙ (ap (λ (es : List End). es ++ ends_at (ImportEnd i) 0 (contacts_of x.ty)) so_far
    ∙ (append_assoc xs (port_ends (taken_ports 0 (take i is))) (ends_at (ImportEnd i) 0 (contacts_of x.ty))
    ∙ ap (λ (es : List End). xs ++ es)
    (ap (λ (m : ℕ). port_ends (taken_ports 0 (take i is)) ++ ends_at (ImportEnd m) 0 (contacts_of x.ty)) (sym none)
    ∙ (sym (import_ends_end 0 (take i is) x) ∙ ap (λ (ys : List Imported). port_ends (taken_ports 0 ys)) (sym (take_one i is x there))))))))

exist_append : (p : Plan) (xs ys : List End) → Exist p xs → Exist p ys → Exist p (xs ++ ys)
exist_append p [] ys first rest = rest
exist_append p (x ∷ xs) ys first rest = (first.0, exist_append p xs ys first.1 rest)

exist_ends : (p : Plan) (end : ℕ → End) (h : ℕ) (cs : List Contact) → ((g : ℕ) (c : Contact) → slice_get cs g ≡ Some c → IsSome (contact_at p (end (h + g))))
    → Exist p (ends_at end h cs)
exist_ends p end h [] each = tt
exist_ends p end h (c ∷ cs) each =
    let here : h + 0 ≡ h = omega arith in (
      subst (λ (m : ℕ). IsSome (contact_at p (end m))) here (each 0 c refl),
      exist_ends p end (suc h) cs
          (λ g d e. subst (λ (m : ℕ). IsSome (contact_at p (end m))) (let shift : h + suc g ≡ suc h + g = omega arith in shift) (each (suc g) d e)),
    )

none_first : (g : ℕ) → 0 + g ≡ g
none_first g = omega arith

exist_part : (p : Plan) (i : ℕ) (k : Part) → slice_get p.parts i ≡ Some k → Exist p (ends_at (PartEnd i) 0 (part_contacts k))
exist_part p i k there =
    exist_ends p (PartEnd i) 0 (part_contacts k) (λ g c e. rw (none_first g, there, e) refl)

exist_parts : (p : Plan) (n : ℕ) (ks : List Part) → ((i : ℕ) → slice_get p.parts (n + i) ≡ slice_get ks i) → Exist p (part_ends n ks)
exist_parts p n [] same = tt
exist_parts p n (k ∷ ks) same =
    let here : n + 0 ≡ n = omega arith in
    exist_append p (ends_at (PartEnd n) 0 (part_contacts k)) (part_ends (suc n) ks)
    (exist_part p n k (ap (slice_get p.parts) (sym here) ∙ same 0))
    (exist_parts p (suc n) ks (λ i. ap (slice_get p.parts) (let shift : suc n + i ≡ n + suc i = omega arith in shift) ∙ same (suc i)))

exist_import : (p : Plan) (i : ℕ) (x : Imported) → slice_get p.imports i ≡ Some x → Exist p (ends_at (ImportEnd i) 0 (contacts_of x.ty))
exist_import p i x there =
    exist_ends p (ImportEnd i) 0 (contacts_of x.ty) (λ g c e. rw (none_first g, there, e) refl)

exist_imports : (p : Plan) (n : ℕ) (is : List Imported) → ((i : ℕ) → slice_get p.imports (n + i) ≡ slice_get is i) → Exist p (port_ends (taken_ports n is))
exist_imports p n [] same = tt
exist_imports p n (x ∷ xs) same =
    let here : n + 0 ≡ n = omega arith in
    exist_append p (ends_at (ImportEnd n) 0 (contacts_of x.ty)) (port_ends (taken_ports (suc n) xs))
    (exist_import p n x (ap (slice_get p.imports) (sym here) ∙ same 0))
    (exist_imports p (suc n) xs (λ i. ap (slice_get p.imports) (let shift : suc n + i ≡ n + suc i = omega arith in shift) ∙ same (suc i)))

pub all_exist : (p : Plan) → Exist p (port_ends (ports_of p) ++ part_ends 0 p.parts)
all_exist p =
    exist_append p (port_ends (ports_of p)) (part_ends 0 p.parts)
    (exist_append p (ends_at ResultEnd 0 (contacts_of p.outcome)) (port_ends (taken_ports 0 p.imports))
    (exist_ends p ResultEnd 0 (contacts_of p.outcome) (λ g c e. rw (none_first g, e) refl))
    (exist_imports p 0 p.imports (λ i. ap (slice_get p.imports) (none_first i))))
    (exist_parts p 0 p.parts (λ i. ap (slice_get p.parts) (none_first i)))

pub one_exists : (p : Plan) (es : List End) (i : ℕ) (e : End) → Exist p es → slice_get es i ≡ Some e → IsSome (contact_at p e)
one_exists p [] i e exist there = absurd (cc there)
one_exists p (x ∷ xs) zero e exist there = let is : x ≡ e = cc there in subst (λ (d : End). IsSome (contact_at p d)) is exist.0
one_exists p (x ∷ xs) (suc i) e exist there = one_exists p xs i e exist.1 there

-- the first ends that pass a test, with one more that does, or that does not
pub tested_in : (test : End → Bool) (i : ℕ) (ds : List End) (e : declared.End) (before after : List declared.End) → slice_get ds i ≡ Some (end_of e)
    → test (end_of e) ≡ true → map end_of before ≡ filter test (take i ds) → after ≡ before ++ e ∷ [] → map end_of after ≡ filter test (take (i + 1) ds)
tested_in test i ds e before after there passes so_far is =
    ap (map end_of) is
    ∙ (map-append end_of before (e ∷ [])
    ∙ (ap (λ (es : List End). es ++ end_of e ∷ []) so_far
    ∙ (ap (λ (es : List End). filter test (take i ds) ++ es) (one (end_of e) passes)
    ∙ (sym (filter-append test (take i ds) (end_of e ∷ [])) ∙ ap (filter test) (sym (take_one i ds (end_of e) there))))))
  where
    one : (d : End) → test d ≡ true → d ∷ [] ≡ filter test (d ∷ [])
    one d passes = rw passes refl

pub tested_out : (test : End → Bool) (i : ℕ) (ds : List End) (e : declared.End) (before : List declared.End) → slice_get ds i ≡ Some (end_of e)
    → test (end_of e) ≡ false → map end_of before ≡ filter test (take i ds) → map end_of before ≡ filter test (take (i + 1) ds)
tested_out test i ds e before there fails so_far =
    so_far
    ∙ (sym (append_nil (filter test (take i ds)))
    ∙ (ap (λ (es : List End). filter test (take i ds) ++ es) (none (end_of e) fails)
    ∙ (sym (filter-append test (take i ds) (end_of e ∷ [])) ∙ ap (filter test) (sym (take_one i ds (end_of e) there)))))
  where
    append_nil : (es : List End) → es ++ [] ≡ es
    append_nil [] = refl
    append_nil (e ∷ es) = ap (λ (ds : List End). e ∷ ds) (append_nil es)

    none : (d : End) → test d ≡ false → [] ≡ filter test (d ∷ [])
    none d fails = rw fails refl
