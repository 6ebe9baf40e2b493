-- Of plans whose links fit there is a joining: its joints are those pairs of ends that a path connects.
use Rattle.std.specs.Prelude.{◌≡◌, ◌≢◌, ℕ, zero, suc, ◌+◌, ◌<◌, Bool, true, false, IsTrue, List, [], ◌∷◌, ◌++◌, ◌⊎◌, length, Option, Some, None, Contains, slice_get}
use Rattle.std.proofs.Common.{refl, sym, ◌∙◌, ap, subst, arith, inl, inr}
use Rattle.std.proofs.lemmas.Option.{slice_get_within}
use Rattle.gos_types.specs.declared.shakes.Role.{Role}
use Rattle.gos_types.specs.declared.shakes.Role.TheVariants.{Serve, Ask}
use Rattle.gos_types.specs.Handshakes.{turned}
use Rattle.gos_types.proofs.RoleLemmas.{ask_is_not_serve}
use Rattle.gos_model.specs.Typing.{Imported}
use Rattle.gos_plan.specs.Kinds.{Part, Contact, asks, serves, contacts_of, turned_contact, part_contacts}
use Rattle.gos_plan.specs.Plans.{End, PartEnd, ImportEnd, ResultEnd, Joint, Plan, contact_at, contacts_of_part, contacts_of_import, turned_if, stands_in, is_free, Fits, AreRight}
use Rattle.gos_plan.specs.Joining.{Place, Link, Wiring, Path, Connects, origin, IsJoining}
use Rattle.gos_plan.proofs.JointLemmas.{IsIn, contained, listed, which_end, is_in_front, is_in_behind}
use Rattle.gos_plan.proofs.JointLemmas as joints
use Rattle.gos_plan.proofs.DecidedLemmas.{Told, both}
use Rattle.gos_realises.specs.realises.Links.{contact_of, contact_in, EndsFit, LinkFits, LinksFit}
use Rattle.gos_realises.proofs.realises.PlaceLemmas.{place_of}
use Rattle.gos_realises.proofs.joined.ReachLemmas.{told_number, told_path, Step, Paths, paths_then, paths_back}
use Rattle.gos_realises.proofs.joined.StepLemmas.{one_outside}
use Rattle.gos_realises.specs.joined.Joined.{FittingIsJoined}
use Rattle.gos_realises.proofs.joined.OriginLemmas.{whole, at_origin, one_origin}

-- the bits of a handshake are the same along a path
abbrev plain : Option Contact → Option Contact
plain None = None
plain (Some c) = Some (asks c.ask_bits c.answer_bits)

fit_bits : (w : Wiring) (a b : Place) (c d : Contact) (e f : End) → EndsFit w a b c d e f → plain (Some d) ≡ plain (Some c)
fit_bits w a b c d (PartEnd i h) (PartEnd j g) fit = absurd fit
fit_bits w a b c d (PartEnd i h) (ImportEnd j g) fit = ap (λ (x : Contact). plain (Some x)) fit.0
fit_bits w a b c d (PartEnd i h) (ResultEnd g) fit = ap (λ (x : Contact). plain (Some x)) fit.0
fit_bits w a b c d (ImportEnd i h) (PartEnd j g) fit = ap (λ (x : Contact). plain (Some x)) fit.0
fit_bits w a b c d (ResultEnd h) (PartEnd j g) fit = ap (λ (x : Contact). plain (Some x)) fit.0
fit_bits w a b c d (ImportEnd i h) (ImportEnd j g) fit = ap (λ (x : Contact). plain (Some x)) fit
fit_bits w a b c d (ImportEnd i h) (ResultEnd g) fit = ap (λ (x : Contact). plain (Some x)) fit
fit_bits w a b c d (ResultEnd h) (ImportEnd j g) fit = ap (λ (x : Contact). plain (Some x)) fit
fit_bits w a b c d (ResultEnd h) (ResultEnd g) fit = ap (λ (x : Contact). plain (Some x)) fit

link_bits : (w : Wiring) (l : Link) → LinkFits w l → plain (contact_of w l.one) ≡ plain (contact_of w l.other)
link_bits w l (apart, (c, d, at_one, at_other, fit)) =
    ap plain at_one ∙ (sym (fit_bits w l.one l.other c d l.one.end l.other.end fit) ∙ sym (ap plain at_other))

step_bits : (w : Wiring) → LinksFit w → (a b : Place) → Step w a b → plain (contact_of w a) ≡ plain (contact_of w b)
step_bits w fit a b (inl (p, j, same, is, has, ways)) = by_way (joints.fits p [] p.joints j (fit.right a.plan p is) (contained p.joints j has)) ways
  where
    at_a : (e : End) → a.end ≡ e → contact_of w a ≡ contact_at p e
    at_a e at = ap (λ (o : Option Plan). contact_in o a.end) is ∙ ap (contact_at p) at

    at_b : (e : End) → b.end ≡ e → contact_of w b ≡ contact_at p e
    at_b e at =
        ap (λ (k : ℕ). contact_in (slice_get w.plans k) b.end) (sym same) ∙ (ap (λ (o : Option Plan). contact_in o b.end) is ∙ ap (contact_at p) at)

    by_way : Fits p j → ((a.end ≡ j.asking) × (b.end ≡ j.serving)) ⊎ ((a.end ≡ j.serving) × (b.end ≡ j.asking))
        → plain (contact_of w a) ≡ plain (contact_of w b)
    by_way (q, v, asked, served) (inl (e, f)) = ap plain (at_a j.asking e ∙ asked) ∙ sym (ap plain (at_b j.serving f ∙ served))
    by_way (q, v, asked, served) (inr (e, f)) = ap plain (at_a j.serving e ∙ served) ∙ sym (ap plain (at_b j.asking f ∙ asked))
step_bits w fit a b (inr (l, has, ways)) =
    let (k, at) = place_of w.links l has in
    let bits = link_bits w l (fit.each k l at) in
    elim ways [
      | inl (e, f) ↦ ap (λ (x : Place). plain (contact_of w x)) e ∙ (bits ∙ ap (λ (x : Place). plain (contact_of w x)) (sym f))
      | inr (e, f) ↦ ap (λ (x : Place). plain (contact_of w x)) e ∙ (sym bits ∙ ap (λ (x : Place). plain (contact_of w x)) (sym f))
    ]

path_bits : (w : Wiring) → LinksFit w → (n : ℕ) (a b : Place) → Path w n a b → plain (contact_of w a) ≡ plain (contact_of w b)
path_bits w fit zero a b e = ap (λ (x : Place). plain (contact_of w x)) e
path_bits w fit (suc n) a b (c, s, p) = step_bits w fit a c s ∙ path_bits w fit n c b p

end_bits : (w : Wiring) → LinksFit w → (js : List Joint) (a b : End) (c d : Contact) → contact_at (whole w js) a ≡ Some c → contact_at (whole w js) b ≡ Some d
    → Paths w (origin w a) (origin w b) → plain (Some c) ≡ plain (Some d)
end_bits w fit js a b c d at_a at_b (n, path) =
    sym (ap plain (at_origin w fit js a c at_a).0) ∙ (path_bits w fit n (origin w a) (origin w b) path ∙ ap plain (at_origin w fit js b d at_b).0)

-- two ends of one role between which there is a path are one
one_connected : (w : Wiring) → LinksFit w → (js : List Joint) (a b : End) (c d : Contact) → contact_at (whole w js) a ≡ Some c → contact_at (whole w js) b ≡ Some d
    → c.role ≡ d.role → Paths w (origin w a) (origin w b) → a ≡ b
one_connected w fit js a b c d at_a at_b roles path =
    let of_a = at_origin w fit js a c at_a in
    let of_b = at_origin w fit js b d at_b in
    one_origin w js a b c d at_a at_b (one_outside w fit (origin w a) (origin w b) c d of_a.0 of_b.0 of_a.1 of_b.1 roles path)

other_role : (r s : Role) → (r ≡ s → ⊥) → s ≡ turned r
other_role Serve Serve apart = absurd (apart refl)
other_role Serve Ask apart = refl
other_role Ask Serve apart = refl
other_role Ask Ask apart = absurd (apart refl)

other_contact : (c d : Contact) → plain (Some c) ≡ plain (Some d) → (c.role ≡ d.role → ⊥) → d ≡ turned_contact c
other_contact c d bits apart =
    let same : asks c.ask_bits c.answer_bits ≡ asks d.ask_bits d.answer_bits = cc bits in
    let asked : d.ask_bits ≡ c.ask_bits = ap (λ (x : Contact). x.ask_bits) (sym same) in
    let answered : d.answer_bits ≡ c.answer_bits = ap (λ (x : Contact). x.answer_bits) (sym same) in
    let roles = other_role c.role d.role apart in
    λ i. record { role = roles i; ask_bits = asked i; answer_bits = answered i }

-- all ends of a plan
abbrev OneOf : End → List End → Type 0
OneOf e [] = ⊥
OneOf e (x ∷ xs) = (e ≡ x) ⊎ OneOf e xs

one_front : (e : End) (xs ys : List End) → OneOf e xs → OneOf e (xs ++ ys)
one_front e [] ys h = absurd h
one_front e (x ∷ xs) ys (inl is) = inl is
one_front e (x ∷ xs) ys (inr h) = inr (one_front e xs ys h)

one_behind : (e : End) (xs ys : List End) → OneOf e ys → OneOf e (xs ++ ys)
one_behind e [] ys h = h
one_behind e (x ∷ xs) ys h = inr (one_behind e xs ys h)

abbrev shakes : (ℕ → End) → ℕ → List End
shakes f zero = []
shakes f (suc n) = f n ∷ shakes f n

in_shakes : (f : ℕ → End) (n h : ℕ) → h < n → OneOf (f h) (shakes f n)
in_shakes f zero h small = absurd (omega (arith, small))
in_shakes f (suc n) h small =
    elim (told_number h n) [
      | inl e ↦ inl (ap f e)
      | inr apart ↦ inr (in_shakes f n h (omega (arith, small, apart)))
    ]

abbrev part_ends : ℕ → List Part → List End
part_ends i [] = []
part_ends i (k ∷ ks) = shakes (PartEnd i) (length (part_contacts k)) ++ part_ends (suc i) ks

in_parts : (n : ℕ) (ks : List Part) (i h : ℕ) (c : Contact) → slice_get (contacts_of_part (slice_get ks i)) h ≡ Some c → OneOf (PartEnd (n + i) h) (part_ends n ks)
in_parts n [] i h c e = absurd (cc e)
in_parts n (k ∷ ks) zero h c e =
    let sum : n ≡ n + 0 = omega arith in
    one_front (PartEnd (n + 0) h) (shakes (PartEnd n) (length (part_contacts k))) (part_ends (suc n) ks)
    (subst (λ (m : ℕ). OneOf (PartEnd m h) (shakes (PartEnd n) (length (part_contacts k)))) sum
    (in_shakes (PartEnd n) (length (part_contacts k)) h (slice_get_within (part_contacts k) h c e)))
in_parts n (k ∷ ks) (suc i) h c e =
    let sum : suc n + i ≡ n + suc i = omega arith in
    one_behind (PartEnd (n + suc i) h) (shakes (PartEnd n) (length (part_contacts k))) (part_ends (suc n) ks)
    (subst (λ (m : ℕ). OneOf (PartEnd m h) (part_ends (suc n) ks)) sum (in_parts (suc n) ks i h c e))

abbrev import_ends : ℕ → List Imported → List End
import_ends i [] = []
import_ends i (x ∷ xs) = shakes (ImportEnd i) (length (contacts_of x.ty)) ++ import_ends (suc i) xs

in_imports : (n : ℕ) (xs : List Imported) (i h : ℕ) (c : Contact) → slice_get (contacts_of_import (slice_get xs i)) h ≡ Some c
    → OneOf (ImportEnd (n + i) h) (import_ends n xs)
in_imports n [] i h c e = absurd (cc e)
in_imports n (x ∷ xs) zero h c e =
    let sum : n ≡ n + 0 = omega arith in
    one_front (ImportEnd (n + 0) h) (shakes (ImportEnd n) (length (contacts_of x.ty))) (import_ends (suc n) xs)
    (subst (λ (m : ℕ). OneOf (ImportEnd m h) (shakes (ImportEnd n) (length (contacts_of x.ty)))) sum
    (in_shakes (ImportEnd n) (length (contacts_of x.ty)) h (slice_get_within (contacts_of x.ty) h c e)))
in_imports n (x ∷ xs) (suc i) h c e =
    let sum : suc n + i ≡ n + suc i = omega arith in
    one_behind (ImportEnd (n + suc i) h) (shakes (ImportEnd n) (length (contacts_of x.ty))) (import_ends (suc n) xs)
    (subst (λ (m : ℕ). OneOf (ImportEnd m h) (import_ends (suc n) xs)) sum (in_imports (suc n) xs i h c e))

abbrev result_ends : Plan → List End
result_ends p = shakes ResultEnd (length (contacts_of p.outcome))

abbrev all_ends : Plan → List End
all_ends p = part_ends 0 p.parts ++ (import_ends 0 p.imports ++ result_ends p)

in_result : (p : Plan) (h : ℕ) (c : Contact) (o : Option Contact) → slice_get (contacts_of p.outcome) h ≡ o → turned_if o ≡ Some c → OneOf (ResultEnd h) (result_ends p)
in_result p h c None is e = absurd (cc e)
in_result p h c (Some d) is e = in_shakes ResultEnd (length (contacts_of p.outcome)) h (slice_get_within (contacts_of p.outcome) h d is)

is_end : (p : Plan) (e : End) (c : Contact) → contact_at p e ≡ Some c → OneOf e (all_ends p)
is_end p (PartEnd i h) c e =
    let sum : 0 + i ≡ i = omega arith in
    one_front (PartEnd i h) (part_ends 0 p.parts) (import_ends 0 p.imports ++ result_ends p)
    (subst (λ (m : ℕ). OneOf (PartEnd m h) (part_ends 0 p.parts)) sum (in_parts 0 p.parts i h c e))
is_end p (ImportEnd i h) c e =
    let sum : 0 + i ≡ i = omega arith in
    one_behind (ImportEnd i h) (part_ends 0 p.parts) (import_ends 0 p.imports ++ result_ends p)
    (one_front (ImportEnd i h) (import_ends 0 p.imports) (result_ends p)
    (subst (λ (m : ℕ). OneOf (ImportEnd m h) (import_ends 0 p.imports)) sum (in_imports 0 p.imports i h c e)))
is_end p (ResultEnd h) c e =
    one_behind (ResultEnd h) (part_ends 0 p.parts) (import_ends 0 p.imports ++ result_ends p)
    (one_behind (ResultEnd h) (import_ends 0 p.imports) (result_ends p) (in_result p h c (slice_get (contacts_of p.outcome) h) refl e))

-- all pairs of them
abbrev joint : End → End → Joint
joint a b = record { asking = a; serving = b }

abbrev pairs_of : End → List End → List Joint
pairs_of a [] = []
pairs_of a (b ∷ bs) = joint a b ∷ pairs_of a bs

abbrev all_pairs : List End → List End → List Joint
all_pairs [] bs = []
all_pairs (a ∷ firsts) bs = pairs_of a bs ++ all_pairs firsts bs

in_pairs_of : (a b : End) (bs : List End) → OneOf b bs → IsIn (joint a b) (pairs_of a bs)
in_pairs_of a b [] h = absurd h
in_pairs_of a b (x ∷ bs) (inl e) = inl (ap (joint a) e)
in_pairs_of a b (x ∷ bs) (inr h) = inr (in_pairs_of a b bs h)

in_pairs : (a b : End) (firsts bs : List End) → OneOf a firsts → OneOf b bs → IsIn (joint a b) (all_pairs firsts bs)
in_pairs a b [] bs h g = absurd h
in_pairs a b (x ∷ firsts) bs (inl e) g =
    is_in_front (joint a b) (pairs_of x bs) (all_pairs firsts bs) (subst (λ (y : End). IsIn (joint a b) (pairs_of y bs)) e (in_pairs_of a b bs g))
in_pairs a b (x ∷ firsts) bs (inr h) g = is_in_behind (joint a b) (pairs_of x bs) (all_pairs firsts bs) (in_pairs a b firsts bs h g)

-- whether a pair is to be a joint
abbrev AsksAt : Option Contact → Type 0
AsksAt o = (q : ℕ) × (v : ℕ) × (o ≡ Some (asks q v))

abbrev ServesAt : Option Contact → Type 0
ServesAt o = (q : ℕ) × (v : ℕ) × (o ≡ Some (serves q v))

told_asks : (o : Option Contact) → Told (AsksAt o)
told_asks None = inr (λ h. let e = h.2 in cc e)
told_asks (Some c) = by_role c.role refl
  where
    by_role : (r : Role) → c.role ≡ r → Told (AsksAt (Some c))
    by_role Ask e = inl (c.ask_bits, c.answer_bits, λ i. Some (record { role = e i; ask_bits = c.ask_bits; answer_bits = c.answer_bits }))
    by_role Serve e =
        inr
        (λ h.
        let is : Some c ≡ Some (asks h.0 h.1) = h.2 in
        let same : c ≡ asks h.0 h.1 = cc is in
        ask_is_not_serve (sym (ap (λ (x : Contact). x.role) same) ∙ e))

told_serves : (o : Option Contact) → Told (ServesAt o)
told_serves None = inr (λ h. let e = h.2 in cc e)
told_serves (Some c) = by_role c.role refl
  where
    by_role : (r : Role) → c.role ≡ r → Told (ServesAt (Some c))
    by_role Serve e = inl (c.ask_bits, c.answer_bits, λ i. Some (record { role = e i; ask_bits = c.ask_bits; answer_bits = c.answer_bits }))
    by_role Ask e =
        inr
        (λ h.
        let is : Some c ≡ Some (serves h.0 h.1) = h.2 in
        let same : c ≡ serves h.0 h.1 = cc is in
        ask_is_not_serve (sym e ∙ ap (λ (x : Contact). x.role) same))

abbrev Good : Wiring → Joint → Type 0
Good w j =
    AsksAt (contact_at (whole w []) j.asking) × (ServesAt (contact_at (whole w []) j.serving) × Paths w (origin w j.asking) (origin w j.serving))

told_good : (w : Wiring) (j : Joint) → Told (Good w j)
told_good w j =
    both (told_asks (contact_at (whole w []) j.asking))
    (both (told_serves (contact_at (whole w []) j.serving)) (told_path w (origin w j.asking) (origin w j.serving)))

same_contact : (w : Wiring) (js : List Joint) (e : End) → contact_at (whole w js) e ≡ contact_at (whole w []) e
same_contact w js (PartEnd i h) = refl
same_contact w js (ImportEnd i h) = refl
same_contact w js (ResultEnd h) = refl

good_connects : (w : Wiring) → LinksFit w → (js : List Joint) (j : Joint) → Good w j → Connects w (whole w js) j.asking j.serving
good_connects w fit js j ((q, v, asked), ((p, u, served), (n, path))) =
    let bits = end_bits w fit [] j.asking j.serving (asks q v) (serves p u) asked served (n, path) in
    let same : asks q v ≡ asks p u = cc bits in
    let asks_same : p ≡ q = ap (λ (x : Contact). x.ask_bits) (sym same) in
    let answers_same : u ≡ v = ap (λ (x : Contact). x.answer_bits) (sym same) in (
      q,
      v,
      n,
      same_contact w js j.asking ∙ asked,
      same_contact w js j.serving ∙ (served ∙ (λ i. Some (serves (asks_same i) (answers_same i)))),
      path,
    )

-- of two that share an end both are one
good_asking : (w : Wiring) → LinksFit w → (j k : Joint) → Good w j → Good w k → j.asking ≡ k.asking → j ≡ k
good_asking w fit j k (asked, ((p, u, served), path)) (asked_too, ((q, v, served_too), path_too)) same =
    let from_k : Paths w (origin w j.asking) (origin w k.serving) =
    subst (λ (x : End). Paths w (origin w x) (origin w k.serving)) (sym same) path_too
    in
    let between = paths_then w (origin w j.serving) (origin w j.asking) (origin w k.serving) (paths_back w (origin w j.asking) (origin w j.serving) path) from_k in
    let others : j.serving ≡ k.serving = one_connected w fit [] j.serving k.serving (serves p u) (serves q v) served served_too refl between in
    λ i. joint (same i) (others i)

good_serving : (w : Wiring) → LinksFit w → (j k : Joint) → Good w j → Good w k → j.serving ≡ k.serving → j ≡ k
good_serving w fit j k ((p, u, asked), (served, path)) ((q, v, asked_too), (served_too, path_too)) same =
    let to_j : Paths w (origin w k.asking) (origin w j.serving) =
    subst (λ (x : End). Paths w (origin w k.asking) (origin w x)) (sym same) path_too
    in
    let between = paths_then w (origin w j.asking) (origin w j.serving) (origin w k.asking) path (paths_back w (origin w k.asking) (origin w j.serving) to_j) in
    let others : j.asking ≡ k.asking = one_connected w fit [] j.asking k.asking (asks p u) (asks q v) asked asked_too refl between in
    λ i. joint (others i) (same i)

good_apart : (w : Wiring) (j k : Joint) → Good w j → Good w k → j.asking ≡ k.serving → ⊥
good_apart w j k ((p, u, asked), rest) (asked_too, ((q, v, served), path)) same =
    let is : Some (asks p u) ≡ Some (serves q v) = sym asked ∙ (ap (contact_at (whole w [])) same ∙ served) in
    let contacts : asks p u ≡ serves q v = cc is in
    ask_is_not_serve (ap (λ (x : Contact). x.role) contacts)

-- an end that isn't free stands in one of the joints
told_true : (b : Bool) → Told (IsTrue b)
told_true true = inl refl
told_true false = inr (λ e. let no : false ≡ true = e in cc no)

abbrev StandsThere : End → List Joint → Type 0
StandsThere e js = (j : Joint) × IsIn j js × ((e ≡ j.asking) ⊎ (e ≡ j.serving))

in_more : (e : End) (x : Joint) (js : List Joint) → StandsThere e js → StandsThere e (x ∷ js)
in_more e x js (j, is_in, at) = (j, inr is_in, at)

not_free : (e : End) (js : List Joint) → (IsTrue (is_free e js) → ⊥) → StandsThere e js
not_free e [] busy = absurd (busy refl)
not_free e (x ∷ js) busy = by_test (stands_in e x) refl (λ f. in_more e x js (not_free e js f))
  where
    by_test : (b : Bool) → stands_in e x ≡ b → ((IsTrue (is_free e js) → ⊥) → StandsThere e (x ∷ js)) → StandsThere e (x ∷ js)
    by_test true t rest = (x, inl refl, which_end e x t)
    by_test false t rest = rest (λ f. busy (rw t f))

-- the joints: of the pairs those to be joints, each once
abbrev Fresh : Wiring → List Joint → Joint → Type 0
Fresh w before j = Good w j × (IsTrue (is_free j.asking before) × IsTrue (is_free j.serving before))

told_fresh : (w : Wiring) (before : List Joint) (j : Joint) → Told (Fresh w before j)
told_fresh w before j = both (told_good w j) (both (told_true (is_free j.asking before)) (told_true (is_free j.serving before)))

abbrev chosen : {A : Type 0} → Told A → Joint → List Joint → List Joint → List Joint
chosen (inl a) j more less = j ∷ more
chosen (inr f) j more less = less

abbrev pick : Wiring → List Joint → List Joint → List Joint
pick w before [] = []
pick w before (j ∷ js) = chosen (told_fresh w before j) j (pick w (j ∷ before) js) (pick w before js)

good_fits : (w : Wiring) → LinksFit w → (js : List Joint) (j : Joint) → Good w j → Fits (whole w js) j
good_fits w fit js j good = let (q, v, n, asked, served, path) = good_connects w fit js j good in (q, v, asked, served)

picked_right : (w : Wiring) → LinksFit w → (all before js : List Joint) → AreRight (whole w all) before (pick w before js)
picked_right w fit all before [] = tt
picked_right w fit all before (j ∷ js) =
    by_told (told_fresh w before j) (picked_right w fit all (j ∷ before) js) (picked_right w fit all before js)
  where
    by_told : (t : Told (Fresh w before j)) → AreRight (whole w all) (j ∷ before) (pick w (j ∷ before) js) → AreRight (whole w all) before (pick w before js)
        → AreRight (whole w all) before (chosen t j (pick w (j ∷ before) js) (pick w before js))
    by_told (inl (good, (asking, serving))) more less = ((good_fits w fit all j good, asking, serving), more)
    by_told (inr fails) more less = less

picked_good : (w : Wiring) (before js : List Joint) (k : Joint) → IsIn k (pick w before js) → Good w k
picked_good w before [] k h = absurd h
picked_good w before (j ∷ js) k h = by_told (told_fresh w before j) (picked_good w (j ∷ before) js k) (picked_good w before js k) h
  where
    by_told : (t : Told (Fresh w before j)) → (IsIn k (pick w (j ∷ before) js) → Good w k) → (IsIn k (pick w before js) → Good w k)
        → IsIn k (chosen t j (pick w (j ∷ before) js) (pick w before js)) → Good w k
    by_told (inl (good, free)) more less (inl e) = subst (Good w) (sym e) good
    by_told (inl (good, free)) more less (inr h) = more h
    by_told (inr fails) more less h = less h

abbrev AllGood : Wiring → List Joint → Type 0
AllGood w js = (j : Joint) → IsIn j js → Good w j

taken_asking : (w : Wiring) → LinksFit w → (before : List Joint) (k : Joint) → AllGood w before → Good w k → StandsThere k.asking before → IsIn k before
taken_asking w fit before k goods good (j, is_in, inl e) =
    subst (λ (x : Joint). IsIn x before) (sym (good_asking w fit k j good (goods j is_in) e)) is_in
taken_asking w fit before k goods good (j, is_in, inr e) = absurd (good_apart w k j good (goods j is_in) e)

taken_serving : (w : Wiring) → LinksFit w → (before : List Joint) (k : Joint) → AllGood w before → Good w k → StandsThere k.serving before → IsIn k before
taken_serving w fit before k goods good (j, is_in, inl e) = absurd (good_apart w j k (goods j is_in) good (sym e))
taken_serving w fit before k goods good (j, is_in, inr e) =
    subst (λ (x : Joint). IsIn x before) (sym (good_serving w fit k j good (goods j is_in) e)) is_in

not_fresh : (w : Wiring) → LinksFit w → (before : List Joint) (k : Joint) → AllGood w before → Good w k → (Fresh w before k → ⊥) → IsIn k before
not_fresh w fit before k goods good fails =
    by_told (told_true (is_free k.asking before)) (told_true (is_free k.serving before))
  where
    by_told : Told (IsTrue (is_free k.asking before)) → Told (IsTrue (is_free k.serving before)) → IsIn k before
    by_told (inl a) (inl b) = absurd (fails (good, (a, b)))
    by_told (inl a) (inr busy) = taken_serving w fit before k goods good (not_free k.serving before busy)
    by_told (inr busy) b = taken_asking w fit before k goods good (not_free k.asking before busy)

all_good : (w : Wiring) (before : List Joint) (j : Joint) → AllGood w before → Good w j → AllGood w (j ∷ before)
all_good w before j goods good k (inl e) = subst (Good w) (sym e) good
all_good w before j goods good k (inr h) = goods k h

picked_all : (w : Wiring) → LinksFit w → (before js : List Joint) (k : Joint) → AllGood w before → Good w k → IsIn k js
    → IsIn k before ⊎ IsIn k (pick w before js)
picked_all w fit before [] k goods good h = absurd h
picked_all w fit before (j ∷ js) k goods good h =
    by_told (told_fresh w before j) h (λ more is_in. picked_all w fit (j ∷ before) js k more good is_in) (λ is_in. picked_all w fit before js k goods good is_in)
  where
    by_told : (t : Told (Fresh w before j)) → (k ≡ j) ⊎ IsIn k js
        → (AllGood w (j ∷ before) → IsIn k js → ((k ≡ j) ⊎ IsIn k before) ⊎ IsIn k (pick w (j ∷ before) js))
        → (IsIn k js → IsIn k before ⊎ IsIn k (pick w before js))
        → IsIn k before ⊎ IsIn k (chosen t j (pick w (j ∷ before) js) (pick w before js))
    by_told (inl fresh) (inl e) more less = inr (inl e)
    by_told (inl fresh) (inr h) more less =
        elim (more (all_good w before j goods fresh.0) h) [
          | inl (inl e) ↦ inr (inl e)
          | inl (inr is_in) ↦ inl is_in
          | inr is_in ↦ inr (inr is_in)
        ]
    by_told (inr fails) (inl e) more less =
        inl (not_fresh w fit before k goods good (λ fresh. fails (subst (λ (x : Joint). Fresh w before x) e fresh)))
    by_told (inr fails) (inr h) more less = less h

-- the joining
abbrev ends_of : Wiring → List End
ends_of w = all_ends (whole w [])

abbrev joints_of : Wiring → List Joint
joints_of w = pick w [] (all_pairs (ends_of w) (ends_of w))

pub fitting_is_joined : FittingIsJoined
fitting_is_joined w fit = (whole w (joints_of w), record { fits = fit; joining = joining })
  where
    connect_fits : (a b : End) (c d : Contact) (n : ℕ) → contact_at (whole w (joints_of w)) a ≡ Some c → contact_at (whole w (joints_of w)) b ≡ Some d → a ≢ b
        → Path w n (origin w a) (origin w b) → d ≡ turned_contact c
    connect_fits a b c d n at_a at_b apart path =
        other_contact c d (end_bits w fit (joints_of w) a b c d at_a at_b (n, path))
        (λ roles. apart (one_connected w fit (joints_of w) a b c d at_a at_b roles (n, path)))

    forth : (a b : End) → Contains (joints_of w) (joint a b) → Connects w (whole w (joints_of w)) a b
    forth a b has =
        good_connects w fit (joints_of w) (joint a b)
        (picked_good w [] (all_pairs (ends_of w) (ends_of w)) (joint a b) (contained (joints_of w) (joint a b) has))

    back : (a b : End) → Connects w (whole w (joints_of w)) a b → Contains (joints_of w) (joint a b)
    back a b (q, v, n, asked, served, path) =
        let asks_there = sym (same_contact w (joints_of w) a) ∙ asked in
        let serves_there = sym (same_contact w (joints_of w) b) ∙ served in
        let good : Good w (joint a b) = ((q, v, asks_there), ((q, v, serves_there), (n, path))) in
        let among = in_pairs a b (ends_of w) (ends_of w) (is_end (whole w []) a (asks q v) asks_there) (is_end (whole w []) b (serves q v) serves_there) in
        elim (picked_all w fit [] (all_pairs (ends_of w) (ends_of w)) (joint a b) (λ j none. absurd none) good among) [
          | inl none ↦ absurd none
          | inr is_in ↦ listed (joints_of w) (joint a b) is_in
        ]

    joining : IsJoining w (whole w (joints_of w))
    joining =
        record {
          parts = refl;
          imports = refl;
          outcome = refl;
          weight = refl;
          right = picked_right w fit (joints_of w) [] (all_pairs (ends_of w) (ends_of w));
          result = λ h c there. (fit.left h c there).0;
          fits = connect_fits;
          joints = λ a b. (forth a b, back a b);
        }
