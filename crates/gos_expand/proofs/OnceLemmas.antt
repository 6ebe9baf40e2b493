-- Each end of a port is listed once, and each import has its number by its name.
use Rattle.std.specs.Prelude.{Option, None, bytes_eq}
use Rattle.std.proofs.Common.{◌≡◌, ℕ, zero, suc, ◌+◌, ◌<◌, Bool, true, false, List, [], ◌∷◌, Some, slice_get, map, refl, sym, ◌∙◌, ap, subst, arith, nat_eq, if◌then◌else◌}
use Rattle.std.proofs.lemmas.Slice.Eq.{bytes_eq-Decides}
use Rattle.gos_plan.specs.Kinds.{Contact, contacts_of, turned_contact}
use Rattle.gos_model.specs.Typing.{Imported}
use Rattle.gos_plan.specs.Plans.{End, PartEnd, ImportEnd, ResultEnd, Plan, contact_at, contacts_of_import, turned_if, same_end}
use Rattle.gos_plan.specs.Tokens.{IsPortEnd}
use Rattle.gos_pace.specs.Cycles.{import_number}
use Rattle.gos_expand.specs.Starts.{ports_of, taken_ports, ends_at, port_ends}
use Rattle.gos_expand.specs.Acceptance.{AreDifferent}
use Rattle.gos_expand.specs.Facts.{occurs}
use Rattle.gos_expand.proofs.PulseLemmas.{occurs-append}
use Rattle.gos_expand.proofs.RegisterLemmas.{turned_back}

later_apart : (h m : ℕ) → m < h → nat_eq h m ≡ false
later_apart h m lt = grind (arith, lt)

earlier_apart : (h m : ℕ) → h < m → nat_eq h m ≡ false
earlier_apart h m lt = grind (arith, lt)

equal : (h m : ℕ) → h ≡ m → nat_eq h m ≡ true
equal h m e = grind (arith, e)

are_equal : (h m : ℕ) → nat_eq h m ≡ true → h ≡ m
are_equal h m e = grind (arith, e)

-- among the ends of one list of handshakes
occurs_before : (end : ℕ → End) → ((a b : ℕ) → same_end (end a) (end b) ≡ nat_eq a b) → (h m : ℕ) (cs : List Contact) → m < h → occurs (end m) (ends_at end h cs) ≡ 0
occurs_before end same h m [] lt = refl
occurs_before end same h m (c ∷ cs) lt =
    let other : same_end (end h) (end m) ≡ false = same h m ∙ later_apart h m lt in
    rw other (occurs_before end same (suc h) m cs (omega (arith, lt)))

occurs_own : (end : ℕ → End) → ((a b : ℕ) → same_end (end a) (end b) ≡ nat_eq a b) → (h g m : ℕ) (cs : List Contact) (c : Contact) → m ≡ h + g
    → slice_get cs g ≡ Some c → occurs (end m) (ends_at end h cs) ≡ 1
occurs_own end same h g m [] c e is = absurd (grind (arith, is))
occurs_own end same h zero m (x ∷ cs) c e is =
    let here : same_end (end h) (end m) ≡ true = same h m ∙ equal h m (omega (arith, e)) in
    rw here (ap suc (occurs_before end same (suc h) m cs (omega (arith, e))))
occurs_own end same h (suc g) m (x ∷ cs) c e is =
    let other : same_end (end h) (end m) ≡ false = same h m ∙ earlier_apart h m (omega (arith, e)) in
    rw other (occurs_own end same (suc h) g m cs c (omega (arith, e)) is)

occurs_other : (end : ℕ → End) (e : End) → ((a : ℕ) → same_end (end a) e ≡ false) → (h : ℕ) (cs : List Contact) → occurs e (ends_at end h cs) ≡ 0
occurs_other end e other h [] = refl
occurs_other end e other h (c ∷ cs) = rw (other h) (occurs_other end e other (suc h) cs)

occurs_within : (end : ℕ → End) → ((a b : ℕ) → same_end (end a) (end b) ≡ nat_eq a b) → (h m : ℕ) (cs : List Contact) → 0 < occurs (end m) (ends_at end h cs)
    → (g : ℕ) × (c : Contact) × (m ≡ h + g) × (slice_get cs g ≡ Some c)
occurs_within end same h m [] some = absurd (omega (arith, some))
occurs_within end same h m (c ∷ cs) some = by_test (same_end (end h) (end m)) refl some (occurs_within end same (suc h) m cs)
  where
    by_test : (b : Bool) → same_end (end h) (end m) ≡ b → 0 < (if b then suc (occurs (end m) (ends_at end (suc h) cs)) else occurs (end m) (ends_at end (suc h) cs))
        → (0 < occurs (end m) (ends_at end (suc h) cs) → (g : ℕ) × (d : Contact) × (m ≡ suc h + g) × (slice_get cs g ≡ Some d))
        → (g : ℕ) × (d : Contact) × (m ≡ h + g) × (slice_get (c ∷ cs) g ≡ Some d)
    by_test true t more go = let is : h ≡ m = are_equal h m (sym (same h m) ∙ t) in (0, c, omega (arith, is), refl)
    by_test false t more go = let rest = go more in (suc rest.0, rest.1, omega (arith, rest.2), rest.3)

same_result : (a b : ℕ) → same_end (ResultEnd a) (ResultEnd b) ≡ nat_eq a b
same_result a b = refl

same_import : (i a b : ℕ) → same_end (ImportEnd i a) (ImportEnd i b) ≡ nat_eq a b
same_import i a b = let self : nat_eq i i ≡ true = grind arith in rw self refl

other_import : (i j a b : ℕ) → nat_eq i j ≡ false → same_end (ImportEnd i a) (ImportEnd j b) ≡ false
other_import i j a b apart = rw apart refl

-- among those of the imports
never_taken : (e : End) → ((n a : ℕ) → same_end (ImportEnd n a) e ≡ false) → (n : ℕ) (is : List Imported) → occurs e (port_ends (taken_ports n is)) ≡ 0
never_taken e other n [] = refl
never_taken e other n (i ∷ is) =
    let both = occurs-append e (ends_at (ImportEnd n) 0 (contacts_of i.ty)) (port_ends (taken_ports (suc n) is)) in
    let first = occurs_other (ImportEnd n) e (λ a. other n a) 0 (contacts_of i.ty) in
    let rest = never_taken e other (suc n) is in
    omega (arith, both, first, rest)

not_yet : (i h n : ℕ) (is : List Imported) → i < n → occurs (ImportEnd i h) (port_ends (taken_ports n is)) ≡ 0
not_yet i h n [] lt = refl
not_yet i h n (x ∷ is) lt =
    let both = occurs-append (ImportEnd i h) (ends_at (ImportEnd n) 0 (contacts_of x.ty)) (port_ends (taken_ports (suc n) is)) in
    let apart : nat_eq n i ≡ false = grind (arith, lt) in
    let first = occurs_other (ImportEnd n) (ImportEnd i h) (λ a. other_import n i a h apart) 0 (contacts_of x.ty) in
    let rest = not_yet i h (suc n) is (omega (arith, lt)) in
    omega (arith, both, first, rest)

once_taken : (n m i h : ℕ) (is : List Imported) (t : Imported) (c : Contact) → i ≡ n + m → slice_get is m ≡ Some t → slice_get (contacts_of t.ty) h ≡ Some c
    → occurs (ImportEnd i h) (port_ends (taken_ports n is)) ≡ 1
once_taken n m i h [] t c e is there = absurd (grind (arith, is))
once_taken n zero i h (x ∷ xs) t c e is there =
    let same : x ≡ t = cc is in
    let here : n ≡ i = omega (arith, e) in
    let both = occurs-append (ImportEnd i h) (ends_at (ImportEnd n) 0 (contacts_of x.ty)) (port_ends (taken_ports (suc n) xs)) in
    let own : slice_get (contacts_of x.ty) h ≡ Some c = subst (λ (y : Imported). slice_get (contacts_of y.ty) h ≡ Some c) (sym same) there in
    let first : occurs (ImportEnd i h) (ends_at (ImportEnd n) 0 (contacts_of x.ty)) ≡ 1 =
    subst (λ (j : ℕ). occurs (ImportEnd i h) (ends_at (ImportEnd j) 0 (contacts_of x.ty)) ≡ 1) (sym here)
    (occurs_own (ImportEnd i) (same_import i) 0 h h (contacts_of x.ty) c (omega arith) own) in
    let rest = not_yet i h (suc n) xs (omega (arith, here)) in
    omega (arith, both, first, rest)
once_taken n (suc m) i h (x ∷ xs) t c e is there =
    let both = occurs-append (ImportEnd i h) (ends_at (ImportEnd n) 0 (contacts_of x.ty)) (port_ends (taken_ports (suc n) xs)) in
    let apart : nat_eq n i ≡ false = grind (arith, e) in
    let first = occurs_other (ImportEnd n) (ImportEnd i h) (λ a. other_import n i a h apart) 0 (contacts_of x.ty) in
    let rest = once_taken (suc n) m i h xs t c (omega (arith, e)) is there in
    omega (arith, both, first, rest)

at_own_place : (g h : ℕ) (cs : List Contact) (c : Contact) → h ≡ 0 + g → slice_get cs g ≡ Some c → slice_get cs h ≡ Some c
at_own_place g h cs c e is = let same : g ≡ h = omega (arith, e) in subst (λ (m : ℕ). slice_get cs m ≡ Some c) same is

taken_within : (n i h : ℕ) (is : List Imported) → 0 < occurs (ImportEnd i h) (port_ends (taken_ports n is))
    → (m : ℕ) × (t : Imported) × (c : Contact) × (i ≡ n + m) × (slice_get is m ≡ Some t) × (slice_get (contacts_of t.ty) h ≡ Some c)
taken_within n i h [] some = absurd (omega (arith, some))
taken_within n i h (x ∷ xs) some = by_test (nat_eq n i) refl (taken_within (suc n) i h xs)
  where
    both : occurs (ImportEnd i h) (port_ends (taken_ports n (x ∷ xs)))
        ≡ occurs (ImportEnd i h) (ends_at (ImportEnd n) 0 (contacts_of x.ty)) + occurs (ImportEnd i h) (port_ends (taken_ports (suc n) xs))
    both = occurs-append (ImportEnd i h) (ends_at (ImportEnd n) 0 (contacts_of x.ty)) (port_ends (taken_ports (suc n) xs))

    by_test : (b : Bool) → nat_eq n i ≡ b
        → (0 < occurs (ImportEnd i h) (port_ends (taken_ports (suc n) xs))
        → (m : ℕ) × (t : Imported) × (c : Contact) × (i ≡ suc n + m) × (slice_get xs m ≡ Some t) × (slice_get (contacts_of t.ty) h ≡ Some c))
        → (m : ℕ) × (t : Imported) × (c : Contact) × (i ≡ n + m) × (slice_get (x ∷ xs) m ≡ Some t) × (slice_get (contacts_of t.ty) h ≡ Some c)
    by_test true e go =
        let here : n ≡ i = grind (arith, e) in
        let later = not_yet i h (suc n) xs (omega (arith, here)) in
        let some_here : 0 < occurs (ImportEnd i h) (ends_at (ImportEnd n) 0 (contacts_of x.ty)) = omega (arith, both, later, some) in
        let within =
        occurs_within (ImportEnd i) (same_import i) 0 h (contacts_of x.ty)
        (subst (λ (j : ℕ). 0 < occurs (ImportEnd i h) (ends_at (ImportEnd j) 0 (contacts_of x.ty))) here some_here) in
        (0, x, within.1, omega (arith, here), refl, at_own_place within.0 h (contacts_of x.ty) within.1 within.2 within.3)
    by_test false e go =
        let none = occurs_other (ImportEnd n) (ImportEnd i h) (λ a. other_import n i a h e) 0 (contacts_of x.ty) in
        let rest = go (omega (arith, both, none, some)) in
        (suc rest.0, rest.1, rest.2, omega (arith, rest.3), rest.4, rest.5)

-- an import's end has its import
pub import_there : (p : Plan) (i h : ℕ) (c : Contact) → contact_at p (ImportEnd i h) ≡ Some c
    → (t : Imported) × (slice_get p.imports i ≡ Some t) × (slice_get (contacts_of t.ty) h ≡ Some c)
import_there p i h c there = by_import (slice_get p.imports i) refl there
  where
    by_import : (f : Option Imported) → slice_get p.imports i ≡ f → slice_get (contacts_of_import f) h ≡ Some c
        → (t : Imported) × (slice_get p.imports i ≡ Some t) × (slice_get (contacts_of t.ty) h ≡ Some c)
    by_import None e own = absurd (grind (arith, own))
    by_import (Some t) e own = (t, e, own)

pub each_once : (p : Plan) (e : End) (c : Contact) → IsPortEnd e → contact_at p e ≡ Some c → occurs e (port_ends (ports_of p)) ≡ 1
each_once p (PartEnd i h) c port there = absurd port
each_once p (ResultEnd h) c port there =
    let back = turned_back (slice_get (contacts_of p.outcome) h) c there in
    let both = occurs-append (ResultEnd h) (ends_at ResultEnd 0 (contacts_of p.outcome)) (port_ends (taken_ports 0 p.imports)) in
    let first = occurs_own ResultEnd same_result 0 h h (contacts_of p.outcome) back.0 (omega arith) back.1 in
    let rest = never_taken (ResultEnd h) (λ n a. refl) 0 p.imports in
    omega (arith, both, first, rest)
each_once p (ImportEnd i h) c port there =
    let of_import = import_there p i h c there in
    let both = occurs-append (ImportEnd i h) (ends_at ResultEnd 0 (contacts_of p.outcome)) (port_ends (taken_ports 0 p.imports)) in
    let first = occurs_other ResultEnd (ImportEnd i h) (λ a. refl) 0 (contacts_of p.outcome) in
    let rest = once_taken 0 i i h p.imports of_import.0 c (omega arith) of_import.1 of_import.2 in
    omega (arith, both, first, rest)

pub all_listed : (p : Plan) (e : End) → 0 < occurs e (port_ends (ports_of p)) → IsPortEnd e × ((c : Contact) × (contact_at p e ≡ Some c))
all_listed p (PartEnd i h) some =
    let both = occurs-append (PartEnd i h) (ends_at ResultEnd 0 (contacts_of p.outcome)) (port_ends (taken_ports 0 p.imports)) in
    let first = occurs_other ResultEnd (PartEnd i h) (λ a. refl) 0 (contacts_of p.outcome) in
    let rest = never_taken (PartEnd i h) (λ n a. refl) 0 p.imports in
    absurd (omega (arith, both, first, rest, some))
all_listed p (ResultEnd h) some =
    let both = occurs-append (ResultEnd h) (ends_at ResultEnd 0 (contacts_of p.outcome)) (port_ends (taken_ports 0 p.imports)) in
    let rest = never_taken (ResultEnd h) (λ n a. refl) 0 p.imports in
    let within = occurs_within ResultEnd same_result 0 h (contacts_of p.outcome) (omega (arith, both, rest, some)) in
    let place : within.0 ≡ h = omega (arith, within.2) in
    let own : slice_get (contacts_of p.outcome) h ≡ Some within.1 = subst (λ (g : ℕ). slice_get (contacts_of p.outcome) g ≡ Some within.1) place within.3 in
    (tt, (turned_contact within.1, ap turned_if own))
all_listed p (ImportEnd i h) some =
    let both = occurs-append (ImportEnd i h) (ends_at ResultEnd 0 (contacts_of p.outcome)) (port_ends (taken_ports 0 p.imports)) in
    let first = occurs_other ResultEnd (ImportEnd i h) (λ a. refl) 0 (contacts_of p.outcome) in
    let within = taken_within 0 i h p.imports (omega (arith, both, first, some)) in
    let place : within.0 ≡ i = omega (arith, within.3) in
    let is : slice_get p.imports i ≡ Some within.1 = subst (λ (g : ℕ). slice_get p.imports g ≡ Some within.1) place within.4 in
    (tt, (within.2, subst (λ (f : Option Imported). slice_get (contacts_of_import f) h ≡ Some within.2) (sym is) within.5))

-- the number of an import, by its name
named_at : (i : ℕ) (is : List Imported) (t : Imported) → slice_get is i ≡ Some t → slice_get (map (λ (x : Imported). x.name) is) i ≡ Some t.name
named_at i [] t e = absurd (grind (arith, e))
named_at zero (x ∷ is) t e = let same : x ≡ t = cc e in ap (λ (y : Imported). Some y.name) same
named_at (suc i) (x ∷ is) t e = named_at i is t e

rest_differ : (x : List ℕ) (xs : List (List ℕ)) → AreDifferent (x ∷ xs) → AreDifferent xs
rest_differ x xs differ i j a b lt is there = differ (suc i) (suc j) a b (omega (arith, lt)) is there

number_from : (n m j : ℕ) (is : List Imported) (t : Imported) → AreDifferent (map (λ (x : Imported). x.name) is) → j ≡ n + m → slice_get is m ≡ Some t
    → import_number n is t.name ≡ j
number_from n m j [] t differ e is = absurd (grind (arith, is))
number_from n zero j (x ∷ xs) t differ e is =
    let same : x ≡ t = cc is in
    let names : x.name ≡ t.name = ap (λ (y : Imported). y.name) same in
    let test : bytes_eq x.name t.name ≡ true = grind (arith, bytes_eq-Decides, names) in
    rw test (omega (arith, e))
number_from n (suc m) j (x ∷ xs) t differ e is =
    by_test (bytes_eq x.name t.name) refl (number_from (suc n) m j xs t (rest_differ x.name (map (λ (y : Imported). y.name) xs) differ) (omega (arith, e)) is)
  where
    by_test : (b : Bool) → bytes_eq x.name t.name ≡ b → import_number (suc n) xs t.name ≡ j → (if b then n else import_number (suc n) xs t.name) ≡ j
    by_test false h rest = rest
    by_test true h rest =
        let names : x.name ≡ t.name = grind (arith, bytes_eq-Decides, h) in
        absurd (differ 0 (suc m) x.name t.name (omega arith) refl (named_at m xs t is) names)

pub number_is : (root : List ℕ) (i : ℕ) (is : List Imported) (t : Imported) → AreDifferent (root ∷ map (λ (x : Imported). x.name) is) → slice_get is i ≡ Some t
    → import_number 0 is t.name ≡ i
number_is root i is t differ there = number_from 0 i i is t (rest_differ root (map (λ (x : Imported). x.name) is) differ) (omega arith) there
