-- What labels leave open at ports is what passed there leaves open: a port has one name, and an event one handshake.
use Rattle.std.specs.Prelude.{◌≡◌, ℕ, zero, suc, ◌+◌, Bool, true, false, not, ◌&&◌, List, [], ◌∷◌, Option, Some, None, slice_get, nat_eq, if◌then◌else◌}
use Rattle.std.proofs.Common.{refl, sym, ◌∙◌, ap, arith}
use Rattle.std.specs.Str.{bytes_eq}
use Rattle.std.proofs.lemmas.Bool.Decides.{nat_tests}
use Rattle.std.proofs.lemmas.Slice.Eq.{bytes_eq-Decides}
use Rattle.std.proofs.lemmas.Option.{none-some, same_Some}
use Rattle.gos_types.specs.Events.{Direction, Request, Answer}
use Rattle.gos_types.proofs.BytesLemmas.{same_bytes_eq}
use Rattle.gos_model.specs.Typing.{Imported, Imports}
use Rattle.gos_model.specs.Labels.{Given, Label, is_answer}
use Rattle.gos_model.specs.Protocol as protocol
use Rattle.gos_model.specs.Protocol.{shake_of, same_port}
use Rattle.gos_plan.specs.Kinds.{Contact}
use Rattle.gos_plan.specs.Plans.{End, PartEnd, ImportEnd, ResultEnd, Plan, contact_at, contacts_of_import, same_end}
use Rattle.gos_plan.specs.Tokens.{IsPortEnd}
use Rattle.gos_realises.specs.realises.Regular.{is_request}
use Rattle.gos_realises.specs.realises.Matched.{port_if, event_number, label_at}
use Rattle.gos_realises.specs.realises.Realises.{NamesDiffer}
pub use Rattle.gos_realises.proofs.realises.PlaceLemmas.{contains_at}
use Rattle.gos_realises.proofs.realises.RenumberLemmas.{tests_agree}

-- which handshakes at ports labels leave open
abbrev pub told_open : Plan → List Label → End → Bool
told_open p past (PartEnd i h) = protocol.is_open past Given h
told_open p past (ImportEnd i h) = protocol.is_open past (port_if (slice_get p.imports i)) h
told_open p past (ResultEnd h) = protocol.is_open past Given h

-- names
pub test_differ : (x y : List ℕ) → (x ≡ y → ⊥) → bytes_eq x y ≡ false
test_differ x y differ = by_test (bytes_eq x y) refl
  where
    by_test : (b : Bool) → bytes_eq x y ≡ b → bytes_eq x y ≡ false
    by_test true e = let is : x ≡ y = grind (arith, bytes_eq-Decides, e) in absurd (differ is)
    by_test false e = e

next_number : (j i : ℕ) → nat_eq j i ≡ nat_eq (suc j) (suc i)
next_number j i = tests_agree j i (suc j) (suc i) (λ e. ap suc e) (λ e. omega (arith, e))

behind_zero : (j : ℕ) → nat_eq (suc j) 0 ≡ false
behind_zero j = grind (arith, nat_tests)

before_zero : (i : ℕ) → nat_eq 0 (suc i) ≡ false
before_zero i = grind (arith, nat_tests)

pub one_name : (is : Imports) → NamesDiffer is → (j i : ℕ) (y x : Imported) → slice_get is j ≡ Some y → slice_get is i ≡ Some x
    → bytes_eq y.name x.name ≡ nat_eq j i
one_name [] differ j i y x at_j at_i = absurd (none-some y at_j)
one_name (k ∷ ks) differ zero zero y x at_j at_i =
    same_bytes_eq y.name x.name (ap (λ (z : Imported). z.name) (sym (same_Some k y at_j) ∙ same_Some k x at_i))
one_name (k ∷ ks) differ (suc j) zero y x at_j at_i =
    test_differ y.name x.name (λ e. differ.0 y (contains_at ks j y at_j) (ap (λ (z : Imported). z.name) (same_Some k x at_i) ∙ sym e))
    ∙ sym (behind_zero j)
one_name (k ∷ ks) differ zero (suc i) y x at_j at_i =
    test_differ y.name x.name (λ e. differ.0 x (contains_at ks i x at_i) (ap (λ (z : Imported). z.name) (same_Some k y at_j) ∙ e))
    ∙ sym (before_zero i)
one_name (k ∷ ks) differ (suc j) (suc i) y x at_j at_i = one_name ks differ.1 j i y x at_j at_i ∙ next_number j i

-- events
twice_next : (h : ℕ) → suc h + suc h ≡ suc (suc (h + h))
twice_next h = omega arith

pub shake_twice : (h : ℕ) → shake_of (h + h) ≡ h
shake_twice zero = refl
shake_twice (suc h) = ap shake_of (twice_next h) ∙ ap suc (shake_twice h)

shake_after : (h : ℕ) → shake_of (h + h + 1) ≡ h
shake_after zero = refl
shake_after (suc h) =
    let next : suc h + suc h + 1 ≡ suc (suc (h + h + 1)) = omega arith in ap shake_of next ∙ ap suc (shake_after h)

no_answer : (h : ℕ) → is_answer (h + h) ≡ false
no_answer zero = refl
no_answer (suc h) = ap is_answer (twice_next h) ∙ no_answer h

an_answer : (h : ℕ) → is_answer (h + h + 1) ≡ true
an_answer zero = refl
an_answer (suc h) = let next : suc h + suc h + 1 ≡ suc (suc (h + h + 1)) = omega arith in ap is_answer next ∙ an_answer h

pub shake_event : (way : Direction) (h : ℕ) → shake_of (event_number way h) ≡ h
shake_event Request h = shake_twice h
shake_event Answer h = shake_after h

pub asks_event : (way : Direction) (h : ℕ) → not (is_answer (event_number way h)) ≡ is_request way
asks_event Request h = ap not (no_answer h)
asks_event Answer h = ap not (an_answer h)

-- an import with a handshake is there
pub there_is : (is : Imports) (i h : ℕ) (c : Contact) → slice_get (contacts_of_import (slice_get is i)) h ≡ Some c
    → (x : Imported) × (slice_get is i ≡ Some x)
there_is is i h c there = by_import (slice_get is i) refl
  where
    by_import : (o : Option Imported) → slice_get is i ≡ o → (x : Imported) × (slice_get is i ≡ Some x)
    by_import None e = absurd (none-some c (sym (ap (λ (k : Option Imported). slice_get (contacts_of_import k) h) e) ∙ there))
    by_import (Some x) e = (x, e)

-- after one label more, at an end that is there
pub told_step : (p : Plan) → NamesDiffer p.imports → (d e : End) (way : Direction) (v : ℕ) (ls : List Label) (c k : Contact)
    → contact_at p d ≡ Some c → contact_at p e ≡ Some k → IsPortEnd d → IsPortEnd e
    → told_open p (label_at p d way v ∷ ls) e ≡ (if same_end d e then is_request way else told_open p ls e)
told_step p differ (PartEnd j g) e way v ls c k at_d at_e port_d port_e = absurd port_d
told_step p differ d (PartEnd i h) way v ls c k at_d at_e port_d port_e = absurd port_e
told_step p differ (ResultEnd g) (ResultEnd h) way v ls c k at_d at_e port_d port_e =
    λ l. if nat_eq (shake_event way g l) h then asks_event way g l else told_open p ls (ResultEnd h)
told_step p differ (ResultEnd g) (ImportEnd i h) way v ls c k at_d at_e port_d port_e =
    let (x, is) = there_is p.imports i h k at_e in
    let port = ap port_if is in
    λ l. if same_port Given (port l) && nat_eq (shake_of (event_number way g)) h then not (is_answer (event_number way g)) else told_open p ls (ImportEnd i h)
told_step p differ (ImportEnd j g) (ResultEnd h) way v ls c k at_d at_e port_d port_e =
    let (y, is) = there_is p.imports j g c at_d in
    let port = ap port_if is in
    λ l. if same_port (port l) Given && nat_eq (shake_of (event_number way g)) h then not (is_answer (event_number way g)) else told_open p ls (ResultEnd h)
told_step p differ (ImportEnd j g) (ImportEnd i h) way v ls c k at_d at_e port_d port_e =
    let (y, at_j) = there_is p.imports j g c at_d in
    let (x, at_i) = there_is p.imports i h k at_e in
    let one = ap port_if at_j in
    let other = ap port_if at_i in
    let name = one_name p.imports differ j i y x at_j at_i in
    (λ l. if same_port (one l) (other l) && nat_eq (shake_event way g l) h then asks_event way g l else told_open p ls (ImportEnd i h))
    ∙ (λ l. if name l && nat_eq g h then is_request way else told_open p ls (ImportEnd i h))
