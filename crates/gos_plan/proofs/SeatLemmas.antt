-- The handshakes of types as one side sees them, and the seats of handshakes.
use Rattle.std.specs.Prelude.{Option, None, MatchOption, not, ◌||◌}
use Rattle.std.proofs.Common.{◌≡◌, ℕ, zero, suc, ◌&&◌, nat_eq, Bool, true, false, List, [], ◌∷◌, ◌++◌, Some, Vec, Global, slice_get, slice_set, get_or, refl, sym, ap, arith, ◌∙◌, map, append_assoc}
use Rattle.gos_plan.specs.declared.seats.Seat.{Seat}
use Rattle.gos_types.specs.Types.{Type'}
use Rattle.gos_types.specs.Handshakes.{Shake, handshakes_of}
use Rattle.gos_plan.specs.Kinds.{Contact, contact, contacts_of, other_side}
use Rattle.gos_plan.specs.Contacts.{held_contact}
use Rattle.gos_plan.specs.inner.Turned.{as_seen, contact_for}
use Rattle.gos_plan.specs.inner.Seats.{free_seat, free_held, contact_of, seat_in, seat_at, taken_if, TakesEnd, Stands}
use Rattle.gos_plan.specs.declared.seats.Seats.{Seats}
use Rattle.gos_plan.specs.Plans.{Joint, Plan, contact_at, same_end, is_free}

seen_of : (turned : Bool) (hs : List Shake) → map (contact_for turned) hs ≡ map held_contact (as_seen turned (map contact hs))
seen_of true [] = refl
seen_of false [] = refl
seen_of true (h ∷ hs) = rw (seen_of true hs) refl
seen_of false (h ∷ hs) = rw (seen_of false hs) refl

pub contacts_seen : (turned : Bool) (t : Type') → map (contact_for turned) (handshakes_of t) ≡ map held_contact (as_seen turned (contacts_of t))
contacts_seen turned t = seen_of turned (handshakes_of t)

map_append : (xs ys : List Contact) → map held_contact (xs ++ ys) ≡ map held_contact xs ++ map held_contact ys
map_append [] ys = refl
map_append (x ∷ xs) ys = rw (map_append xs ys) refl

pub contacts_shared : (t : Type') → map held_contact (other_side (contacts_of t) ++ (contacts_of t ++ contacts_of t))
    ≡ map (contact_for true) (handshakes_of t) ++ map (contact_for false) (handshakes_of t) ++ map (contact_for false) (handshakes_of t)
contacts_shared t =
    rw (map_append (other_side (contacts_of t)) (contacts_of t ++ contacts_of t), map_append (contacts_of t) (contacts_of t), contacts_seen true t, contacts_seen false t)
    (sym (append_assoc (map held_contact (other_side (contacts_of t))) (map held_contact (contacts_of t)) (map held_contact (contacts_of t))))

pub free_of_held : (cs : List Contact) → map free_held (map held_contact cs) ≡ map free_seat cs
free_of_held [] = refl
free_of_held (c ∷ cs) = rw (free_of_held cs) refl

not_taken : (o : Option Seat) → o ≡ taken_if false o
not_taken None = refl
not_taken (Some seat) = refl

-- a seat of one of several lists is taken
pub taken_of : (lists : List (Vec Seat Global)) (at shake : ℕ) (old new : Vec Seat Global) → old ≡ get_or lists at old
    → ((h : ℕ) → slice_get new.items h ≡ taken_if (nat_eq h shake) (slice_get old.items h))
    → (i h : ℕ) → seat_in (slice_get (map (λ seats. seats.items) (slice_set lists at new)) i) h
    ≡ taken_if (nat_eq i at && nat_eq h shake) (seat_in (slice_get (map (λ seats. seats.items) lists) i) h)
taken_of [] at shake old new e f i h = refl
taken_of (x ∷ xs) zero shake old new e f zero h = f h ∙ ap (λ (v : Vec Seat Global). taken_if (nat_eq h shake) (slice_get v.items h)) e
taken_of (x ∷ xs) zero shake old new e f (suc i) h =
    let other : nat_eq (suc i) 0 ≡ false = grind arith in
    rw other (not_taken (seat_in (slice_get (map (λ seats. seats.items) xs) i) h))
taken_of (x ∷ xs) (suc at) shake old new e f zero h =
    let other : nat_eq 0 (suc at) ≡ false = grind arith in
    rw other (not_taken (slice_get x.items h))
taken_of (x ∷ xs) (suc at) shake old new e f (suc i) h =
    let same : nat_eq (suc i) (suc at) ≡ nat_eq i at = grind arith in
    rw same (taken_of xs at shake old new e f i h)

-- a seat, taken at one of two ends or at neither
still_seen : (x y free : Bool) (c : Option Contact) (o : Option Seat)
    → MatchOption o (c ≡ None) (λ seat. (c ≡ Some (contact_of seat)) × (seat.taken ≡ not free))
    → MatchOption (taken_if y (taken_if x o)) (c ≡ None) (λ seat. (c ≡ Some (contact_of seat)) × (seat.taken ≡ not (not (x || y) && free)))
still_seen x y free c None h = h
still_seen true true free c (Some seat) h = (h.0, refl)
still_seen true false free c (Some seat) h = (h.0, refl)
still_seen false true free c (Some seat) h = (h.0, refl)
still_seen false false free c (Some seat) h = h

-- after both ends of a joint were taken, the seats stand with that joint as well
pub both_taken : (p : Plan) (before : List Joint) (j : Joint) (first second third : Seats) → Stands p before first
    → TakesEnd j.asking first second → TakesEnd j.serving second third → Stands p (j ∷ before) third
both_taken p before j first second third stands a b e =
    rw (b e, a e) (still_seen (same_end e j.asking) (same_end e j.serving) (is_free e before) (contact_at p e) (seat_at first e) (stands e))
