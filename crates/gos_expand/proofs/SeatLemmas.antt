-- The ends of a plan: in which joint one stands, and that one without a joint is among the loose ones.
--
-- Read first: Starts, Laid.
use Rattle.std.proofs.Common.{◌≡◌, ◌+◌, ◌⊎◌, ◌&&◌, ◌||◌, not, ℕ, zero, suc, Bool, true, false, List, [], ◌∷◌, ◌++◌, Option, slice_get, Some, inl, inr, refl, sym, ap, subst, ◌∙◌, zero-add, filter, if◌then◌else◌, length, arith}
use Rattle.std.specs.Prelude.{None}
use Rattle.std.proofs.lemmas.Option.{none-some, same_Some}
use Rattle.gos_netlist.specs.Nets.{Cell}
use Rattle.gos_types.specs.Events.{Request, Answer}
use Rattle.gos_plan.specs.Kinds.{Part, Contact, contacts_of, part_contacts}
use Rattle.gos_model.specs.Typing.{Imported}
use Rattle.gos_plan.specs.Plans.{End, PartEnd, ImportEnd, ResultEnd, Joint, Plan, contacts_of_part, contacts_of_import, turned_if, contact_at, same_end, is_free, Fits, AreRight}
use Rattle.gos_plan.proofs.JointLemmas.{same_itself, same_is}
use Rattle.gos_expand.specs.Blocks.{blocks, nothing}
use Rattle.gos_expand.specs.Starts.{Laying, ports_of, taken_ports, bits_taken, ends_at, port_ends, part_ends, loose_ends, loose_size, start_among, loose_start, loose_ends_start}
use Rattle.gos_expand.specs.Laid.{Seat, seat_among, seat_of, loose_cells, circuit_cells}
use Rattle.gos_expand.proofs.StandLemmas.{Each, StandAt, each_left, each_right, each_moved}
use Rattle.gos_expand.proofs.GroupLemmas.{loose_length, loose_stand}

-- each joint of right ones fits
pub joint_fits : (p : Plan) (before js : List Joint) (x : ℕ) (j : Joint) → AreRight p before js → slice_get js x ≡ Some j → Fits p j
joint_fits p before [] x j right h = absurd (none-some j h)
joint_fits p before (k ∷ js) zero j right h = subst (λ (y : Joint). Fits p y) (same_Some k j h) right.0.0
joint_fits p before (k ∷ js) (suc x) j right h = joint_fits p (k ∷ before) js x j right.1 h

-- which side of a joint an end is, and the seat there
abbrev pub IsSide : Joint → End → Seat → Type 0
IsSide j e s =
    ((e ≡ j.asking) × (s.way ≡ Answer) × (s.other ≡ j.serving)) ⊎ ((e ≡ j.serving) × (s.way ≡ Request) × (s.other ≡ j.asking))

-- a seat is at a joint
pub record Seated (n : ℕ) (js : List Joint) (e : End) (s : Seat) : Type 0 where
  pub place : ℕ
  pub at_joint : Joint
  pub number : s.joint ≡ n + place
  pub found : slice_get js place ≡ Some at_joint
  pub side : IsSide at_joint e s

pub seat_found : (n : ℕ) (js : List Joint) (e : End) (s : Seat) → seat_among n js e ≡ Some s → Seated n js e s
seat_found n [] e s h = absurd (none-some s h)
seat_found n (j ∷ js) e s h = by_test (same_end e j.asking) (same_end e j.serving) refl refl (λ g. seat_found (suc n) js e s g) h
  where
    asking : Seat
    asking = record { joint = n; way = Answer; other = j.serving }

    serving : Seat
    serving = record { joint = n; way = Request; other = j.asking }

    number : n ≡ n + 0
    number = omega arith

    by_test : (a b : Bool) → same_end e j.asking ≡ a → same_end e j.serving ≡ b → (seat_among (suc n) js e ≡ Some s → Seated (suc n) js e s)
        → (if a then Some asking else (if b then Some serving else seat_among (suc n) js e)) ≡ Some s → Seated n (j ∷ js) e s
    by_test true b ea eb further g =
        let same : asking ≡ s = same_Some asking s g in
        record {
          place = 0;
          at_joint = j;
          number = sym (ap (λ (t : Seat). t.joint) same) ∙ number;
          found = refl;
          side = inl (same_is e j.asking ea, sym (ap (λ (t : Seat). t.way) same), sym (ap (λ (t : Seat). t.other) same));
        }
    by_test false true ea eb further g =
        let same : serving ≡ s = same_Some serving s g in
        record {
          place = 0;
          at_joint = j;
          number = sym (ap (λ (t : Seat). t.joint) same) ∙ number;
          found = refl;
          side = inr (same_is e j.serving eb, sym (ap (λ (t : Seat). t.way) same), sym (ap (λ (t : Seat). t.other) same));
        }
    by_test false false ea eb further g =
        let rest = further g in
        let count = rest.number in
        record {
          place = suc rest.place;
          at_joint = rest.at_joint;
          number = omega (arith, count);
          found = rest.found;
          side = rest.side;
        }

-- an end without a seat is free
pub free_without : (n : ℕ) (js : List Joint) (e : End) → seat_among n js e ≡ None → is_free e js ≡ true
free_without n [] e h = refl
free_without n (j ∷ js) e h = by_test (same_end e j.asking) (same_end e j.serving) (λ g. free_without (suc n) js e g) h
  where
    asking : Seat
    asking = record { joint = n; way = Answer; other = j.serving }

    serving : Seat
    serving = record { joint = n; way = Request; other = j.asking }

    by_test : (a b : Bool) → (seat_among (suc n) js e ≡ None → is_free e js ≡ true)
        → (if a then Some asking else (if b then Some serving else seat_among (suc n) js e)) ≡ None → (not (a || b) && is_free e js) ≡ true
    by_test true b further g = absurd (none-some asking (sym g))
    by_test false true further g = absurd (none-some serving (sym g))
    by_test false false further g = further g

-- an end is among these
abbrev pub Among : End → List End → Type 0
Among e [] = ⊥
Among e (d ∷ ds) = (d ≡ e) ⊎ Among e ds

among_left : (e : End) (xs ys : List End) → Among e xs → Among e (xs ++ ys)
among_left e [] ys h = absurd h
among_left e (x ∷ xs) ys (inl h) = inl h
among_left e (x ∷ xs) ys (inr h) = inr (among_left e xs ys h)

among_right : (e : End) (xs ys : List End) → Among e ys → Among e (xs ++ ys)
among_right e [] ys h = h
among_right e (x ∷ xs) ys h = inr (among_right e xs ys h)

among_filter : (test : End → Bool) (e : End) (xs : List End) → test e ≡ true → Among e xs → Among e (filter test xs)
among_filter test e [] t h = absurd h
among_filter test e (x ∷ xs) t (inl h) = here (test x) (ap test h ∙ t)
  where
    here : (b : Bool) → b ≡ true → Among e (if b then x ∷ filter test xs else filter test xs)
    here true is = inl h
    here false is = absurd (grind (arith, is))
among_filter test e (x ∷ xs) t (inr h) = here (test x) (among_filter test e xs t h)
  where
    here : (b : Bool) → Among e (filter test xs) → Among e (if b then x ∷ filter test xs else filter test xs)
    here true rest = inr rest
    here false rest = rest

among_ends : (end : ℕ → End) (m : ℕ) (cs : List Contact) (h : ℕ) (c : Contact) → slice_get cs h ≡ Some c
    → Among (end (m + h)) (ends_at end m cs)
among_ends end m [] h c is = absurd (none-some c is)
among_ends end m (d ∷ cs) zero c is = let e : m ≡ m + 0 = omega arith in inl (ap end e)
among_ends end m (d ∷ cs) (suc h) c is =
    let e : suc m + h ≡ m + suc h = omega arith in
    inr (subst (λ (n : ℕ). Among (end n) (ends_at end (suc m) cs)) e (among_ends end (suc m) cs h c is))

among_parts : (n : ℕ) (ks : List Part) (i h : ℕ) (c : Contact) → slice_get (contacts_of_part (slice_get ks i)) h ≡ Some c
    → Among (PartEnd (n + i) h) (part_ends n ks)
among_parts n [] i h c is = absurd (none-some c is)
among_parts n (k ∷ ks) zero h c is =
    let e : n ≡ n + 0 = omega arith in
    let here = among_left (PartEnd n (0 + h)) (ends_at (PartEnd n) 0 (part_contacts k)) (part_ends (suc n) ks) (among_ends (PartEnd n) 0 (part_contacts k) h c is) in
    let there = subst (λ (g : ℕ). Among (PartEnd n g) (part_ends n (k ∷ ks))) (zero-add h) here in
    subst (λ (m : ℕ). Among (PartEnd m h) (part_ends n (k ∷ ks))) e there
among_parts n (k ∷ ks) (suc i) h c is =
    let e : suc n + i ≡ n + suc i = omega arith in
    let rest = among_parts (suc n) ks i h c is in
    let there = among_right (PartEnd (suc n + i) h) (ends_at (PartEnd n) 0 (part_contacts k)) (part_ends (suc n) ks) rest in
    subst (λ (m : ℕ). Among (PartEnd m h) (part_ends n (k ∷ ks))) e there

among_imports : (n : ℕ) (ks : List Imported) (i h : ℕ) (c : Contact) → slice_get (contacts_of_import (slice_get ks i)) h ≡ Some c
    → Among (ImportEnd (n + i) h) (port_ends (taken_ports n ks))
among_imports n [] i h c is = absurd (none-some c is)
among_imports n (k ∷ ks) zero h c is =
    let e : n ≡ n + 0 = omega arith in
    let cs : List Contact = contacts_of k.ty in
    let here = among_left (ImportEnd n (0 + h)) (ends_at (ImportEnd n) 0 cs) (port_ends (taken_ports (suc n) ks)) (among_ends (ImportEnd n) 0 cs h c is) in
    let there = subst (λ (g : ℕ). Among (ImportEnd n g) (port_ends (taken_ports n (k ∷ ks)))) (zero-add h) here in
    subst (λ (m : ℕ). Among (ImportEnd m h) (port_ends (taken_ports n (k ∷ ks)))) e there
among_imports n (k ∷ ks) (suc i) h c is =
    let e : suc n + i ≡ n + suc i = omega arith in
    let rest = among_imports (suc n) ks i h c is in
    let there = among_right (ImportEnd (suc n + i) h) (ends_at (ImportEnd n) 0 (contacts_of k.ty)) (port_ends (taken_ports (suc n) ks)) rest in
    subst (λ (m : ℕ). Among (ImportEnd m h) (port_ends (taken_ports n (k ∷ ks)))) e there

turned_back : (o : Option Contact) (c : Contact) → turned_if o ≡ Some c → (d : Contact) × (o ≡ Some d)
turned_back None c h = absurd (none-some c h)
turned_back (Some d) c h = (d, refl)

-- each end that has a handshake is one of a port or of a part
among_all : (p : Plan) (e : End) (c : Contact) → contact_at p e ≡ Some c → Among e (port_ends (ports_of p) ++ part_ends 0 p.parts)
among_all p (PartEnd i h) c is =
    let there = among_parts 0 p.parts i h c is in
    among_right (PartEnd i h) (port_ends (ports_of p)) (part_ends 0 p.parts) (subst (λ (m : ℕ). Among (PartEnd m h) (part_ends 0 p.parts)) (zero-add i) there)
among_all p (ImportEnd i h) c is =
    let there = among_imports 0 p.imports i h c is in
    let ends = subst (λ (m : ℕ). Among (ImportEnd m h) (port_ends (taken_ports 0 p.imports))) (zero-add i) there in
    let ports = among_right (ImportEnd i h) (ends_at ResultEnd 0 (contacts_of p.outcome)) (port_ends (taken_ports 0 p.imports)) ends in
    among_left (ImportEnd i h) (port_ends (ports_of p)) (part_ends 0 p.parts) ports
among_all p (ResultEnd h) c is =
    let (d, at) = turned_back (slice_get (contacts_of p.outcome) h) c is in
    let there = among_ends ResultEnd 0 (contacts_of p.outcome) h d at in
    let ends = subst (λ (m : ℕ). Among (ResultEnd m) (ends_at ResultEnd 0 (contacts_of p.outcome))) (zero-add h) there in
    let ports = among_left (ResultEnd h) (ends_at ResultEnd 0 (contacts_of p.outcome)) (port_ends (taken_ports 0 p.imports)) ends in
    among_left (ResultEnd h) (port_ends (ports_of p)) (part_ends 0 p.parts) ports

-- the block of a loose end
block_of : (p : Plan) (P : ℕ → Cell → Type 0) (n m : ℕ) (ds : List End) (e : End) → Among e ds → Each P n (blocks (loose_cells p) m ds)
    → Each P (start_among p n ds e) (nothing (bits_taken (contact_at p e)))
block_of p P n m [] e h all = absurd h
block_of p P n m (d ∷ ds) e h all =
    by_test (same_end d e) refl
    (λ g. block_of p P (n + loose_size p 0 d) (suc m) ds e g
    (let size = loose_length p m d in
    each_moved P (n + length (loose_cells p m d)) (n + loose_size p 0 d) (blocks (loose_cells p) (suc m) ds) (blocks (loose_cells p) (suc m) ds)
    (omega (arith, size)) refl (each_right P n (loose_cells p m d) (blocks (loose_cells p) (suc m) ds) all)))
  where
    later : (d ≡ e) ⊎ Among e ds → same_end d e ≡ false → Among e ds
    later (inl same) t = absurd (let one = ap (λ (a : End). same_end a e) same ∙ same_itself e in grind (arith, one, t))
    later (inr there) t = there

    by_test : (b : Bool) → same_end d e ≡ b
        → (Among e ds → Each P (start_among p (n + loose_size p 0 d) ds e) (nothing (bits_taken (contact_at p e))))
        → Each P (if b then n else start_among p (n + loose_size p 0 d) ds e) (nothing (bits_taken (contact_at p e)))
    by_test true t further =
        let here = each_left P n (loose_cells p m d) (blocks (loose_cells p) (suc m) ds) all in
        subst (λ (a : End). Each P n (nothing (bits_taken (contact_at p a)))) (same_is d e t) here
    by_test false t further = further (later h t)

-- what comes in at an end without a joint stands in its block
pub loose_stands : (lay : Laying) (p : Plan) (e : End) (c : Contact) → contact_at p e ≡ Some c → seat_of p e ≡ None
    → StandAt (circuit_cells lay p) (loose_start lay p e) (nothing (bits_taken (contact_at p e)))
loose_stands lay p e c is none =
    let free = free_without 0 p.joints e none in
    let ends : List End = port_ends (ports_of p) ++ part_ends 0 p.parts in
    let among = among_filter (λ d. is_free d p.joints) e ends free (among_all p e c is) in
    block_of p (λ n d. slice_get (circuit_cells lay p) n ≡ Some d) (loose_ends_start lay p) 0 (loose_ends p) e among (loose_stand lay p)
