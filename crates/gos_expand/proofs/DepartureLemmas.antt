-- The table of departures: what goes out by a part's wires, and what it has at each end.
use Rattle.std.specs.Prelude.{Some, IsSome}
use Rattle.std.proofs.Common.{◌≡◌, ℕ, zero, suc, ◌+◌, ◌<◌, nat_eq, false, List, [], ◌∷◌, ◌++◌, length, map, take, slice_get, slice_index_or, refl, sym, ap, arith, ◌∙◌}
use Rattle.std.proofs.lemmas.List.{map-append}
use Rattle.gos_netlist.specs.Nets.{Cell}
use Rattle.gos_plan.specs.declared.contacts.Contact as held
use Rattle.gos_plan.specs.Kinds.{Part, Contact, part_contacts}
use Rattle.gos_plan.specs.Contacts.{held_contact}
use Rattle.gos_plan.specs.Plans.{Plan, PartEnd, contact_at, contacts_of_part}
use Rattle.gos_macro.specs.declared.gates.Wire.{Wire}
use Rattle.gos_macro.specs.Gates.{Outgoing, Bare, Bearing, bits_out}
use Rattle.gos_macro.specs.Fit.{AllGoOut}
use Rattle.gos_macro.specs.Wires.{HoldNets}
use Rattle.gos_expand.specs.declared.tokens.Nets as nets
use Rattle.gos_expand.specs.Blocks.{Nets, total}
use Rattle.gos_expand.specs.Gates.{Making, outs_of, part_size}
use Rattle.gos_expand.specs.Starts.{Laying, parts_start}
use Rattle.gos_expand.specs.Laid.{nets_out, outs_if, leaves}
use Rattle.gos_expand.specs.inner.Tokens.{held_nets}
use Rattle.gos_expand.specs.inner.Departures.{nets_of_wire, nets_of_wires, nets_of_outs, part_departures, departures_from, nets_in}

here : (n : ℕ) → n + 0 ≡ n
here n = omega arith

up : (i : ℕ) → i + 1 ≡ suc i
up i = omega arith

-- a wire without bits, and one with them
by_bare : (c : Contact) (w : Wire) (p : ℕ) → bits_out c.role c ≡ 0 → w.out_pulse.0 ≡ p → nets_of_wire (held_contact c) w ≡ record { pulse = p; number = 0 }
by_bare c w p none pulse = rw (none, pulse) refl

by_bearing : (c : Contact) (w : Wire) (p a : ℕ) → 0 < bits_out c.role c → w.out_pulse.0 ≡ p → w.out_value.0 ≡ a
    → nets_of_wire (held_contact c) w ≡ record { pulse = p; number = a }
by_bearing c w p a some pulse number =
    let other : nat_eq (bits_out c.role c) 0 ≡ false = grind (arith, some) in
    rw (other, pulse, number) refl

-- wires that hold what goes out have its nets
pub wires_depart : (b : ℕ) (cells : List Cell) (cs : List Contact) (os : List Outgoing) (ws : List Wire)
    → AllGoOut b cells cs os → HoldNets os ws → nets_of_wires (map held_contact cs) ws ≡ nets_of_outs cs os
wires_depart b cells [] os ws go hold = refl
wires_depart b cells (c ∷ cs) [] ws go hold = absurd go
wires_depart b cells (c ∷ cs) (o ∷ os) [] go hold = absurd hold
wires_depart b cells (c ∷ cs) (Bare p ∷ os) (w ∷ ws) go hold =
    rw (wires_depart b cells cs os ws go.1 hold.1) (ap (λ (n : Nets). n ∷ nets_of_outs cs os) (by_bare c w p go.0.0 hold.0))
wires_depart b cells (c ∷ cs) (Bearing p a ∷ os) (w ∷ ws) go hold =
    rw (wires_depart b cells cs os ws go.1 hold.1) (ap (λ (n : Nets). n ∷ nets_of_outs cs os) (by_bearing c w p a go.0.0 hold.0.0 hold.0.1))

-- one wire more
wires_suc : (i : ℕ) (cs : List held.Contact) (ws : List Wire) (c : held.Contact) (w : Wire) → slice_get cs i ≡ Some c → slice_get ws i ≡ Some w
    → nets_of_wires (take (suc i) cs) ws ≡ nets_of_wires (take i cs) ws ++ nets_of_wire c w ∷ []
wires_suc i [] ws c w there wire = absurd (cc there)
wires_suc i (d ∷ cs) [] c w there wire = absurd (cc wire)
wires_suc zero (d ∷ cs) (v ∷ ws) c w there wire =
    let contact : d ≡ c = cc there in
    let same : v ≡ w = cc wire in
    rw (contact, same) refl
wires_suc (suc i) (d ∷ cs) (v ∷ ws) c w there wire = ap (λ (ns : List Nets). nets_of_wire d v ∷ ns) (wires_suc i cs ws c w there wire)

wires_more : (i : ℕ) (cs : List held.Contact) (ws : List Wire) (c : held.Contact) (w : Wire) → slice_get cs i ≡ Some c → slice_get ws i ≡ Some w
    → nets_of_wires (take (i + 1) cs) ws ≡ nets_of_wires (take i cs) ws ++ nets_of_wire c w ∷ []
wires_more i cs ws c w there wire = ap (λ (m : ℕ). nets_of_wires (take m cs) ws) (up i) ∙ wires_suc i cs ws c w there wire

-- what is read at a place of a list stands there
read_there : {A : Type 0} (xs : List A) (i : ℕ) (d : A) → i < length xs → slice_get xs i ≡ Some (slice_index_or xs i d)
read_there [] i d within = absurd (omega (arith, within))
read_there (x ∷ xs) zero d within = refl
read_there (x ∷ xs) (suc i) d within = read_there xs i d (omega (arith, within))

pub wires_added : (i : ℕ) (cs : List held.Contact) (ws : List Wire) (c : held.Contact) (w : Wire) (before : List nets.Nets) (n : nets.Nets)
    → i < length cs → i < length ws → map held_nets before ≡ nets_of_wires (take i cs) ws
    → held_nets n ≡ nets_of_wire (slice_index_or cs i c) (slice_index_or ws i w) → map held_nets (before ++ n ∷ []) ≡ nets_of_wires (take (i + 1) cs) ws
wires_added i cs ws c w before n within wired so_far is =
    map-append held_nets before (n ∷ [])
    ∙ (ap (λ (ns : List Nets). ns ++ held_nets n ∷ []) so_far
    ∙ (ap (λ (m : Nets). nets_of_wires (take i cs) ws ++ m ∷ []) is
    ∙ sym (wires_more i cs ws (slice_index_or cs i c) (slice_index_or ws i w) (read_there cs i c within) (read_there ws i w wired))))

-- one part more
departures_suc : (making : ℕ → Making) (m n i : ℕ) (ks : List Part) (k : Part) → slice_get ks i ≡ Some k
    → departures_from making m n (take (suc i) ks)
    ≡ departures_from making m n (take i ks) ++ part_departures (making (m + i)) k (n + total (λ j l. part_size (making j) l) m (take i ks)) ∷ []
departures_suc making m n i [] k there = absurd (cc there)
departures_suc making m n zero (l ∷ ks) k there = let is : l ≡ k = cc there in rw (is, here n, here m) refl
departures_suc making m n (suc i) (l ∷ ks) k there =
    let first : ℕ = part_size (making m) l in
    let rest : ℕ = total (λ j l. part_size (making j) l) (suc m) (take i ks) in
    let sum : n + first + rest ≡ n + (first + rest) = omega arith in
    let part : suc m + i ≡ m + suc i = omega arith in
    ap (λ (ns : List (List Nets)). part_departures (making m) l n ∷ ns)
    (departures_suc making (suc m) (n + first) i ks k there
    ∙ (λ x. departures_from making (suc m) (n + first) (take i ks) ++ part_departures (making (part x)) k (sum x) ∷ []))

pub departures_more : (making : ℕ → Making) (n i : ℕ) (ks : List Part) (k : Part) → slice_get ks i ≡ Some k
    → departures_from making 0 n (take (i + 1) ks)
    ≡ departures_from making 0 n (take i ks) ++ part_departures (making i) k (n + total (λ j l. part_size (making j) l) 0 (take i ks)) ∷ []
departures_more making n i ks k there =
    let first : 0 + i ≡ i = omega arith in
    ap (λ (m : ℕ). departures_from making 0 n (take m ks)) (up i)
    ∙ (departures_suc making 0 n i ks k there
    ∙ ap
    (λ (m : ℕ).
    departures_from making 0 n (take i ks) ++ part_departures (making m) k (n + total (λ j l. part_size (making j) l) 0 (take i ks)) ∷ [])
    first)

-- what goes out at a handshake that there is
outs_there : (cs : List Contact) (os : List Outgoing) (h : ℕ) → IsSome (slice_get cs h) → slice_get (nets_of_outs cs os) h ≡ Some (nets_out (slice_get os h))
outs_there [] os h some = absurd (cc some)
outs_there (c ∷ cs) [] zero some = refl
outs_there (c ∷ cs) [] (suc h) some = outs_there cs [] h some
outs_there (c ∷ cs) (o ∷ os) zero some = refl
outs_there (c ∷ cs) (o ∷ os) (suc h) some = outs_there cs os h some

departs_at : (making : ℕ → Making) (m n i h : ℕ) (ks : List Part) → IsSome (slice_get (contacts_of_part (slice_get ks i)) h)
    → nets_in (slice_get (departures_from making m n ks) i) h
    ≡ Some (nets_out (slice_get (outs_if (making (m + i)) (slice_get ks i) (n + total (λ j l. part_size (making j) l) m (take i ks))) h))
departs_at making m n i h [] some = absurd (cc some)
departs_at making m n zero h (k ∷ ks) some = rw (here n, here m) (outs_there (part_contacts k) (outs_of (making m) k n) h some)
departs_at making m n (suc i) h (k ∷ ks) some =
    let first : ℕ = part_size (making m) k in
    let rest : ℕ = total (λ j l. part_size (making j) l) (suc m) (take i ks) in
    let sum : n + first + rest ≡ n + (first + rest) = omega arith in
    let part : suc m + i ≡ m + suc i = omega arith in
    departs_at making (suc m) (n + first) i h ks some ∙ (λ x. Some (nets_out (slice_get (outs_if (making (part x)) (slice_get ks i) (sum x)) h)))

-- the table has what leaves at an end of a part
pub departs : (lay : Laying) (p : Plan) (table : List (List Nets)) (i h : ℕ) → table ≡ departures_from lay.making 0 (parts_start lay p) p.parts
    → IsSome (contact_at p (PartEnd i h)) → nets_in (slice_get table i) h ≡ Some (leaves lay p (PartEnd i h))
departs lay p table i h is some =
    let first : 0 + i ≡ i = omega arith in
    let start : ℕ = parts_start lay p + total (λ j l. part_size (lay.making j) l) 0 (take i p.parts) in
    ap (λ (t : List (List Nets)). nets_in (slice_get t i) h) is
    ∙ (departs_at lay.making 0 (parts_start lay p) i h p.parts some
    ∙ ap (λ (m : ℕ). Some (nets_out (slice_get (outs_if (lay.making m) (slice_get p.parts i) start) h))) first)
