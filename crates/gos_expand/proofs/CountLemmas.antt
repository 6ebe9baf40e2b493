-- What the blocks of ports, of joints and of loose ends are of, as the tables of the program tell it.
use Rattle.std.specs.Prelude.{Option, None, Some, IsSome}
use Rattle.std.proofs.Common.{◌≡◌, ℕ, zero, suc, ◌+◌, ◌<◌, List, [], ◌∷◌, ◌++◌, length, map, slice_index_or, refl, ap, subst, arith, ◌∙◌, slice_get}
use Rattle.std.proofs.lemmas.List.{length-append}
use Rattle.gos_netlist.specs.Nets.{Cell, Side}
use Rattle.gos_types.specs.Events.{Request, Answer}
use Rattle.gos_plan.specs.Kinds.{Contact, turned_contact}
use Rattle.gos_plan.specs.Contacts.{held_contact, contact_held}
use Rattle.gos_model.specs.Typing.{Imported}
use Rattle.gos_plan.specs.Plans.{End, Joint, Plan, contact_at, Fits}
use Rattle.gos_expand.specs.declared.arrivals.Origin.{Origin}
use Rattle.gos_expand.specs.declared.arrivals.Arrival.{Arrival}
use Rattle.gos_expand.specs.declared.places.Place.{Place}
use Rattle.gos_expand.specs.declared.places.Place.TheVariants as places
use Rattle.gos_expand.specs.Blocks.{Nets, blocks}
use Rattle.gos_expand.specs.Starts.{Outer, Laying, bits_if, ports_of, taken_ports}
use Rattle.gos_expand.specs.inner.Arrivals.{arrival_if, start_at}
use Rattle.gos_expand.specs.inner.Numbering.{end_at}
use Rattle.gos_expand.specs.Laid.{arrives, side_cells, shake_cells, port_cells}
use Rattle.gos_expand.specs.inner.Outers.{outer_at, side_at}
use Rattle.gos_expand.proofs.PortLemmas.{taken_port}

-- the item of a list at a place, seen by a function
pub indexed_mapped : {A B : Type 0} (f : A → B) (i : ℕ) (xs ys : List A) (d : A) → xs ≡ ys → i < length xs → slice_get (map f ys) i ≡ Some (f (slice_index_or xs i d))
indexed_mapped {A} f i xs ys d same within = subst (λ (zs : List A). slice_get (map f zs) i ≡ Some (f (slice_index_or xs i d))) same (indexed i xs within)
  where
    indexed : (i : ℕ) (xs : List A) → i < length xs → slice_get (map f xs) i ≡ Some (f (slice_index_or xs i d))
    indexed i [] within = absurd (omega (arith, within))
    indexed zero (x ∷ xs) within = refl
    indexed (suc i) (x ∷ xs) within = indexed i xs (omega (arith, within))

-- both ends of a joint that fits are there
pub asking_there : (p : Plan) (j : Joint) → Fits p j → IsSome (contact_at p j.asking)
asking_there p j fits = rw fits.2 refl

pub serving_there : (p : Plan) (j : Joint) → Fits p j → IsSome (contact_at p j.serving)
serving_there p j fits = rw fits.3 refl

-- the cells of a handshake of a port, by its entry in the table
pub shake_placed : (lay : Laying) (p : Plan) (place : Place) (h : ℕ) (c : Contact) (entry : Arrival) (side : Side) (nets : Nets) (e : End)
    → slice_get (outer_at p place).contacts h ≡ Some c → Some entry ≡ arrival_if (start_at lay p e) (contact_at p e) → e ≡ end_at place h → side ≡ side_at place
    → nets ≡ arrives lay p e → side_cells side (contact_held entry.contact) nets ≡ shake_cells lay p (outer_at p place) h c
shake_placed lay p places.OfResult h c entry side nets e there told is at same =
    let seen : contact_at p e ≡ Some (turned_contact c) = rw (is, there) refl in
    let told_so : Some entry ≡ Some (record { contact = held_contact (turned_contact c); origin = start_at lay p e }) = told ∙ ap (arrival_if (start_at lay p e)) seen in
    let entry_is : entry ≡ record { contact = held_contact (turned_contact c); origin = start_at lay p e } = cc told_so in
    rw (entry_is, at, same, is) refl
shake_placed lay p (places.OfImport i) h c entry side nets e there told is at same =
    let seen : contact_at p e ≡ Some c = rw is there in
    let told_so : Some entry ≡ Some (record { contact = held_contact c; origin = start_at lay p e }) = told ∙ ap (arrival_if (start_at lay p e)) seen in
    let entry_is : entry ≡ record { contact = held_contact c; origin = start_at lay p e } = cc told_so in
    rw (entry_is, at, same, is) refl
shake_placed lay p (places.OfPart i) h c entry side nets e there told is at same = absurd (cc there)

-- the port of an import
pub outer_import : (p : Plan) (i : ℕ) (x : Imported) → slice_get p.imports i ≡ Some x → outer_at p (places.OfImport i) ≡ taken_port i x
outer_import p i x there = rw there refl

-- ports are placed alike whatever their number
pub ports_alike : (lay : Laying) (p : Plan) (m n : ℕ) (os : List Outer) → blocks (port_cells lay p) m os ≡ blocks (port_cells lay p) n os
ports_alike lay p m n [] = refl
ports_alike lay p m n (o ∷ os) = ap (λ (cs : List Cell). port_cells lay p 0 o ++ cs) (ports_alike lay p (suc m) (suc n) os)

-- how many cells the ports have: those of the result, and those of the imports
pub ports_length : (lay : Laying) (p : Plan) → length (blocks (port_cells lay p) 0 (ports_of p))
    ≡ length (port_cells lay p 0 (outer_at p places.OfResult)) + length (blocks (port_cells lay p) 0 (taken_ports 0 p.imports))
ports_length lay p =
    let own : List Cell = port_cells lay p 0 (outer_at p places.OfResult) in
    length-append own (blocks (port_cells lay p) 1 (taken_ports 0 p.imports))
    ∙ ap (λ (cs : List Cell). length own + length cs) (ports_alike lay p 1 0 (taken_ports 0 p.imports))

-- the bits of a joint's tokens, by the entry of the end that asks
pub entry_bits : (s : Option Origin) (o : Option Contact) (a : Arrival) → Some a ≡ arrival_if s o
    → (a.contact.ask_bits ≡ bits_if o Request) × (a.contact.answer_bits ≡ bits_if o Answer)
entry_bits s None a is = absurd (cc is)
entry_bits s (Some c) a is =
    let same : a ≡ record { contact = held_contact c; origin = s } = cc is in
    (ap (λ (b : Arrival). b.contact.ask_bits) same, ap (λ (b : Arrival). b.contact.answer_bits) same)
