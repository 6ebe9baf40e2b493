-- A netlist that is reduced again and again until it is tidy is the first one, made tidy.
--
-- Read first: Tidy, Alike; StillLemmas. In an accepted netlist a net of a port is an input or an output, so what leads to nets of
-- ports and is no input leads to outputs.
use Rattle.std.proofs.Common.{◌≡◌, ◌≢◌, ℕ, zero, suc, Bool, true, false, if◌then◌else◌, List, [], ◌∷◌, length, slice_get, Some, None, Contains, refl, sym, subst, ◌∙◌, arith}
use Rattle.std.specs.List.{flat_map}
use Rattle.std.proofs.lemmas.List.Elements.{Contains-append_left, Contains-append_right}
use Rattle.gos_types.specs.Events.{Event, Is, events}
use Rattle.gos_netlist.specs.Nets.{Function, Input, Cell, Side, NetPort, Netlist, pins}
use Rattle.gos_netlist.specs.Events.{is_input}
use Rattle.gos_netcheck.specs.PortRules.{IsEnd, FitsAt, event_places, PortsFit}
use Rattle.gos_netcheck.specs.Accepted.{IsAccepted}
use Rattle.gos_tidy.specs.Ends.{outputs_among, outputs_of, all_outputs}
use Rattle.gos_tidy.specs.Reduced.{Reduces}
use Rattle.gos_tidy.specs.Tidy.{LeadsTo, IsEnd as AtEnd, IsPin, IsTidy}
use Rattle.gos_tidy.specs.Alike.{IsTidied}
use Rattle.gos_tidy.proofs.RenamedLemmas.{one_gate}
use Rattle.gos_tidy.proofs.PortNetLemmas.{flat_member, member_flat}
use Rattle.gos_tidy.proofs.AgainLemmas.{reduced_again}

-- at the net stands a cell that is no input
abbrev IsOther : List Cell → ℕ → Type 0
IsOther cells x = (c : Cell) × (slice_get cells x ≡ Some c) × (c.gate ≢ Input)

-- an output's net is no input
not_input : (cells : List Cell) (x : ℕ) (b : Bool) → IsOther cells x → (c : Cell) × (slice_get cells x ≡ Some c) × IsEnd b c.gate → b ≡ false
not_input cells x true (d, is, other) (c, there, end) = absurd (other (one_gate cells x d c is there ∙ end))
not_input cells x false other end = refl

-- a net of a port that is no input is an output
output_among : (cells : List Cell) (side : Side) (es : List Event) (ns : List ℕ) → length ns ≡ length (flat_map (event_places side) es)
    → ((i n : ℕ) → slice_get ns i ≡ Some n → FitsAt cells (slice_get (flat_map (event_places side) es) i) n)
    → (x : ℕ) → IsOther cells x → Contains ns x → Contains (outputs_among side es ns) x
output_among cells side [] [] size fit x other has = has
output_among cells side [] (n ∷ ns) size fit x other has = absurd (fit 0 n refl)
output_among cells side (Is way None ∷ es) [] size fit x other (k, l, e) = absurd (omega (arith, l))
output_among cells side (Is way None ∷ es) (a ∷ ns) size fit x other (zero, l, e) =
    let (c, there, width, end) = fit 0 a refl in
    let out = not_input cells a (is_input side way) (subst (IsOther cells) (sym e) other) (c, there, end) in
    Contains-append_left _ (outputs_among side es ns) x
    (subst (λ (b : Bool). Contains (if b then [] else a ∷ []) x) (sym out) (0, omega arith, e))
output_among cells side (Is way None ∷ es) (a ∷ ns) size fit x other (suc k, l, e) =
    Contains-append_right _ (outputs_among side es ns) x
    (output_among cells side es ns (omega (arith, size)) (λ i n is. fit (suc i) n is) x other (k, omega (arith, l), e))
output_among cells side (Is way (Some b) ∷ es) [] size fit x other (k, l, e) = absurd (omega (arith, l))
output_among cells side (Is way (Some b) ∷ es) (a ∷ []) size fit x other has = absurd (omega (arith, size))
output_among cells side (Is way (Some b) ∷ es) (a ∷ m ∷ ns) size fit x other (zero, l, e) =
    let (c, there, width, end) = fit 0 a refl in
    let out = not_input cells a (is_input side way) (subst (IsOther cells) (sym e) other) (c, there, end) in
    Contains-append_left _ (outputs_among side es ns) x
    (subst (λ (t : Bool). Contains (if t then [] else a ∷ m ∷ []) x) (sym out) (0, omega arith, e))
output_among cells side (Is way (Some b) ∷ es) (a ∷ m ∷ ns) size fit x other (suc zero, l, e) =
    let (c, there, width, end) = fit 1 m refl in
    let out = not_input cells m (is_input side way) (subst (IsOther cells) (sym e) other) (c, there, end) in
    Contains-append_left _ (outputs_among side es ns) x
    (subst (λ (t : Bool). Contains (if t then [] else a ∷ m ∷ []) x) (sym out) (1, omega arith, e))
output_among cells side (Is way (Some b) ∷ es) (a ∷ m ∷ ns) size fit x other (suc (suc k), l, e) =
    Contains-append_right _ (outputs_among side es ns) x
    (output_among cells side es ns (omega (arith, size)) (λ i n is. fit (suc (suc i)) n is) x other (k, omega (arith, l), e))

-- a cell with a pin is no input
pinned : (cells : List Cell) (m n : ℕ) (c : Cell) → slice_get cells m ≡ Some c → Contains (pins c.gate) n → IsOther cells m
pinned cells m n c there pin =
    (c, there, λ is. let none : Contains (pins Input) n = subst (λ (g : Function). Contains (pins g) n) is pin in omega (arith, none.1))

-- what leads to a net of a port, and is no input, leads to an output
pub leads_out : (cells : List Cell) (ports : List NetPort) → PortsFit cells ports → (n : ℕ) → LeadsTo cells (flat_map (λ p. p.nets) ports) n
    → (c : Cell) → slice_get cells n ≡ Some c → c.gate ≢ Input → LeadsTo cells (all_outputs ports) n
leads_out cells ports fit n (AtEnd _ has) c there other =
    let (k, p, is, in_p) = flat_member (λ q. q.nets) ports n has in
    let right = fit.each k p is in
    AtEnd n (member_flat outputs_of ports n k p is (output_among cells p.side (events p.ty) p.nets right.nets.0 right.nets.1 n (c, there, other) in_p))
leads_out cells ports fit n (IsPin _ m d at_m pin leads) c there other =
    let (e, is, no_input) = pinned cells m n d at_m pin in
    IsPin n m d at_m pin (leads_out cells ports fit m leads e is no_input)

pub tidied : (net other : Netlist) → IsAccepted net → Reduces net other → IsTidy other.cells (all_outputs other.ports) → IsTidied net other
tidied net other accepted reduces tidy =
    let still = reduced_again net other accepted reduces in
    record { alike = still.alike; accepted = still.accepted; fewer = still.fewer; tidy = tidy; order = still.order; reduced = reduces }
