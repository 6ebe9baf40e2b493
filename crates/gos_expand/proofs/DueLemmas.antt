-- A token that lies on a joint stays there as long as none is taken; and one that an output shows lies on the joint there:
-- so the outputs of a cycle are possible.
use Rattle.std.specs.Prelude.{Option, None}
use Rattle.std.proofs.Common.{◌≡◌, ℕ, zero, suc, ◌+◌, ◌*◌, ◌^◌, ◌<◌, Bool, true, false, List, [], ◌∷◌, Some, slice_get, refl, sym, ◌∙◌, ap, subst, arith, nat_eq, if◌then◌else◌}
use Rattle.gos_netlist.specs.Nets.{Netlist}
use Rattle.gos_types.specs.Events.{Direction}
use Rattle.gos_netlist.specs.Settling.{Numbers, at}
use Rattle.gos_plan.specs.Kinds.{Part, Contact, part_contacts}
use Rattle.gos_plan.specs.Firing.{Token}
use Rattle.gos_plan.specs.Plans.{End, PartEnd, ImportEnd, ResultEnd, Joint, Plan, IsRight, contact_at, same_end, contacts_of_part}
use Rattle.gos_plan.specs.Tokens.{Tokens, Element, Fire, Out, In, IsPortEnd, places_of, way_taken}
use Rattle.gos_plan.specs.TokenBits.{AllFit}
use Rattle.gos_plan.specs.Orderly.{Open, OrderlyFrom}
use Rattle.gos_macro.specs.Gates.{pulse_in}
use Rattle.gos_plan.specs.Projection.{TakesValues}
use Rattle.gos_expand.specs.Starts.{Laying, bits_taken}
use Rattle.gos_expand.specs.Laid.{known}
use Rattle.gos_expand.specs.Facts.{Places, number_by, source, target, width, incoming_at}
use Rattle.gos_plan.specs.Accounts.{count, number, ins_at, ins_sum, outs_at, outs_sum, put_at, sum_put, taken_at, sum_taken}
use Rattle.gos_expand.proofs.TallyLemmas.{no_value}
use Rattle.gos_expand.proofs.StandingLemmas.{pending_if, pending_at, pending_numbers, shown_at, shown_numbers, held_pulse, carried, carried_one, nothing_held, Lies, Led, Now, filled, values, values_if, Taking, taking, small_count, one_token, lies_at, incoming_at_handshake}

none_more : (b : Bool) (v n m : ℕ) → (n ≡ 0 → m ≡ 0) → (if b then suc n else n) ≡ 0 → (if b then v + m else m) ≡ 0
none_more true v n m go h = absurd (omega (arith, h))
none_more false v n m go h = go h

-- where no outputs come at an end, their numbers add up to 0; and so of inputs
none_add : (e : End) (xs : List Element) → (outs_at e xs ≡ 0 → outs_sum e xs ≡ 0) × (ins_at e xs ≡ 0 → ins_sum e xs ≡ 0)
none_add e [] = (λ h. refl, λ h. refl)
none_add e (Fire i t ∷ xs) = none_add e xs
none_add e (Out d v ∷ xs) = (none_more (same_end d e) v (outs_at e xs) (outs_sum e xs) (none_add e xs).0, (none_add e xs).1)
none_add e (In d v ∷ xs) = ((none_add e xs).0, none_more (same_end d e) v (ins_at e xs) (ins_sum e xs) (none_add e xs).1)

-- where nothing is taken or put, no number is
pub nothing_taken : (x : ℕ → ℕ → ℕ) (xs : List Element) (way : Direction) (e : End) → taken_at way e xs ≡ 0 → sum_taken x way e xs ≡ 0
nothing_taken x xs way (PartEnd i h) none = ap (λ (m : ℕ). m * x i h) none ∙ grind arith
nothing_taken x xs way (ImportEnd i h) none = (none_add (ImportEnd i h) xs).0 none
nothing_taken x xs way (ResultEnd h) none = (none_add (ResultEnd h) xs).0 none

pub nothing_put : (puts : ℕ → List Token) (xs : List Element) (e : End) → put_at puts e xs ≡ 0 → sum_put puts e xs ≡ 0
nothing_put puts xs (PartEnd i h) none = no_value h (puts i) none
nothing_put puts xs (ImportEnd i h) none = (none_add (ImportEnd i h) xs).1 none
nothing_put puts xs (ResultEnd h) none = (none_add (ResultEnd h) xs).1 none

pub nothing_pending_there : (lay : Laying) → (p : Plan) (n : Places) (regs : Numbers) (e : End) → pending_at lay p n regs e ≡ 0 → pending_numbers lay p n regs e ≡ 0
nothing_pending_there lay p n regs (PartEnd i h) none = no_value h (pending_if (lay.making i) (slice_get p.parts i) (n.start i) regs) none
nothing_pending_there lay p n regs (ImportEnd i h) none = refl
nothing_pending_there lay p n regs (ResultEnd h) none = refl

-- a token that is not taken stays, and no other comes to it
pub still_there : (p : Plan) (n : Places) (v : Numbers) (o u : Open) (s t : Tokens) (xs : List Element) (x : ℕ) (j : Joint) (way : Direction)
    → IsRight p → Led p o s → OrderlyFrom p xs o s u t → ((i : ℕ) → TakesValues p i (values p n v i) xs s) → slice_get p.joints x ≡ Some j
    → taken_at way (target j way) xs ≡ 0 → count (s.in_place way j.asking) ≡ 1 → t.in_place way j.asking ≡ Some (number (s.in_place way j.asking))
still_there p n v o u s t xs x j way right led list takes there none one =
    let law = filled p n v o u s t xs right led list takes in
    let counts = (law.2 x j way there).counts in
    let numbers = (law.2 x j way there).sums in
    let small = small_count (t.in_place way j.asking) in
    let unput : put_at law.0 (source j way) xs ≡ 0 = omega (arith, counts, small, none, one) in
    let is_one : count (t.in_place way j.asking) ≡ 1 = omega (arith, counts, small, none, one) in
    let no_taken = nothing_taken (values p n v) xs way (target j way) none in
    let no_put = nothing_put law.0 xs (source j way) unput in
    let same : number (t.in_place way j.asking) ≡ number (s.in_place way j.asking) = omega (arith, numbers, no_taken, no_put) in
    one_token (t.in_place way j.asking) is_one ∙ ap Some same

-- the value that comes in at a handshake of a part
pub value_shape : (p : Plan) (n : Places) (v : Numbers) (i h : ℕ) (k : Part) (c : Contact) → slice_get p.parts i ≡ Some k → contact_at p (PartEnd i h) ≡ Some c
    → values p n v i h ≡ (if nat_eq (bits_taken (Some c)) 0 then 0 else at v (n.arrives (PartEnd i h)).number)
value_shape p n v i h k c is there =
    let own : slice_get (part_contacts k) h ≡ Some c = subst (λ (f : Option Part). slice_get (contacts_of_part f) h ≡ Some c) is there in
    let bits = incoming_at_handshake (part_contacts k) h c own in
    ap (λ (f : Option Part). values_if f v (incoming_at p n i) h) is
    ∙ (λ l. if nat_eq (bits l) 0 then 0 else at v (known (there l) (n.arrives (PartEnd i h)).number))

pub pulse_shape : (p : Plan) (n : Places) (v : Numbers) (i h : ℕ) (c : Contact) → contact_at p (PartEnd i h) ≡ Some c
    → pulse_in v (incoming_at p n i) h ≡ at v (n.arrives (PartEnd i h)).pulse
pulse_shape p n v i h c there = ap (λ (f : Option Contact). at v (known f (n.arrives (PartEnd i h)).pulse)) there

-- a token that is shown at an end: it lies on the joint there, with this number
pub record Due (p : Plan) (s : Tokens) (e : End) (c : Contact) (x : ℕ) : Type 0 where
  pub at_end : Taking p e c
  pub one : count (s.in_place (way_taken c.role) at_end.joint.asking) ≡ 1
  pub is : number (s.in_place (way_taken c.role) at_end.joint.asking) ≡ x

-- without bits it is 0
pub bare : (p : Plan) (s : Tokens) (e : End) (c : Contact) (t : Taking p e c) → AllFit p s → contact_at p e ≡ Some c
    → count (s.in_place (way_taken c.role) t.joint.asking) ≡ 1 → bits_taken (Some c) ≡ 0 → number (s.in_place (way_taken c.role) t.joint.asking) ≡ 0
bare p s e c t fit there one none =
    let lies = lies_at p s e c t ∙ one_token (s.in_place (way_taken c.role) t.joint.asking) one in
    let small = fit.0 e c (way_taken c.role) (number (s.in_place (way_taken c.role) t.joint.asking)) there lies in
    let less : number (s.in_place (way_taken c.role) t.joint.asking) < 2 ^ 0 =
    subst (λ (b : ℕ). number (s.in_place (way_taken c.role) t.joint.asking) < 2 ^ b) none small in
    omega (arith, less)

pub shown_port : (n : Places) (regs : Numbers) (e : End) → IsPortEnd e → (shown_at n regs e ≡ at regs (n.shows e).pulse) × (shown_numbers n regs e ≡ carried regs (n.shows e))
shown_port n regs (PartEnd i h) port = absurd port
shown_port n regs (ImportEnd i h) port = (refl, refl)
shown_port n regs (ResultEnd h) port = (refl, refl)

-- at a port nothing is pending, and what is put and taken there are inputs and outputs
pub nothing_at_port : (lay : Laying) → (p : Plan) (n : Places) (regs : Numbers) (e : End) → IsPortEnd e → (pending_at lay p n regs e ≡ 0) × (pending_numbers lay p n regs e ≡ 0)
nothing_at_port lay p n regs (PartEnd i h) port = absurd port
nothing_at_port lay p n regs (ImportEnd i h) port = (refl, refl)
nothing_at_port lay p n regs (ResultEnd h) port = (refl, refl)

pub put_at_port : (puts : ℕ → List Token) (xs : List Element) (e : End) → IsPortEnd e → (put_at puts e xs ≡ ins_at e xs) × (sum_put puts e xs ≡ ins_sum e xs)
put_at_port puts xs (PartEnd i h) port = absurd port
put_at_port puts xs (ImportEnd i h) port = (refl, refl)
put_at_port puts xs (ResultEnd h) port = (refl, refl)

pub sum_taken_port : (x : ℕ → ℕ → ℕ) (xs : List Element) (way : Direction) (e : End) → IsPortEnd e → sum_taken x way e xs ≡ outs_sum e xs
sum_taken_port x xs way (PartEnd i h) port = absurd port
sum_taken_port x xs way (ImportEnd i h) port = refl
sum_taken_port x xs way (ResultEnd h) port = refl

pub due_at_port : (lay : Laying) (p : Plan) (net : Netlist) (n : Places) (rank : End → ℕ) (v regs after : Numbers) (o : Open) (s : Tokens) (e : End) (c : Contact)
    → Now lay p net n rank v regs after o s → IsPortEnd e → contact_at p e ≡ Some c → at v (n.shows e).pulse ≡ 1
    → Due p s e c (number_by v (bits_taken (Some c)) (n.shows e))
due_at_port lay p net n rank v regs after o s e c now port there pulse = by_place (places_of p e) refl
  where
    held : at regs (n.shows e).pulse ≡ 1
    held = sym (now.facts.ports e c port there).pulse ∙ pulse

    by_bits : (w : ℕ) → bits_taken (Some c) ≡ w → (t : Taking p e c) → count (s.in_place (way_taken c.role) t.joint.asking) ≡ 1
        → pending_numbers lay p n regs (source t.joint (way_taken c.role)) ≡ 0
        → held_pulse (lay.keep t.index (way_taken c.role)) regs (n.arrives (target t.joint (way_taken c.role))) ≡ 0
        → number (s.in_place (way_taken c.role) t.joint.asking) ≡ number_by v w (n.shows e)
    by_bits zero is t one no_pending not_here = bare p s e c t now.standing.fit there one is
    by_bits (suc w) is t one no_pending not_here =
        let bits : 0 < width p t.joint (way_taken c.role) = subst (λ (b : ℕ). 0 < b) (sym (t.bits ∙ is)) (omega arith) in
        let some : 0 < bits_taken (Some c) = subst (λ (b : ℕ). 0 < b) (sym is) (omega arith) in
        let lies = now.standing.joints t.index t.joint (way_taken c.role) t.there in
        let numbers = lies.numbers bits in
        let none_held = nothing_held (lay.keep t.index (way_taken c.role)) regs (n.arrives (target t.joint (way_taken c.role))) not_here in
        let shown = (now.facts.ports e c port there).number some in
        let here : shown_numbers n regs (target t.joint (way_taken c.role)) ≡ at regs (n.shows e).number =
        sym (ap (shown_numbers n regs) t.is_target) ∙ ((shown_port n regs e port).1 ∙ carried_one regs (n.shows e) held) in
        omega (arith, numbers, none_held, no_pending, here, shown)

    by_joint : (t : Taking p e c) → Due p s e c (number_by v (bits_taken (Some c)) (n.shows e))
    by_joint t =
        let way : Direction = way_taken c.role in
        let lies : Lies lay p n regs s t.index t.joint way = now.standing.joints t.index t.joint way t.there in
        let shows : shown_at n regs (target t.joint way) ≡ 1 = sym (ap (shown_at n regs) t.is_target) ∙ ((shown_port n regs e port).0 ∙ held) in
        let counts = lies.counts in
        let small = small_count (s.in_place way t.joint.asking) in
        let one : count (s.in_place way t.joint.asking) ≡ 1 = omega (arith, counts, small, shows) in
        let not_pending : pending_at lay p n regs (source t.joint way) ≡ 0 = omega (arith, counts, small, shows) in
        let not_here : held_pulse (lay.keep t.index way) regs (n.arrives (target t.joint way)) ≡ 0 = omega (arith, counts, small, shows) in
        let no_pending = nothing_pending_there lay p n regs (source t.joint way) not_pending in
        record { at_end = t; one = one; is = by_bits (bits_taken (Some c)) refl t one no_pending not_here }

    by_place : (f : Option End) → places_of p e ≡ f → Due p s e c (number_by v (bits_taken (Some c)) (n.shows e))
    by_place None none = let silent = now.standing.loose e c port there none in absurd (omega (arith, silent, held))
    by_place (Some a) place = by_joint (taking p e a c now.right there place)
