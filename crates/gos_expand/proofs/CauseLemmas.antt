-- What arrives at an end of a part in a cycle lies there, once all that passes on to it in this cycle has been fired.
--
-- Read first: Causal of gos_macro; ScheduleLemmas, StandingLemmas. What arrives was in the registers of the joint, or it leaves the other
-- end in this cycle: then an input put it there, or a part, early in this cycle or late in the one before.
use Rattle.std.specs.Prelude.{Option, None}
use Rattle.std.proofs.Common.{◌≡◌, ℕ, zero, suc, ◌+◌, ◌^◌, ◌≤◌, ◌<◌, Bool, true, false, List, [], ◌∷◌, ◌++◌, Some, slice_get, length, refl, sym, ◌∙◌, ap, subst, arith, nat_eq, pow_pos, if◌then◌else◌}
use Rattle.gos_types.specs.declared.shakes.Role.{Role}
use Rattle.gos_types.specs.declared.shakes.Role.TheVariants.{Serve, Ask}
use Rattle.std.proofs.lemmas.Option.{slice_get_within}
use Rattle.gos_netlist.specs.Nets.{Netlist, Cell}
use Rattle.gos_types.specs.Events.{Direction}
use Rattle.gos_netlist.specs.Settling.{Numbers, at}
use Rattle.gos_plan.specs.Kinds.{Part, Contact, part_contacts}
use Rattle.gos_plan.specs.Firing.{Slot, Token}
use Rattle.gos_plan.specs.Plans.{End, PartEnd, ImportEnd, ResultEnd, Joint, Plan, contact_at, contacts_of_part}
use Rattle.gos_plan.specs.Tokens.{Tokens, Element, IsPortEnd, places_of, shake_of, bits_of, way_taken, way_put}
use Rattle.gos_plan.specs.TokenBits.{AllFit}
use Rattle.gos_plan.specs.Orderly.{Open, OrderlyFrom}
use Rattle.gos_macro.specs.Gates.{Outgoing, Bare, Bearing, bits_out, incoming_bits, slot_in, pulse_in, value_in, NetsShow}
use Rattle.gos_plan.specs.Firings.{due, value_due, Fires, times}
use Rattle.gos_macro.specs.Fit.{GoesOut}
use Rattle.gos_macro.specs.Law.{pulsed, early_in_order}
use Rattle.gos_macro.specs.Kept.{KeepLaws}
use Rattle.gos_plan.specs.Projection.{firings_of, asked_by, TakesValues}
use Rattle.gos_plan.specs.Accounts.{count, number, ins_at, ins_sum, put_at, sum_put, taken_at, sum_taken, AddsUp, PartsPut}
use Rattle.gos_plan.specs.Made.{PartFiring, fires_of}
use Rattle.gos_plan.proofs.DecidedLemmas.{orderly_is_possible}
use Rattle.gos_plan.proofs.JointLemmas.{fits}
use Rattle.gos_plan.proofs.TokenBitsLemmas.{all_stay_fit}
use Rattle.gos_macro.specs.causal.Causal.{PartlyFired, ComeInRange, AreCausal}
use Rattle.gos_macro.proofs.causal.CausalLemmas.{are_causal}
use Rattle.gos_expand.specs.Gates.{layout, outs_of, late_of, pending_of, stands_of, passing_of}
use Rattle.gos_expand.specs.Blocks.{Nets}
use Rattle.gos_expand.specs.Starts.{Laying, bits_taken}
use Rattle.gos_expand.specs.Laid.{nets_out}
use Rattle.gos_expand.specs.Facts.{Places, source, target, width, bits_put, bits_in_at, incoming_at, PlanFacts, PassesOn, order_at}
use Rattle.gos_expand.proofs.TallyLemmas.{due-append, value_due-append, no_value, outgoing_at}
use Rattle.gos_expand.proofs.StandingLemmas.{pending_if, pending_at, pending_numbers, shown_at, shown_numbers, held_pulse, held_number, number_by_pulse, carried, carried_one, Lies, Now, Ends, ends_of, filled, values, values_if, Taking, taking, is_in_at, small_count, one_token, lies_at, incoming_at_handshake}
use Rattle.gos_expand.proofs.DueLemmas.{nothing_taken, nothing_put, nothing_pending_there, value_shape, pulse_shape, Due, bare, nothing_at_port, put_at_port}
use Rattle.gos_expand.proofs.ScheduleLemmas.{Choice, is_early, below_rank, early_below, top, early_made, firings_pulsed, early_listed, early_times, cut_order, below_top, times_pulsed, chosen_once}
use Rattle.gos_expand.proofs.PossibleLemmas.{there_is, listing, firings_listed, slot_taken}
use Rattle.gos_expand.proofs.EventLemmas.{ins_listed, flag_is, number_is}
use Rattle.gos_expand.proofs.PulseLemmas.{flag, number_if}

-- what comes in at a handshake is a pulse or none, and its value has at most its bits
pub record ComesIn (p : Plan) (n : Places) (v : Numbers) (i h : ℕ) (c : Contact) : Type 0 where
  pub small : at v (n.arrives (PartEnd i h)).pulse ≤ 1
  pub value : values p n v i h < 2 ^ bits_taken (Some c)

abbrev pub AllComeIn : Plan → Places → Numbers → Choice → Type 0
AllComeIn p n v these =
    (i h : ℕ) (k : Part) (c : Contact) → slice_get p.parts i ≡ Some k → contact_at p (PartEnd i h) ≡ Some c → these i k h ≡ true → ComesIn p n v i h c

pub own_contact : (p : Plan) (i h : ℕ) (k : Part) (c : Contact) → slice_get p.parts i ≡ Some k → contact_at p (PartEnd i h) ≡ Some c → slice_get (part_contacts k) h ≡ Some c
own_contact p i h k c is there = subst (λ (f : Option Part). slice_get (contacts_of_part f) h ≡ Some c) is there

pub end_contact : (p : Plan) (i h : ℕ) (k : Part) (c : Contact) → slice_get p.parts i ≡ Some k → slice_get (part_contacts k) h ≡ Some c → contact_at p (PartEnd i h) ≡ Some c
end_contact p i h k c is own = subst (λ (f : Option Part). slice_get (contacts_of_part f) h ≡ Some c) (sym is) own

pub part_there : (p : Plan) (i h : ℕ) (c : Contact) → contact_at p (PartEnd i h) ≡ Some c → (k : Part) × (slice_get p.parts i ≡ Some k)
part_there p i h c there = by_part (slice_get p.parts i) refl
  where
    by_part : (f : Option Part) → slice_get p.parts i ≡ f → (k : Part) × (slice_get p.parts i ≡ Some k)
    by_part None e = absurd (let no : slice_get (contacts_of_part None) h ≡ Some c = subst (λ (f : Option Part). slice_get (contacts_of_part f) h ≡ Some c) e there in grind (arith, no))
    by_part (Some k) e = (k, e)

-- so it is for the gates of a part
pub pulses_small : (p : Plan) (n : Places) (v : Numbers) (these : Choice) (i : ℕ) (k : Part) → AllComeIn p n v these → slice_get p.parts i ≡ Some k
    → (g : ℕ) → g < length (part_contacts k) → these i k g ≡ true → pulse_in v (incoming_at p n i) g ≤ 1
pulses_small p n v these i k all is g lt chosen =
    let c = there_is (part_contacts k) g lt in
    let contact : contact_at p (PartEnd i g) ≡ Some c.0 = end_contact p i g k c.0 is c.1 in
    subst (λ (m : ℕ). m ≤ 1) (sym (pulse_shape p n v i g c.0 contact)) (all i g k c.0 is contact chosen).small

no_bits : (cs : List Contact) (h : ℕ) → slice_get cs h ≡ None → incoming_bits cs h ≡ 0
no_bits [] h e = refl
no_bits (c ∷ cs) zero e = absurd (grind (arith, e))
no_bits (c ∷ cs) (suc h) e = no_bits cs h e

pub values_small : (p : Plan) (n : Places) (v : Numbers) (these : Choice) (i : ℕ) (k : Part) → AllComeIn p n v these → slice_get p.parts i ≡ Some k
    → (h : ℕ) → these i k h ≡ true → value_in k v (incoming_at p n i) h < 2 ^ incoming_bits (part_contacts k) h
values_small p n v these i k all is h chosen = by_contact (slice_get (part_contacts k) h) refl
  where
    same : values p n v i h ≡ value_in k v (incoming_at p n i) h
    same = ap (λ (f : Option Part). values_if f v (incoming_at p n i) h) is

    by_contact : (f : Option Contact) → slice_get (part_contacts k) h ≡ f → value_in k v (incoming_at p n i) h < 2 ^ incoming_bits (part_contacts k) h
    by_contact None e = rw (no_bits (part_contacts k) h e) (omega arith)
    by_contact (Some c) e =
        let small = (all i h k c is (end_contact p i h k c is e) chosen).value in
        let bits : bits_taken (Some c) ≡ incoming_bits (part_contacts k) h = sym (incoming_at_handshake (part_contacts k) h c e) in
        subst (λ (b : ℕ). value_in k v (incoming_at p n i) h < 2 ^ b) bits (subst (λ (x : ℕ). x < 2 ^ bits_taken (Some c)) same small)

-- the nets that go out at a handshake show what is due there
pub bits_out_put : (c : Contact) → bits_out c.role c ≡ bits_put (Some c)
bits_out_put c = by_role c.role
  where
    by_role : (role : Role) → bits_out role c ≡ bits_of c (way_put role)
    by_role Serve = refl
    by_role Ask = refl

net_shows : (v : Numbers) (b : ℕ) (cells : List Cell) (c : Contact) (o : Outgoing) (m x : ℕ) → GoesOut b cells c o → NetsShow v o m x
    → (at v (nets_out (Some o)).pulse ≡ m) × (0 < bits_put (Some c) → at v (nets_out (Some o)).number ≡ x)
net_shows v b cells c (Bare q) m x goes shows =
    let none : bits_put (Some c) ≡ 0 = sym (bits_out_put c) ∙ goes.0 in (shows, λ some. absurd (omega (arith, none, some)))
net_shows v b cells c (Bearing q a) m x goes shows = (shows.0, λ some. shows.1)

-- they show no number where nothing is due
pub due_carried : (v : Numbers) (nets : Nets) (h : ℕ) (ts : List Token) → at v nets.pulse ≡ due h ts → at v nets.number ≡ value_due h ts → carried v nets ≡ value_due h ts
due_carried v nets h ts pulse value = by_pulse (at v nets.pulse) pulse
  where
    by_pulse : (m : ℕ) → m ≡ due h ts → number_by_pulse m (at v nets.number) ≡ value_due h ts
    by_pulse zero none = sym (no_value h ts (sym none))
    by_pulse (suc m) some = value

pub due_narrow : (v : Numbers) (nets : Nets) (h w : ℕ) (ts : List Token) → at v nets.pulse ≡ due h ts → at v nets.number ≡ value_due h ts → at v nets.pulse ≡ 0 → at v nets.number < 2 ^ w
due_narrow v nets h w ts pulse value none =
    let nothing : at v nets.number ≡ 0 = value ∙ no_value h ts (sym pulse ∙ none) in
    subst (λ (x : ℕ). x < 2 ^ w) (sym nothing) (pow_pos w)

pub leaving_shows : (lay : Laying) (p : Plan) (n : Places) (rank : End → ℕ) (v : Numbers) (i h : ℕ) (k : Part) (c : Contact) (ts : List Token) → PlanFacts lay p n
    → KeepLaws k (layout (lay.making i) k) (outs_of (lay.making i) k) (late_of (lay.making i) k) (pending_of (lay.making i) k) (stands_of (lay.making i) k) (order_at rank i) → slice_get p.parts i ≡ Some k → contact_at p (PartEnd i h) ≡ Some c
    → ((o : Outgoing) → slice_get (outs_of (lay.making i) k (n.start i)) h ≡ Some o → NetsShow v o (due h ts) (value_due h ts))
    → (at v (n.leaves (PartEnd i h)).pulse ≡ due h ts) × (0 < bits_put (Some c) → at v (n.leaves (PartEnd i h)).number ≡ value_due h ts)
leaving_shows lay p n rank v i h k c ts plan laws is there shows =
    subst (λ (x : Nets). (at v x.pulse ≡ due h ts) × (0 < bits_put (Some c) → at v x.number ≡ value_due h ts)) (sym leaving)
    (net_shows v (n.start i) (layout (lay.making i) k (n.start i) (incoming_at p n i)) c out.0 (due h ts) (value_due h ts) out.2 (shows out.0 out.1))
  where
    out : (y : Outgoing) × (slice_get (outs_of (lay.making i) k (n.start i)) h ≡ Some y) × GoesOut (n.start i) (layout (lay.making i) k (n.start i) (incoming_at p n i)) c y
    out =
        outgoing_at (n.start i) h (layout (lay.making i) k (n.start i) (incoming_at p n i)) (part_contacts k) (outs_of (lay.making i) k (n.start i)) c
        (laws.fits.outgoing (n.start i) (incoming_at p n i)) (own_contact p i h k c is there)

    leaving : n.leaves (PartEnd i h) ≡ nets_out (Some out.0)
    leaving = plan.leaving i h k is ∙ ap nets_out out.1

-- in an orderly list so far: what leaves an end of these bits was pending there, or was put there in the list
pub record Shown (lay : Laying) (p : Plan) (n : Places) (v regs : Numbers) (puts : ℕ → List Token) (xs : List Element) (e : End) (w : ℕ) : Type 0 where
  pub pulse : at v (n.leaves e).pulse ≡ pending_at lay p n regs e + put_at puts e xs
  pub number : 0 < w → carried v (n.leaves e) ≡ pending_numbers lay p n regs e + sum_put puts e xs
  pub narrow : 0 < w → at v (n.leaves e).pulse ≡ 0 → at v (n.leaves e).number < 2 ^ w

-- where the nets show what was pending and what is put
shown_by_part : (lay : Laying) → (p : Plan) (n : Places) (v regs : Numbers) (puts : ℕ → List Token) (xs : List Element) (i h w : ℕ) (k : Part) → slice_get p.parts i ≡ Some k
    → (at v (n.leaves (PartEnd i h)).pulse ≡ due h (pending_of (lay.making i) k (n.start i) regs ++ puts i))
    × (0 < w → at v (n.leaves (PartEnd i h)).number ≡ value_due h (pending_of (lay.making i) k (n.start i) regs ++ puts i))
    → Shown lay p n v regs puts xs (PartEnd i h) w
shown_by_part lay p n v regs puts xs i h w k is nets =
    let pulse = nets.0 in
    let held : pending_at lay p n regs (PartEnd i h) ≡ due h (pending_of (lay.making i) k (n.start i) regs) = ap (λ (f : Option Part). due h (pending_if (lay.making i) f (n.start i) regs)) is in
    let held_sum : pending_numbers lay p n regs (PartEnd i h) ≡ value_due h (pending_of (lay.making i) k (n.start i) regs) =
    ap (λ (f : Option Part). value_due h (pending_if (lay.making i) f (n.start i) regs)) is in
    let split = due-append h (pending_of (lay.making i) k (n.start i) regs) (puts i) in
    let sums = value_due-append h (pending_of (lay.making i) k (n.start i) regs) (puts i) in
    record {
      pulse = omega (arith, pulse, held, split);
      number = λ some.
          let value = due_carried v (n.leaves (PartEnd i h)) h (pending_of (lay.making i) k (n.start i) regs ++ puts i) pulse (nets.1 some) in
          omega (arith, value, held_sum, sums);
      narrow = λ some none. due_narrow v (n.leaves (PartEnd i h)) h w (pending_of (lay.making i) k (n.start i) regs ++ puts i) pulse (nets.1 some) none;
    }

pub shown_by_port : (lay : Laying) (p : Plan) (net : Netlist) (n : Places) (rank : End → ℕ) (v regs after : Numbers) (o : Open) (s : Tokens) (puts : ℕ → List Token) (fs : List PartFiring) (e : End) (c : Contact)
    → Now lay p net n rank v regs after o s → IsPortEnd e → contact_at p e ≡ Some c → Shown lay p n v regs puts (listing p n v fs) e (bits_put (Some c))
shown_by_port lay p net n rank v regs after o s puts fs e c now port there =
    record {
      pulse =
          let d = (nothing_at_port lay p n regs e port).0 in
          let f = (put_at_port puts (listing p n v fs) e port).0 in
          let g = counted.0 in
          let m = flag_is v (n.leaves e) given.0 in
          omega (arith, d, f, g, m);
      number = λ some.
          let d = (nothing_at_port lay p n regs e port).1 in
          let f = (put_at_port puts (listing p n v fs) e port).1 in
          let g = counted.1 in
          let m : number_if v (bits_in_at p e) (n.leaves e) ≡ carried v (n.leaves e) =
          ap (λ (y : Option Contact). number_if v (bits_put y) (n.leaves e)) there
          ∙ number_is v (bits_put (Some c)) (n.leaves e) some given.0 in
          omega (arith, d, f, g, m);
      narrow = λ some none. given.1 some;
    }
  where
    given : (at v (n.leaves e).pulse ≤ 1) × (0 < bits_put (Some c) → at v (n.leaves e).number < 2 ^ bits_put (Some c))
    given = now.facts.given e c port there

    counted : (ins_at e (listing p n v fs) ≡ flag v (n.leaves e)) × (ins_sum e (listing p n v fs) ≡ number_if v (bits_in_at p e) (n.leaves e))
    counted = ins_listed p n v e fs (now.plan_facts.once e c port there)

-- The list of a cycle up to the early firings of ranks below r.
pub record Below (lay : Laying) (p : Plan) (n : Places) (rank : End → ℕ) (v : Numbers) (o : Open) (s : Tokens) (r : ℕ) : Type 0 where
  pub open_then : Open
  pub state_then : Tokens
  pub list : OrderlyFrom p (listing p n v (early_made lay p n rank v r)) o s open_then state_then
  pub takes : (i : ℕ) → TakesValues p i (values p n v i) (listing p n v (early_made lay p n rank v r)) s
  pub comes : AllComeIn p n v (below_rank lay rank r)

-- a part's nets show it, where all that passes on to them has such a rank
part_shows : (lay : Laying) (p : Plan) (net : Netlist) (n : Places) (rank : End → ℕ) (v regs after : Numbers) (o : Open) (s : Tokens) (r : ℕ) (b : Below lay p n rank v o s r)
    (puts : ℕ → List Token) (i h : ℕ) (k : Part) (c : Contact)
    → Now lay p net n rank v regs after o s
    → PartsPut p (values p n v) puts (listing p n v (early_made lay p n rank v r)) o s b.open_then b.state_then
    → slice_get p.parts i ≡ Some k → contact_at p (PartEnd i h) ≡ Some c
    → ((from : ℕ) → from < length (part_contacts k) → passing_of (lay.making i) k from h ≡ true → below_rank lay rank r i k from ≡ true)
    → pending_at lay p n regs (PartEnd i h) + due h (puts i) ≤ 1
    → Shown lay p n v regs puts (listing p n v (early_made lay p n rank v r)) (PartEnd i h) (bits_put (Some c))
part_shows lay p net n rank v regs after o s r b puts i h k c now fires is there within one =
    shown_by_part lay p n v regs puts (listing p n v (early_made lay p n rank v r)) i h (bits_put (Some c)) k is
    (leaving_shows lay p n rank v i h k c (pending_of (lay.making i) k (n.start i) regs ++ puts i) now.plan_facts (now.part_facts.gates i k is) is there
    (λ y out.
    causal.partly (n.start i) regs (s.state i) (now.standing.parts i k is) (incoming_at p n i) v after (below_rank lay rank r i k) (b.state_then.state i) (puts i)
    (now.facts.parts i k is) in_range partly h within y out alone))
  where
    alone : due h (pending_of (lay.making i) k (n.start i) regs ++ puts i) ≤ 1
    alone =
        let held : pending_at lay p n regs (PartEnd i h) ≡ due h (pending_of (lay.making i) k (n.start i) regs) = ap (λ (f : Option Part). due h (pending_if (lay.making i) f (n.start i) regs)) is in
        let split = due-append h (pending_of (lay.making i) k (n.start i) regs) (puts i) in
        omega (arith, one, held, split)

    causal : AreCausal k (layout (lay.making i) k) (outs_of (lay.making i) k) (late_of (lay.making i) k) (pending_of (lay.making i) k) (stands_of (lay.making i) k) (order_at rank i) (passing_of (lay.making i) k)
    causal =
        are_causal k (layout (lay.making i) k) (outs_of (lay.making i) k) (late_of (lay.making i) k) (pending_of (lay.making i) k) (stands_of (lay.making i) k) (order_at rank i) (passing_of (lay.making i) k) (now.part_facts.gates i k is)
        (now.part_facts.paths i k is)

    in_range : ComeInRange k (late_of (lay.making i) k) v (incoming_at p n i) (below_rank lay rank r i k)
    in_range g lt inside early = (
      pulses_small p n v (below_rank lay rank r) i k b.comes is g lt inside,
      values_small p n v (below_rank lay rank r) i k b.comes is g inside,
    )

    pulse : ℕ → ℕ
    pulse = pulse_in v (incoming_at p n i)

    slots : List Slot
    slots = pulsed pulse (firings_of i (fires_of (early_below lay p rank r)))

    listed : firings_of i (listing p n v (early_made lay p n rank v r)) ≡ slots
    listed = firings_listed p n v i (early_made lay p n rank v r) ∙ firings_pulsed p n v i (early_below lay p rank r)

    taken : values p n v i ≡ (λ g. value_in k v (incoming_at p n i) g)
    taken = λ l g. values_if (is l) v (incoming_at p n i) g

    so : Fires k (value_in k v (incoming_at p n i)) (asked_by i o) (s.state i) slots (asked_by i b.open_then) (b.state_then.state i) (puts i)
    so =
        subst (λ (x : ℕ → ℕ). Fires k x (asked_by i o) (s.state i) slots (asked_by i b.open_then) (b.state_then.state i) (puts i)) taken
        (subst (λ (l : List Slot). Fires k (values p n v i) (asked_by i o) (s.state i) l (asked_by i b.open_then) (b.state_then.state i) (puts i)) listed (fires i k is))

    in_order_too : slots ≡ pulsed (λ g. if below_rank lay rank r i k g then pulse g else 0) (early_in_order k (late_of (lay.making i) k) (order_at rank i) (top p rank + r))
    in_order_too =
        ap (pulsed pulse) (early_listed lay p rank r i k is)
        ∙ sym (cut_order pulse (order_at rank i) (is_early (lay.making i) k) (part_contacts k) r (top p rank) (top p rank + r) refl)

    partly : PartlyFired k (late_of (lay.making i) k) (order_at rank i) v (incoming_at p n i) (below_rank lay rank r i k) (s.state i) (b.state_then.state i) (puts i)
    partly =
        record {
          before = asked_by i o;
          behind = asked_by i b.open_then;
          top = top p rank + r;
          above = λ g lt. let low = below_top p rank i g k is lt in omega (arith, low);
          fires =
              subst (λ (l : List Slot). Fires k (value_in k v (incoming_at p n i)) (asked_by i o) (s.state i) l (asked_by i b.open_then) (b.state_then.state i) (puts i))
              in_order_too so;
        }

-- what leaves an end, where all that passes on to it has such a rank
end_shows : (lay : Laying) (p : Plan) (net : Netlist) (n : Places) (rank : End → ℕ) (v regs after : Numbers) (o : Open) (s : Tokens) (r : ℕ) (b : Below lay p n rank v o s r)
    (puts : ℕ → List Token) (e : End) (c : Contact)
    → Now lay p net n rank v regs after o s
    → PartsPut p (values p n v) puts (listing p n v (early_made lay p n rank v r)) o s b.open_then b.state_then → contact_at p e ≡ Some c
    → ((i h from : ℕ) (k : Part) → e ≡ PartEnd i h → slice_get p.parts i ≡ Some k → h < length (part_contacts k) → from < length (part_contacts k)
    → passing_of (lay.making i) k from h ≡ true → below_rank lay rank r i k from ≡ true)
    → pending_at lay p n regs e + put_at puts e (listing p n v (early_made lay p n rank v r)) ≤ 1
    → Shown lay p n v regs puts (listing p n v (early_made lay p n rank v r)) e (bits_put (Some c))
end_shows lay p net n rank v regs after o s r b puts (PartEnd i h) c now fires there within one =
    let k = part_there p i h c there in
    part_shows lay p net n rank v regs after o s r b puts i h k.0 c now fires k.1 there
    (λ from lt passes. within i h from k.0 refl k.1 (slice_get_within (part_contacts k.0) h c (own_contact p i h k.0 c k.1 there)) lt passes) one
end_shows lay p net n rank v regs after o s r b puts (ImportEnd i h) c now fires there within one =
    shown_by_port lay p net n rank v regs after o s puts (early_made lay p n rank v r) (ImportEnd i h) c now tt there
end_shows lay p net n rank v regs after o s r b puts (ResultEnd h) c now fires there within one =
    shown_by_port lay p net n rank v regs after o s puts (early_made lay p n rank v r) (ResultEnd h) c now tt there

-- what arrives lies there
pub record Landed (p : Plan) (n : Places) (v : Numbers) (t : Tokens) (e : End) (c : Contact) (g : Taking p e c) : Type 0 where
  pub small : at v (n.arrives e).pulse ≤ 1
  pub one : at v (n.arrives e).pulse ≡ 1 → count (t.in_place (way_taken c.role) g.joint.asking) ≡ 1
  pub number : 0 < bits_taken (Some c) → at v (n.arrives e).pulse ≡ 1 → number (t.in_place (way_taken c.role) g.joint.asking) ≡ at v (n.arrives e).number
  pub narrow : 0 < bits_taken (Some c) → at v (n.arrives e).pulse ≡ 0 → at v (n.arrives e).number < 2 ^ bits_taken (Some c)

pub record Arrived (p : Plan) (n : Places) (v : Numbers) (t : Tokens) (i h : ℕ) (c : Contact) : Type 0 where
  pub comes : ComesIn p n v i h c
  pub due : at v (n.arrives (PartEnd i h)).pulse ≡ 1 → Due p t (PartEnd i h) c (values p n v i h)

arrived_by : (p : Plan) (n : Places) (v : Numbers) (t : Tokens) (i h : ℕ) (k : Part) (c : Contact) (g : Taking p (PartEnd i h) c)
    → AllFit p t → slice_get p.parts i ≡ Some k → contact_at p (PartEnd i h) ≡ Some c → Landed p n v t (PartEnd i h) c g → Arrived p n v t i h c
arrived_by p n v t i h k c g fit is there landed =
    record { comes = record { small = landed.small; value = by_bits (bits_taken (Some c)) refl }; due = due }
  where
    way : Direction
    way = way_taken c.role

    shape : values p n v i h ≡ (if nat_eq (bits_taken (Some c)) 0 then 0 else at v (n.arrives (PartEnd i h)).number)
    shape = value_shape p n v i h k c is there

    due : at v (n.arrives (PartEnd i h)).pulse ≡ 1 → Due p t (PartEnd i h) c (values p n v i h)
    due pulse = record { at_end = g; one = landed.one pulse; is = by_width (bits_taken (Some c)) refl }
      where
        by_width : (w : ℕ) → bits_taken (Some c) ≡ w → number (t.in_place way g.joint.asking) ≡ values p n v i h
        by_width zero e = bare p t (PartEnd i h) c g fit there (landed.one pulse) e ∙ sym (shape ∙ rw e refl)
        by_width (suc w) e =
            let some : nat_eq (suc w) 0 ≡ false = grind arith in
            landed.number (subst (λ (b : ℕ). 0 < b) (sym e) (omega arith)) pulse ∙ sym (shape ∙ rw (e, some) refl)

    by_pulse : (w m : ℕ) → bits_taken (Some c) ≡ suc w → at v (n.arrives (PartEnd i h)).pulse ≡ m → values p n v i h < 2 ^ suc w
    by_pulse w zero e pulse =
        let some : nat_eq (suc w) 0 ≡ false = grind arith in
        let is : values p n v i h ≡ at v (n.arrives (PartEnd i h)).number = shape ∙ rw (e, some) refl in
        subst (λ (x : ℕ). x < 2 ^ suc w) (sym is)
        (subst (λ (b : ℕ). at v (n.arrives (PartEnd i h)).number < 2 ^ b) e (landed.narrow (subst (λ (b : ℕ). 0 < b) (sym e) (omega arith)) pulse))
    by_pulse w (suc zero) e pulse =
        let d : Due p t (PartEnd i h) c (values p n v i h) = due pulse in
        let lies = lies_at p t (PartEnd i h) c d.at_end ∙ one_token (t.in_place way d.at_end.joint.asking) d.one in
        let small : number (t.in_place way d.at_end.joint.asking) < 2 ^ bits_of c way = fit.0 (PartEnd i h) c way _ there lies in
        subst (λ (x : ℕ). x < 2 ^ suc w) d.is (subst (λ (b : ℕ). number (t.in_place way d.at_end.joint.asking) < 2 ^ b) e small)
    by_pulse w (suc (suc m)) e pulse = let small = landed.small in absurd (omega (arith, small, pulse))

    by_bits : (w : ℕ) → bits_taken (Some c) ≡ w → values p n v i h < 2 ^ w
    by_bits zero e = let is_zero : values p n v i h ≡ 0 = shape ∙ rw e refl in omega (arith, is_zero)
    by_bits (suc w) e = by_pulse w (at v (n.arrives (PartEnd i h)).pulse) e refl

-- at an end of no lower rank nothing is taken
pub untaken_below : (lay : Laying) → (p : Plan) (n : Places) (rank : End → ℕ) (v : Numbers) (r i h : ℕ) (k : Part) (c : Contact) → slice_get p.parts i ≡ Some k
    → contact_at p (PartEnd i h) ≡ Some c → below_rank lay rank r i k h ≡ false
    → taken_at (way_taken c.role) (PartEnd i h) (listing p n v (early_made lay p n rank v r)) ≡ 0
untaken_below lay p n rank v r i h k c is there later =
    (λ l. times (slot_taken c.role h l) (listed l))
    ∙ (times_pulsed (pulse_in v (incoming_at p n i)) (slot_in c.role h) (firings_of i (fires_of (early_below lay p rank r)))
    ∙ by_test (nat_eq (pulse_in v (incoming_at p n i) (shake_of (slot_in c.role h))) 1) none)
  where
    listed : firings_of i (listing p n v (early_made lay p n rank v r)) ≡ pulsed (pulse_in v (incoming_at p n i)) (firings_of i (fires_of (early_below lay p rank r)))
    listed = firings_listed p n v i (early_made lay p n rank v r) ∙ firings_pulsed p n v i (early_below lay p rank r)

    none : times (slot_in c.role h) (firings_of i (fires_of (early_below lay p rank r))) ≡ 0
    none =
        early_times lay p rank r i k (slot_in c.role h) is
        ∙ (chosen_once (below_rank lay rank r i k) h (part_contacts k) c (own_contact p i h k c is there) ∙ rw later refl)

    by_test : {m : ℕ} (x : Bool) → m ≡ 0 → (if x then m else 0) ≡ 0
    by_test true z = z
    by_test false z = refl

-- What arrives at an end of a part of no lower rank, where all that passes on to it has one.
pub arrival : (lay : Laying) (p : Plan) (net : Netlist) (n : Places) (rank : End → ℕ) (v regs after : Numbers) (o : Open) (s : Tokens) (r : ℕ) (b : Below lay p n rank v o s r)
    (i h : ℕ) (k : Part) (c : Contact)
    → Now lay p net n rank v regs after o s → slice_get p.parts i ≡ Some k → contact_at p (PartEnd i h) ≡ Some c → below_rank lay rank r i k h ≡ false
    → ((j from : ℕ) (l : Part) → slice_get p.parts j ≡ Some l → PassesOn lay p j from (PartEnd i h) → below_rank lay rank r j l from ≡ true)
    → Arrived p n v b.state_then i h c
arrival lay p net n rank v regs after o s r b i h k c now is there later within = by_place (places_of p (PartEnd i h)) refl
  where
    e : End
    e = PartEnd i h

    way : Direction
    way = way_taken c.role

    xs : List Element
    xs = listing p n v (early_made lay p n rank v r)

    t : Tokens
    t = b.state_then

    fit : AllFit p t
    fit = all_stay_fit p xs s t now.right now.part_facts.literals now.standing.fit (orderly_is_possible p xs o b.open_then s t b.list)

    law : (puts : ℕ → List Token) × PartsPut p (values p n v) puts xs o s b.open_then t
        × ((x : ℕ) (j : Joint) (d : Direction) → slice_get p.joints x ≡ Some j → AddsUp (values p n v) puts xs s t d j.asking (source j d) (target j d))
    law = filled p n v o b.open_then s t xs now.right now.led b.list b.takes

    untaken : taken_at way e xs ≡ 0
    untaken = untaken_below lay p n rank v r i h k c is there later

    by_joint : (g : Taking p e c) → Landed p n v t e c g
    by_joint g = by_keep (lay.keep g.index way) refl
      where
        j : Joint
        j = g.joint

        lies : Lies lay p n regs s g.index j way
        lies = now.standing.joints g.index j way g.there

        sums : AddsUp (values p n v) law.0 xs s t way j.asking (source j way) (target j way)
        sums = law.2 g.index j way g.there

        no_taken : taken_at way (target j way) xs ≡ 0
        no_taken = ap (λ (d : End). taken_at way d xs) (sym g.is_target) ∙ untaken

        no_sum : sum_taken (values p n v) way (target j way) xs ≡ 0
        no_sum = nothing_taken (values p n v) xs way (target j way) no_taken

        no_shown : shown_at n regs (target j way) ≡ 0
        no_shown = ap (shown_at n regs) (sym g.is_target)

        no_shown_number : shown_numbers n regs (target j way) ≡ 0
        no_shown_number = ap (shown_numbers n regs) (sym g.is_target)

        here : at v (n.arrives e).pulse ≡ at v (n.arrives (target j way)).pulse
        here = ap (λ (d : End). at v (n.arrives d).pulse) g.is_target

        number_here : at v (n.arrives e).number ≡ at v (n.arrives (target j way)).number
        number_here = ap (λ (d : End). at v (n.arrives d).number) g.is_target

        small : count (t.in_place way j.asking) ≤ 1
        small = small_count (t.in_place way j.asking)

        bits : 0 < bits_taken (Some c) → 0 < width p j way
        bits some = subst (λ (w : ℕ). 0 < w) (sym g.bits) some

        kept : lay.keep g.index way ≡ true → Landed p n v t e c g
        kept keeps =
            let delays = now.facts.joints g.index j way g.there keeps in
            let pulse = delays.pulse in
            let adds = sums.counts in
            let held : count (s.in_place way j.asking) ≡ at regs (n.arrives (target j way)).pulse + (pending_at lay p n regs (source j way) + shown_at n regs (target j way)) =
            lies.counts ∙ ap (λ (x : Bool). held_pulse x regs (n.arrives (target j way)) + (pending_at lay p n regs (source j way) + shown_at n regs (target j way))) keeps in
            record {
              small = omega (arith, here, pulse, adds, held, no_taken, small);
              one = λ is_one. omega (arith, here, pulse, adds, held, no_taken, small, is_one);
              number = λ some is_one.
                  let not_pending : pending_at lay p n regs (source j way) ≡ 0 = omega (arith, here, pulse, adds, held, no_taken, small, is_one) in
                  let not_put : put_at law.0 (source j way) xs ≡ 0 = omega (arith, here, pulse, adds, held, no_taken, small, is_one) in
                  let no_pending = nothing_pending_there lay p n regs (source j way) not_pending in
                  let no_put = nothing_put law.0 xs (source j way) not_put in
                  let arrived = delays.number (bits some) in
                  let whole : carried regs (n.arrives (target j way)) ≡ at regs (n.arrives (target j way)).number =
                  carried_one regs (n.arrives (target j way)) (sym pulse ∙ (sym here ∙ is_one)) in
                  let all = sums.sums in
                  let numbers : number (s.in_place way j.asking)
                  ≡ carried regs (n.arrives (target j way)) + (pending_numbers lay p n regs (source j way) + shown_numbers n regs (target j way)) =
                  lies.numbers (bits some)
                  ∙ ap (λ (x : Bool). held_number x regs (n.arrives (target j way)) + (pending_numbers lay p n regs (source j way) + shown_numbers n regs (target j way))) keeps in
                  omega (arith, number_here, arrived, whole, all, numbers, no_sum, no_shown_number, no_pending, no_put);
              narrow = λ some none.
                  subst (λ (x : ℕ). x < 2 ^ bits_taken (Some c)) (sym (number_here ∙ delays.number (bits some)))
                  (subst (λ (b : ℕ). at regs (n.arrives (target j way)).number < 2 ^ b) g.bits
                  (lies.narrow keeps (bits some) (sym pulse ∙ (sym here ∙ none))));
            }

        straight : lay.keep g.index way ≡ false → Landed p n v t e c g
        straight passes =
            let pulse : at v (n.arrives (target j way)).pulse ≡ at v (n.leaves (source j way)).pulse = ap (λ (m : Nets). at v m.pulse) nets in
            let arrived : at v (n.arrives (target j way)).number ≡ at v (n.leaves (source j way)).number = ap (λ (m : Nets). at v m.number) nets in
            let adds = sums.counts in
            let held : count (s.in_place way j.asking) ≡ 0 + (pending_at lay p n regs (source j way) + shown_at n regs (target j way)) =
            lies.counts ∙ ap (λ (x : Bool). held_pulse x regs (n.arrives (target j way)) + (pending_at lay p n regs (source j way) + shown_at n regs (target j way))) passes in
            let leaves = shows.pulse in
            record {
              small = omega (arith, here, pulse, adds, held, no_taken, no_shown, leaves, small);
              one = λ is_one. omega (arith, here, pulse, adds, held, no_taken, no_shown, leaves, is_one);
              number = λ some is_one.
                  let all = sums.sums in
                  let leaves_number = shows.number (bits some) in
                  let whole : carried v (n.leaves (source j way)) ≡ at v (n.leaves (source j way)).number =
                  carried_one v (n.leaves (source j way)) (sym pulse ∙ (sym here ∙ is_one)) in
                  let numbers : number (s.in_place way j.asking) ≡ 0 + (pending_numbers lay p n regs (source j way) + shown_numbers n regs (target j way)) =
                  lies.numbers (bits some)
                  ∙ ap (λ (x : Bool). held_number x regs (n.arrives (target j way)) + (pending_numbers lay p n regs (source j way) + shown_numbers n regs (target j way))) passes in
                  omega (arith, number_here, arrived, whole, all, numbers, no_sum, no_shown_number, leaves_number);
              narrow = λ some none.
                  subst (λ (x : ℕ). x < 2 ^ bits_taken (Some c)) (sym (number_here ∙ arrived))
                  (subst (λ (b : ℕ). at v (n.leaves (source j way)).number < 2 ^ b) g.bits
                  (shows.narrow (bits some) (sym pulse ∙ (sym here ∙ none))));
            }
          where
            nets : n.arrives (target j way) ≡ n.leaves (source j way)
            nets = now.plan_facts.straight g.index j way g.there passes

            ends : Ends p j way
            ends = ends_of p j way (fits p [] p.joints j now.right (is_in_at g.index p.joints j g.there))

            -- nothing is taken at the other end so far, so what is pending and what was put lies there, and that is one token at most
            alone : pending_at lay p n regs (source j way) + put_at law.0 (source j way) xs ≤ 1
            alone =
                let adds = sums.counts in
                let held : count (s.in_place way j.asking) ≡ 0 + (pending_at lay p n regs (source j way) + shown_at n regs (target j way)) =
                lies.counts ∙ ap (λ (x : Bool). held_pulse x regs (n.arrives (target j way)) + (pending_at lay p n regs (source j way) + shown_at n regs (target j way))) passes in
                omega (arith, adds, held, no_taken, no_shown, small)

            shows : Shown lay p n v regs law.0 xs (source j way) (width p j way)
            shows =
                subst (λ (w : ℕ). Shown lay p n v regs law.0 xs (source j way) w) ends.from_bits
                (end_shows lay p net n rank v regs after o s r b law.0 (source j way) ends.from now law.1 ends.from_there
                (λ l out from m is_source stands out_there from_there passed.
                within l from m stands
                (record {
                  joint = g.index;
                  passed = j;
                  way = way;
                  part = m;
                  out = out;
                  stands = g.there;
                  straight = passes;
                  leaves = is_source;
                  there = stands;
                  from_there = from_there;
                  out_there = out_there;
                  passes = passed;
                  arrives = sym g.is_target;
                }))
                alone)

        by_keep : (x : Bool) → lay.keep g.index way ≡ x → Landed p n v t e c g
        by_keep true keeps = kept keeps
        by_keep false passes = straight passes

    by_place : (f : Option End) → places_of p e ≡ f → Arrived p n v t i h c
    by_place None none =
        let silent = now.facts.loose e c there none in
        let nothing = silent.0 in
        record { comes = record { small = omega (arith, nothing); value = of_bits (bits_taken (Some c)) refl silent.1 }; due = λ pulse. absurd (omega (arith, nothing, pulse)) }
      where
        of_bits : (w : ℕ) → bits_taken (Some c) ≡ w → (0 < bits_taken (Some c) → at v (n.arrives e).number ≡ 0) → values p n v i h < 2 ^ bits_taken (Some c)
        of_bits zero is_none quiet = let is_zero : values p n v i h ≡ 0 = value_shape p n v i h k c is there ∙ rw is_none refl in subst (λ (x : ℕ). x < 2 ^ bits_taken (Some c)) (sym is_zero) (pow_pos (bits_taken (Some c)))
        of_bits (suc w) is_some quiet =
            let some : nat_eq (suc w) 0 ≡ false = grind arith in
            let is_zero : values p n v i h ≡ 0 = value_shape p n v i h k c is there ∙ rw (is_some, some) (quiet (subst (λ (x : ℕ). 0 < x) (sym is_some) (omega arith))) in
            subst (λ (x : ℕ). x < 2 ^ bits_taken (Some c)) (sym is_zero) (pow_pos (bits_taken (Some c)))
    by_place (Some a) place = let g = taking p e a c now.right there place in arrived_by p n v t i h k c g fit is there (by_joint g)
