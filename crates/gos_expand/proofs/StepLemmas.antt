-- A cycle whose list is orderly leaves registers and tokens as they stand at the beginning of the next one.
--
-- What is put at an end is pending, or leaves it in this cycle; what leaves it is next in the joint's register, or arrives at
-- the other end at once; what is taken there arrived, and a port's output holds it next.
use Rattle.std.specs.Prelude.{Option, length}
use Rattle.std.proofs.lemmas.Option.{slice_get_within}
use Rattle.std.proofs.Common.{◌≡◌, ℕ, zero, suc, ◌+◌, ◌*◌, ◌^◌, ◌≤◌, ◌<◌, Bool, true, false, List, [], ◌++◌, Some, slice_get, refl, sym, ◌∙◌, ap, subst, arith, nat_eq, true≢false}
use Rattle.gos_netlist.specs.Nets.{Netlist}
use Rattle.gos_types.specs.Events.{Direction}
use Rattle.gos_netlist.specs.Settling.{Numbers, at}
use Rattle.gos_plan.specs.Kinds.{Part, Contact, part_contacts}
use Rattle.gos_plan.specs.Firing.{Token}
use Rattle.gos_plan.specs.Plans.{End, PartEnd, ImportEnd, ResultEnd, Joint, Plan, contact_at}
use Rattle.gos_plan.specs.Tokens.{Tokens, Element, IsPortEnd, way_taken}
use Rattle.gos_plan.specs.Orderly.{Open}
use Rattle.gos_plan.specs.Firings.{due, value_due, times}
use Rattle.gos_plan.specs.Accounts.{count, outs_at, outs_sum, put_at, sum_put, taken_at, sum_taken, AddsUp, PartsPut}
use Rattle.gos_plan.proofs.JointLemmas.{fits}
use Rattle.gos_expand.specs.Gates.{pending_of}
use Rattle.gos_expand.specs.Blocks.{Nets}
use Rattle.gos_expand.specs.Starts.{Laying, bits_taken}
use Rattle.gos_expand.specs.Facts.{Places, Delays, source, target, width, bits_put, bits_out_at, Rises}
use Rattle.gos_expand.proofs.TallyLemmas.{due-append, value_due-append}
use Rattle.gos_expand.proofs.StandingLemmas.{pending_if, pending_at, pending_numbers, shown_at, shown_numbers, held_pulse, held_number, number_by_pulse, carried, carried_same, Lies, Now, values, is_in_at, small_count}
pub use Rattle.gos_expand.proofs.StandingLemmas.{Ends, ends_of}
use Rattle.gos_expand.proofs.DueLemmas.{value_shape, pulse_shape, nothing_at_port, sum_taken_port, shown_port}
use Rattle.gos_expand.proofs.ScheduleLemmas.{made_firings, slot_count}
use Rattle.gos_expand.proofs.PossibleLemmas.{listing, firings_listed, taken_port, slot_taken}
use Rattle.gos_expand.proofs.EventLemmas.{outs_listed, flag_is, number_is}
use Rattle.gos_expand.proofs.PulseLemmas.{flag, number_if}
use Rattle.gos_expand.proofs.CauseLemmas.{own_contact, part_there, pulses_small, due_carried, due_narrow, leaving_shows, Shown, shown_by_port}
use Rattle.gos_expand.proofs.MadeLemmas.{PartStep, part_step}
use Rattle.gos_expand.proofs.SingleLemmas.{single_ring}
use Rattle.gos_expand.proofs.RankLemmas.{Whole}

-- the list of the cycle with all its firings
abbrev pub whole_list : Laying → Plan → Places → (End → ℕ) → Numbers → List Element
whole_list lay p n rank v = listing p n v (made_firings lay p n rank v)

-- at an end of these bits: what leaves it, and what is pending there then
pub record Sent (lay : Laying) (p : Plan) (n : Places) (rank : End → ℕ) (v regs after : Numbers) (puts : ℕ → List Token) (e : End) (w : ℕ) : Type 0 where
  pub pulse : at v (n.leaves e).pulse + pending_at lay p n after e ≡ pending_at lay p n regs e + put_at puts e (whole_list lay p n rank v)
  pub number : 0 < w → carried v (n.leaves e) + pending_numbers lay p n after e ≡ pending_numbers lay p n regs e + sum_put puts e (whole_list lay p n rank v)
  pub narrow : 0 < w → at v (n.leaves e).pulse ≡ 0 → at v (n.leaves e).number < 2 ^ w
  pub goes : pending_at lay p n regs e ≤ at v (n.leaves e).pulse

-- what is taken there, and what an output holds then
pub record Got (lay : Laying) (p : Plan) (n : Places) (rank : End → ℕ) (v regs after : Numbers) (way : Direction) (e : End) (w : ℕ) : Type 0 where
  pub pulse : taken_at way e (whole_list lay p n rank v) + shown_at n after e ≡ at v (n.arrives e).pulse + shown_at n regs e
  pub number :
      0 < w
      → sum_taken (values p n v) way e (whole_list lay p n rank v) + shown_numbers n after e ≡ carried v (n.arrives e) + shown_numbers n regs e

sent_by_part : (lay : Laying) (p : Plan) (net : Netlist) (n : Places) (rank : End → ℕ) (v regs after : Numbers) (o : Open) (s : Tokens) (w : Whole lay p n rank v o s)
    (puts : ℕ → List Token) (i h : ℕ) (k : Part) (c : Contact)
    → Now lay p net n rank v regs after o s → PartsPut p (values p n v) puts (whole_list lay p n rank v) o s w.open_then w.state_then → slice_get p.parts i ≡ Some k
    → contact_at p (PartEnd i h) ≡ Some c → ((step : PartStep lay p n rank v regs after o s w.state_then i k (puts i)) → pending_at lay p n regs (PartEnd i h) + due h step.first ≤ 1)
    → Sent lay p n rank v regs after puts (PartEnd i h) (bits_put (Some c))
sent_by_part lay p net n rank v regs after o s w puts i h k c now fires is there one =
    let pulse : at v (n.leaves (PartEnd i h)).pulse ≡ due h all = nets.0 in
    let split : due h all ≡ due h pending + due h step.first = due-append h pending step.first in
    let sums : value_due h all ≡ value_due h pending + value_due h step.first = value_due-append h pending step.first in
    let put : due h (puts i) ≡ due h step.first + due h step.second = ap (due h) step.puts ∙ due-append h step.first step.second in
    let put_sum : value_due h (puts i) ≡ value_due h step.first + value_due h step.second = ap (value_due h) step.puts ∙ value_due-append h step.first step.second in
    let later = (step.same h).0 in
    let later_sum = (step.same h).1 in
    record {
      pulse =
          let was = held_then in
          let is_next = held_next in
          omega (arith, pulse, split, put, later, was, is_next);
      number = λ some.
          let value = due_carried v (n.leaves (PartEnd i h)) h all pulse (nets.1 some) in
          let was = held_sum in
          let is_next = next_sum in
          omega (arith, value, sums, put_sum, later_sum, was, is_next);
      narrow = λ some none. due_narrow v (n.leaves (PartEnd i h)) h (bits_put (Some c)) all pulse (nets.1 some) none;
      goes = let was = held_then in omega (arith, pulse, split, was);
    }
  where
    b : ℕ
    b = n.start i

    step : PartStep lay p n rank v regs after o s w.state_then i k (puts i)
    step = part_step lay p net n rank v regs after o s w puts i k now fires is

    pending : List Token
    pending = pending_of (lay.making i) k b regs

    all : List Token
    all = pending ++ step.first

    held_then : pending_at lay p n regs (PartEnd i h) ≡ due h pending
    held_then = ap (λ (f : Option Part). due h (pending_if (lay.making i) f b regs)) is

    alone : due h all ≤ 1
    alone =
        let split : due h all ≡ due h pending + due h step.first = due-append h pending step.first in
        let was = held_then in
        let single = one step in
        omega (arith, split, was, single)

    nets : (at v (n.leaves (PartEnd i h)).pulse ≡ due h all) × (0 < bits_put (Some c) → at v (n.leaves (PartEnd i h)).number ≡ value_due h all)
    nets =
        leaving_shows lay p n rank v i h k c all now.plan_facts (now.part_facts.gates i k is) is there
        (λ y out. step.shows h y out alone)

    held_next : pending_at lay p n after (PartEnd i h) ≡ due h (pending_of (lay.making i) k b after)
    held_next = ap (λ (f : Option Part). due h (pending_if (lay.making i) f b after)) is

    held_sum : pending_numbers lay p n regs (PartEnd i h) ≡ value_due h pending
    held_sum = ap (λ (f : Option Part). value_due h (pending_if (lay.making i) f b regs)) is

    next_sum : pending_numbers lay p n after (PartEnd i h) ≡ value_due h (pending_of (lay.making i) k b after)
    next_sum = ap (λ (f : Option Part). value_due h (pending_if (lay.making i) f b after)) is

sent_by_port : (lay : Laying) (p : Plan) (net : Netlist) (n : Places) (rank : End → ℕ) (v regs after : Numbers) (o : Open) (s : Tokens) (puts : ℕ → List Token) (e : End) (c : Contact)
    → Now lay p net n rank v regs after o s → IsPortEnd e → contact_at p e ≡ Some c → Sent lay p n rank v regs after puts e (bits_put (Some c))
sent_by_port lay p net n rank v regs after o s puts e c now port there =
    let shown : Shown lay p n v regs puts (whole_list lay p n rank v) e (bits_put (Some c)) =
    shown_by_port lay p net n rank v regs after o s puts (made_firings lay p n rank v) e c now port there in
    record {
      pulse = let a = (nothing_at_port lay p n after e port).0 in let b = shown.pulse in omega (arith, a, b);
      number = λ some. let a = (nothing_at_port lay p n after e port).1 in let b = shown.number some in omega (arith, a, b);
      narrow = shown.narrow;
      goes = let d = (nothing_at_port lay p n regs e port).0 in omega (arith, d);
    }

-- what is pending at an end and what its part puts there early is together one token at most
abbrev pub OneDue : Laying → (p : Plan) (n : Places) (rank : End → ℕ) (v regs after : Numbers) (o : Open) (s t : Tokens) (puts : ℕ → List Token) (e : End) → Type 0
OneDue lay p n rank v regs after o s t puts e =
    (i h : ℕ) (k : Part) → e ≡ PartEnd i h → slice_get p.parts i ≡ Some k → h < length (part_contacts k)
    → (step : PartStep lay p n rank v regs after o s t i k (puts i)) → pending_at lay p n regs (PartEnd i h) + due h step.first ≤ 1

sent : (lay : Laying) (p : Plan) (net : Netlist) (n : Places) (rank : End → ℕ) (v regs after : Numbers) (o : Open) (s : Tokens) (w : Whole lay p n rank v o s)
    (puts : ℕ → List Token) (e : End) (c : Contact)
    → Now lay p net n rank v regs after o s → PartsPut p (values p n v) puts (whole_list lay p n rank v) o s w.open_then w.state_then → contact_at p e ≡ Some c
    → OneDue lay p n rank v regs after o s w.state_then puts e → Sent lay p n rank v regs after puts e (bits_put (Some c))
sent lay p net n rank v regs after o s w puts (PartEnd i h) c now fires there one =
    let k = part_there p i h c there in
    sent_by_part lay p net n rank v regs after o s w puts i h k.0 c now fires k.1 there
    (one i h k.0 refl k.1 (slice_get_within (part_contacts k.0) h c (own_contact p i h k.0 c k.1 there)))
sent lay p net n rank v regs after o s w puts (ImportEnd i h) c now fires there one =
    sent_by_port lay p net n rank v regs after o s puts (ImportEnd i h) c now tt there
sent lay p net n rank v regs after o s w puts (ResultEnd h) c now fires there one =
    sent_by_port lay p net n rank v regs after o s puts (ResultEnd h) c now tt there

-- what leaves the end at which the tokens of a direction are put
sent_from : (lay : Laying) (p : Plan) (net : Netlist) (n : Places) (rank : End → ℕ) (v regs after : Numbers) (o : Open) (s : Tokens) (w : Whole lay p n rank v o s)
    (puts : ℕ → List Token) (x : ℕ) (j : Joint) (way : Direction)
    → Now lay p net n rank v regs after o s → PartsPut p (values p n v) puts (whole_list lay p n rank v) o s w.open_then w.state_then → slice_get p.joints x ≡ Some j
    → OneDue lay p n rank v regs after o s w.state_then puts (source j way) → Sent lay p n rank v regs after puts (source j way) (width p j way)
sent_from lay p net n rank v regs after o s w puts x j way now fires there one =
    subst (λ (b : ℕ). Sent lay p n rank v regs after puts (source j way) b) ends.from_bits
    (sent lay p net n rank v regs after o s w puts (source j way) ends.from now fires ends.from_there one)
  where
    ends : Ends p j way
    ends = ends_of p j way (fits p [] p.joints j now.right (is_in_at x p.joints j there))

got_by_part : (lay : Laying) (p : Plan) (net : Netlist) (n : Places) (rank : End → ℕ) (v regs after : Numbers) (o : Open) (s : Tokens) (w : Whole lay p n rank v o s)
    (puts : ℕ → List Token) (i h : ℕ) (k : Part) (c : Contact)
    → Now lay p net n rank v regs after o s → PartsPut p (values p n v) puts (whole_list lay p n rank v) o s w.open_then w.state_then
    → slice_get p.parts i ≡ Some k → contact_at p (PartEnd i h) ≡ Some c
    → Got lay p n rank v regs after (way_taken c.role) (PartEnd i h) (bits_taken (Some c))
got_by_part lay p net n rank v regs after o s w puts i h k c now fires is there =
    record {
      pulse = let a = counted in omega (arith, a);
      number = λ some.
          let a = by_pulse (at v (n.arrives (PartEnd i h)).pulse) some small_here in
          let b : sum_taken (values p n v) (way_taken c.role) (PartEnd i h) (whole_list lay p n rank v) ≡ at v (n.arrives (PartEnd i h)).pulse * values p n v i h =
          ap (λ (m : ℕ). m * values p n v i h) counted in
          omega (arith, a, b);
    }
  where
    small_here : at v (n.arrives (PartEnd i h)).pulse ≤ 1
    small_here = (w.comes i h k c is there refl).small

    counted : taken_at (way_taken c.role) (PartEnd i h) (whole_list lay p n rank v) ≡ at v (n.arrives (PartEnd i h)).pulse
    counted =
        (λ j. times (slot_taken c.role h j) (firings_listed p n v i (made_firings lay p n rank v) j))
        ∙ (slot_count lay p n rank v i h k c is (λ g lt. pulses_small p n v (λ i k h. true) i k w.comes is g lt refl) (own_contact p i h k c is there)
        ∙ pulse_shape p n v i h c there)

    value_here : 0 < bits_taken (Some c) → values p n v i h ≡ at v (n.arrives (PartEnd i h)).number
    value_here some =
        let more : nat_eq (bits_taken (Some c)) 0 ≡ false = grind (arith, some) in
        value_shape p n v i h k c is there ∙ rw more refl

    by_pulse : (m : ℕ) → 0 < bits_taken (Some c) → m ≤ 1 → m * values p n v i h ≡ number_by_pulse m (at v (n.arrives (PartEnd i h)).number)
    by_pulse zero some le = grind arith
    by_pulse (suc zero) some le = let here = value_here some in grind (arith, here)
    by_pulse (suc (suc m)) some le = absurd (omega (arith, le))

got_by_port : (lay : Laying) (p : Plan) (net : Netlist) (n : Places) (rank : End → ℕ) (v regs after : Numbers) (o : Open) (s : Tokens) (w : Whole lay p n rank v o s)
    (puts : ℕ → List Token) (e : End) (c : Contact)
    → Now lay p net n rank v regs after o s → PartsPut p (values p n v) puts (whole_list lay p n rank v) o s w.open_then w.state_then
    → IsPortEnd e → contact_at p e ≡ Some c → shown_at n regs e ≤ 1
    → Got lay p n rank v regs after (way_taken c.role) e (bits_taken (Some c))
got_by_port lay p net n rank v regs after o s w puts e c now fires port there small =
    record {
      pulse =
          let a = taken_port (whole_list lay p n rank v) (way_taken c.role) e port in
          let b = counted.0 in
          let d = flag_is v (n.shows e) small_here in
          let f = delays.pulse in
          let g = delays.next in
          let l = (shown_port n after e port).0 in
          let m = (shown_port n regs e port).0 in
          omega (arith, a, b, d, f, g, l, m);
      number = λ some.
          let a = sum_taken_port (values p n v) (whole_list lay p n rank v) (way_taken c.role) e port in
          let b = counted.1 in
          let d : number_if v (bits_out_at p e) (n.shows e) ≡ carried v (n.shows e) =
          ap (λ (y : Option Contact). number_if v (bits_taken y) (n.shows e)) there
          ∙ number_is v (bits_taken (Some c)) (n.shows e) some small_here in
          let f = carried_same v regs (n.shows e) (n.shows e) delays.pulse (delays.number some) in
          let g = carried_same after v (n.shows e) (n.arrives e) delays.next (delays.next_number some) in
          let l = (shown_port n after e port).1 in
          let m = (shown_port n regs e port).1 in
          omega (arith, a, b, d, f, g, l, m);
    }
  where
    delays : Delays (bits_taken (Some c)) v regs after (n.arrives e) (n.shows e)
    delays = now.facts.ports e c port there

    counted : (outs_at e (whole_list lay p n rank v) ≡ flag v (n.shows e)) × (outs_sum e (whole_list lay p n rank v) ≡ number_if v (bits_out_at p e) (n.shows e))
    counted = outs_listed p n v e (made_firings lay p n rank v) (now.plan_facts.once e c port there)

    small_here : at v (n.shows e).pulse ≤ 1
    small_here = let f = delays.pulse in let m = (shown_port n regs e port).0 in omega (arith, small, f, m)

pub got : (lay : Laying) (p : Plan) (net : Netlist) (n : Places) (rank : End → ℕ) (v regs after : Numbers) (o : Open) (s : Tokens) (w : Whole lay p n rank v o s)
    (puts : ℕ → List Token) (e : End) (c : Contact)
    → Now lay p net n rank v regs after o s → PartsPut p (values p n v) puts (whole_list lay p n rank v) o s w.open_then w.state_then
    → contact_at p e ≡ Some c → shown_at n regs e ≤ 1
    → Got lay p n rank v regs after (way_taken c.role) e (bits_taken (Some c))
got lay p net n rank v regs after o s w puts (PartEnd i h) c now fires there small =
    let k = part_there p i h c there in got_by_part lay p net n rank v regs after o s w puts i h k.0 c now fires k.1 there
got lay p net n rank v regs after o s w puts (ImportEnd i h) c now fires there small =
    got_by_port lay p net n rank v regs after o s w puts (ImportEnd i h) c now fires tt there small
got lay p net n rank v regs after o s w puts (ResultEnd h) c now fires there small =
    got_by_port lay p net n rank v regs after o s w puts (ResultEnd h) c now fires tt there small

-- what a cycle makes of a direction of a joint; and a pending token goes on its way
pub record Passed (lay : Laying) (p : Plan) (n : Places) (v regs after : Numbers) (t : Tokens) (x : ℕ) (j : Joint) (way : Direction) : Type 0 where
  pub lies : Lies lay p n after t x j way
  pub goes : pending_at lay p n regs (source j way) ≤ at v (n.leaves (source j way)).pulse

-- what the registers of a direction held arrives, and they hold what leaves; without registers, what leaves arrives
record Holds (lay : Laying) (p : Plan) (n : Places) (v regs after : Numbers) (x : ℕ) (j : Joint) (way : Direction) : Type 0 where
  pub pulses :
      held_pulse (lay.keep x way) after (n.arrives (target j way)) + at v (n.arrives (target j way)).pulse
      ≡ held_pulse (lay.keep x way) regs (n.arrives (target j way)) + at v (n.leaves (source j way)).pulse
  pub numbers :
      0 < width p j way
      → held_number (lay.keep x way) after (n.arrives (target j way)) + carried v (n.arrives (target j way))
      ≡ held_number (lay.keep x way) regs (n.arrives (target j way)) + carried v (n.leaves (source j way))
  pub narrow :
      lay.keep x way ≡ true → 0 < width p j way → at after (n.arrives (target j way)).pulse ≡ 0
      → at after (n.arrives (target j way)).number < 2 ^ width p j way

pub passed : (lay : Laying) (p : Plan) (net : Netlist) (n : Places) (rank : End → ℕ) (v regs after : Numbers) (o : Open) (s : Tokens) (w : Whole lay p n rank v o s)
    (puts : ℕ → List Token) (x : ℕ) (j : Joint) (way : Direction)
    → Rises lay p rank → Now lay p net n rank v regs after o s → PartsPut p (values p n v) puts (whole_list lay p n rank v) o s w.open_then w.state_then
    → AddsUp (values p n v) puts (whole_list lay p n rank v) s w.state_then way j.asking (source j way) (target j way)
    → slice_get p.joints x ≡ Some j → Passed lay p n v regs after w.state_then x j way
passed lay p net n rank v regs after o s w puts x j way rises now fires sums there =
    record {
      lies =
          record {
            counts =
                let a = sums.counts in
                let b = out.pulse in
                let c = in_there.pulse in
                let d = held.pulses in
                omega (arith, a, b, c, counts, d);
            numbers = λ some.
                let a = sums.sums in
                let b = out.number some in
                let c = in_there.number some in
                let d = old.numbers some in
                let e = held.numbers some in
                omega (arith, a, b, c, d, e);
            narrow = held.narrow;
          };
      goes = out.goes;
    }
  where
    old : Lies lay p n regs s x j way
    old = now.standing.joints x j way there

    ends : Ends p j way
    ends = ends_of p j way (fits p [] p.joints j now.right (is_in_at x p.joints j there))

    counts : count (s.in_place way j.asking) ≡ held_pulse (lay.keep x way) regs (n.arrives (target j way)) + (pending_at lay p n regs (source j way) + shown_at n regs (target j way))
    counts = old.counts

    small_shown : shown_at n regs (target j way) ≤ 1
    small_shown = let small = small_count (s.in_place way j.asking) in omega (arith, counts, small)

    in_there : Got lay p n rank v regs after way (target j way) (width p j way)
    in_there =
        subst (λ (d : Direction). Got lay p n rank v regs after d (target j way) (width p j way)) ends.to_way
        (subst (λ (b : ℕ). Got lay p n rank v regs after (way_taken ends.to.role) (target j way) b) ends.to_bits
        (got lay p net n rank v regs after o s w puts (target j way) ends.to now fires ends.to_there small_shown))

    -- At most one token is due at the source. By the registers of a direction, and at a port, what is taken was held before. Else a
    -- second token would need a ring.
    one_due : OneDue lay p n rank v regs after o s w.state_then puts (source j way)
    one_due i h k from is out_there step = by_keep (lay.keep x way) refl
      where
        put : put_at puts (source j way) (whole_list lay p n rank v) ≡ due h step.first + due h step.second
        put = ap (λ (e : End). put_at puts e (whole_list lay p n rank v)) from ∙ (ap (due h) step.puts ∙ due-append h step.first step.second)

        pending : pending_at lay p n regs (source j way) ≡ pending_at lay p n regs (PartEnd i h)
        pending = ap (pending_at lay p n regs) from

        left : count (w.state_then.in_place way j.asking) ≤ 1
        left = small_count (w.state_then.in_place way j.asking)

        at_port : (e : End) → target j way ≡ e → IsPortEnd e → contact_at p e ≡ Some ends.to → lay.keep x way ≡ false → pending_at lay p n regs (PartEnd i h) + due h step.first ≤ 1
        at_port e to port contact straight =
            let delays = now.facts.ports e ends.to port contact in
            let next = delays.next in
            let shown : shown_at n after (target j way) ≡ at after (n.shows e).pulse = ap (shown_at n after) to ∙ (shown_port n after e port).0 in
            let arrives : at v (n.arrives (target j way)).pulse ≡ at v (n.arrives e).pulse = ap (λ (f : End). at v (n.arrives f).pulse) to in
            let none : held_pulse (lay.keep x way) regs (n.arrives (target j way)) ≡ 0 = ap (λ (b : Bool). held_pulse b regs (n.arrives (target j way))) straight in
            let a = sums.counts in
            let c = in_there.pulse in
            omega (arith, put, pending, left, next, shown, arrives, none, a, c, counts)

        by_target : (e : End) → target j way ≡ e → lay.keep x way ≡ false → pending_at lay p n regs (PartEnd i h) + due h step.first ≤ 1
        by_target (PartEnd d g) to straight =
            let contact : contact_at p (PartEnd d g) ≡ Some ends.to = ap (contact_at p) (sym to) ∙ ends.to_there in
            let l = part_there p d g ends.to contact in
            single_ring lay p net n rank v regs after o s w (puts i) i h k x j way d g l.0 ends.to rises now there straight from is out_there to l.1
            (slice_get_within (part_contacts l.0) g ends.to (own_contact p d g l.0 ends.to l.1 contact)) contact ends.to_way step
        by_target (ImportEnd d g) to straight = at_port (ImportEnd d g) to tt (ap (contact_at p) (sym to) ∙ ends.to_there) straight
        by_target (ResultEnd g) to straight = at_port (ResultEnd g) to tt (ap (contact_at p) (sym to) ∙ ends.to_there) straight

        by_keep : (b : Bool) → lay.keep x way ≡ b → pending_at lay p n regs (PartEnd i h) + due h step.first ≤ 1
        by_keep true keeps =
            let pulse = (now.facts.joints x j way there keeps).pulse in
            let now_held = ap (λ (b : Bool). held_pulse b regs (n.arrives (target j way))) keeps in
            let a = sums.counts in
            let c = in_there.pulse in
            omega (arith, put, pending, left, pulse, now_held, a, c, counts)
        by_keep false straight = by_target (target j way) refl straight

    out : Sent lay p n rank v regs after puts (source j way) (width p j way)
    out = sent_from lay p net n rank v regs after o s w puts x j way now fires there one_due

    held : Holds lay p n v regs after x j way
    held = by_keep (lay.keep x way) refl
      where
        by_keep : (b : Bool) → lay.keep x way ≡ b → Holds lay p n v regs after x j way
        by_keep true keeps =
            let delays = now.facts.joints x j way there keeps in
            let now_held = ap (λ (b : Bool). held_pulse b regs (n.arrives (target j way))) keeps in
            let next_held = ap (λ (b : Bool). held_pulse b after (n.arrives (target j way))) keeps in
            let now_number = ap (λ (b : Bool). held_number b regs (n.arrives (target j way))) keeps in
            let next_number = ap (λ (b : Bool). held_number b after (n.arrives (target j way))) keeps in
            let pulse = delays.pulse in
            let next = delays.next in
            record {
              pulses = omega (arith, now_held, next_held, pulse, next);
              numbers = λ some.
                  let a = carried_same v regs (n.arrives (target j way)) (n.arrives (target j way)) pulse (delays.number some) in
                  let b = carried_same after v (n.arrives (target j way)) (n.leaves (source j way)) next (delays.next_number some) in
                  omega (arith, now_number, next_number, a, b);
              narrow = λ _ some none. subst (λ (m : ℕ). m < 2 ^ width p j way) (sym (delays.next_number some)) (out.narrow some (sym next ∙ none));
            }
        by_keep false passes =
            let nets = now.plan_facts.straight x j way there passes in
            let now_held = ap (λ (b : Bool). held_pulse b regs (n.arrives (target j way))) passes in
            let next_held = ap (λ (b : Bool). held_pulse b after (n.arrives (target j way))) passes in
            let now_number = ap (λ (b : Bool). held_number b regs (n.arrives (target j way))) passes in
            let next_number = ap (λ (b : Bool). held_number b after (n.arrives (target j way))) passes in
            let pulse = ap (λ (m : Nets). at v m.pulse) nets in
            let value = ap (carried v) nets in
            record {
              pulses = omega (arith, now_held, next_held, pulse);
              numbers = λ some. omega (arith, now_number, next_number, value);
              narrow = λ keeps some none. absurd (true≢false (sym keeps ∙ passes));
            }
