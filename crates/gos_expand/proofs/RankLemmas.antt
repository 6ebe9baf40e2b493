-- The list of a cycle: outputs, inputs, the early firings by rank, and the late ones. It is orderly to its end, or it is broken:
-- an initial part of it is possible and out of order.
--
-- Read first: CauseLemmas. By induction over the ranks: all that passes on to an end has lower ranks.
use Rattle.std.specs.Prelude.{◌&&◌, nat_lt}
use Rattle.std.proofs.Common.{◌≡◌, inl, inr, ◌⊎◌, ℕ, zero, suc, ◌≤◌, ◌<◌, Bool, true, false, not, List, [], ◌++◌, Some, slice_get, length, refl, sym, ◌∙◌, ap, subst, arith, nat_eq, if◌then◌else◌}
use Rattle.std.proofs.lemmas.List.{append-nil}
use Rattle.std.proofs.lemmas.Option.{slice_get_within}
use Rattle.gos_netlist.specs.Nets.{Netlist}
use Rattle.gos_netlist.specs.Settling.{Numbers, at}
use Rattle.gos_plan.specs.Kinds.{Part, Contact, part_contacts}
use Rattle.gos_plan.specs.Plans.{End, PartEnd, Plan, contact_at}
use Rattle.gos_plan.specs.Tokens.{Tokens, Element, Runs, shake_of}
use Rattle.gos_plan.specs.Orderly.{Open, OrderlyFrom}
use Rattle.gos_macro.specs.Gates.{slot_in, is_among, pulse_in, slots_of}
use Rattle.gos_macro.specs.Law.{pulsed}
use Rattle.gos_plan.specs.Firings.{times}
use Rattle.gos_plan.specs.Projection.{firings_of, TakesValues}
use Rattle.gos_plan.specs.Made.{PartFiring, fires_of}
use Rattle.gos_plan.proofs.DecidedLemmas.{lists_are_decided, orderly_is_possible}
use Rattle.gos_expand.specs.Gates.{late_of, passing_of}
use Rattle.gos_expand.specs.Starts.{Laying, ports_of, port_ends}
use Rattle.gos_expand.specs.Facts.{Places, incoming_at, bits_in_at, bits_out_at, shown_elements, given_elements, PassesOn, Rises}
use Rattle.gos_expand.proofs.TallyLemmas.{shake_in}
use Rattle.gos_expand.proofs.ChainLemmas.{orderly-append, never_whole, runs-append, welcome_after, takes-append}
use Rattle.gos_expand.proofs.StandingLemmas.{led_on, Now, values}
use Rattle.gos_expand.proofs.DueLemmas.{pulse_shape}
use Rattle.gos_expand.proofs.ScheduleLemmas.{Choice, chosen_from, is_early, at_rank, below_rank, are_late, early_below, top, with_pulse, early_made, made_firings, firings_chosen, firings_pulsed, with_pulse-append, below_top, pulsed_once, EachFiring, each_chosen, each_with_pulse}
use Rattle.gos_expand.proofs.PulseLemmas.{no_values}
use Rattle.gos_expand.proofs.PossibleLemmas.{outs_go, ins_go, listing, listing-append, Ready, Went, Failed, firings_end}
use Rattle.gos_expand.proofs.CauseLemmas.{ComesIn, AllComeIn, own_contact, end_contact, Below, Arrived, arrival}

-- how a cycle's list ends: orderly with all its firings, or broken after some of them
pub record Whole (lay : Laying) (p : Plan) (n : Places) (rank : End → ℕ) (v : Numbers) (o : Open) (s : Tokens) : Type 0 where
  pub open_then : Open
  pub state_then : Tokens
  pub list : OrderlyFrom p (listing p n v (made_firings lay p n rank v)) o s open_then state_then
  pub takes : (i : ℕ) → TakesValues p i (values p n v i) (listing p n v (made_firings lay p n rank v)) s
  pub comes : AllComeIn p n v (λ i k h. true)

pub record Stopped (p : Plan) (n : Places) (v : Numbers) (o : Open) (s : Tokens) : Type 0 where
  pub firings : List PartFiring
  pub state_then : Tokens
  pub runs : Runs p (listing p n v firings) s state_then
  pub never : (u : Open) (t : Tokens) → OrderlyFrom p (listing p n v firings) o s u t → ⊥

-- a list of the cycle with these firings, orderly to its end
record Further (p : Plan) (n : Places) (v : Numbers) (o : Open) (s : Tokens) (fs : List PartFiring) : Type 0 where
  pub open_then : Open
  pub state_then : Tokens
  pub list : OrderlyFrom p (listing p n v fs) o s open_then state_then
  pub takes : (i : ℕ) → TakesValues p i (values p n v i) (listing p n v fs) s

abbrev AllArrive : Plan → Places → Numbers → Tokens → Choice → Type 0
AllArrive p n v t these =
    (i h : ℕ) (k : Part) (c : Contact) → slice_get p.parts i ≡ Some k → contact_at p (PartEnd i h) ≡ Some c → these i k h ≡ true → Arrived p n v t i h c

all_ready : (p : Plan) (n : Places) (v : Numbers) (t : Tokens) (these : Choice) → AllArrive p n v t these
    → EachFiring (Ready p n v t (with_pulse p n v (chosen_from these 0 p.parts))) (with_pulse p n v (chosen_from these 0 p.parts))
all_ready p n v t these arrive =
    each_with_pulse p n v (Ready p n v t all) (chosen_from these 0 p.parts)
    (each_chosen p (λ f. pulse_in v (incoming_at p n f.part) (shake_of f.takes) ≡ 1 → Ready p n v t all f) these
    (λ i h k c is own chosen pulse.
    let there : contact_at p (PartEnd i h) ≡ Some c = end_contact p i h k c is own in
    let one : at v (n.arrives (PartEnd i h)).pulse ≡ 1 =
    sym (pulse_shape p n v i h c there) ∙ (ap (pulse_in v (incoming_at p n i)) (sym (shake_in c.role h)) ∙ pulse) in
    record {
      shake = h;
      contact = c;
      there = there;
      slot = refl;
      due = (arrive i h k c is there chosen).due one;
      once = once i h k c is own;
    }))
  where
    all : List PartFiring
    all = with_pulse p n v (chosen_from these 0 p.parts)

    once : (i h : ℕ) (k : Part) (c : Contact) → slice_get p.parts i ≡ Some k → slice_get (part_contacts k) h ≡ Some c
        → times (slot_in c.role h) (firings_of i (fires_of all)) ≤ 1
    once i h k c is own =
        subst (λ (m : ℕ). m ≤ 1) (sym (ap (times (slot_in c.role h)) counted ∙ pulsed_once (pulse_in v (incoming_at p n i)) (these i k) h (part_contacts k) c own))
        (by_tests (nat_eq (pulse_in v (incoming_at p n i) h) 1) (these i k h))
      where
        counted : firings_of i (fires_of all) ≡ pulsed (pulse_in v (incoming_at p n i)) (slots_of (these i k) 0 (part_contacts k))
        counted =
            firings_pulsed p n v i (chosen_from these 0 p.parts)
            ∙ ap (pulsed (pulse_in v (incoming_at p n i))) (firings_chosen p these i k is)

        by_tests : (x y : Bool) → (if x then (if y then 1 else 0) else 0) ≤ 1
        by_tests true true = omega arith
        by_tests true false = omega arith
        by_tests false y = omega arith

phase : (lay : Laying) (p : Plan) (net : Netlist) (n : Places) (rank : End → ℕ) (v regs after : Numbers) (o : Open) (s : Tokens) (r : ℕ) (these : Choice)
    (b : Below lay p n rank v o s r)
    → Now lay p net n rank v regs after o s → AllArrive p n v b.state_then these
    → Further p n v o s (early_made lay p n rank v r ++ with_pulse p n v (chosen_from these 0 p.parts)) ⊎ Stopped p n v o s
phase lay p net n rank v regs after o s r these b now arrive =
    by_end
    (firings_end p n v b.open_then b.state_then fs now.right (led_on p xs o b.open_then s b.state_then now.led b.list)
    (welcome_after p xs o b.open_then s b.state_then now.standing.welcome b.list) (all_ready p n v b.state_then these arrive))
  where
    before : List PartFiring
    before = early_made lay p n rank v r

    xs : List Element
    xs = listing p n v before

    fs : List PartFiring
    fs = with_pulse p n v (chosen_from these 0 p.parts)

    possible : Runs p xs s b.state_then
    possible = orderly_is_possible p xs o b.open_then s b.state_then b.list

    by_end : Went p n v b.open_then b.state_then fs ⊎ Failed p b.open_then b.state_then → Further p n v o s (before ++ fs) ⊎ Stopped p n v o s
    by_end (inl went) =
        inl
        (record {
          open_then = went.open_then;
          state_then = went.state_then;
          list =
              subst (λ (l : List Element). OrderlyFrom p l o s went.open_then went.state_then) (sym (listing-append p n v before fs))
              (orderly-append p xs (fires_of fs) o b.open_then went.open_then s b.state_then went.state_then b.list went.list);
          takes = λ i.
              subst (λ (l : List Element). TakesValues p i (values p n v i) l s) (sym (listing-append p n v before fs))
              (takes-append p i (values p n v i) xs (fires_of fs) s b.state_then (b.takes i) possible (went.takes i));
        })
    by_end (inr failed) =
        inr
        (record {
          firings = before ++ failed.firings;
          state_then = failed.state_then;
          runs =
              subst (λ (l : List Element). Runs p l s failed.state_then) (sym (listing-append p n v before failed.firings))
              (runs-append p xs (fires_of failed.firings) s b.state_then failed.state_then possible failed.runs);
          never =
              subst (λ (l : List Element). (u : Open) (t : Tokens) → OrderlyFrom p l o s u t → ⊥) (sym (listing-append p n v before failed.firings))
              (never_whole p xs (fires_of failed.firings) o b.open_then s b.state_then b.list failed.never);
        })

-- what passes on is early
passes_early : (lay : Laying) (p : Plan) (net : Netlist) (n : Places) (rank : End → ℕ) (v regs after : Numbers) (o : Open) (s : Tokens) (j from : ℕ) (l : Part) (e : End)
    → Now lay p net n rank v regs after o s → slice_get p.parts j ≡ Some l → PassesOn lay p j from e → is_early (lay.making j) l from ≡ true
passes_early lay p net n rank v regs after o s j from l e now is on = by_late (is_among (late_of (lay.making j) l) from) refl
  where
    same : on.part ≡ l
    same = let there = on.there in cc (there, is)

    by_late : (b : Bool) → is_among (late_of (lay.making j) l) from ≡ b → not b ≡ true
    by_late false h = refl
    by_late true h =
        let late : is_among (late_of (lay.making j) on.part) from ≡ true = subst (λ (x : Part). is_among (late_of (lay.making j) x) from ≡ true) (sym same) h in
        let waits : passing_of (lay.making j) on.part from on.out ≡ false = (now.part_facts.paths j on.part on.there).waits from on.out on.from_there on.out_there late in
        let passes = on.passes in
        absurd (cc (waits, passes))

-- the next rank
next_rank : (lay : Laying) (p : Plan) (net : Netlist) (n : Places) (rank : End → ℕ) (v regs after : Numbers) (o : Open) (s : Tokens) (r : ℕ)
    → Rises lay p rank → Now lay p net n rank v regs after o s → Below lay p n rank v o s r → Below lay p n rank v o s (suc r) ⊎ Stopped p n v o s
next_rank lay p net n rank v regs after o s r rises now b = by_end (phase lay p net n rank v regs after o s r (at_rank lay rank r) b now arrive)
  where
    of_rank : (x : Bool) (m : ℕ) → (x && nat_eq m r) ≡ true → m ≡ r
    of_rank true m e = grind (arith, e)
    of_rank false m e = absurd (cc e)

    not_below : (x : Bool) (m : ℕ) → m ≡ r → (x && nat_lt m r) ≡ false
    not_below true m e = grind (arith, e)
    not_below false m e = refl

    so_below : (x : Bool) (m : ℕ) → x ≡ true → m < r → (x && nat_lt m r) ≡ true
    so_below true m e lt = grind (arith, lt)
    so_below false m e lt = absurd (cc e)

    arrive : AllArrive p n v b.state_then (at_rank lay rank r)
    arrive i h k c is there chosen =
        let is_r : rank (PartEnd i h) ≡ r = of_rank (is_early (lay.making i) k h) (rank (PartEnd i h)) chosen in
        arrival lay p net n rank v regs after o s r b i h k c now is there (not_below (is_early (lay.making i) k h) (rank (PartEnd i h)) is_r)
        (λ j from l is_l on.
        let lower = rises j from (PartEnd i h) on in
        so_below (is_early (lay.making j) l from) (rank (PartEnd j from)) (passes_early lay p net n rank v regs after o s j from l (PartEnd i h) now is_l on) (omega (arith, lower, is_r)))

    either : (x : Bool) (m : ℕ) → (x && nat_lt m (suc r)) ≡ true → ((x && nat_lt m r) ≡ true) ⊎ ((x && nat_eq m r) ≡ true)
    either false m e = absurd (cc e)
    either true m e = by_test (nat_eq m r) refl
      where
        by_test : (y : Bool) → nat_eq m r ≡ y → (nat_lt m r ≡ true) ⊎ (y ≡ true)
        by_test true h = inr refl
        by_test false h = inl (grind (arith, e, h))

    comes : AllComeIn p n v (below_rank lay rank (suc r))
    comes i h k c is there chosen = by_rank (either (is_early (lay.making i) k h) (rank (PartEnd i h)) chosen)
      where
        by_rank : (below_rank lay rank r i k h ≡ true) ⊎ (at_rank lay rank r i k h ≡ true) → ComesIn p n v i h c
        by_rank (inl lower) = b.comes i h k c is there lower
        by_rank (inr here) = (arrive i h k c is there here).comes

    all : early_made lay p n rank v r ++ with_pulse p n v (chosen_from (at_rank lay rank r) 0 p.parts) ≡ early_made lay p n rank v (suc r)
    all = sym (with_pulse-append p n v (early_below lay p rank r) (chosen_from (at_rank lay rank r) 0 p.parts))

    by_end : Further p n v o s (early_made lay p n rank v r ++ with_pulse p n v (chosen_from (at_rank lay rank r) 0 p.parts)) ⊎ Stopped p n v o s
        → Below lay p n rank v o s (suc r) ⊎ Stopped p n v o s
    by_end (inl more) =
        inl
        (record {
          open_then = more.open_then;
          state_then = more.state_then;
          list = subst (λ (l : List PartFiring). OrderlyFrom p (listing p n v l) o s more.open_then more.state_then) all more.list;
          takes = λ i. subst (λ (l : List PartFiring). TakesValues p i (values p n v i) (listing p n v l) s) all (more.takes i);
          comes = comes;
        })
    by_end (inr stopped) = inr stopped

-- outputs and inputs, before all firings
no_rank : (lay : Laying) (p : Plan) (net : Netlist) (n : Places) (rank : End → ℕ) (v regs after : Numbers) (o : Open) (s : Tokens)
    → Now lay p net n rank v regs after o s → Below lay p n rank v o s 0 ⊎ Stopped p n v o s
no_rank lay p net n rank v regs after o s now = by_inputs (lists_are_decided p (given_elements p n v) outs.0 outs.1 ins.0 ins.1)
  where
    outs : (m : Open) × (w : Tokens) × OrderlyFrom p (shown_elements p n v) o s m w
    outs = outs_go lay p net n rank v regs after o o s s [] (port_ends (ports_of p)) now refl (refl, refl)

    ins : (w : Tokens) × Runs p (given_elements p n v) outs.1 w
    ins = ins_go lay p net n rank v regs after o s outs.1 [] (port_ends (ports_of p)) now refl

    without : listing p n v [] ≡ shown_elements p n v ++ given_elements p n v
    without = ap (λ (l : List Element). shown_elements p n v ++ l) (append-nil (given_elements p n v))

    none_below : (x : Bool) (m : ℕ) → (x && nat_lt m 0) ≡ true → ⊥
    none_below true m e = grind (arith, e)
    none_below false m e = cc e

    by_inputs : ((u : Open) × OrderlyFrom p (given_elements p n v) outs.0 outs.1 u ins.0)
        ⊎ ((u : Open) (w : Tokens) → OrderlyFrom p (given_elements p n v) outs.0 outs.1 u w → ⊥)
        → Below lay p n rank v o s 0 ⊎ Stopped p n v o s
    by_inputs (inl (u, list)) =
        inl
        (record {
          open_then = u;
          state_then = ins.0;
          list =
              subst (λ (l : List Element). OrderlyFrom p l o s u ins.0) (sym without)
              (orderly-append p (shown_elements p n v) (given_elements p n v) o outs.0 u s outs.1 ins.0 outs.2 list);
          takes = λ i.
              subst (λ (l : List Element). TakesValues p i (values p n v i) l s) (sym without)
              (takes-append p i (values p n v i) (shown_elements p n v) (given_elements p n v) s outs.1
              (no_values true p i (values p n v i) v (bits_out_at p) n.shows (port_ends (ports_of p)) s)
              (orderly_is_possible p (shown_elements p n v) o outs.0 s outs.1 outs.2)
              (no_values false p i (values p n v i) v (bits_in_at p) n.leaves (port_ends (ports_of p)) outs.1));
          comes = λ i h k c is there chosen. absurd (none_below (is_early (lay.making i) k h) (rank (PartEnd i h)) chosen);
        })
    by_inputs (inr fails) =
        inr
        (record {
          firings = [];
          state_then = ins.0;
          runs =
              subst (λ (l : List Element). Runs p l s ins.0) (sym without)
              (runs-append p (shown_elements p n v) (given_elements p n v) s outs.1 ins.0 (orderly_is_possible p (shown_elements p n v) o outs.0 s outs.1 outs.2) ins.1);
          never =
              subst (λ (l : List Element). (m : Open) (w : Tokens) → OrderlyFrom p l o s m w → ⊥) (sym without)
              (never_whole p (shown_elements p n v) (given_elements p n v) o outs.0 s outs.1 outs.2 fails);
        })

-- all ranks
all_ranks : (lay : Laying) (p : Plan) (net : Netlist) (n : Places) (rank : End → ℕ) (v regs after : Numbers) (o : Open) (s : Tokens) (r : ℕ)
    → Rises lay p rank → Now lay p net n rank v regs after o s → Below lay p n rank v o s r ⊎ Stopped p n v o s
all_ranks lay p net n rank v regs after o s zero rises now = no_rank lay p net n rank v regs after o s now
all_ranks lay p net n rank v regs after o s (suc r) rises now =
    by_end (all_ranks lay p net n rank v regs after o s r rises now)
  where
    by_end : Below lay p n rank v o s r ⊎ Stopped p n v o s → Below lay p n rank v o s (suc r) ⊎ Stopped p n v o s
    by_end (inl b) = next_rank lay p net n rank v regs after o s r rises now b
    by_end (inr stopped) = inr stopped

-- and then what comes in late
late_last : (lay : Laying) (p : Plan) (net : Netlist) (n : Places) (rank : End → ℕ) (v regs after : Numbers) (o : Open) (s : Tokens)
    → Now lay p net n rank v regs after o s → Below lay p n rank v o s (top p rank) → Whole lay p n rank v o s ⊎ Stopped p n v o s
late_last lay p net n rank v regs after o s now b = by_end (phase lay p net n rank v regs after o s (top p rank) (are_late lay) b now arrive)
  where
    not_below : (x y : Bool) → x ≡ true → (not x && y) ≡ false
    not_below true y e = refl
    not_below false y e = absurd (cc e)

    so_below : (x : Bool) (m : ℕ) → x ≡ true → m < top p rank → (x && nat_lt m (top p rank)) ≡ true
    so_below true m e lt = grind (arith, lt)
    so_below false m e lt = absurd (cc e)

    arrive : AllArrive p n v b.state_then (are_late lay)
    arrive i h k c is there chosen =
        arrival lay p net n rank v regs after o s (top p rank) b i h k c now is there
        (not_below (is_among (late_of (lay.making i) k) h) (nat_lt (rank (PartEnd i h)) (top p rank)) chosen)
        (λ j from l is_l on.
        let on_there = on.there in
        let same : on.part ≡ l = cc (on_there, is_l) in
        so_below (is_early (lay.making j) l from) (rank (PartEnd j from)) (passes_early lay p net n rank v regs after o s j from l (PartEnd i h) now is_l on)
        (below_top p rank j from l is_l (subst (λ (x : Part). from < length (part_contacts x)) same on.from_there)))

    comes : AllComeIn p n v (λ i k h. true)
    comes i h k c is there chosen = by_late (is_among (late_of (lay.making i) k) h) refl
      where
        within : rank (PartEnd i h) < top p rank
        within = below_top p rank i h k is (slice_get_within (part_contacts k) h c (own_contact p i h k c is there))

        by_late : (x : Bool) → is_among (late_of (lay.making i) k) h ≡ x → ComesIn p n v i h c
        by_late true late = (arrive i h k c is there late).comes
        by_late false early = b.comes i h k c is there (so_below (is_early (lay.making i) k h) (rank (PartEnd i h)) (ap not early) within)

    by_end : Further p n v o s (made_firings lay p n rank v) ⊎ Stopped p n v o s → Whole lay p n rank v o s ⊎ Stopped p n v o s
    by_end (inl more) =
        inl (record { open_then = more.open_then; state_then = more.state_then; list = more.list; takes = more.takes; comes = comes })
    by_end (inr stopped) = inr stopped

-- The list of a cycle is orderly to its end, or broken.
pub cycle_ends : (lay : Laying) (p : Plan) (net : Netlist) (n : Places) (rank : End → ℕ) (v regs after : Numbers) (o : Open) (s : Tokens)
    → Rises lay p rank → Now lay p net n rank v regs after o s → Whole lay p n rank v o s ⊎ Stopped p n v o s
cycle_ends lay p net n rank v regs after o s rises now =
    by_end (all_ranks lay p net n rank v regs after o s (top p rank) rises now)
  where
    by_end : Below lay p n rank v o s (top p rank) ⊎ Stopped p n v o s → Whole lay p n rank v o s ⊎ Stopped p n v o s
    by_end (inl b) = late_last lay p net n rank v regs after o s now b
    by_end (inr stopped) = inr stopped
