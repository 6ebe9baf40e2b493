-- The slots of events, one event after another, and the event of a slot.
use Rattle.std.proofs.Common.{◌≡◌, ◌⊎◌, inl, inr, ◌+◌, ◌-◌, ℕ, zero, suc, Bool, true, false, not, cond, List, [], ◌∷◌, ◌++◌, length, take, refl, sym, ap, ◌∙◌, arith, Some, length-append}
use Rattle.std.specs.Prelude.{slice_get}
use Rattle.gos_netlist.specs.declared.event.Event.{Event}
use Rattle.gos_pulse.specs.declared.slots.Slot.{Slot}
use Rattle.gos_pulse.specs.Guarding.{goes, events_way}
use Rattle.gos_pulse.specs.inner.Slots.{AreSlots, number_of}
use Rattle.gos_pulse.proofs.GuardLemmas.{way_more}

-- the slots of the first n events
pub record SlotsTo (events : List Event) (n : ℕ) (slots : List Slot) : Type 0 where
  pub each : length slots ≡ n
  pub input : (k : ℕ) (event : Event) (slot : Slot) → slice_get events k ≡ Some event → slice_get slots k ≡ Some slot → slot.input ≡ event.input
  pub place : (k : ℕ) (event : Event) (slot : Slot) → slice_get events k ≡ Some event → slice_get slots k ≡ Some slot → slot.place ≡ number_of event.input events k

-- an element of a list with one more behind it
of_push : {X : Type 0} (xs : List X) (y : X) (k : ℕ) (z : X) → slice_get (xs ++ y ∷ []) k ≡ Some z → (slice_get xs k ≡ Some z) ⊎ ((k ≡ length xs) × (z ≡ y))
of_push [] y zero z h = inr (refl, cc)
of_push [] y (suc k) z h = absurd (cc h)
of_push (x ∷ xs) y zero z h = inl h
of_push (x ∷ xs) y (suc k) z h = elim (of_push xs y k z h) [ inl p ↦ inl p | inr p ↦ inr (ap suc p.0, p.1) ]

both_ways : (events : List Event) → length (events_way true events) + length (events_way false events) ≡ length events
both_ways [] = refl
both_ways (e ∷ events) = by e.input (both_ways events)
  where
    by : (b : Bool) → length (events_way true events) + length (events_way false events) ≡ length events
        → length (cond b (e ∷ events_way true events) (events_way true events)) + length (cond (not b) (e ∷ events_way false events) (events_way false events)) ≡ suc (length events)
    by true rest = omega (arith, rest)
    by false rest = omega (arith, rest)

module _ (events : List Event) (n inputs : ℕ) (event : Event) (here : slice_get events n ≡ Some event) (count : inputs ≡ number_of true events n) where
  -- how many of the first events are inputs
  pub inputs_more : inputs + cond event.input 1 0 ≡ number_of true events (n + 1)
  inputs_more = by event.input (ap length (way_more true events n event here))
    where
      by : (b : Bool) → number_of true events (n + 1) ≡ length (cond b (events_way true (take n events) ++ event ∷ []) (events_way true (take n events))) → inputs + cond b 1 0 ≡ number_of true events (n + 1)
      by true h = omega (arith, h, count, length-append (events_way true (take n events)) (event ∷ []))
      by false h = omega (arith, h, count)

  place_is : (b : Bool) → length (take n events) ≡ n → cond b inputs (n - inputs) ≡ number_of b events n
  place_is true each = count
  place_is false each = omega (arith, each, count, both_ways (take n events))

  -- the slot of one event more
  pub slots_more : (slots : List Slot) (slot : Slot) → SlotsTo events n slots → length (take n events) ≡ n → slot.input ≡ event.input → slot.place ≡ cond event.input inputs (n - inputs) → SlotsTo events (n + 1) (slots ++ slot ∷ [])
  slots_more slots slot so_far each input place =
      record {
        each = omega (arith, so_far.each, length-append slots (slot ∷ []));
        input = λ k e s at_e at_s.
            elim (of_push slots slot k s at_s) [
              | inl old ↦ so_far.input k e s at_e old
              | inr new ↦ same_input k e s at_e new.0 new.1
            ];
        place = λ k e s at_e at_s.
            elim (of_push slots slot k s at_s) [
              | inl old ↦ so_far.place k e s at_e old
              | inr new ↦ same_place k e s at_e new.0 new.1
            ];
      }
    where
      same_event : (k : ℕ) (e : Event) → slice_get events k ≡ Some e → k ≡ length slots → e ≡ event
      same_event k e at_e at_k =
          let same : k ≡ n = at_k ∙ so_far.each in
          let both : Some e ≡ Some event = sym at_e ∙ ap (slice_get events) same ∙ here in
          cc

      same_input : (k : ℕ) (e : Event) (s : Slot) → slice_get events k ≡ Some e → k ≡ length slots → s ≡ slot → s.input ≡ e.input
      same_input k e s at_e at_k is = ap (λ (x : Slot). x.input) is ∙ input ∙ ap (λ (x : Event). x.input) (sym (same_event k e at_e at_k))

      same_place : (k : ℕ) (e : Event) (s : Slot) → slice_get events k ≡ Some e → k ≡ length slots → s ≡ slot → s.place ≡ number_of e.input events k
      same_place k e s at_e at_k is =
          let same : k ≡ n = at_k ∙ so_far.each in
          ap (λ (x : Slot). x.place) is ∙ place ∙ place_is event.input each
          ∙ (λ i. number_of (sym (same_event k e at_e at_k) i).input events (sym same i))

pub all_slots : (events : List Event) (n : ℕ) (slots : List Slot) → n ≡ length events → SlotsTo events n slots → AreSlots events slots
all_slots events n slots all so_far = record { each = so_far.each ∙ all; input = so_far.input; place = so_far.place }

-- the event at a place is the one of its number among the events of its way
pub way_there : (b : Bool) (events : List Event) (i : ℕ) (event : Event) → slice_get events i ≡ Some event → goes b event ≡ true → slice_get (events_way b events) (number_of b events i) ≡ Some event
way_there b [] i event h way = absurd (cc h)
way_there b (e ∷ events) zero event h way =
    let same : e ≡ event = cc in
    let its : goes b e ≡ true = ap (goes b) same ∙ way in
    ap (λ (c : Bool). slice_get (cond c (e ∷ events_way b events) (events_way b events)) 0) its ∙ h
way_there b (e ∷ events) (suc i) event h way = by (goes b e) (way_there b events i event h way)
  where
    by : (c : Bool) → slice_get (events_way b events) (number_of b events i) ≡ Some event
        → slice_get (cond c (e ∷ events_way b events) (events_way b events)) (length (cond c (e ∷ events_way b (take i events)) (events_way b (take i events)))) ≡ Some event
    by true rest = rest
    by false rest = rest
