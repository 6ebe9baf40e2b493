-- Pulses, one after another: each event's nets keep what its pulse gives.
use Rattle.std.specs.Prelude.{◌≡◌, ℕ, ◌+◌, ◌<◌, List, Option, Some, None, slice_get}
use Rattle.std.proofs.Common.{arith, refl, inl, inr, subst, ◌∙◌, below_more}
use Rattle.gos_netlist.specs.Settling.{Numbers, at}
use Rattle.gos_sim.specs.declared.event_nets.EventNets.{EventNets}
use Rattle.gos_sim.specs.declared.pulse.Pulse.{Pulse}
use Rattle.gos_sim.specs.EventNets.{Names}
use Rattle.gos_sim.specs.inner.Running.{KeepsOtherNets}
use Rattle.gos_sim.specs.Cycle.{HasNumber, Gives}
use Rattle.gos_sim.specs.inner.Ready.{AreApart}
use Rattle.gos_sim.proofs.PlaceLemmas.{same_element}

-- the nets of the events before place k have what their pulses give
abbrev pub GivesBefore : List EventNets → List Pulse → ℕ → Numbers → Type 0
GivesBefore es ps k v =
    (j : ℕ) → j < k → (e : EventNets) (p : Pulse) → slice_get es j ≡ Some e → slice_get ps j ≡ Some p → Gives v e p

-- what an event's nets have is kept where they are others
pub kept_given : (v w : Numbers) (e : EventNets) (p : Pulse) → ((a : ℕ) → Names e a → at w a ≡ at v a) → Gives v e p → Gives w e p
kept_given v w e p kept given = (kept e.pulse (inl refl) ∙ given.0, number e.number refl given.1)
  where
    number : (o : Option ℕ) → e.number ≡ o → HasNumber v o p.value → HasNumber w o p.value
    number None is h = tt
    number (Some x) is h = kept x (inr is) ∙ h

-- one event more
pub given_more : (es : List EventNets) (ps : List Pulse) (k : ℕ) (v w : Numbers) (f : EventNets) (q : Pulse) → AreApart es
    → slice_get es k ≡ Some f → slice_get ps k ≡ Some q → Gives w f q → KeepsOtherNets f v w
    → GivesBefore es ps k v → GivesBefore es ps (k + 1) w
given_more es ps k v w f q apart is_event is_pulse given kept before =
    below_more (λ j. (e : EventNets) (p : Pulse) → slice_get es j ≡ Some e → slice_get ps j ≡ Some p → Gives w e p) k older newest
  where
    older : (j : ℕ) → j < k → (e : EventNets) (p : Pulse) → slice_get es j ≡ Some e → slice_get ps j ≡ Some p → Gives w e p
    older j below e p at_e at_p =
        kept_given v w e p
        (λ a names. kept a (λ other. let same : j ≡ k = apart.between j k a e f at_e is_event names other in omega arith))
        (before j below e p at_e at_p)

    newest : (e : EventNets) (p : Pulse) → slice_get es k ≡ Some e → slice_get ps k ≡ Some p → Gives w e p
    newest e p at_e at_p =
        let same : f ≡ e = same_element es k f e is_event at_e in
        let pulse : q ≡ p = same_element ps k q p is_pulse at_p in
        subst (λ (e : EventNets). Gives w e p) same (subst (λ (p : Pulse). Gives w f p) pulse given)
