-- Labels of pulses, and one pulse more among them.
use Rattle.std.proofs.Common.{◌≡◌, ◌⊎◌, inl, inr, ℕ, zero, suc, Bool, true, false, cond, List, [], ◌∷◌, ◌++◌, length, set, replicate, refl, sym, ap, subst, ◌∙◌, Some, append_assoc, append-nil}
use Rattle.std.specs.Prelude.{slice_get}
use Rattle.gos_netlist.specs.declared.event.Event.{Event}
use Rattle.gos_netlist.specs.Nets.{NetPort}
use Rattle.gos_model.specs.Labels.{Label}
use Rattle.gos_pace.specs.Flattening.{AnyOrder}
use Rattle.gos_sim.specs.declared.pulse.Pulse.{Pulse}
use Rattle.gos_pulse.specs.inner.Slots.{label_if, label_of, labels_of}

-- where a list is cut in two ways, the first label of the one cut stands in one part of the other
cut : (front back before after : List Label) (x : Label) → front ++ back ≡ before ++ x ∷ after
    → ((c : List Label) × (front ≡ before ++ x ∷ c) × (after ≡ c ++ back)) ⊎ ((c : List Label) × (before ≡ front ++ c) × (back ≡ c ++ x ∷ after))
cut [] back before after x e = inr (before, refl, e)
cut (a ∷ front) back [] after x e =
    let first : a ≡ x = cc in
    let rest : front ++ back ≡ after = cc in
    inl (front, ap (λ (y : Label). y ∷ front) first, sym rest)
cut (a ∷ front) back (b ∷ before) after x e =
    let first : a ≡ b = cc in
    let rest : front ++ back ≡ before ++ x ∷ after = cc in
    elim (cut front back before after x rest) [
      | inl h ↦ inl (h.0, (λ i. first i ∷ h.1 i), h.2)
      | inr h ↦ inr (h.0, (λ i. sym first i ∷ h.1 i), h.2)
    ]

-- a label more, wherever it stands
pub any_insert : (xs front back : List Label) (l : Label) → AnyOrder xs (front ++ back) → AnyOrder (xs ++ l ∷ []) (front ++ l ∷ back)
any_insert [] front back l h = (front, back, refl, h)
any_insert (x ∷ xs) front back l h =
    elim (cut front back h.0 h.1 x h.2) [
      | inl p ↦
          let more : AnyOrder (xs ++ l ∷ []) ((h.0 ++ p.0) ++ l ∷ back) =
          any_insert xs (h.0 ++ p.0) back l (subst (AnyOrder xs) (ap (λ (ys : List Label). h.0 ++ ys) p.2 ∙ sym (append_assoc h.0 p.0 back)) h.3) in
          (h.0, p.0 ++ l ∷ back, ap (λ (ys : List Label). ys ++ l ∷ back) p.1 ∙ append_assoc h.0 (x ∷ p.0) (l ∷ back), subst (AnyOrder (xs ++ l ∷ [])) (append_assoc h.0 p.0 (l ∷ back)) more)
      | inr p ↦
          let more : AnyOrder (xs ++ l ∷ []) (front ++ l ∷ (p.0 ++ h.1)) =
          any_insert xs front (p.0 ++ h.1) l (subst (AnyOrder xs) (ap (λ (ys : List Label). ys ++ h.1) p.1 ∙ append_assoc front p.0 h.1) h.3) in
          (front ++ l ∷ p.0, h.1, ap (λ (ys : List Label). front ++ l ∷ ys) p.2 ∙ sym (append_assoc front (l ∷ p.0) (x ∷ h.1)), subst (AnyOrder (xs ++ l ∷ [])) (sym (append_assoc front (l ∷ p.0) h.1)) more)
    ]

-- the labels of an input that is given stand as one more among those of the others
pub record OneMore (ports : List NetPort) (events : List Event) (pulses : List Pulse) (i : ℕ) (event : Event) (value : ℕ) : Type 0 where
  pub front : List Label
  pub back : List Label
  pub old : labels_of ports events pulses ≡ front ++ back
  pub new : labels_of ports events (set pulses i (record { on = true; value = value })) ≡ front ++ label_of ports event value ∷ back

pub one_more : (ports : List NetPort) (events : List Event) (pulses : List Pulse) (i : ℕ) (event : Event) (old : Pulse) (value : ℕ) → slice_get events i ≡ Some event → slice_get pulses i ≡ Some old → old.on ≡ false → OneMore ports events pulses i event value
one_more ports [] pulses i event old value at_event at_pulse off = absurd (cc at_event)
one_more ports (x ∷ events) [] i event old value at_event at_pulse off = absurd (cc at_pulse)
one_more ports (x ∷ events) (q ∷ pulses) zero event old value at_event at_pulse off =
    let same : x ≡ event = cc in
    let this : q ≡ old = cc in
    let none : q.on ≡ false = ap (λ (r : Pulse). r.on) this ∙ off in
    record {
      front = [];
      back = labels_of ports events pulses;
      old = ap (λ (b : Bool). cond b (label_of ports x q.value ∷ []) [] ++ labels_of ports events pulses) none;
      new = ap (λ (y : Event). label_of ports y value ∷ labels_of ports events pulses) same;
    }
one_more ports (x ∷ events) (q ∷ pulses) (suc i) event old value at_event at_pulse off =
    let more = one_more ports events pulses i event old value at_event at_pulse off in
    record {
      front = label_if ports x q ++ more.front;
      back = more.back;
      old = ap (λ (ls : List Label). label_if ports x q ++ ls) more.old ∙ sym (append_assoc (label_if ports x q) more.front more.back);
      new = ap (λ (ls : List Label). label_if ports x q ++ ls) more.new ∙ sym (append_assoc (label_if ports x q) more.front (label_of ports event value ∷ more.back));
    }

-- the labels of one event more
pub labels_push : (ports : List NetPort) (events : List Event) (pulses : List Pulse) (event : Event) (pulse : Pulse) → slice_get pulses (length events) ≡ Some pulse → labels_of ports (events ++ event ∷ []) pulses ≡ labels_of ports events pulses ++ label_if ports event pulse
labels_push ports [] [] event pulse h = absurd (cc h)
labels_push ports [] (p ∷ pulses) event pulse h =
    let same : p ≡ pulse = cc in
    append-nil (label_if ports event p) ∙ ap (label_if ports event) same
labels_push ports (x ∷ events) [] event pulse h = absurd (cc h)
labels_push ports (x ∷ events) (p ∷ pulses) event pulse h =
    ap (λ (ls : List Label). label_if ports x p ++ ls) (labels_push ports events pulses event pulse h)
    ∙ sym (append_assoc (label_if ports x p) (labels_of ports events pulses) (label_if ports event pulse))

-- no pulse, no label
pub labels_quiet : (ports : List NetPort) (events : List Event) (n value : ℕ) → labels_of ports events (replicate n (record { on = false; value = value })) ≡ []
labels_quiet ports [] n value = refl
labels_quiet ports (x ∷ events) zero value = refl
labels_quiet ports (x ∷ events) (suc n) value = labels_quiet ports events n value
