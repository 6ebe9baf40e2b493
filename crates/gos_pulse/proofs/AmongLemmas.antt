-- The labels of a list, in whatever order, and the pulses that they tell of.
use Rattle.std.proofs.Common.{◌≡◌, ◌⊎◌, inl, inr, ℕ, zero, suc, Bool, true, false, not, cond, List, [], ◌∷◌, ◌++◌, refl, sym, ap, subst, ◌∙◌, Some, true≢false}
use Rattle.std.specs.Prelude.{slice_get, filter}
use Rattle.gos_netlist.specs.declared.event.Event.{Event}
use Rattle.gos_netlist.specs.Nets.{NetPort}
use Rattle.gos_model.specs.Labels.{Label, is_output}
use Rattle.gos_pace.specs.Flattening.{AnyOrder}
use Rattle.gos_sim.specs.declared.pulse.Pulse.{Pulse}
use Rattle.gos_pulse.specs.inner.Slots.{label_if, label_of, labels_of}

-- the label is one of these
abbrev pub IsAmong : Label → List Label → Type 0
IsAmong l [] = ⊥
IsAmong l (x ∷ xs) = (l ≡ x) ⊎ IsAmong l xs

among_front : (l : Label) (xs ys : List Label) → IsAmong l xs → IsAmong l (xs ++ ys)
among_front l [] ys among = absurd among
among_front l (x ∷ xs) ys (inl is) = inl is
among_front l (x ∷ xs) ys (inr later) = inr (among_front l xs ys later)

among_back : (l : Label) (xs ys : List Label) → IsAmong l ys → IsAmong l (xs ++ ys)
among_back l [] ys among = among
among_back l (x ∷ xs) ys among = inr (among_back l xs ys among)

among_either : (l : Label) (xs ys : List Label) → IsAmong l (xs ++ ys) → IsAmong l xs ⊎ IsAmong l ys
among_either l [] ys among = inr among
among_either l (x ∷ xs) ys (inl is) = inl (inl is)
among_either l (x ∷ xs) ys (inr later) = elim (among_either l xs ys later) [ inl p ↦ inl (inr p) | inr p ↦ inr p ]

-- a list in another order has the same labels
pub order_has : (l : Label) (xs ys : List Label) → AnyOrder xs ys → IsAmong l xs → IsAmong l ys
order_has l [] ys order among = absurd among
order_has l (x ∷ xs) ys (before, after, is, order) (inl same) =
    subst (IsAmong l) (sym is) (among_back l before (x ∷ after) (inl same))
order_has l (x ∷ xs) ys (before, after, is, order) (inr later) =
    subst (IsAmong l) (sym is)
    (elim (among_either l before after (order_has l xs (before ++ after) order later)) [
      | inl p ↦ among_front l before (x ∷ after) p
      | inr p ↦ among_back l before (x ∷ after) (inr p)
    ])

pub order_had : (l : Label) (xs ys : List Label) → AnyOrder xs ys → IsAmong l ys → IsAmong l xs
order_had l [] ys is among = subst (IsAmong l) is among
order_had l (x ∷ xs) ys (before, after, is, order) among =
    elim (among_either l before (x ∷ after) (subst (IsAmong l) is among)) [
      | inl p ↦ inr (order_had l xs (before ++ after) order (among_front l before after p))
      | inr p ↦ elim p [
        | inl same ↦ inl same
        | inr q ↦ inr (order_had l xs (before ++ after) order (among_back l before after q))
      ]
    ]

module _ (test : Label → Bool) (l : Label) where
  filter_has : (xs : List Label) → test l ≡ true → IsAmong l xs → IsAmong l (filter test xs)
  filter_has [] passes among = absurd among
  filter_has (x ∷ xs) passes among = by (test x) refl among (filter_has xs passes)
    where
      by : (b : Bool) → test x ≡ b → IsAmong l (x ∷ xs) → (IsAmong l xs → IsAmong l (filter test xs)) → IsAmong l (cond b (x ∷ filter test xs) (filter test xs))
      by true is (inl same) rest = inl same
      by true is (inr later) rest = inr (rest later)
      by false is (inl same) rest = absurd (true≢false (sym passes ∙ ap test same ∙ is))
      by false is (inr later) rest = rest later

  filter_had : (xs : List Label) → IsAmong l (filter test xs) → IsAmong l xs
  filter_had [] among = among
  filter_had (x ∷ xs) among = by (test x) among (filter_had xs)
    where
      by : (b : Bool) → IsAmong l (cond b (x ∷ filter test xs) (filter test xs)) → (IsAmong l (filter test xs) → IsAmong l xs) → IsAmong l (x ∷ xs)
      by true (inl same) rest = inl same
      by true (inr later) rest = inr (rest later)
      by false later rest = inr (rest later)

-- labels with the same outputs and the same inputs are the same
pub both_ways : (xs ys : List Label) (l : Label) → (IsAmong l (filter is_output xs) → IsAmong l (filter is_output ys))
    → (IsAmong l (filter (λ m. not (is_output m)) xs) → IsAmong l (filter (λ m. not (is_output m)) ys)) → IsAmong l xs → IsAmong l ys
both_ways xs ys l out into among = by (is_output l) refl
  where
    by : (b : Bool) → is_output l ≡ b → IsAmong l ys
    by true is = filter_had is_output l ys (out (filter_has is_output l xs is among))
    by false is = filter_had (λ m. not (is_output m)) l ys (into (filter_has (λ m. not (is_output m)) l xs (ap not is) among))

-- the label is that of a pulse that happens
pub record IsTold (ports : List NetPort) (events : List Event) (pulses : List Pulse) (l : Label) : Type 0 where
  pub place : ℕ
  pub event : Event
  pub pulse : Pulse
  pub at : slice_get events place ≡ Some event
  pub its : slice_get pulses place ≡ Some pulse
  pub on : pulse.on ≡ true
  pub is : l ≡ label_of ports event pulse.value

told_later : (ports : List NetPort) (events : List Event) (pulses : List Pulse) (e : Event) (p : Pulse) (l : Label) → IsTold ports events pulses l → IsTold ports (e ∷ events) (p ∷ pulses) l
told_later ports events pulses e p l told =
    record { place = suc told.place; event = told.event; pulse = told.pulse; at = told.at; its = told.its; on = told.on; is = told.is }

-- each label of events is one that a pulse tells of
pub told : (ports : List NetPort) (events : List Event) (pulses : List Pulse) (l : Label) → IsAmong l (labels_of ports events pulses) → IsTold ports events pulses l
told ports [] pulses l among = absurd among
told ports (e ∷ events) [] l among = absurd among
told ports (e ∷ events) (p ∷ pulses) l among = by p.on refl among (told ports events pulses l)
  where
    by : (b : Bool) → p.on ≡ b → IsAmong l (cond b (label_of ports e p.value ∷ []) [] ++ labels_of ports events pulses)
        → (IsAmong l (labels_of ports events pulses) → IsTold ports events pulses l) → IsTold ports (e ∷ events) (p ∷ pulses) l
    by true on (inl same) rest = record { place = 0; event = e; pulse = p; at = refl; its = refl; on = on; is = same }
    by true on (inr later) rest = told_later ports events pulses e p l (rest later)
    by false on later rest = told_later ports events pulses e p l (rest later)

-- and each pulse that happens has its label among them
pub tells : (ports : List NetPort) (events : List Event) (pulses : List Pulse) (k : ℕ) (event : Event) (pulse : Pulse) → slice_get events k ≡ Some event → slice_get pulses k ≡ Some pulse → pulse.on ≡ true → IsAmong (label_of ports event pulse.value) (labels_of ports events pulses)
tells ports [] pulses k event pulse at its on = absurd (cc at)
tells ports (e ∷ events) [] k event pulse at its on = absurd (cc its)
tells ports (e ∷ events) (p ∷ pulses) zero event pulse at its on =
    let same : e ≡ event = cc in
    let this : p ≡ pulse = cc in
    subst (λ (b : Bool). IsAmong (label_of ports event pulse.value) (cond b (label_of ports e p.value ∷ []) [] ++ labels_of ports events pulses)) (sym (ap (λ (q : Pulse). q.on) this ∙ on))
    (inl (λ i. label_of ports (sym same i) (sym this i).value))
tells ports (e ∷ events) (p ∷ pulses) (suc k) event pulse at its on =
    among_back (label_of ports event pulse.value) (label_if ports e p) (labels_of ports events pulses) (tells ports events pulses k event pulse at its on)
