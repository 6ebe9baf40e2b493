-- The wires of a part hold the nets that come in.
use Rattle.std.specs.Prelude.{Some}
use Rattle.std.proofs.Common.{◌≡◌, ℕ, zero, suc, List, [], ◌∷◌, length, map, refl, ap, arith, slice_get}
use Rattle.gos_macro.specs.declared.gates.Wire.{Wire}
use Rattle.gos_plan.specs.Kinds.{Part, Contact, part_contacts}
use Rattle.gos_macro.specs.Wires.{nets_in, pulse_if, value_if, incoming_of}
use Rattle.gos_plan.specs.Plans.{PartEnd, Plan, contact_at}
use Rattle.gos_expand.specs.Starts.{Laying}
use Rattle.gos_expand.specs.Laid.{arrives, known, incoming}

pulse_same : (ws : List Wire) (cs : List Contact) (f : ℕ → ℕ) → length ws ≡ length cs → ((h : ℕ) (w : Wire) → slice_get ws h ≡ Some w → w.in_pulse.0 ≡ f h)
    → (h : ℕ) → pulse_if (slice_get ws h) ≡ known (slice_get cs h) (f h)
pulse_same [] [] f same each h = refl
pulse_same [] (c ∷ cs) f same each h = absurd (grind (arith, same))
pulse_same (w ∷ ws) [] f same each h = absurd (grind (arith, same))
pulse_same (w ∷ ws) (c ∷ cs) f same each zero = each 0 w refl
pulse_same (w ∷ ws) (c ∷ cs) f same each (suc h) = pulse_same ws cs (λ g. f (suc g)) (grind (arith, same)) (λ g v there. each (suc g) v there) h

value_same : (ws : List Wire) (cs : List Contact) (f : ℕ → ℕ) → length ws ≡ length cs → ((h : ℕ) (w : Wire) → slice_get ws h ≡ Some w → w.in_value.0 ≡ f h)
    → (h : ℕ) → value_if (slice_get ws h) ≡ known (slice_get cs h) (f h)
value_same [] [] f same each h = refl
value_same [] (c ∷ cs) f same each h = absurd (grind (arith, same))
value_same (w ∷ ws) [] f same each h = absurd (grind (arith, same))
value_same (w ∷ ws) (c ∷ cs) f same each zero = each 0 w refl
value_same (w ∷ ws) (c ∷ cs) f same each (suc h) = value_same ws cs (λ g. f (suc g)) (grind (arith, same)) (λ g v there. each (suc g) v there) h

-- so they are what comes in at the part
pub wires_hold : (lay : Laying) (p : Plan) (i : ℕ) (k : Part) (ws : List Wire) → slice_get p.parts i ≡ Some k → length ws ≡ length (part_contacts k)
    → ((h : ℕ) (w : Wire) → slice_get ws h ≡ Some w → (w.in_pulse.0 ≡ (arrives lay p (PartEnd i h)).pulse) × (w.in_value.0 ≡ (arrives lay p (PartEnd i h)).number))
    → incoming_of ws ≡ incoming lay p i
wires_hold lay p i k ws there same each =
    let pulses : (h : ℕ) → pulse_if (slice_get ws h) ≡ known (contact_at p (PartEnd i h)) (arrives lay p (PartEnd i h)).pulse = λ h.
    rw there (pulse_same ws (part_contacts k) (λ g. (arrives lay p (PartEnd i g)).pulse) same (λ g w at. (each g w at).0) h) in
    let values : (h : ℕ) → value_if (slice_get ws h) ≡ known (contact_at p (PartEnd i h)) (arrives lay p (PartEnd i h)).number = λ h.
    rw there (value_same ws (part_contacts k) (λ g. (arrives lay p (PartEnd i g)).number) same (λ g w at. (each g w at).1) h) in
    λ j. record { pulse = λ h. pulses h j; value = λ h. values h j }

-- only the nets that come in matter
pub same_nets : (ws vs : List Wire) → map nets_in ws ≡ map nets_in vs → incoming_of ws ≡ incoming_of vs
same_nets ws vs same =
    λ j. record { pulse = λ h. pulses ws vs same h j; value = λ h. values ws vs same h j }
  where
    pulses : (ws vs : List Wire) → map nets_in ws ≡ map nets_in vs → (h : ℕ) → pulse_if (slice_get ws h) ≡ pulse_if (slice_get vs h)
    pulses [] [] same h = refl
    pulses [] (v ∷ vs) same h = absurd (cc same)
    pulses (w ∷ ws) [] same h = absurd (cc same)
    pulses (w ∷ ws) (v ∷ vs) same zero = let pair : nets_in w ≡ nets_in v = cc same in ap (λ (q : ℕ × ℕ). q.0) pair
    pulses (w ∷ ws) (v ∷ vs) same (suc h) = let rest : map nets_in ws ≡ map nets_in vs = cc same in pulses ws vs rest h

    values : (ws vs : List Wire) → map nets_in ws ≡ map nets_in vs → (h : ℕ) → value_if (slice_get ws h) ≡ value_if (slice_get vs h)
    values [] [] same h = refl
    values [] (v ∷ vs) same h = absurd (cc same)
    values (w ∷ ws) [] same h = absurd (cc same)
    values (w ∷ ws) (v ∷ vs) same zero = let pair : nets_in w ≡ nets_in v = cc same in ap (λ (q : ℕ × ℕ). q.1) pair
    values (w ∷ ws) (v ∷ vs) same (suc h) = let rest : map nets_in ws ≡ map nets_in vs = cc same in values ws vs rest h
