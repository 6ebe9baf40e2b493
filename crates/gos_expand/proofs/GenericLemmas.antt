-- Nets for a part that are all different and lie behind its own, and how they are renamed to those that it has.
--
-- Read first: Paths of gos_macro.
use Rattle.std.proofs.Common.{◌≡◌, ◌+◌, ◌-◌, ◌≤◌, ◌<◌, ◌⊎◌, ℕ, zero, suc, Bool, true, false, List, inl, inr, refl, ap, ◌∙◌, arith}
use Rattle.std.specs.Prelude.{nat_lt, if◌then◌else◌}
use Rattle.gos_plan.specs.Kinds.{Contact}
use Rattle.gos_macro.specs.Gates.{Incoming}
use Rattle.gos_macro.specs.Paths.{IsIn, AreApart, Renames}

-- pulses have even places, values odd ones
abbrev pub even : ℕ → ℕ
even zero = zero
even (suc h) = suc (suc (even h))

even_is : (h : ℕ) → even h ≡ h + h
even_is zero = refl
even_is (suc h) = let rest = even_is h in omega (arith, rest)

-- the net at a place among those of a part
abbrev net_at : (ℕ → ℕ) → (ℕ → ℕ) → ℕ → ℕ
net_at pulse value zero = pulse 0
net_at pulse value (suc zero) = value 0
net_at pulse value (suc (suc n)) = net_at (λ h. pulse (suc h)) (λ h. value (suc h)) n

at_even : (pulse value : ℕ → ℕ) (h : ℕ) → net_at pulse value (even h) ≡ pulse h
at_even pulse value zero = refl
at_even pulse value (suc h) = at_even (λ j. pulse (suc j)) (λ j. value (suc j)) h

at_odd : (pulse value : ℕ → ℕ) (h : ℕ) → net_at pulse value (suc (even h)) ≡ value h
at_odd pulse value zero = refl
at_odd pulse value (suc h) = at_odd (λ j. pulse (suc j)) (λ j. value (suc j)) h

-- the nets from m on, and the renaming of them to others that leaves all below m
abbrev pub generic : ℕ → Incoming
generic m = record { pulse = λ h. m + even h; value = λ h. m + suc (even h) }

abbrev pub named_for : ℕ → Incoming → ℕ → ℕ
named_for m i n = if nat_lt n m then n else net_at i.pulse i.value (n - m)

pub kept_below : (m : ℕ) (i : Incoming) (n : ℕ) → n < m → named_for m i n ≡ n
kept_below m i n low = by_test (nat_lt n m) refl
  where
    by_test : (b : Bool) → nat_lt n m ≡ b → (if b then n else net_at i.pulse i.value (n - m)) ≡ n
    by_test true is = refl
    by_test false is = absurd (grind (arith, low, is))

changed_above : (m : ℕ) (i : Incoming) (n : ℕ) → named_for m i (m + n) ≡ net_at i.pulse i.value n
changed_above m i n = by_test (nat_lt (m + n) m) refl
  where
    same : m + n - m ≡ n
    same = omega arith

    by_test : (b : Bool) → nat_lt (m + n) m ≡ b → (if b then m + n else net_at i.pulse i.value (m + n - m)) ≡ net_at i.pulse i.value n
    by_test true is = absurd (grind (arith, is))
    by_test false is = ap (net_at i.pulse i.value) same

pub to_pulse : (m : ℕ) (i : Incoming) (h : ℕ) → named_for m i ((generic m).pulse h) ≡ i.pulse h
to_pulse m i h = changed_above m i (even h) ∙ at_even i.pulse i.value h

pub to_value : (m : ℕ) (i : Incoming) (h : ℕ) → named_for m i ((generic m).value h) ≡ i.value h
to_value m i h = changed_above m i (suc (even h)) ∙ at_odd i.pulse i.value h

pub generic_renames : (cs : List Contact) (size b : ℕ) (i : Incoming) → Renames cs size (named_for (b + size) i) b b (generic (b + size)) i
generic_renames cs size b i =
    record {
      own = λ n low. kept_below (b + size) i (b + n) (omega (arith, low));
      pulse = λ h low. to_pulse (b + size) i h;
      value = λ h low some. to_value (b + size) i h;
    }

-- a generic net of a handshake
where_in : (cs : List Contact) (m h net : ℕ) → IsIn cs (generic m) h net → (net ≡ m + even h) ⊎ (net ≡ m + suc (even h))
where_in cs m h net (inl is) = inl is
where_in cs m h net (inr is) = inr is.1

pub generic_apart : (cs : List Contact) (size b : ℕ) → AreApart cs b size (generic (b + size))
generic_apart cs size b =
    record {
      shakes = λ h j net low near is other. one h j net (where_in cs (b + size) h net is) (where_in cs (b + size) j net other);
      sorts = λ h low some same. omega (arith, same);
      outside = λ h net low is. inr (above h net (where_in cs (b + size) h net is));
    }
  where
    one : (h j net : ℕ) → (net ≡ b + size + even h) ⊎ (net ≡ b + size + suc (even h))
        → (net ≡ b + size + even j) ⊎ (net ≡ b + size + suc (even j)) → h ≡ j
    one h j net (inl x) (inl y) = omega (arith, x, y, even_is h, even_is j)
    one h j net (inl x) (inr y) = omega (arith, x, y, even_is h, even_is j)
    one h j net (inr x) (inl y) = omega (arith, x, y, even_is h, even_is j)
    one h j net (inr x) (inr y) = omega (arith, x, y, even_is h, even_is j)

    above : (h net : ℕ) → (net ≡ b + size + even h) ⊎ (net ≡ b + size + suc (even h)) → b + size ≤ net
    above h net (inl x) = omega (arith, x)
    above h net (inr x) = omega (arith, x)
