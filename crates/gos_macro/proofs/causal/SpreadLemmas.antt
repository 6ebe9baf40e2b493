-- Wires that are all different: those of each handshake stand one behind another from some net on.
use Rattle.std.proofs.Common.{◌≡◌, inl, inr, ◌⊎◌, ℕ, ◌+◌, ◌-◌, ◌<◌, ◌≤◌, true, false, List, length, refl, ◌∙◌, ap, arith, if◌then◌else◌}
use Rattle.std.specs.Prelude.{nat_lt}
use Rattle.gos_plan.specs.Kinds.{Contact}
use Rattle.gos_macro.specs.Gates.{Incoming}
use Rattle.gos_macro.specs.Paths.{IsIn, AreApart, Renames}

-- from net d on l pulses, and behind them l values
abbrev pub spread_wires : ℕ → ℕ → Incoming
spread_wires d l = record { pulse = λ h. d + h; value = λ h. d + l + h }

-- a function of nets, by what it is of these pulses and values, and of all others
abbrev pub spread : ℕ → ℕ → (ℕ → ℕ) → (ℕ → ℕ) → (ℕ → ℕ) → ℕ → ℕ
spread d l pulse value own n =
    if nat_lt n d then own n else (if nat_lt n (d + l) then pulse (n - d) else (if nat_lt n (d + l + l) then value (n - (d + l)) else own n))

less : (n m : ℕ) → n < m → nat_lt n m ≡ true
less n m h = grind (arith, h)

not_less : (n m : ℕ) → m ≤ n → nat_lt n m ≡ false
not_less n m h = grind (arith, h)

pub of_pulse : (d l : ℕ) (pulse value own : ℕ → ℕ) (h : ℕ) → h < l → spread d l pulse value own (d + h) ≡ pulse h
of_pulse d l pulse value own h small =
    let place : d + h - d ≡ h = omega arith in
    rw (not_less (d + h) d (omega arith)) (rw (less (d + h) (d + l) (omega (arith, small))) (ap pulse place))

pub of_value : (d l : ℕ) (pulse value own : ℕ → ℕ) (h : ℕ) → h < l → spread d l pulse value own (d + l + h) ≡ value h
of_value d l pulse value own h small =
    let place : d + l + h - (d + l) ≡ h = omega arith in
    rw (not_less (d + l + h) d (omega arith)) (rw (not_less (d + l + h) (d + l) (omega arith)) (rw (less (d + l + h) (d + l + l) (omega (arith, small))) (ap value place)))

pub of_own : (d l : ℕ) (pulse value own : ℕ → ℕ) (n : ℕ) → (n < d) ⊎ (d + l + l ≤ n) → spread d l pulse value own n ≡ own n
of_own d l pulse value own n (inl before) = rw (less n d before) refl
of_own d l pulse value own n (inr behind) =
    rw (not_less n d (omega (arith, behind))) (rw (not_less n (d + l) (omega (arith, behind))) (rw (not_less n (d + l + l) behind) refl))

-- where these wires lie, as to a region
abbrev pub Beside : ℕ → ℕ → ℕ → ℕ → Type 0
Beside d l b size = (b + size ≤ d) ⊎ (d + l + l ≤ b)

pub spread_apart : (contacts : List Contact) (d b size : ℕ) → Beside d (length contacts) b size
    → AreApart contacts b size (spread_wires d (length contacts))
spread_apart contacts d b size beside =
    record {
      shakes = shakes;
      sorts = λ h small some same. omega (arith, small, same);
      outside = outside;
    }
  where
    shakes : (h j net : ℕ) → h < length contacts → j < length contacts → IsIn contacts (spread_wires d (length contacts)) h net
        → IsIn contacts (spread_wires d (length contacts)) j net → h ≡ j
    shakes h j net small near (inl is) (inl same) = omega (arith, is, same)
    shakes h j net small near (inl is) (inr same) = omega (arith, is, same.1, small)
    shakes h j net small near (inr is) (inl same) = omega (arith, is.1, same, near)
    shakes h j net small near (inr is) (inr same) = omega (arith, is.1, same.1)

    place : (h net : ℕ) → h < length contacts → IsIn contacts (spread_wires d (length contacts)) h net → (d ≤ net) × (net < d + length contacts + length contacts)
    place h net small (inl is) = (omega (arith, is), omega (arith, is, small))
    place h net small (inr is) = (omega (arith, is.1), omega (arith, is.1, small))

    outside : (h net : ℕ) → h < length contacts → IsIn contacts (spread_wires d (length contacts)) h net → (net < b) ⊎ (b + size ≤ net)
    outside h net small is = by_side beside (place h net small is)
      where
        by_side : Beside d (length contacts) b size → (d ≤ net) × (net < d + length contacts + length contacts) → (net < b) ⊎ (b + size ≤ net)
        by_side (inl behind) within = inr (omega (arith, behind, within.0))
        by_side (inr before) within = inl (omega (arith, before, within.1))

-- the renaming that takes these wires to others, and a region to another
abbrev pub to_wires : ℕ → ℕ → ℕ → ℕ → Incoming → ℕ → ℕ
to_wires d l b e i = spread d l i.pulse i.value (λ n. n - b + e)

pub renames : (contacts : List Contact) (d b e size : ℕ) (i : Incoming) → Beside d (length contacts) b size
    → Renames contacts size (to_wires d (length contacts) b e i) b e (spread_wires d (length contacts)) i
renames contacts d b e size i beside =
    record {
      own = λ n small. of_own d (length contacts) i.pulse i.value (λ n. n - b + e) (b + n) (side n small beside) ∙ omega arith;
      pulse = λ h small. of_pulse d (length contacts) i.pulse i.value (λ n. n - b + e) h small;
      value = λ h small some. of_value d (length contacts) i.pulse i.value (λ n. n - b + e) h small;
    }
  where
    side : (n : ℕ) → n < size → Beside d (length contacts) b size → (b + n < d) ⊎ (d + length contacts + length contacts ≤ b + n)
    side n small (inl behind) = inl (omega (arith, small, behind))
    side n small (inr before) = inr (omega (arith, before))
