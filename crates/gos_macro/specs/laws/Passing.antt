-- What buffers and gated numbers show, and what registers hold.
--
-- Read first: Law. These lemmas stand here since an `impl` of `Macro` cites lemmas of `specs` alone.
use Rattle.std.proofs.Common.{◌≡◌, ℕ, zero, suc, ◌+◌, ◌≤◌, Bool, true, false, List, [], ◌∷◌, ◌++◌, refl, sym, ap, ◌∙◌, arith}
use Rattle.std.specs.Prelude.{nat_eq, if◌then◌else◌, bit_or}
use Rattle.gos_plan.specs.Firing.{Slot, Token}
use Rattle.gos_plan.specs.Tokens.{shake_of}
use Rattle.gos_macro.specs.Gates.{SameTokens, held}
use Rattle.gos_plan.specs.Firings.{due, value_due}
use Rattle.gos_plan.specs.laws.Inversion.{passes}

-- a number so many times over
abbrev pub repeated : ℕ → ℕ → ℕ
repeated zero a = 0
repeated (suc n) a = a + repeated n a

-- a buffer of a pulse shows that so many tokens are due
pub buffered : (net p m d : ℕ) → p ≤ 1 → net ≡ bit_or p p → m ≡ p → d ≡ m → (d ≤ 1) × (net ≡ d)
buffered net p m d small shown pulse counted =
    (omega (arith, small, pulse, counted), shown ∙ (passes p small ∙ (sym pulse ∙ sym counted)))

-- a value that is let through with a pulse
gated : (p a : ℕ) → p ≤ 1 → (if nat_eq p 1 then a else 0) ≡ repeated p a
gated zero a small = refl
gated (suc zero) a small = omega arith
gated (suc (suc p)) a small = absurd (omega (arith, small))

pub let_through : (net p a m d : ℕ) → p ≤ 1 → net ≡ (if nat_eq p 1 then a else 0) → m ≡ p → d ≡ repeated m a → net ≡ d
let_through net p a m d small shown pulse counted =
    shown ∙ (gated p a small ∙ (ap (λ (n : ℕ). repeated n a) (sym pulse) ∙ sym counted))

-- what comes in at a handshake with bits is its net's number
pub bears : (bits a : ℕ) → 1 ≤ bits → (if nat_eq bits 0 then 0 else a) ≡ a
bears bits a some = grind (arith, some)

-- the tokens of two lists, one behind the other
pub due_append : (j : ℕ) (ts us : List Token) → due j (ts ++ us) ≡ due j ts + due j us
due_append j [] us = omega arith
due_append j (t ∷ ts) us = by_test (nat_eq (shake_of t.slot) j) (due_append j ts us)
  where
    by_test : (b : Bool) → due j (ts ++ us) ≡ due j ts + due j us
        → (if b then suc (due j (ts ++ us)) else due j (ts ++ us)) ≡ (if b then suc (due j ts) else due j ts) + due j us
    by_test true ih = omega (arith, ih)
    by_test false ih = ih

pub value_append : (j : ℕ) (ts us : List Token) → value_due j (ts ++ us) ≡ value_due j ts + value_due j us
value_append j [] us = omega arith
value_append j (t ∷ ts) us = by_test (nat_eq (shake_of t.slot) j) (value_append j ts us)
  where
    by_test : (b : Bool) → value_due j (ts ++ us) ≡ value_due j ts + value_due j us
        → (if b then t.value + value_due j (ts ++ us) else value_due j (ts ++ us)) ≡ (if b then t.value + value_due j ts else value_due j ts) + value_due j us
    by_test true ih = omega (arith, ih)
    by_test false ih = ih

-- what a register holds is due at its handshake alone, and has no value
pub due_held : (j : ℕ) (s : Slot) (m : ℕ) → m ≤ 1 → due j (held s m) ≡ (if nat_eq (shake_of s) j then m else 0)
due_held j s zero small = by_test (nat_eq (shake_of s) j) 0
  where
    by_test : (b : Bool) (n : ℕ) → n ≡ (if b then n else n)
    by_test true n = refl
    by_test false n = refl
due_held j s (suc zero) small = refl
due_held j s (suc (suc m)) small = absurd (omega (arith, small))

pub no_value_held : (j : ℕ) (s : Slot) (m : ℕ) → m ≤ 1 → value_due j (held s m) ≡ 0
no_value_held j s zero small = refl
no_value_held j s (suc zero) small = by_test (nat_eq (shake_of s) j) 0 refl
  where
    by_test : (b : Bool) (n : ℕ) → n ≡ 0 → (if b then n + n else n) ≡ 0
    by_test true n none = omega (arith, none)
    by_test false n none = none
no_value_held j s (suc (suc m)) small = absurd (omega (arith, small))

-- the same with tokens behind it
pub due_behind : (j : ℕ) (s : Slot) (m : ℕ) (ts : List Token) → m ≤ 1 → due j (held s m ++ ts) ≡ (if nat_eq (shake_of s) j then m else 0) + due j ts
due_behind j s m ts small = due_append j (held s m) ts ∙ ap (λ (n : ℕ). n + due j ts) (due_held j s m small)

pub same_tokens : (ts us : List Token) → ts ≡ us → SameTokens ts us
same_tokens ts us same = λ j. (ap (due j) same, ap (value_due j) same)
