-- Sources: inputs and registers.
use Rattle.std.specs.Prelude.{◌≡◌, ℕ, IsTrue, IsFalse, ◌⊎◌, []}
use Rattle.std.proofs.Common.{refl, ap, inl, inr}
use Rattle.gos_netlist.specs.Nets.{Function, Input, Const, Not, And, Or, Xor, Mux, Add, Sub, Eq, Less, Gate, Reg}
use Rattle.gos_netlist.specs.Settling.{Numbers, shown, next_of}
use Rattle.gos_netlist.specs.Cycles.{IsRegister}
use Rattle.gos_sim.specs.inner.Program.{is_source, latches_at}

-- a source is an input or a register
pub input_or_register : (f : Function) → IsTrue (is_source f) → (f ≡ Input) ⊎ IsRegister f
input_or_register Input h = inl refl
input_or_register (Const k) h = absurd (cc)
input_or_register (Not a) h = absurd (cc)
input_or_register (And a b) h = absurd (cc)
input_or_register (Or a b) h = absurd (cc)
input_or_register (Xor a b) h = absurd (cc)
input_or_register (Mux s a b) h = absurd (cc)
input_or_register (Add a b) h = absurd (cc)
input_or_register (Sub a b) h = absurd (cc)
input_or_register (Eq a b) h = absurd (cc)
input_or_register (Less a b) h = absurd (cc)
input_or_register (Gate s a) h = absurd (cc)
input_or_register (Reg a) h = inr (a, refl)

-- what another cell shows does not depend on registers and inputs
pub shown_inside : (w : ℕ) (f : Function) (r i : ℕ) (v : ℕ → ℕ) → IsFalse (is_source f) → shown w f 0 0 v ≡ shown w f r i v
shown_inside w Input r i v h = absurd (cc)
shown_inside w (Const k) r i v h = refl
shown_inside w (Not a) r i v h = refl
shown_inside w (And a b) r i v h = refl
shown_inside w (Or a b) r i v h = refl
shown_inside w (Xor a b) r i v h = refl
shown_inside w (Mux s a b) r i v h = refl
shown_inside w (Add a b) r i v h = refl
shown_inside w (Sub a b) r i v h = refl
shown_inside w (Eq a b) r i v h = refl
shown_inside w (Less a b) r i v h = refl
shown_inside w (Gate s a) r i v h = refl
shown_inside w (Reg a) r i v h = absurd (cc)

-- a register is a source
pub register_is_source : (f : Function) → IsRegister f → IsTrue (is_source f)
register_is_source f (a, e) = ap is_source e

-- a cell is a register, or it has no latch and its next register is 0
pub register_or_not : (f : Function) → IsRegister f ⊎ ((IsRegister f → ⊥) × ((v : Numbers) → next_of f v ≡ 0) × ((n : ℕ) → latches_at n f ≡ []))
register_or_not Input = inr (λ h. cc h.1, λ v. refl, λ n. refl)
register_or_not (Const k) = inr (λ h. cc h.1, λ v. refl, λ n. refl)
register_or_not (Not a) = inr (λ h. cc h.1, λ v. refl, λ n. refl)
register_or_not (And a b) = inr (λ h. cc h.1, λ v. refl, λ n. refl)
register_or_not (Or a b) = inr (λ h. cc h.1, λ v. refl, λ n. refl)
register_or_not (Xor a b) = inr (λ h. cc h.1, λ v. refl, λ n. refl)
register_or_not (Mux s a b) = inr (λ h. cc h.1, λ v. refl, λ n. refl)
register_or_not (Add a b) = inr (λ h. cc h.1, λ v. refl, λ n. refl)
register_or_not (Sub a b) = inr (λ h. cc h.1, λ v. refl, λ n. refl)
register_or_not (Eq a b) = inr (λ h. cc h.1, λ v. refl, λ n. refl)
register_or_not (Less a b) = inr (λ h. cc h.1, λ v. refl, λ n. refl)
register_or_not (Gate s a) = inr (λ h. cc h.1, λ v. refl, λ n. refl)
register_or_not (Reg a) = inl (a, refl)
