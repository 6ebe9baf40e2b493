-- A number that is let through with a pulse is 0 without it.
--
-- Read first: StaySilent in Law, for which each kind uses this.
use Rattle.std.proofs.Common.{◌≡◌, ℕ, zero, suc, ◌≤◌, arith}
use Rattle.std.specs.Prelude.{nat_eq, if◌then◌else◌, bit_or}

-- the number stands beside a buffer of its pulse
pub silent : (net number p a : ℕ) → p ≤ 1 → net ≡ bit_or p p → number ≡ (if nat_eq p 1 then a else 0) → net ≡ 0 → number ≡ 0
silent net number zero a small pulse shown none = shown
silent net number (suc zero) a small pulse shown none = absurd (omega (arith, pulse, none))
silent net number (suc (suc p)) a small pulse shown none = absurd (omega (arith, small))
