use Rattle.std.specs.Prelude.{◌≡◌, ℕ, suc, ◌+◌, ◌*◌, ◌^◌, Bool, true, false, [], ◌∷◌, length}
use Rattle.std.proofs.Common.{arith, refl}
use Rattle.std.proofs.Math.Nat.{pow-suc}
use Rattle.gos_gates.specs.inner.Adding.{one_bit, number_of_bits, differ, carried, sum_bits, carry_out, Adds}

-- one bit: a full adder
full : (a b c : Bool) → one_bit a + one_bit b + one_bit c ≡ one_bit (differ (differ a b) c) + 2 * one_bit (carried a b c)
full true true true = refl
full true true false = refl
full true false true = refl
full true false false = refl
full false true true = refl
full false true false = refl
full false false true = refl
full false false false = refl

twice : (n : ℕ) (x : Bool) → 2 ^ suc n * one_bit x ≡ 2 * (2 ^ n * one_bit x)
twice n true = let e : 2 ^ suc n ≡ 2 ^ n * 2 = pow-suc 2 n in omega (arith, e)
twice n false = omega arith

pub adds : Adds
adds true [] [] l = refl
adds false [] [] l = refl
adds c [] (b ∷ ys) l = absurd (omega (arith, l))
adds c (a ∷ xs) [] l = absurd (omega (arith, l))
adds c (a ∷ xs) (b ∷ ys) l =
    let rest : number_of_bits xs + number_of_bits ys + one_bit (carried a b c)
    ≡ number_of_bits (sum_bits (carried a b c) xs ys) + 2 ^ length xs * one_bit (carry_out (carried a b c) xs ys) =
    adds (carried a b c) xs ys (omega (arith, l)) in
    let here : one_bit a + one_bit b + one_bit c ≡ one_bit (differ (differ a b) c) + 2 * one_bit (carried a b c) = full a b c in
    let top : 2 ^ suc (length xs) * one_bit (carry_out (carried a b c) xs ys) ≡ 2 * (2 ^ length xs * one_bit (carry_out (carried a b c) xs ys)) =
    twice (length xs) (carry_out (carried a b c) xs ys) in
    omega (arith, rest, here, top)
