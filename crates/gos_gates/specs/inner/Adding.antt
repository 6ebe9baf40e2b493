-- Adding by bits, the least bit first.
use Rattle.std.specs.Prelude.{◌≡◌, ℕ, ◌+◌, ◌*◌, ◌^◌, Bool, true, false, not, ◌&&◌, List, [], ◌∷◌, length}

abbrev pub one_bit : Bool → ℕ
one_bit true = 1
one_bit false = 0

abbrev pub number_of_bits : List Bool → ℕ
number_of_bits [] = 0
number_of_bits (b ∷ ys) = one_bit b + 2 * number_of_bits ys

abbrev pub differ : Bool → Bool → Bool
differ a b = not (a && b) && not (not a && not b)

abbrev pub carried : Bool → Bool → Bool → Bool
carried a b c = not (not (a && b) && not (differ a b && c))

abbrev pub sum_bits : Bool → List Bool → List Bool → List Bool
sum_bits c [] ys = []
sum_bits c (a ∷ xs) [] = []
sum_bits c (a ∷ xs) (b ∷ ys) = differ (differ a b) c ∷ sum_bits (carried a b c) xs ys

abbrev pub carry_out : Bool → List Bool → List Bool → Bool
carry_out c [] ys = c
carry_out c (a ∷ xs) [] = c
carry_out c (a ∷ xs) (b ∷ ys) = carry_out (carried a b c) xs ys

abbrev pub Adds : Type 0
Adds = (c : Bool) (xs ys : List Bool) → length xs ≡ length ys
    → number_of_bits xs + number_of_bits ys + one_bit c ≡ number_of_bits (sum_bits c xs ys) + 2 ^ length xs * one_bit (carry_out c xs ys)
