-- What the bits of a cell are as a number, kind by kind.
use Rattle.std.specs.Prelude.{◌≡◌, ℕ, zero, suc, ◌+◌, ◌-◌, ◌*◌, ◌^◌, ◌/◌, ◌%◌, ◌<◌, Bool, true, false, not, ◌&&◌, List, [], ◌∷◌, length, map, nat_eq, nat_lt, bit_and, bit_or, bit_xor, if◌then◌else◌}
use Rattle.std.proofs.Common.{arith, refl, sym, ap, subst, ◌∙◌}
use Rattle.std.proofs.Math.Nat.{pow-suc, add-mul-mod_self_left, mod-eq_of_lt}
use Rattle.std.proofs.lemmas.Nat.{and_block, or_block, xor_block}
use Rattle.std.proofs.lemmas.Bool.Decides.{nat_tests}
use Rattle.gos_gates.specs.Bits.{bits_of}
use Rattle.gos_gates.specs.inner.Adding.{one_bit, number_of_bits, differ, carried, sum_bits, carry_out}
use Rattle.gos_gates.specs.declared.kinds.Kind.{Kind}
use Rattle.gos_gates.specs.declared.kinds.Kind.TheVariants.{And, Or, Gate, Xor, Mux, Add, Sub, Eq, Less}
use Rattle.gos_gates.specs.inner.Layout.{carry_value, chain_values, chain_end}
use Rattle.gos_gates.proofs.AddLemmas.{adds}

bit_low : (b : Bool) → one_bit b < 2 ^ 1
bit_low true = omega arith
bit_low false = omega arith

-- the bits of a number are as many as it has room for
pub number_low : (xs : List Bool) → number_of_bits xs < 2 ^ length xs
number_low [] = omega arith
number_low (x ∷ xs) =
    let e : 2 ^ suc (length xs) ≡ 2 ^ length xs * 2 = pow-suc 2 (length xs) in
    omega (arith, e, number_low xs, bit_low x)

pub chain_length : (k : Kind) (c : Bool) (xs ys : List Bool) → length xs ≡ length ys → length (chain_values k c xs ys) ≡ length xs
chain_length k c [] ys e = refl
chain_length k c (x ∷ xs) [] e = absurd (omega (arith, e))
chain_length k c (x ∷ xs) (y ∷ ys) e = ap suc (chain_length k (carry_value k c x y) xs ys (omega (arith, e)))

-- a number by its last bit
split : (x : Bool) (xs : List Bool) → number_of_bits (x ∷ xs) ≡ number_of_bits xs * 2 ^ 1 + one_bit x
split x xs = omega arith

and_bit : (a b : Bool) → bit_and (one_bit a) (one_bit b) ≡ one_bit (a && b)
and_bit true true = refl
and_bit true false = refl
and_bit false true = refl
and_bit false false = refl

or_bit : (a b : Bool) → bit_or (one_bit a) (one_bit b) ≡ one_bit (not (not a && not b))
or_bit true true = refl
or_bit true false = refl
or_bit false true = refl
or_bit false false = refl

xor_bit : (a b : Bool) → bit_xor (one_bit a) (one_bit b) ≡ one_bit (differ a b)
xor_bit true true = refl
xor_bit true false = refl
xor_bit false true = refl
xor_bit false false = refl

pub and_number : (c : Bool) (xs ys : List Bool) → length xs ≡ length ys → number_of_bits (chain_values And c xs ys) ≡ bit_and (number_of_bits xs) (number_of_bits ys)
and_number c [] [] e = refl
and_number c [] (y ∷ ys) e = absurd (omega (arith, e))
and_number c (x ∷ xs) [] e = absurd (omega (arith, e))
and_number c (x ∷ xs) (y ∷ ys) e =
    let rest : number_of_bits (chain_values And c xs ys) ≡ bit_and (number_of_bits xs) (number_of_bits ys) = and_number c xs ys (omega (arith, e)) in
    let block : bit_and (number_of_bits xs * 2 ^ 1 + one_bit x) (number_of_bits ys * 2 ^ 1 + one_bit y) ≡ bit_and (number_of_bits xs) (number_of_bits ys) * 2 ^ 1 + bit_and (one_bit x) (one_bit y) =
    and_block 1 (number_of_bits xs) (number_of_bits ys) (one_bit x) (one_bit y) (bit_low x) (bit_low y) in
    rw (split x xs, split y ys, block) (omega (arith, rest, and_bit x y))

pub or_number : (c : Bool) (xs ys : List Bool) → length xs ≡ length ys → number_of_bits (chain_values Or c xs ys) ≡ bit_or (number_of_bits xs) (number_of_bits ys)
or_number c [] [] e = refl
or_number c [] (y ∷ ys) e = absurd (omega (arith, e))
or_number c (x ∷ xs) [] e = absurd (omega (arith, e))
or_number c (x ∷ xs) (y ∷ ys) e =
    let rest : number_of_bits (chain_values Or c xs ys) ≡ bit_or (number_of_bits xs) (number_of_bits ys) = or_number c xs ys (omega (arith, e)) in
    let block : bit_or (number_of_bits xs * 2 ^ 1 + one_bit x) (number_of_bits ys * 2 ^ 1 + one_bit y) ≡ bit_or (number_of_bits xs) (number_of_bits ys) * 2 ^ 1 + bit_or (one_bit x) (one_bit y) =
    or_block 1 (number_of_bits xs) (number_of_bits ys) (one_bit x) (one_bit y) (bit_low x) (bit_low y) in
    rw (split x xs, split y ys, block) (omega (arith, rest, or_bit x y))

pub xor_number : (c : Bool) (xs ys : List Bool) → length xs ≡ length ys → number_of_bits (chain_values Xor c xs ys) ≡ bit_xor (number_of_bits xs) (number_of_bits ys)
xor_number c [] [] e = refl
xor_number c [] (y ∷ ys) e = absurd (omega (arith, e))
xor_number c (x ∷ xs) [] e = absurd (omega (arith, e))
xor_number c (x ∷ xs) (y ∷ ys) e =
    let rest : number_of_bits (chain_values Xor c xs ys) ≡ bit_xor (number_of_bits xs) (number_of_bits ys) = xor_number c xs ys (omega (arith, e)) in
    let block : bit_xor (number_of_bits xs * 2 ^ 1 + one_bit x) (number_of_bits ys * 2 ^ 1 + one_bit y) ≡ bit_xor (number_of_bits xs) (number_of_bits ys) * 2 ^ 1 + bit_xor (one_bit x) (one_bit y) =
    xor_block 1 (number_of_bits xs) (number_of_bits ys) (one_bit x) (one_bit y) (bit_low x) (bit_low y) in
    rw (split x xs, split y ys, block) (omega (arith, rest, xor_bit x y))

-- a selected word
mux_values : (c : Bool) (xs ys : List Bool) → length xs ≡ length ys → chain_values Mux c xs ys ≡ (if c then xs else ys)
mux_values true [] [] e = refl
mux_values false [] [] e = refl
mux_values c [] (y ∷ ys) e = absurd (omega (arith, e))
mux_values c (x ∷ xs) [] e = absurd (omega (arith, e))
mux_values true (true ∷ xs) (y ∷ ys) e = ap (λ (zs : List Bool). true ∷ zs) (mux_values true xs ys (omega (arith, e)))
mux_values true (false ∷ xs) (y ∷ ys) e = ap (λ (zs : List Bool). false ∷ zs) (mux_values true xs ys (omega (arith, e)))
mux_values false (x ∷ xs) (true ∷ ys) e = ap (λ (zs : List Bool). true ∷ zs) (mux_values false xs ys (omega (arith, e)))
mux_values false (x ∷ xs) (false ∷ ys) e = ap (λ (zs : List Bool). false ∷ zs) (mux_values false xs ys (omega (arith, e)))

pub mux_number : (c : Bool) (xs ys : List Bool) → length xs ≡ length ys → number_of_bits (chain_values Mux c xs ys) ≡ (if c then number_of_bits xs else number_of_bits ys)
mux_number true xs ys e = ap number_of_bits (mux_values true xs ys e)
mux_number false xs ys e = ap number_of_bits (mux_values false xs ys e)

pub gate_number : (c : Bool) (xs ys : List Bool) → length xs ≡ length ys → number_of_bits (chain_values Gate c xs ys) ≡ (if c then number_of_bits xs else 0)
gate_number true [] [] e = refl
gate_number false [] [] e = refl
gate_number c [] (y ∷ ys) e = absurd (omega (arith, e))
gate_number c (x ∷ xs) [] e = absurd (omega (arith, e))
gate_number true (x ∷ xs) (y ∷ ys) e = let rest : number_of_bits (chain_values Gate true xs ys) ≡ number_of_bits xs = gate_number true xs ys (omega (arith, e)) in omega (arith, rest)
gate_number false (x ∷ xs) (y ∷ ys) e = let rest : number_of_bits (chain_values Gate false xs ys) ≡ 0 = gate_number false xs ys (omega (arith, e)) in omega (arith, rest)

-- all bits turned
pub not_number : (xs : List Bool) → number_of_bits (map not xs) + number_of_bits xs + 1 ≡ 2 ^ length xs
not_number [] = refl
not_number (true ∷ xs) = let e : 2 ^ suc (length xs) ≡ 2 ^ length xs * 2 = pow-suc 2 (length xs) in omega (arith, e, not_number xs)
not_number (false ∷ xs) = let e : 2 ^ suc (length xs) ≡ 2 ^ length xs * 2 = pow-suc 2 (length xs) in omega (arith, e, not_number xs)

add_values : (c : Bool) (xs ys : List Bool) → chain_values Add c xs ys ≡ sum_bits c xs ys
add_values c [] ys = refl
add_values c (x ∷ xs) [] = refl
add_values c (x ∷ xs) (y ∷ ys) = ap (λ (zs : List Bool). differ (differ x y) c ∷ zs) (add_values (carried x y c) xs ys)

sub_values : (c : Bool) (xs ys : List Bool) → chain_values Sub c xs ys ≡ sum_bits c xs (map not ys)
sub_values c [] ys = refl
sub_values c (x ∷ xs) [] = refl
sub_values c (x ∷ xs) (y ∷ ys) = ap (λ (zs : List Bool). differ (differ x (not y)) c ∷ zs) (sub_values (carried x (not y) c) xs ys)

-- what is left of a sum without its carry
rest_of : (m s t : ℕ) (b : Bool) → t ≡ s + m * one_bit b → s < m → t % m ≡ s
rest_of m s t true e low =
    let whole : t ≡ s + m * 1 = e in
    ap (λ n. n % m) whole ∙ (add-mul-mod_self_left s m 1 ∙ mod-eq_of_lt low)
rest_of m s t false e low = let same : t ≡ s = omega (arith, e) in ap (λ n. n % m) same ∙ mod-eq_of_lt low

pub add_number : (xs ys : List Bool) → length xs ≡ length ys → number_of_bits (chain_values Add false xs ys) ≡ (number_of_bits xs + number_of_bits ys) % 2 ^ length xs
add_number xs ys e =
    let sums : List Bool = sum_bits false xs ys in
    let same : chain_values Add false xs ys ≡ sums = add_values false xs ys in
    let long : length sums ≡ length xs = sym (ap length same) ∙ chain_length Add false xs ys e in
    let low : number_of_bits sums < 2 ^ length xs = let P : ℕ → Type 0 = λ n. number_of_bits sums < 2 ^ n in subst P long (number_low sums) in
    let whole = adds false xs ys e in
    ap number_of_bits same ∙ sym (rest_of (2 ^ length xs) (number_of_bits sums) (number_of_bits xs + number_of_bits ys) (carry_out false xs ys) (omega (arith, whole)) low)

not_length : (xs : List Bool) → length (map not xs) ≡ length xs
not_length [] = refl
not_length (x ∷ xs) = ap suc (not_length xs)

pub sub_number : (xs ys : List Bool) → length xs ≡ length ys → number_of_bits (chain_values Sub true xs ys) ≡ (number_of_bits xs + 2 ^ length xs - number_of_bits ys) % 2 ^ length xs
sub_number xs ys e =
    let others : List Bool = map not ys in
    let sums : List Bool = sum_bits true xs others in
    let same : chain_values Sub true xs ys ≡ sums = sub_values true xs ys in
    let long : length sums ≡ length xs = sym (ap length same) ∙ chain_length Sub true xs ys e in
    let low : number_of_bits sums < 2 ^ length xs = let P : ℕ → Type 0 = λ n. number_of_bits sums < 2 ^ n in subst P long (number_low sums) in
    let fits : length xs ≡ length others = e ∙ sym (not_length ys) in
    let whole = adds true xs others fits in
    let turned : number_of_bits others + number_of_bits ys + 1 ≡ 2 ^ length xs = let P : ℕ → Type 0 = λ n. number_of_bits others + number_of_bits ys + 1 ≡ 2 ^ n in subst P (sym e) (not_number ys) in
    ap number_of_bits same
    ∙ sym (rest_of (2 ^ length xs) (number_of_bits sums) (number_of_bits xs + 2 ^ length xs - number_of_bits ys) (carry_out true xs others) (omega (arith, whole, turned)) low)

-- comparisons
eq_bit : (x y : Bool) (m n : ℕ) → not (differ x y) && nat_eq m n ≡ nat_eq (one_bit x + 2 * m) (one_bit y + 2 * n)
eq_bit true true m n = grind (arith, nat_tests)
eq_bit true false m n = grind (arith, nat_tests)
eq_bit false true m n = grind (arith, nat_tests)
eq_bit false false m n = grind (arith, nat_tests)

pub eq_end : (c : Bool) (xs ys : List Bool) → length xs ≡ length ys → chain_end Eq c xs ys ≡ c && nat_eq (number_of_bits xs) (number_of_bits ys)
eq_end true [] [] e = refl
eq_end false [] [] e = refl
eq_end c [] (y ∷ ys) e = absurd (omega (arith, e))
eq_end c (x ∷ xs) [] e = absurd (omega (arith, e))
eq_end true (x ∷ xs) (y ∷ ys) e = eq_end (not (differ x y)) xs ys (omega (arith, e)) ∙ eq_bit x y (number_of_bits xs) (number_of_bits ys)
eq_end false (x ∷ xs) (y ∷ ys) e = eq_end false xs ys (omega (arith, e))

less_bit : (c x y : Bool) (m n : ℕ) → nat_lt m (n + one_bit (carry_value Less c x y)) ≡ nat_lt (one_bit x + 2 * m) (one_bit y + 2 * n + one_bit c)
less_bit true true true m n = grind (arith, nat_tests)
less_bit true true false m n = grind (arith, nat_tests)
less_bit true false true m n = grind (arith, nat_tests)
less_bit true false false m n = grind (arith, nat_tests)
less_bit false true true m n = grind (arith, nat_tests)
less_bit false true false m n = grind (arith, nat_tests)
less_bit false false true m n = grind (arith, nat_tests)
less_bit false false false m n = grind (arith, nat_tests)

pub less_end : (c : Bool) (xs ys : List Bool) → length xs ≡ length ys → chain_end Less c xs ys ≡ nat_lt (number_of_bits xs) (number_of_bits ys + one_bit c)
less_end true [] [] e = refl
less_end false [] [] e = refl
less_end c [] (y ∷ ys) e = absurd (omega (arith, e))
less_end c (x ∷ xs) [] e = absurd (omega (arith, e))
less_end c (x ∷ xs) (y ∷ ys) e = less_end (carry_value Less c x y) xs ys (omega (arith, e)) ∙ less_bit c x y (number_of_bits xs) (number_of_bits ys)

-- the bits of a number, and the number of bits
pub one_bit_test : (b : Bool) → nat_eq (one_bit b) 1 ≡ b
one_bit_test true = refl
one_bit_test false = refl

pub bits_of_number : (xs : List Bool) → bits_of (length xs) (number_of_bits xs) ≡ xs
bits_of_number [] = refl
bits_of_number (x ∷ xs) =
    let low : number_of_bits (x ∷ xs) % 2 ≡ one_bit x = omega (arith, bit_low x) in
    let high : number_of_bits (x ∷ xs) / 2 ≡ number_of_bits xs = omega (arith, bit_low x) in
    let first : nat_eq (number_of_bits (x ∷ xs) % 2) 1 ≡ x = ap (λ n. nat_eq n 1) low ∙ one_bit_test x in
    let rest : bits_of (length xs) (number_of_bits (x ∷ xs) / 2) ≡ xs = ap (bits_of (length xs)) high ∙ bits_of_number xs in
    (λ i. first i ∷ rest i)

pub test_bit : (n : ℕ) → n < 2 → one_bit (nat_eq n 1) ≡ n
test_bit zero low = refl
test_bit (suc zero) low = refl
test_bit (suc (suc n)) low = absurd (omega (arith, low))

pub number_of_bits_of : (w n : ℕ) → n < 2 ^ w → number_of_bits (bits_of w n) ≡ n
number_of_bits_of zero n low = omega (arith, low)
number_of_bits_of (suc w) n low =
    let e : 2 ^ suc w ≡ 2 ^ w * 2 = pow-suc 2 w in
    let half : n / 2 < 2 ^ w = omega (arith, low, e) in
    let first : one_bit (nat_eq (n % 2) 1) ≡ n % 2 = test_bit (n % 2) (omega arith) in
    omega (arith, first, number_of_bits_of w (n / 2) half)

pub length_bits_of : (w n : ℕ) → length (bits_of w n) ≡ w
length_bits_of zero n = refl
length_bits_of (suc w) n = ap suc (length_bits_of w (n / 2))
