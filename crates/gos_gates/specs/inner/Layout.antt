-- How a bit of a cell is laid as gates, and the bits of a cell one after another.
--
-- Read first: Gates. Every layout is told its first gate's variable, so that gates can name earlier ones of theirs.
use Rattle.std.specs.Prelude.{ℕ, ◌+◌, ◌*◌, Bool, not, ◌&&◌, List, [], ◌∷◌, ◌++◌}
use Rattle.gos_gates.specs.Lowered.{complement, gate_of}
use Rattle.gos_gates.specs.inner.Adding.{differ, carried}
use Rattle.gos_gates.specs.declared.kinds.Kind.{Kind}
use Rattle.gos_gates.specs.declared.kinds.Kind.TheVariants.{And, Or, Gate, Xor, Mux, Add, Sub, Eq, Less}

-- a variable's literal, and its complement
abbrev pub plain : ℕ → ℕ
plain v = 2 * v

abbrev pub turned : ℕ → ℕ
turned v = 2 * v + 1

-- two gates, and one over their complements: it is 1 where neither of the two is
abbrev pub neither_gates : ℕ → ℕ → ℕ → ℕ → ℕ → List (ℕ × ℕ)
neither_gates v p q r s = gate_of p q ∷ gate_of r s ∷ gate_of (turned v) (turned (v + 1)) ∷ []

-- three gates, of which the last one tells whether two literals differ
abbrev pub differ_gates : ℕ → ℕ → ℕ → List (ℕ × ℕ)
differ_gates v a b = neither_gates v a b (complement a) (complement b)

-- a full adder
abbrev pub add_gates : ℕ → ℕ → ℕ → ℕ → List (ℕ × ℕ)
add_gates v c a b = differ_gates v a b ++ (differ_gates (v + 3) (plain (v + 2)) c ++ gate_of (turned v) (turned (v + 3)) ∷ [])

-- whether so far the first number is less
abbrev pub less_gates : ℕ → ℕ → ℕ → ℕ → List (ℕ × ℕ)
less_gates v c a b =
    gate_of (complement a) b ∷ gate_of a (complement b) ∷ gate_of (turned (v + 1)) c ∷ gate_of (turned v) (turned (v + 2)) ∷ []

-- the gates of a bit, from what the bits before it hand on and the literals of its pins
abbrev pub bit_gates : Kind → ℕ → ℕ → ℕ → ℕ → List (ℕ × ℕ)
bit_gates And v c a b = gate_of a b ∷ []
bit_gates Or v c a b = gate_of (complement a) (complement b) ∷ []
bit_gates Gate v c a b = gate_of c a ∷ []
bit_gates Xor v c a b = differ_gates v a b
bit_gates Mux v c a b = neither_gates v c a (complement c) b
bit_gates Add v c a b = add_gates v c a b
bit_gates Sub v c a b = add_gates v c a (complement b)
bit_gates Eq v c a b = differ_gates v a b ++ gate_of c (turned (v + 2)) ∷ []
bit_gates Less v c a b = less_gates v c a b

-- how many they are
abbrev pub bit_cost : Kind → ℕ
bit_cost And = 1
bit_cost Or = 1
bit_cost Gate = 1
bit_cost Xor = 3
bit_cost Mux = 3
bit_cost Add = 7
bit_cost Sub = 7
bit_cost Eq = 4
bit_cost Less = 4

-- the literal of the bit; that of a comparison tells of the bits so far
abbrev pub bit_literal : Kind → ℕ → ℕ
bit_literal And v = plain v
bit_literal Or v = turned v
bit_literal Gate v = plain v
bit_literal Xor v = plain (v + 2)
bit_literal Mux v = turned (v + 2)
bit_literal Add v = plain (v + 5)
bit_literal Sub v = plain (v + 5)
bit_literal Eq v = plain (v + 3)
bit_literal Less v = turned (v + 3)

-- the literal that is handed on to the next bit
abbrev pub bit_carry : Kind → ℕ → ℕ → ℕ
bit_carry Add v c = turned (v + 6)
bit_carry Sub v c = turned (v + 6)
bit_carry Eq v c = plain (v + 3)
bit_carry Less v c = turned (v + 3)
bit_carry k v c = c

-- what the bit shows
abbrev pub bit_value : Kind → Bool → Bool → Bool → Bool
bit_value And c a b = a && b
bit_value Or c a b = not (not a && not b)
bit_value Gate c a b = c && a
bit_value Xor c a b = differ a b
bit_value Mux c a b = not (not (c && a) && not (not c && b))
bit_value Add c a b = differ (differ a b) c
bit_value Sub c a b = differ (differ a (not b)) c
bit_value Eq c a b = c && not (differ a b)
bit_value Less c a b = not (not (not a && b) && not (not (a && not b) && c))

-- and what is handed on
abbrev pub carry_value : Kind → Bool → Bool → Bool → Bool
carry_value Add c a b = carried a b c
carry_value Sub c a b = carried a (not b) c
carry_value Eq c a b = c && not (differ a b)
carry_value Less c a b = not (not (not a && b) && not (not (a && not b) && c))
carry_value k c a b = c

-- the gates of a cell, bit by bit
abbrev pub chain_gates : Kind → ℕ → ℕ → List ℕ → List ℕ → List (ℕ × ℕ)
chain_gates k v c [] bs = []
chain_gates k v c (a ∷ ls) [] = []
chain_gates k v c (a ∷ ls) (b ∷ bs) = bit_gates k v c a b ++ chain_gates k (v + bit_cost k) (bit_carry k v c) ls bs

-- the literals of its bits
abbrev pub chain_literals : Kind → ℕ → List ℕ → List ℕ → List ℕ
chain_literals k v [] bs = []
chain_literals k v (a ∷ ls) [] = []
chain_literals k v (a ∷ ls) (b ∷ bs) = bit_literal k v ∷ chain_literals k (v + bit_cost k) ls bs

-- the literal that is handed on at its end
abbrev pub chain_carry : Kind → ℕ → ℕ → List ℕ → List ℕ → ℕ
chain_carry k v c [] bs = c
chain_carry k v c (a ∷ ls) [] = c
chain_carry k v c (a ∷ ls) (b ∷ bs) = chain_carry k (v + bit_cost k) (bit_carry k v c) ls bs

-- what the bits show
abbrev pub chain_values : Kind → Bool → List Bool → List Bool → List Bool
chain_values k c [] ys = []
chain_values k c (x ∷ xs) [] = []
chain_values k c (x ∷ xs) (y ∷ ys) = bit_value k c x y ∷ chain_values k (carry_value k c x y) xs ys

abbrev pub chain_end : Kind → Bool → List Bool → List Bool → Bool
chain_end k c [] ys = c
chain_end k c (x ∷ xs) [] = c
chain_end k c (x ∷ xs) (y ∷ ys) = chain_end k (carry_value k c x y) xs ys
