-- Gates look back, where the literals that they are laid over are of variables before them; and how many they are.
use Rattle.std.specs.Prelude.{◌≡◌, ℕ, zero, suc, ◌+◌, ◌*◌, ◌<◌, ◌≤◌, ◌/◌, ◌⊎◌, Bool, true, false, not, List, [], ◌∷◌, ◌++◌, length, replicate, get_or, ◌-◌}
use Rattle.std.proofs.Common.{arith, refl, sym, ap, subst, inl, inr, ◌∙◌, length-append}
use Rattle.std.proofs.lemmas.Bool.{cases_lt}
use Rattle.gos_gates.specs.Gates.{Bits, shown_by}
use Rattle.gos_gates.specs.Lowered.{complement, gate_of}
use Rattle.gos_gates.specs.declared.kinds.Kind.{Kind}
use Rattle.gos_gates.specs.declared.kinds.Kind.TheVariants.{And, Or, Gate, Xor, Mux, Add, Sub, Eq, Less}
use Rattle.gos_gates.specs.inner.Layout.{plain, turned, neither_gates, differ_gates, add_gates, bit_gates, bit_cost, bit_carry, chain_gates, chain_literals}
use Rattle.gos_gates.specs.inner.Standing.{Holds, HoldAll, LookBackFrom}
use Rattle.gos_gates.proofs.GateLemmas.{complement_low, parity, later_plain, later_turned}
use Rattle.gos_gates.proofs.ChainLemmas.{bit_count}

-- a gate over earlier literals
gate_back : (v a b : ℕ) (gs : List (ℕ × ℕ)) → a < 2 * v → b < 2 * v → LookBackFrom (suc v) gs → LookBackFrom v (gate_of a b ∷ gs)
gate_back v a b gs la lb rest = (omega (arith, la, lb), omega arith, rest)

pub back_append : (v : ℕ) (gs hs : List (ℕ × ℕ)) → LookBackFrom v gs → LookBackFrom (v + length gs) hs → LookBackFrom v (gs ++ hs)
back_append v [] hs g h = let P : ℕ → Type 0 = λ n. LookBackFrom n hs in let e : v + 0 ≡ v = omega arith in subst P e h
back_append v (x ∷ gs) hs g h =
    let P : ℕ → Type 0 = λ n. LookBackFrom n hs in
    let e : v + suc (length gs) ≡ suc v + length gs = omega arith in
    (g.0, g.1, back_append (suc v) gs hs g.2 (subst P e h))

neither_back : (v p q r s : ℕ) (gs : List (ℕ × ℕ)) → p < 2 * v → q < 2 * v → r < 2 * v → s < 2 * v → LookBackFrom (suc (suc (suc v))) gs
    → LookBackFrom v (neither_gates v p q r s ++ gs)
neither_back v p q r s gs lp lq lr ls rest =
    gate_back v p q (gate_of r s ∷ gate_of (turned v) (turned (v + 1)) ∷ gs) lp lq
    (gate_back (suc v) r s (gate_of (turned v) (turned (v + 1)) ∷ gs) (omega (arith, lr)) (omega (arith, ls)) (gate_back (suc (suc v)) (turned v) (turned (v + 1)) gs (omega arith) (omega arith) rest))

differ_back : (v a b : ℕ) (gs : List (ℕ × ℕ)) → a < 2 * v → b < 2 * v → LookBackFrom (suc (suc (suc v))) gs → LookBackFrom v (differ_gates v a b ++ gs)
differ_back v a b gs la lb rest = neither_back v a b (complement a) (complement b) gs la lb (complement_low a v la) (complement_low b v lb) rest

add_back : (v c a b : ℕ) → c < 2 * v → a < 2 * v → b < 2 * v → LookBackFrom v (add_gates v c a b)
add_back v c a b lc la lb =
    let last : LookBackFrom (suc (suc (suc (v + 3)))) (gate_of (turned v) (turned (v + 3)) ∷ []) =
    gate_back (suc (suc (suc (v + 3)))) (turned v) (turned (v + 3)) [] (omega arith) (omega arith) tt in
    let second : LookBackFrom (v + 3) (differ_gates (v + 3) (plain (v + 2)) c ++ gate_of (turned v) (turned (v + 3)) ∷ []) =
    differ_back (v + 3) (plain (v + 2)) c (gate_of (turned v) (turned (v + 3)) ∷ []) (omega arith) (omega (arith, lc)) last in
    let P : ℕ → Type 0 = λ n. LookBackFrom n (differ_gates (v + 3) (plain (v + 2)) c ++ gate_of (turned v) (turned (v + 3)) ∷ []) in
    let e : v + 3 ≡ suc (suc (suc v)) = omega arith in
    differ_back v a b (differ_gates (v + 3) (plain (v + 2)) c ++ gate_of (turned v) (turned (v + 3)) ∷ []) la lb (subst P e second)

bit_back : (k : Kind) (v c a b : ℕ) → c < 2 * v → a < 2 * v → b < 2 * v → LookBackFrom v (bit_gates k v c a b)
bit_back And v c a b lc la lb = gate_back v a b [] la lb tt
bit_back Or v c a b lc la lb = gate_back v (complement a) (complement b) [] (complement_low a v la) (complement_low b v lb) tt
bit_back Gate v c a b lc la lb = gate_back v c a [] lc la tt
bit_back Xor v c a b lc la lb = differ_back v a b [] la lb tt
bit_back Mux v c a b lc la lb = neither_back v c a (complement c) b [] lc la (complement_low c v lc) lb tt
bit_back Add v c a b lc la lb = add_back v c a b lc la lb
bit_back Sub v c a b lc la lb = add_back v c a (complement b) lc la (complement_low b v lb)
bit_back Eq v c a b lc la lb =
    differ_back v a b (gate_of c (turned (v + 2)) ∷ []) la lb (gate_back (suc (suc (suc v))) c (turned (v + 2)) [] (omega (arith, lc)) (omega arith) tt)
bit_back Less v c a b lc la lb =
    let g4 : ℕ × ℕ = gate_of (turned v) (turned (v + 2)) in
    let g3 : ℕ × ℕ = gate_of (turned (v + 1)) c in
    gate_back v (complement a) b (gate_of a (complement b) ∷ g3 ∷ g4 ∷ []) (complement_low a v la) lb
    (gate_back (suc v) a (complement b) (g3 ∷ g4 ∷ []) (omega (arith, la)) (omega (arith, complement_low b v lb))
    (gate_back (suc (suc v)) (turned (v + 1)) c (g4 ∷ []) (omega arith) (omega (arith, lc)) (gate_back (suc (suc (suc v))) (turned v) (turned (v + 2)) [] (omega arith) (omega arith) tt)))

carry_low : (k : Kind) (v c : ℕ) → c < 2 * v → bit_carry k v c < 2 * (v + bit_cost k)
carry_low And v c lc = omega (arith, lc)
carry_low Or v c lc = omega (arith, lc)
carry_low Gate v c lc = omega (arith, lc)
carry_low Xor v c lc = omega (arith, lc)
carry_low Mux v c lc = omega (arith, lc)
carry_low Add v c lc = omega (arith, lc)
carry_low Sub v c lc = omega (arith, lc)
carry_low Eq v c lc = omega (arith, lc)
carry_low Less v c lc = omega (arith, lc)

-- literals of variables before v
abbrev pub AreLow : ℕ → List ℕ → Type 0
AreLow v [] = Unit {0}
AreLow v (l ∷ ls) = (l < 2 * v) × AreLow v ls

low_later : (v w : ℕ) (ls : List ℕ) → v ≤ w → AreLow v ls → AreLow w ls
low_later v w [] le h = tt
low_later v w (l ∷ ls) le h = (omega (arith, h.0, le), low_later v w ls le h.1)

pub chain_back : (k : Kind) (v c : ℕ) (ms bs : List ℕ) → c < 2 * v → AreLow v ms → AreLow v bs → LookBackFrom v (chain_gates k v c ms bs)
chain_back k v c [] bs lc la lb = tt
chain_back k v c (a ∷ ls) [] lc la lb = tt
chain_back k v c (a ∷ ls) (b ∷ bs) lc la lb =
    let rest : LookBackFrom (v + bit_cost k) (chain_gates k (v + bit_cost k) (bit_carry k v c) ls bs) =
    chain_back k (v + bit_cost k) (bit_carry k v c) ls bs (carry_low k v c lc) (low_later v (v + bit_cost k) ls (omega arith) la.1) (low_later v (v + bit_cost k) bs (omega arith) lb.1) in
    let P : ℕ → Type 0 = λ n. LookBackFrom (v + n) (chain_gates k (v + bit_cost k) (bit_carry k v c) ls bs) in
    back_append v (bit_gates k v c a b) _ (bit_back k v c a b lc la.0 lb.0) (subst P (sym (bit_count k v c a b)) rest)

-- how many there are
pub chain_few : (k : Kind) (v c : ℕ) (ms bs : List ℕ) → length (chain_gates k v c ms bs) ≤ bit_cost k * length ms
chain_few k v c [] bs = omega arith
chain_few k v c (a ∷ ls) [] = omega arith
chain_few k v c (a ∷ ls) (b ∷ bs) =
    let rest : length (chain_gates k (v + bit_cost k) (bit_carry k v c) ls bs) ≤ bit_cost k * length ls = chain_few k (v + bit_cost k) (bit_carry k v c) ls bs in
    omega (arith, rest, bit_count k v c a b, length-append (bit_gates k v c a b) (chain_gates k (v + bit_cost k) (bit_carry k v c) ls bs))

pub chain_literals_few : (k : Kind) (v : ℕ) (ms bs : List ℕ) → length (chain_literals k v ms bs) ≤ length ms
chain_literals_few k v [] bs = omega arith
chain_literals_few k v (a ∷ ls) [] = omega arith
chain_literals_few k v (a ∷ ls) (b ∷ bs) = omega (arith, chain_literals_few k (v + bit_cost k) ls bs)

pub cost_low : (k : Kind) → bit_cost k ≤ 7
cost_low And = omega arith
cost_low Or = omega arith
cost_low Gate = omega arith
cost_low Xor = omega arith
cost_low Mux = omega arith
cost_low Add = omega arith
cost_low Sub = omega arith
cost_low Eq = omega arith
cost_low Less = omega arith

-- as many places without a value, and then this one
replicate_then : (i : ℕ) (b : Bool) → get_or (replicate i false ++ b ∷ []) i false ≡ b
replicate_then zero b = refl
replicate_then (suc i) b = replicate_then i b

both_ways : (x : Bool) → true ≡ x → false ≡ x → ⊥
both_ways true p q = cc
both_ways false p q = cc

-- a literal that shows one value whatever comes behind is of a variable that is there
pub holds_low : (bits : Bits) (l : ℕ) (x : Bool) → Holds bits l x → l < 2 * length bits
holds_low bits l x h = by_size (cases_lt l (2 * length bits))
  where
    by_size : (l < 2 * length bits) ⊎ (2 * length bits ≤ l) → l < 2 * length bits
    by_size (inl low) = low
    by_size (inr high) = absurd (by_parity (parity l))
      where
        i : ℕ
        i = l / 2 - length bits

        by_parity : (l ≡ 2 * (l / 2)) ⊎ (l ≡ 2 * (l / 2) + 1) → ⊥
        by_parity (inl e) =
            let P : ℕ → Type 0 = λ n. (b : Bool) → shown_by (bits ++ (replicate i false ++ b ∷ [])) n ≡ b in
            let is : plain (length bits + i) ≡ l = omega (arith, e, high) in
            let shows = subst P is (λ b. later_plain bits (replicate i false ++ b ∷ []) (length bits) i refl ∙ replicate_then i b) in
            both_ways x (sym (shows true) ∙ h _) (sym (shows false) ∙ h _)
        by_parity (inr e) =
            let P : ℕ → Type 0 = λ n. (b : Bool) → shown_by (bits ++ (replicate i false ++ b ∷ [])) n ≡ not b in
            let is : turned (length bits + i) ≡ l = omega (arith, e, high) in
            let shows = subst P is (λ b. later_turned bits (replicate i false ++ b ∷ []) (length bits) i refl ∙ ap not (replicate_then i b)) in
            both_ways x (sym (shows false) ∙ h _) (sym (shows true) ∙ h _)

pub all_low : (bits : Bits) (ls : List ℕ) (xs : List Bool) → HoldAll bits ls xs → AreLow (length bits) ls
all_low bits [] [] h = tt
all_low bits [] (x ∷ xs) h = absurd h
all_low bits (l ∷ ls) [] h = absurd h
all_low bits (l ∷ ls) (x ∷ xs) h = (holds_low bits l x h.0, all_low bits ls xs h.1)
