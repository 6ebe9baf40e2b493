-- Cells whose gates are ranked have no combinational cycle: small netlists are shown so to have none.
--
-- Read first: Cycles of gos_netlist.
use Rattle.std.proofs.Common.{◌≡◌, ◌<◌, ◌⊎◌, ◌+◌, ℕ, zero, suc, List, [], ◌∷◌, slice_get, Some, inl, inr, sym, subst, ◌∙◌, arith}
use Rattle.std.specs.List.{AllByRecursion}
use Rattle.std.proofs.lemmas.Option.{none-some, same_Some}
use Rattle.std.proofs.lemmas.List.Elements.{All-from_recursion, All-contains}
use Rattle.gos_netlist.specs.Nets.{Cell, pins}
use Rattle.gos_netlist.specs.Cycles.{IsRegister, Feeds, Chain, HasCycle}

-- a register, or a gate whose pins have lower ranks
abbrev pub IsAbove : (ℕ → ℕ) → ℕ → Cell → Type 0
IsAbove rank n c = IsRegister c.gate ⊎ AllByRecursion (λ a. rank a < rank n) (pins c.gate)

-- so are these cells, of which the first is net n
abbrev pub AreRanked : (ℕ → ℕ) → ℕ → List Cell → Type 0
AreRanked rank n [] = Unit {0}
AreRanked rank n (c ∷ cs) = IsAbove rank n c × AreRanked rank (suc n) cs

above_at : (rank : ℕ → ℕ) (n : ℕ) (cells : List Cell) → AreRanked rank n cells → (k : ℕ) (c : Cell) → slice_get cells k ≡ Some c → IsAbove rank (n + k) c
above_at rank n [] all k c there = absurd (none-some c there)
above_at rank n (x ∷ cells) all zero c there =
    let here : n ≡ n + 0 = omega arith in
    subst (λ (m : ℕ). IsAbove rank m c) here (subst (λ (y : Cell). IsAbove rank n y) (same_Some x c there) all.0)
above_at rank n (x ∷ cells) all (suc k) c there =
    let next : suc n + k ≡ n + suc k = omega arith in
    subst (λ (m : ℕ). IsAbove rank m c) next (above_at rank (suc n) cells all.1 k c there)

-- a net that is no register
abbrev pub IsGate : List Cell → ℕ → Type 0
IsGate cells a = (c : Cell) × (slice_get cells a ≡ Some c) × (IsRegister c.gate → ⊥)

rises : (rank : ℕ → ℕ) (cells : List Cell) → AreRanked rank 0 cells → (a b : ℕ) → IsGate cells b → Feeds cells a b → rank a < rank b
rises rank cells all a b (d, found, gate) (c, e, at, there, none, pin) =
    let here : 0 + b ≡ b = omega arith in by_kind (subst (λ (n : ℕ). IsAbove rank n e) here (above_at rank 0 cells all b e there))
  where
    same : d ≡ e
    same = same_Some d e (sym found ∙ there)

    by_kind : IsAbove rank b e → rank a < rank b
    by_kind (inl register) = absurd (gate (subst (λ (x : Cell). IsRegister x.gate) (sym same) register))
    by_kind (inr low) = All-contains (λ n. rank n < rank b) (pins e.gate) a (All-from_recursion (λ n. rank n < rank b) (pins e.gate) low) pin

first_gate : (cells : List Cell) (a : ℕ) (ns : List ℕ) (z : ℕ) → Chain cells (a ∷ ns) z → IsGate cells a
first_gate cells a [] z (c, e, at, there, none, pin) = (c, at, none)
first_gate cells a (b ∷ ns) z ((c, e, at, there, none, pin), rest) = (c, at, none)

chain_rises : (rank : ℕ → ℕ) (cells : List Cell) → AreRanked rank 0 cells → (a : ℕ) (ns : List ℕ) (z : ℕ) → IsGate cells z → Chain cells (a ∷ ns) z
    → rank a < rank z
chain_rises rank cells all a [] z gate chain = rises rank cells all a z gate chain
chain_rises rank cells all a (b ∷ ns) z gate chain =
    let first = rises rank cells all a b (first_gate cells b ns z chain.1) chain.0 in
    let rest = chain_rises rank cells all b ns z gate chain.1 in
    omega (arith, first, rest)

pub ranked_none : (rank : ℕ → ℕ) (cells : List Cell) → AreRanked rank 0 cells → HasCycle cells → ⊥
ranked_none rank cells all ([], cycle) = cycle
ranked_none rank cells all (a ∷ ns, cycle) =
    let up = chain_rises rank cells all a ns a (first_gate cells a ns a cycle.1) cycle.1 in
    omega (arith, up)
