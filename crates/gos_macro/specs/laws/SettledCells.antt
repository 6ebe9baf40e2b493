-- The equations of cells, by their places behind a place, and those of cells behind others.
--
-- Read first: Gates.
use Rattle.std.proofs.Common.{◌≡◌, ℕ, zero, suc, ◌+◌, List, [], ◌∷◌, ◌++◌, subst, arith}
use Rattle.std.specs.Prelude.{length}
use Rattle.gos_netlist.specs.Nets.{Cell}
use Rattle.gos_netlist.specs.Settling.{Numbers, at, shown, next_of}
use Rattle.gos_macro.specs.Gates.{Settled}

-- The equations of cells, by their places behind n, from place k on.
abbrev pub SettledAt : Numbers → Numbers → Numbers → ℕ → ℕ → ℕ → List Cell → Type 0
SettledAt v regs after b n k [] = Unit {0}
SettledAt v regs after b n k (c ∷ cs) =
    (at v (b + (n + k)) ≡ shown c.width c.gate (at regs (b + (n + k))) 0 (at v))
    × (at after (b + (n + k)) ≡ next_of c.gate v)
    × SettledAt v regs after b n (suc k) cs

settled_from : (v regs after : Numbers) (b n m k : ℕ) (cs : List Cell) → m ≡ n + k → Settled v regs after b m cs → SettledAt v regs after b n k cs
settled_from v regs after b n m k [] here settled = tt
settled_from v regs after b n m k (c ∷ cs) here settled =
    let first = subst (λ (e : ℕ). at v (b + e) ≡ shown c.width c.gate (at regs (b + e)) 0 (at v)) here settled.0 in
    let second = subst (λ (e : ℕ). at after (b + e) ≡ next_of c.gate v) here settled.1 in
    (first, second, settled_from v regs after b n (suc m) (suc k) cs (omega (arith, here)) settled.2)

pub settled_at : (v regs after : Numbers) (b n : ℕ) (cs : List Cell) → Settled v regs after b n cs → SettledAt v regs after b n 0 cs
settled_at v regs after b n cs settled = settled_from v regs after b n n 0 cs (omega arith) settled

-- cells, and those behind them
pub settled_both : (v regs after : Numbers) (b n m : ℕ) (cs ds : List Cell) → length cs ≡ m → Settled v regs after b n (cs ++ ds)
    → Settled v regs after b n cs × Settled v regs after b (n + m) ds
settled_both v regs after b n m [] ds long settled =
    let here : n ≡ n + m = omega (arith, long) in
    (tt, subst (λ (e : ℕ). Settled v regs after b e ds) here settled)
settled_both v regs after b n zero (c ∷ cs) ds long settled = absurd (omega (arith, long))
settled_both v regs after b n (suc m) (c ∷ cs) ds long settled =
    let known = settled_both v regs after b (suc n) m cs ds (omega (arith, long)) settled.2 in
    let here : suc n + m ≡ n + suc m = omega arith in
    ((settled.0, settled.1, known.0), subst (λ (e : ℕ). Settled v regs after b e ds) here known.1)
