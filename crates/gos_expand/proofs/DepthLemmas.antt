-- Without a combinational cycle gates have depths that rise along them.
--
-- Read first: Cycles of gos_netlist; WalkLemmas. A net of great depth stands at the end of a long walk, on which some net
-- stands twice. So where there is no cycle, depths are bounded, and that for long walks is that for all.
use Rattle.std.proofs.Common.{◌≡◌, ◌≤◌, ◌<◌, ◌⊎◌, ℕ, zero, suc, List, [], ◌∷◌, ◌++◌, length, length-append, slice_get, Option, Some, Contains, inl, inr, refl, sym, ap, subst, arith}
use Rattle.std.specs.Prelude.{None, max, get_or}
use Rattle.std.proofs.lemmas.Option.{slice_get_within}
use Rattle.std.proofs.lemmas.List.Elements.{Contains-get_or}
use Rattle.gos_netlist.specs.Nets.{Function, Input, Const, Not, And, Or, Xor, Mux, Add, Sub, Eq, Less, Gate, Reg, Cell, pins}
use Rattle.gos_netlist.specs.Cycles.{IsRegister, Feeds, Chain, Distinct, HasCycle}
use Rattle.gos_netcheck.proofs.CountLemmas.{count_into}
use Rattle.gos_expand.proofs.WalkLemmas.{Twice, twice_or_distinct, closed_twice}

-- the nets that a gate waits for: a register waits for none
abbrev pub waits_for : Function → List ℕ
waits_for (Reg a) = []
waits_for f = pins f

abbrev waits_if : Option Cell → List ℕ
waits_if None = []
waits_if (Some c) = waits_for c.gate

-- one more than the greatest of these depths; 0 where there are none
abbrev above : (ℕ → ℕ) → List ℕ → ℕ
above depth [] = 0
above depth (a ∷ ns) = max (suc (depth a)) (above depth ns)

-- a register, or a gate that waits for its pins
register_or : (f : Function) → IsRegister f ⊎ (waits_for f ≡ pins f)
register_or (Reg a) = inl (a, refl)
register_or Input = inr refl
register_or (Const k) = inr refl
register_or (Not a) = inr refl
register_or (And a b) = inr refl
register_or (Or a b) = inr refl
register_or (Xor a b) = inr refl
register_or (Mux s a b) = inr refl
register_or (Add a b) = inr refl
register_or (Sub a b) = inr refl
register_or (Eq a b) = inr refl
register_or (Less a b) = inr refl
register_or (Gate s a) = inr refl

-- how long the longest walk is that leads to a net, up to a bound
abbrev pub depth : List Cell → ℕ → ℕ → ℕ
depth cells zero m = 0
depth cells (suc bound) m = above (depth cells bound) (waits_if (slice_get cells m))

above_each : (d : ℕ → ℕ) (ns : List ℕ) (a : ℕ) → Contains ns a → suc (d a) ≤ above d ns
above_each d [] a h = absurd (omega (arith, h.1))
above_each d (x ∷ ns) a (zero, low, is) = let e = ap d is in omega (arith, e)
above_each d (x ∷ ns) a (suc k, low, is) = let rest = above_each d ns a (k, omega (arith, low), is) in omega (arith, rest)

le_or : (m k : ℕ) → (m ≤ k) ⊎ (k < m)
le_or zero k = inl (omega arith)
le_or (suc m) zero = inr (omega arith)
le_or (suc m) (suc k) = elim (le_or m k) [ inl h ↦ inl (omega (arith, h)) | inr h ↦ inr (omega (arith, h)) ]

-- the greatest is reached
above_reached : (d : ℕ → ℕ) (ns : List ℕ) (n : ℕ) → suc n ≤ above d ns → (a : ℕ) × Contains ns a × (n ≤ d a)
above_reached d [] n high = absurd (omega (arith, high))
above_reached d (x ∷ ns) n high = by_first (le_or n (d x)) (λ h. above_reached d ns n h)
  where
    by_first : (n ≤ d x) ⊎ (d x < n) → (suc n ≤ above d ns → (a : ℕ) × Contains ns a × (n ≤ d a)) → (a : ℕ) × Contains (x ∷ ns) a × (n ≤ d a)
    by_first (inl low) further = (x, (0, omega arith, refl), low)
    by_first (inr less) further =
        let rest = further (omega (arith, high, less)) in
        (rest.0, (suc rest.1.0, omega (arith, rest.1.1), rest.1.2), rest.2)

-- depths of a greater bound are as great, or the same up to it
above_settles : (d e : ℕ → ℕ) (n : ℕ) → ((a : ℕ) → (e a ≤ d a) ⊎ (e a ≡ suc n)) → ((a : ℕ) → e a ≤ suc n) → (ns : List ℕ)
    → (above e ns ≤ above d ns) ⊎ (above e ns ≡ suc (suc n))
above_settles d e n each low [] = inl (omega arith)
above_settles d e n each low (x ∷ ns) = by_rest (each x) (above_settles d e n each low ns)
  where
    all_low : (ms : List ℕ) → above e ms ≤ suc (suc n)
    all_low [] = omega arith
    all_low (y ∷ ms) = let first = low y in let rest = all_low ms in omega (arith, first, rest)

    by_rest : (e x ≤ d x) ⊎ (e x ≡ suc n) → (above e ns ≤ above d ns) ⊎ (above e ns ≡ suc (suc n))
        → (above e (x ∷ ns) ≤ above d (x ∷ ns)) ⊎ (above e (x ∷ ns) ≡ suc (suc n))
    by_rest (inr full) rest = inr (let others = all_low ns in omega (arith, full, others))
    by_rest (inl less) (inl rest) = inl (omega (arith, less, rest))
    by_rest (inl less) (inr full) = inr (let first = low x in omega (arith, first, full))

bounded : (cells : List Cell) (bound m : ℕ) → depth cells bound m ≤ bound
bounded cells zero m = omega arith
bounded cells (suc bound) m = all_low (λ a. bounded cells bound a) (waits_if (slice_get cells m))
  where
    all_low : ((a : ℕ) → depth cells bound a ≤ bound) → (ns : List ℕ) → above (depth cells bound) ns ≤ suc bound
    all_low each [] = omega arith
    all_low each (x ∷ ns) = let first = each x in let rest = all_low each ns in omega (arith, first, rest)

settles : (cells : List Cell) (bound m : ℕ) → (depth cells (suc bound) m ≤ depth cells bound m) ⊎ (depth cells (suc bound) m ≡ suc bound)
settles cells zero m = by_nets (waits_if (slice_get cells m))
  where
    by_nets : (ns : List ℕ) → (above (λ a. 0) ns ≤ 0) ⊎ (above (λ a. 0) ns ≡ 1)
    by_nets [] = inl (omega arith)
    by_nets (x ∷ ns) = elim (by_nets ns) [ inl low ↦ inr (omega (arith, low)) | inr one ↦ inr (omega (arith, one)) ]
settles cells (suc bound) m =
    above_settles (depth cells bound) (depth cells (suc bound)) bound (λ a. settles cells bound a) (λ a. bounded cells (suc bound) a)
    (waits_if (slice_get cells m))

-- a net of some depth is that of a gate, and one of its pins is nearly as deep
record Waits (cells : List Cell) (m a : ℕ) : Type 0 where
  cell : Cell
  stands : slice_get cells m ≡ Some cell
  free : IsRegister cell.gate → ⊥
  pin : Contains (pins cell.gate) a

gate_waits : (f : Function) (a : ℕ) → Contains (waits_for f) a → (IsRegister f → ⊥) × Contains (pins f) a
gate_waits f a pin = (λ r. none_waits f r.0 r.1 pin, same f pin)
  where
    none_waits : (g : Function) (b : ℕ) → g ≡ Reg b → Contains (waits_for g) a → ⊥
    none_waits g b is has =
        let none : Contains [] a = subst (λ (h : Function). Contains (waits_for h) a) is has in omega (arith, none.1)

    same : (g : Function) → Contains (waits_for g) a → Contains (pins g) a
    same g has = by_kind g (kinds g) has
      where
        kinds : (g : Function) → IsRegister g ⊎ (waits_for g ≡ pins g)
        kinds g = register_or g

        by_kind : (g : Function) → IsRegister g ⊎ (waits_for g ≡ pins g) → Contains (waits_for g) a → Contains (pins g) a
        by_kind g (inl r) has = absurd (none_waits g r.0 r.1 has)
        by_kind g (inr is) has = subst (λ (ns : List ℕ). Contains ns a) is has

waits_at : (cells : List Cell) (m a : ℕ) → Contains (waits_if (slice_get cells m)) a → Waits cells m a
waits_at cells m a has = by_cell (slice_get cells m) refl has
  where
    by_cell : (o : Option Cell) → slice_get cells m ≡ o → Contains (waits_if o) a → Waits cells m a
    by_cell None none has = absurd (omega (arith, has.1))
    by_cell (Some c) stands has =
        let gate = gate_waits c.gate a has in record { cell = c; stands = stands; free = gate.0; pin = gate.1 }

-- a long walk leads to a deep net
walk_end : (cells : List Cell) (ns : List ℕ) (a m : ℕ) → Chain cells ns a → Feeds cells a m → Chain cells (ns ++ a ∷ []) m
walk_end cells [] a m walk feeds = feeds
walk_end cells (x ∷ []) a m walk feeds = (walk, feeds)
walk_end cells (x ∷ y ∷ ns) a m walk feeds = (walk.0, walk_end cells (y ∷ ns) a m walk.1 feeds)

deep_walk : (cells : List Cell) (k bound m : ℕ) → suc k ≤ depth cells bound m → (ns : List ℕ) × (length ns ≡ k) × Chain cells ns m
deep_walk cells zero bound m deep = ([], refl, tt)
deep_walk cells (suc k) zero m deep = absurd (omega (arith, deep))
deep_walk cells (suc k) (suc bound) m deep =
    let (a, has, high) = above_reached (depth cells bound) (waits_if (slice_get cells m)) (suc k) deep in
    let (ns, long, walk) = deep_walk cells k bound a high in
    let first = waits_at cells m a has in
    let feeds = feeding bound a high first in
    let size = length-append ns (a ∷ []) in
    (ns ++ a ∷ [], omega (arith, size, long), walk_end cells ns a m walk feeds)
  where
    feeding : (bound a : ℕ) → suc k ≤ depth cells bound a → Waits cells m a → Feeds cells a m
    feeding zero a high first = absurd (omega (arith, high))
    feeding (suc bound) a high first =
        let (b, has, low) = above_reached (depth cells bound) (waits_if (slice_get cells a)) k high in
        let gate = waits_at cells a b has in
        (gate.cell, first.cell, gate.stands, first.stands, gate.free, first.pin)

-- nets of a walk are there, and differ where no net stands twice
walk_low : (cells : List Cell) (ns : List ℕ) (z : ℕ) → Chain cells ns z → (i : ℕ) → i < length ns → get_or ns i 0 < length cells
walk_low cells [] z walk i low = absurd (omega (arith, low))
walk_low cells (x ∷ []) z walk zero low = slice_get_within cells x walk.0 walk.2
walk_low cells (x ∷ []) z walk (suc i) low = absurd (omega (arith, low))
walk_low cells (x ∷ y ∷ ns) z walk zero low = slice_get_within cells x walk.0.0 walk.0.2
walk_low cells (x ∷ y ∷ ns) z walk (suc i) low = walk_low cells (y ∷ ns) z walk.1 i (omega (arith, low))

distinct_apart : (ns : List ℕ) → Distinct ns → (i j : ℕ) → i < length ns → j < length ns → get_or ns i 0 ≡ get_or ns j 0 → i ≡ j
distinct_apart [] d i j low high same = absurd (omega (arith, low))
distinct_apart (x ∷ ns) d zero zero low high same = refl
distinct_apart (x ∷ ns) d zero (suc j) low high same =
    absurd (d.0 (subst (λ (n : ℕ). Contains ns n) (sym same) (Contains-get_or ns j 0 (omega (arith, high)))))
distinct_apart (x ∷ ns) d (suc i) zero low high same =
    absurd (d.0 (subst (λ (n : ℕ). Contains ns n) same (Contains-get_or ns i 0 (omega (arith, low)))))
distinct_apart (x ∷ ns) d (suc i) (suc j) low high same =
    ap suc (distinct_apart ns d.1 i j (omega (arith, low)) (omega (arith, high)) same)

-- so no net is deeper than there are cells
shallow : (cells : List Cell) → (HasCycle cells → ⊥) → (bound m : ℕ) → suc (suc (length cells)) ≤ depth cells bound m → ⊥
shallow cells none bound m deep = by_walk (deep_walk cells (suc (length cells)) bound m deep)
  where
    by_walk : (ns : List ℕ) × (length ns ≡ suc (length cells)) × Chain cells ns m → ⊥
    by_walk ([], long, walk) = omega (arith, long)
    by_walk (x ∷ ns, long, walk) = by_twice (twice_or_distinct (x ∷ ns))
      where
        by_twice : Twice (x ∷ ns) ⊎ Distinct (x ∷ ns) → ⊥
        by_twice (inl t) = none (closed_twice cells x ns m walk t)
        by_twice (inr d) =
            let count = count_into (length (x ∷ ns)) (length cells) (λ i. get_or (x ∷ ns) i 0)
            (record { low = walk_low cells (x ∷ ns) m walk; apart = distinct_apart (x ∷ ns) d }) in
            omega (arith, count, long)

-- the depth of each net
abbrev pub depth_of : List Cell → ℕ → ℕ
depth_of cells = depth cells (suc (suc (length cells)))

-- It rises along gates.
pub depths_rise : (cells : List Cell) → (HasCycle cells → ⊥) → (m z : ℕ) (c : Cell) → slice_get cells z ≡ Some c → (IsRegister c.gate → ⊥)
    → Contains (pins c.gate) m
    → depth_of cells m < depth_of cells z
depths_rise cells none m z c stands free pin = by_settling (settles cells bound z)
  where
    bound : ℕ
    bound = suc (suc (length cells))

    waits : Contains (waits_if (slice_get cells z)) m
    waits = subst (λ (o : Option Cell). Contains (waits_if o) m) (sym stands) (by_kind (register_or c.gate))
      where
        by_kind : IsRegister c.gate ⊎ (waits_for c.gate ≡ pins c.gate) → Contains (waits_for c.gate) m
        by_kind (inl r) = absurd (free r)
        by_kind (inr is) = subst (λ (ns : List ℕ). Contains ns m) (sym is) pin

    by_settling : (depth cells (suc bound) z ≤ depth cells bound z) ⊎ (depth cells (suc bound) z ≡ suc bound) → depth_of cells m < depth_of cells z
    by_settling (inl low) =
        let up = above_each (depth cells bound) (waits_if (slice_get cells z)) m waits in omega (arith, up, low)
    by_settling (inr full) = absurd (shallow cells none (suc bound) z (omega (arith, full)))
