-- A closed walk from net to net has a combinational cycle.
--
-- Read first: Cycles of gos_netlist. Where a net stands twice on the walk, what lies between is a shorter one.
use Rattle.std.proofs.Common.{◌≡◌, ◌<◌, ◌⊎◌, ℕ, zero, suc, Bool, true, false, List, [], ◌∷◌, ◌++◌, length, Contains, inl, inr, refl, ap, subst, length-append, arith}
use Rattle.std.specs.Prelude.{nat_eq}
use Rattle.gos_netlist.specs.Nets.{Cell}
use Rattle.gos_netlist.specs.Cycles.{Chain, Distinct, HasCycle}

-- a net on a walk: what stands before it and behind it
abbrev Stands : List ℕ → ℕ → Type 0
Stands xs a = (before : List ℕ) × (behind : List ℕ) × (xs ≡ before ++ a ∷ behind)

stands_or_not : (xs : List ℕ) (a : ℕ) → Stands xs a ⊎ (Contains xs a → ⊥)
stands_or_not [] a = inr (λ h. omega (arith, h.1))
stands_or_not (x ∷ xs) a = by_test (nat_eq x a) refl (stands_or_not xs a)
  where
    by_test : (b : Bool) → nat_eq x a ≡ b → Stands xs a ⊎ (Contains xs a → ⊥) → Stands (x ∷ xs) a ⊎ (Contains (x ∷ xs) a → ⊥)
    by_test true same rest = inl ([], xs, ap (λ (n : ℕ). n ∷ xs) (grind (arith, same)))
    by_test false other (inl (before, behind, is)) = inl (x ∷ before, behind, ap (λ (ns : List ℕ). x ∷ ns) is)
    by_test false other (inr none) = inr at_place
      where
        at_place : Contains (x ∷ xs) a → ⊥
        at_place (zero, low, is) = grind (arith, other, is)
        at_place (suc k, low, is) = none (k, omega (arith, low), is)

-- a net that stands twice, and what lies between
pub record Twice (xs : List ℕ) : Type 0 where
  pub before : List ℕ
  pub net : ℕ
  pub between : List ℕ
  pub behind : List ℕ
  pub is : xs ≡ before ++ net ∷ (between ++ net ∷ behind)

pub twice_or_distinct : (xs : List ℕ) → Twice xs ⊎ Distinct xs
twice_or_distinct [] = inr tt
twice_or_distinct (x ∷ xs) = by_first (stands_or_not xs x) (twice_or_distinct xs)
  where
    by_first : Stands xs x ⊎ (Contains xs x → ⊥) → Twice xs ⊎ Distinct xs → Twice (x ∷ xs) ⊎ Distinct (x ∷ xs)
    by_first (inl (between, behind, is)) rest =
        inl (record { before = []; net = x; between = between; behind = behind; is = ap (λ (ns : List ℕ). x ∷ ns) is })
    by_first (inr none) (inl t) =
        inl (record { before = x ∷ t.before; net = t.net; between = t.between; behind = t.behind; is = ap (λ (ns : List ℕ). x ∷ ns) t.is })
    by_first (inr none) (inr distinct) = inr (none, distinct)

-- parts of a walk
walk_from : (cells : List Cell) (xs : List ℕ) (b : ℕ) (ys : List ℕ) (z : ℕ) → Chain cells (xs ++ b ∷ ys) z → Chain cells (b ∷ ys) z
walk_from cells [] b ys z walk = walk
walk_from cells (x ∷ []) b ys z walk = walk.1
walk_from cells (x ∷ y ∷ xs) b ys z walk = walk_from cells (y ∷ xs) b ys z walk.1

walk_until : (cells : List Cell) (a : ℕ) (xs : List ℕ) (b : ℕ) (ys : List ℕ) (z : ℕ) → Chain cells (a ∷ (xs ++ b ∷ ys)) z → Chain cells (a ∷ xs) b
walk_until cells a [] b ys z walk = walk.0
walk_until cells a (x ∷ xs) b ys z walk = (walk.0, walk_until cells x xs b ys z walk.1)

shorter : (a : ℕ) (ns : List ℕ) (t : Twice (a ∷ ns)) → length t.between < length ns
shorter a ns t =
    let all = ap (λ (xs : List ℕ). length xs) t.is in
    let first = length-append t.before (t.net ∷ (t.between ++ t.net ∷ t.behind)) in
    let second = length-append t.between (t.net ∷ t.behind) in
    omega (arith, all, first, second)

-- a walk within a bound that closes, where shorter ones have a cycle
closed_by : (cells : List Cell) (a : ℕ) (ns : List ℕ) → Chain cells (a ∷ ns) a
    → ((b : ℕ) (ys : List ℕ) → length ys < length ns → Chain cells (b ∷ ys) b → HasCycle cells) → Twice (a ∷ ns) ⊎ Distinct (a ∷ ns)
    → HasCycle cells
closed_by cells a ns walk further (inr distinct) = (a ∷ ns, (distinct, walk))
closed_by cells a ns walk further (inl t) =
    let all : Chain cells (t.before ++ t.net ∷ (t.between ++ t.net ∷ t.behind)) a =
    subst (λ (xs : List ℕ). Chain cells xs a) t.is walk in
    further t.net t.between (shorter a ns t)
    (walk_until cells t.net t.between t.net t.behind a (walk_from cells t.before t.net (t.between ++ t.net ∷ t.behind) a all))

closed_within : (cells : List Cell) (bound a : ℕ) (ns : List ℕ) → length ns < bound → Chain cells (a ∷ ns) a → HasCycle cells
closed_within cells zero a ns low walk = absurd (omega (arith, low))
closed_within cells (suc m) a ns low walk =
    closed_by cells a ns walk (λ b ys less one. closed_within cells m b ys (omega (arith, less, low)) one) (twice_or_distinct (a ∷ ns))

pub closed : (cells : List Cell) (a : ℕ) (ns : List ℕ) → Chain cells (a ∷ ns) a → HasCycle cells
closed cells a ns walk = closed_within cells (suc (length ns)) a ns (omega arith) walk

-- a walk on which a net stands twice has a cycle
pub closed_twice : (cells : List Cell) (a : ℕ) (ns : List ℕ) (z : ℕ) → Chain cells (a ∷ ns) z → Twice (a ∷ ns) → HasCycle cells
closed_twice cells a ns z walk t =
    let all : Chain cells (t.before ++ t.net ∷ (t.between ++ t.net ∷ t.behind)) z =
    subst (λ (xs : List ℕ). Chain cells xs z) t.is walk in
    closed cells t.net t.between
    (walk_until cells t.net t.between t.net t.behind z (walk_from cells t.before t.net (t.between ++ t.net ∷ t.behind) z all))

-- one walk behind another
pub joined_walk : (cells : List Cell) (a : ℕ) (xs : List ℕ) (b : ℕ) (ys : List ℕ) (z : ℕ) → Chain cells (a ∷ xs) b → Chain cells (b ∷ ys) z
    → Chain cells (a ∷ (xs ++ b ∷ ys)) z
joined_walk cells a [] b ys z first second = (first, second)
joined_walk cells a (x ∷ xs) b ys z first second = (first.0, joined_walk cells x xs b ys z first.1 second)
