-- Bonds between numbers, and where chains of bonds end.
--
-- Where each number is in two bonds at most, bonds make chains and rings. A number in one bond at most is an end of
-- its chain, and `far` is the other end. Between the functions of this crate.
use Rattle.std.specs.Prelude.{◌≡◌, ℕ, ◌+◌, ◌≤◌, ◌<◌, ◌⊎◌, List, [], ◌∷◌, nat_eq, if◌then◌else◌, unwrap_or, slice_get}
use Rattle.gos_ties.specs.declared.joining.Bond.{Bond}

abbrev pub bond : ℕ → ℕ → Bond
bond a b = record { one = a; other = b }

-- one of the bonds is between these, in either order
abbrev pub Joins : List Bond → ℕ → ℕ → Type 0
Joins [] a b = ⊥
Joins (t ∷ ts) a b = (t ≡ bond a b) ⊎ (t ≡ bond b a) ⊎ Joins ts a b

-- bonds lead from the one number to the other
pub data Leads (ts : List Bond) : ℕ → ℕ → Type 0 where
  stays : (a : ℕ) → Leads ts a a
  goes : (a c b : ℕ) → Joins ts a c → Leads ts c b → Leads ts a b

-- how often a number is in bonds
abbrev pub touches : ℕ → List Bond → ℕ
touches p [] = 0
touches p (t ∷ ts) = (if nat_eq t.one p then 1 else 0) + (if nat_eq t.other p then 1 else 0) + touches p ts

-- From a number that is in one bond at most bonds lead to no other such number than to the far one, and they lead to
-- that; a number in no bond is its own.
pub record AreFar (ts : List Bond) (far : ℕ → ℕ) : Type 0 where
  pub reached : (p : ℕ) → Leads ts p (far p)
  pub only : (p q : ℕ) → touches p ts ≤ 1 → touches q ts ≤ 1 → Leads ts p q → (q ≡ p) ⊎ (q ≡ far p)
  pub alone : (p : ℕ) → touches p ts ≡ 0 → far p ≡ p

-- far numbers in a list; a number beyond it is its own
abbrev pub far_at : List ℕ → ℕ → ℕ
far_at list p = unwrap_or (slice_get list p) p

-- the far numbers after one bond more: the far ends of both chains are those of the longer one
abbrev pub joined : Bond → (ℕ → ℕ) → ℕ → ℕ
joined t far p =
    if nat_eq p (far t.other) then far t.one else if nat_eq p (far t.one) then far t.other else far p

-- both numbers of each bond are below this one
abbrev pub AreBelow : ℕ → List Bond → Type 0
AreBelow n [] = Unit {0}
AreBelow n (t ∷ ts) = (t.one < n) × (t.other < n) × AreBelow n ts
