-- Cells as they are read through a map of nets.
use Rattle.std.specs.Prelude.{◌≡◌, ℕ, zero, suc, List, [], ◌∷◌, map, Contains}
use Rattle.std.proofs.Common.{arith, refl, sym, ap, subst, inl, inr, ◌∙◌}
use Rattle.gos_netlist.specs.Nets.{Function, Input, Const, Not, And, Or, Xor, Mux, Add, Sub, Eq, Less, Gate, Reg, Cell, pins}
use Rattle.gos_netlist.specs.Settling.{shown}
use Rattle.gos_netlist.specs.Renamed.{with_renamed}
use Rattle.gos_tidy.specs.Mapped.{renamed, IsConst, IsShort, IsFolded}
use Rattle.gos_tidy.specs.Reduced.{IsClosed, Stays}
use Rattle.gos_tidy.specs.Tidy.{Folds, NamesConstants}
use Rattle.gos_tidy.specs.inner.Reading.{first_of, second_of, third_of, number_at, FoldsTo, IsClosedOf, IsShortOf}
use Rattle.gos_tidy.specs.inner.Roots.{StaysAs}

-- the first, the second and the third net of a gate that may fold are nets that it names
pub first_named : (g : Function) → Folds g → Contains (pins g) (first_of g)
first_named Input h = absurd h
first_named (Const k) h = absurd h
first_named (Not a) h = (0, omega arith, refl)
first_named (And a b) h = (0, omega arith, refl)
first_named (Or a b) h = (0, omega arith, refl)
first_named (Xor a b) h = (0, omega arith, refl)
first_named (Mux s a b) h = (0, omega arith, refl)
first_named (Add a b) h = (0, omega arith, refl)
first_named (Sub a b) h = (0, omega arith, refl)
first_named (Eq a b) h = (0, omega arith, refl)
first_named (Less a b) h = (0, omega arith, refl)
first_named (Gate s a) h = (0, omega arith, refl)
first_named (Reg a) h = absurd h

pub second_named : (g : Function) → Folds g → Contains (pins g) (second_of g)
second_named Input h = absurd h
second_named (Const k) h = absurd h
second_named (Not a) h = (0, omega arith, refl)
second_named (And a b) h = (1, omega arith, refl)
second_named (Or a b) h = (1, omega arith, refl)
second_named (Xor a b) h = (1, omega arith, refl)
second_named (Mux s a b) h = (1, omega arith, refl)
second_named (Add a b) h = (1, omega arith, refl)
second_named (Sub a b) h = (1, omega arith, refl)
second_named (Eq a b) h = (1, omega arith, refl)
second_named (Less a b) h = (1, omega arith, refl)
second_named (Gate s a) h = (1, omega arith, refl)
second_named (Reg a) h = absurd h

pub third_named : (g : Function) → Folds g → Contains (pins g) (third_of g)
third_named Input h = absurd h
third_named (Const k) h = absurd h
third_named (Not a) h = (0, omega arith, refl)
third_named (And a b) h = (1, omega arith, refl)
third_named (Or a b) h = (1, omega arith, refl)
third_named (Xor a b) h = (1, omega arith, refl)
third_named (Mux s a b) h = (2, omega arith, refl)
third_named (Add a b) h = (1, omega arith, refl)
third_named (Sub a b) h = (1, omega arith, refl)
third_named (Eq a b) h = (1, omega arith, refl)
third_named (Less a b) h = (1, omega arith, refl)
third_named (Gate s a) h = (1, omega arith, refl)
third_named (Reg a) h = absurd h

-- a net that is no constant keeps a gate from folding
pub no_number : (cells : List Cell) (g : Function) (a b : ℕ) → a ≡ b → Contains (pins g) b → ((k : ℕ) → IsConst cells a k → ⊥) → NamesConstants cells g → ⊥
no_number cells g a b same named none all =
    let there = all b named in
    none there.0 (subst (λ (n : ℕ). IsConst cells n there.0) (sym same) there.1)

-- an element of a mapped list
pub contains_map : (f : ℕ → ℕ) (xs : List ℕ) (a : ℕ) → Contains xs a → Contains (map f xs) (f a)
contains_map f [] a (i, inside, is) = absurd (omega (arith, inside))
contains_map f (x ∷ xs) a (zero, inside, is) = (0, omega arith, ap f is)
contains_map f (x ∷ xs) a (suc i, inside, is) =
    let (j, there, same) = contains_map f xs a (i, omega (arith, inside), is) in (suc j, omega (arith, there), same)

-- what a renamed gate names
pub renamed_named : (f : ℕ → ℕ) (g : Function) (a : ℕ) → Contains (pins g) a → Contains (pins (renamed f g)) (f a)
renamed_named f Input a h = absurd (omega (arith, h.1))
renamed_named f (Const k) a h = absurd (omega (arith, h.1))
renamed_named f (Not x) a h = contains_map f (x ∷ []) a h
renamed_named f (And x y) a h = contains_map f (x ∷ y ∷ []) a h
renamed_named f (Or x y) a h = contains_map f (x ∷ y ∷ []) a h
renamed_named f (Xor x y) a h = contains_map f (x ∷ y ∷ []) a h
renamed_named f (Mux x y z) a h = contains_map f (x ∷ y ∷ z ∷ []) a h
renamed_named f (Add x y) a h = contains_map f (x ∷ y ∷ []) a h
renamed_named f (Sub x y) a h = contains_map f (x ∷ y ∷ []) a h
renamed_named f (Eq x y) a h = contains_map f (x ∷ y ∷ []) a h
renamed_named f (Less x y) a h = contains_map f (x ∷ y ∷ []) a h
renamed_named f (Gate x y) a h = contains_map f (x ∷ y ∷ []) a h
renamed_named f (Reg x) a h = contains_map f (x ∷ []) a h

-- a renamed function shows what the function shows of the renamed values
shown_renamed : (w r i : ℕ) (g : Function) (f v : ℕ → ℕ) → shown w (renamed f g) r i v ≡ shown w g r i (λ a. v (f a))
shown_renamed w r i Input f v = refl
shown_renamed w r i (Const k) f v = refl
shown_renamed w r i (Not a) f v = refl
shown_renamed w r i (And a b) f v = refl
shown_renamed w r i (Or a b) f v = refl
shown_renamed w r i (Xor a b) f v = refl
shown_renamed w r i (Mux s a b) f v = refl
shown_renamed w r i (Add a b) f v = refl
shown_renamed w r i (Sub a b) f v = refl
shown_renamed w r i (Eq a b) f v = refl
shown_renamed w r i (Less a b) f v = refl
shown_renamed w r i (Gate s a) f v = refl
shown_renamed w r i (Reg a) f v = refl

-- a short cell, as it is read
pub short_read : (others : List Cell) (f : ℕ → ℕ) (n w : ℕ) (g : Function) → IsShortOf others (f n) w (renamed f g) → IsShort others f n w g
short_read others f n w Input h = h
short_read others f n w (Const k) h = h
short_read others f n w (Not a) h = h
short_read others f n w (And a b) h = h
short_read others f n w (Or a b) h = h
short_read others f n w (Xor a b) h = h
short_read others f n w (Mux s a b) h = h
short_read others f n w (Add a b) h = h
short_read others f n w (Sub a b) h = h
short_read others f n w (Eq a b) h = h
short_read others f n w (Less a b) h = h
short_read others f n w (Gate s a) h = h
short_read others f n w (Reg a) h = h

-- a cell that folds, as it is read
folded_read : (others : List Cell) (f : ℕ → ℕ) (n : ℕ) (c : Cell) (k : ℕ) → FoldsTo others c.width (renamed f c.gate) k → IsConst others (f n) k
    → IsFolded others f n c
folded_read others f n c k folds const = (
  λ a. number_at others (f a),
  λ a named. folds.named (f a) (renamed_named f c.gate a named),
  λ r i. subst (λ (x : ℕ). IsConst others (f n) x) (sym (folds.shows r i) ∙ shown_renamed c.width r i c.gate f (number_at others)) const,
)

-- a closed gate, as it is read
closed_read : (others : List Cell) (f : ℕ → ℕ) (n : ℕ) (g : Function) → IsClosedOf others (f n) (renamed f g) → IsClosed others f n g
closed_read others f n Input h = h
closed_read others f n (Const k) h = h
closed_read others f n (Not a) h = h
closed_read others f n (And a b) h = h
closed_read others f n (Or a b) h = h
closed_read others f n (Xor a b) h = h
closed_read others f n (Mux s a b) h = h
closed_read others f n (Add a b) h = h
closed_read others f n (Sub a b) h = h
closed_read others f n (Eq a b) h = h
closed_read others f n (Less a b) h = h
closed_read others f n (Gate s a) h = h
closed_read others f n (Reg a) h = h

-- its net is a constant
pub closed_const : (others : List Cell) (f : ℕ → ℕ) (n : ℕ) (g : Function) → IsClosed others f n g → IsConst others (f n) 0
closed_const others f n Input h = absurd h
closed_const others f n (Const k) h = absurd h
closed_const others f n (Not a) h = absurd h
closed_const others f n (And a b) h = absurd h
closed_const others f n (Or a b) h = absurd h
closed_const others f n (Xor a b) h = absurd h
closed_const others f n (Mux s a b) h = absurd h
closed_const others f n (Add a b) h = absurd h
closed_const others f n (Sub a b) h = absurd h
closed_const others f n (Eq a b) h = absurd h
closed_const others f n (Less a b) h = absurd h
closed_const others f n (Gate s a) h = h.3
closed_const others f n (Reg a) h = absurd h

-- a closed gate is short too
pub closed_short : (others : List Cell) (f : ℕ → ℕ) (n w : ℕ) (g : Function) → IsClosed others f n g → IsShort others f n w g
closed_short others f n w Input h = absurd h
closed_short others f n w (Const k) h = absurd h
closed_short others f n w (Not a) h = absurd h
closed_short others f n w (And a b) h = absurd h
closed_short others f n w (Or a b) h = absurd h
closed_short others f n w (Xor a b) h = absurd h
closed_short others f n w (Mux s a b) h = absurd h
closed_short others f n w (Add a b) h = absurd h
closed_short others f n w (Sub a b) h = absurd h
closed_short others f n w (Eq a b) h = absurd h
closed_short others f n w (Less a b) h = absurd h
closed_short others f n w (Gate s a) h = inr h
closed_short others f n w (Reg a) h = absurd h

-- a cell that stays, as it is read
pub stays_read : (others : List Cell) (f : ℕ → ℕ) (n : ℕ) (c : Cell) → StaysAs others (f n) (with_renamed f c) → Stays others f n c
stays_read others f n c (inl kept) = inl kept
stays_read others f n c (inr (inl (k, folds, const))) = inr (inl (folded_read others f n c k folds const))
stays_read others f n c (inr (inr closed)) = inr (inr (closed_read others f n c.gate closed))
