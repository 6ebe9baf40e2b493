-- Computation steps of a running program.
--
-- Read first: Stores, Reach. What the parts must be stands in equations, so that a row is used by projection.
use Rattle.std.specs.Prelude.{◌≡◌, ℕ, ◌⊎◌, ◌∷◌, slice_get, Some, None}
use Rattle.gos_model.specs.Terms.{Term, Skip, Lit, App, Seq, Par, If, While, Assign, Deref, New, NewArray, Not, Bin, Loc, Arr, Scope, Held, Put, result_of, result_width, complement}
use Rattle.gos_model.specs.Substitution.{instantiate}
use Rattle.gos_model.specs.Stores.{Entry, variable_at, array_at, Store, entry_at, store_put, without}
use Rattle.gos_model.specs.Reach.{Rel, Reached}

-- the values: `skip` and literals
abbrev pub IsValue : Term → Type 0
IsValue m = (m ≡ Skip) ⊎ ((k : ℕ) × (w : ℕ) × (m ≡ Lit k w))

-- m stands for index i of location l: a variable for its only number, and an array with the number of an index for the one there
abbrev pub Locates : Term → ℕ → ℕ → Type 0
Locates m l i = ((m ≡ Loc l) × (i ≡ 0)) ⊎ ((w : ℕ) × (m ≡ App (Arr l) (Lit i w)))

-- One row for each form: a term with store s becomes t with store s', at the place itself. A loop becomes a choice,
-- an operator holds its left operand, and a new variable gets a location that the store doesn't have, with number 0. So does a
-- new array, with as many numbers as it is long. Only a number that the store has is read or written, so an index outside an
-- array has no step.
abbrev pub Computes : Store → Store → Rel
Computes s s' (Seq m n) t = (m ≡ Skip) × (t ≡ n) × (s' ≡ s)
Computes s s' (Par m n) t = (m ≡ Skip) × (n ≡ Skip) × (t ≡ Skip) × (s' ≡ s)
Computes s s' (If m n p) t = (((m ≡ Lit 1 1) × (t ≡ n)) ⊎ ((m ≡ Lit 0 1) × (t ≡ p))) × (s' ≡ s)
Computes s s' (While m n) t = (t ≡ If m (Seq n (While m n)) Skip) × (s' ≡ s)
Computes s s' (Bin op m n) t = (k : ℕ) × (w : ℕ) × (m ≡ Lit k w) × (t ≡ Held k op n) × (s' ≡ s)
Computes s s' (Held k op n) t =
    (j : ℕ) × (w : ℕ) × (n ≡ Lit j w) × (t ≡ Lit (result_of op w k j) (result_width op w)) × (s' ≡ s)
Computes s s' (Not m) t = (k : ℕ) × (w : ℕ) × (m ≡ Lit k w) × (t ≡ Lit (complement w k) w) × (s' ≡ s)
Computes s s' (Assign m n) t = (k : ℕ) × (w : ℕ) × (n ≡ Lit k w) × (t ≡ Put m k) × (s' ≡ s)
Computes s s' (Put m k) t =
    (e : Entry) × (i : ℕ) × (j : ℕ) × Locates m e.place i × (entry_at s e.place ≡ Some e) × (slice_get e.numbers i ≡ Some j)
    × (t ≡ Skip) × (s' ≡ store_put s e.place i k)
Computes s s' (Deref m) t =
    (e : Entry) × (i : ℕ) × (j : ℕ) × Locates m e.place i × (entry_at s e.place ≡ Some e) × (slice_get e.numbers i ≡ Some j)
    × (t ≡ Lit j e.width) × (s' ≡ s)
Computes s s' (New w m) t =
    (l : ℕ) × (entry_at s l ≡ None) × (t ≡ Scope l (instantiate m (Loc l))) × (s' ≡ variable_at l w 0 ∷ s)
Computes s s' (NewArray n w m) t =
    (l : ℕ) × (entry_at s l ≡ None) × (t ≡ Scope l (instantiate m (Arr l))) × (s' ≡ array_at l w n ∷ s)
Computes s s' (Scope l m) t = IsValue m × (t ≡ m) × (s' ≡ without s l)
Computes s s' m t = ⊥

-- one computation step at a reached place
abbrev pub Steps : Store → Store → Rel
Steps s s' = Reached (Computes s s')
