-- Renaming of the locations of a term and of a store.
--
-- Read first: Stores of gos_model. Which numbers stand for the variables of a program doesn't matter.
use Rattle.std.specs.Prelude.{◌≡◌, ℕ, [], ◌∷◌, ◌++◌, None}
use Rattle.gos_model.specs.Terms.{Term, Skip, Lit, Bound, Import, Lam, App, Both, Fst, Snd, Seq, Par, If, While, Assign, Deref, New, NewArray, Not, Bin, Loc, Arr, Scope, Wait, Held, Put}
use Rattle.gos_model.specs.Stores.{Store, entry_at}

-- the term with each location renamed
abbrev pub renamed : (ℕ → ℕ) → Term → Term
renamed r Skip = Skip
renamed r (Lit k w) = Lit k w
renamed r (Bound n) = Bound n
renamed r (Import x) = Import x
renamed r (Lam a m) = Lam a (renamed r m)
renamed r (App m n) = App (renamed r m) (renamed r n)
renamed r (Both m n) = Both (renamed r m) (renamed r n)
renamed r (Fst m) = Fst (renamed r m)
renamed r (Snd m) = Snd (renamed r m)
renamed r (Seq m n) = Seq (renamed r m) (renamed r n)
renamed r (Par m n) = Par (renamed r m) (renamed r n)
renamed r (If m n p) = If (renamed r m) (renamed r n) (renamed r p)
renamed r (While m n) = While (renamed r m) (renamed r n)
renamed r (Assign m n) = Assign (renamed r m) (renamed r n)
renamed r (Deref m) = Deref (renamed r m)
renamed r (New w m) = New w (renamed r m)
renamed r (NewArray n w m) = NewArray n w (renamed r m)
renamed r (Not m) = Not (renamed r m)
renamed r (Bin op m n) = Bin op (renamed r m) (renamed r n)
renamed r (Loc l) = Loc (r l)
renamed r (Arr l) = Arr (r l)
renamed r (Scope l m) = Scope (r l) (renamed r m)
renamed r (Wait x s) = Wait x s
renamed r (Held k op n) = Held k op (renamed r n)
renamed r (Put m k) = Put (renamed r m) k

-- the store with each location renamed
abbrev pub renamed_store : (ℕ → ℕ) → Store → Store
renamed_store r [] = []
renamed_store r (e ∷ s) = record e { place = r e.place } ∷ renamed_store r s

-- no two locations get one name
abbrev pub IsInjective : (ℕ → ℕ) → Type 0
IsInjective r = (k l : ℕ) → r k ≡ r l → k ≡ l

-- a store has nothing at any location that the renaming gives
abbrev pub IsFreeOf : (ℕ → ℕ) → Store → Type 0
IsFreeOf r f = (l : ℕ) → entry_at f (r l) ≡ None

-- the renamed store, with others beside it
abbrev pub beside : (ℕ → ℕ) → Store → Store → Store
beside r s f = renamed_store r s ++ f
