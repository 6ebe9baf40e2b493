-- How many nodes a term has.
--
-- Read first: Terms of gos_model. Types, numbers, names and locations are no nodes of their own.
use Rattle.std.specs.Prelude.{ℕ, ◌+◌}
use Rattle.gos_model.specs.Terms.{Term, Skip, Lit, Bound, Import, Lam, App, Both, Fst, Snd, Seq, Par, If, While, Assign, Deref, New, NewArray, Not, Bin, Loc, Arr, Scope, Wait, Held, Put}
use Rattle.gos_model.specs.Moves.{Config, Idle, Running}

abbrev pub size : Term → ℕ
size Skip = 1
size (Lit k w) = 1
size (Bound n) = 1
size (Import x) = 1
size (Lam a m) = 1 + size m
size (App m n) = 1 + size m + size n
size (Both m n) = 1 + size m + size n
size (Fst m) = 1 + size m
size (Snd m) = 1 + size m
size (Seq m n) = 1 + size m + size n
size (Par m n) = 1 + size m + size n
size (If m n p) = 1 + size m + size n + size p
size (While m n) = 1 + size m + size n
size (Assign m n) = 1 + size m + size n
size (Deref m) = 1 + size m
size (New w m) = 1 + size m
size (NewArray n w m) = 1 + size m
size (Not m) = 1 + size m
size (Bin op m n) = 1 + size m + size n
size (Loc l) = 1
size (Arr l) = 1
size (Scope l m) = 1 + size m
size (Wait x s) = 1
size (Held k op n) = 1 + size n
size (Put m k) = 1 + size m

-- of the term of a configuration; Idle has none
abbrev pub size_of : Config → ℕ
size_of Idle = 0
size_of (Running m s) = size m
