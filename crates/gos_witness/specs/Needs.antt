-- How many binders around it a term needs.
--
-- Read first: Substitution of gos_model. A term that needs none is closed, and nothing is put into it.
use Rattle.std.specs.Prelude.{ℕ, ◌+◌, ◌-◌, max}
use Rattle.gos_model.specs.Terms.{Term, Skip, Lit, Bound, Import, Lam, App, Both, Fst, Snd, Seq, Par, If, While, Assign, Deref, New, NewArray, Not, Bin, Loc, Arr, Scope, Wait, Held, Put}

abbrev pub needs : Term → ℕ
needs Skip = 0
needs (Lit k w) = 0
needs (Bound n) = n + 1
needs (Import x) = 0
needs (Lam a m) = needs m - 1
needs (App m n) = max (needs m) (needs n)
needs (Both m n) = max (needs m) (needs n)
needs (Fst m) = needs m
needs (Snd m) = needs m
needs (Seq m n) = max (needs m) (needs n)
needs (Par m n) = max (needs m) (needs n)
needs (If m n p) = max (needs m) (max (needs n) (needs p))
needs (While m n) = max (needs m) (needs n)
needs (Assign m n) = max (needs m) (needs n)
needs (Deref m) = needs m
needs (New w m) = needs m - 1
needs (NewArray n w m) = needs m - 1
needs (Not m) = needs m
needs (Bin op m n) = max (needs m) (needs n)
needs (Loc l) = 0
needs (Arr l) = 0
needs (Scope l m) = needs m
needs (Wait x s) = 0
needs (Held k op n) = needs n
needs (Put m k) = needs m
