-- Substitution of a closed term for a bound variable.
--
-- Read first: Terms. What is put in has no free bound variable, and the variable is the outermost one. So nothing is
-- captured, and no number needs a shift.
use Rattle.std.specs.Prelude.{ℕ, suc, nat_eq, if◌then◌else◌}
use Rattle.gos_model.specs.Terms.{Term, Skip, Lit, Bound, Import, Lam, App, Both, Fst, Snd, Seq, Par, If, While, Assign, Deref, New, NewArray, Not, Bin, Loc, Arr, Scope, Wait, Held, Put}

-- m with n for the variable whose binder stands just outside d binders of m
abbrev pub put_at : ℕ → Term → Term → Term
put_at d n Skip = Skip
put_at d n (Lit k w) = Lit k w
put_at d n (Bound i) = if nat_eq i d then n else Bound i
put_at d n (Import x) = Import x
put_at d n (Lam a m) = Lam a (put_at (suc d) n m)
put_at d n (App m p) = App (put_at d n m) (put_at d n p)
put_at d n (Both m p) = Both (put_at d n m) (put_at d n p)
put_at d n (Fst m) = Fst (put_at d n m)
put_at d n (Snd m) = Snd (put_at d n m)
put_at d n (Seq m p) = Seq (put_at d n m) (put_at d n p)
put_at d n (Par m p) = Par (put_at d n m) (put_at d n p)
put_at d n (If m p q) = If (put_at d n m) (put_at d n p) (put_at d n q)
put_at d n (While m p) = While (put_at d n m) (put_at d n p)
put_at d n (Assign m p) = Assign (put_at d n m) (put_at d n p)
put_at d n (Deref m) = Deref (put_at d n m)
put_at d n (New w m) = New w (put_at (suc d) n m)
put_at d n (NewArray k w m) = NewArray k w (put_at (suc d) n m)
put_at d n (Not m) = Not (put_at d n m)
put_at d n (Bin op m p) = Bin op (put_at d n m) (put_at d n p)
put_at d n (Loc l) = Loc l
put_at d n (Arr l) = Arr l
put_at d n (Scope l m) = Scope l (put_at d n m)
put_at d n (Wait x s) = Wait x s
put_at d n (Held k op m) = Held k op (put_at d n m)
put_at d n (Put m k) = Put (put_at d n m) k

-- `m[n]`: n for the outermost bound variable of m
abbrev pub instantiate : Term → Term → Term
instantiate m n = put_at 0 n m
