-- A closed typed term is still: it has no variable that a substitution finds or a binder shifts.
use Rattle.std.specs.Prelude.{◌≡◌, ℕ, suc, ◌<◌, ◌≤◌, Bool, true, false, List, [], ◌∷◌, length, nat_eq}
use Rattle.std.proofs.Common.{refl, ap, arith}
use Rattle.std.proofs.lemmas.Option.{slice_get_within}
use Rattle.gos_types.specs.Types.{Type', Com, Exp, Var, Pair, Fun}
use Rattle.gos_model.specs.Terms.{Term, Skip, Lit, Bound, Import, Lam, App, Both, Fst, Snd, Seq, Par, If, While, Assign, Deref, New, NewArray, Not, Bin, Loc, Arr, Scope, Wait, Held, Put}
use Rattle.gos_model.specs.Typing.{Imports, array_type, Typed}
use Rattle.gos_model.specs.Substitution.{put_at}
use Rattle.gos_check.specs.Nodes.{shifted}

pub other : (n d : ℕ) → n < d → nat_eq n d ≡ false
other n d l = by_test (nat_eq n d) refl
  where
    by_test : (b : Bool) → nat_eq n d ≡ b → nat_eq n d ≡ false
    by_test true e = let same : n ≡ d = grind (arith, e) in absurd (omega (arith, same, l))
    by_test false e = e

pub put_still : (i : Imports) (g : List Type') (m n : Term) (t : Type') (d : ℕ) → length g ≤ d → Typed i g m t → put_at d n m ≡ m
put_still i g Skip n t d l h = refl
put_still i g (Lit k w) n t d l h = refl
put_still i g (Bound j) n t d l h = let below = slice_get_within g j t h in let no = other j d (omega (arith, below, l)) in rw no refl
put_still i g (Import x) n t d l h = refl
put_still i g (Lam a m) n t d l (b, e, h) = ap (Lam a) (put_still i (a ∷ g) m n b (suc d) (omega (arith, l)) h)
put_still i g (App m p) n t d l (a, f, h, apart) =
    let x = put_still i g m n (Fun a t) d l f in let y = put_still i g p n a d l h in λ k. App (x k) (y k)
put_still i g (Both m p) n t d l (a, b, e, f, h) = let x = put_still i g m n a d l f in let y = put_still i g p n b d l h in λ k. Both (x k) (y k)
put_still i g (Fst m) n t d l (b, h) = ap Fst (put_still i g m n (Pair t b) d l h)
put_still i g (Snd m) n t d l (a, h) = ap Snd (put_still i g m n (Pair a t) d l h)
put_still i g (Seq m p) n t d l (done, f, h) = let x = put_still i g m n Com d l f in let y = put_still i g p n t d l h in λ k. Seq (x k) (y k)
put_still i g (Par m p) n t d l (e, f, h, apart) = let x = put_still i g m n Com d l f in let y = put_still i g p n Com d l h in λ k. Par (x k) (y k)
put_still i g (If m p q) n t d l (done, f, h, j) =
    let x = put_still i g m n (Exp 1) d l f in let y = put_still i g p n t d l h in let z = put_still i g q n t d l j in λ k. If (x k) (y k) (z k)
put_still i g (While m p) n t d l (e, f, h) = let x = put_still i g m n (Exp 1) d l f in let y = put_still i g p n Com d l h in λ k. While (x k) (y k)
put_still i g (Assign m p) n t d l (w, e, f, h) =
    let x = put_still i g m n (Var w) d l f in let y = put_still i g p n (Exp w) d l h in λ k. Assign (x k) (y k)
put_still i g (Deref m) n t d l (w, e, h) = ap Deref (put_still i g m n (Var w) d l h)
put_still i g (New w m) n t d l (done, wide, h) = ap (New w) (put_still i (Var w ∷ g) m n t (suc d) (omega (arith, l)) h)
put_still i g (NewArray c w m) n t d l (done, length, wide, h) =
    ap (NewArray c w) (put_still i (array_type c w ∷ g) m n t (suc d) (omega (arith, l)) h)
put_still i g (Not m) n t d l (w, e, h) = ap Not (put_still i g m n (Exp w) d l h)
put_still i g (Bin op m p) n t d l (w, e, f, h) =
    let x = put_still i g m n (Exp w) d l f in let y = put_still i g p n (Exp w) d l h in λ k. Bin op (x k) (y k)
put_still i g (Loc j) n t d l h = absurd h
put_still i g (Arr j) n t d l h = absurd h
put_still i g (Scope j m) n t d l h = absurd h
put_still i g (Wait x s) n t d l h = absurd h
put_still i g (Held k op m) n t d l h = absurd h
put_still i g (Put m k) n t d l h = absurd h

-- and a binder shifts nothing of it
pub shift_still : (i : Imports) (m : Term) (t : Type') → Typed i [] m t → shifted m ≡ m
shift_still i Skip t h = refl
shift_still i (Lit k w) t h = refl
shift_still i (Bound j) t h = absurd (cc h)
shift_still i (Import x) t h = refl
shift_still i (Lam a m) t h = refl
shift_still i (App m p) t h = refl
shift_still i (Both m p) t h = refl
shift_still i (Fst m) t h = refl
shift_still i (Snd m) t h = refl
shift_still i (Seq m p) t h = refl
shift_still i (Par m p) t h = refl
shift_still i (If m p q) t h = refl
shift_still i (While m p) t h = refl
shift_still i (Assign m p) t h = refl
shift_still i (Deref m) t h = refl
shift_still i (New w m) t h = refl
shift_still i (NewArray n w m) t h = refl
shift_still i (Not m) t h = refl
shift_still i (Bin op m p) t h = refl
shift_still i (Loc j) t h = refl
shift_still i (Arr j) t h = refl
shift_still i (Scope j m) t h = refl
shift_still i (Wait x s) t h = refl
shift_still i (Held k op m) t h = refl
shift_still i (Put m k) t h = refl
