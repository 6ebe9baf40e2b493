-- A typed body is narrow.
use Rattle.std.proofs.Common.{◌≤◌, ℕ, List, ◌∷◌, arith}
use Rattle.gos_types.specs.Types.{Type', Var}
use Rattle.gos_types.specs.Widths.{IsWidth}
use Rattle.gos_model.specs.Terms.{Term, Skip, Lit, Bound, Import, Lam, App, Both, Fst, Snd, Seq, Par, If, While, Assign, Deref, New, NewArray, Not, Bin, Loc, Arr, Scope, Wait, Held, Put}
use Rattle.gos_model.specs.Typing.{Imports, array_type, Typed}
use Rattle.gos_witness.specs.Substituted.{HasNarrow}

below_64 : (w : ℕ) → IsWidth w → w ≤ 64
below_64 w (least, most) = omega (arith, most)

pub typed_narrow : (is : Imports) (g : List Type') (m : Term) (t : Type') → Typed is g m t → HasNarrow m
typed_narrow is g Skip t h = tt
typed_narrow is g (Lit k w) t (e, width, low) = below_64 w width
typed_narrow is g (Bound n) t h = tt
typed_narrow is g (Import x) t h = tt
typed_narrow is g (Lam a m) t (b, e, h) = typed_narrow is (a ∷ g) m b h
typed_narrow is g (App m n) t (a, h, k, apart) = (typed_narrow is g m _ h, typed_narrow is g n a k)
typed_narrow is g (Both m n) t (a, b, e, h, k) = (typed_narrow is g m a h, typed_narrow is g n b k)
typed_narrow is g (Fst m) t (b, h) = typed_narrow is g m _ h
typed_narrow is g (Snd m) t (a, h) = typed_narrow is g m _ h
typed_narrow is g (Seq m n) t (done, h, k) = (typed_narrow is g m _ h, typed_narrow is g n t k)
typed_narrow is g (Par m n) t (e, h, k, apart) = (typed_narrow is g m _ h, typed_narrow is g n _ k)
typed_narrow is g (If m n p) t (done, h, k, l) = (typed_narrow is g m _ h, typed_narrow is g n t k, typed_narrow is g p t l)
typed_narrow is g (While m n) t (e, h, k) = (typed_narrow is g m _ h, typed_narrow is g n _ k)
typed_narrow is g (Assign m n) t (w, e, h, k) = (typed_narrow is g m _ h, typed_narrow is g n _ k)
typed_narrow is g (Deref m) t (w, e, h) = typed_narrow is g m _ h
typed_narrow is g (New w m) t (done, width, h) = (below_64 w width, typed_narrow is (Var w ∷ g) m t h)
typed_narrow is g (NewArray n w m) t (done, length, width, h) = (below_64 w width, typed_narrow is (array_type n w ∷ g) m t h)
typed_narrow is g (Not m) t (w, e, h) = typed_narrow is g m _ h
typed_narrow is g (Bin op m n) t (w, e, h, k) = (typed_narrow is g m _ h, typed_narrow is g n _ k)
typed_narrow is g (Loc l) t h = absurd h
typed_narrow is g (Arr l) t h = absurd h
typed_narrow is g (Scope l m) t h = absurd h
typed_narrow is g (Wait x s) t h = absurd h
typed_narrow is g (Held k op n) t h = absurd h
typed_narrow is g (Put m k) t h = absurd h
