-- Types under other widths and more binders, and the types of sources.
use Rattle.std.specs.Prelude.{◌≡◌, ◌<◌, ℕ, zero, suc, List, ◌∷◌, Some, slice_get}
use Rattle.std.proofs.Common.{arith, inl, inr}
use Rattle.gos_types.specs.Types.{Type', Com, Exp, Var, Pair, Fun}
use Rattle.gos_model.specs.Terms.{Term, Skip, Lit, Bound, Import, Lam, App, Both, Fst, Snd, Seq, Par, If, While, Assign, Deref, New, Not, Bin, Loc, Scope, Wait, Held, Put, NewArray, Arr}
use Rattle.gos_model.specs.Typing.{Imports, Typed, array_type, IsLength}
use Rattle.gos_model.specs.Stores.{Store}
use Rattle.gos_programs.specs.contexts.Standing.{Present, StandsIn}
use Rattle.gos_programs.specs.results.HasTypes.{Widths, HasType}

-- what has a width has it there too
abbrev pub AreWidths : Widths → Widths → Type 0
AreWidths ws vs = (l n w : ℕ) → ws l n w → vs l n w

-- each binder of the first list has its type in the second one
abbrev pub AreBound : List Type' → List Type' → Type 0
AreBound g h = (n : ℕ) (t : Type') → slice_get g n ≡ Some t → slice_get h n ≡ Some t

bound_under : (g h : List Type') (a : Type') → AreBound g h → AreBound (a ∷ g) (a ∷ h)
bound_under g h a f zero t e = e
bound_under g h a f (suc n) t e = f n t e

-- under other widths and more binders
pub widened : (ws vs : Widths) (i : Imports) → AreWidths ws vs → (m : Term) (g h : List Type') (t : Type') → AreBound g h
    → HasType ws i g m t → HasType vs i h m t
widened ws vs i f Skip g h t b k = k
widened ws vs i f (Lit j w) g h t b k = k
widened ws vs i f (Bound n) g h t b k = b n t k
widened ws vs i f (Import x) g h t b k = k
widened ws vs i f (Lam a m) g h t b (c, e, k) = (c, e, widened ws vs i f m (a ∷ g) (a ∷ h) c (bound_under g h a b) k)
widened ws vs i f (App m n) g h t b (a, k, l) = (a, widened ws vs i f m g h (Fun a t) b k, widened ws vs i f n g h a b l)
widened ws vs i f (Both m n) g h t b (a, c, e, k, l) = (a, c, e, widened ws vs i f m g h a b k, widened ws vs i f n g h c b l)
widened ws vs i f (Fst m) g h t b (c, k) = (c, widened ws vs i f m g h (Pair t c) b k)
widened ws vs i f (Snd m) g h t b (a, k) = (a, widened ws vs i f m g h (Pair a t) b k)
widened ws vs i f (Seq m n) g h t b (d, k, l) = (d, widened ws vs i f m g h Com b k, widened ws vs i f n g h t b l)
widened ws vs i f (Par m n) g h t b (e, k, l) = (e, widened ws vs i f m g h Com b k, widened ws vs i f n g h Com b l)
widened ws vs i f (If m n p) g h t b (d, k, l, o) =
    (d, widened ws vs i f m g h (Exp 1) b k, widened ws vs i f n g h t b l, widened ws vs i f p g h t b o)
widened ws vs i f (While m n) g h t b (e, k, l) = (e, widened ws vs i f m g h (Exp 1) b k, widened ws vs i f n g h Com b l)
widened ws vs i f (Assign m n) g h t b (w, e, k, l) = (w, e, widened ws vs i f m g h (Var w) b k, widened ws vs i f n g h (Exp w) b l)
widened ws vs i f (Deref m) g h t b (w, e, k) = (w, e, widened ws vs i f m g h (Var w) b k)
widened ws vs i f (New w m) g h t b (d, k) = (d, widened ws vs i f m (Var w ∷ g) (Var w ∷ h) t (bound_under g h (Var w) b) k)
widened ws vs i f (NewArray n w m) g h t b (d, some, k) = (d, some, widened ws vs i f m (array_type n w ∷ g) (array_type n w ∷ h) t (bound_under g h (array_type n w) b) k)
widened ws vs i f (Not m) g h t b (w, e, k) = (w, e, widened ws vs i f m g h (Exp w) b k)
widened ws vs i f (Bin op m n) g h t b (w, e, k, l) = (w, e, widened ws vs i f m g h (Exp w) b k, widened ws vs i f n g h (Exp w) b l)
widened ws vs i f (Loc l) g h t b (w, e, k) = (w, e, f l 1 w k)
widened ws vs i f (Arr l) g h t b (n, w, e, long, k) = (n, w, e, long, f l n w k)
widened ws vs i f (Scope l m) g h t b (d, k) = (d, widened ws vs i f m g h t b k)
widened ws vs i f (Wait x n) g h t b k = k
widened ws vs i f (Held j op n) g h t b (w, e, fits, k) = (w, e, fits, widened ws vs i f n g h (Exp w) b k)
widened ws vs i f (Put m j) g h t b (w, e, fits, k) = (w, e, fits, widened ws vs i f m g h (Var w) b k)

-- under the widths of a store in which each of its locations has an entry
pub settled : (ws vs : Widths) (i : Imports) (s : Store) → ((l n w : ℕ) → ws l n w → Present s l → vs l n w) → (m : Term) (g : List Type') (t : Type')
    → StandsIn s m → HasType ws i g m t → HasType vs i g m t
settled ws vs i s f Skip g t b k = k
settled ws vs i s f (Lit j w) g t b k = k
settled ws vs i s f (Bound n) g t b k = k
settled ws vs i s f (Import x) g t b k = k
settled ws vs i s f (Lam a m) g t b (c, e, k) = (c, e, settled ws vs i s f m (a ∷ g) c b k)
settled ws vs i s f (App m n) g t b (a, k, l) = (a, settled ws vs i s f m g (Fun a t) b.0 k, settled ws vs i s f n g a b.1 l)
settled ws vs i s f (Both m n) g t b (a, c, e, k, l) = (a, c, e, settled ws vs i s f m g a b.0 k, settled ws vs i s f n g c b.1 l)
settled ws vs i s f (Fst m) g t b (c, k) = (c, settled ws vs i s f m g (Pair t c) b k)
settled ws vs i s f (Snd m) g t b (a, k) = (a, settled ws vs i s f m g (Pair a t) b k)
settled ws vs i s f (Seq m n) g t b (d, k, l) = (d, settled ws vs i s f m g Com b.0 k, settled ws vs i s f n g t b.1 l)
settled ws vs i s f (Par m n) g t b (e, k, l) = (e, settled ws vs i s f m g Com b.0 k, settled ws vs i s f n g Com b.1 l)
settled ws vs i s f (If m n p) g t b (d, k, l, o) =
    (d, settled ws vs i s f m g (Exp 1) b.0 k, settled ws vs i s f n g t b.1 l, settled ws vs i s f p g t b.2 o)
settled ws vs i s f (While m n) g t b (e, k, l) = (e, settled ws vs i s f m g (Exp 1) b.0 k, settled ws vs i s f n g Com b.1 l)
settled ws vs i s f (Assign m n) g t b (w, e, k, l) = (w, e, settled ws vs i s f m g (Var w) b.0 k, settled ws vs i s f n g (Exp w) b.1 l)
settled ws vs i s f (Deref m) g t b (w, e, k) = (w, e, settled ws vs i s f m g (Var w) b k)
settled ws vs i s f (New w m) g t b (d, k) = (d, settled ws vs i s f m (Var w ∷ g) t b k)
settled ws vs i s f (NewArray n w m) g t b (d, some, k) = (d, some, settled ws vs i s f m (array_type n w ∷ g) t b k)
settled ws vs i s f (Not m) g t b (w, e, k) = (w, e, settled ws vs i s f m g (Exp w) b k)
settled ws vs i s f (Bin op m n) g t b (w, e, k, l) = (w, e, settled ws vs i s f m g (Exp w) b.0 k, settled ws vs i s f n g (Exp w) b.1 l)
settled ws vs i s f (Loc l) g t b (w, e, k) = (w, e, f l 1 w k b)
settled ws vs i s f (Arr l) g t b (n, w, e, long, k) = (n, w, e, long, f l n w k b)
settled ws vs i s f (Scope l m) g t b (d, k) = (d, settled ws vs i s f m g t b.1 k)
settled ws vs i s f (Wait x n) g t b k = k
settled ws vs i s f (Held j op n) g t b (w, e, fits, k) = (w, e, fits, settled ws vs i s f n g (Exp w) b k)
settled ws vs i s f (Put m j) g t b (w, e, fits, k) = (w, e, fits, settled ws vs i s f m g (Var w) b k)

-- an array has a number
pub some_numbers : (n : ℕ) → IsLength n → 0 < n
some_numbers n (inl e) = omega (arith, e)
some_numbers n (inr (inl e)) = omega (arith, e)
some_numbers n (inr (inr (inl e))) = omega (arith, e)
some_numbers n (inr (inr (inr e))) = omega (arith, e)

-- a source has its type under all widths
pub sources_have : (ws : Widths) (i : Imports) (g : List Type') (m : Term) (t : Type') → Typed i g m t → HasType ws i g m t
sources_have ws i g Skip t h = h
sources_have ws i g (Lit k w) t h = (h.0, h.2)
sources_have ws i g (Bound n) t h = h
sources_have ws i g (Import x) t h = h
sources_have ws i g (Lam a m) t (b, e, h) = (b, e, sources_have ws i (a ∷ g) m b h)
sources_have ws i g (App m n) t (a, h, k, apart) = (a, sources_have ws i g m (Fun a t) h, sources_have ws i g n a k)
sources_have ws i g (Both m n) t (a, b, e, h, k) = (a, b, e, sources_have ws i g m a h, sources_have ws i g n b k)
sources_have ws i g (Fst m) t (b, h) = (b, sources_have ws i g m (Pair t b) h)
sources_have ws i g (Snd m) t (a, h) = (a, sources_have ws i g m (Pair a t) h)
sources_have ws i g (Seq m n) t (d, h, k) = (d, sources_have ws i g m Com h, sources_have ws i g n t k)
sources_have ws i g (Par m n) t (e, h, k, apart) = (e, sources_have ws i g m Com h, sources_have ws i g n Com k)
sources_have ws i g (If m n p) t (d, h, k, o) = (d, sources_have ws i g m (Exp 1) h, sources_have ws i g n t k, sources_have ws i g p t o)
sources_have ws i g (While m n) t (e, h, k) = (e, sources_have ws i g m (Exp 1) h, sources_have ws i g n Com k)
sources_have ws i g (Assign m n) t (w, e, h, k) = (w, e, sources_have ws i g m (Var w) h, sources_have ws i g n (Exp w) k)
sources_have ws i g (Deref m) t (w, e, h) = (w, e, sources_have ws i g m (Var w) h)
sources_have ws i g (New w m) t (d, k, h) = (d, sources_have ws i (Var w ∷ g) m t h)
sources_have ws i g (NewArray n w m) t (d, l, k, h) = (d, l, sources_have ws i (array_type n w ∷ g) m t h)
sources_have ws i g (Not m) t (w, e, h) = (w, e, sources_have ws i g m (Exp w) h)
sources_have ws i g (Bin op m n) t (w, e, h, k) = (w, e, sources_have ws i g m (Exp w) h, sources_have ws i g n (Exp w) k)
sources_have ws i g (Loc l) t h = absurd h
sources_have ws i g (Arr l) t h = absurd h
sources_have ws i g (Scope l m) t h = absurd h
sources_have ws i g (Wait x s) t h = absurd h
sources_have ws i g (Held k op n) t h = absurd h
sources_have ws i g (Put m k) t h = absurd h
