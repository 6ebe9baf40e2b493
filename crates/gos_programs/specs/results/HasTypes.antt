-- The types of running terms.
--
-- Read first: Typing, Stores, Labels of gos_model. `Typed` has rows for sources; here are rows for the running forms too, over
-- the widths of the variables that a store has (Wright and Felleisen 1994). What parts share is not asked: it has no bearing
-- on the type of a result.
use Rattle.std.specs.Prelude.{◌≡◌, ℕ, zero, suc, ◌^◌, ◌<◌, List, [], ◌∷◌, length, Option, Some, slice_get}
use Rattle.gos_types.specs.Types.{Type', Com, Exp, Var, Pair, Fun, IsDone}
use Rattle.gos_model.specs.Terms.{Term, Skip, Lit, Bound, Import, Lam, App, Both, Fst, Snd, Seq, Par, If, While, Assign, Deref, New, NewArray, Not, Bin, Loc, Arr, Scope, Wait, Held, Put, result_width}
use Rattle.gos_model.specs.Typing.{Imports, import_type, IsLength, array_type}
use Rattle.gos_model.specs.Stores.{Entry, Store, entry_at}

-- how many numbers a location has, and of which width
abbrev pub Widths : Type 1
Widths = ℕ → (n w : ℕ) → Type 0

-- those of a store: a variable has one number
abbrev pub widths_of : Store → Widths
widths_of s l n w = (e : Entry) × (entry_at s l ≡ Some e) × (e.width ≡ w) × (length e.numbers ≡ n)

-- each of these numbers has at most w bits
abbrev pub FitIn : ℕ → List ℕ → Type 0
FitIn w ks = (j k : ℕ) → slice_get ks j ≡ Some k → k < 2 ^ w

-- a location has a number, and each of its numbers has at most its bits
abbrev pub EntryFits : Entry → Type 0
EntryFits e = (0 < length e.numbers) × FitIn e.width e.numbers

-- so it is at each location of a store
abbrev pub NumbersFit : Store → Type 0
NumbersFit s = (l : ℕ) (e : Entry) → entry_at s l ≡ Some e → EntryFits e

-- The type of what the answer with this event number leaves, at a port of this type. In the access of an array what
-- waits takes a pair, of the index as it was written and as it is now.
abbrev pub AnswersWith : Option Type' → ℕ → Type' → Type 0
AnswersWith (Some Com) (suc zero) t = t ≡ Com
AnswersWith (Some (Exp w)) (suc zero) t = t ≡ Exp w
AnswersWith (Some (Var w)) (suc zero) t = t ≡ Exp w
AnswersWith (Some (Var w)) (suc (suc (suc zero))) t = t ≡ Com
AnswersWith (Some (Fun (Exp i) (Var w))) zero t = t ≡ Fun (Pair (Exp i) (Exp i)) (Var w)
AnswersWith (Some (Fun (Exp i) (Var w))) (suc zero) t = t ≡ Fun (Pair (Exp i) (Exp i)) (Var w)
AnswersWith o n t = ⊥

-- A running term, over these widths, with imports i and under binders of the types g, the innermost first, has type t.
abbrev pub HasType : Widths → Imports → List Type' → Term → Type' → Type 0
HasType ws i g Skip t = t ≡ Com
HasType ws i g (Lit k w) t = (t ≡ Exp w) × (k < 2 ^ w)
HasType ws i g (Bound n) t = slice_get g n ≡ Some t
HasType ws i g (Import x) t = import_type i x ≡ Some t
HasType ws i g (Lam a m) t = (b : Type') × (t ≡ Fun a b) × HasType ws i (a ∷ g) m b
HasType ws i g (App m n) t = (a : Type') × HasType ws i g m (Fun a t) × HasType ws i g n a
HasType ws i g (Both m n) t = (a : Type') × (b : Type') × (t ≡ Pair a b) × HasType ws i g m a × HasType ws i g n b
HasType ws i g (Fst m) t = (b : Type') × HasType ws i g m (Pair t b)
HasType ws i g (Snd m) t = (a : Type') × HasType ws i g m (Pair a t)
HasType ws i g (Seq m n) t = IsDone t × HasType ws i g m Com × HasType ws i g n t
HasType ws i g (Par m n) t = (t ≡ Com) × HasType ws i g m Com × HasType ws i g n Com
HasType ws i g (If m n p) t = IsDone t × HasType ws i g m (Exp 1) × HasType ws i g n t × HasType ws i g p t
HasType ws i g (While m n) t = (t ≡ Com) × HasType ws i g m (Exp 1) × HasType ws i g n Com
HasType ws i g (Assign m n) t = (w : ℕ) × (t ≡ Com) × HasType ws i g m (Var w) × HasType ws i g n (Exp w)
HasType ws i g (Deref m) t = (w : ℕ) × (t ≡ Exp w) × HasType ws i g m (Var w)
HasType ws i g (New w m) t = IsDone t × HasType ws i (Var w ∷ g) m t
HasType ws i g (NewArray n w m) t = IsDone t × IsLength n × HasType ws i (array_type n w ∷ g) m t
HasType ws i g (Not m) t = (w : ℕ) × (t ≡ Exp w) × HasType ws i g m (Exp w)
HasType ws i g (Bin op m n) t = (w : ℕ) × (t ≡ Exp (result_width op w)) × HasType ws i g m (Exp w) × HasType ws i g n (Exp w)
HasType ws i g (Loc l) t = (w : ℕ) × (t ≡ Var w) × ws l 1 w
HasType ws i g (Arr l) t = (n : ℕ) × (w : ℕ) × (t ≡ array_type n w) × IsLength n × ws l n w
HasType ws i g (Scope l m) t = IsDone t × HasType ws i g m t
HasType ws i g (Wait x n) t = AnswersWith (import_type i x) n t
HasType ws i g (Held k op n) t = (w : ℕ) × (t ≡ Exp (result_width op w)) × (k < 2 ^ w) × HasType ws i g n (Exp w)
HasType ws i g (Put m k) t = (w : ℕ) × (t ≡ Com) × (k < 2 ^ w) × HasType ws i g m (Var w)

-- a running term, with its store, has type t
abbrev pub RunsAs : Imports → Term → Store → Type' → Type 0
RunsAs i m s t = HasType (widths_of s) i [] m t × NumbersFit s
