-- Contexts: the places where a reached term may stand, one level deep.
--
-- Read first: Terms, Reach of gos_model. Each is a term with a hole at one reached place.
use Rattle.std.specs.Prelude.{ℕ, List, [], ◌∷◌}
use Rattle.gos_model.specs.Terms.{Name, Term, Op, Arr, App, Seq, Par, If, Assign, Deref, Not, Bin, Scope, Wait, Held, Put, Both}

-- A place of a term, with all that stands beside it. The index of an access stands at a port, or at an array of the program's own.
pub data Context : Type 0 where
  SeqFirst : (n : Term) → Context
  ParLeft : (n : Term) → Context
  ParRight : (m : Term) → Context
  IfTest : (n p : Term) → Context
  BinLeft : (op : Op) (n : Term) → Context
  HeldRight : (k : ℕ) (op : Op) → Context
  NotOf : Context
  AssignRight : (m : Term) → Context
  ScopeBody : (l : ℕ) → Context
  ReadIndex : (x : Name) (n : Term) → Context
  WriteIndex : (x : Name) (n : Term) (k : ℕ) → Context
  ReadAt : (l : ℕ) → Context
  WriteAt : (l k : ℕ) → Context

-- the term with m at that place
abbrev pub plug : Context → Term → Term
plug (SeqFirst n) m = Seq m n
plug (ParLeft n) m = Par m n
plug (ParRight n) m = Par n m
plug (IfTest n p) m = If m n p
plug (BinLeft op n) m = Bin op m n
plug (HeldRight k op) m = Held k op m
plug NotOf m = Not m
plug (AssignRight n) m = Assign n m
plug (ScopeBody l) m = Scope l m
plug (ReadIndex x n) m = Deref (App (Wait x 0) (Both n m))
plug (WriteIndex x n k) m = Put (App (Wait x 0) (Both n m)) k
plug (ReadAt l) m = Deref (App (Arr l) m)
plug (WriteAt l k) m = Put (App (Arr l) m) k

-- the term with m at the end of these places, the outermost first
abbrev pub plug_all : List Context → Term → Term
plug_all [] m = m
plug_all (c ∷ cs) m = plug c (plug_all cs m)

-- No other part of it is reached, and it shows nothing by itself: all contexts but the sides of `||`, and the index of an
-- access of a port, whose number is a label.
abbrev pub IsAlone : Context → Type 0
IsAlone (ParLeft n) = ⊥
IsAlone (ParRight m) = ⊥
IsAlone (ReadIndex x n) = ⊥
IsAlone (WriteIndex x n k) = ⊥
IsAlone c = Unit {0}

abbrev pub AllAlone : List Context → Type 0
AllAlone [] = Unit {0}
AllAlone (c ∷ cs) = IsAlone c × AllAlone cs
