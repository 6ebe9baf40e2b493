-- Waits for an answer at one port, and what each move makes of their number.
--
-- Read first: Moves of gos_model. A request puts a wait at a reached place, and an answer takes one away. Nothing else makes, copies
-- or drops one, as long as all of them stand at reached places.
use Rattle.std.specs.Prelude.{◌≡◌, ◌⊎◌, ℕ, ◌+◌, ◌&&◌, not, false, List, if◌then◌else◌}
use Rattle.std.specs.Str.{bytes_eq}
use Rattle.gos_types.specs.Types.{Type'}
use Rattle.gos_model.specs.Terms.{Name, Term, Skip, Lit, Bound, Import, Lam, App, Both, Fst, Snd, Seq, Par, If, While, Assign, Deref, New, NewArray, Not, Bin, Loc, Arr, Scope, Wait, Held, Put}
use Rattle.gos_model.specs.Typing.{Imports, Typed}
use Rattle.gos_model.specs.Stores.{Store}
use Rattle.gos_model.specs.Reach.{IsArrayHead, IsArrayPlace}
use Rattle.gos_model.specs.Accesses.{IsArrayImport}
use Rattle.gos_model.specs.Labels.{Port, Given, Taken, is_answer}
use Rattle.gos_model.specs.Moves.{Program, Running, Act, Computing, Showing, Unfoldings, Move}

-- nothing in the term waits for an answer at this port
abbrev pub HasNoWaitAt : Name → Term → Type 0
HasNoWaitAt y Skip = Unit {0}
HasNoWaitAt y (Lit k w) = Unit {0}
HasNoWaitAt y (Bound n) = Unit {0}
HasNoWaitAt y (Import x) = Unit {0}
HasNoWaitAt y (Lam a m) = HasNoWaitAt y m
HasNoWaitAt y (App m n) = HasNoWaitAt y m × HasNoWaitAt y n
HasNoWaitAt y (Both m n) = HasNoWaitAt y m × HasNoWaitAt y n
HasNoWaitAt y (Fst m) = HasNoWaitAt y m
HasNoWaitAt y (Snd m) = HasNoWaitAt y m
HasNoWaitAt y (Seq m n) = HasNoWaitAt y m × HasNoWaitAt y n
HasNoWaitAt y (Par m n) = HasNoWaitAt y m × HasNoWaitAt y n
HasNoWaitAt y (If m n p) = HasNoWaitAt y m × HasNoWaitAt y n × HasNoWaitAt y p
HasNoWaitAt y (While m n) = HasNoWaitAt y m × HasNoWaitAt y n
HasNoWaitAt y (Assign m n) = HasNoWaitAt y m × HasNoWaitAt y n
HasNoWaitAt y (Deref m) = HasNoWaitAt y m
HasNoWaitAt y (New w m) = HasNoWaitAt y m
HasNoWaitAt y (NewArray n w m) = HasNoWaitAt y m
HasNoWaitAt y (Not m) = HasNoWaitAt y m
HasNoWaitAt y (Bin op m n) = HasNoWaitAt y m × HasNoWaitAt y n
HasNoWaitAt y (Loc l) = Unit {0}
HasNoWaitAt y (Arr l) = Unit {0}
HasNoWaitAt y (Scope l m) = HasNoWaitAt y m
HasNoWaitAt y (Wait x n) = bytes_eq x y ≡ false
HasNoWaitAt y (Held k op n) = HasNoWaitAt y n
HasNoWaitAt y (Put m k) = HasNoWaitAt y m

abbrev mutual
  -- the term has n waits at this port, and each of them stands at a reached place
  pub WaitsAt : Name → ℕ → Term → Type 0
  WaitsAt y n (Seq a b) = WaitsAt y n a × HasNoWaitAt y b
  WaitsAt y n (Par a b) = (j : ℕ) × (k : ℕ) × (n ≡ j + k) × WaitsAt y j a × WaitsAt y k b
  WaitsAt y n (If a b c) = WaitsAt y n a × HasNoWaitAt y b × HasNoWaitAt y c
  WaitsAt y n (Assign a b) = HasNoWaitAt y a × WaitsAt y n b
  WaitsAt y n (Not a) = WaitsAt y n a
  WaitsAt y n (Bin op a b) = WaitsAt y n a × HasNoWaitAt y b
  WaitsAt y n (Scope l a) = WaitsAt y n a
  WaitsAt y n (Wait x e) = n ≡ (if bytes_eq x y then 1 else 0)
  WaitsAt y n (Held k op b) = WaitsAt y n b
  WaitsAt y n (Deref m) = ((n ≡ 0) × HasNoWaitAt y m) ⊎ WaitsInIndex y n m
  WaitsAt y n (Put m k) = ((n ≡ 0) × HasNoWaitAt y m) ⊎ WaitsInIndex y n m
  WaitsAt y n m = (n ≡ 0) × HasNoWaitAt y m

  -- the access is one of another port or of an array of the program's own, and its index has n waits
  pub WaitsInIndex : Name → ℕ → Term → Type 0
  WaitsInIndex y n (App h a) = WaitsInPortIndex y n h a ⊎ (IsArrayPlace h × WaitsAt y n a)
  WaitsInIndex y n m = ⊥

  pub WaitsInPortIndex : Name → ℕ → Term → Term → Type 0
  WaitsInPortIndex y n h (Both b a) = IsArrayHead h × HasNoWaitAt y h × HasNoWaitAt y b × WaitsAt y n a
  WaitsInPortIndex y n h m = ⊥

-- 1 for a request at this port, and for an answer there; else 0
abbrev pub request_of : Name → Port → ℕ → ℕ
request_of y Given e = 0
request_of y (Taken x) e = if bytes_eq x y && not (is_answer e) then 1 else 0

abbrev pub answer_of : Name → Port → ℕ → ℕ
answer_of y Given e = 0
answer_of y (Taken x) e = if bytes_eq x y && is_answer e then 1 else 0

abbrev pub requests_at : Name → Act → ℕ
requests_at y Computing = 0
requests_at y (Showing o) = request_of y o.port o.event

abbrev pub answers_at : Name → Act → ℕ
answers_at y Computing = 0
answers_at y (Showing o) = answer_of y o.port o.event

-- a source waits for nothing
abbrev pub SourcesDoNotWait : Type 0
SourcesDoNotWait = (y : Name) (i : Imports) (g : List Type') (m : Term) (t : Type') → Typed i g m t → HasNoWaitAt y m

-- no wait, said in both ways
abbrev pub NoWaitIsZero : Type 0
NoWaitIsZero = (y : Name) (m : Term) → HasNoWaitAt y m → WaitsAt y 0 m

abbrev pub ZeroIsNoWait : Type 0
ZeroIsNoWait = (y : Name) (m : Term) → WaitsAt y 0 m → HasNoWaitAt y m

-- Unfoldings leave the number of waits as it is. At a port that is not of an array a request adds one, and an answer takes one
-- away; an access of an array waits in its function part, which is not reached.
abbrev pub UnfoldingsKeepWaits : Type 0
UnfoldingsKeepWaits = (y : Name) (j n : ℕ) (m t : Term) → Unfoldings j m t → WaitsAt y n m → WaitsAt y n t

abbrev pub WaitsAreCounted : Type 0
WaitsAreCounted =
    (p : Program) (y : Name) (a : Act) (n : ℕ) (m t : Term) (s u : Store)
    → ((j w : ℕ) → IsArrayImport p.imports y j w → ⊥) → Move p a (Running m s) (Running t u) → WaitsAt y n m
    → (k : ℕ) × (k + answers_at y a ≡ n + requests_at y a) × WaitsAt y k t
