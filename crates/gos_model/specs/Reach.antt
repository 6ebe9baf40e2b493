-- Reached places of a running term, heads, and unfolding.
--
-- Read first: Substitution. A relation between terms is lifted to a place of the term: it changes that place, and
-- all else stays. A computation step, an output, an input and an unfolding are each such a lifting.
use Rattle.std.specs.Prelude.{◌≡◌, ◌⊎◌, ℕ}
use Rattle.gos_types.specs.Types.{Type'}
use Rattle.gos_model.specs.Terms.{Name, Term, Arr, Lam, App, Both, Fst, Snd, Seq, Par, If, Assign, Deref, Not, Bin, Scope, Wait, Held, Put}
use Rattle.gos_model.specs.Substitution.{instantiate}

-- how a term may become another
abbrev pub Rel : Type 1
Rel = Term → Term → Type 0

-- The function part of an access whose index is reached: a port of an array that has asked for it. No source has such a
-- part, and with ground imports no running term does. Its argument is a pair: the index as it was written, and as it is now.
abbrev pub IsArrayHead : Term → Type 0
IsArrayHead h = (x : Name) × (h ≡ Wait x 0)

-- The function part of an access of an array of the program's own. Its argument is the index, and is reached.
abbrev pub IsArrayPlace : Term → Type 0
IsArrayPlace h = (l : ℕ) × (h ≡ Arr l)

abbrev mutual
  -- R changes a reached place that is not the whole term
  pub Below : Rel → Rel
  Below R (Seq m n) t = (m' : Term) × (t ≡ Seq m' n) × (R m m' ⊎ Below R m m')
  Below R (Par m n) t =
      ((m' : Term) × (t ≡ Par m' n) × (R m m' ⊎ Below R m m')) ⊎ ((n' : Term) × (t ≡ Par m n') × (R n n' ⊎ Below R n n'))
  Below R (If m n p) t = (m' : Term) × (t ≡ If m' n p) × (R m m' ⊎ Below R m m')
  Below R (Bin op m n) t = (m' : Term) × (t ≡ Bin op m' n) × (R m m' ⊎ Below R m m')
  Below R (Held k op n) t = (n' : Term) × (t ≡ Held k op n') × (R n n' ⊎ Below R n n')
  Below R (Not m) t = (m' : Term) × (t ≡ Not m') × (R m m' ⊎ Below R m m')
  Below R (Assign m n) t = (n' : Term) × (t ≡ Assign m n') × (R n n' ⊎ Below R n n')
  Below R (Scope l m) t = (m' : Term) × (t ≡ Scope l m') × (R m m' ⊎ Below R m m')
  Below R (Deref m) t = (m' : Term) × (t ≡ Deref m') × InIndex R m m'
  Below R (Put m k) t = (m' : Term) × (t ≡ Put m' k) × InIndex R m m'
  Below R m t = ⊥

  -- R changes a place in the index of an access, as it is now
  pub InIndex : Rel → Rel
  InIndex R (App h n) t = InPortIndex R h n t ⊎ (IsArrayPlace h × (n' : Term) × (t ≡ App h n') × (R n n' ⊎ Below R n n'))
  InIndex R m t = ⊥

  -- the same at a port: the function part is h, and its argument the pair
  pub InPortIndex : Rel → Term → Rel
  InPortIndex R h (Both n m) t = IsArrayHead h × (m' : Term) × (t ≡ App h (Both n m')) × (R m m' ⊎ Below R m m')
  InPortIndex R h m t = ⊥

-- R changes one reached place, and nothing else changes
abbrev pub Reached : Rel → Rel
Reached R m t = R m t ⊎ Below R m t

-- R changes a head that stands below another one
abbrev pub Under : Rel → Rel
Under R (App m n) t = (m' : Term) × (t ≡ App m' n) × (R m m' ⊎ Under R m m')
Under R (Fst m) t = (m' : Term) × (t ≡ Fst m') × (R m m' ⊎ Under R m m')
Under R (Snd m) t = (m' : Term) × (t ≡ Snd m') × (R m m' ⊎ Under R m m')
Under R m t = ⊥

-- R changes the left side of `put` or the operand of `!`, or a head below it
abbrev pub Aside : Rel → Rel
Aside R (Put m k) t = (m' : Term) × (t ≡ Put m' k) × (R m m' ⊎ Under R m m')
Aside R (Deref m) t = (m' : Term) × (t ≡ Deref m') × (R m m' ⊎ Under R m m')
Aside R m t = ⊥

-- R changes one head
abbrev pub AtHead : Rel → Rel
AtHead R = Reached (λ m t. (R m t ⊎ Under R m t) ⊎ Aside R m t)

-- The three unfoldings of a head: of a function with its argument, and of the sides of a pair.
abbrev pub Rewrites : Rel
Rewrites (App m n) t = (a : Type') × (b : Term) × (m ≡ Lam a b) × (t ≡ instantiate b n)
Rewrites (Fst m) t = (n : Term) × (m ≡ Both t n)
Rewrites (Snd m) t = (n : Term) × (m ≡ Both n t)
Rewrites m t = ⊥

-- one unfolding
abbrev pub Unfolds : Rel
Unfolds = AtHead Rewrites
