-- Two doings at different places lie in different sides of a `||`.
--
-- Read first: Doings; Contexts of gos_programs. Every other form has one reached part, and where something happens at a
-- place nothing happens below it.
use Rattle.std.specs.Prelude.{◌≡◌, ◌≢◌, ◌⊎◌, ℕ, zero, suc, List, [], ◌∷◌, ◌++◌}
use Rattle.gos_model.specs.Terms.{Term, Par}
use Rattle.gos_model.specs.Typing.{Imports}
use Rattle.gos_model.specs.Stores.{Store}
use Rattle.gos_programs.specs.contexts.Contexts.{Context, SeqFirst, ParLeft, ParRight, IfTest, BinLeft, HeldRight, NotOf, AssignRight, ScopeBody, ReadIndex, WriteIndex, plug, plug_all, ReadAt, WriteAt}
use Rattle.gos_swaps.specs.doings.Doings.{Doing, DoesAt}

-- the path to the place in a context
abbrev pub way : Context → List ℕ
way (SeqFirst n) = 0 ∷ []
way (ParLeft n) = 0 ∷ []
way (ParRight m) = 1 ∷ []
way (IfTest n p) = 0 ∷ []
way (BinLeft op n) = 0 ∷ []
way (HeldRight k op) = 0 ∷ []
way NotOf = 0 ∷ []
way (AssignRight m) = 1 ∷ []
way (ScopeBody l) = 0 ∷ []
way (ReadIndex x n) = 0 ∷ 1 ∷ 1 ∷ []
way (WriteIndex x n k) = 0 ∷ 1 ∷ 1 ∷ []
way (ReadAt l) = 0 ∷ 1 ∷ []
way (WriteAt l k) = 0 ∷ 1 ∷ []

-- the path through these contexts, the outermost first, and on from the place in them
abbrev pub path_through : List Context → List ℕ → List ℕ
path_through [] path = path
path_through (c ∷ cs) path = way c ++ path_through cs path

-- what happens at a place happens in a context too
abbrev pub DoesWithin : Type 0
DoesWithin =
    (i : Imports) (c : Context) (path : List ℕ) (a : Doing) (s s' : Store) (m t : Term)
    → DoesAt i path a s s' m t → DoesAt i (way c ++ path) a s s' (plug c m) (plug c t)

-- two doings of one term with one store: one in the left side of a reached `||`, the other in its right side
pub record OnSides (i : Imports) (p q : List ℕ) (a b : Doing) (s u v : Store) (m t r : Term) : Type 0 where
  pub around : List Context
  pub left : Term
  pub right : Term
  pub left_path : List ℕ
  pub right_path : List ℕ
  pub new_left : Term
  pub new_right : Term
  pub whole : m ≡ plug_all around (Par left right)
  pub first_path : p ≡ path_through around (zero ∷ left_path)
  pub second_path : q ≡ path_through around (suc zero ∷ right_path)
  pub after_first : t ≡ plug_all around (Par new_left right)
  pub after_second : r ≡ plug_all around (Par left new_right)
  pub does_left : DoesAt i left_path a s u left new_left
  pub does_right : DoesAt i right_path b s v right new_right

-- Different places lie so, the one way or the other.
abbrev pub PlacesAreOnSides : Type 0
PlacesAreOnSides =
    (i : Imports) (p q : List ℕ) (a b : Doing) (s u v : Store) (m t r : Term)
    → p ≢ q → DoesAt i p a s u m t → DoesAt i q b s v m r → OnSides i p q a b s u v m t r ⊎ OnSides i q p b a s v u m r t
