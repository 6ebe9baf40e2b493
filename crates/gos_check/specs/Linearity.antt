-- Each number of a typed term is made once and used at most once; and what it is for a typed term to stand for a program.
--
-- Read first: Nodes; Moves of gos_model (programs).
use Rattle.std.specs.Prelude.{◌≡◌, ℕ, zero, suc, ◌+◌, ◌<◌, ◌≤◌, ◌⊎◌, List, [], ◌∷◌, ◌++◌, length, nat_eq, if◌then◌else◌}
use Rattle.gos_model.specs.Terms as terms
use Rattle.gos_model.specs.Typing.{Imports}
use Rattle.gos_model.specs.Moves.{Program}
use Rattle.gos_check.specs.declared.linear.Split.{Split}
use Rattle.gos_check.specs.Nodes.{Numbered, Closed, Use, Under, One, Two, If, Meaning, meaning, HasTypes}

-- how often a number is in a list
abbrev pub times : ℕ → List ℕ → ℕ
times k [] = 0
times k (n ∷ ns) = (if nat_eq n k then 1 else 0) + times k ns

-- what splits split
abbrev pub split_in : List Split → List ℕ
split_in [] = []
split_in (s ∷ ss) = s.of ∷ split_in ss

-- the sides of splits
abbrev pub sides : List Split → List ℕ
sides [] = []
sides (s ∷ ss) = s.left ∷ s.right ∷ sides ss

-- the numbers that are used in a node: by a use, or as what is split
abbrev pub used : Numbered → List ℕ
used (Closed t ss c) = split_in ss
used (Use t ss n) = split_in ss ++ n ∷ []
used (Under t ss b n m) = split_in ss ++ used m
used (One t ss f m) = split_in ss ++ used m
used (Two t ss f m n) = split_in ss ++ (used m ++ used n)
used (If t ss m n p) = split_in ss ++ (used m ++ (used n ++ used p))

-- the sides of all splits in a node
abbrev pub all_sides : Numbered → List ℕ
all_sides (Closed t ss c) = sides ss
all_sides (Use t ss n) = sides ss
all_sides (Under t ss b n m) = sides ss ++ all_sides m
all_sides (One t ss f m) = sides ss ++ all_sides m
all_sides (Two t ss f m n) = sides ss ++ (all_sides m ++ all_sides n)
all_sides (If t ss m n p) = sides ss ++ (all_sides m ++ (all_sides n ++ all_sides p))

-- the numbers that are made in a node: those of binders, and the sides of splits
abbrev pub made : Numbered → List ℕ
made (Closed t ss c) = sides ss
made (Use t ss n) = sides ss
made (Under t ss b n m) = sides ss ++ n ∷ made m
made (One t ss f m) = sides ss ++ made m
made (Two t ss f m n) = sides ss ++ (made m ++ made n)
made (If t ss m n p) = sides ss ++ (made m ++ (made n ++ made p))

-- a split is one of a list
abbrev pub IsOneOf : Split → List Split → Type 0
IsOneOf s [] = ⊥
IsOneOf s (t ∷ ts) = (s ≡ t) ⊎ IsOneOf s ts

-- what comes from a number by splits: itself, and what comes from the sides of a split of it
pub data Comes (ss : List Split) : ℕ → ℕ → Type 0 where
  itself : (n : ℕ) → Comes ss n n
  by_left : (s : Split) (a : ℕ) → IsOneOf s ss → Comes ss s.left a → Comes ss s.of a
  by_right : (s : Split) (a : ℕ) → IsOneOf s ss → Comes ss s.right a → Comes ss s.of a

-- no part has occurrences of both sides of a split
abbrev pub IsSplitBetween : List Split → Numbered → Type 0
IsSplitBetween ss part =
    (s : Split) (a b : ℕ) → IsOneOf s ss → Comes ss s.left a → Comes ss s.right b → 0 < times a (used part) → 0 < times b (used part) → ⊥

-- the sides of each split lie in different parts of its node
abbrev pub SidesApart : Numbered → Type 0
SidesApart (Closed t ss c) = Unit {0}
SidesApart (Use t ss n) = Unit {0}
SidesApart (Under t ss b n m) = IsSplitBetween ss m × SidesApart m
SidesApart (One t ss f m) = IsSplitBetween ss m × SidesApart m
SidesApart (Two t ss f m n) = IsSplitBetween ss m × IsSplitBetween ss n × SidesApart m × SidesApart n
SidesApart (If t ss m n p) =
    IsSplitBetween ss m × IsSplitBetween ss n × IsSplitBetween ss p × SidesApart m × SidesApart n × SidesApart p

-- An import's number is its place in the list. Another number stands for a location, which no term of a source has.
abbrev pub import_at : Imports → Meaning
import_at [] k = terms.Loc k
import_at (i ∷ is) zero = terms.Import i.name
import_at (i ∷ is) (suc k) = import_at is k

-- A typed term stands for a program. With what is split in the place of its sides, it is the program's body, and each node
-- has its type. Each binder and each side of a split has a number of its own. Each number is used at most once, and a side
-- exactly once. The occurrences that come from the two sides of a split lie in different parts of its node.
pub record StandsFor (p : Program) (node : Numbered) : Type 0 where
  pub body : meaning (import_at p.imports) node ≡ p.body
  pub types : HasTypes p.imports [] (import_at p.imports) node
  pub made_once : (k : ℕ) → times k (made node) ≤ 1
  pub no_import : (k : ℕ) → 0 < times k (made node) → length p.imports ≤ k
  pub used_once : (k : ℕ) → times k (used node) ≤ 1
  pub sides_used : (k : ℕ) → 0 < times k (all_sides node) → times k (used node) ≡ 1
  pub apart : SidesApart node
