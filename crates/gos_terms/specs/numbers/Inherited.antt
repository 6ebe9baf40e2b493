-- The parts of a node inherit what is kept of its numbers, each with numbers of its own.
--
-- Read first: Kept. A number that is there inside the node's splits, and isn't split itself, is given to the part that uses it; and if none
-- does, to the first part. So no number is left over.
use Rattle.std.specs.Prelude.{◌≡◌, ℕ, ◌+◌, ◌<◌, ◌⊎◌, Bool, List, [], ◌∷◌, ◌++◌, nat_eq, nat_lt, filter, Contains}
use Rattle.gos_types.specs.Types.{Type'}
use Rattle.gos_check.specs.declared.linear.Split.{Split}
use Rattle.gos_check.specs.Nodes.{Numbered, Under, One, Two, If, Binding, OneForm, TwoForm}
use Rattle.gos_check.specs.Linearity.{times, split_in, used, made}
use Rattle.gos_compile.specs.Wiring.{Types}
use Rattle.gos_terms.specs.stages.Inside.{numbers_inside, AreSplit, SidesAgree}
use Rattle.gos_terms.specs.stages.Lodging.{AreTidy}
use Rattle.gos_terms.specs.regions.Frames.{AreParted}
use Rattle.gos_terms.specs.regions.Blocks.{IsBound}
use Rattle.gos_terms.specs.numbers.Kept.{IsKept}

-- the numbers of a part: those that it uses
abbrev pub own_numbers : List Split → List ℕ → Numbered → List ℕ
own_numbers ss ns m = filter (λ k. nat_lt 0 (times k (used m))) (numbers_inside ss ns)

-- the numbers of the first part: those that are neither split nor used by the others
abbrev pub first_numbers : List Split → List ℕ → List ℕ → List ℕ
first_numbers ss ns others = filter (λ k. nat_eq (times k (split_in ss) + times k others) 0) (numbers_inside ss ns)

abbrev pub is_in : List ℕ → ℕ → Bool
is_in uses n = nat_lt 0 (times n uses)

-- Part m of a node with these splits has the numbers `uses`, where ns are there outside the node.
pub record IsPart (types : Types) (ss : List Split) (ns uses : List ℕ) (m : Numbered) : Type 0 where
  pub kept : IsKept types uses m
  pub tidy : AreTidy (is_in uses) ss ns
  pub agree : SidesAgree ss types
  pub split : AreSplit ss ns
  pub scope : (n : ℕ) → Contains uses n → Contains (numbers_inside ss ns) n × (times n (split_in ss) ≡ 0)
  pub covers : (n : ℕ) → 0 < times n (used m) → (0 < times n (made m)) ⊎ Contains uses n
  pub unmade : (n : ℕ) → Contains (numbers_inside ss ns) n → times n (made m) ≡ 0

-- the body of a binder
abbrev pub BodyIsKept : Type 0
BodyIsKept =
    (types : Types) (ns : List ℕ) (t : Type') (ss : List Split) (b : Binding) (n : ℕ) (m : Numbered)
    → IsKept types ns (Under t ss b n m) → (ss ≡ []) × IsKept types (ns ++ n ∷ []) m × IsBound n m ns

-- the part of a form of one part
abbrev pub PartIsKept : Type 0
PartIsKept =
    (types : Types) (ns : List ℕ) (t : Type') (ss : List Split) (f : OneForm) (m : Numbered)
    → IsKept types ns (One t ss f m) → (ss ≡ []) × IsPart types [] ns ns m

-- both parts of a form of two parts: and each number that isn't split is one of theirs
abbrev pub BothAreKept : Type 0
BothAreKept =
    (types : Types) (ns : List ℕ) (t : Type') (ss : List Split) (f : TwoForm) (m n : Numbered)
    → IsKept types ns (Two t ss f m n)
    → IsPart types ss ns (first_numbers ss ns (used n)) m × IsPart types ss ns (own_numbers ss ns n) n
    × ((k : ℕ) → times k (split_in ss) ≡ 0
    → times k (first_numbers ss ns (used n)) + times k (own_numbers ss ns n) ≡ times k (numbers_inside ss ns))

-- where there are no splits the numbers are parted
abbrev pub BothAreParted : Type 0
BothAreParted =
    (types : Types) (ns : List ℕ) (t : Type') (f : TwoForm) (m n : Numbered)
    → IsKept types ns (Two t [] f m n) → AreParted m n ns (first_numbers [] ns (used n)) (own_numbers [] ns n)

-- the three parts of a choice
abbrev pub ThreeAreKept : Type 0
ThreeAreKept =
    (types : Types) (ns : List ℕ) (t : Type') (ss : List Split) (m n p : Numbered)
    → IsKept types ns (If t ss m n p)
    → IsPart types ss ns (first_numbers ss ns (used n ++ used p)) m × IsPart types ss ns (own_numbers ss ns n) n
    × IsPart types ss ns (own_numbers ss ns p) p
    × ((k : ℕ) → times k (split_in ss) ≡ 0
    → times k (first_numbers ss ns (used n ++ used p)) + (times k (own_numbers ss ns n) + times k (own_numbers ss ns p))
    ≡ times k (numbers_inside ss ns))
