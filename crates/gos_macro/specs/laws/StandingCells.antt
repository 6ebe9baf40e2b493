-- Cells that stand among others from a place on: which they are, that none is an input, and what they name.
--
-- Read first: Fit.
use Rattle.std.proofs.Common.{◌≡◌, inr, inl, ℕ, zero, suc, ◌+◌, List, [], ◌∷◌, ◌++◌, Some, refl, sym, subst, arith}
use Rattle.std.specs.Prelude.{◌<◌, length, slice_get}
use Rattle.std.specs.List.{AllByRecursion}
use Rattle.std.proofs.lemmas.Option.{slice_get_within}
use Rattle.gos_netlist.specs.Nets.{Cell, pins}
use Rattle.gos_plan.specs.Kinds.{Contact}
use Rattle.gos_macro.specs.Gates.{Incoming}
use Rattle.gos_macro.specs.Fit.{HasNoInput, IsKnown, reach_of, NameEarlier}

-- cells stand among others from place n on
abbrev pub StandAt : List Cell → ℕ → List Cell → Type 0
StandAt all n cs = (m : ℕ) (c : Cell) → slice_get cs m ≡ Some c → slice_get all (n + m) ≡ Some c

pub stands_itself : (all : List Cell) → StandAt all 0 all
stands_itself all m c there = let here : m ≡ 0 + m = omega arith in subst (λ (e : ℕ). slice_get all e ≡ Some c) here there

cell_left : (xs ys : List Cell) (m : ℕ) (c : Cell) → slice_get xs m ≡ Some c → slice_get (xs ++ ys) m ≡ Some c
cell_left [] ys m c there = absurd (cc there)
cell_left (x ∷ xs) ys zero c there = there
cell_left (x ∷ xs) ys (suc m) c there = cell_left xs ys m c there

cell_right : (xs ys : List Cell) (l m : ℕ) (c : Cell) → l ≡ length xs → slice_get ys m ≡ Some c → slice_get (xs ++ ys) (l + m) ≡ Some c
cell_right [] ys l m c long there = let here : m ≡ l + m = omega (arith, long) in subst (λ (e : ℕ). slice_get ys e ≡ Some c) here there
cell_right (x ∷ xs) ys zero m c long there = absurd (omega (arith, long))
cell_right (x ∷ xs) ys (suc l) m c long there =
    let here : suc (l + m) ≡ suc l + m = omega arith in
    subst (λ (e : ℕ). slice_get (x ∷ (xs ++ ys)) e ≡ Some c) here (cell_right xs ys l m c (omega (arith, long)) there)

pub stand_left : (all : List Cell) (n : ℕ) (xs ys : List Cell) → StandAt all n (xs ++ ys) → StandAt all n xs
stand_left all n xs ys stand m c there = stand m c (cell_left xs ys m c there)

pub stand_right : (all : List Cell) (n l : ℕ) (xs ys : List Cell) → length xs ≡ l → StandAt all n (xs ++ ys) → StandAt all (n + l) ys
stand_right all n l xs ys long stand m c there =
    let here : n + (l + m) ≡ n + l + m = omega arith in
    subst (λ (e : ℕ). slice_get all e ≡ Some c) here (stand (l + m) c (cell_right xs ys l m c (sym long) there))

-- no inputs
pub no_input_append : (xs ys : List Cell) → HasNoInput xs → HasNoInput ys → HasNoInput (xs ++ ys)
no_input_append [] ys first second = second
no_input_append (x ∷ xs) ys first second = (first.0, no_input_append xs ys first.1 second)

-- What each cell names is known, by the places behind n, from place k on.
abbrev pub NamesAt : List Contact → Incoming → ℕ → List Cell → ℕ → ℕ → List Cell → Type 0
NamesAt contacts i b all n k [] = Unit {0}
NamesAt contacts i b all n k (c ∷ cs) =
    AllByRecursion (IsKnown contacts i b all (reach_of c.gate (n + k) (length all))) (pins c.gate) × NamesAt contacts i b all n (suc k) cs

pub names_from : (contacts : List Contact) (i : Incoming) (b : ℕ) (all : List Cell) (n m k : ℕ) (cs : List Cell) → n + k ≡ m → NamesAt contacts i b all n k cs
    → NameEarlier contacts i b all m cs
names_from contacts i b all n m k [] here names = tt
names_from contacts i b all n m k (c ∷ cs) here names = (
  subst (λ (e : ℕ). AllByRecursion (IsKnown contacts i b all (reach_of c.gate e (length all))) (pins c.gate)) here names.0,
  names_from contacts i b all n (suc m) (suc k) cs (omega (arith, here)) names.1,
)

pub names_append : (contacts : List Contact) (i : Incoming) (b : ℕ) (all : List Cell) (n l : ℕ) (xs ys : List Cell) → length xs ≡ l
    → NameEarlier contacts i b all n xs → NameEarlier contacts i b all (n + l) ys → NameEarlier contacts i b all n (xs ++ ys)
names_append contacts i b all n l [] ys long first second = let here : n + l ≡ n = omega (arith, long) in subst (λ (e : ℕ). NameEarlier contacts i b all e ys) here second
names_append contacts i b all n zero (x ∷ xs) ys long first second = absurd (omega (arith, long))
names_append contacts i b all n (suc l) (x ∷ xs) ys long first second =
    let here : n + suc l ≡ suc n + l = omega arith in
    (first.0, names_append contacts i b all (suc n) l xs ys (omega (arith, long)) first.1 (subst (λ (e : ℕ). NameEarlier contacts i b all e ys) here second))

-- an own cell ahead of place m
pub own : (contacts : List Contact) (i : Incoming) (b : ℕ) (all : List Cell) (n k m : ℕ) (cs : List Cell) (c : Cell) → StandAt all n cs → slice_get cs k ≡ Some c → n + k < m
    → IsKnown contacts i b all m (b + (n + k))
own contacts i b all n k m cs c stand there low = inr (n + k, c, refl, stand k c there, inl low)

-- one that a register names
pub any_own : (contacts : List Contact) (i : Incoming) (b : ℕ) (all : List Cell) (n k : ℕ) (cs : List Cell) (c : Cell) → StandAt all n cs → slice_get cs k ≡ Some c
    → IsKnown contacts i b all (length all) (b + (n + k))
any_own contacts i b all n k cs c stand there = inr (n + k, c, refl, stand k c there, inl (slice_get_within all (n + k) c (stand k c there)))
