-- How much there is of cells that could be made smaller.
--
-- Read first: Changes, Reduced. It falls with each single change, and where cells are left out it grows not.
use Rattle.std.specs.Prelude.{◌≡◌, ◌⊎◌, ℕ, zero, suc, ◌+◌, ◌-◌, ◌<◌, ◌≤◌, List, [], ◌∷◌, length, map, Some, slice_get, slice_set, get_or}
use Rattle.std.proofs.Common.{arith, refl, sym, ap, subst, inl, inr, ◌∙◌}
use Rattle.std.proofs.lemmas.List.{length-map}
use Rattle.std.proofs.lemmas.Option.{same_Some, slice_get_within}
use Rattle.gos_netlist.specs.declared.nets.Cell as declared
use Rattle.gos_netlist.specs.declared.nets.Gate.TheVariants as gates
use Rattle.gos_netlist.specs.Seen.{cell_of, function_of}
use Rattle.gos_netlist.specs.Nets.{Function, Input, Const, Not, And, Or, Xor, Mux, Add, Sub, Eq, Less, Gate, Reg, Cell}
use Rattle.gos_netcheck.proofs.RuleLemmas.{get_mapped}
use Rattle.gos_tidy.specs.Mapped.{renamed}
use Rattle.gos_tidy.specs.Reduced.{IsPart}
use Rattle.gos_tidy.specs.inner.Changes.{skip, ShowsNumber, IsShut, BecomesNumber, weight, size}
use Rattle.gos_tidy.proofs.QuotientLemmas.{cell_there}
use Rattle.gos_tidy.proofs.ChangeLemmas.{IsWithout, skip_rises, skip_within}

weight_renamed : (f : ℕ → ℕ) (g : Function) → weight (renamed f g) ≡ weight g
weight_renamed f Input = refl
weight_renamed f (Const k) = refl
weight_renamed f (Not a) = refl
weight_renamed f (And a b) = refl
weight_renamed f (Or a b) = refl
weight_renamed f (Xor a b) = refl
weight_renamed f (Mux s a b) = refl
weight_renamed f (Add a b) = refl
weight_renamed f (Sub a b) = refl
weight_renamed f (Eq a b) = refl
weight_renamed f (Less a b) = refl
weight_renamed f (Gate s a) = refl
weight_renamed f (Reg a) = refl

weight_some : (g : Function) → 1 ≤ weight g
weight_some Input = omega arith
weight_some (Const k) = omega arith
weight_some (Not a) = omega arith
weight_some (And a b) = omega arith
weight_some (Or a b) = omega arith
weight_some (Xor a b) = omega arith
weight_some (Mux s a b) = omega arith
weight_some (Add a b) = omega arith
weight_some (Sub a b) = omega arith
weight_some (Eq a b) = omega arith
weight_some (Less a b) = omega arith
weight_some (Gate s a) = omega arith
weight_some (Reg a) = omega arith

-- a gate that may become a constant is none
weight_changed : (cells : List Cell) (w k : ℕ) (g : Function) → ShowsNumber cells w g k ⊎ (IsShut cells g × (k ≡ 0)) → weight g ≡ 2
weight_changed cells w k Input may = refl
weight_changed cells w k (Const j) (inl (folds, v, consts, shows)) = absurd folds
weight_changed cells w k (Const j) (inr (shut, none)) = absurd shut
weight_changed cells w k (Not a) may = refl
weight_changed cells w k (And a b) may = refl
weight_changed cells w k (Or a b) may = refl
weight_changed cells w k (Xor a b) may = refl
weight_changed cells w k (Mux s a b) may = refl
weight_changed cells w k (Add a b) may = refl
weight_changed cells w k (Sub a b) may = refl
weight_changed cells w k (Eq a b) may = refl
weight_changed cells w k (Less a b) may = refl
weight_changed cells w k (Gate s a) may = refl
weight_changed cells w k (Reg a) may = refl

-- Each of some cells is one of others, in their order, and weighs no more.
record IsAmongThem (xs ys : List Cell) (g : ℕ → ℕ) : Type 0 where
  rises : (i j : ℕ) → i < j → j < length xs → g i < g j
  light : (i : ℕ) (c : Cell) → slice_get xs i ≡ Some c → (e : Cell) × (slice_get ys (g i) ≡ Some e) × (weight c.gate ≤ weight e.gate)

one_back : (y : Cell) (ys : List Cell) (n : ℕ) (e : Cell) → 0 < n → slice_get (y ∷ ys) n ≡ Some e → slice_get ys (n - 1) ≡ Some e
one_back y ys zero e some is = absurd (omega (arith, some))
one_back y ys (suc n) e some is = let same : n ≡ suc n - 1 = omega arith in subst (λ (k : ℕ). slice_get ys k ≡ Some e) same is

-- cells are as many or fewer, and their size is less at least by as much as they are fewer
abbrev AreLess : List Cell → List Cell → Type 0
AreLess xs ys = (length xs ≤ length ys) × (size xs + length ys ≤ size ys + length xs)

size_among : (xs ys : List Cell) (g : ℕ → ℕ) → IsAmongThem xs ys g → AreLess xs ys
size_among [] [] g among = (omega arith, omega arith)
size_among [] (y ∷ ys) g among =
    let some = weight_some y.gate in
    let rest = size_among [] ys g (record { rises = λ i j less low. absurd (omega (arith, low)); light = λ i c is. absurd (cc is) }) in
    (omega arith, omega (arith, some, rest.1))
size_among (x ∷ xs) [] g among = absurd (let (e, is, light) = among.light 0 x refl in cc is)
size_among (x ∷ xs) (y ∷ ys) g among = by_first (λ h after. size_among xs ys h after) (λ h past. size_among (x ∷ xs) ys h past) (g 0) refl
  where
    above : (i : ℕ) → i < length xs → g 0 < g (suc i)
    above i low = among.rises 0 (suc i) (omega arith) (omega (arith, low))

    after_first : IsAmongThem xs ys (λ i. g (suc i) - 1)
    after_first =
        record {
          rises = λ i j less low.
              let rising = among.rises (suc i) (suc j) (omega (arith, less)) (omega (arith, low)) in
              let more = above i (omega (arith, less, low)) in
              omega (arith, rising, more);
          light = λ i c is.
              let (e, at_e, light) = among.light (suc i) c is in
              let more = above i (slice_get_within xs i c is) in
              (e, one_back y ys (g (suc i)) e (omega (arith, more)) at_e, light);
        }

    positive : (n : ℕ) → g 0 ≡ suc n → (i : ℕ) → i < length (x ∷ xs) → 0 < g i
    positive n first zero low = omega (arith, first)
    positive n first (suc i) low = let more = above i (omega (arith, low)) in omega (arith, more)

    past_first : (n : ℕ) → g 0 ≡ suc n → IsAmongThem (x ∷ xs) ys (λ i. g i - 1)
    past_first n first =
        record {
          rises = λ i j less low.
              let rising = among.rises i j less low in
              let more = positive n first i (omega (arith, less, low)) in
              omega (arith, rising, more);
          light = λ i c is.
              let (e, at_e, light) = among.light i c is in
              (e, one_back y ys (g i) e (positive n first i (slice_get_within (x ∷ xs) i c is)) at_e, light);
        }

    by_first : ((h : ℕ → ℕ) → IsAmongThem xs ys h → AreLess xs ys) → ((h : ℕ → ℕ) → IsAmongThem (x ∷ xs) ys h → AreLess (x ∷ xs) ys)
        → (n : ℕ) → g 0 ≡ n → AreLess (x ∷ xs) (y ∷ ys)
    by_first after past zero first =
        let (e, is, light) = among.light 0 x refl in
        let same : y ≡ e = same_Some y e (subst (λ (k : ℕ). slice_get (y ∷ ys) k ≡ Some e) first is) in
        let lighter : weight x.gate ≤ weight y.gate = subst (λ (c : Cell). weight x.gate ≤ weight c.gate) (sym same) light in
        let rest = after (λ i. g (suc i) - 1) after_first in
        (omega (arith, rest.0), omega (arith, lighter, rest.1))
    by_first after past (suc n) first =
        let some = weight_some y.gate in
        let rest = past (λ i. g i - 1) (past_first n first) in
        (omega (arith, rest.0), omega (arith, some, rest.1))

-- a part of cells is no more
pub part_size : (cells others : List Cell) (g : ℕ → ℕ) → IsPart cells others g → size cells ≤ size others
part_size cells others g part =
    let light : (i : ℕ) (c : Cell) → slice_get cells i ≡ Some c → (e : Cell) × (slice_get others (g i) ≡ Some e) × (weight c.gate ≤ weight e.gate) =
    λ i c is. (record { width = c.width; gate = renamed g c.gate }, part.kept i c is, let same = weight_renamed g c.gate in omega (arith, same)) in
    let among = size_among cells others g (record { rises = part.rises; light = light }) in
    omega (arith, among)

-- cells without one are less
pub without_size : (cells others : List Cell) (f : ℕ → ℕ) (roots : List ℕ) (n t : ℕ) → IsWithout cells others f roots n t → size others < size cells
without_size cells others f roots n t made =
    let among = size_among others cells (skip n) (record { rises = λ i j less low. skip_rises n i j less; light = λ i c is. light i c is }) in
    let count = made.count in
    omega (arith, among, count)
  where
    light : (i : ℕ) (c : Cell) → slice_get others i ≡ Some c → (e : Cell) × (slice_get cells (skip n i) ≡ Some e) × (weight c.gate ≤ weight e.gate)
    light i c is =
        let low = slice_get_within others i c is in
        let (e, there) = cell_there cells (skip n i) (skip_within n i (length cells) (let count = made.count in omega (arith, low, count))) in
        let same : record { width = e.width; gate = renamed f e.gate } ≡ c = same_Some (record { width = e.width; gate = renamed f e.gate }) c (sym (made.cell i e low there) ∙ is) in
        let weighs : weight (renamed f e.gate) ≡ weight c.gate = ap (λ (x : Cell). weight x.gate) same in
        (e, there, let kept = weight_renamed f e.gate in omega (arith, weighs, kept))

set_size : (ds : List declared.Cell) (n : ℕ) (x d : declared.Cell) → n < length ds
    → size (map cell_of (slice_set ds n x)) + weight (function_of (get_or ds n d).gate) ≡ size (map cell_of ds) + weight (function_of x.gate)
set_size [] n x d low = absurd (omega (arith, low))
set_size (y ∷ ds) zero x d low = omega arith
set_size (y ∷ ds) (suc n) x d low = let rest = set_size ds n x d (omega (arith, low)) in omega (arith, rest)

-- cells with a constant in the place of one are less
pub number_size : (ds items : List declared.Cell) (n k : ℕ) → BecomesNumber (map cell_of ds) n k
    → ((d : declared.Cell) → items ≡ slice_set ds n (record { width = (get_or ds n d).width; gate = gates.Const k })) → size (map cell_of items) < size (map cell_of ds)
number_size ds items n k may set_to =
    let low : n < length ds = let within = slice_get_within (map cell_of ds) n may.0 may.1 in omega (arith, within, length-map ds cell_of) in
    let nothing : declared.Cell = record { width = 0; gate = gates.Input } in
    let new : declared.Cell = record { width = (get_or ds n nothing).width; gate = gates.Const k } in
    let was : cell_of (get_or ds n nothing) ≡ may.0 = same_Some (cell_of (get_or ds n nothing)) may.0 (sym (get_mapped cell_of ds n nothing low) ∙ may.1) in
    let weighs : weight (function_of (get_or ds n nothing).gate) ≡ weight may.0.gate = ap (λ (c : Cell). weight c.gate) was in
    let two = weight_changed (map cell_of ds) may.0.width k may.0.gate may.2 in
    let made : size (map cell_of items) ≡ size (map cell_of (slice_set ds n new)) = ap (λ (xs : List declared.Cell). size (map cell_of xs)) (set_to nothing) in
    let set = set_size ds n new nothing low in
    omega (arith, made, set, weighs, two)
