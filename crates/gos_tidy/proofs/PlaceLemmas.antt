-- Places of nets where one is left out, as lists of numbers.
--
-- Read first: Changes; ChangeLemmas.
use Rattle.std.proofs.Common.{◌≡◌, ◌≢◌, ◌⊎◌, inl, inr, ◌+◌, ◌-◌, ◌<◌, ◌≤◌, ℕ, zero, suc, Bool, if◌then◌else◌, List, [], ◌∷◌, length, map, slice_get, get_or, Some, refl, sym, ap, ◌∙◌, arith, eq-eqb, All}
use Rattle.std.proofs.lemmas.Bool.{ne_eqb, lt-ltb, le-ltb}
use Rattle.std.proofs.lemmas.List.{length-map}
use Rattle.std.proofs.lemmas.Option.{same_Some, slice_get_within, slice_get-get_or, get_or_from_slice_get}
use Rattle.std.specs.Prelude.{slice_set}
use Rattle.gos_netlist.specs.declared.nets.Cell as declared
use Rattle.gos_netlist.specs.declared.nets.Gate.TheVariants as gates
use Rattle.gos_netlist.specs.Seen.{cell_of}
use Rattle.gos_netlist.specs.Nets.{Cell, Const}
use Rattle.gos_netlist.specs.Settling.{at}
use Rattle.gos_netlist.specs.Cycles.{HasCycle}
use Rattle.gos_netcheck.specs.CellRules.{WidthsFit}
use Rattle.gos_netcheck.proofs.RuleLemmas.{get_mapped}
use Rattle.gos_tidy.specs.inner.Changes.{skip, lowered, target_of, AreNumbersOf, GoesTo, BecomesNumber}
use Rattle.gos_tidy.specs.inner.Places.{ArePlaced}
use Rattle.gos_tidy.proofs.NarrowLemmas.{less_or}
use Rattle.gos_tidy.proofs.ChangeLemmas.{IsWithNumber, IsWithout, skip_apart, skip_within, goes_apart}

pub skip_low : (n j : ℕ) → j < n → skip n j ≡ j
skip_low zero j less = absurd (omega (arith, less))
skip_low (suc n) zero less = refl
skip_low (suc n) (suc j) less = ap suc (skip_low n j (omega (arith, less)))

pub skip_high : (n j : ℕ) → n ≤ j → skip n j ≡ j + 1
skip_high zero j high = omega arith
skip_high (suc n) zero high = absurd (omega (arith, high))
skip_high (suc n) (suc j) high = let rest = skip_high n j (omega (arith, high)) in omega (arith, rest)

-- an element is told by its place
pub number_at_place : (h : ℕ → ℕ) (k : ℕ) (items : List ℕ) → AreNumbersOf h k items → (i m : ℕ) → slice_get items i ≡ Some m → m ≡ h i
number_at_place h k items are i m is =
    sym (get_or_from_slice_get items i m 0 is) ∙ are.each i (let low = slice_get_within items i m is in let long = are.long in omega (arith, low, long))

-- places before and after
lowered_skip : (n j : ℕ) → lowered n (skip n j) ≡ j
lowered_skip n j = by_order (less_or j n)
  where
    by_order : (j < n) ⊎ (n ≤ j) → lowered n (skip n j) ≡ j
    by_order (inl less) =
        let is = skip_low n j less in
        ap (λ (b : Bool). if b then skip n j - 1 else skip n j) (le-ltb n (skip n j) (omega (arith, less, is))) ∙ is
    by_order (inr more) =
        let is = skip_high n j more in
        ap (λ (b : Bool). if b then skip n j - 1 else skip n j) (lt-ltb n (skip n j) (omega (arith, more, is))) ∙ omega (arith, is)

target_other : (n t j : ℕ) → j ≢ n → target_of n t j ≡ lowered n j
target_other n t j apart = ap (λ (b : Bool). if b then lowered n t else lowered n j) (ne_eqb j n apart)

target_left : (n t : ℕ) → target_of n t n ≡ lowered n t
target_left n t = ap (λ (b : Bool). if b then lowered n t else lowered n n) (eq-eqb n n refl)

module _ (cells : List Cell) (n t : ℕ) (acyclic : HasCycle cells → ⊥) (fits : WidthsFit cells) (may : GoesTo cells n t) (goes_to roots : List ℕ)
    (targets : AreNumbersOf (target_of n t) (length cells) goes_to) (places : AreNumbersOf (skip n) (length cells - 1) roots) where
  some : 0 < length cells
  some = let low = slice_get_within cells n may.0 may.1 in omega (arith, low)

  pub roots_within : All (λ p. p < length cells) roots
  roots_within i d low =
      let is = number_at_place (skip n) (length cells - 1) roots places i (get_or roots i d) (slice_get-get_or roots i d low) in
      let less = skip_within n i (length cells) (let long = places.long in let enough = some in omega (arith, low, long, enough)) in
      omega (arith, is, less)

  pub without_made : (others : List Cell) → ArePlaced cells others goes_to roots (length roots) → IsWithout cells others (at goes_to) roots n t
  without_made others placed =
      record {
        count = let long = places.long in let count = placed.count in let enough = some in omega (arith, long, count, enough);
        moved = λ j low.
            targets.each (skip n j) (skip_within n j (length cells) (let long = places.long in let count = placed.count in let enough = some in omega (arith, low, long, count, enough)))
            ∙ (target_other n t (skip n j) (skip_apart n j) ∙ lowered_skip n j);
        goes =
            let (apart, c, there, width) = goes_apart cells n t acyclic fits may in
            targets.each n (slice_get_within cells n may.0 may.1)
            ∙ (target_left n t ∙ sym (targets.each t (slice_get_within cells t c there) ∙ target_other n t t apart));
        cell = λ j c low there.
            let within : j < length roots = let count = placed.count in omega (arith, low, count) in
            let root = slice_get-get_or roots j 0 within in
            let is = number_at_place (skip n) (length cells - 1) roots places j (get_or roots j 0) root in
            placed.each j (skip n j) c within (root ∙ ap (λ (m : ℕ). Some m) is) there;
        each = sym placed.count;
        root = λ i m is. number_at_place (skip n) (length cells - 1) roots places i m is;
      }

-- A list with another element at one place.

set_same : (ds : List declared.Cell) (n : ℕ) (x : declared.Cell) → n < length ds → slice_get (map cell_of (slice_set ds n x)) n ≡ Some (cell_of x)
set_same [] n x low = absurd (omega (arith, low))
set_same (d ∷ ds) zero x low = refl
set_same (d ∷ ds) (suc n) x low = set_same ds n x (omega (arith, low))

set_other : (ds : List declared.Cell) (n j : ℕ) (x : declared.Cell) → j ≢ n → slice_get (map cell_of (slice_set ds n x)) j ≡ slice_get (map cell_of ds) j
set_other [] n j x apart = refl
set_other (d ∷ ds) zero zero x apart = absurd (apart refl)
set_other (d ∷ ds) zero (suc j) x apart = refl
set_other (d ∷ ds) (suc n) zero x apart = refl
set_other (d ∷ ds) (suc n) (suc j) x apart = set_other ds n j x (λ e. apart (ap suc e))

set_count : (ds : List declared.Cell) (n : ℕ) (x : declared.Cell) → length (slice_set ds n x) ≡ length ds
set_count [] n x = refl
set_count (d ∷ ds) zero x = refl
set_count (d ∷ ds) (suc n) x = ap suc (set_count ds n x)

-- all nets, each at its place
module _ (ds items : List declared.Cell) (n k : ℕ) (map_items roots : List ℕ) (may : BecomesNumber (map cell_of ds) n k)
    (targets : AreNumbersOf (skip (length ds)) (length ds) map_items) (places : AreNumbersOf (skip (length ds)) (length ds) roots)
    (set_to : (d : declared.Cell) → items ≡ slice_set ds n (record { width = (get_or ds n d).width; gate = gates.Const k })) where
  pub number_within : n < length ds
  number_within = let low = slice_get_within (map cell_of ds) n may.0 may.1 in omega (arith, low, length-map ds cell_of)

  pub number_count : length items ≡ length ds
  number_count =
      let nothing : declared.Cell = record { width = 0; gate = gates.Input } in
      ap length (set_to nothing) ∙ set_count ds n (record { width = (get_or ds n nothing).width; gate = gates.Const k })

  pub number_made : IsWithNumber (map cell_of ds) (map cell_of items) (at map_items) roots n k
  number_made =
      record {
        count = length-map items cell_of ∙ (number_count ∙ sym (length-map ds cell_of));
        same = λ j c apart there. ap (λ xs. slice_get (map cell_of xs) j) (set_to nothing) ∙ (set_other ds n j new apart ∙ there);
        number = λ c there.
            let was : Some (cell_of (get_or ds n nothing)) ≡ Some c = sym (get_mapped cell_of ds n nothing number_within) ∙ there in
            let width : (get_or ds n nothing).width ≡ c.width = ap (λ (x : Cell). x.width) (same_Some (cell_of (get_or ds n nothing)) c was) in
            ap (λ xs. slice_get (map cell_of xs) n) (set_to nothing)
            ∙ (set_same ds n new number_within ∙ ap (λ (w : ℕ). Some (record { width = w; gate = Const k })) width);
        stays = λ j low. let less : j < length ds = omega (arith, low, length-map ds cell_of) in targets.each j less ∙ skip_low (length ds) j less;
        each = places.long ∙ (sym number_count ∙ sym (length-map items cell_of));
        root = λ i m is.
            let low : i < length ds = let within = slice_get_within roots i m is in let long = places.long in omega (arith, within, long) in
            number_at_place (skip (length ds)) (length ds) roots places i m is ∙ skip_low (length ds) i low;
      }
    where
      nothing : declared.Cell
      nothing = record { width = 0; gate = gates.Input }

      new : declared.Cell
      new = record { width = (get_or ds n nothing).width; gate = gates.Const k }
