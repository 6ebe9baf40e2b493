-- Cells one after another, as the program lays them: what is laid, with what is still to come, is always all; and there is
-- room for it.
use Rattle.std.specs.Prelude.{◌≡◌, ℕ, zero, suc, ◌+◌, ◌-◌, ◌*◌, ◌/◌, ◌%◌, ◌<◌, ◌≤◌, List, [], ◌∷◌, ◌++◌, length, map, drop, get_or, sum_by, nat_eq, Some, slice_get}
use Rattle.std.proofs.Common.{arith, refl, sym, ap, subst, ◌∙◌, append_assoc}
use Rattle.std.proofs.lemmas.List.{drop_more, append-nil}
use Rattle.std.proofs.lemmas.List.Sums.{sum_by-cons}
use Rattle.std.proofs.lemmas.Option.{slice_get-get_or}
use Rattle.gos_netlist.specs.Nets.{Cell, pins}
use Rattle.gos_netlist.specs.Seen.{cell_of}
use Rattle.gos_netlist.specs.declared.nets.Cell as declared
use Rattle.gos_netlist.specs.declared.nets.Gate.TheVariants as gates
use Rattle.gos_netcheck.specs.CellRules.{WidthsFit}
use Rattle.gos_gates.specs.Bits.{bits_of}
use Rattle.gos_gates.specs.Lowered.{width_of, units}
use Rattle.gos_gates.specs.inner.Adding.{one_bit}
use Rattle.gos_gates.specs.inner.Laying.{Laid, literals_of, next_variable, with_cell, with_cells, cell_at, no_cell, pin_bits, IsNarrow, units_at}
use Rattle.gos_gates.specs.inner.Orders.{numbers_from}
use Rattle.gos_gates.proofs.KindLemmas.{test_bit}
use Rattle.gos_gates.proofs.StandLemmas.{width_is}
use Rattle.gos_gates.proofs.NarrowLemmas.{GrowsBy, grows}

-- a cell as it is seen
pub seen_cell : (cells : List declared.Cell) (n : ℕ) → cell_at (map cell_of cells) n ≡ cell_of (get_or cells n (record { width = 0; gate = gates.Input }))
seen_cell [] n = refl
seen_cell (c ∷ cells) zero = refl
seen_cell (c ∷ cells) (suc n) = seen_cell cells n

-- a bit more of a constant
pub constant_more : (w i n : ℕ) (done : List ℕ) → i < w → done ++ map one_bit (bits_of (w - i) n) ≡ (done ++ (n % 2) ∷ []) ++ map one_bit (bits_of (w - (i + 1)) (n / 2))
constant_more w i n done low =
    let e : w - i ≡ suc (w - (i + 1)) = omega (arith, low) in
    let bit : one_bit (nat_eq (n % 2) 1) ≡ n % 2 = test_bit (n % 2) (omega arith) in
    let rest : List ℕ = map one_bit (bits_of (w - (i + 1)) (n / 2)) in
    ap (λ (k : ℕ). done ++ map one_bit (bits_of k n)) e ∙ (ap (λ (x : ℕ). done ++ x ∷ rest) bit ∙ sym (append_assoc done ((n % 2) ∷ []) rest))

-- and at its end
pub constant_end : (w i n : ℕ) (done : List ℕ) → w ≤ i → done ++ map one_bit (bits_of (w - i) n) ≡ done
constant_end w i n done past =
    let e : w - i ≡ 0 = omega (arith, past) in
    ap (λ (k : ℕ). done ++ map one_bit (bits_of k n)) e ∙ append-nil done

-- a number more
pub numbers_more : (n : ℕ) → numbers_from 0 (n + 1) ≡ numbers_from 0 n ++ n ∷ []
numbers_more n = let e : n + 1 ≡ suc n = omega arith in ap (numbers_from 0) e ∙ (one 0 n ∙ (let z : 0 + n ≡ n = omega arith in ap (λ (x : ℕ). numbers_from 0 n ++ x ∷ []) z))
  where
    one : (m k : ℕ) → numbers_from m (suc k) ≡ numbers_from m k ++ (m + k) ∷ []
    one m zero = let e : m ≡ m + 0 = omega arith in ap (λ (x : ℕ). x ∷ []) e
    one m (suc k) =
        let e : suc m + k ≡ m + suc k = omega arith in
        ap (λ (xs : List ℕ). m ∷ xs) (one (suc m) k ∙ ap (λ (x : ℕ). numbers_from (suc m) k ++ x ∷ []) e)

pub record LaysOn (cells : List Cell) (order : List ℕ) (old now : Laid) (i : ℕ) : Type 0 where
  pub rest : with_cells cells order old ≡ with_cells cells (drop i order) now
  pub narrow : IsNarrow cells now
  pub few : length now.gates + 8 * units_at cells (drop i order) ≤ length old.gates + 8 * units_at cells order
  pub base : now.base ≡ old.base
  pub nets : length now.nets ≡ length old.nets

pin_sum : (cells : List Cell) (s : Laid) (ps : List ℕ) → IsNarrow cells s → sum_by (λ a. length (literals_of s a)) ps ≤ sum_by (width_of cells) ps
pin_sum cells s [] narrow = omega arith
pin_sum cells s (a ∷ ps) narrow =
    omega (arith, narrow a, pin_sum cells s ps narrow, sum_by-cons (λ n. length (literals_of s n)) a ps, sum_by-cons (width_of cells) a ps)

module _ (cells : List Cell) (order : List ℕ) (old now : Laid) (i : ℕ) (so : LaysOn cells order old now i) (inside : i < length order) where
  abbrev net : ℕ
  net = get_or order i 0

  here : drop i order ≡ net ∷ drop (i + 1) order
  here = drop_more order i 0 inside

  pub pins_few : pin_bits now (cell_at cells net).gate ≤ units cells (cell_at cells net)
  pins_few = omega (arith, pin_sum cells now (pins (cell_at cells net).gate) so.narrow)

  pub units_here : units_at cells (drop i order) ≡ units cells (cell_at cells net) + units_at cells (drop (i + 1) order)
  units_here = ap (units_at cells) here ∙ sum_by-cons (λ n. units cells (cell_at cells n)) net (drop (i + 1) order)

  -- there is room for the gates of the next cell
  pub lay_room : (top : ℕ) → next_variable old + 8 * units_at cells order < top → next_variable now + 7 * pin_bits now (cell_at cells net).gate < top
  lay_room top room = omega (arith, room, so.few, so.base, pins_few, units_here)

  pub lays_more : WidthsFit cells → net < length cells → (next : Laid) → next ≡ with_cell cells net now → LaysOn cells order old next (i + 1)
  lays_more fits low next e =
      let there : slice_get cells net ≡ Some (cell_at cells net) = slice_get-get_or cells net no_cell low in
      let right = fits net (cell_at cells net) there in
      let more : GrowsBy cells now (with_cell cells net now) (7 * pin_bits now (cell_at cells net).gate) =
      grows cells now net (cell_at cells net).width so.narrow (sym (width_is cells net)) (cell_at cells net).gate right.0 right.2 in
      let P : Laid → Type 0 = λ x. LaysOn cells order old x (i + 1) in
      subst P (sym e)
      (record {
        rest = so.rest ∙ ap (λ (ns : List ℕ). with_cells cells ns now) here;
        narrow = more.narrow;
        few = omega (arith, so.few, more.few, pins_few, units_here);
        base = more.base ∙ so.base;
        nets = more.nets ∙ so.nets;
      })
