-- Passes over all cells: where one changes nothing, the values are a settling.
use Rattle.std.specs.Prelude.{◌≡◌, ℕ, zero, suc, ◌+◌, ◌*◌, ◌^◌, ◌%◌, ◌<◌, ◌≤◌, List, [], ◌∷◌, length, map, All, Some, slice_get, true, false}
use Rattle.std.specs.Str.{bytes_eq}
use Rattle.std.proofs.lemmas.Slice.Eq.{bytes_eq-Decides}
use Rattle.std.proofs.Common.{arith, refl, sym, ◌∙◌, ap, subst}
use Rattle.std.proofs.Math.ListN.{get_or-map}
use Rattle.std.proofs.lemmas.List.{ext_get_or, length-map}
use Rattle.std.proofs.lemmas.Option.{slice_get-get_or}
use Rattle.gos_netlist.specs.declared.nets.Cell as declared
use Rattle.gos_netlist.specs.Nets.{Cell, Input}
use Rattle.gos_netlist.specs.Seen.{cell_of}
use Rattle.gos_netlist.specs.Settling.{Numbers, at, shown, Settling}
use Rattle.gos_netlist.specs.inner.Passes.{pass_from, pass}

pub length-pass_from : (n : ℕ) (cells : List Cell) (regs ins v : Numbers) → length (pass_from n cells regs ins v) ≡ length cells
length-pass_from n [] regs ins v = refl
length-pass_from n (c ∷ cells) regs ins v = ap suc (length-pass_from (suc n) cells regs ins v)

-- cells that are narrow as clauses see them are narrow
pub narrow : (cells : List declared.Cell) → All (λ c. c.width ≤ 64) (map cell_of cells) → All (λ c. c.width ≤ 64) cells
narrow cells h k d below =
    subst (λ (c : Cell). c.width ≤ 64) (get_or-map cell_of cells k d) (h k (cell_of d) (rw (length-map cells cell_of) below))

-- what a pass gives at a net
at_pass_from : (n k : ℕ) (cells : List Cell) (regs ins v : Numbers) (c : Cell) → slice_get cells k ≡ Some c
    → at (pass_from n cells regs ins v) k ≡ shown c.width c.gate (at regs (n + k)) (at ins (n + k)) (at v)
at_pass_from n k [] regs ins v c h = absurd (cc)
at_pass_from n zero (b ∷ cells) regs ins v c h =
    let same : b ≡ c = cc in
    let e : n ≡ n + zero = omega arith in
    (λ i. shown (same i).width (same i).gate (at regs (e i)) (at ins (e i)) (at v))
at_pass_from n (suc k) (b ∷ cells) regs ins v c h =
    let e : suc n + k ≡ n + suc k = omega arith in
    at_pass_from (suc n) k cells regs ins v c h ∙ (λ i. shown c.width c.gate (at regs (e i)) (at ins (e i)) (at v))

pub at_pass : (k : ℕ) (cells : List Cell) (regs ins v : Numbers) (c : Cell) → slice_get cells k ≡ Some c
    → at (pass cells regs ins v) k ≡ shown c.width c.gate (at regs k) (at ins k) (at v)
at_pass k cells regs ins v c h =
    let e : 0 + k ≡ k = omega arith in
    at_pass_from 0 k cells regs ins v c h ∙ (λ i. shown c.width c.gate (at regs (e i)) (at ins (e i)) (at v))

-- where a pass changes nothing, the values are a settling
pub settling_of_pass : (cells : List Cell) (regs ins v : Numbers) → pass cells regs ins v ≡ v → Settling cells regs ins v
settling_of_pass cells regs ins v same = (
  sym (ap length same) ∙ length-pass_from 0 cells regs ins v,
  λ n c h. sym (ap (λ xs. at xs n) same) ∙ at_pass n cells regs ins v c h,
)

abbrev any_cell : Cell
any_cell = record { width = 0; gate = Input }

-- and a pass changes nothing in a settling
pub pass_of_settling : (cells : List Cell) (regs ins v : Numbers) → Settling cells regs ins v → pass cells regs ins v ≡ v
pass_of_settling cells regs ins v (l, each) =
    ext_get_or 0 (pass cells regs ins v) v (length-pass_from 0 cells regs ins v ∙ sym l) same
  where
    same : (k : ℕ) → k < length (pass cells regs ins v) → at (pass cells regs ins v) k ≡ at v k
    same k below =
        let there = slice_get-get_or cells k any_cell (subst (λ (n : ℕ). k < n) (length-pass_from 0 cells regs ins v) below) in
        at_pass k cells regs ins v _ there ∙ sym (each k _ there)

-- what `settle` reads from the last pass: where it changed nothing, the values are a settling
pub settled : (cells : List Cell) (regs ins next values : Numbers) → next ≡ pass cells regs ins values → true ≡ bytes_eq next values
    → Settling cells regs ins values
settled cells regs ins next values e same =
    let equal : next ≡ values = (bytes_eq-Decides next values).0 (sym same) in
    settling_of_pass cells regs ins values (sym e ∙ equal)

-- and where it gave other values, it changed something
pub unsettled : (cells : List Cell) (regs ins next values : Numbers) → next ≡ pass cells regs ins values → false ≡ bytes_eq next values
    → pass cells regs ins values ≡ values → ⊥
unsettled cells regs ins next values e differ same =
    let equal : bytes_eq next values ≡ true = (bytes_eq-Decides next values).1 (e ∙ same) in
    let no : false ≡ true = differ ∙ equal in
    cc
