-- Elements of a list, by place.
use Rattle.std.proofs.Common.{◌≡◌, ℕ, zero, suc, ◌+◌, ◌-◌, ◌<◌, ◌≤◌, List, [], ◌∷◌, ◌++◌, length, map, take, drop, get_or, refl, sym, ◌∙◌, ap, arith, subst, drop-cons, add-one, length-drop}
use Rattle.std.specs.List.{AllByRecursion}
use Rattle.gos_netlist.specs.declared.nets.Cell.{Cell}
use Rattle.gos_netlist.specs.declared.nets.NetId.{NetId}
use Rattle.gos_netlist.specs.Seen.{cell_of, number_of}
use Rattle.gos_netlist.specs.Writable.{IsNumber, IsWritableCell}

-- what is left from a place on is its element and what is left behind it
pub drop_at : (C : Type 0) (cs : List C) (k : ℕ) (c : C) → k < length cs → c ≡ get_or cs k c → drop k cs ≡ c ∷ drop (k + 1) cs
drop_at C cs k c inside is = drop-cons cs k c inside ∙ (λ i. sym is i ∷ drop (sym (add-one k) i) cs)

pub all_at : (C : Type 0) (P : C → Type 0) (cs : List C) (k : ℕ) (c : C) → k < length cs → c ≡ get_or cs k c → AllByRecursion P cs → P c
all_at C P [] k c inside is all = absurd (omega (arith, inside))
all_at C P (d ∷ cs) zero c inside is all = subst P (sym is) all.0
all_at C P (d ∷ cs) (suc k) c inside is all = all_at C P cs k c (omega (arith, inside)) is all.1

pub all_drop : (C : Type 0) (P : C → Type 0) (cs : List C) (k : ℕ) → AllByRecursion P cs → AllByRecursion P (drop k cs)
all_drop C P cs zero all = all
all_drop C P [] (suc k) all = tt
all_drop C P (c ∷ cs) (suc k) all = all_drop C P cs k all.1

-- one element more
pub all_snoc : (C : Type 0) (P : C → Type 0) (cs : List C) (c : C) → AllByRecursion P cs → P c → AllByRecursion P (cs ++ c ∷ [])
all_snoc C P [] c all is = (is, tt)
all_snoc C P (d ∷ cs) c all is = (all.0, all_snoc C P cs c all.1 is)

-- one net more
pub numbers_snoc : (nets : List NetId) (net : NetId) → AllByRecursion IsNumber (map number_of nets) → IsNumber net.0 → AllByRecursion IsNumber (map number_of (nets ++ net ∷ []))
numbers_snoc [] net all is = (is, tt)
numbers_snoc (n ∷ nets) net all is = (all.0, numbers_snoc nets net all.1 is)

-- one cell more
pub cells_snoc : (cells : List Cell) (cell : Cell) → AllByRecursion IsWritableCell (map cell_of cells) → IsWritableCell (cell_of cell)
    → AllByRecursion IsWritableCell (map cell_of (cells ++ cell ∷ []))
cells_snoc [] cell all is = (is, tt)
cells_snoc (c ∷ cells) cell all is = (all.0, cells_snoc cells cell all.1 is)

-- what is left from a place on, as the code takes it
pub rest_all : (A : Type 0) (xs : List A) (n : ℕ) → take (length xs - n) (drop n xs) ≡ drop n xs
rest_all A xs n = all (drop n xs) (length xs - n) (omega (arith, length-drop n xs))
  where
    all : (ys : List A) (k : ℕ) → length ys ≤ k → take k ys ≡ ys
    all [] zero past = refl
    all [] (suc k) past = refl
    all (y ∷ ys) zero past = absurd (omega (arith, past))
    all (y ∷ ys) (suc k) past = ap (λ rest. y ∷ rest) (all ys k (omega (arith, past)))
