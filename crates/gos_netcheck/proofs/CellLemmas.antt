-- The width of a net, as the program reads it.
use Rattle.std.specs.Prelude.{◌≡◌, ℕ, zero, suc, ◌<◌, List, [], ◌∷◌, length, map, get_or}
use Rattle.std.proofs.Common.{arith, ap}
use Rattle.gos_netlist.specs.declared.nets.Cell as declared
use Rattle.gos_netlist.specs.Seen.{cell_of}
use Rattle.gos_netcheck.specs.CellRules.{width_at, widths_of}

pub width_there : (cells : List declared.Cell) (a : ℕ) (c : declared.Cell) → a < length cells → c ≡ get_or cells a c
    → c.width ≡ width_at (widths_of (map cell_of cells)) a
width_there [] a c l is = absurd (omega (arith, l))
width_there (x ∷ xs) zero c l is = ap (λ (y : declared.Cell). y.width) is
width_there (x ∷ xs) (suc a) c l is = width_there xs a c (omega (arith, l)) is
