-- Settling by repeated passes over all cells.
--
-- Read first: Settling. A pass takes what each cell shows from the values of the pass before. Where a pass changes
-- nothing, the values are a settling. Between the slow program `settle` and its lemmas.
use Rattle.std.specs.Prelude.{ℕ, zero, suc, List, [], ◌∷◌, length, replicate}
use Rattle.gos_netlist.specs.Nets.{Cell}
use Rattle.gos_netlist.specs.Settling.{Numbers, at, shown}

-- what the cells from net number n on show, where the nets have the values v
abbrev pub pass_from : ℕ → List Cell → Numbers → Numbers → Numbers → Numbers
pass_from n [] regs ins v = []
pass_from n (c ∷ cells) regs ins v = shown c.width c.gate (at regs n) (at ins n) (at v) ∷ pass_from (suc n) cells regs ins v

-- what all cells show
abbrev pub pass : List Cell → Numbers → Numbers → Numbers → Numbers
pass cells regs ins v = pass_from 0 cells regs ins v

-- the values after so many passes, from all 0
abbrev pub after_passes : ℕ → List Cell → Numbers → Numbers → Numbers
after_passes zero cells regs ins = replicate (length cells) 0
after_passes (suc n) cells regs ins = pass cells regs ins (after_passes n cells regs ins)
