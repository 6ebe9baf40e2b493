use Rattle.std.proofs.Common.{◌≡◌, ◌<◌, ◌++◌, ℕ, List, take}
use Rattle.gos_verilog.specs.inner.Faces.{IsFree}
use Rattle.gos_verilog.proofs.faces.ends_as.Given as goal

-- none of the fronts so far is the end of the bytes, with a free name before it
abbrev pub invariant-loop-k : goal.invariant-loop-k
invariant-loop-k l = (j : ℕ) (front : List ℕ) → j < l.k → IsFree l.places front → l.bytes ≡ front ++ take j l.suffix → ⊥
