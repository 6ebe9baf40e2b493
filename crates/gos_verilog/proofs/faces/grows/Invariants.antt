use Rattle.std.proofs.Common.{◌<◌, ◌++◌, ◌∷◌, [], ℕ}
use Rattle.gos_verilog.specs.inner.Faces.{IsFree}
use Rattle.gos_verilog.proofs.faces.grows.Given as goal

-- with none of the bytes so far it is a free name
abbrev pub invariant-loop-b : goal.invariant-loop-b
invariant-loop-b l = (c : ℕ) → c < l.b → IsFree l.places (l.bytes ++ c ∷ []) → ⊥
