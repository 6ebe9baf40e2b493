use Rattle.std.proofs.Common.{◌≡◌, ◌<◌, ℕ, Some}
use Rattle.std.specs.Prelude.{slice_get}
use Rattle.gos_witness.specs.declared.program.ProgramPort.{ProgramPort}
use Rattle.gos_witness.proofs.masks.port_of.Given as goal

-- none of the ports so far has the name
abbrev pub invariant-loop-number : goal.invariant-loop-number
invariant-loop-number l = (k : ℕ) (p : ProgramPort) → 0 < k → k < l.number → slice_get l.fn.ports k ≡ Some p → p.name ≡ l.fn.name → ⊥
