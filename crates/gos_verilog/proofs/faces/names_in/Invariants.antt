use Rattle.std.proofs.Common.{◌≡◌, take}
use Rattle.gos_verilog.specs.inner.Faces.{names_in}
use Rattle.gos_verilog.proofs.faces.names_in.Given as goal

-- the names so far
abbrev pub invariant-loop-role : goal.invariant-loop-role
invariant-loop-role l = l.text.items ≡ names_in l.name (take l.role-index l.roles)
