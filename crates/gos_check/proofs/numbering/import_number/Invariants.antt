use Rattle.std.proofs.Common.{◌≡◌, drop}
use Rattle.gos_check.specs.Numbering.{import_number, raised}
use Rattle.gos_check.proofs.numbering.import_number.Given as goal

-- the name isn't among those before
abbrev pub invariant-loop-place : goal.invariant-loop-place
invariant-loop-place l = import_number l.imports l.name ≡ raised l.place (import_number (drop l.place l.imports) l.name)
