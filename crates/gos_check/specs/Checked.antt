-- A checked module as clauses see it, and what is known of it.
--
-- Read first: Linearity, Accepted. The program is read off the typed term.
use Rattle.std.specs.Prelude.{◌≡◌, ℕ, ◌≤◌, List, [], map}
use Rattle.gos_types.specs.declared.types.Ty.{Ty}
use Rattle.gos_types.specs.Types.{type_of}
use Rattle.gos_syntax.specs.Modules.{SeenImport}
use Rattle.gos_model.specs.Typing.{Typed}
use Rattle.gos_model.specs.Weight.{weight}
use Rattle.gos_model.specs.Moves.{Program}
use Rattle.gos_model.specs.Sources.{import_of}
use Rattle.gos_check.specs.declared.linear.Node.{Node}
use Rattle.gos_check.specs.Accepted.{NamesDiffer, AreWritten, IsWritten, KeepsLimits}
use Rattle.gos_check.specs.Nodes.{meaning, node_seen}
use Rattle.gos_check.specs.Linearity.{import_at, StandsFor}

-- a checked module
pub record SeenLinear : Type 0 where
  pub weight : ℕ
  pub imports : List SeenImport
  pub result : Ty
  pub term : Node

-- the program of a checked module: its imports, and what its term means
abbrev pub program_in : SeenLinear → Program
program_in l =
    record { imports = map import_of l.imports; body = meaning (import_at (map import_of l.imports)) (node_seen l.term) }

-- what is known of a checked module: its program is typed and keeps the limits, its term stands for the program, and its
-- weight is the program's
pub record IsChecked (l : SeenLinear) : Type 0 where
  pub names : NamesDiffer l.imports
  pub imports : AreWritten l.imports
  pub result : IsWritten (type_of l.result)
  pub typed : Typed (program_in l).imports [] (program_in l).body (type_of l.result)
  pub limits : KeepsLimits (program_in l).imports [] (program_in l).body
  pub term : StandsFor (program_in l) (node_seen l.term)
  pub light : l.weight ≤ 8192
  pub weight : weight (program_in l).imports (program_in l).body ≡ l.weight
