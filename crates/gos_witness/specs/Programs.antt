-- Programs as clauses see them.
--
-- Read first: NodeLists, Ports; Moves of gos_model (programs).
use Rattle.std.specs.Prelude.{ℕ, List}
use Rattle.gos_model.specs.Moves.{Program}
use Rattle.gos_witness.specs.declared.program.ProgramPort.{ProgramPort}
use Rattle.gos_witness.specs.NodeLists.{Listed, seen}
use Rattle.gos_witness.specs.Ports.{imports_of}

-- nodes, the number of the whole term, and the ports
pub record SeenProgram : Type 0 where
  pub list : Listed
  pub root : ℕ
  pub ports : List ProgramPort

-- the program
abbrev pub program_of : SeenProgram → Program
program_of p = record { imports = imports_of p.ports; body = seen p.list p.root }
