-- What is true inside each program.
use Rattle.std.specs.Prelude.{◌<◌, length}
use Rattle.gos_witness.specs.declared.program.Program.TheInside.{Inside}
use Rattle.gos_witness.specs.Ports.{ArePorts}
use Rattle.gos_witness.specs.Programs.{SeenProgram}

abbrev pub program_in : Inside → SeenProgram
program_in p = record { list = p.list; root = p.root; ports = p.ports.items }

-- The root is a node, and the ports are a program's.
pub record IsWhole (p : Inside) : Type 0 where
  pub root : p.root < length p.list.nodes
  pub ports : ArePorts p.ports.items
