-- Ports, and the table of their names, as the program keeps them.
use Rattle.std.specs.Prelude.{◌≡◌, ◌<◌, ℕ, List, Some, None, length, slice_get}
use Rattle.gos_lex.specs.Lines.{Word}
use Rattle.gos_link.specs.declared.whole.Port as declared_port
use Rattle.gos_lex.specs.NameTables.{number_at}
use Rattle.gos_lex.specs.declared.table.NameTable.{NameTable}
use Rattle.gos_link.specs.declared.fault.LinkFault.{LinkFault}
use Rattle.gos_link.specs.declared.fault.LinkFault.TheVariants as faults
use Rattle.gos_link.specs.Linked.{Port, AreDifferent, IsSecond}

abbrev pub port_seen : declared_port.Port → Port
port_seen p = record { name = p.name.now; instance = p.instance.now }

-- a table has the names of the first n ports, and has only such
pub record IsTable (ports : List Port) (n : ℕ) (numbers : NameTable) : Type 0 where
  pub sound : (name : Word) (i : ℕ) → number_at numbers name ≡ Some i → (p : Port) × (i < n) × (slice_get ports i ≡ Some p) × (p.name ≡ name)
  pub complete : (i : ℕ) (p : Port) → i < n → slice_get ports i ≡ Some p → number_at numbers p.name ≡ None → ⊥

-- all have different names
abbrev pub AllDiffer : List Port → Type 0
AllDiffer ports = AreDifferent (length ports) ports

-- the fault tells the first port whose name one before it has
abbrev pub IsOpenTwice : List Port → LinkFault → Type 0
IsOpenTwice ports fault = (one other : Port) × IsSecond ports one other × (fault ≡ faults.OpenTwice other.name one.instance other.instance)
