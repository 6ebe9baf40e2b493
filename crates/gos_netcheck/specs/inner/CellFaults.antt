-- Why the cells of a netlist are refused.
--
-- Read first: CellRules. Between the test of cells and its lemmas.
use Rattle.std.specs.Prelude.{List}
use Rattle.gos_netlist.specs.Nets.{Cell}
use Rattle.gos_netcheck.specs.declared.fault.NetFault.{NetFault}
use Rattle.gos_netcheck.specs.declared.fault.NetFault.TheVariants as faults
use Rattle.gos_netcheck.specs.CellRules.{NetsExist, IsFirstWithoutNet, IsFirstOfWrongWidth}

-- the first cell that names a net that isn't there, or, where none does, the first one of a wrong width
abbrev pub IsCellFault : List Cell → NetFault → Type 0
IsCellFault cells (faults.NoSuchNet cell) = IsFirstWithoutNet cells cell
IsCellFault cells (faults.Width cell) = NetsExist cells × IsFirstOfWrongWidth cells cell
IsCellFault cells fault = ⊥
