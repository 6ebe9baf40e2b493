-- A fault of an item, as a fault of what the item stands in.
use Rattle.std.proofs.Common.{ℕ, List}
use Rattle.gos_lex.specs.Items.{Misses}
use Rattle.gos_netlist.specs.declared.fault.NetTextFault.{NetTextFault}
use Rattle.gos_netlist.specs.declared.fault.NetTextFault.TheVariants as faults
use Rattle.gos_netlist.specs.inner.NetLines.{BreaksOff}

pub breaks_by : (P Q : List ℕ → Type 0) (s t : List ℕ) (a b : ℕ) → ((place : ℕ) → Misses P s a place → Misses Q t b place) → (fault : NetTextFault) → BreaksOff P s a fault → BreaksOff Q t b fault
breaks_by P Q s t a b holds (faults.Form place) misses = holds place misses
breaks_by P Q s t a b holds (faults.Limit place) none = none
breaks_by P Q s t a b holds faults.NoMemory any = tt
