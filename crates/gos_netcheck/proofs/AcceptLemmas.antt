-- A netlist that keeps the rules for cells and ports is accepted, or has a cycle.
use Rattle.std.specs.Prelude.{◌≡◌, ℕ, List, Result, Ok, Err, IfOk, IfErr}
use Rattle.std.proofs.Common.{subst}
use Rattle.gos_netlist.specs.Nets.{Cell, Netlist}
use Rattle.gos_netcheck.specs.declared.fault.NetFault.{NetFault}
use Rattle.gos_netcheck.specs.declared.fault.NetFault.TheVariants as faults
use Rattle.gos_netcheck.specs.CellRules.{NetsExist, WidthsFit}
use Rattle.gos_netcheck.specs.PortRules.{PortsFit}
use Rattle.gos_netcheck.specs.Schedule.{IsSchedule}
use Rattle.gos_netcheck.specs.Accepted.{IsAccepted, HasFault}
use Rattle.gos_netcheck.specs.inner.CellFaults.{IsCellFault}
use Rattle.gos_netcheck.specs.inner.Search.{IsCycleFault}
use Rattle.gos_netcheck.proofs.ScheduleLemmas.{scheduled_is_acyclic}

-- what follows from what a clause says of the value in an `Ok`, and in an `Err`
pub ok_then : {X E : Type 0} (r : Result X E) {P Q : X → Type 0} → IfOk r P → ((x : X) → P x → Q x) → IfOk r Q
ok_then (Ok x) h f = f x h
ok_then (Err e) h f = h

pub err_then : {X E : Type 0} (r : Result X E) {P Q : E → Type 0} → IfErr r P → ((e : E) → P e → Q e) → IfErr r Q
err_then (Ok x) h f = h
err_then (Err e) h f = f e h

-- the rules, for cells that are those of the netlist
pub accepted : (net : Netlist) (cells : List Cell) (order : List ℕ) → cells ≡ net.cells → NetsExist net.cells → WidthsFit net.cells
    → PortsFit net.cells net.ports → IsSchedule cells order → IsAccepted net
accepted net cells order e nets widths ports scheduled =
    let P : List Cell → Type 0 = λ cs. IsSchedule cs order in
    record { nets = nets; widths = widths; ports = ports; acyclic = scheduled_is_acyclic net.cells order (subst P e scheduled) }

pub faulty : (net : Netlist) (cells : List Cell) → cells ≡ net.cells → NetsExist net.cells → WidthsFit net.cells → PortsFit net.cells net.ports
    → (fault : NetFault) → IsCycleFault cells fault → HasFault net fault
faulty net cells e nets widths ports fault cycle =
    let P : List Cell → Type 0 = λ cs. IsCycleFault cs fault in
    by_fault fault (subst P e cycle)
  where
    by_fault : (fault : NetFault) → IsCycleFault net.cells fault → HasFault net fault
    by_fault (faults.Cycle ring) found = (nets, widths, ports, found)
    by_fault (faults.Width cell) found = absurd found
    by_fault (faults.NoSuchNet cell) found = absurd found
    by_fault (faults.Port index) found = absurd found
    by_fault faults.NoMemory found = tt

-- a fault of the cells is one of the netlist
pub wrong_cell : (net : Netlist) (cells : List Cell) → cells ≡ net.cells → (fault : NetFault) → IsCellFault cells fault → HasFault net fault
wrong_cell net cells e fault wrong =
    let P : List Cell → Type 0 = λ cs. IsCellFault cs fault in
    by_fault fault (subst P e wrong)
  where
    by_fault : (fault : NetFault) → IsCellFault net.cells fault → HasFault net fault
    by_fault (faults.NoSuchNet cell) found = found
    by_fault (faults.Width cell) found = found
    by_fault (faults.Port index) found = absurd found
    by_fault (faults.Cycle ring) found = absurd found
    by_fault faults.NoMemory found = absurd found
