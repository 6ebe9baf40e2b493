use Rattle.std.proofs.Common.{◌≡◌, ◌∙◌, ℕ, List, [], ◌++◌, map, refl, ap, sum, get_or, arith}
use Rattle.gos_netlist.specs.Nets.{Netlist, Input, Cell, Give, NetPort, pins}
use Rattle.gos_types.specs.Types.{Com}
use Rattle.gos_macro.specs.Cells.{bit}
use Rattle.gos_expand.specs.SmallNets.{skip_netlist}
use Rattle.gos_expand.specs.Into.{raised_cell, raised_port}
use Rattle.gos_expand.proofs.IntoLemmas.{behind_none}
use Rattle.gos_expand.proofs.laws.into_pools.Goals as goal

-- the sum of what a cell names, and of the nets of a port
at : ℕ → List Cell → ℕ
at n cells = sum (pins (get_or cells n (bit Input)).gate)

port_sum : List NetPort → ℕ
port_sum ports = sum (get_or ports 0 (record { name = []; side = Give; ty = Com; nets = [] })).nets

pub returns-clause-none : goal.returns-clause-none
returns-clause-none c = behind_none

pub returns-clause-raised : goal.returns-clause-raised
returns-clause-raised c = record { net = skip_netlist; laid = refl; cells = refl; ports = refl }

pub returns-clause-cells : goal.returns-clause-cells
unfolding at
returns-clause-cells c = λ twice.
    let net : twice.net ≡ skip_netlist = twice.laid in
    let cells = twice.cells ∙ ap (λ (n : Netlist). skip_netlist.cells ++ map (raised_cell 5) n.cells) net in
    let pin : 3 ≡ 8 = ap (at 6) cells in
    omega (arith, pin)

pub returns-clause-ports : goal.returns-clause-ports
unfolding port_sum
returns-clause-ports c = λ twice.
    let net : twice.net ≡ skip_netlist = twice.laid in
    let ports = twice.ports ∙ ap (λ (n : Netlist). map (raised_port 5) n.ports) net in
    let sums : 1 ≡ 11 = ap port_sum ports in
    omega (arith, sums)
