use Rattle.std.proofs.Common.{◌≡◌, ◌++◌, ℕ, List, length, take, sym, ◌∙◌, ap}
use Rattle.std.proofs.Math.Seq.{take-append_seam}
use Rattle.gos_netlist.specs.Nets.{NetPort}
use Rattle.gos_netlist.specs.Events.{net_count}
use Rattle.gos_verilog.specs.PortNets.{PortNet, nets_of_port}
use Rattle.gos_verilog.proofs.FoundLemmas.{port_length}
use Rattle.gos_netlist.specs.Writable.{IsWritablePort}
use Rattle.gos_verilog.proofs.ports_of.port_at.Goals as goal

-- the first nets are those of the port
first_nets : (p : NetPort) (nets behind : List PortNet) (count : ℕ) → IsWritablePort p → nets ≡ nets_of_port p ++ behind → count ≡ net_count p.ty → take count nets ≡ nets_of_port p
first_nets p nets behind count is same many =
    let size : count ≡ length (nets_of_port p) = many ∙ sym (port_length p is) in
    (λ i. take (size i) (same i)) ∙ take-append_seam (nets_of_port p) behind

pub returns-in-Some-2-clause-stands : goal.returns-in-Some-2-clause-stands
returns-in-Some-2-clause-stands c p behind is same =
    let ty = c.in-Some.ensures.stands p behind is same in
    let many : c.net_count-count.result ≡ net_count p.ty = c.net_count-count.ensures.count ∙ ap net_count ty in
    let known = c.in_ok-port-in-Some.ensures.stands p is (first_nets p c.args.nets.now behind c.net_count-count.result is same many) ty in
    (rw c.in-Some-2.is at known, many)

pub returns-in-None-2-clause-stands : goal.returns-in-None-2-clause-stands
returns-in-None-2-clause-stands c p behind is same =
    let ty = c.in-Some.ensures.stands p behind is same in
    let many : c.net_count-count.result ≡ net_count p.ty = c.net_count-count.ensures.count ∙ ap net_count ty in
    let known = c.in_ok-port-in-Some.ensures.stands p is (first_nets p c.args.nets.now behind c.net_count-count.result is same many) ty in
    rw c.in-None-2.is at known
