-- A text of a netlist, from stage to stage of the reader.
use Rattle.std.proofs.Common.{◌≡◌, ℕ, zero, suc, ◌+◌, ◌<◌, true, List, [], ◌∷◌, ◌++◌, length, map, Some, refl, sym, ◌∙◌, ap, subst, arith, slice_get, append_assoc}
use Rattle.std.specs.List.{AllByRecursion}
use Rattle.std.proofs.lemmas.Option.{slice_get_within}
use Rattle.gos_lex.specs.Names.{IsNameOrWord}
use Rattle.gos_netlist.specs.Nets.{Input, Cell, NetPort, Netlist}
use Rattle.gos_netlist.specs.Writable.{IsWritableCell, IsWritablePort}
use Rattle.gos_verilog.specs.declared.fault.VFault.{VFault}
use Rattle.gos_verilog.specs.declared.fault.VFault.TheVariants as faults
use Rattle.gos_lex.specs.declared.table.NameTable.{NameTable}
use Rattle.gos_verilog.specs.PortNets.{PortNet, port_nets}
use Rattle.gos_verilog.specs.VerilogText.{first_name, declarations, outputs, AreDrivers, IsItsNet, IsVerilogOf}
use Rattle.gos_verilog.specs.Readable.{IsRead, IsReadable, IsRefused}
use Rattle.gos_verilog.specs.inner.Stages.{IsWant, IsNetName, HaveOwnNames, HaveCellWidths, declared_net}
use Rattle.gos_verilog.specs.inner.Inputs.{AreFed}
use Rattle.gos_verilog.specs.inner.Noted.{HasPlaces, AreRight}
use Rattle.gos_verilog.specs.inner.Parts.{Parts, front_of}
use Rattle.gos_verilog.specs.Lines.{cell_declarations}
use Rattle.gos_verilog.specs.Place.{ArePorts}
use Rattle.gos_verilog.proofs.SuffixLemmas as names
use Rattle.gos_verilog.proofs.PortLemmas.{IsRightNet, right_nets}
use Rattle.gos_verilog.proofs.FoundLemmas.{wide_nets, number_nets}
use Rattle.gos_verilog.proofs.OneTextLemmas.{drivers_body, outputs_body, names_of, readable_own, readable_apart}

cell_widths : (cells : List Cell) → AllByRecursion IsWritableCell cells → HaveCellWidths cells
cell_widths [] all = tt
cell_widths (c ∷ cells) all = (all.0.0, cell_widths cells all.1)

pub net_names : (nets : List PortNet) → AllByRecursion IsRightNet nets → AllByRecursion (λ n. IsNetName n.name) nets
net_names [] all = tt
net_names (n ∷ nets) all = (all.0.name, net_names nets all.1)

pub right_of : (net : Netlist) → IsReadable net → AreRight (port_nets net.ports) net.cells
right_of net readable =
    record {
      names = net_names (port_nets net.ports) (right_nets net.ports readable.writable.ports);
      own = λ j k a b is_a is_b same. names.one_place (port_nets net.ports) j k a b (readable_apart net readable) is_a is_b same;
      inputs = readable.inputs;
      apart = readable_own net readable;
      fit = readable.writable.cells;
    }

pub first_named : (ps : List NetPort) → 0 < length ps → AllByRecursion IsWritablePort ps → IsNameOrWord (first_name ps)
first_named [] some all = absurd (omega (arith, some))
first_named (p ∷ ps) some all = all.0.name

-- the parts of a text that is read as a netlist
pub parts_of : (net : Netlist) (text : List ℕ) → IsRead text net → (parts : Parts net) × ArePorts net.ports × (text ≡ front_of net.ports ++ (cell_declarations 0 parts.cells ++ (parts.drivers ++ parts.back)))
parts_of net text (readable, (drivers, are, is)) =
    let nets : List PortNet = port_nets net.ports in
    let right = right_nets net.ports readable.writable.ports in (
      record {
        first = first_name net.ports;
        nets = nets;
        cells = net.cells;
        drivers = drivers;
        back = outputs net;
        nets_are = refl;
        cells_are = refl;
        back_is = refl;
        ports = readable.writable.ports;
        bytes = first_named net.ports readable.some readable.writable.ports;
        names = names_of nets right;
        wide = wide_nets net.ports readable.writable.ports;
        numbers = number_nets net.ports readable.writable.ports;
        cell_wide = cell_widths net.cells readable.writable.cells;
        few = readable.writable.cell_count;
        body = drivers_body nets 0 net.cells drivers (outputs net) are (outputs_body nets);
        right = right_of net readable;
        are = are;
      },
      record { writable = readable.writable.ports; count = readable.writable.port_count; some = readable.some; names = readable.names },
      is ∙ (append_assoc (declarations net) drivers (outputs net) ∙ append_assoc (front_of net.ports) (cell_declarations 0 net.cells) (drivers ++ outputs net)),
    )

-- the names and places that are known of declared nets
pub undeclared : (nets : List PortNet) (k : ℕ) (a : PortNet) → slice_get (map declared_net nets) k ≡ Some a → (b : PortNet) × (slice_get nets k ≡ Some b) × (a ≡ declared_net b)
undeclared [] k a is = absurd (cc is)
undeclared (n ∷ nets) zero a is = let same : declared_net n ≡ a = cc is in (n, refl, sym same)
undeclared (n ∷ nets) (suc k) a is = undeclared nets k a is

pub own_declared : (nets : List PortNet) → HaveOwnNames nets → HaveOwnNames (map declared_net nets)
own_declared nets own j k a b is_a is_b same =
    let one = undeclared nets j a is_a in
    let other = undeclared nets k b is_b in
    own j k one.0 other.0 one.1 other.1 (ap (λ (n : PortNet). n.name) (sym one.2) ∙ (same ∙ ap (λ (n : PortNet). n.name) other.2))

pub get_declared : (nets : List PortNet) (k : ℕ) (net : PortNet) → slice_get nets k ≡ Some net → slice_get (map declared_net nets) k ≡ Some (declared_net net)
get_declared [] k net is = absurd (cc is)
get_declared (n ∷ nets) zero net is = let same : n ≡ net = cc is in ap (λ (m : PortNet). Some (declared_net m)) same
get_declared (n ∷ nets) (suc k) net is = get_declared nets k net is

pub places_known : (nets seen : List PortNet) (places : NameTable) → seen ≡ map declared_net nets → HaveOwnNames nets → (HaveOwnNames seen → HasPlaces seen (length seen) places) → HasPlaces nets (length nets) places
places_known nets seen places is own has k net inside at input =
    let known = has (subst HaveOwnNames (sym is) (own_declared nets own)) in
    let there : slice_get seen k ≡ Some (declared_net net) = subst (λ (ns : List PortNet). slice_get ns k ≡ Some (declared_net net)) (sym is) (get_declared nets k net at) in
    known k (declared_net net) (slice_get_within seen k (declared_net net) there) there input

-- each Input cell of a netlist with a text is fed
fed_from : (nets : List PortNet) (i : ℕ) (cells : List Cell) (lines : List ℕ) → AreDrivers IsItsNet nets i cells lines → (j : ℕ) (c : Cell) → slice_get cells j ≡ Some c → c.gate ≡ Input
    → (k : ℕ) × (net : PortNet) × (slice_get nets k ≡ Some net) × (net.input ≡ true) × (net.cell ≡ i + j)
fed_from nets i [] lines are j c is gate = absurd (cc is)
fed_from nets i (d ∷ cells) lines are zero c is gate =
    let same : d ≡ c = cc is in
    let e : i ≡ i + 0 = omega arith in
    let fed = are.2 (ap (λ (x : Cell). x.gate) same ∙ gate) in
    (fed.0, fed.1, fed.2, fed.3, fed.4 ∙ e)
fed_from nets i (d ∷ cells) lines are (suc j) c is gate =
    let e : suc i + j ≡ i + suc j = omega arith in
    let rest = fed_from nets (suc i) cells are.1 are.3 j c is gate in
    (rest.0, rest.1, rest.2, rest.3, rest.4 ∙ e)

pub text_fed : (net : Netlist) (text : List ℕ) → IsVerilogOf net text → AreFed (port_nets net.ports) net.cells
text_fed net text (drivers, are, is) j c at gate =
    let e : 0 + j ≡ j = omega arith in
    let fed = fed_from (port_nets net.ports) 0 net.cells drivers are j c at gate in
    (fed.0, (fed.1, fed.2, fed.3, fed.4 ∙ e))

-- where a text of a netlist makes memory the want, a fault of form refuses none
pub refused : (text : List ℕ) (fault : VFault) → ((net : Netlist) → IsRead text net → IsWant fault) → IsRefused text fault
refused text (faults.Form at) want = λ net read. let wrong = want net read in cc wrong
refused text faults.NoMemory want = tt
