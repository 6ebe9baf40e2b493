-- What may be left behind the front of a text is what makes it a text of the form of a netlist's.
use Rattle.std.proofs.Common.{◌≡◌, inl, inr, ℕ, zero, suc, ◌<◌, Bool, true, false, if◌then◌else◌, List, [], ◌∷◌, ◌++◌, length, map, Some, refl, sym, ◌∙◌, ap, subst, arith, slice_get, append_assoc, codes}
use Rattle.std.specs.List.{AllByRecursion, flat_map}
use Rattle.std.proofs.lemmas.List.{append_cancel_left, length-map}
use Rattle.gos_netlist.specs.Nets.{Cell, Side, Give, NetPort, Netlist}
use Rattle.gos_netlist.specs.Writable.{IsNumber, IsWritableCell, IsWritablePort}
use Rattle.gos_netcheck.specs.Rules.{Kept}
use Rattle.gos_verilog.specs.declared.declared.Shape.{Shape}
use Rattle.gos_verilog.specs.declared.port_net.Role.{Role}
use Rattle.gos_verilog.specs.PortNets.{PortNet, roles, number_bits, net_in_role, nets_in_roles, nets_of_port, port_nets}
use Rattle.gos_verilog.specs.Lines.{clock_declarations, port_declaration, cell_net, cell_declaration, cell_declarations, driver, driver_of, assignment, output_assignment}
use Rattle.gos_verilog.specs.VerilogText.{first_name, declarations, outputs, IsFed, AreDrivers}
use Rattle.gos_verilog.specs.Readable.{HasOwnName}
use Rattle.gos_verilog.specs.Place.{IsOfItsBits, IsFormedText, ArePorts, head_of}
use Rattle.gos_verilog.specs.inner.Parts.{front_of}
use Rattle.gos_verilog.specs.inner.Stages.{declared_net, shape_of}
use Rattle.gos_verilog.specs.inner.Breaks.{Leads}
use Rattle.gos_verilog.specs.inner.Left.{LeftNets, named_nets, only_names, LeftOutput, LeftOutputs, IsSource, LeftDrivers, IsShape, shape_text, shapes_text, LeftCells}
use Rattle.gos_verilog.proofs.CodeLemmas.{name_code}
use Rattle.gos_verilog.proofs.DeclarationLemmas.{AreSameNames, AreSameHeads, nets_code, listed, names_code, cell_text}
use Rattle.gos_verilog.proofs.PortLemmas.{right_nets}
use Rattle.gos_verilog.proofs.FoundLemmas.{number_nets, declared_append}
use Rattle.gos_verilog.proofs.OneTextLemmas.{names_of, bits_of, first_bytes, no_source}
use Rattle.gos_verilog.proofs.NamedLemmas.{nets_left, same_named, all_named, names_are}
use Rattle.gos_verilog.proofs.NamedLemmas as faces_of
use Rattle.gos_verilog.proofs.WholeLemmas.{undeclared, get_declared}
use Rattle.gos_verilog.proofs.LineLemmas.{is_input_or}

nested : (a n c l e k p x : List ℕ) → a ++ n ++ c ++ l ++ e ++ k ++ p ++ x ≡ a ++ (n ++ (c ++ (l ++ (e ++ (k ++ (p ++ x))))))
nested a n c l e k p x =
    append_assoc (a ++ n ++ c ++ l ++ e ++ k) p x
    ∙ (append_assoc (a ++ n ++ c ++ l ++ e) k (p ++ x)
    ∙ (append_assoc (a ++ n ++ c ++ l) e (k ++ (p ++ x))
    ∙ (append_assoc (a ++ n ++ c) l (e ++ (k ++ (p ++ x))) ∙ (append_assoc (a ++ n) c (l ++ (e ++ (k ++ (p ++ x)))) ∙ append_assoc a n (c ++ (l ++ (e ++ (k ++ (p ++ x)))))))))

pub front_parts : (ports : List NetPort) (x : List ℕ) → front_of ports ++ x
    ≡ codes "module gos_" ++ (first_name ports ++ (codes "(clk, rst" ++ (listed (port_nets ports) ++ (codes ");\n" ++ (clock_declarations ++ (flat_map port_declaration (port_nets ports) ++ x))))))
front_parts ports x = nested (codes "module gos_") (first_name ports) (codes "(clk, rst") (listed (port_nets ports)) (codes ");\n") clock_declarations (flat_map port_declaration (port_nets ports)) x

pub same_declared : (ns ms : List PortNet) → AreSameHeads ns ms → map declared_net ns ≡ map declared_net ms
same_declared [] [] heads = refl
same_declared [] (m ∷ ms) heads = absurd heads
same_declared (n ∷ ns) [] heads = absurd heads
same_declared (n ∷ ns) (m ∷ ms) heads = let rest = same_declared ns ms heads.3 in λ i. record { name = heads.0 i; input = heads.1 i; width = heads.2 i; cell = 0 } ∷ rest i

-- the front of a text is that of the same nets
pub front_found : (ports others : List NetPort) (x y : List ℕ) → AllByRecursion IsWritablePort ports → AllByRecursion IsWritablePort others → front_of ports ++ x ≡ front_of others ++ y
    → (map declared_net (port_nets ports) ≡ map declared_net (port_nets others)) × (x ≡ y)
front_found ports others x y writable writable_other same =
    let ns : List PortNet = port_nets ports in
    let ms : List PortNet = port_nets others in
    let right_n = right_nets ports writable in
    let right_m = right_nets others writable_other in
    let rest : List ℕ = clock_declarations ++ (flat_map port_declaration ns ++ x) in
    let rest_other : List ℕ = clock_declarations ++ (flat_map port_declaration ms ++ y) in
    let whole = sym (front_parts ports x) ∙ (same ∙ front_parts others y) in
    let named = append_cancel_left (codes "module gos_") (first_name ports ++ (codes "(clk, rst" ++ (listed ns ++ (codes ");\n" ++ rest)))) (first_name others ++ (codes "(clk, rst" ++ (listed ms ++ (codes ");\n" ++ rest_other)))) whole in
    let first = name_code (first_name ports) (first_name others) 40 40 (codes "clk, rst" ++ (listed ns ++ (codes ");\n" ++ rest))) (codes "clk, rst" ++ (listed ms ++ (codes ");\n" ++ rest_other))) (first_bytes ports writable) (first_bytes others writable_other) refl refl named in
    let behind = append_cancel_left (codes "(clk, rst") (listed ns ++ (codes ");\n" ++ rest)) (listed ms ++ (codes ");\n" ++ rest_other)) first.1 in
    let names_known = names_code ns ms (codes ";\n" ++ rest) (codes ";\n" ++ rest_other) (names_of ns right_n) (names_of ms right_m) behind in
    let inner = append_cancel_left (codes ";\n") rest rest_other names_known.1 in
    let declared = append_cancel_left clock_declarations (flat_map port_declaration ns ++ x) (flat_map port_declaration ms ++ y) inner in
    let heads = nets_code ns ms x y (bits_of ns right_n) (bits_of ms right_m) names_known.0 declared in
    (same_declared ns ms heads.0, heads.1)

-- the lines of a module, as what may be left
shapes_are : (i : ℕ) (cells : List Cell) (x : List ℕ) → cell_declarations i cells ++ x ≡ shapes_text i (map shape_of cells) ++ x
shapes_are i [] x = refl
shapes_are i (c ∷ cells) x =
    append_assoc (cell_declaration i c) (cell_declarations (suc i) cells) x
    ∙ (cell_text i c (cell_declarations (suc i) cells ++ x)
    ∙ (ap (λ (rest : List ℕ). shape_text i (shape_of c) ++ rest) (shapes_are (suc i) cells x) ∙ sym (append_assoc (shape_text i (shape_of c)) (shapes_text (suc i) (map shape_of cells)) x)))

outputs_left : (ns : List PortNet) → AllByRecursion (λ (n : PortNet). IsNumber n.cell) ns → LeftOutputs (map declared_net ns) (flat_map output_assignment ns ++ codes "endmodule\n")
outputs_left [] numbers = refl
outputs_left (n ∷ ns) numbers =
    subst (LeftOutputs (map declared_net (n ∷ ns))) (sym (append_assoc (output_assignment n) (flat_map output_assignment ns) (codes "endmodule\n"))) (by n.input (outputs_left ns numbers.1))
  where
    rest : List ℕ
    rest = flat_map output_assignment ns ++ codes "endmodule\n"

    by : (b : Bool) → LeftOutputs (map declared_net ns) rest → LeftOutput b n.name (LeftOutputs (map declared_net ns)) ((if b then [] else assignment n.name (cell_net n.cell)) ++ rest)
    by true left = left
    by false left = (n.cell, rest, numbers.0, left, refl)

source_left : (ns : List PortNet) (i : ℕ) (c : Cell) (source : List ℕ) → IsFed IsOfItsBits ns i c source → IsSource (map declared_net ns) c.width source
source_left ns i c source fed = (fed.0, declared_net fed.1, get_declared ns fed.0 fed.1 fed.2, fed.3, fed.4, fed.5)

drivers_left : (ns : List PortNet) (i : ℕ) (cells : List Cell) (lines back : List ℕ) → AllByRecursion IsWritableCell cells → AreDrivers IsOfItsBits ns i cells lines → LeftOutputs (map declared_net ns) back
    → LeftDrivers (map declared_net ns) i (map shape_of cells) (lines ++ back)
drivers_left ns i [] lines back writable are left = subst (λ (bytes : List ℕ). LeftOutputs (map declared_net ns) (bytes ++ back)) (sym are) left
drivers_left ns i (c ∷ cells) lines back writable are left =
    let rest : List ℕ = are.1 ++ back in
    let more = drivers_left ns (suc i) cells are.1 back writable.1 are.3 left in
    let whole : lines ++ back ≡ driver_of i c.width are.0 c.gate ++ rest = ap (λ bytes. bytes ++ back) are.4 ∙ append_assoc (driver i c are.0) are.1 back in
    elim (is_input_or c.gate) [
      | inl input ↦ (
        (c.gate, are.0),
        rest,
        record { kind = refl; fits = writable.0.1; fed = λ gate. source_left ns i c are.0 (are.2 gate); bare = λ other. absurd (other input) },
        more,
        whole,
      )
      | inr other ↦ (
        (c.gate, []),
        rest,
        record { kind = refl; fits = writable.0.1; fed = λ gate. absurd (other gate); bare = λ _. refl },
        more,
        whole ∙ ap (λ line. line ++ rest) (no_source i c.width are.0 [] c.gate (λ gate. absurd (other gate))),
      )
    ]

cell_shapes : (cells : List Cell) → AllByRecursion IsWritableCell cells → AllByRecursion IsShape (map shape_of cells)
cell_shapes [] writable = tt
cell_shapes (c ∷ cells) writable = (writable.0.0, cell_shapes cells writable.1)

pub formed_back : (ports : List NetPort) (x : List ℕ) → ArePorts ports → IsFormedText (front_of ports ++ x) → LeftCells (map declared_net (port_nets ports)) [] x
formed_back ports x are (net, formed, (drivers, lines, is)) =
    let ns : List PortNet = port_nets net.ports in
    let behind : List ℕ = cell_declarations 0 net.cells ++ (drivers ++ outputs net) in
    let text : front_of ports ++ x ≡ front_of net.ports ++ behind =
    is
    ∙ (append_assoc (declarations net) drivers (outputs net) ∙ append_assoc (front_of net.ports) (cell_declarations 0 net.cells) (drivers ++ outputs net)) in
    let known = front_found ports net.ports x behind are.writable formed.writable.ports text in
    let left = drivers_left ns 0 net.cells drivers (outputs net) formed.writable.cells lines (outputs_left ns (number_nets net.ports formed.writable.ports)) in
    subst (λ (nets : List PortNet). LeftCells nets [] x) (sym known.0) (
      map shape_of net.cells,
      drivers ++ outputs net,
      cell_shapes net.cells formed.writable.cells,
      subst IsNumber (sym (length-map net.cells shape_of)) formed.writable.cell_count,
      left,
      known.1 ∙ shapes_are 0 net.cells (drivers ++ outputs net),
    )

-- what may be left, as the lines of a module
record FoundDrivers (nets : List PortNet) (i : ℕ) (shapes : List Shape) (bytes : List ℕ) : Type 0 where
  cells : List Cell
  lines : List ℕ
  back : List ℕ
  writable : AllByRecursion IsWritableCell cells
  shaped : map shape_of cells ≡ shapes
  are : (ns : List PortNet) → map declared_net ns ≡ nets → AreDrivers IsOfItsBits ns i cells lines
  left : LeftOutputs nets back
  is : bytes ≡ lines ++ back

drivers_found : (nets : List PortNet) (i : ℕ) (shapes : List Shape) (bytes : List ℕ) → AllByRecursion IsShape shapes → LeftDrivers nets i shapes bytes → FoundDrivers nets i shapes bytes
drivers_found nets i [] bytes wide left = record { cells = []; lines = []; back = bytes; writable = tt; shaped = refl; are = λ ns same. refl; left = left; is = refl }
drivers_found nets i (shape ∷ shapes) bytes wide (v, rest, driver', left, whole) =
    let more = drivers_found nets (suc i) shapes rest wide.1 left in
    let c : Cell = record { width = shape.width; gate = v.0 } in
    record {
      cells = c ∷ more.cells;
      lines = driver_of i shape.width v.1 v.0 ++ more.lines;
      back = more.back;
      writable = ((wide.0, driver'.fits), more.writable);
      shaped = λ j. record { width = shape.width; register = driver'.kind j } ∷ more.shaped j;
      are = λ ns same. (
        v.1,
        more.lines,
        (λ gate.
            let fed = driver'.fed gate in
            let net = undeclared ns fed.0 fed.1 (subst (λ (list : List PortNet). slice_get list fed.0 ≡ Some fed.1) (sym same) fed.2) in
            (fed.0, net.0, net.1, ap (λ (n : PortNet). n.input) (sym net.2) ∙ fed.3, ap (λ (n : PortNet). n.width) (sym net.2) ∙ fed.4, fed.5 ∙ ap (λ (n : PortNet). n.name) net.2)),
        more.are ns same,
        refl,
      );
      left = more.left;
      is = whole ∙ (ap (λ (b : List ℕ). driver_of i shape.width v.1 v.0 ++ b) more.is ∙ sym (append_assoc (driver_of i shape.width v.1 v.0) more.lines more.back));
    }

record FoundOutputs (ns : List PortNet) (bytes : List ℕ) : Type 0 where
  known : List PortNet
  declared : map declared_net known ≡ map declared_net ns
  numbers : AllByRecursion (λ (n : PortNet). IsNumber n.cell) known
  is : bytes ≡ flat_map output_assignment known ++ codes "endmodule\n"

outputs_found : (ns : List PortNet) (bytes : List ℕ) → LeftOutputs (map declared_net ns) bytes → FoundOutputs ns bytes
outputs_found [] bytes left = record { known = []; declared = refl; numbers = tt; is = left }
outputs_found (n ∷ ns) bytes left = by n.input refl left (λ b. outputs_found ns b)
  where
    net : ℕ → PortNet
    net cell = record { name = n.name; input = n.input; width = n.width; cell = cell }

    line : (k : ℕ) (known : List PortNet) (b : Bool) → n.input ≡ b
        → (if b then [] else assignment n.name (cell_net k)) ++ (flat_map output_assignment known ++ codes "endmodule\n") ≡ flat_map output_assignment (net k ∷ known) ++ codes "endmodule\n"
    line k known b is =
        ap (λ (c : Bool). (if c then [] else assignment n.name (cell_net k)) ++ (flat_map output_assignment known ++ codes "endmodule\n")) (sym is)
        ∙ sym (append_assoc (output_assignment (net k)) (flat_map output_assignment known) (codes "endmodule\n"))

    by : (b : Bool) → n.input ≡ b → LeftOutput b n.name (LeftOutputs (map declared_net ns)) bytes → ((rest : List ℕ) → LeftOutputs (map declared_net ns) rest → FoundOutputs ns rest) → FoundOutputs (n ∷ ns) bytes
    by true is left more =
        let rest = more bytes left in
        record { known = net 0 ∷ rest.known; declared = (λ j. declared_net n ∷ rest.declared j); numbers = (omega arith, rest.numbers); is = rest.is ∙ line 0 rest.known true is }
    by false is (k, behind, number, left, whole) more =
        let rest = more behind left in
        record {
          known = net k ∷ rest.known;
          declared = (λ j. declared_net n ∷ rest.declared j);
          numbers = (number, rest.numbers);
          is = whole ∙ (ap (λ (b : List ℕ). assignment n.name (cell_net k) ++ b) rest.is ∙ line k rest.known false is);
        }

-- the nets of a port, with other cells
record FoundNets (name : List ℕ) (side : Side) (w : ℕ) (cells : List ℕ) (rs : List Role) (tail known : List PortNet) : Type 0 where
  numbers : List ℕ
  rest : List PortNet
  many : length numbers ≡ length cells
  fit : AllByRecursion IsNumber numbers
  is : nets_in_roles name side w numbers rs ++ rest ≡ known
  declared : map declared_net rest ≡ map declared_net tail
  rest_fit : AllByRecursion (λ (n : PortNet). IsNumber n.cell) rest

nets_found : (name : List ℕ) (side : Side) (w : ℕ) (cells : List ℕ) (rs : List Role) (tail known : List PortNet) → AllByRecursion IsNumber cells → AllByRecursion (λ (n : PortNet). IsNumber n.cell) known
    → map declared_net known ≡ map declared_net (nets_in_roles name side w cells rs) ++ map declared_net tail → FoundNets name side w cells rs tail known
nets_found name side w [] rs tail known fit numbers same = record { numbers = []; rest = known; many = refl; fit = tt; is = refl; declared = same; rest_fit = numbers }
nets_found name side w (c ∷ cells) [] tail known fit numbers same = record { numbers = c ∷ cells; rest = known; many = refl; fit = fit; is = refl; declared = same; rest_fit = numbers }
nets_found name side w (c ∷ cells) (r ∷ rs) tail [] fit numbers same = absurd (cc same)
nets_found name side w (c ∷ cells) (r ∷ rs) tail (n ∷ known) fit numbers same =
    let first : declared_net n ≡ declared_net (net_in_role name side w r c) = cc same in
    let more = nets_found name side w cells rs tail known fit.1 numbers.1 (cc same) in
    let net : net_in_role name side w r n.cell ≡ n = λ j. record { name = (sym first j).name; input = (sym first j).input; width = (sym first j).width; cell = n.cell } in
    record {
      numbers = n.cell ∷ more.numbers;
      rest = more.rest;
      many = ap suc more.many;
      fit = (numbers.0, more.fit);
      is = λ j. net j ∷ more.is j;
      declared = more.declared;
      rest_fit = more.rest_fit;
    }

abbrev names : List NetPort → List (List ℕ)
names = map (λ (p : NetPort). p.name)

record FoundPorts (ports : List NetPort) (known : List PortNet) : Type 0 where
  found : List NetPort
  is : port_nets found ≡ known
  writable : AllByRecursion IsWritablePort found
  many : length found ≡ length ports
  named : names found ≡ names ports

ports_found : (ports : List NetPort) (known : List PortNet) → AllByRecursion IsWritablePort ports → AllByRecursion (λ (n : PortNet). IsNumber n.cell) known
    → map declared_net known ≡ map declared_net (port_nets ports) → FoundPorts ports known
ports_found [] [] writable numbers same = record { found = []; is = refl; writable = tt; many = refl; named = refl }
ports_found [] (n ∷ known) writable numbers same = absurd (cc same)
ports_found (p ∷ ports) known writable numbers same =
    let one = nets_found p.name p.side (number_bits p.ty) p.nets (roles p.ty) (port_nets ports) known writable.0.nets numbers (same ∙ declared_append (nets_of_port p) (port_nets ports)) in
    let more = ports_found ports one.rest writable.1 one.rest_fit one.declared in
    let q : NetPort = record { name = p.name; side = p.side; ty = p.ty; nets = one.numbers } in
    record {
      found = q ∷ more.found;
      is = ap (λ (rest : List PortNet). nets_of_port q ++ rest) more.is ∙ one.is;
      writable = (record { name = writable.0.name; ty = writable.0.ty; many = one.many ∙ writable.0.many; nets = one.fit }, more.writable);
      many = ap suc more.many;
      named = ap (λ (rest : List (List ℕ)). p.name ∷ rest) more.named;
    }

-- ports of the same names
name_at : (qs ps : List NetPort) (k : ℕ) (q : NetPort) → names qs ≡ names ps → slice_get qs k ≡ Some q → (p : NetPort) × (slice_get ps k ≡ Some p) × (q.name ≡ p.name)
name_at [] ps k q same is = absurd (cc is)
name_at (r ∷ qs) [] k q same is = absurd (cc same)
name_at (r ∷ qs) (p ∷ ps) zero q same is = let here : r ≡ q = cc is in let named : r.name ≡ p.name = cc same in (p, refl, ap (λ (x : NetPort). x.name) (sym here) ∙ named)
name_at (r ∷ qs) (p ∷ ps) (suc k) q same is = name_at qs ps k q (cc same) is

pub own_names : (qs ps : List NetPort) → names qs ≡ names ps → Kept (HasOwnName ps) ps → Kept (HasOwnName qs) qs
own_names qs ps same own k q at j r before is equal =
    let one = name_at qs ps k q same at in
    let other = name_at qs ps j r same is in
    own k one.0 one.1 j other.0 before other.1 (sym other.2 ∙ (equal ∙ one.2))

pub first_same : (qs ps : List NetPort) → names qs ≡ names ps → first_name qs ≡ first_name ps
first_same [] [] same = refl
first_same [] (p ∷ ps) same = absurd (cc same)
first_same (q ∷ qs) [] same = absurd (cc same)
first_same (q ∷ qs) (p ∷ ps) same = cc same

listed_declared : (ns : List PortNet) → listed ns ≡ listed (map declared_net ns)
listed_declared [] = refl
listed_declared (n ∷ ns) = ap (λ (rest : List ℕ). (codes ", " ++ n.name) ++ rest) (listed_declared ns)

lines_declared : (ns : List PortNet) → flat_map port_declaration ns ≡ flat_map port_declaration (map declared_net ns)
lines_declared [] = refl
lines_declared (n ∷ ns) = ap (λ (rest : List ℕ). port_declaration n ++ rest) (lines_declared ns)

front_same : (qs ps : List NetPort) → names qs ≡ names ps → map declared_net (port_nets qs) ≡ map declared_net (port_nets ps) → front_of qs ≡ front_of ps
front_same qs ps named declared =
    let first = first_same qs ps named in
    let nets : listed (port_nets qs) ≡ listed (port_nets ps) = listed_declared (port_nets qs) ∙ (ap listed declared ∙ sym (listed_declared (port_nets ps))) in
    let lines : flat_map port_declaration (port_nets qs) ≡ flat_map port_declaration (port_nets ps) = lines_declared (port_nets qs) ∙ (ap (flat_map port_declaration) declared ∙ sym (lines_declared (port_nets ps))) in
    (λ j. codes "module gos_" ++ first j ++ codes "(clk, rst" ++ nets j ++ codes ");\n" ++ clock_declarations ++ lines j)

pub formed_on : (ports : List NetPort) (x : List ℕ) → ArePorts ports → LeftCells (map declared_net (port_nets ports)) [] x → IsFormedText (front_of ports ++ x)
formed_on ports x are (shapes, rest, wide, few, left, is) =
    let nets : List PortNet = map declared_net (port_nets ports) in
    let lines = drivers_found nets 0 shapes rest wide left in
    let outs = outputs_found (port_nets ports) lines.back lines.left in
    let all = ports_found ports outs.known are.writable outs.numbers outs.declared in
    let net : Netlist = record { cells = lines.cells; ports = all.found } in
    let declared : map declared_net (port_nets all.found) ≡ nets = ap (map declared_net) all.is ∙ outs.declared in
    let count : length lines.cells ≡ length shapes = sym (length-map lines.cells shape_of) ∙ ap length lines.shaped in
    let back : lines.back ≡ outputs net = outs.is ∙ ap (λ (ns : List PortNet). flat_map output_assignment ns ++ codes "endmodule\n") (sym all.is) in
    let behind : x ≡ cell_declarations 0 lines.cells ++ (lines.lines ++ outputs net) =
    is ∙ (ap (λ (list : List Shape). shapes_text 0 list ++ rest) (sym lines.shaped) ∙ (sym (shapes_are 0 lines.cells rest) ∙ ap (λ (b : List ℕ). cell_declarations 0 lines.cells ++ b) (lines.is ∙ ap (λ (b : List ℕ). lines.lines ++ b) back))) in (
      net,
      record {
        writable = record { cells = lines.writable; cell_count = subst IsNumber (sym count) few; ports = all.writable; port_count = subst IsNumber (sym all.many) are.count };
        some = subst (λ (n : ℕ). 0 < n) (sym all.many) are.some;
        names = own_names all.found ports all.named are.names;
      },
      (
        lines.lines,
        lines.are (port_nets all.found) declared,
        (λ j. sym (front_same all.found ports all.named declared) j ++ behind j)
            ∙ sym (append_assoc (declarations net) lines.lines (outputs net) ∙ append_assoc (front_of all.found) (cell_declarations 0 lines.cells) (lines.lines ++ outputs net)),
      ),
    )

-- heads are known by their names
pub head_parts : (ports : List NetPort) (x : List ℕ) → head_of ports ++ x
    ≡ codes "module gos_" ++ (first_name ports ++ (codes "(clk, rst" ++ (listed (port_nets ports) ++ (codes ");\n" ++ (clock_declarations ++ x)))))
head_parts ports x =
    append_assoc (codes "module gos_" ++ first_name ports ++ codes "(clk, rst" ++ listed (port_nets ports) ++ codes ");\n") clock_declarations x
    ∙ (append_assoc (codes "module gos_" ++ first_name ports ++ codes "(clk, rst" ++ listed (port_nets ports)) (codes ");\n") (clock_declarations ++ x)
    ∙ (append_assoc (codes "module gos_" ++ first_name ports ++ codes "(clk, rst") (listed (port_nets ports)) (codes ");\n" ++ (clock_declarations ++ x))
    ∙ (append_assoc (codes "module gos_" ++ first_name ports) (codes "(clk, rst") (listed (port_nets ports) ++ (codes ");\n" ++ (clock_declarations ++ x)))
    ∙ append_assoc (codes "module gos_") (first_name ports) (codes "(clk, rst" ++ (listed (port_nets ports) ++ (codes ");\n" ++ (clock_declarations ++ x)))))))

names_same : (ns ms : List PortNet) → AreSameNames ns ms → map (λ (n : PortNet). n.name) ns ≡ map (λ (n : PortNet). n.name) ms
names_same [] [] same = refl
names_same [] (m ∷ ms) same = absurd same
names_same (n ∷ ns) [] same = absurd same
names_same (n ∷ ns) (m ∷ ms) same = let rest = names_same ns ms same.1 in λ j. same.0 j ∷ rest j

head_found : (ports others : List NetPort) (x y : List ℕ) → AllByRecursion IsWritablePort ports → AllByRecursion IsWritablePort others → head_of ports ++ x ≡ head_of others ++ y
    → (named_nets ports ≡ named_nets others) × (x ≡ y)
head_found ports others x y writable writable_other same =
    let ns : List PortNet = port_nets ports in
    let ms : List PortNet = port_nets others in
    let rest : List ℕ = clock_declarations ++ x in
    let rest_other : List ℕ = clock_declarations ++ y in
    let whole = sym (head_parts ports x) ∙ (same ∙ head_parts others y) in
    let named = append_cancel_left (codes "module gos_") (first_name ports ++ (codes "(clk, rst" ++ (listed ns ++ (codes ");\n" ++ rest)))) (first_name others ++ (codes "(clk, rst" ++ (listed ms ++ (codes ");\n" ++ rest_other)))) whole in
    let first = name_code (first_name ports) (first_name others) 40 40 (codes "clk, rst" ++ (listed ns ++ (codes ");\n" ++ rest))) (codes "clk, rst" ++ (listed ms ++ (codes ");\n" ++ rest_other))) (first_bytes ports writable) (first_bytes others writable_other) refl refl named in
    let behind = append_cancel_left (codes "(clk, rst") (listed ns ++ (codes ");\n" ++ rest)) (listed ms ++ (codes ");\n" ++ rest_other)) first.1 in
    let names_known = names_code ns ms (codes ";\n" ++ rest) (codes ";\n" ++ rest_other) (names_of ns (right_nets ports writable)) (names_of ms (right_nets others writable_other)) behind in
    let inner = append_cancel_left (codes ";\n") rest rest_other names_known.1 in (
      same_named (named_nets ports) (named_nets others) (all_named ports) (all_named others) (names_are ports ∙ (names_same ns ms names_known.0 ∙ sym (names_are others))),
      append_cancel_left clock_declarations x y inner,
    )

listed_names : (ns : List PortNet) → listed ns ≡ flat_map (λ (b : List ℕ). codes ", " ++ b) (map (λ (n : PortNet). n.name) ns)
listed_names [] = refl
listed_names (n ∷ ns) = ap (λ (rest : List ℕ). (codes ", " ++ n.name) ++ rest) (listed_names ns)

head_same : (qs ps : List NetPort) → names qs ≡ names ps → named_nets qs ≡ named_nets ps → head_of qs ≡ head_of ps
head_same qs ps named same =
    let first = first_same qs ps named in
    let names_eq : map (λ (n : PortNet). n.name) (port_nets qs) ≡ map (λ (n : PortNet). n.name) (port_nets ps) = sym (names_are qs) ∙ (ap only_names same ∙ names_are ps) in
    let nets : listed (port_nets qs) ≡ listed (port_nets ps) =
    listed_names (port_nets qs) ∙ (ap (flat_map (λ (b : List ℕ). codes ", " ++ b)) names_eq ∙ sym (listed_names (port_nets ps))) in
    (λ j. codes "module gos_" ++ first j ++ codes "(clk, rst" ++ nets j ++ codes ");\n" ++ clock_declarations)

pub head_on : (ports : List NetPort) (x : List ℕ) → ArePorts ports → LeftNets [] Give 0 (named_nets ports) x → IsFormedText (head_of ports ++ x)
head_on ports x are left =
    let faces = faces_of.nets_found ports [] Give 0 x are.writable left in
    let qs : List NetPort = faces.found in
    let known : ArePorts qs =
    record {
      writable = faces.writable;
      count = subst IsNumber (sym faces.many) are.count;
      some = subst (λ (n : ℕ). 0 < n) (sym faces.many) are.some;
      names = own_names qs ports faces.named are.names;
    } in
    let text : front_of qs ++ faces.rest ≡ head_of ports ++ x =
    append_assoc (head_of qs) (flat_map port_declaration (port_nets qs)) faces.rest
    ∙ ((λ j. head_same qs ports faces.named faces.same j ++ (flat_map port_declaration (port_nets qs) ++ faces.rest)) ∙ ap (λ (b : List ℕ). head_of ports ++ b) (sym faces.is)) in
    subst IsFormedText text (formed_on qs faces.rest known faces.left)

pub head_back : (ports : List NetPort) (x : List ℕ) → ArePorts ports → IsFormedText (head_of ports ++ x) → LeftNets [] Give 0 (named_nets ports) x
head_back ports x are (net, formed, (drivers, lines, is)) =
    let qs : List NetPort = net.ports in
    let behind : List ℕ = cell_declarations 0 net.cells ++ (drivers ++ outputs net) in
    let split : declarations net ++ drivers ++ outputs net ≡ front_of qs ++ behind = append_assoc (declarations net) drivers (outputs net) ∙ append_assoc (front_of qs) (cell_declarations 0 net.cells) (drivers ++ outputs net) in
    let text : head_of ports ++ x ≡ head_of qs ++ (flat_map port_declaration (port_nets qs) ++ behind) = is ∙ (split ∙ append_assoc (head_of qs) (flat_map port_declaration (port_nets qs)) behind) in
    let known = head_found ports qs x (flat_map port_declaration (port_nets qs) ++ behind) are.writable formed.writable.ports text in
    let others : ArePorts qs = record { writable = formed.writable.ports; count = formed.writable.port_count; some = formed.some; names = formed.names } in
    let cells = formed_back qs behind others (net, formed, (drivers, lines, sym split)) in
    subst (λ (list : List (Role × List ℕ)). LeftNets [] Give 0 list x) (sym known.0)
    (subst (LeftNets [] Give 0 (named_nets qs)) (sym known.1) (nets_left qs [] Give 0 behind formed.writable.ports cells))

-- the head of a text leads to the declarations of the nets of ports
pub head_leads : (ports : List NetPort) → ArePorts ports → Leads IsFormedText (LeftNets [] Give 0 (named_nets ports)) (head_of ports)
head_leads ports are = record { on = λ x left. head_on ports x are left; back = λ x formed. head_back ports x are formed }
