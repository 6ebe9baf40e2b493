-- Behind the front of a text: its place, and that it is of the form.
use Rattle.std.proofs.Common.{◌≡◌, ◌⊎◌, inr, ℕ, zero, suc, codes, ◌+◌, ◌-◌, ◌<◌, ◌≤◌, List, [], ◌∷◌, ◌++◌, length, map, take, drop, refl, sym, ◌∙◌, ap, subst, arith, append_assoc, append-nil, length-append, length-drop}
use Rattle.std.specs.List.{AllByRecursion, flat_map, slice_range}
use Rattle.std.proofs.Math.Seq.{take-append_seam}
use Rattle.std.proofs.lemmas.List.{append_cancel_left}
use Rattle.gos_lex.specs.Items.{TextAt, Begins}
use Rattle.gos_lex.proofs.PlaceLemmas.{rest_whole}
use Rattle.gos_netlist.specs.Nets.{Give, NetPort}
use Rattle.gos_netlist.specs.Writable.{IsWritablePort}
use Rattle.gos_lex.specs.ItemTexts.{Passed}
use Rattle.gos_verilog.specs.declared.declared.Shape.{Shape}
use Rattle.gos_verilog.specs.declared.fault.VFault.{VFault}
use Rattle.gos_verilog.specs.declared.fault.VFault.TheVariants as faults
use Rattle.gos_verilog.specs.PortNets.{PortNet, port_nets}
use Rattle.std.specs.Fmt.{digits}
use Rattle.gos_netlist.specs.SmallNets.{latch}
use Rattle.gos_netcheck.specs.Rules.{Kept}
use Rattle.gos_verilog.specs.Lines.{clock_declarations, port_declaration}
use Rattle.gos_verilog.specs.SmallTexts.{latch_text, latch_back}
use Rattle.gos_verilog.specs.Readable.{HasOwnName}
use Rattle.gos_verilog.proofs.DeclarationLemmas.{AreSameNames, HaveNetBits, nets_code, listed}
use Rattle.gos_lex.proofs.RestLemmas.{passed_rest}
use Rattle.gos_verilog.specs.VerilogText.{first_name}
use Rattle.gos_verilog.specs.Place.{IsFormedText, IsPlace, ArePorts, head_of, HasHead, HasPlace}
use Rattle.gos_verilog.specs.inner.Stages.{IsNetName, IsWant, HaveWidths, declared_net}
use Rattle.gos_verilog.specs.inner.Breaks.{Left, BreaksFrom, FaultFrom, LeadsOn, PassedIn}
use Rattle.gos_verilog.specs.inner.Left.{LeadsOnOf, LeftNets, named_nets, HaveNetNames, IsShape, shapes_text, NoShape, LeftDrivers, LeftCells}
use Rattle.gos_verilog.proofs.PortLemmas.{right_nets}
use Rattle.gos_verilog.proofs.FoundLemmas.{wide_nets}
use Rattle.gos_verilog.proofs.OneTextLemmas.{width_bits}
use Rattle.gos_verilog.proofs.WholeLemmas.{net_names}
use Rattle.gos_verilog.proofs.BreakLemmas.{passed_at, on_both, on_breaks, on_rest, fault_on}
use Rattle.gos_verilog.proofs.LeftLemmas.{cells_join}
use Rattle.gos_verilog.proofs.LeftCellLemmas.{cells_on, cells_break}
use Rattle.gos_verilog.proofs.FormedLemmas.{head_parts, head_leads, same_declared}

-- where what is left of a whole text breaks off, its place is
pub place_of : (text : List ℕ) (at : ℕ) → BreaksFrom IsFormedText (record { text = text; at = 0 }) at → IsPlace text at
place_of text at (n, is, breaks) =
    let long : length breaks.good ≡ at = breaks.count ∙ (let e : n ≡ 0 + n = omega arith in e ∙ sym is) in
    let size : length text ≡ length breaks.good + length breaks.bad = ap length breaks.is ∙ length-append breaks.good breaks.bad in
    let front : slice_range text 0 at ≡ breaks.good = (let e : at - 0 ≡ length breaks.good = omega (arith, long) in λ i. take (e i) (breaks.is i)) ∙ take-append_seam breaks.good breaks.bad in
    record {
      after = omega arith;
      within = omega (arith, size, long);
      before = (breaks.begins.0, subst (λ (bytes : List ℕ). IsFormedText (bytes ++ breaks.begins.0)) (sym front) breaks.begins.1);
      stops = λ some longer. by breaks.bad refl (omega (arith, some, size, long)) longer;
    }
  where
    by : (bad : List ℕ) → breaks.bad ≡ bad → 0 < length breaks.bad → Begins IsFormedText (slice_range text 0 (at + 1)) → ⊥
    by [] same some longer = omega (arith, some, ap length same)
    by (b ∷ more) same some longer =
        let long : length breaks.good ≡ at = breaks.count ∙ (let e : n ≡ 0 + n = omega arith in e ∙ sym is) in
        let whole : text ≡ (breaks.good ++ b ∷ []) ++ more = breaks.is ∙ (ap (λ (bad : List ℕ). breaks.good ++ bad) same ∙ sym (append_assoc breaks.good (b ∷ []) more)) in
        let count : at + 1 - 0 ≡ length (breaks.good ++ b ∷ []) = omega (arith, long, length-append breaks.good (b ∷ [])) in
        let front : slice_range text 0 (at + 1) ≡ breaks.good ++ b ∷ [] = (λ i. take (count i) (whole i)) ∙ take-append_seam (breaks.good ++ b ∷ []) more in
        breaks.stops b more same (longer.0, subst (λ (bytes : List ℕ). IsFormedText (bytes ++ longer.0)) front longer.1)

-- a text of the form has its end as its place
pub end_place : (text : List ℕ) → IsFormedText text → IsPlace text (length text)
end_place text formed =
    record {
      after = omega arith;
      within = omega arith;
      before = ([], subst IsFormedText (sym (append-nil (slice_range text 0 (length text)) ∙ rest_whole text 0)) formed);
      stops = λ some. absurd (omega (arith, some));
    }

-- a fault of form is no want
pub not_want : {X : Type 0} (fault : VFault) (at : ℕ) → fault ≡ faults.Form at → IsWant fault → X
not_want fault at is want = let both : faults.Form at ≡ faults.NoMemory = sym is ∙ want in absurd (cc both)

pub want_fault : (L : Left) (cursor : TextAt) (fault : VFault) → IsWant fault → FaultFrom L cursor fault
want_fault L cursor (faults.Form at) want = absurd (cc want)
want_fault L cursor faults.NoMemory want = tt

-- a text of the form makes memory the want
pub fault_want : (text : List ℕ) (fault : VFault) → IsFormedText text → FaultFrom IsFormedText (record { text = text; at = 0 }) fault → IsWant fault
fault_want text (faults.Form at) formed breaks = absurd (breaks.2.none formed)
fault_want text faults.NoMemory formed breaks = refl

pub fault_place : (text : List ℕ) (fault : VFault) → FaultFrom IsFormedText (record { text = text; at = 0 }) fault → HasPlace text fault
fault_place text (faults.Form at) breaks = place_of text at breaks
fault_place text faults.NoMemory breaks = tt

head_on_text : (text : List ℕ) (at : ℕ) (ports : List NetPort) (more : List ℕ) → ArePorts ports → text ≡ head_of ports ++ more → at ≤ length text → drop at text ≡ more
    → LeadsOn IsFormedText (LeftNets [] Give 0 (named_nets ports)) (record { text = text; at = 0 }) (record { text = text; at = at })
head_on_text text at ports more are is within left =
    let size : length text ≡ length (head_of ports) + length more = ap length is ∙ length-append (head_of ports) more in
    let rest : length text - at ≡ length more = sym (length-drop at text) ∙ ap length left in
    record {
      word = head_of ports;
      passed = passed_at text 0 at (head_of ports) (omega arith) (is ∙ ap (λ (x : List ℕ). head_of ports ++ x) (sym left)) (omega (arith, size, rest, within));
      leads = head_leads ports are;
    }

-- nets with the names of ports' nets
abbrev NetNames : List PortNet → List (List ℕ)
NetNames = map (λ (n : PortNet). n.name)

names_right : (ns ms : List PortNet) → NetNames ns ≡ NetNames ms → HaveNetNames ms → HaveNetNames ns
names_right [] ms same all = tt
names_right (n ∷ ns) [] same all = absurd (cc same)
names_right (n ∷ ns) (m ∷ ms) same all = let first : n.name ≡ m.name = cc same in (subst IsNetName (sym first) all.0, names_right ns ms (cc same) all.1)

names_alike : (ns ms : List PortNet) → NetNames ns ≡ NetNames ms → AreSameNames ns ms
names_alike [] [] same = tt
names_alike [] (m ∷ ms) same = absurd (cc same)
names_alike (n ∷ ns) [] same = absurd (cc same)
names_alike (n ∷ ns) (m ∷ ms) same = (cc same, names_alike ns ms (cc same))

wide_bits : (ns : List PortNet) → HaveWidths ns → HaveNetBits ns
wide_bits [] all = tt
wide_bits (n ∷ ns) all = (width_bits n.width all.0, wide_bits ns all.1)

-- behind the head, the declarations of nets of ports
pub head_leads_on : (text : List ℕ) (at : ℕ) (ports : List NetPort) (more : List ℕ) (nets : List PortNet) (end : ℕ) → ArePorts ports → text ≡ head_of ports ++ more → at ≤ length text → drop at text ≡ more
    → NetNames nets ≡ NetNames (port_nets ports) → LeadsOn (LeftNets [] Give 0 (named_nets ports)) (LeftCells nets []) (record { text = text; at = at }) (record { text = text; at = end })
    → LeadsOnOf text end nets
head_leads_on text at ports more nets end are is within left names lead = (
  on_both IsFormedText (LeftNets [] Give 0 (named_nets ports)) (LeftCells nets []) (record { text = text; at = 0 }) (record { text = text; at = at }) (record { text = text; at = end }) (head_on_text text at ports more are is within left) lead,
  names_right nets (port_nets ports) names (net_names (port_nets ports) (right_nets ports are.writable)),
)

pub head_fault : (text : List ℕ) (at : ℕ) (ports : List NetPort) (more : List ℕ) (fault : VFault) → ArePorts ports → text ≡ head_of ports ++ more → at ≤ length text → drop at text ≡ more
    → FaultFrom (LeftNets [] Give 0 (named_nets ports)) (record { text = text; at = at }) fault → FaultFrom IsFormedText (record { text = text; at = 0 }) fault
head_fault text at ports more fault are is within left =
    fault_on IsFormedText (LeftNets [] Give 0 (named_nets ports)) (record { text = text; at = 0 }) (record { text = text; at = at }) fault (head_on_text text at ports more are is within left)

-- nets that are declared are those that are found
pub nets_same : (text : List ℕ) (at end : ℕ) (ports : List NetPort) (more : List ℕ) (nets : List PortNet) → AllByRecursion IsWritablePort ports → HaveWidths nets → map declared_net nets ≡ nets → NetNames nets ≡ NetNames (port_nets ports)
    → PassedIn text at end (flat_map port_declaration nets) → drop at text ≡ flat_map port_declaration (port_nets ports) ++ more → (nets ≡ map declared_net (port_nets ports)) × (drop end text ≡ more)
nets_same text at end ports more nets writable wide bare names passed left =
    let ms : List PortNet = port_nets ports in
    let known = nets_code nets ms (drop end text) more (wide_bits nets wide) (wide_bits ms (wide_nets ports writable)) (names_alike nets ms names)
    (sym (passed_rest (record { text = text; at = at }) (record { text = text; at = end }) (flat_map port_declaration nets) passed) ∙ left) in
    (sym bare ∙ same_declared nets ms known.0, known.1)

-- the places that the reader finds behind a front
pub record Behind (text : List ℕ) (nets : List PortNet) (at end stopped : ℕ) (shapes : List Shape) : Type 0 where
  pub lead : LeadsOn IsFormedText (LeftCells nets []) (record { text = text; at = 0 }) (record { text = text; at = at })
  pub wide : AllByRecursion IsShape shapes
  pub few : length shapes ≤ 4294967295
  pub passed : Passed (record { text = text; at = at }) (record { text = text; at = end }) (shapes_text 0 shapes)
  pub ends : NoShape (length shapes) text end stopped

pub behind_place : (text : List ℕ) (nets : List PortNet) (at end stopped : ℕ) (shapes : List Shape) (place r : ℕ) → Behind text nets at end stopped shapes
    → BreaksFrom (LeftDrivers nets 0 shapes) (record { text = text; at = end }) place → stopped ≤ r → place ≤ r → (r ≡ stopped) ⊎ (r ≡ place) → IsPlace text r
behind_place text nets at end stopped shapes place r behind breaks over_stopped over_place max =
    let start : TextAt = record { text = text; at = 0 } in
    let mid : TextAt = record { text = text; at = at } in
    let last : TextAt = record { text = text; at = end } in
    place_of text r
    (on_breaks IsFormedText (LeftCells nets []) start mid r behind.lead
    (on_breaks (LeftCells nets []) (LeftCells nets shapes) mid last r (cells_on nets shapes mid last behind.wide behind.few behind.passed)
    (cells_break nets shapes text end stopped place r behind.few behind.ends breaks over_stopped over_place max)))

pub behind_formed : (text : List ℕ) (nets : List PortNet) (at end stopped : ℕ) (shapes : List Shape) → Behind text nets at end stopped shapes → LeftDrivers nets 0 shapes (drop end text) → IsFormedText text
behind_formed text nets at end stopped shapes behind left =
    let start : TextAt = record { text = text; at = 0 } in
    let mid : TextAt = record { text = text; at = at } in
    let last : TextAt = record { text = text; at = end } in
    on_rest IsFormedText (LeftCells nets []) start mid behind.lead
    (on_rest (LeftCells nets []) (LeftCells nets shapes) mid last (cells_on nets shapes mid last behind.wide behind.few behind.passed) (cells_join nets shapes behind.few (drop end text) (inr left)))

-- the latch has a head
latch_names : Kept (HasOwnName latch.ports) latch.ports
latch_names zero q at j r before is equal = omega (arith, before)
latch_names (suc k) q at j r before is equal = cc at

latch_ports : ArePorts latch.ports
latch_ports =
    record {
      writable = (record { name = record { spelled = refl; short = omega arith }; ty = tt; many = refl; nets = (omega arith, (omega arith, tt)) }, tt);
      count = omega arith;
      some = omega arith;
      names = latch_names;
    }

pub latch_head : HasHead latch_text
unfolding digits
latch_head = (
  latch.ports,
  codes "  input [0:0] main__run;\n  output [0:0] main__done;\n"
      ++ codes "  wire [0:0] n0;\n  wire [0:0] n1;\n  reg [0:0] n2;\n  reg [0:0] n3;\n"
      ++ codes "  assign n0 = main__run;\n  assign n1 = n0 | n2;\n"
      ++ codes "  always @(posedge clk) if (rst) n2 <= 1'd0; else n2 <= n1;\n"
      ++ codes "  always @(posedge clk) if (rst) n3 <= 1'd0; else n3 <= n1;\n"
      ++ latch_back,
  latch_ports,
  refl,
)

-- no head is so short
pub short_head : HasHead (codes "module gos_main(clk, rst") → ⊥
short_head (ports, more, are, is) =
    let whole = is ∙ head_parts ports more in
    let size = ap length (append_cancel_left (codes "module gos_") (codes "main(clk, rst") (first_name ports ++ (codes "(clk, rst" ++ (listed (port_nets ports) ++ (codes ");\n" ++ (clock_declarations ++ more))))) whole) in
    let last : List ℕ = clock_declarations ++ more in
    omega (
      arith,
      size,
      length-append (first_name ports) (codes "(clk, rst" ++ (listed (port_nets ports) ++ (codes ");\n" ++ last))),
      length-append (listed (port_nets ports)) (codes ");\n" ++ last),
    )
