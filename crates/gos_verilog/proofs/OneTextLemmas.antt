-- A Verilog text is that of one netlist at most, and a netlist has one text at most.
use Rattle.std.proofs.Common.{◌≡◌, inl, inr, ℕ, zero, suc, ◌+◌, ◌^◌, ◌<◌, ◌≤◌, Bool, true, false, if◌then◌else◌, List, [], ◌∷◌, ◌++◌, get_or, Some, refl, sym, ◌∙◌, ap, subst, arith, slice_get, append_assoc, codes}
use Rattle.std.specs.List.{AllByRecursion, flat_map}
use Rattle.std.proofs.lemmas.Bool.{cases_lt}
use Rattle.std.proofs.lemmas.List.{append_cancel_left}
use Rattle.std.proofs.Math.Nat.{pow-le-pow_right}
use Rattle.gos_netlist.specs.Nets.{Function, Input, Const, Not, And, Or, Xor, Mux, Add, Sub, Eq, Less, Gate, Reg, Cell, NetPort, Netlist}
use Rattle.gos_types.specs.declared.widths.TheConstants.{GREATEST_WIDTH}
use Rattle.gos_types.specs.Widths.{IsWidth}
use Rattle.gos_netlist.specs.Writable.{OperandsFit, IsWritableCell, IsWritablePort, IsWritable}
use Rattle.gos_netcheck.specs.Accepted.{IsAccepted}
use Rattle.gos_verilog.specs.PortNets.{PortNet, port_nets}
use Rattle.gos_verilog.specs.Lines.{cell_net, clock_declarations, port_declaration, cell_declarations, expression, driver, driver_of, output_assignment, assignment}
use Rattle.gos_verilog.specs.VerilogText.{first_name, declarations, outputs, IsFed, AreDrivers, IsItsNet, IsVerilogOf}
use Rattle.gos_verilog.specs.Readable.{IsReadable}
use Rattle.gos_verilog.specs.OneText.{IsReadAsOne, IsReadBack, HasOneText, IsOneNetlist}
use Rattle.gos_verilog.specs.inner.Drivers.{is_register}
use Rattle.gos_verilog.proofs.CodeLemmas.{AreNameBytes, name_code}
use Rattle.gos_verilog.proofs.ExpressionLemmas.{IsSmall, AreSmall, IsNetName}
use Rattle.gos_verilog.proofs.DriverLemmas.{front, driver_text, driver_code}
use Rattle.gos_verilog.proofs.DeclarationLemmas.{IsBits, AreAlike, IsBody, HaveBits, cells_code, AreSameHeads, HaveNetBits, nets_code, HaveNames, listed, names_code, AreSameOutputs, HaveSmallCells, outputs_code}
use Rattle.gos_verilog.proofs.SuffixLemmas.{AreNamesApart, nets_apart}
use Rattle.gos_verilog.proofs.SuffixLemmas as names
use Rattle.gos_verilog.proofs.InputLemmas.{input_cells, AreApart, inputs_apart}
use Rattle.gos_verilog.proofs.InputLemmas as inputs
use Rattle.gos_verilog.proofs.PortLemmas.{name_bytes, IsRightNet, right_nets, IsInputCell, IsOpen, open_nets, ports_code}

-- what stands behind the drivers begins as no declaration
pub outputs_body : (ns : List PortNet) → IsBody (flat_map output_assignment ns ++ codes "endmodule\n")
outputs_body [] = inl refl
outputs_body (n ∷ ns) = by n.input (outputs_body ns)
  where
    by : (b : Bool) → IsBody (flat_map output_assignment ns ++ codes "endmodule\n")
        → IsBody ((if b then [] else assignment n.name (cell_net n.cell)) ++ flat_map output_assignment ns ++ codes "endmodule\n")
    by true rest = rest
    by false rest = inr refl

pub drivers_body : (nets : List PortNet) (i : ℕ) (cells : List Cell) (drivers more : List ℕ) → AreDrivers IsItsNet nets i cells drivers → IsBody more → IsBody (drivers ++ more)
drivers_body nets i [] drivers more are body = subst (λ (lines : List ℕ). IsBody (lines ++ more)) (sym are) body
drivers_body nets i (c ∷ cells) drivers more are body =
    inr
    (ap (λ (bytes : List ℕ). get_or bytes 2 0)
    (ap (λ (lines : List ℕ). lines ++ more) are.4 ∙ (append_assoc (driver i c are.0) are.1 more ∙ driver_text i c.width are.0 (are.1 ++ more) c.gate)) ∙ third (is_register c.gate) (expression c.width are.0 c.gate ++ 59 ∷ 10 ∷ (are.1 ++ more)))
  where
    third : (b : Bool) (x : List ℕ) → get_or (front i c.width b ++ x) 2 0 ≡ 97
    third true x = refl
    third false x = refl

-- the numbers of functions
pub width_bits : (w : ℕ) → IsWidth w → IsBits w
width_bits w is = (is.0, omega (arith, is.1))

pub have_bits : (cells : List Cell) → AllByRecursion IsWritableCell cells → HaveBits cells
have_bits [] all = tt
have_bits (c ∷ cells) all = (width_bits c.width all.0.0, have_bits cells all.1)

pub power : (w k : ℕ) → IsWidth w → k < 2 ^ w → IsSmall k
power w k wide fit = let most : 2 ^ w ≤ 2 ^ GREATEST_WIDTH = pow-le-pow_right {n = 2} (omega arith) {i = w} {j = GREATEST_WIDTH} wide.1 in omega (arith, fit, most)

pub small_function : (w : ℕ) (f : Function) → IsWidth w → OperandsFit w f → AreSmall f
small_function w Input wide fit = tt
small_function w (Const k) wide fit = power w k wide fit
small_function w (Not a) wide fit = omega (arith, fit.0)
small_function w (And a b) wide fit = (omega (arith, fit.0), omega (arith, fit.1.0))
small_function w (Or a b) wide fit = (omega (arith, fit.0), omega (arith, fit.1.0))
small_function w (Xor a b) wide fit = (omega (arith, fit.0), omega (arith, fit.1.0))
small_function w (Mux s a b) wide fit = (omega (arith, fit.0), omega (arith, fit.1.0), omega (arith, fit.1.1.0))
small_function w (Add a b) wide fit = (omega (arith, fit.0), omega (arith, fit.1.0))
small_function w (Sub a b) wide fit = (omega (arith, fit.0), omega (arith, fit.1.0))
small_function w (Eq a b) wide fit = (omega (arith, fit.0), omega (arith, fit.1.0))
small_function w (Less a b) wide fit = (omega (arith, fit.0), omega (arith, fit.1.0))
small_function w (Gate s a) wide fit = (omega (arith, fit.0), omega (arith, fit.1.0))
small_function w (Reg a) wide fit = omega (arith, fit.0)

pub small_cells : (cells : List Cell) → AllByRecursion IsWritableCell cells → AllByRecursion (λ c. AreSmall c.gate) cells
small_cells [] all = tt
small_cells (c ∷ cells) all = (small_function c.width c.gate all.0.0 all.0.1, small_cells cells all.1)

-- what the nets of ports have
pub names_of : (ns : List PortNet) → AllByRecursion IsRightNet ns → HaveNames ns
names_of [] all = tt
names_of (n ∷ ns) all = (all.0.name.bytes, names_of ns all.1)

pub bits_of : (ns : List PortNet) → AllByRecursion IsRightNet ns → HaveNetBits ns
bits_of [] all = tt
bits_of (n ∷ ns) all = (all.0.width, bits_of ns all.1)

cells_of : (ns : List PortNet) → AllByRecursion IsRightNet ns → HaveSmallCells ns
cells_of [] all = tt
cells_of (n ∷ ns) all = (all.0.cell, cells_of ns all.1)

pub get_all : (A : Type 0) (P : A → Type 0) (xs : List A) (k : ℕ) (x : A) → AllByRecursion P xs → slice_get xs k ≡ Some x → P x
get_all A P [] k x all is = absurd (cc is)
get_all A P (y ∷ xs) zero x all is = let same : y ≡ x = cc is in subst P same all.0
get_all A P (y ∷ xs) (suc k) x all is = get_all A P xs k x all.1 is

-- each Input cell reads a net of one name in both
abbrev AreBothFed : List PortNet → List PortNet → ℕ → List Cell → Type 0
AreBothFed ns ms i [] = Unit {0}
AreBothFed ns ms i (c ∷ cells) =
    (c.gate ≡ Input → (source : List ℕ) × IsFed IsItsNet ns i c source × IsFed IsItsNet ms i c source) × AreBothFed ns ms (suc i) cells

drivers_code : (ns ms : List PortNet) (i : ℕ) (cs ds : List Cell) (one other x y : List ℕ) → AllByRecursion IsRightNet ns → AllByRecursion IsRightNet ms
    → HaveBits cs → AllByRecursion (λ c. AreSmall c.gate) cs → AllByRecursion (λ c. AreSmall c.gate) ds → AreAlike cs ds
    → AreDrivers IsItsNet ns i cs one → AreDrivers IsItsNet ms i ds other → one ++ x ≡ other ++ y → (cs ≡ ds) × AreBothFed ns ms i cs × (x ≡ y)
drivers_code ns ms i [] [] one other x y right_n right_m wide small_c small_d alike are_c are_d same =
    (refl, tt, ap (λ lines. lines ++ x) (sym are_c) ∙ (same ∙ ap (λ lines. lines ++ y) are_d))
drivers_code ns ms i [] (d ∷ ds) one other x y right_n right_m wide small_c small_d alike are_c are_d same = absurd alike
drivers_code ns ms i (c ∷ cs) [] one other x y right_n right_m wide small_c small_d alike are_c are_d same = absurd alike
drivers_code ns ms i (c ∷ cs) (d ∷ ds) one other x y right_n right_m wide small_c small_d alike are_c are_d same =
    let s : List ℕ = are_c.0 in
    let t : List ℕ = are_d.0 in
    let whole : driver_of i c.width s c.gate ++ (are_c.1 ++ x) ≡ driver_of i c.width t d.gate ++ (are_d.1 ++ y) =
    sym (append_assoc (driver i c s) are_c.1 x)
    ∙ (ap (λ lines. lines ++ x) (sym are_c.4)
    ∙ (same
    ∙ (ap (λ lines. lines ++ y) are_d.4 ∙ (append_assoc (driver i d t) are_d.1 y ∙ ap (λ (w : ℕ). driver_of i w t d.gate ++ (are_d.1 ++ y)) (sym alike.1))))) in
    let known = driver_code i c.width s t c.gate d.gate (are_c.1 ++ x) (are_d.1 ++ y) wide.0.1 small_c.0 small_d.0 (named ns right_n c s are_c.2) (named ms right_m d t are_d.2) alike.0 whole in
    let rest = drivers_code ns ms (suc i) cs ds are_c.1 are_d.1 x y right_n right_m wide.1 small_c.1 small_d.1 alike.2 are_c.3 are_d.3 known.2 in (
      (λ j. record { width = alike.1 j; gate = known.0 j } ∷ rest.0 j),
      (
        (λ gate. let fed = are_d.2 (sym known.0 ∙ gate) in (s, are_c.2 gate, (fed.0, fed.1, fed.2, fed.3, fed.4, known.1 gate ∙ fed.5))),
        rest.1,
      ),
      rest.2,
    )
  where
    named : (nets : List PortNet) → AllByRecursion IsRightNet nets → (e : Cell) (source : List ℕ) → (e.gate ≡ Input → IsFed IsItsNet nets i e source) → e.gate ≡ Input → IsNetName source
    named nets right e source fed gate =
        let known = fed gate in
        subst IsNetName (sym known.5) (get_all PortNet IsRightNet nets known.0 known.1 right known.2).name

both_at : (ns ms : List PortNet) (i j : ℕ) (cells : List Cell) (c : Cell) → AreBothFed ns ms i cells → slice_get cells j ≡ Some c → c.gate ≡ Input
    → (source : List ℕ) × IsFed IsItsNet ns (i + j) c source × IsFed IsItsNet ms (i + j) c source
both_at ns ms i j [] c fed is gate = absurd (cc is)
both_at ns ms i zero (d ∷ cells) c fed is gate =
    let same : d ≡ c = cc is in
    let e : i ≡ i + 0 = omega arith in
    let here = fed.0 (ap (λ (x : Cell). x.gate) same ∙ gate) in
    subst (λ (n : ℕ). (source : List ℕ) × IsFed IsItsNet ns n c source × IsFed IsItsNet ms n c source) e here
both_at ns ms i (suc j) (d ∷ cells) c fed is gate =
    let e : suc i + j ≡ i + suc j = omega arith in
    subst (λ (n : ℕ). (source : List ℕ) × IsFed IsItsNet ns n c source × IsFed IsItsNet ms n c source) e (both_at ns ms (suc i) j cells c fed.1 is gate)

names_at : (ns ms : List PortNet) (k : ℕ) (a b : PortNet) → AreSameHeads ns ms → slice_get ns k ≡ Some a → slice_get ms k ≡ Some b → a.name ≡ b.name
names_at [] ms k a b heads is_a is_b = absurd (cc is_a)
names_at (n ∷ ns) [] k a b heads is_a is_b = absurd (cc is_b)
names_at (n ∷ ns) (m ∷ ms) zero a b heads is_a is_b =
    let one : n ≡ a = cc is_a in
    let other : m ≡ b = cc is_b in
    ap (λ (p : PortNet). p.name) (sym one) ∙ (heads.0 ∙ ap (λ (p : PortNet). p.name) other)
names_at (n ∷ ns) (m ∷ ms) (suc k) a b heads is_a is_b = names_at ns ms k a b heads.3 is_a is_b

-- each input is an Input cell
abbrev AreOpen : List Cell → List PortNet → Type 0
AreOpen cells ns = (k : ℕ) (a : PortNet) → slice_get ns k ≡ Some a → a.input ≡ true → IsInputCell cells a.cell

-- inputs that are one cell stand at one place
abbrev HaveOwnCells : List PortNet → Type 0
HaveOwnCells ns = (j k : ℕ) (a b : PortNet) → slice_get ns j ≡ Some a → slice_get ns k ≡ Some b → a.input ≡ true → b.input ≡ true → a.cell ≡ b.cell → j ≡ k

-- a net that is an input is one cell in both
input_same : (cells : List Cell) (ns ms : List PortNet) (k : ℕ) (a b : PortNet) → AreOpen cells ns → HaveOwnCells ns → AreNamesApart ms → AreSameHeads ns ms
    → AreBothFed ns ms 0 cells → slice_get ns k ≡ Some a → slice_get ms k ≡ Some b → a.input ≡ true → a.cell ≡ b.cell
input_same cells ns ms k a b opens apart named heads fed is_a is_b input =
    let cell = opens k a is_a input in
    let e : 0 + a.cell ≡ a.cell = omega arith in
    let both = subst (λ (n : ℕ). (source : List ℕ) × IsFed IsItsNet ns n cell.0 source × IsFed IsItsNet ms n cell.0 source) e (both_at ns ms 0 a.cell cells cell.0 fed cell.1 cell.2) in
    let one = both.1 in
    let other = both.2 in
    let here : k ≡ one.0 = apart k one.0 a one.1 is_a one.2 input one.3 (sym one.4) in
    let is_one : slice_get ns k ≡ Some one.1 = subst (λ (n : ℕ). slice_get ns n ≡ Some one.1) (sym here) one.2 in
    let same_one : a ≡ one.1 = let found : Some a ≡ Some one.1 = sym is_a ∙ is_one in cc found in
    let name : b.name ≡ other.1.name = sym (names_at ns ms k a b heads is_a is_b) ∙ (ap (λ (p : PortNet). p.name) same_one ∙ (sym one.5 ∙ other.5)) in
    let there : k ≡ other.0 = names.one_place ms k other.0 b other.1 named is_b other.2 name in
    let is_other : slice_get ms k ≡ Some other.1 = subst (λ (n : ℕ). slice_get ms n ≡ Some other.1) (sym there) other.2 in
    let same_other : b ≡ other.1 = let found : Some b ≡ Some other.1 = sym is_b ∙ is_other in cc found in
    sym (ap (λ (p : PortNet). p.cell) same_other ∙ other.4)

nets_same : (ns ms : List PortNet) → AreSameHeads ns ms → AreSameOutputs ns ms
    → ((k : ℕ) (a b : PortNet) → slice_get ns k ≡ Some a → slice_get ms k ≡ Some b → a.input ≡ true → a.cell ≡ b.cell) → ns ≡ ms
nets_same [] [] heads outs ins = refl
nets_same [] (m ∷ ms) heads outs ins = absurd heads
nets_same (n ∷ ns) [] heads outs ins = absurd heads
nets_same (n ∷ ns) (m ∷ ms) heads outs ins =
    let cell : n.cell ≡ m.cell = by n.input refl in
    let rest = nets_same ns ms heads.3 outs.1 (λ k a b is_a is_b input. ins (suc k) a b is_a is_b input) in
    (λ i. record { name = heads.0 i; input = heads.1 i; width = heads.2 i; cell = cell i } ∷ rest i)
  where
    by : (b : Bool) → n.input ≡ b → n.cell ≡ m.cell
    by true is = ins zero n m refl refl is
    by false is = outs.0 is

-- the text by its parts
abbrev pub behind_head : List PortNet → List Cell → List ℕ → List ℕ → List ℕ
behind_head nets cells drivers back = clock_declarations ++ (flat_map port_declaration nets ++ (cell_declarations 0 cells ++ (drivers ++ back)))

nested : (a n c l e k p d b o : List ℕ) → a ++ n ++ c ++ l ++ e ++ k ++ p ++ d ++ b ++ o ≡ a ++ (n ++ (c ++ (l ++ (e ++ (k ++ (p ++ (d ++ (b ++ o))))))))
nested a n c l e k p d b o =
    append_assoc (a ++ n ++ c ++ l ++ e ++ k ++ p ++ d) b o
    ∙ (append_assoc (a ++ n ++ c ++ l ++ e ++ k ++ p) d (b ++ o)
    ∙ (append_assoc (a ++ n ++ c ++ l ++ e ++ k) p (d ++ (b ++ o))
    ∙ (append_assoc (a ++ n ++ c ++ l ++ e) k (p ++ (d ++ (b ++ o)))
    ∙ (append_assoc (a ++ n ++ c ++ l) e (k ++ (p ++ (d ++ (b ++ o))))
    ∙ (append_assoc (a ++ n ++ c) l (e ++ (k ++ (p ++ (d ++ (b ++ o)))))
    ∙ (append_assoc (a ++ n) c (l ++ (e ++ (k ++ (p ++ (d ++ (b ++ o))))))
    ∙ append_assoc a n (c ++ (l ++ (e ++ (k ++ (p ++ (d ++ (b ++ o)))))))))))))

pub text_parts : (net : Netlist) (drivers : List ℕ) → declarations net ++ drivers ++ outputs net
    ≡ codes "module gos_" ++ (first_name net.ports ++ (codes "(clk, rst" ++ (listed (port_nets net.ports) ++ (codes ");\n" ++ behind_head (port_nets net.ports) net.cells drivers (outputs net)))))
text_parts net drivers =
    nested (codes "module gos_") (first_name net.ports) (codes "(clk, rst") (listed (port_nets net.ports)) (codes ");\n") clock_declarations (flat_map port_declaration (port_nets net.ports)) (cell_declarations 0 net.cells) drivers (outputs net)

pub first_bytes : (ps : List NetPort) → AllByRecursion IsWritablePort ps → AreNameBytes (first_name ps)
first_bytes [] all = refl
first_bytes (p ∷ ps) all = name_bytes p.name all.0.name

-- two netlists with one text
one_circuit : (text : List ℕ) (net other : Netlist) → IsWritable net → IsWritable other → AreOpen net.cells (port_nets net.ports) → HaveOwnCells (port_nets net.ports)
    → AreNamesApart (port_nets other.ports) → IsVerilogOf net text → IsVerilogOf other text → net ≡ other
one_circuit text net other writable writable_other opens apart names_apart (drivers, are, is) (drivers_other, are_other, is_other) =
    let ns : List PortNet = port_nets net.ports in
    let ms : List PortNet = port_nets other.ports in
    let right_n = right_nets net.ports writable.ports in
    let right_m = right_nets other.ports writable_other.ports in
    let back : List ℕ = outputs net in
    let back_other : List ℕ = outputs other in
    let rest : List ℕ = behind_head ns net.cells drivers back in
    let rest_other : List ℕ = behind_head ms other.cells drivers_other back_other in
    let whole = sym (text_parts net drivers) ∙ (sym is ∙ (is_other ∙ text_parts other drivers_other)) in
    let named = append_cancel_left (codes "module gos_") (first_name net.ports ++ (codes "(clk, rst" ++ (listed ns ++ (codes ");\n" ++ rest)))) (first_name other.ports ++ (codes "(clk, rst" ++ (listed ms ++ (codes ");\n" ++ rest_other)))) whole in
    let first = name_code (first_name net.ports) (first_name other.ports) 40 40 (codes "clk, rst" ++ (listed ns ++ (codes ");\n" ++ rest))) (codes "clk, rst" ++ (listed ms ++ (codes ");\n" ++ rest_other))) (first_bytes net.ports writable.ports) (first_bytes other.ports writable_other.ports) refl refl named in
    let behind = append_cancel_left (codes "(clk, rst") (listed ns ++ (codes ");\n" ++ rest)) (listed ms ++ (codes ");\n" ++ rest_other)) first.1 in
    let names_known = names_code ns ms (codes ";\n" ++ rest) (codes ";\n" ++ rest_other) (names_of ns right_n) (names_of ms right_m) behind in
    let inner = append_cancel_left (codes ";\n") rest rest_other names_known.1 in
    let declared = append_cancel_left clock_declarations (flat_map port_declaration ns ++ (cell_declarations 0 net.cells ++ (drivers ++ back))) (flat_map port_declaration ms ++ (cell_declarations 0 other.cells ++ (drivers_other ++ back_other))) inner in
    let heads = nets_code ns ms (cell_declarations 0 net.cells ++ (drivers ++ back)) (cell_declarations 0 other.cells ++ (drivers_other ++ back_other)) (bits_of ns right_n) (bits_of ms right_m) names_known.0 declared in
    let alike = cells_code 0 net.cells other.cells (drivers ++ back) (drivers_other ++ back_other) (have_bits net.cells writable.cells) (have_bits other.cells writable_other.cells) (drivers_body ns 0 net.cells drivers back are (outputs_body ns)) (drivers_body ms 0 other.cells drivers_other back_other are_other (outputs_body ms)) heads.1 in
    let driven = drivers_code ns ms 0 net.cells other.cells drivers drivers_other back back_other right_n right_m (have_bits net.cells writable.cells) (small_cells net.cells writable.cells) (small_cells other.cells writable_other.cells) alike.0 are are_other alike.1 in
    let outs = outputs_code ns ms (codes "endmodule\n") (codes "endmodule\n") (cells_of ns right_n) (cells_of ms right_m) heads.0 driven.2 in
    let same = nets_same ns ms heads.0 outs (λ k a b is_a is_b input. input_same net.cells ns ms k a b opens apart names_apart heads.0 driven.1 is_a is_b input) in
    let ports = ports_code net.ports other.ports writable.ports writable_other.ports same in
    (λ i. record { cells = driven.0 i; ports = ports i })

accepted_open : (net : Netlist) → IsAccepted net → AreOpen net.cells (port_nets net.ports)
accepted_open net accepted k a is input = get_all PortNet (IsOpen net.cells) (port_nets net.ports) k a (open_nets net.cells net.ports (λ j p got. (accepted.ports.each j p got).nets)) is input

accepted_own : (net : Netlist) → IsAccepted net → HaveOwnCells (port_nets net.ports)
accepted_own net accepted j k a b is_a is_b =
    inputs.one_place (port_nets net.ports) j k a b (inputs_apart net.ports (λ i p got. (accepted.ports.each i p got).inputs)) is_a is_b

accepted_apart : (net : Netlist) → IsAccepted net → AreNamesApart (port_nets net.ports)
accepted_apart net accepted = nets_apart net.ports (λ k j p q got before earlier. (accepted.ports.each k p got).name j q before earlier)

pub one_netlist : (text : List ℕ) → IsOneNetlist text
one_netlist text net other (writable, accepted) (writable_other, accepted_other) is is_other =
    one_circuit text net other writable writable_other (accepted_open net accepted) (accepted_own net accepted) (accepted_apart other accepted_other) is is_other

readable_open : (net : Netlist) → IsReadable net → AreOpen net.cells (port_nets net.ports)
readable_open net readable k a is input = (record { width = a.width; gate = Input }, readable.inputs k a is input, refl)

pub readable_own : (net : Netlist) → IsReadable net → HaveOwnCells (port_nets net.ports)
readable_own net readable j k a b is_a is_b in_a in_b same =
    elim (cases_lt j k) [
      | inl before ↦ absurd (readable.once k b is_b in_b j a before is_a in_a same)
      | inr behind ↦ elim (cases_lt k j) [
        | inl before ↦ absurd (readable.once j a is_a in_a k b before is_b in_b (sym same))
        | inr over ↦ omega (arith, behind, over)
      ]
    ]

pub readable_apart : (net : Netlist) → IsReadable net → AreNamesApart (port_nets net.ports)
readable_apart net readable = nets_apart net.ports (λ k j p q got before earlier. readable.names k p got j q before earlier)

-- what a text is read as is one netlist
pub one_reading : (text : List ℕ) → IsReadAsOne text
one_reading text net other (readable, is) (readable_other, is_other) =
    one_circuit text net other readable.writable readable_other.writable (readable_open net readable) (readable_own net readable) (readable_apart other readable_other) is is_other

-- what was written is read as what it was written of
pub read_back : (net : Netlist) → IsReadBack net
read_back net text other (writable, accepted) is (readable, is_other) =
    one_circuit text net other writable readable.writable (accepted_open net accepted) (accepted_own net accepted) (readable_apart other readable) is is_other

-- a line is the same whatever is named, but for an Input cell
pub no_source : (i w : ℕ) (s t : List ℕ) (f : Function) → (f ≡ Input → s ≡ t) → driver_of i w s f ≡ driver_of i w t f
no_source i w s t Input same = ap (λ source. driver_of i w source Input) (same refl)
no_source i w s t f same = refl

one_source : (ns : List PortNet) (i : ℕ) (c : Cell) (s t : List ℕ) → HaveOwnCells ns → IsFed IsItsNet ns i c s → IsFed IsItsNet ns i c t → s ≡ t
one_source ns i c s t apart one other =
    let here = apart one.0 other.0 one.1 other.1 one.2 other.2 one.3 other.3 (one.4 ∙ sym other.4) in
    let is : slice_get ns other.0 ≡ Some one.1 = subst (λ (n : ℕ). slice_get ns n ≡ Some one.1) here one.2 in
    let same : one.1 ≡ other.1 = let found : Some one.1 ≡ Some other.1 = sym is ∙ other.2 in cc found in
    one.5 ∙ (ap (λ (p : PortNet). p.name) same ∙ sym other.5)

drivers_same : (ns : List PortNet) (i : ℕ) (cells : List Cell) (one other : List ℕ) → HaveOwnCells ns → AreDrivers IsItsNet ns i cells one → AreDrivers IsItsNet ns i cells other → one ≡ other
drivers_same ns i [] one other apart are_one are_other = are_one ∙ sym are_other
drivers_same ns i (c ∷ cells) one other apart are_one are_other =
    let line = no_source i c.width are_one.0 are_other.0 c.gate (λ gate. one_source ns i c are_one.0 are_other.0 apart (are_one.2 gate) (are_other.2 gate)) in
    let rest = drivers_same ns (suc i) cells are_one.1 are_other.1 apart are_one.3 are_other.3 in
    are_one.4 ∙ ((λ j. line j ++ rest j) ∙ sym are_other.4)

-- two texts of one netlist
one_text : (net : Netlist) → HaveOwnCells (port_nets net.ports) → HasOneText net
one_text net apart text other (drivers, are, is) (drivers_other, are_other, is_other) =
    let same = drivers_same (port_nets net.ports) 0 net.cells drivers drivers_other apart are are_other in
    is ∙ (ap (λ lines. declarations net ++ lines ++ outputs net) same ∙ sym is_other)

pub accepted_text : (net : Netlist) → IsAccepted net → HasOneText net
accepted_text net accepted = one_text net (accepted_own net accepted)

pub readable_text : (net : Netlist) → IsReadable net → HasOneText net
readable_text net readable = one_text net (readable_own net readable)
