-- The text of a netlist is that of a module that means the netlist.
use Rattle.std.proofs.Common.{◌≡◌, inl, inr, ℕ, zero, suc, ◌+◌, ◌<◌, ◌≤◌, ◌↔◌, Bool, true, false, if◌then◌else◌, List, [], ◌∷◌, ◌++◌, length, map, Some, nat_eq, refl, sym, ◌∙◌, ap, subst, arith, slice_get, append_assoc, codes}
use Rattle.std.specs.List.{AllByRecursion, flat_map}
use Rattle.std.proofs.lemmas.Grind.{flat_map-append}
use Rattle.gos_netlist.specs.Nets.{Function, Input, Const, Not, And, Or, Xor, Mux, Add, Sub, Eq, Less, Gate, Reg, Cell, Netlist}
use Rattle.gos_netlist.specs.Cycles.{IsRegister}
use Rattle.gos_netcheck.specs.Accepted.{IsAccepted}
use Rattle.gos_netcheck.specs.CellRules.{OperandsFit, widths_of}
use Rattle.gos_netlist.specs.Settling.{Numbers, at, next_of, shown, Settling}
use Rattle.gos_verilog.specs.PortNets.{PortNet, port_nets}
use Rattle.gos_verilog.specs.Lines.{assignment, cell_declarations, cell_net, clock_declarations, declaration, driver_of, kind_word, output_assignment}
use Rattle.gos_verilog.specs.VerilogText.{AreDrivers, IsFed, IsItsNet, declarations, first_name, outputs}
use Rattle.gos_verilog.specs.Expressions.{BitAnd, BitOr, BitXor, Plus, Minus, Equal, Below, Expression, OfPort, OfCell, Literal, Turned, Signed, Choice, Plain, operands, value}
use Rattle.gos_verilog.specs.Meaning.{Line, Drives, Clocks, Assigns, Module, DeclaredPort, DeclaredNet, net_word, nets_text, line_text, port_text, module_text, IsDeclared, ReadsInput, UsesPorts, PortValues, bits_at, MeetsLine, MeetsAll, SetsLine, SetsAll, SelectorIsBit, is_clocked, port_declared, cell_declared, HoldBits, GivesInput, ShowsOutput, Means, TextsMean}
use Rattle.gos_verilog.proofs.BitLemmas.{BigPin, GrowsBig, big_shown, pick, selectors}
use Rattle.gos_verilog.proofs.OneTextLemmas.{get_all}

-- the expression of a cell of w bits; that of an Input is the net of a port that is named `source`
abbrev pub expression_of : ℕ → List ℕ → Function → Expression
expression_of w source Input = Plain (OfPort source)
expression_of w source (Const k) = Plain (Literal w k)
expression_of w source (Not a) = Turned (OfCell a)
expression_of w source (And a b) = Signed BitAnd (OfCell a) (OfCell b)
expression_of w source (Or a b) = Signed BitOr (OfCell a) (OfCell b)
expression_of w source (Xor a b) = Signed BitXor (OfCell a) (OfCell b)
expression_of w source (Mux s a b) = Choice (OfCell s) (OfCell a) (OfCell b)
expression_of w source (Add a b) = Signed Plus (OfCell a) (OfCell b)
expression_of w source (Sub a b) = Signed Minus (OfCell a) (OfCell b)
expression_of w source (Eq a b) = Signed Equal (OfCell a) (OfCell b)
expression_of w source (Less a b) = Signed Below (OfCell a) (OfCell b)
expression_of w source (Gate s a) = Choice (OfCell s) (OfCell a) (Literal w 0)
expression_of w source (Reg a) = Plain (OfCell a)

-- the line of cell i
abbrev pub line_of : ℕ → ℕ → List ℕ → Function → Line
line_of i w source f = if is_clocked f then Clocks i w (expression_of w source f) else Drives i (expression_of w source f)

line_is : (i w : ℕ) (source : List ℕ) (f : Function) → driver_of i w source f ≡ line_text (line_of i w source f)
line_is i w source Input = refl
line_is i w source (Const k) = refl
line_is i w source (Not a) = refl
line_is i w source (And a b) = refl
line_is i w source (Or a b) = refl
line_is i w source (Xor a b) = refl
line_is i w source (Mux s a b) = refl
line_is i w source (Add a b) = refl
line_is i w source (Sub a b) = refl
line_is i w source (Eq a b) = refl
line_is i w source (Less a b) = refl
line_is i w source (Gate s a) = refl
line_is i w source (Reg a) = refl

-- for a bit, not 0 is 1
choice : (s a b : ℕ) → s < 2 → (if nat_eq s 0 then b else a) ≡ (if nat_eq s 1 then a else b)
choice zero a b small = refl
choice (suc zero) a b small = refl
choice (suc (suc s)) a b small = absurd (omega (arith, small))

-- a wire is what its cell shows
wire_shows : (w r i : ℕ) (source : List ℕ) (seen : PortValues) (v : Numbers) (f : Function) → is_clocked f ≡ false → SelectorIsBit v f → (f ≡ Input → seen source ≡ i)
    → value w seen (at v) (expression_of w source f) ≡ shown w f r i (at v)
wire_shows w r i source seen v Input clocked bit gives = gives refl
wire_shows w r i source seen v (Const k) clocked bit gives = refl
wire_shows w r i source seen v (Not a) clocked bit gives = refl
wire_shows w r i source seen v (And a b) clocked bit gives = refl
wire_shows w r i source seen v (Or a b) clocked bit gives = refl
wire_shows w r i source seen v (Xor a b) clocked bit gives = refl
wire_shows w r i source seen v (Mux s a b) clocked bit gives = choice (at v s) (at v a) (at v b) bit
wire_shows w r i source seen v (Add a b) clocked bit gives = refl
wire_shows w r i source seen v (Sub a b) clocked bit gives = refl
wire_shows w r i source seen v (Eq a b) clocked bit gives = refl
wire_shows w r i source seen v (Less a b) clocked bit gives = refl
wire_shows w r i source seen v (Gate s a) clocked bit gives = choice (at v s) (at v a) 0 bit
wire_shows w r i source seen v (Reg a) clocked bit gives = absurd (cc clocked)

-- a register is what it holds, and takes its pin
pub register_shows : (w r i : ℕ) (v : Numbers) (f : Function) → is_clocked f ≡ true → r ≡ shown w f r i (at v)
register_shows w r i v (Reg a) clocked = refl
register_shows w r i v f clocked = absurd (cc clocked)

register_takes : (b w : ℕ) (source : List ℕ) (seen : PortValues) (v : Numbers) (f : Function) → is_clocked f ≡ true → value b seen (at v) (expression_of w source f) ≡ next_of f v
register_takes b w source seen v (Reg a) clocked = refl
register_takes b w source seen v f clocked = absurd (cc clocked)

-- a fact of each cell, of which the first has number i
abbrev pub AllFrom : (ℕ → Cell → Type 0) → ℕ → List Cell → Type 0
AllFrom P i [] = Unit {0}
AllFrom P i (c ∷ cells) = P i c × AllFrom P (suc i) cells

each : (P : ℕ → Cell → Type 0) (i : ℕ) (cells : List Cell) → AllFrom P i cells → (n : ℕ) (c : Cell) → slice_get cells n ≡ Some c → P (i + n) c
each P i [] all n c is = absurd (cc is)
each P i (d ∷ cells) all zero c is =
    let same : d ≡ c = cc is in
    let e : i ≡ i + 0 = omega arith in
    subst (λ (x : Cell). P (i + 0) x) same (subst (λ (n : ℕ). P n d) e all.0)
each P i (d ∷ cells) all (suc n) c is =
    let e : suc i + n ≡ i + suc n = omega arith in
    subst (λ (k : ℕ). P k c) e (each P (suc i) cells all.1 n c is)

from_each : (P : ℕ → Cell → Type 0) (i : ℕ) (cells : List Cell) → ((n : ℕ) (c : Cell) → slice_get cells n ≡ Some c → P (i + n) c) → AllFrom P i cells
from_each P i [] known = tt
from_each P i (c ∷ cells) known =
    let e : i + 0 ≡ i = omega arith in (
      subst (λ (n : ℕ). P n c) e (known 0 c refl),
      from_each P (suc i) cells (λ n d is. let f : i + suc n ≡ suc i + n = omega arith in subst (λ (k : ℕ). P k d) f (known (suc n) d is)),
    )

pub all_each : (P : ℕ → Cell → Type 0) (cells : List Cell) → AllFrom P 0 cells → (n : ℕ) (c : Cell) → slice_get cells n ≡ Some c → P n c
all_each P cells all n c is = let e : 0 + n ≡ n = omega arith in subst (λ (k : ℕ). P k c) e (each P 0 cells all n c is)

all_from : (P : ℕ → Cell → Type 0) (cells : List Cell) → ((n : ℕ) (c : Cell) → slice_get cells n ≡ Some c → P n c) → AllFrom P 0 cells
all_from P cells known = from_each P 0 cells (λ n c is. let e : n ≡ 0 + n = omega arith in subst (λ (k : ℕ). P k c) e (known n c is))

-- the lines of cells, of which the first has number i, that read nets of these names
abbrev pub driver_lines : ℕ → List Cell → List (List ℕ) → List Line
driver_lines i [] sources = []
driver_lines i (c ∷ cells) [] = []
driver_lines i (c ∷ cells) (source ∷ sources) = line_of i c.width source c.gate ∷ driver_lines (suc i) cells sources

-- each Input cell reads a net of a port that it is
abbrev pub AreRead : List PortNet → ℕ → List Cell → List (List ℕ) → Type 0
AreRead ns i [] sources = Unit {0}
AreRead ns i (c ∷ cells) [] = ⊥
AreRead ns i (c ∷ cells) (source ∷ sources) = (c.gate ≡ Input → IsFed IsItsNet ns i c source) × AreRead ns (suc i) cells sources

read_lines : (ns : List PortNet) (i : ℕ) (cells : List Cell) (text : List ℕ) → AreDrivers IsItsNet ns i cells text
    → (sources : List (List ℕ)) × AreRead ns i cells sources × (text ≡ flat_map line_text (driver_lines i cells sources))
read_lines ns i [] text are = ([], tt, are)
read_lines ns i (c ∷ cells) text are =
    let rest = read_lines ns (suc i) cells are.1 are.3 in
    (are.0 ∷ rest.0, (are.2, rest.1), are.4 ∙ (λ j. line_is i c.width are.0 c.gate j ++ rest.2 j))

-- the lines of outputs
abbrev pub output_lines : List PortNet → List Line
output_lines [] = []
output_lines (n ∷ ns) = (if n.input then [] else Assigns n.name n.cell ∷ []) ++ output_lines ns

outputs_written : (ns : List PortNet) → flat_map line_text (output_lines ns) ≡ flat_map output_assignment ns
outputs_written [] = refl
outputs_written (n ∷ ns) = by n.input (outputs_written ns)
  where
    by : (b : Bool) → flat_map line_text (output_lines ns) ≡ flat_map output_assignment ns
        → flat_map line_text ((if b then [] else Assigns n.name n.cell ∷ []) ++ output_lines ns) ≡ (if b then [] else assignment n.name (cell_net n.cell)) ++ flat_map output_assignment ns
    by true rest = rest
    by false rest = ap (λ more. assignment n.name (cell_net n.cell) ++ more) rest

-- the module of a netlist whose cells read nets of these names
abbrev pub module_of : Netlist → List (List ℕ) → Module
module_of net sources =
    record {
      name = first_name net.ports;
      ports = map port_declared (port_nets net.ports);
      nets = map cell_declared net.cells;
      lines = driver_lines 0 net.cells sources ++ output_lines (port_nets net.ports);
    }

all_both : (P : Line → Type 0) (xs ys : List Line) → AllByRecursion P (xs ++ ys) ↔ (AllByRecursion P xs × AllByRecursion P ys)
all_both P [] ys = ((λ all. (tt, all)), (λ both. both.1))
all_both P (x ∷ xs) ys =
    let rest = all_both P xs ys in
    ((λ all. let more = rest.0 all.1 in ((all.0, more.0), more.1)), (λ both. (both.0.0, rest.1 (both.0.1, both.1))))

wide_cell : (cells : List Cell) (n : ℕ) (c : Cell) → slice_get cells n ≡ Some c → bits_at (map cell_declared cells) n ≡ c.width
wide_cell [] n c is = absurd (cc is)
wide_cell (d ∷ cells) zero c is = let same : d ≡ c = cc is in ap (λ (x : Cell). x.width) same
wide_cell (d ∷ cells) (suc n) c is = wide_cell cells n c is

pub map_length : (cells : List Cell) → length (map cell_declared cells) ≡ length cells
map_length [] = refl
map_length (c ∷ cells) = ap suc (map_length cells)

-- nets of ports are declared, and used so
declared_at : (ns : List PortNet) (k : ℕ) (n : PortNet) → slice_get ns k ≡ Some n → IsDeclared (map port_declared ns) n.input n.name
declared_at [] k n is = absurd (cc is)
declared_at (m ∷ ns) zero n is = let same : m ≡ n = cc is in inl (ap (λ (p : PortNet). p.name) same, ap (λ (p : PortNet). p.input) same)
declared_at (m ∷ ns) (suc k) n is = inr (declared_at ns k n is)

reads_inputs : (ports : List DeclaredPort) (w : ℕ) (source : List ℕ) (f : Function) → (f ≡ Input → IsDeclared ports true source) → AllByRecursion (ReadsInput ports) (operands (expression_of w source f))
reads_inputs ports w source Input fed = (fed refl, tt)
reads_inputs ports w source (Const k) fed = (tt, tt)
reads_inputs ports w source (Not a) fed = (tt, tt)
reads_inputs ports w source (Mux s a b) fed = (tt, (tt, (tt, tt)))
reads_inputs ports w source (Gate s a) fed = (tt, (tt, (tt, tt)))
reads_inputs ports w source (Reg a) fed = (tt, tt)
reads_inputs ports w source f fed = (tt, (tt, tt))

uses_cell : (ports : List DeclaredPort) (i w : ℕ) (source : List ℕ) (f : Function) → (f ≡ Input → IsDeclared ports true source) → UsesPorts ports (line_of i w source f)
uses_cell ports i w source f fed = by (is_clocked f) (reads_inputs ports w source f fed)
  where
    by : (b : Bool) → AllByRecursion (ReadsInput ports) (operands (expression_of w source f)) → UsesPorts ports (if b then Clocks i w (expression_of w source f) else Drives i (expression_of w source f))
    by true reads = reads
    by false reads = reads

uses_cells : (ns : List PortNet) (i : ℕ) (cells : List Cell) (sources : List (List ℕ)) → AreRead ns i cells sources → AllByRecursion (UsesPorts (map port_declared ns)) (driver_lines i cells sources)
uses_cells ns i [] sources read = tt
uses_cells ns i (c ∷ cells) [] read = absurd read
uses_cells ns i (c ∷ cells) (source ∷ sources) read = (uses_cell (map port_declared ns) i c.width source c.gate fed, uses_cells ns (suc i) cells sources read.1)
  where
    fed : c.gate ≡ Input → IsDeclared (map port_declared ns) true source
    fed gate =
        let its = read.0 gate in
        subst (IsDeclared (map port_declared ns) true) (sym its.5) (subst (λ (b : Bool). IsDeclared (map port_declared ns) b its.1.name) its.3 (declared_at ns its.0 its.1 its.2))

uses_outputs : (ports : List DeclaredPort) (ns : List PortNet) → ((k : ℕ) (n : PortNet) → slice_get ns k ≡ Some n → IsDeclared ports n.input n.name) → AllByRecursion (UsesPorts ports) (output_lines ns)
uses_outputs ports [] known = tt
uses_outputs ports (n ∷ ns) known = by n.input (known 0 n refl) (uses_outputs ports ns (λ k m is. known (suc k) m is))
  where
    by : (b : Bool) → IsDeclared ports b n.name → AllByRecursion (UsesPorts ports) (output_lines ns) → AllByRecursion (UsesPorts ports) ((if b then [] else Assigns n.name n.cell ∷ []) ++ output_lines ns)
    by true here rest = rest
    by false here rest = (here, rest)

-- the lines of one cycle
module _ (nets : List DeclaredNet) (regs ins v : Numbers) (seen : PortValues) where
  meets_cell : (i w : ℕ) (source : List ℕ) (f : Function) → bits_at nets i ≡ w → SelectorIsBit v f → (f ≡ Input → seen source ≡ at ins i)
      → MeetsLine nets regs seen v (line_of i w source f) ↔ (at v i ≡ shown w f (at regs i) (at ins i) (at v))
  meets_cell i w source f wide bit gives = by (is_clocked f) refl
    where
      by : (b : Bool) → is_clocked f ≡ b
          → MeetsLine nets regs seen v (if b then Clocks i w (expression_of w source f) else Drives i (expression_of w source f)) ↔ (at v i ≡ shown w f (at regs i) (at ins i) (at v))
      by true clocked =
          let same = register_shows w (at regs i) (at ins i) v f clocked in
          ((λ e. e ∙ same), (λ e. e ∙ sym same))
      by false clocked =
          let same = ap (λ (b : ℕ). value b seen (at v) (expression_of w source f)) wide ∙ wire_shows w (at regs i) (at ins i) source seen v f clocked bit gives in
          ((λ e. e ∙ same), (λ e. e ∙ sym same))

  meets_cells : (ns : List PortNet) (i : ℕ) (cells : List Cell) (sources : List (List ℕ)) → AllFrom (λ n c. bits_at nets n ≡ c.width) i cells → AllByRecursion (λ c. SelectorIsBit v c.gate) cells
      → AreRead ns i cells sources → AllByRecursion (GivesInput seen ins) ns
      → AllByRecursion (MeetsLine nets regs seen v) (driver_lines i cells sources) ↔ AllFrom (λ n c. at v n ≡ shown c.width c.gate (at regs n) (at ins n) (at v)) i cells
  meets_cells ns i [] sources wide bits read gives = ((λ _. tt), (λ _. tt))
  meets_cells ns i (c ∷ cells) [] wide bits read gives = absurd read
  meets_cells ns i (c ∷ cells) (source ∷ sources) wide bits read gives =
      let here = meets_cell i c.width source c.gate wide.0 bits.0 given in
      let rest = meets_cells ns (suc i) cells sources wide.1 bits.1 read.1 gives in
      ((λ all. (here.0 all.0, rest.0 all.1)), (λ all. (here.1 all.0, rest.1 all.1)))
    where
      given : c.gate ≡ Input → seen source ≡ at ins i
      given gate =
          let fed = read.0 gate in
          ap seen fed.5 ∙ (get_all PortNet (GivesInput seen ins) ns fed.0 fed.1 gives fed.2 fed.3 ∙ ap (at ins) fed.4)

  meets_outputs : (ns : List PortNet) → AllByRecursion (MeetsLine nets regs seen v) (output_lines ns) ↔ AllByRecursion (ShowsOutput seen v) ns
  meets_outputs [] = ((λ _. tt), (λ _. tt))
  meets_outputs (n ∷ ns) = by n.input (meets_outputs ns)
    where
      by : (b : Bool) → AllByRecursion (MeetsLine nets regs seen v) (output_lines ns) ↔ AllByRecursion (ShowsOutput seen v) ns
          → AllByRecursion (MeetsLine nets regs seen v) ((if b then [] else Assigns n.name n.cell ∷ []) ++ output_lines ns)
          ↔ ((b ≡ false → seen n.name ≡ at v n.cell) × AllByRecursion (ShowsOutput seen v) ns)
      by true rest = ((λ all. ((λ no. absurd (cc no)), rest.0 all)), (λ all. rest.1 all.1))
      by false rest = ((λ all. ((λ _. all.0), rest.0 all.1)), (λ all. (all.0 refl, rest.1 all.1)))

-- a line that is met, of a cell with its number
abbrev IsMet : Numbers → Numbers → Numbers → PortValues → ℕ → Cell → Type 0
IsMet regs ins v seen n c =
    (source : List ℕ) × (c.gate ≡ Input → seen source ≡ at ins n) × (at v n ≡ (if is_clocked c.gate then at regs n else value c.width seen (at v) (expression_of c.width source c.gate)))

module _ (nets : List DeclaredNet) (regs ins v : Numbers) (seen : PortValues) where
  met_cell : (i w : ℕ) (source : List ℕ) (f : Function) → bits_at nets i ≡ w → MeetsLine nets regs seen v (line_of i w source f)
      → at v i ≡ (if is_clocked f then at regs i else value w seen (at v) (expression_of w source f))
  met_cell i w source f wide = by (is_clocked f)
    where
      by : (b : Bool) → MeetsLine nets regs seen v (if b then Clocks i w (expression_of w source f) else Drives i (expression_of w source f))
          → at v i ≡ (if b then at regs i else value w seen (at v) (expression_of w source f))
      by true e = e
      by false e = e ∙ ap (λ (b : ℕ). value b seen (at v) (expression_of w source f)) wide

  met_cells : (ns : List PortNet) (i : ℕ) (cells : List Cell) (sources : List (List ℕ)) → AllFrom (λ n c. bits_at nets n ≡ c.width) i cells → AreRead ns i cells sources
      → AllByRecursion (GivesInput seen ins) ns → AllByRecursion (MeetsLine nets regs seen v) (driver_lines i cells sources) → AllFrom (IsMet regs ins v seen) i cells
  met_cells ns i [] sources wide read gives all = tt
  met_cells ns i (c ∷ cells) [] wide read gives all = absurd read
  met_cells ns i (c ∷ cells) (source ∷ sources) wide read gives all =
      ((source, given, met_cell i c.width source c.gate wide.0 all.0), met_cells ns (suc i) cells sources wide.1 read.1 gives all.1)
    where
      given : c.gate ≡ Input → seen source ≡ at ins i
      given gate =
          let fed = read.0 gate in
          ap seen fed.5 ∙ (get_all PortNet (GivesInput seen ins) ns fed.0 fed.1 gives fed.2 fed.3 ∙ ap (at ins) fed.4)

-- a net of one bit that shows none, by its line and by its cell
module _ (cells : List Cell) (v : Numbers) (seen : PortValues) where
  big_value : (f : Function) (i : ℕ) (source : List ℕ) → OperandsFit (widths_of cells) 1 f → is_clocked f ≡ false → (f ≡ Input → i < 2) → (f ≡ Input → seen source ≡ i)
      → 2 ≤ value 1 seen (at v) (expression_of 1 source f) → BigPin cells v f
  big_value (Mux s a b) i source fit clocked small gives h =
      elim (pick (nat_eq (at v s) 0) (at v b) (at v a) h) [
        | inl other ↦ record { pin = b; named = (2, omega arith, refl); wide = fit.2; big = other }
        | inr one ↦ record { pin = a; named = (1, omega arith, refl); wide = fit.1; big = one }
      ]
  big_value (Gate s a) i source fit clocked small gives h =
      elim (pick (nat_eq (at v s) 0) 0 (at v a) h) [
        | inl other ↦ absurd (omega (arith, other))
        | inr one ↦ record { pin = a; named = (1, omega arith, refl); wide = fit.1; big = one }
      ]
  big_value f i source fit clocked small gives h =
      big_shown cells v f 0 i fit (λ other. absurd (let both : true ≡ false = sym other ∙ clocked in cc both)) small
      (subst (λ (x : ℕ). 2 ≤ x) (wire_shows 1 0 i source seen v f clocked tt gives) h)

  grows_met : (w : ℕ) (f : Function) (x r i : ℕ) (source : List ℕ) → w ≡ 1 → OperandsFit (widths_of cells) w f → (is_clocked f ≡ true → r < 2) → (f ≡ Input → i < 2) → (f ≡ Input → seen source ≡ i)
      → x ≡ (if is_clocked f then r else value w seen (at v) (expression_of w source f)) → 2 ≤ x → (IsRegister f → ⊥) × BigPin cells v f
  grows_met w f x r i source one fit held small gives is h = by (is_clocked f) refl is
    where
      by : (b : Bool) → is_clocked f ≡ b → x ≡ (if b then r else value w seen (at v) (expression_of w source f)) → (IsRegister f → ⊥) × BigPin cells v f
      by true clocked e = absurd (omega (arith, h, e, held clocked))
      by false clocked e = (
        (λ register. let both : false ≡ true = sym clocked ∙ ap is_clocked register.1 in cc both),
        big_value f i source (subst (λ (k : ℕ). OperandsFit (widths_of cells) k f) one fit) clocked small gives
            (subst (λ (k : ℕ). 2 ≤ k) (e ∙ ap (λ (k : ℕ). value k seen (at v) (expression_of k source f)) one) h),
      )

-- the lines at a clock edge
module _ (reset : Bool) (nets : List DeclaredNet) (seen : PortValues) (v after : Numbers) where
  -- a register of this function takes what is next
  abbrev TakesNext : ℕ → Function → Type 0
  TakesNext n f = is_clocked f ≡ true → at after n ≡ (if reset then 0 else next_of f v)

  sets_cell : (i w : ℕ) (source : List ℕ) (f : Function) → SetsLine reset nets seen v after (line_of i w source f) ↔ TakesNext i f
  sets_cell i w source f = by (is_clocked f) refl
    where
      by : (b : Bool) → is_clocked f ≡ b → SetsLine reset nets seen v after (if b then Clocks i w (expression_of w source f) else Drives i (expression_of w source f)) ↔ TakesNext i f
      by true clocked =
          let same = ap (λ (x : ℕ). if reset then 0 else x) (register_takes (bits_at nets i) w source seen v f clocked) in
          ((λ e _. e ∙ same), (λ takes. takes clocked ∙ sym same))
      by false clocked = ((λ _ other. absurd (let both : true ≡ false = sym other ∙ clocked in cc both)), (λ _. tt))

  sets_cells : (ns : List PortNet) (i : ℕ) (cells : List Cell) (sources : List (List ℕ)) → AreRead ns i cells sources
      → AllByRecursion (SetsLine reset nets seen v after) (driver_lines i cells sources) ↔ AllFrom (λ n c. TakesNext n c.gate) i cells
  sets_cells ns i [] sources read = ((λ _. tt), (λ _. tt))
  sets_cells ns i (c ∷ cells) [] read = absurd read
  sets_cells ns i (c ∷ cells) (source ∷ sources) read =
      let here = sets_cell i c.width source c.gate in
      let rest = sets_cells ns (suc i) cells sources read.1 in
      ((λ all. (here.0 all.0, rest.0 all.1)), (λ all. (here.1 all.0, rest.1 all.1)))

  sets_no_output : (ns : List PortNet) → AllByRecursion (SetsLine reset nets seen v after) (output_lines ns)
  sets_no_output [] = tt
  sets_no_output (n ∷ ns) = by n.input (sets_no_output ns)
    where
      by : (b : Bool) → AllByRecursion (SetsLine reset nets seen v after) (output_lines ns) → AllByRecursion (SetsLine reset nets seen v after) ((if b then [] else Assigns n.name n.cell ∷ []) ++ output_lines ns)
      by true rest = rest
      by false rest = (tt, rest)

-- the module of a netlist means it
pub means : (net : Netlist) (sources : List (List ℕ)) → AreRead (port_nets net.ports) 0 net.cells sources → Means (module_of net sources) net
means net sources read = record { named = refl; of_ports = refl; of_nets = refl; uses = uses; settles = settles; selectors = bits; edge = edge }
  where
    bits : (regs ins v : Numbers) (seen : PortValues) → IsAccepted net → HoldBits net.cells regs ins → AllByRecursion (GivesInput seen ins) (port_nets net.ports)
        → MeetsAll (module_of net sources) regs seen v → AllByRecursion (λ c. SelectorIsBit v c.gate) net.cells
    bits regs ins v seen accepted hold gives meets =
        let lines = (all_both (MeetsLine (map cell_declared net.cells) regs seen v) (driver_lines 0 net.cells sources) (output_lines (port_nets net.ports))).0 meets.1 in
        let wide = all_from (λ n c. bits_at (map cell_declared net.cells) n ≡ c.width) net.cells (wide_cell net.cells) in
        let met = all_each (IsMet regs ins v seen) net.cells (met_cells (map cell_declared net.cells) regs ins v seen (port_nets net.ports) 0 net.cells sources wide read gives lines.0) in
        let grows : GrowsBig net.cells v = λ n c is one big.
        let line = met n c is in
        let held = hold n c is one in
        grows_met net.cells v seen c.width c.gate (at v n) (at regs n) (at ins n) line.0 one (accepted.widths n c is).2 held.0 held.1 line.1 line.2 big in
        selectors net.cells v accepted.acyclic grows accepted.widths

    uses : AllByRecursion (UsesPorts (map port_declared (port_nets net.ports))) (driver_lines 0 net.cells sources ++ output_lines (port_nets net.ports))
    uses =
        (all_both (UsesPorts (map port_declared (port_nets net.ports))) (driver_lines 0 net.cells sources) (output_lines (port_nets net.ports))).1
        (uses_cells (port_nets net.ports) 0 net.cells sources read, uses_outputs (map port_declared (port_nets net.ports)) (port_nets net.ports) (declared_at (port_nets net.ports)))

    settles : (regs ins v : Numbers) (seen : PortValues) → AllByRecursion (λ c. SelectorIsBit v c.gate) net.cells → AllByRecursion (GivesInput seen ins) (port_nets net.ports)
        → MeetsAll (module_of net sources) regs seen v ↔ (Settling net.cells regs ins v × AllByRecursion (ShowsOutput seen v) (port_nets net.ports))
    settles regs ins v seen bits gives =
        let Line_met : Line → Type 0 = MeetsLine (map cell_declared net.cells) regs seen v in
        let Shown : ℕ → Cell → Type 0 = λ n c. at v n ≡ shown c.width c.gate (at regs n) (at ins n) (at v) in
        let both = all_both Line_met (driver_lines 0 net.cells sources) (output_lines (port_nets net.ports)) in
        let wide = all_from (λ n c. bits_at (map cell_declared net.cells) n ≡ c.width) net.cells (wide_cell net.cells) in
        let cells = meets_cells (map cell_declared net.cells) regs ins v seen (port_nets net.ports) 0 net.cells sources wide bits read gives in
        let outs = meets_outputs (map cell_declared net.cells) regs ins v seen (port_nets net.ports) in (
          (λ meets. let parts = both.0 meets.1 in ((meets.0 ∙ map_length net.cells, all_each Shown net.cells (cells.0 parts.0)), outs.0 parts.1)),
          (λ settled. (settled.0.0 ∙ sym (map_length net.cells), both.1 (cells.1 (all_from Shown net.cells settled.0.1), outs.1 settled.1))),
        )

    edge : (reset : Bool) (seen : PortValues) (v after : Numbers) → SetsAll reset (module_of net sources) seen v after
        ↔ ((n : ℕ) (c : Cell) → slice_get net.cells n ≡ Some c → is_clocked c.gate ≡ true → at after n ≡ (if reset then 0 else next_of c.gate v))
    edge reset seen v after =
        let Takes : ℕ → Cell → Type 0 = λ n c. is_clocked c.gate ≡ true → at after n ≡ (if reset then 0 else next_of c.gate v) in
        let both = all_both (SetsLine reset (map cell_declared net.cells) seen v after) (driver_lines 0 net.cells sources) (output_lines (port_nets net.ports)) in
        let cells = sets_cells reset (map cell_declared net.cells) seen v after (port_nets net.ports) 0 net.cells sources read in (
          (λ set. all_each Takes net.cells (cells.0 (both.0 set).0)),
          (λ takes. both.1 (cells.1 (all_from Takes net.cells takes), sets_no_output reset (map cell_declared net.cells) seen v after (port_nets net.ports))),
        )

-- the declarations of the module
flat_mapped : (A B : Type 0) (f : B → List ℕ) (g : A → B) (xs : List A) → flat_map f (map g xs) ≡ flat_map (λ x. f (g x)) xs
flat_mapped A B f g [] = refl
flat_mapped A B f g (x ∷ xs) = ap (λ more. f (g x) ++ more) (flat_mapped A B f g xs)

word_is : (f : Function) → net_word (is_clocked f) ≡ kind_word f
word_is (Reg a) = refl
word_is f = refl

nets_written : (i : ℕ) (cells : List Cell) → nets_text i (map cell_declared cells) ≡ cell_declarations i cells
nets_written i [] = refl
nets_written i (c ∷ cells) = λ j. declaration (word_is c.gate j) c.width (cell_net i) ++ nets_written (suc i) cells j

-- the lines before the drivers, of a name, the names of nets, and declarations
abbrev front : List ℕ → List ℕ → List ℕ → List ℕ → List ℕ
front name listed ports nets = (codes "module gos_" ++ name ++ codes "(clk, rst" ++ listed ++ codes ");\n") ++ clock_declarations ++ ports ++ nets

-- its text is that of the netlist
module_written : (net : Netlist) (sources : List (List ℕ)) → module_text (module_of net sources) ≡ declarations net ++ flat_map line_text (driver_lines 0 net.cells sources) ++ outputs net
module_written net sources =
    let ns : List PortNet = port_nets net.ports in
    let drivers : List ℕ = flat_map line_text (driver_lines 0 net.cells sources) in
    let outs : List ℕ = flat_map output_assignment ns in
    let end : List ℕ = codes "endmodule\n" in
    let lines : flat_map line_text (driver_lines 0 net.cells sources ++ output_lines ns) ≡ drivers ++ outs =
    flat_map-append line_text (driver_lines 0 net.cells sources) (output_lines ns) ∙ ap (λ more. drivers ++ more) (outputs_written ns) in
    (λ j.
    front (first_name net.ports) (flat_mapped PortNet DeclaredPort (λ p. codes ", " ++ p.name) port_declared ns j) (flat_mapped PortNet DeclaredPort port_text port_declared ns j) (nets_written 0 net.cells j)
    ++ lines j ++ end)
    ∙ (ap (λ text. text ++ end) (sym (append_assoc (declarations net) drivers outs)) ∙ append_assoc (declarations net ++ drivers) outs end)

-- each text of a netlist means it
pub texts_mean : TextsMean
texts_mean net text (drivers, are, is) =
    let lines = read_lines (port_nets net.ports) 0 net.cells drivers are in
    (module_of net lines.0, is ∙ (ap (λ drivers. declarations net ++ drivers ++ outputs net) lines.2 ∙ sym (module_written net lines.0)), means net lines.0 lines.1)
