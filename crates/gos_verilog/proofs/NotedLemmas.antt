-- The lines that drive cells' nets, one by one: which cells are read, and which inputs are noted.
use Rattle.std.proofs.Common.{◌≡◌, ◌≢◌, inl, inr, ℕ, zero, suc, ◌+◌, ◌<◌, List, [], ◌∷◌, ◌++◌, length, map, drop, set, get_or, Some, refl, sym, ◌∙◌, ap, subst, arith, slice_get, append_assoc, append-nil}
use Rattle.std.proofs.lemmas.Bool.{cases_eq}
use Rattle.std.proofs.lemmas.List.{length-map, get_or-set_same, get_or-set_other}
use Rattle.std.proofs.lemmas.Option.{slice_get_within}
use Rattle.gos_netlist.specs.Nets.{Input, Cell}
use Rattle.gos_netlist.specs.declared.nets.Cell as seen
use Rattle.gos_netlist.specs.Seen.{cell_of}
use Rattle.gos_netlist.specs.Writable.{IsWritableCell}
use Rattle.gos_verilog.specs.declared.declared.Shape.{Shape}
use Rattle.gos_verilog.specs.declared.inputs.Inputs.{Inputs}
use Rattle.gos_lex.specs.declared.table.NameTable.{NameTable}
use Rattle.gos_verilog.specs.PortNets.{PortNet}
use Rattle.gos_verilog.specs.Lines.{driver}
use Rattle.gos_verilog.specs.VerilogText.{IsFed, AreDrivers, IsItsNet}
use Rattle.gos_verilog.specs.inner.Stages.{IsNetName, declared_net, shape_of}
use Rattle.gos_lex.specs.NameTables.{number_at}
use Rattle.gos_verilog.specs.inner.Noted.{HasPlaces, AreNoted, AreAllNoted, IsLineOf, IsKnown, IsNotedBy, AreRight, AreDriven}
use Rattle.gos_verilog.proofs.LineLemmas.{is_input_or}
use Rattle.gos_verilog.proofs.OneTextLemmas.{get_all}

-- what stands in the middle of a list
get_middle : (A : Type 0) (xs : List A) (x : A) (ys : List A) (n : ℕ) → length xs ≡ n → slice_get (xs ++ x ∷ ys) n ≡ Some x
get_middle A [] x ys n is = ap (slice_get (x ∷ ys)) (sym is)
get_middle A (y ∷ xs) x ys zero is = absurd (omega (arith, is))
get_middle A (y ∷ xs) x ys (suc n) is = get_middle A xs x ys n (omega (arith, is))

get_declared : (nets : List PortNet) (k : ℕ) (net : PortNet) → slice_get nets k ≡ Some net → slice_get (map declared_net nets) k ≡ Some (declared_net net)
get_declared [] k net is = absurd (cc is)
get_declared (n ∷ nets) zero net is = let same : n ≡ net = cc is in ap (λ (m : PortNet). Some (declared_net m)) same
get_declared (n ∷ nets) (suc k) net is = get_declared nets k net is

-- the lines that are left, and the cells and inputs so far
pub record DriversLeft (known : List PortNet) (all : List Cell) (x text : List ℕ) (shapes : List Shape) (old now : Inputs) (i at : ℕ) (cells : List seen.Cell) : Type 0 where
  pub left : List Cell
  pub lines : List ℕ
  pub are : AreDrivers IsItsNet known i left lines
  pub stands : drop at text ≡ lines ++ x
  pub shaped : drop i shapes ≡ map shape_of left
  pub whole : map cell_of cells ++ left ≡ all
  pub places : now.places ≡ old.places
  pub count : length now.cells.items ≡ length old.cells.items
  pub noted : AreNoted known i now.cells.items

abbrev pub DriversSoFar : List ℕ → ℕ → List PortNet → List Shape → Inputs → Inputs → ℕ → ℕ → List seen.Cell → Type 0
DriversSoFar text from nets shapes old now i at cells = (known : List PortNet) (all : List Cell) (x : List ℕ) → nets ≡ map declared_net known → shapes ≡ map shape_of all
    → HasPlaces known (length known) old.places → length old.cells.items ≡ length known → AreDriven (drop from text) known all x
    → DriversLeft known all x text shapes old now i at cells

-- the next cell, its line, and what stands behind it
pub record NextLine (known : List PortNet) (all : List Cell) (x text : List ℕ) (shapes : List Shape) (nets : List PortNet) (old now : Inputs) (i at : ℕ) (cells : List seen.Cell) (shape : Shape) : Type 0 where
  pub cell : Cell
  pub left : List Cell
  pub source : List ℕ
  pub rest : List ℕ
  pub is_shape : shape ≡ shape_of cell
  pub line : IsLineOf (drop at text) i shape.width cell.gate source (rest ++ x)
  pub known_input : cell.gate ≡ Input → IsKnown nets now shape.width source
  pub fed : cell.gate ≡ Input → IsFed IsItsNet known i cell source
  pub here : slice_get all i ≡ Some cell
  pub are : AreDrivers IsItsNet known (suc i) left rest
  pub shaped : drop (i + 1) shapes ≡ map shape_of left
  pub whole : map cell_of cells ++ cell ∷ left ≡ all

pub next_line : (known : List PortNet) (all : List Cell) (x text : List ℕ) (shapes : List Shape) (nets : List PortNet) (old now : Inputs) (i at : ℕ) (cells : List seen.Cell) (shape : Shape)
    → nets ≡ map declared_net known → HasPlaces known (length known) old.places → length old.cells.items ≡ length known → AreRight known all → length cells ≡ i
    → drop i shapes ≡ shape ∷ drop (i + 1) shapes → DriversLeft known all x text shapes old now i at cells → NextLine known all x text shapes nets old now i at cells shape
next_line known all x text shapes nets old now i at cells shape is has long right long_cells cut far = by far.left far.lines far.are far.stands far.shaped far.whole
  where
    by : (left : List Cell) (lines : List ℕ) → AreDrivers IsItsNet known i left lines → drop at text ≡ lines ++ x → drop i shapes ≡ map shape_of left → map cell_of cells ++ left ≡ all
        → NextLine known all x text shapes nets old now i at cells shape
    by [] lines are stands shaped whole = absurd (let none : shape ∷ drop (i + 1) shapes ≡ [] = sym cut ∙ shaped in cc none)
    by (c ∷ left) lines are stands shaped whole =
        let both : shape ∷ drop (i + 1) shapes ≡ shape_of c ∷ map shape_of left = sym cut ∙ shaped in
        let first : shape ≡ shape_of c = cc both in
        let width : shape.width ≡ c.width = ap (λ (s : Shape). s.width) first in
        let mapped : length (map cell_of cells) ≡ i = length-map cells cell_of ∙ long_cells in
        let here : slice_get all i ≡ Some c = subst (λ (cs : List Cell). slice_get cs i ≡ Some c) whole (get_middle Cell (map cell_of cells) c left i mapped) in
        let fit : IsWritableCell c = get_all Cell IsWritableCell all i c right.fit here in
        record {
          cell = c;
          left = left;
          source = are.0;
          rest = are.1;
          is_shape = first;
          line =
              subst (λ (w : ℕ). IsLineOf (drop at text) i w c.gate are.0 (are.1 ++ x)) (sym width)
              (record {
                fits = fit.1;
                named = λ gate. let fed = are.2 gate in subst IsNetName (sym fed.5) (get_all PortNet (λ n. IsNetName n.name) known fed.0 fed.1 right.names fed.2);
                is = stands ∙ (ap (λ bytes. bytes ++ x) are.4 ∙ append_assoc (driver i c are.0) are.1 x);
              });
          known_input = λ gate.
              let fed = are.2 gate in
              let inside : fed.0 < length known = slice_get_within known fed.0 fed.1 fed.2 in
              let place : number_at old.places fed.1.name ≡ Some fed.0 = has fed.0 fed.1 inside fed.2 fed.3 in
              let cell_at : slice_get all i ≡ Some (record { width = fed.1.width; gate = Input }) = subst (λ (n : ℕ). slice_get all n ≡ Some (record { width = fed.1.width; gate = Input })) fed.4 (right.inputs fed.0 fed.1 fed.2 fed.3) in
              let found : Some (record { width = fed.1.width; gate = Input }) ≡ Some c = sym cell_at ∙ here in
              let same : record { width = fed.1.width; gate = Input } ≡ c = cc found in
              record {
                place = fed.0;
                net = declared_net fed.1;
                known = ap (λ (p : NameTable). number_at p are.0) far.places ∙ (ap (number_at old.places) fed.5 ∙ place);
                there = subst (λ (ns : List PortNet). slice_get ns fed.0 ≡ Some (declared_net fed.1)) (sym is) (get_declared known fed.0 fed.1 fed.2);
                bits = ap (λ (d : Cell). d.width) same ∙ sym width;
                input = fed.3;
                named = fed.5;
                inside = omega (arith, far.count, long, inside);
              };
          fed = are.2;
          here = here;
          are = are.3;
          shaped = cc both;
          whole = whole;
        }

-- the notes behind the line of cell i
noted_more : (known : List PortNet) (all : List Cell) (old now new : Inputs) (i : ℕ) (cell : Cell) (source : List ℕ) → HasPlaces known (length known) old.places → length old.cells.items ≡ length known
    → AreRight known all → now.places ≡ old.places → length now.cells.items ≡ length old.cells.items → slice_get all i ≡ Some cell → (cell.gate ≡ Input → IsFed IsItsNet known i cell source)
    → IsNotedBy now new i cell.gate source → AreNoted known i now.cells.items → AreNoted known (suc i) new.cells.items
noted_more known all old now new i cell source has long right places count here fed by_line noted k net at input before =
    elim (is_input_or cell.gate) [
      | inl gate ↦ at_input gate
      | inr other ↦
          let same : new ≡ now = by_line.other other in
          let earlier : net.cell ≢ i = λ is. other (sym_gate is) in
          ap (λ (s : Inputs). get_or s.cells.items k 0) same ∙ noted k net at input (omega (arith, before, earlier))
    ]
  where
    -- a net that is cell i reads an Input
    sym_gate : net.cell ≡ i → cell.gate ≡ Input
    sym_gate is =
        let found : slice_get all i ≡ Some (record { width = net.width; gate = Input }) = subst (λ (n : ℕ). slice_get all n ≡ Some (record { width = net.width; gate = Input })) is (right.inputs k net at input) in
        let both : Some cell ≡ Some (record { width = net.width; gate = Input }) = sym here ∙ found in
        let same : cell ≡ record { width = net.width; gate = Input } = cc both in
        ap (λ (c : Cell). c.gate) same

    at_input : cell.gate ≡ Input → get_or new.cells.items k 0 ≡ net.cell
    at_input gate =
        let it = fed gate in
        let inside : it.0 < length known = slice_get_within known it.0 it.1 it.2 in
        let place : number_at now.places source ≡ Some it.0 = ap (λ (p : NameTable). number_at p source) places ∙ (ap (number_at old.places) it.5 ∙ has it.0 it.1 inside it.2 it.3) in
        let is : new.cells.items ≡ set now.cells.items it.0 i = by_line.input gate it.0 place in
        elim (cases_eq k it.0) [
          | inl same ↦
              let there : slice_get known it.0 ≡ Some net = subst (λ (n : ℕ). slice_get known n ≡ Some net) same at in
              let found : Some it.1 ≡ Some net = sym it.2 ∙ there in
              let net_is : it.1 ≡ net = cc found in
              ap (λ (ns : List ℕ). get_or ns k 0) is
              ∙ (ap (λ (n : ℕ). get_or (set now.cells.items it.0 i) n 0) same
              ∙ (get_or-set_same now.cells.items it.0 i 0 (omega (arith, count, long, inside)) ∙ (sym it.4 ∙ ap (λ (n : PortNet). n.cell) net_is)))
          | inr apart ↦
              let earlier : net.cell ≢ i = λ e. apart (right.apart k it.0 net it.1 at it.2 input it.3 (e ∙ sym it.4)) in
              ap (λ (ns : List ℕ). get_or ns k 0) is
              ∙ (get_or-set_other now.cells.items it.0 k i 0 apart ∙ noted k net at input (omega (arith, before, earlier)))
        ]

mapped_snoc : (cells : List seen.Cell) (cell : seen.Cell) (left : List Cell) → map cell_of (cells ++ cell ∷ []) ++ left ≡ map cell_of cells ++ cell_of cell ∷ left
mapped_snoc [] cell left = refl
mapped_snoc (c ∷ cells) cell left = ap (λ more. cell_of c ∷ more) (mapped_snoc cells cell left)

-- a line more is read
pub drivers_more : (known : List PortNet) (all : List Cell) (x text : List ℕ) (shapes : List Shape) (nets : List PortNet) (old now new : Inputs) (i at len : ℕ) (cells : List seen.Cell) (shape : Shape) (cell : seen.Cell)
    → HasPlaces known (length known) old.places → length old.cells.items ≡ length known → AreRight known all
    → (far : DriversLeft known all x text shapes old now i at cells) (next : NextLine known all x text shapes nets old now i at cells shape)
    → cell_of cell ≡ next.cell → drop (at + len) text ≡ next.rest ++ x → IsNotedBy now new i next.cell.gate next.source
    → DriversLeft known all x text shapes old new (i + 1) (at + len) (cells ++ cell ∷ [])
drivers_more known all x text shapes nets old now new i at len cells shape cell has long right far next is rest by_line =
    let e : suc i ≡ i + 1 = omega arith in
    let noted = noted_more known all old now new i next.cell next.source has long right far.places far.count next.here next.fed by_line far.noted in
    record {
      left = next.left;
      lines = next.rest;
      are = subst (λ (n : ℕ). AreDrivers IsItsNet known n next.left next.rest) e next.are;
      stands = rest;
      shaped = next.shaped;
      whole = mapped_snoc cells cell next.left ∙ (ap (λ (c : Cell). map cell_of cells ++ c ∷ next.left) is ∙ next.whole);
      places = by_line.places ∙ far.places;
      count = by_line.count ∙ far.count;
      noted = subst (λ (n : ℕ). AreNoted known n new.cells.items) e noted;
    }

-- all lines are read
pub no_line_left : (known : List PortNet) (all : List Cell) (x text : List ℕ) (shapes : List Shape) (old now : Inputs) (i at : ℕ) (cells : List seen.Cell) → AreRight known all → drop i shapes ≡ []
    → length cells ≡ i → DriversLeft known all x text shapes old now i at cells → (map cell_of cells ≡ all) × (drop at text ≡ x) × AreAllNoted known now.cells.items
no_line_left known all x text shapes old now i at cells right end long far = by far.left far.lines far.are far.stands far.shaped far.whole
  where
    by : (left : List Cell) (lines : List ℕ) → AreDrivers IsItsNet known i left lines → drop at text ≡ lines ++ x → drop i shapes ≡ map shape_of left → map cell_of cells ++ left ≡ all
        → (map cell_of cells ≡ all) × (drop at text ≡ x) × AreAllNoted known now.cells.items
    by (c ∷ left) lines are stands shaped whole = absurd (let some : shape_of c ∷ map shape_of left ≡ [] = sym shaped ∙ end in cc some)
    by [] lines are stands shaped whole =
        let same : map cell_of cells ≡ all = sym (append-nil (map cell_of cells)) ∙ whole in
        let count : length all ≡ i = sym (ap length same) ∙ (length-map cells cell_of ∙ long) in (
          same,
          stands ∙ ap (λ bytes. bytes ++ x) are,
          (λ k net at input. far.noted k net at input (omega (arith, count, slice_get_within all net.cell (record { width = net.width; gate = Input }) (right.inputs k net at input)))),
        )
