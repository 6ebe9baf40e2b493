-- The circuit of an accepted netlist, whose cells are laid by level, is lowered from it.
use Rattle.std.specs.Prelude.{◌≡◌, ℕ, zero, suc, ◌+◌, ◌*◌, ◌^◌, ◌<◌, ◌≤◌, ◌⊎◌, Bool, true, false, List, [], ◌∷◌, ◌++◌, IsPermutation, Some, slice_get, length, get_or, map, replicate, sum_by}
use Rattle.std.specs.List.{AllByRecursion}
use Rattle.std.proofs.Common.{arith, refl, sym, ap, subst, inl, inr, ◌∙◌, length-append, pow_pos}
use Rattle.std.proofs.lemmas.List.{append-nil, get_or_default}
use Rattle.std.proofs.lemmas.List.Elements.{All-from_recursion}
use Rattle.std.proofs.lemmas.List.Sorted.{sum_by-IsPermutation}
use Rattle.std.proofs.lemmas.List.Sums.{sum_by-cons}
use Rattle.std.proofs.lemmas.Option.{slice_get-get_or, get_or_from_slice_get}
use Rattle.gos_netlist.specs.Nets.{Function, Input, Reg, Cell, Netlist}
use Rattle.gos_netlist.specs.Nets as net
use Rattle.gos_netlist.specs.Settling.{Numbers, at, Settling, IsRun, next_registers}
use Rattle.gos_netlist.proofs.SettlingLemmas.{acyclic_settles}
use Rattle.gos_netcheck.specs.Levels.{AreLevels}
use Rattle.gos_netcheck.specs.Accepted.{IsAccepted}
use Rattle.gos_gates.specs.Gates.{Bits, Gates, IsLiteral, LookBack, AreGates, after_gates, latches_from, outputs_from, sources, variables}
use Rattle.gos_gates.specs.Bits.{bits_of}
use Rattle.gos_gates.specs.Lowered.{width_of, net_bits, bits_at, input_nets, output_nets, registers, AreInputs, RunsAlike, units, bits_in, AreBlocks, ShowNet, IsLowered}
use Rattle.gos_gates.specs.inner.Laying.{Laid, literals_of, literals_at, next_variable, with_sources, with_source, with_cells, nothing_laid, cell_at, no_cell, held_nets, units_at, circuit_of, circuit_from, CanBeLaid, GivesCircuit}
use Rattle.gos_gates.specs.inner.Standing.{HoldAll, LookBackFrom, ShowNumber, is_source, Among}
use Rattle.gos_gates.specs.inner.Orders.{numbers_from, IsOrdered}
use Rattle.gos_gates.proofs.BackLemmas.{AreLow, all_low}
use Rattle.gos_gates.proofs.StandLemmas.{LaysAll, after_length}
use Rattle.gos_gates.proofs.OrderLemmas.{among_contains, come_in_order, is_by_level, order_all, order_low}
use Rattle.gos_gates.proofs.AmongLemmas.{ends_few, units_of_numbers}
use Rattle.gos_gates.proofs.PortLemmas.{AreEnds, ends_of_ports, few_outputs}
use Rattle.gos_gates.proofs.RegisterLemmas.{register_at, among_registers, registers_once, registers_low, held_low}
use Rattle.gos_gates.proofs.CycleLemmas.{AreSources, cycle_shows, next_bits}
use Rattle.gos_gates.proofs.RunLemmas.{CyclesAlike, run_alike, taken}

-- the bits of nets, counted
bits_count : (w n : ℕ) → length (bits_of w n) ≡ w
bits_count zero n = refl
bits_count (suc w) n = ap suc (bits_count w _)

pub bits_at_count : (cells : List Cell) (ns : List ℕ) (v : Numbers) → length (bits_at cells ns v) ≡ sum_by (width_of cells) ns
bits_at_count cells [] v = refl
bits_at_count cells (n ∷ ns) v =
    let here : length (net_bits cells n v) ≡ width_of cells n = bits_count (width_of cells n) (at v n) in
    omega (arith, here, bits_at_count cells ns v, length-append (net_bits cells n v) (bits_at cells ns v), sum_by-cons (width_of cells) n ns)

-- those of nets that are all 0
at_zeros : (n m : ℕ) → at (replicate n 0) m ≡ 0
at_zeros zero m = refl
at_zeros (suc n) zero = refl
at_zeros (suc n) (suc m) = at_zeros n m

zero_bits : (w : ℕ) → bits_of w 0 ≡ replicate w false
zero_bits zero = refl
zero_bits (suc w) = ap (λ (b : Bits). false ∷ b) (zero_bits w)

replicate_more : (m n : ℕ) → replicate m false ++ replicate n false ≡ replicate (m + n) false
replicate_more zero n = let e : n ≡ 0 + n = omega arith in ap (λ (k : ℕ). replicate k false) e
replicate_more (suc m) n =
    let e : suc (m + n) ≡ suc m + n = omega arith in
    ap (λ (b : Bits). false ∷ b) (replicate_more m n) ∙ ap (λ (k : ℕ). replicate k false) e

zeros_held : (cells : List Cell) (ns : List ℕ) (n : ℕ) → bits_at cells ns (replicate n 0) ≡ replicate (sum_by (width_of cells) ns) false
zeros_held cells [] n = refl
zeros_held cells (m ∷ ns) n =
    let w : ℕ = width_of cells m in
    let here : net_bits cells m (replicate n 0) ≡ replicate w false = ap (bits_of w) (at_zeros n m) ∙ zero_bits w in
    let sum : w + sum_by (width_of cells) ns ≡ sum_by (width_of cells) (m ∷ ns) = sym (sum_by-cons (width_of cells) m ns) in
    (λ i. here i ++ zeros_held cells ns n i) ∙ (replicate_more w (sum_by (width_of cells) ns) ∙ ap (λ (k : ℕ). replicate k false) sum)

-- the variables of sources
sources_base : (cells : List Cell) (ns : List ℕ) (s : Laid) → (with_sources cells ns s).base ≡ s.base + sum_by (width_of cells) ns
sources_base cells [] s = omega arith
sources_base cells (n ∷ ns) s = let rest = sources_base cells ns (with_source cells n s) in omega (arith, rest, sum_by-cons (width_of cells) n ns)

-- the gates of blocks are few
blocks_few : (cells : List Cell) (of : ℕ → List ℕ) (v : ℕ) (ns : List ℕ) (gs : List (ℕ × ℕ)) → AreBlocks cells of v ns gs → length gs ≤ 8 * units_at cells ns
blocks_few cells of v [] gs e = let size : length gs ≡ 0 = ap length e in omega (arith, size)
blocks_few cells of v (n ∷ ns) gs (first, rest, e, block, more) =
    let size : length gs ≡ length (first ++ rest) = ap length e in
    let cell : cell_at cells n ≡ block.cell = get_or_from_slice_get cells n block.cell no_cell block.is in
    let same : units cells (cell_at cells n) ≡ units cells block.cell = ap (units cells) cell in
    omega (arith, size, length-append first rest, block.few, same, blocks_few cells of (v + length first) ns rest more, sum_by-cons (λ m. units cells (cell_at cells m)) n ns)

-- literals that hold bits are as many
hold_count : (bits : Bits) (ls : List ℕ) (xs : List Bool) → HoldAll bits ls xs → length ls ≡ length xs
hold_count bits [] [] h = refl
hold_count bits [] (x ∷ xs) h = absurd h
hold_count bits (l ∷ ls) [] h = absurd h
hold_count bits (l ∷ ls) (x ∷ xs) h = ap suc (hold_count bits ls xs h.1)

are_literals : (v count : ℕ) (ls : List ℕ) → v ≡ suc count → AreLow v ls → AllByRecursion (IsLiteral count) ls
are_literals v count [] e low = tt
are_literals v count (l ∷ ls) e low = (omega (arith, e, low.0), are_literals v count ls e low.1)

literals_append : (count : ℕ) (xs ys : List ℕ) → AllByRecursion (IsLiteral count) xs → AllByRecursion (IsLiteral count) ys → AllByRecursion (IsLiteral count) (xs ++ ys)
literals_append count [] ys a b = b
literals_append count (x ∷ xs) ys a b = (a.0, literals_append count xs ys a.1 b)

look_back : (v count : ℕ) (gs : List (ℕ × ℕ)) → v ≡ suc count → LookBackFrom v gs → LookBack count gs
look_back v count [] e back = tt
look_back v count (g ∷ gs) e back = (omega (arith, e, back.0), back.1, look_back (suc v) (suc count) gs (ap suc e) back.2)

map_same : {A B : Type 0} (f g : A → B) (xs : List A) → ((x : A) → f x ≡ g x) → map f xs ≡ map g xs
map_same f g [] same = refl
map_same f g (x ∷ xs) same = (λ i. same x i ∷ map_same f g xs same i)

module _ (netlist : Netlist) (accepted : IsAccepted netlist) (levels : Numbers) (are : AreLevels netlist.cells levels) (order : List ℕ)
    (perm : IsPermutation (numbers_from 0 (length netlist.cells)) order) (ord : IsOrdered levels order) (few : bits_in netlist.cells ≤ 2000000) where
  abbrev cells : List Cell
  cells = netlist.cells

  abbrev circuit : Gates
  circuit = circuit_of netlist order

  ends : AreEnds netlist
  ends = ends_of_ports netlist accepted.ports

  regs_low : AllByRecursion (λ n. n < length cells) (registers cells)
  regs_low = registers_low (length cells) cells 0 (omega arith)

  pins_low : AllByRecursion (λ n. n < length cells) (held_nets cells)
  pins_low = held_low (length cells) cells accepted.nets

  inputs_few : sum_by (width_of cells) (input_nets netlist) ≤ 2000000
  inputs_few = omega (arith, few, ends_few cells (input_nets netlist) ends.once ends.inputs)

  registers_few : sum_by (width_of cells) (registers cells) ≤ 2000000
  registers_few = omega (arith, few, ends_few cells (registers cells) (registers_once cells 0) regs_low)

  order_units : units_at cells order ≡ bits_in cells
  order_units = sum_by-IsPermutation (λ n. units cells (cell_at cells n)) (numbers_from 0 (length cells)) order perm ∙ units_of_numbers cells

  -- it can be laid in this order
  pub can_be_laid : length cells < 2 ^ 32 → CanBeLaid netlist order
  can_be_laid short = record {
    nets = accepted.nets;
    widths = accepted.widths;
    few = short;
    inputs = All-from_recursion (λ n. n < length cells) (input_nets netlist) ends.inputs;
    outputs = All-from_recursion (λ n. n < length cells) (output_nets netlist) ends.outputs;
    latches = All-from_recursion (λ n. n < length cells) (registers cells) regs_low;
    held = All-from_recursion (λ n. n < length cells) (held_nets cells) pins_low;
    ordered = λ k d low. let e : get_or order k d ≡ get_or order k 0 = get_or_default order k d 0 low in
        omega (arith, e, order_low cells accepted.nets levels are order perm ord k low);
    bits = omega (arith, order_units, few);
    input_bits = inputs_few;
    register_bits = registers_few;
  }

  -- what its sources and its order keep
  are_sources : AreSources cells (input_nets netlist) (registers cells) order
  are_sources = record {
    inputs_apart = ends.once;
    registers_apart = registers_once cells 0;
    inputs_low = ends.inputs;
    registers_low = regs_low;
    inputs = ends.are;
    registers = λ m h. register_of m h;
    covered = λ m low source. covered m low (cell_at cells m).gate refl source;
    all = λ m low. among_contains order m (order_all cells accepted.nets levels are order perm ord m low);
    ordered = come_in_order cells accepted.nets levels are order perm ord;
  }
    where
      register_of : (m : ℕ) → Among m (registers cells) → (a : ℕ) × ((cell_at cells m).gate ≡ Reg a)
      register_of m h =
          let r = register_at cells 0 m h in
          let here : m ≡ r.place = omega (arith, r.net) in
          let seen : cell_at cells r.place ≡ r.cell = get_or_from_slice_get cells r.place r.cell no_cell r.is in
          (r.pin, ap (λ (k : ℕ). (cell_at cells k).gate) here ∙ (ap (λ (c : Cell). c.gate) seen ∙ r.register))

      covered : (m : ℕ) → m < length cells → (f : Function) → (cell_at cells m).gate ≡ f → is_source f ≡ true → Among m (input_nets netlist) ⊎ Among m (registers cells)
      covered m low Input e source = inl (ends.all m low e)
      covered m low (Reg a) e source =
          let z : 0 + m ≡ m = omega arith in
          let P : ℕ → Type 0 = λ k. Among k (registers cells) in
          inr (subst P z (among_registers cells 0 m (cell_at cells m) a (slice_get-get_or cells m no_cell low) e))
      covered m low (net.Const k) e source = absurd (cc)
      covered m low (net.Not a) e source = absurd (cc)
      covered m low (net.And a b) e source = absurd (cc)
      covered m low (net.Or a b) e source = absurd (cc)
      covered m low (net.Xor a b) e source = absurd (cc)
      covered m low (net.Mux s a b) e source = absurd (cc)
      covered m low (net.Add a b) e source = absurd (cc)
      covered m low (net.Sub a b) e source = absurd (cc)
      covered m low (net.Eq a b) e source = absurd (cc)
      covered m low (net.Less a b) e source = absurd (cc)
      covered m low (net.Gate s a) e source = absurd (cc)

  -- one cycle, in which inputs and registers are 0
  abbrev zeros : Numbers
  zeros = replicate (length cells) 0

  low_zero : (w n m : ℕ) → at (replicate n 0) m < 2 ^ w
  low_zero w n m = omega (arith, at_zeros n m, pow_pos w)

  settled : (v : Numbers) × Settling cells zeros zeros v
  settled = acyclic_settles cells zeros zeros accepted.acyclic

  abbrev first : Laid
  first = with_sources cells (input_nets netlist) (nothing_laid cells)

  abbrev given : Laid
  given = with_sources cells (registers cells) first

  abbrev final : Laid
  final = with_cells cells order given

  abbrev bits : Bits
  bits = false ∷ (bits_at cells (input_nets netlist) zeros ++ bits_at cells (registers cells) zeros)

  lays : LaysAll cells settled.0 bits given order
  lays = cycle_shows cells accepted.widths (input_nets netlist) (registers cells) order are_sources zeros zeros settled.0 settled.1
      (λ m h. low_zero (width_of cells m) (length cells) m) (λ m h. low_zero (width_of cells m) (length cells) m)

  given_base : given.base ≡ suc (sum_by (width_of cells) (input_nets netlist) + sum_by (width_of cells) (registers cells))
  given_base =
      let one : first.base ≡ 1 + sum_by (width_of cells) (input_nets netlist) = sources_base cells (input_nets netlist) (nothing_laid cells) in
      let two : given.base ≡ first.base + sum_by (width_of cells) (registers cells) = sources_base cells (registers cells) first in
      omega (arith, one, two)

  sources_none : (ns : List ℕ) (s : Laid) → (with_sources cells ns s).gates ≡ s.gates
  sources_none [] s = refl
  sources_none (n ∷ ns) s = sources_none ns (with_source cells n s)

  no_gates : given.gates ≡ []
  no_gates = sources_none (registers cells) first ∙ sources_none (input_nets netlist) (nothing_laid cells)

  gates_are : final.gates ≡ lays.gs
  gates_are = lays.is ∙ ap (λ (gs : List (ℕ × ℕ)). gs ++ lays.gs) no_gates

  -- each net has a literal for each bit
  wide : (n : ℕ) → n < length cells → length (literals_of final n) ≡ width_of cells n
  wide n low =
      let show : ShowNumber (after_gates final.gates bits) (literals_of final n) (width_of cells n) (at settled.0 n) = lays.stands.show n low (inr (λ h. h)) in
      hold_count (after_gates final.gates bits) (literals_of final n) show.shown show.holds ∙ show.wide

  literals_count : (ns : List ℕ) → AllByRecursion (λ n. n < length cells) ns → length (literals_at final ns) ≡ sum_by (width_of cells) ns
  literals_count [] low = refl
  literals_count (n ∷ ns) low =
      omega (arith, wide n low.0, literals_count ns low.1, length-append (literals_of final n) (literals_at final ns), sum_by-cons (width_of cells) n ns)

  -- the pins of registers have as many bits as the registers
  same_bits : sum_by (width_of cells) (held_nets cells) ≡ sum_by (width_of cells) (registers cells)
  same_bits =
      let v : Numbers = settled.0 in
      let e = next_bits cells cells 0 v (next_of_cells v) (λ k c a is e. at_zero k c a is e) in
      sym (bits_at_count cells (held_nets cells) v) ∙ (ap length e ∙ bits_at_count cells (registers cells) (next_of_cells v))
    where
      next_of_cells : Numbers → Numbers
      next_of_cells v = next_registers cells v

      at_zero : (k : ℕ) (c : Cell) (a : ℕ) → slice_get cells k ≡ Some c → c.gate ≡ Reg a → (width_of cells a ≡ width_of cells (0 + k)) × (at (next_registers cells settled.0) (0 + k) ≡ at settled.0 a)
      at_zero k c a is e =
          let z : 0 + k ≡ k = omega arith in
          let P : ℕ → Type 0 = λ j. (width_of cells a ≡ width_of cells j) × (at (next_registers cells settled.0) j ≡ at settled.0 a) in
          subst P (sym z) (taken cells accepted.nets accepted.widths (input_nets netlist) (output_nets netlist) order are_sources ends.outputs pins_low settled.0 k c a is e)

  inputs_count : circuit.inputs ≡ sum_by (width_of cells) (input_nets netlist)
  inputs_count = let one : first.base ≡ 1 + sum_by (width_of cells) (input_nets netlist) = sources_base cells (input_nets netlist) (nothing_laid cells) in omega (arith, one)

  latches_count : length circuit.latches ≡ sum_by (width_of cells) (registers cells)
  latches_count = literals_count (held_nets cells) pins_low ∙ same_bits

  outputs_count : length circuit.outputs ≡ sum_by (width_of cells) (output_nets netlist)
  outputs_count = literals_count (output_nets netlist) ends.outputs

  gates_few : length circuit.gates ≤ 8 * bits_in cells
  gates_few =
      let size : length final.gates ≡ length lays.gs = ap length gates_are in
      omega (arith, size, order_units, blocks_few cells (literals_of final) (next_variable given) order lays.gs lays.blocks)

  -- the first gate has the variable behind the sources
  first_gate : next_variable given ≡ suc (sources circuit)
  first_gate =
      let none : length given.gates ≡ 0 = ap length no_gates in
      omega (arith, none, given_base, inputs_count, latches_count)

  -- all runs, with any outputs
  alike : (outs : List ℕ) → AllByRecursion (λ n. n < length cells) outs → (ins vs : List Numbers) → AllByRecursion (AreInputs cells) ins → IsRun cells ins vs
      → CyclesAlike cells (input_nets netlist) outs order zeros ins vs
  alike outs low ins vs narrow run =
      run_alike cells accepted.nets accepted.widths (input_nets netlist) outs order are_sources low pins_low ins vs zeros run narrow (λ m h. low_zero (width_of cells m) (length cells) m)

  -- the latches are 0 at first
  reset : bits_at cells (registers cells) zeros ≡ replicate (length circuit.latches) false
  reset = zeros_held cells (registers cells) (length cells) ∙ ap (λ (k : ℕ). replicate k false) (sym latches_count)

  runs : (ins vs : List Numbers) → AllByRecursion (AreInputs cells) ins → IsRun cells ins vs → RunsAlike netlist circuit ins vs
  runs ins vs narrow run =
      let c : CyclesAlike cells (input_nets netlist) (output_nets netlist) order zeros ins vs = alike (output_nets netlist) ends.outputs ins vs narrow run in
      record {
        outputs = ap (λ (h : Bits). outputs_from circuit h (map (bits_at cells (input_nets netlist)) ins)) (sym reset) ∙ c.outputs;
        latches = ap (λ (h : Bits). latches_from circuit h (map (bits_at cells (input_nets netlist)) ins)) (sym reset) ∙ c.latches;
      }

  shows : (n : ℕ) → n < length cells → ShowNet netlist circuit n (literals_of final n)
  shows n low ins vs narrow run =
      let c : CyclesAlike cells (input_nets netlist) (n ∷ []) order zeros ins vs = alike (n ∷ []) (low, tt) ins vs narrow run in
      let own : literals_of final n ≡ literals_at final (n ∷ []) = sym (append-nil (literals_of final n)) in
      ap (λ (ls : List ℕ). outputs_from (record circuit { outputs = ls }) (replicate (length circuit.latches) false) (map (bits_at cells (input_nets netlist)) ins)) own
      ∙ (ap (λ (h : Bits). outputs_from (circuit_from cells (input_nets netlist) (registers cells) (held_nets cells) (n ∷ []) order) h (map (bits_at cells (input_nets netlist)) ins)) (sym reset)
      ∙ (c.outputs ∙ map_same (bits_at cells (n ∷ [])) (net_bits cells n) vs (λ v. append-nil (net_bits cells n v))))

  pub is_lowered : IsLowered netlist circuit
  is_lowered = record {
    inputs = inputs_count;
    latches = latches_count;
    outputs = outputs_count;
    runs = runs;
    order = record {
      levels = levels;
      leveled = are;
      order = order;
      ordered = is_by_level cells accepted.nets levels are order perm ord;
      literals = final.nets;
      wide = wide;
      shows = shows;
      blocks =
          let P : List (ℕ × ℕ) → Type 0 = λ gs. AreBlocks cells (literals_of final) (suc (sources circuit)) order gs in
          let Q : ℕ → Type 0 = λ v. AreBlocks cells (literals_of final) v order lays.gs in
          subst P (sym gates_are) (subst Q first_gate lays.blocks);
    };
    few = gates_few;
  }

  -- all literals are of variables that are there
  all_variables : length (after_gates final.gates bits) ≡ suc (variables circuit)
  all_variables =
      omega (
        arith,
        after_length final.gates bits,
        length-append (bits_at cells (input_nets netlist) zeros) (bits_at cells (registers cells) zeros),
        bits_at_count cells (input_nets netlist) zeros,
        bits_at_count cells (registers cells) zeros,
        inputs_count,
        latches_count,
      )

  nets_there : (ns : List ℕ) → AllByRecursion (λ n. n < length cells) ns → AllByRecursion (IsLiteral (variables circuit)) (literals_at final ns)
  nets_there [] low = tt
  nets_there (n ∷ ns) low =
      let all : Bits = after_gates final.gates bits in
      let show : ShowNumber all (literals_of final n) (width_of cells n) (at settled.0 n) = lays.stands.show n low.0 (inr (λ h. h)) in
      literals_append (variables circuit) (literals_of final n) (literals_at final ns)
      (are_literals (length all) (variables circuit) (literals_of final n) all_variables (all_low all (literals_of final n) show.shown show.holds)) (nets_there ns low.1)

  pub are_gates : AreGates circuit
  are_gates = record {
    few = omega (arith, inputs_count, latches_count, gates_few, inputs_few, registers_few, few);
    few_outputs = omega (arith, outputs_count, inputs_few, few_outputs cells netlist.ports accepted.widths ends.fit);
    latches = nets_there (held_nets cells) pins_low;
    outputs = nets_there (output_nets netlist) ends.outputs;
    gates =
        let base : final.base ≡ suc (sources circuit) = lays.base ∙ omega (arith, given_base, inputs_count, latches_count) in
        look_back final.base (sources circuit) circuit.gates base lays.stands.back;
  }

  pub gives_circuit : length cells < 2 ^ 32 → GivesCircuit netlist order
  gives_circuit short = record { can = can_be_laid short; lowered = is_lowered; circuit = are_gates }
