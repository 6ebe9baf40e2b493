-- The nets of an accepted netlist's ports: those that come in are Input cells, and none of them stands twice.
use Rattle.std.specs.Prelude.{◌≡◌, ℕ, zero, suc, ◌*◌, ◌<◌, ◌≤◌, ◌⊎◌, Bool, true, false, not, List, [], ◌∷◌, ◌++◌, Contains, Some, slice_get, filter, length, take, sum_by}
use Rattle.std.specs.List.{AllByRecursion}
use Rattle.std.proofs.Common.{arith, refl, sym, ap, subst, inl, inr, ◌∙◌, cond, append_assoc}
use Rattle.std.proofs.lemmas.List.{append-nil}
use Rattle.std.proofs.lemmas.List.Concat.{flat_map-append}
use Rattle.std.proofs.lemmas.List.Elements.{Contains-append_left, Contains-append_right}
use Rattle.std.proofs.lemmas.List.Sums.{sum_by-cons, sum_by-append}
use Rattle.std.proofs.lemmas.Option.{slice_get-get_or, slice_get_within, get_or_from_slice_get}
use Rattle.gos_types.specs.declared.widths.TheConstants.{GREATEST_WIDTH}
use Rattle.gos_types.specs.Types.{Type', Com, Exp, Var, Pair, Fun, IsGround}
use Rattle.gos_netlist.specs.Nets.{Function, Input, Cell, Side, Give, Take, NetPort, Netlist}
use Rattle.gos_netcheck.specs.CellRules.{WidthsFit}
use Rattle.gos_netcheck.specs.PortRules.{places, IsEnd, AllFit, inputs_among, inputs_of, all_inputs, AreNew, HasSide, PortsFit}
use Rattle.gos_gates.specs.Lowered.{width_of, function_at, is_input, port_nets, input_nets, output_nets}
use Rattle.gos_gates.specs.inner.Laying.{cell_at, no_cell}
use Rattle.gos_gates.specs.inner.Standing.{Among}
use Rattle.gos_gates.proofs.SourceLemmas.{NoTwice}
use Rattle.gos_gates.proofs.SumLemmas.{filter_append}
use Rattle.gos_gates.proofs.OrderLemmas.{among_contains}
use Rattle.gos_gates.proofs.StandLemmas.{width_is}
use Rattle.gos_gates.proofs.AmongLemmas.{all_append, all_filter, among_append, among_filter, among_or_not, contains_among, filter_sum, no_twice_append}

-- a net of a port is that of a cell, and comes in where its place is an input
end_kind : (cells : List Cell) (n : ℕ) (c : Cell) (input : Bool) → slice_get cells n ≡ Some c → IsEnd input c.gate → is_input (function_at cells n) ≡ input
end_kind cells n c input is end =
    let seen : cell_at cells n ≡ c = get_or_from_slice_get cells n c no_cell is in
    ap (λ (x : Cell). is_input x.gate) seen ∙ by_end input end
  where
    by_end : (b : Bool) → IsEnd b c.gate → is_input c.gate ≡ b
    by_end true e = ap is_input e
    by_end false (a, e) = ap is_input e

-- what fits behind the first place
rest_fit : (cells : List Cell) (p : _) (ps : _) (n : ℕ) (ns : List ℕ) → AllFit cells (p ∷ ps) (n ∷ ns) → AllFit cells ps ns
rest_fit cells p ps n ns fit = (omega (arith, fit.0), λ i m is. fit.1 (suc i) m is)

-- of the nets of a port, those that come in stand where inputs do
inputs_split : (cells : List Cell) (ps : _) (ns : List ℕ) → AllFit cells ps ns → filter (λ n. is_input (function_at cells n)) ns ≡ inputs_among ps ns
inputs_split cells [] [] fit = refl
inputs_split cells [] (n ∷ ns) fit = absurd (omega (arith, fit.0))
inputs_split cells (p ∷ ps) [] fit = refl
inputs_split cells (p ∷ ps) (n ∷ ns) fit =
    let rest : filter (λ m. is_input (function_at cells m)) ns ≡ inputs_among ps ns = inputs_split cells ps ns (rest_fit cells p ps n ns fit) in
    let (c, there, width, end) = fit.1 0 n refl in
    let kind : is_input (function_at cells n) ≡ p.input = end_kind cells n c p.input there end in
    by_kind (is_input (function_at cells n)) p.input kind rest
  where
    by_kind : (a b : Bool) → a ≡ b → filter (λ m. is_input (function_at cells m)) ns ≡ inputs_among ps ns
        → cond a (n ∷ filter (λ m. is_input (function_at cells m)) ns) (filter (λ m. is_input (function_at cells m)) ns) ≡ cond b (n ∷ []) [] ++ inputs_among ps ns
    by_kind true true e rest = ap (λ (xs : List ℕ). n ∷ xs) rest
    by_kind false false e rest = rest
    by_kind true false e rest = absurd (cc)
    by_kind false true e rest = absurd (cc)

nets_low : (cells : List Cell) (ps : _) (ns : List ℕ) → AllFit cells ps ns → AllByRecursion (λ n. n < length cells) ns
nets_low cells [] [] fit = tt
nets_low cells [] (n ∷ ns) fit = absurd (omega (arith, fit.0))
nets_low cells (p ∷ ps) [] fit = tt
nets_low cells (p ∷ ps) (n ∷ ns) fit =
    let (c, there, width, end) = fit.1 0 n refl in
    (slice_get_within cells n c there, nets_low cells ps ns (rest_fit cells p ps n ns fit))

-- the nets of each port fit
abbrev pub AllPortsFit : List Cell → List NetPort → Type 0
AllPortsFit cells ports = (k : ℕ) (p : NetPort) → slice_get ports k ≡ Some p → AllFit cells (places p.side p.ty) p.nets × IsGround p.ty

all_split : (cells : List Cell) (ports : List NetPort) → AllPortsFit cells ports → filter (λ n. is_input (function_at cells n)) (port_nets ports) ≡ all_inputs ports
all_split cells [] fit = refl
all_split cells (p ∷ ps) fit =
    filter_append (λ n. is_input (function_at cells n)) p.nets (port_nets ps)
    ∙ (λ i. inputs_split cells (places p.side p.ty) p.nets (fit 0 p refl).0 i ++ all_split cells ps (λ k q is. fit (suc k) q is) i)

pub ports_low : (cells : List Cell) (ports : List NetPort) → AllPortsFit cells ports → AllByRecursion (λ n. n < length cells) (port_nets ports)
ports_low cells [] fit = tt
ports_low cells (p ∷ ps) fit =
    all_append (λ n. n < length cells) p.nets (port_nets ps) (nets_low cells (places p.side p.ty) p.nets (fit 0 p refl).0) (ports_low cells ps (λ k q is. fit (suc k) q is))

-- nets that are new stand once
new_once : (before ns : List ℕ) → AreNew before ns → NoTwice ns
new_once before [] new = tt
new_once before (n ∷ ns) new =
    (λ h. again (contains_among ns n h), new_once (before ++ n ∷ []) ns (λ i m is has. new (suc i) m is (subst (λ (l : List ℕ). Contains l m) (append_assoc before (n ∷ []) (take i ns)) has)))
  where
    again : Contains ns n → ⊥
    again (k, low, is) =
        let there = slice_get-get_or ns k n low in
        let same : slice_get ns k ≡ Some n = there ∙ ap (λ (m : ℕ). Some m) is in
        new (suc k) n same (Contains-append_right before (n ∷ take k ns) n (0, omega arith, refl))

new_apart : (before ns : List ℕ) → AreNew before ns → (m : ℕ) → Among m ns → Contains before m → ⊥
new_apart before ns new m h has =
    let c = contains_among ns m h in
    let same : slice_get ns c.0 ≡ Some m = slice_get-get_or ns c.0 m c.1 ∙ ap (λ (k : ℕ). Some k) c.2 in
    new c.0 m same (Contains-append_left before (take c.0 ns) m has)

-- the inputs of all ports stand once, and apart from those of ports before
record StandOnce (before ns : List ℕ) : Type 0 where
  once : NoTwice ns
  apart : (m : ℕ) → Among m ns → Contains before m → ⊥

all_once : (front ports : List NetPort) → ((k : ℕ) (p : NetPort) → slice_get ports k ≡ Some p → AreNew (all_inputs (front ++ take k ports)) (inputs_of p)) → StandOnce (all_inputs front) (all_inputs ports)
all_once front [] new = record { once = tt; apart = λ m h has. h }
all_once front (p ∷ ps) new =
    let first : AreNew (all_inputs front) (inputs_of p) = subst (λ (l : List NetPort). AreNew (all_inputs l) (inputs_of p)) (append-nil front) (new 0 p refl) in
    let more : all_inputs (front ++ p ∷ []) ≡ all_inputs front ++ inputs_of p = flat_map-append inputs_of front (p ∷ []) ∙ ap (λ (l : List ℕ). all_inputs front ++ l) (append-nil (inputs_of p)) in
    let rest : StandOnce (all_inputs (front ++ p ∷ [])) (all_inputs ps) =
    all_once (front ++ p ∷ []) ps (λ k q is. subst (λ (l : List NetPort). AreNew (all_inputs l) (inputs_of q)) (sym (append_assoc front (p ∷ []) (take k ps))) (new (suc k) q is)) in
    let P : List ℕ → Type 0 = λ l. StandOnce l (all_inputs ps) in
    joined first (subst P more rest)
  where
    joined : AreNew (all_inputs front) (inputs_of p) → StandOnce (all_inputs front ++ inputs_of p) (all_inputs ps) → StandOnce (all_inputs front) (all_inputs (p ∷ ps))
    joined first rest = record {
      once = no_twice_append (inputs_of p) (all_inputs ps) (new_once (all_inputs front) (inputs_of p) first) rest.once
          (λ m here later. rest.apart m later (Contains-append_right (all_inputs front) (inputs_of p) m (contains_among (inputs_of p) m here)));
      apart = λ m h has. by_side m has (among_append (inputs_of p) (all_inputs ps) m h);
    }
      where
        by_side : (m : ℕ) → Contains (all_inputs front) m → Among m (inputs_of p) ⊎ Among m (all_inputs ps) → ⊥
        by_side m has (inl here) = new_apart (all_inputs front) (inputs_of p) first m here has
        by_side m has (inr later) = rest.apart m later (Contains-append_left (all_inputs front) (inputs_of p) m has)

-- each port that is right has a ground type
is_ground : (k : ℕ) (side : Side) (ty : Type') → HasSide k side ty → IsGround ty
is_ground zero side Com has = tt
is_ground zero side (Exp w) has = tt
is_ground zero side (Var w) has = absurd has.1
is_ground zero side (Pair a b) has = absurd has.1
is_ground zero side (Fun a b) has = absurd has.1
is_ground (suc k) side ty has = has.1

-- a net has at least one bit, and no more than the greatest width
width_few : (cells : List Cell) (n : ℕ) → WidthsFit cells → n < length cells → (1 ≤ width_of cells n) × (width_of cells n ≤ GREATEST_WIDTH)
width_few cells n fits low =
    let right = fits n (cell_at cells n) (slice_get-get_or cells n no_cell low) in
    (omega (arith, right.0, width_is cells n), omega (arith, right.1, width_is cells n))

widths_few : (cells : List Cell) (ns : List ℕ) → WidthsFit cells → AllByRecursion (λ n. n < length cells) ns → sum_by (width_of cells) ns ≤ GREATEST_WIDTH * length ns
widths_few cells [] fits low = omega arith
widths_few cells (n ∷ ns) fits low = omega (arith, (width_few cells n fits low.0).1, widths_few cells ns fits low.1, sum_by-cons (width_of cells) n ns)

-- a port has at most six nets, and one at least comes in
few_places : (side : Side) (ty : Type') → length (places side ty) ≤ 6
few_places side Com = omega arith
few_places side (Exp w) = omega arith
few_places side (Var w) = omega arith
few_places side (Pair a b) = omega arith
few_places side (Fun a b) = omega arith

some_input : (side : Side) (ty : Type') (ns : List ℕ) → IsGround ty → length ns ≡ length (places side ty) → 0 < length (inputs_among (places side ty) ns)
some_input side Com [] ground l = absurd (omega (arith, l))
some_input side (Exp w) [] ground l = absurd (omega (arith, l))
some_input side (Var w) [] ground l = absurd (omega (arith, l))
some_input side Com (a ∷ []) ground l = absurd (omega (arith, l))
some_input side (Exp w) (a ∷ []) ground l = absurd (omega (arith, l))
some_input side (Var w) (a ∷ []) ground l = absurd (omega (arith, l))
some_input Give Com (a ∷ b ∷ ns) ground l = omega arith
some_input Give (Exp w) (a ∷ b ∷ ns) ground l = omega arith
some_input Give (Var w) (a ∷ b ∷ ns) ground l = omega arith
some_input Take Com (a ∷ b ∷ ns) ground l = omega arith
some_input Take (Exp w) (a ∷ b ∷ ns) ground l = omega arith
some_input Take (Var w) (a ∷ b ∷ ns) ground l = omega arith
some_input side (Pair a b) ns ground l = absurd ground
some_input side (Fun a b) ns ground l = absurd ground

some_bits : (cells : List Cell) (ns : List ℕ) → WidthsFit cells → AllByRecursion (λ n. n < length cells) ns → 0 < length ns → 1 ≤ sum_by (width_of cells) ns
some_bits cells [] fits low some = absurd (omega (arith, some))
some_bits cells (n ∷ ns) fits low some = omega (arith, (width_few cells n fits low.0).0, sum_by-cons (width_of cells) n ns)

-- the outputs have at most 384 bits for each bit of the inputs
abbrev inward : List Cell → ℕ → Bool
inward cells n = is_input (function_at cells n)

abbrev outward : List Cell → ℕ → Bool
outward cells n = not (is_input (function_at cells n))

pub few_outputs : (cells : List Cell) (ports : List NetPort) → WidthsFit cells → AllPortsFit cells ports
    → sum_by (width_of cells) (filter (outward cells) (port_nets ports)) ≤ 384 * sum_by (width_of cells) (filter (inward cells) (port_nets ports))
few_outputs cells [] fits fit = omega arith
few_outputs cells (p ∷ ps) fits fit =
    let here = (fit 0 p refl).0 in
    let low : AllByRecursion (λ n. n < length cells) p.nets = nets_low cells (places p.side p.ty) p.nets here in
    let out : sum_by (width_of cells) (filter (outward cells) p.nets) ≤ sum_by (width_of cells) p.nets = filter_sum (width_of cells) (outward cells) p.nets in
    let some : 0 < length (filter (inward cells) p.nets) =
    subst (λ (l : List ℕ). 0 < length l) (sym (inputs_split cells (places p.side p.ty) p.nets here)) (some_input p.side p.ty p.nets (fit 0 p refl).1 here.0) in
    let bits : 1 ≤ sum_by (width_of cells) (filter (inward cells) p.nets) = some_bits cells (filter (inward cells) p.nets) fits (all_filter (λ n. n < length cells) (inward cells) p.nets low) some in
    let rest = few_outputs cells ps fits (λ k q is. fit (suc k) q is) in
    let outs = ap (sum_by (width_of cells)) (filter_append (outward cells) p.nets (port_nets ps)) in
    let ins = ap (sum_by (width_of cells)) (filter_append (inward cells) p.nets (port_nets ps)) in
    omega (
      arith,
      out,
      widths_few cells p.nets fits low,
      here.0,
      few_places p.side p.ty,
      bits,
      rest,
      outs,
      ins,
      sum_by-append (width_of cells) (filter (outward cells) p.nets) (filter (outward cells) (port_nets ps)),
      sum_by-append (width_of cells) (filter (inward cells) p.nets) (filter (inward cells) (port_nets ps)),
    )

-- what is known of the ends of an accepted netlist
pub record AreEnds (net : Netlist) : Type 0 where
  pub fit : AllPortsFit net.cells net.ports
  pub once : NoTwice (input_nets net)
  pub inputs : AllByRecursion (λ n. n < length net.cells) (input_nets net)
  pub outputs : AllByRecursion (λ n. n < length net.cells) (output_nets net)
  pub are : (m : ℕ) → Among m (input_nets net) → (cell_at net.cells m).gate ≡ Input
  pub all : (m : ℕ) → m < length net.cells → (cell_at net.cells m).gate ≡ Input → Among m (input_nets net)

pub ends_of_ports : (net : Netlist) → PortsFit net.cells net.ports → AreEnds net
ends_of_ports net right =
    let fit : AllPortsFit net.cells net.ports = λ k p is. ((right.each k p is).nets, is_ground k p.side p.ty (right.each k p is).side) in
    let same : input_nets net ≡ all_inputs net.ports = all_split net.cells net.ports fit in
    let low : AllByRecursion (λ n. n < length net.cells) (port_nets net.ports) = ports_low net.cells net.ports fit in
    record {
      fit = fit;
      once = subst NoTwice (sym same) (all_once [] net.ports (λ k p is. (right.each k p is).inputs)).once;
      inputs = all_filter (λ n. n < length net.cells) (inward net.cells) (port_nets net.ports) low;
      outputs = all_filter (λ n. n < length net.cells) (outward net.cells) (port_nets net.ports) low;
      are = λ m h. input_of (cell_at net.cells m).gate (among_filter (inward net.cells) (port_nets net.ports) m h).1;
      all = λ m inside is. by_case m inside is same (among_or_not (all_inputs net.ports) m);
    }
  where
    input_of : (f : Function) → is_input f ≡ true → f ≡ Input
    input_of Input e = refl
    input_of f e = absurd (cc)

    by_case : (m : ℕ) → m < length net.cells → (cell_at net.cells m).gate ≡ Input → input_nets net ≡ all_inputs net.ports
        → Among m (all_inputs net.ports) ⊎ (Among m (all_inputs net.ports) → ⊥) → Among m (input_nets net)
    by_case m inside is same (inl h) = subst (λ (l : List ℕ). Among m l) (sym same) h
    by_case m inside is same (inr none) = absurd (right.inputs m (cell_at net.cells m, slice_get-get_or net.cells m no_cell inside, is, λ has. none (among_contains (all_inputs net.ports) m has)))
