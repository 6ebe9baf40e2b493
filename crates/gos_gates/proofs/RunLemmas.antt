-- Runs: in every cycle the outputs are the bits of the output nets, and the latches hold those of the registers.
use Rattle.std.specs.Prelude.{◌≡◌, ℕ, ◌+◌, ◌^◌, ◌<◌, List, [], ◌∷◌, length, map, get_or, Some, slice_get}
use Rattle.std.specs.List.{AllByRecursion}
use Rattle.std.proofs.Common.{arith, refl, sym, ap, subst, inl, inr, ◌∙◌}
use Rattle.std.proofs.lemmas.List.{get_or-map}
use Rattle.std.proofs.lemmas.Option.{slice_get-get_or, slice_get_within, get_or_from_slice_get}
use Rattle.gos_netlist.specs.Nets.{Function, Reg, Cell, pins}
use Rattle.gos_netlist.specs.Settling.{Numbers, at, RunFrom, next_of, next_registers}
use Rattle.gos_netcheck.specs.CellRules.{NetsExist, WidthsFit, OperandsFit, widths_of}
use Rattle.gos_gates.specs.Gates.{Bits, Gates, shown_by, all_shown, outputs_from, latches_from}
use Rattle.gos_gates.specs.Lowered.{width_of, bits_at, registers, registers_in, AreInputs}
use Rattle.gos_gates.specs.inner.Laying.{circuit_from, held_nets, cell_at, no_cell}
use Rattle.gos_gates.specs.inner.Standing.{Among}
use Rattle.gos_gates.proofs.StandLemmas.{width_is}
use Rattle.gos_gates.proofs.CycleLemmas.{AreSources, nets_show, next_bits, value_low}

-- what is alike in the cycles of a run
pub record CyclesAlike (cells : List Cell) (ins outs order : List ℕ) (held : Numbers) (is vs : List Numbers) : Type 0 where
  pub outputs : outputs_from (circuit_from cells ins (registers cells) (held_nets cells) outs order) (bits_at cells (registers cells) held) (map (bits_at cells ins) is) ≡ map (bits_at cells outs) vs
  pub latches : latches_from (circuit_from cells ins (registers cells) (held_nets cells) outs order) (bits_at cells (registers cells) held) (map (bits_at cells ins) is) ≡ map (bits_at cells (registers cells)) (registers_in cells held vs)

module _ (cells : List Cell) (exist : NetsExist cells) (fits : WidthsFit cells) (ins outs order : List ℕ) (are : AreSources cells ins (registers cells) order)
    (outs_low : AllByRecursion (λ n. n < length cells) outs) (pins_low : AllByRecursion (λ n. n < length cells) (held_nets cells)) where
  abbrev circuit : Gates
  circuit = circuit_from cells ins (registers cells) (held_nets cells) outs order

  -- a register takes over what its pin shows
  pub taken : (v : Numbers) (k : ℕ) (c : Cell) (a : ℕ) → slice_get cells k ≡ Some c → c.gate ≡ Reg a → (width_of cells a ≡ width_of cells k) × (at (next_registers cells v) k ≡ at v a)
  taken v k c a is e =
      let low : k < length cells = slice_get_within cells k c is in
      let cell : get_or cells k c ≡ c = get_or_from_slice_get cells k c c is in
      let seen : cell_at cells k ≡ c = get_or_from_slice_get cells k c no_cell is in
      let P : Function → Type 0 = λ f. OperandsFit (widths_of cells) c.width f in
      let wide : width_of cells a ≡ c.width = subst P e (fits k c is).2 in
      let own : width_of cells k ≡ c.width = width_is cells k ∙ ap (λ (x : Cell). x.width) seen in
      let next : at (next_registers cells v) k ≡ at v a =
      get_or-map (λ (x : Cell). next_of x.gate v) cells k c 0 low ∙ (ap (λ (x : Cell). next_of x.gate v) cell ∙ ap (λ (f : Function). next_of f v) e) in
      (wide ∙ sym own, next)

  pins_there : (k : ℕ) (c : Cell) (a : ℕ) → slice_get cells k ≡ Some c → c.gate ≡ Reg a → a < length cells
  pins_there k c a is e =
      let P : Function → Type 0 = λ f. AllByRecursion (λ n. n < length cells) (pins f) in
      (subst P e (exist k c is)).0

  pub run_alike : (is vs : List Numbers) (held : Numbers) → RunFrom cells held is vs → AllByRecursion (AreInputs cells) is
      → ((m : ℕ) → Among m (registers cells) → at held m < 2 ^ width_of cells m) → CyclesAlike cells ins outs order held is vs
  run_alike [] [] held run given low = record { outputs = refl; latches = refl }
  run_alike [] (v ∷ vs) held run given low = absurd (cc run)
  run_alike (i ∷ is) [] held run given low = absurd run
  run_alike (i ∷ is) (v ∷ vs) held run given low =
      let next : Numbers = next_registers cells v in
      let all : Bits = all_shown circuit (bits_at cells ins i) (bits_at cells (registers cells) held) in
      let outs_now : map (shown_by all) circuit.outputs ≡ bits_at cells outs v = nets_show cells fits ins (registers cells) order are held i v run.0 low given_low outs outs_low in
      let pins_now : map (shown_by all) circuit.latches ≡ bits_at cells (held_nets cells) v = nets_show cells fits ins (registers cells) order are held i v run.0 low given_low (held_nets cells) pins_low in
      let over : bits_at cells (held_nets cells) v ≡ bits_at cells (registers cells) next =
      next_bits cells cells 0 v next (λ k c a is e. let z : 0 + k ≡ k = omega arith in
      let P : ℕ → Type 0 = λ j. (width_of cells a ≡ width_of cells j) × (at next j ≡ at v a) in subst P (sym z) (taken v k c a is e)) in
      let latch : map (shown_by all) circuit.latches ≡ bits_at cells (registers cells) next = pins_now ∙ over in
      let rest : CyclesAlike cells ins outs order next is vs = run_alike is vs next run.1 given.1 next_low in
      record {
        outputs = (λ j. outs_now j ∷ (ap (λ (h : Bits). outputs_from circuit h (map (bits_at cells ins) is)) latch ∙ rest.outputs) j);
        latches = (λ j. bits_at cells (registers cells) held ∷ (ap (λ (h : Bits). latches_from circuit h (map (bits_at cells ins) is)) latch ∙ rest.latches) j);
      }
    where
      given_low : (m : ℕ) → Among m ins → at i m < 2 ^ width_of cells m
      given_low m among =
          let there : m < length cells = among_low ins m among are.inputs_low in
          let is : slice_get cells m ≡ Some (cell_at cells m) = slice_get-get_or cells m no_cell there in
          let P : ℕ → Type 0 = λ w. at i m < 2 ^ w in
          subst P (sym (width_is cells m)) (given.0 m (cell_at cells m) is (are.inputs m among))
        where
          among_low : (xs : List ℕ) (m : ℕ) → Among m xs → AllByRecursion (λ n. n < length cells) xs → m < length cells
          among_low [] m h all = absurd h
          among_low (x ∷ xs) m (inl e) all = omega (arith, e, all.0)
          among_low (x ∷ xs) m (inr h) all = among_low xs m h all.1

      next_low : (m : ℕ) → Among m (registers cells) → at (next_registers cells v) m < 2 ^ width_of cells m
      next_low m among =
          let there : m < length cells = among_low (registers cells) m among are.registers_low in
          let is : slice_get cells m ≡ Some (cell_at cells m) = slice_get-get_or cells m no_cell there in
          let r = are.registers m among in
          let t = taken v m (cell_at cells m) r.0 is r.1 in
          let here : at v r.0 < 2 ^ width_of cells r.0 = value_low cells fits ins (registers cells) order are held i v run.0 low given_low r.0 (pins_there m (cell_at cells m) r.0 is r.1) in
          let P : ℕ → Type 0 = λ k. k < 2 ^ width_of cells m in
          let Q : ℕ → Type 0 = λ w. at v r.0 < 2 ^ w in
          subst P (sym t.1) (subst Q t.0 here)
        where
          among_low : (xs : List ℕ) (m : ℕ) → Among m xs → AllByRecursion (λ n. n < length cells) xs → m < length cells
          among_low [] m h all = absurd h
          among_low (x ∷ xs) m (inl e) all = omega (arith, e, all.0)
          among_low (x ∷ xs) m (inr h) all = among_low xs m h all.1
