-- A cycle without pulses that the simulator repeats: the run goes on by the same cycle until an entry is due.
use Rattle.std.proofs.Common.{◌≡◌, ◌≤◌, ◌<◌, ◌+◌, ◌-◌, ℕ, zero, suc, true, List, [], ◌∷◌, ◌++◌, All, length, reverse, get_or, take, refl, sym, ap, subst, ◌∙◌, arith}
use Rattle.std.specs.List.{list_all}
use Rattle.std.proofs.lemmas.List.{append-nil, length-append}
use Rattle.gos_netlist.specs.Nets.{Function, Input, Const, Not, And, Or, Xor, Mux, Add, Sub, Eq, Less, Gate, Reg, Cell, Netlist}
use Rattle.gos_netlist.specs.Settling.{Numbers, Settling, at, shown}
use Rattle.gos_model.specs.Labels.{Label}
use Rattle.gos_pace.specs.Flattening.{AnyOrder, inputs, outputs}
use Rattle.gos_sim.specs.Cycle.{Simulator}
use Rattle.gos_sim.specs.Repeats.{Repeats}
use Rattle.gos_pulse.specs.declared.board.Board.{Board}
use Rattle.gos_pulse.specs.declared.entries.Entry.{Entry}
use Rattle.gos_pulse.specs.declared.trace.TraceLine.{TraceLine}
use Rattle.gos_pulse.specs.Driving.{GivesIn, GivesInput, IsHeld, TakesAll, at_entries}
use Rattle.gos_pulse.specs.Guarding.{inputs_of, outputs_of}
use Rattle.gos_pulse.specs.Traced.{AreLines}
use Rattle.gos_pulse.specs.inner.Agenda.{HaveNone}
use Rattle.gos_pulse.specs.inner.Board.{Rests}
use Rattle.gos_pulse.specs.inner.Lines.{AddsLines, is_off}
use Rattle.gos_pulse.specs.inner.Queue.{StaysHeld}
use Rattle.gos_pulse.specs.inner.Running.{RunsCycle}
use Rattle.gos_pulse.specs.inner.Slots.{labels_of}
use Rattle.gos_pulse.proofs.LineLemmas.{no_labels}
use Rattle.gos_pulse.proofs.RunLemmas.{IsDrivenTo, IsUnderWay, driven_more}

-- what a cell shows with an input that it shows, whatever its register was
shown_again : (w : ℕ) (f : Function) (r s i x : ℕ) (v : ℕ → ℕ) → x ≡ shown w f r i v → x ≡ shown w f s x v → x ≡ shown w f s i v
shown_again w Input r s i x v before now = before
shown_again w (Const k) r s i x v before now = now
shown_again w (Not a) r s i x v before now = now
shown_again w (And a b) r s i x v before now = now
shown_again w (Or a b) r s i x v before now = now
shown_again w (Xor a b) r s i x v before now = now
shown_again w (Mux t a b) r s i x v before now = now
shown_again w (Add a b) r s i x v before now = now
shown_again w (Sub a b) r s i x v before now = now
shown_again w (Eq a b) r s i x v before now = now
shown_again w (Less a b) r s i x v before now = now
shown_again w (Gate t a) r s i x v before now = now
shown_again w (Reg a) r s i x v before now = now

-- a settling that is one of other registers with its own inputs is one of them with the inputs that it had
settles_again : (cells : List Cell) (before now ins v : Numbers) → Settling cells before ins v → Settling cells now v v → Settling cells now ins v
settles_again cells before now ins v first second =
    (first.0, λ n c is. shown_again c.width c.gate (at before n) (at now n) (at ins n) (at v n) (at v) (first.1 n c is) (second.1 n c is))

-- of no labels none is one
no_order : (l : Label) (ls : List Label) → AnyOrder (l ∷ ls) [] → ⊥
no_order l ls (before, after, is, order) =
    let long : 0 ≡ length (before ++ l ∷ after) = ap length is in
    omega (arith, long, length-append before (l ∷ after))

-- where nothing is taken and nothing given, the first of the `next` entries was held, and is
held_then : (net : Netlist) (before : List Label) (t since : ℕ) (queue : List Entry) (taken given came : List Label) (last : ℕ) (rest : List Entry)
    → AnyOrder (taken ++ given) [] → GivesIn net (reverse taken ++ before) t since queue given last rest → came ≡ reverse (taken ++ given) ++ before
    → IsHeld net came t last rest
held_then net before t since queue [] [] came last rest none (held, last_is, rest_is) after =
    subst (λ (ls : List Label). IsHeld net ls t last rest) (sym after)
    (subst (λ (n : ℕ). IsHeld net before t n rest) (sym last_is) (subst (IsHeld net before t since) (sym rest_is) held))
held_then net before t since queue [] (l ∷ given) came last rest none gives after = absurd (no_order l given none)
held_then net before t since queue (l ∷ taken) given came last rest none gives after = absurd (no_order l (taken ++ given) none)

module _ (old new : Simulator) (file : List Entry) (past : List Label) (t since : ℕ) (queue : List Entry) (last : ℕ) (rest : List Entry) (board : Board)
    (same : new.net ≡ old.net) (cycle : RunsCycle old file past t since queue last rest new board) (repeats : Repeats new)
    (quiet_in : list_all is_off board.inputs.items ≡ true) (quiet_out : list_all is_off board.outputs.items ≡ true) where
  abbrev net : Netlist
  net = old.net

  abbrev v : Numbers
  v = cycle.values

  no_inputs : inputs net v ≡ []
  no_inputs = sym cycle.inputs_are ∙ no_labels net.ports (inputs_of net) board.inputs.items quiet_in

  no_outputs : outputs net v ≡ []
  no_outputs = sym cycle.outputs_are ∙ no_labels net.ports (outputs_of net) board.outputs.items quiet_out

  -- the simulator, with its netlist as it was
  abbrev sim : Simulator
  sim = record { net = old.net; registers = new.registers; settlings = new.settlings }

  again : Repeats sim
  again = subst Repeats (λ i. record { net = same i; registers = new.registers; settlings = new.settlings }) repeats

  settles : Settling net.cells new.registers cycle.ins v
  settles =
      let newest : again.values ≡ v = ap (λ (vs : List Numbers). get_or vs 0 []) (sym (ap (take 1) again.twice) ∙ cycle.newest) in
      settles_again net.cells old.registers new.registers cycle.ins v cycle.settled (subst (λ (u : Numbers). Settling net.cells new.registers u u) newest again.settled)

  held : IsHeld net cycle.came t last rest
  held =
      let goes = cycle.goes in
      held_then net (reverse (outputs net v) ++ past) t since queue goes.taken goes.given cycle.came last rest
      (subst (AnyOrder (goes.taken ++ goes.given)) no_inputs goes.inputs) goes.gives goes.after

  -- a later cycle is the same one, where no entry is due
  abbrev repeated : (k : ℕ) → at_entries k file ≡ [] → IsHeld net cycle.came k last rest → RunsCycle sim file cycle.came k last rest last rest sim board
  repeated k none still =
      record {
        ins = cycle.ins;
        values = v;
        came = cycle.came;
        settled = settles;
        clean = cycle.clean;
        registers = cycle.registers;
        newest = cycle.newest;
        goes = record {
          taken = [];
          given = [];
          takes = subst (λ (es : List Entry). TakesAll net (reverse (outputs net v) ++ cycle.came) es []) (sym none) refl;
          gives = (subst (λ (ls : List Label). IsHeld net (reverse ls ++ cycle.came) k last rest) (sym no_outputs) still, refl, refl);
          inputs = no_inputs;
          after = sym (ap (λ (ls : List Label). reverse ls ++ cycle.came) no_outputs);
        };
        rests = cycle.rests;
        inputs_are = cycle.inputs_are;
        outputs_are = cycle.outputs_are;
        left = cycle.left;
      }

  no_lines : (k : ℕ) (lines : List TraceLine) → AddsLines net k (outputs net v ++ inputs net v) lines lines
  no_lines k lines =
      let none : outputs net v ++ inputs net v ≡ [] = (λ i. no_outputs i ++ no_inputs i) in
      record { now = []; is = sym (append-nil lines); lines = subst (AreLines net k []) (sym none) tt }

  -- so many cycles more
  driven_on : (count first : ℕ) (lines : List TraceLine) → ((k : ℕ) → first ≤ k → k < first + count → (at_entries k file ≡ []) × IsHeld net cycle.came k last rest)
      → IsDrivenTo net file first last rest cycle.came new.registers lines → IsDrivenTo net file (first + count) last rest cycle.came new.registers lines
  driven_on zero first lines each so_far = subst (λ (n : ℕ). IsDrivenTo net file n last rest cycle.came new.registers lines) (omega arith) so_far
  driven_on (suc count) first lines each so_far =
      let here = each (first + count) (omega arith) (omega arith) in
      let before = driven_on count first lines (λ k from less. each k from (omega (arith, less))) so_far in
      subst (λ (n : ℕ). IsDrivenTo net file n last rest cycle.came new.registers lines) (omega arith)
      (driven_more sim sim file (first + count) last rest cycle.came lines lines last rest board before (repeated (first + count) here.0 here.1) (no_lines (first + count) lines))

  -- up to a cycle before which no entry is due
  pub goes_on_to : (end : ℕ) (old_board : Board) (lines lines1 : List TraceLine) (so_far : IsUnderWay old file t since queue old_board lines) → past ≡ so_far.past → t < end
      → HaveNone file (suc t) end → StaysHeld t last rest end
      → AddsLines net t (labels_of net.ports (outputs_of net) board.outputs.items ++ labels_of net.ports (inputs_of net) board.inputs.items) lines lines1
      → IsUnderWay new file end last rest board lines1
  goes_on_to end old_board lines lines1 so_far first later none stays adds =
      let shown : AddsLines net t (outputs net v ++ inputs net v) lines lines1 =
      subst (λ (ls : List Label). AddsLines net t ls lines lines1) (λ i. cycle.outputs_are i ++ cycle.inputs_are i) adds in
      let driven = subst (λ (ls : List Label). IsDrivenTo net file t since queue ls old.registers lines) (sym first) so_far.driven in
      let next = driven_more old new file t since queue past lines lines1 last rest board driven cycle shown in
      let on = driven_on (end - (t + 1)) (t + 1) lines1
      (λ k from less. (none k (omega (arith, from)) (omega (arith, less, later)), stays net cycle.came k (omega (arith, from)) (omega (arith, less, later)) held)) next in
      let whole = subst (λ (n : ℕ). IsDrivenTo net file n last rest cycle.came new.registers lines1) (omega (arith, later)) on in
      record {
        past = cycle.came;
        driven = subst (λ (n : Netlist). IsDrivenTo n file end last rest cycle.came new.registers lines1) (sym same) whole;
        rests = subst (λ (n : Netlist). Rests n cycle.came board) (sym same) cycle.rests;
        left = subst (λ (n : Netlist). All (GivesInput n) rest) (sym same) cycle.left;
      }
