-- A driven run, cycle by cycle.
use Rattle.std.proofs.Common.{◌≡◌, ◌<◌, ◌+◌, ℕ, suc, true, false, List, [], ◌∷◌, ◌++◌, All, length, replicate, refl, sym, ap, subst, ◌∙◌, arith, add-one, append_assoc, append-nil}
use Rattle.std.specs.List.{AllByRecursion}
use Rattle.std.proofs.lemmas.Option.{slice_get_within}
use Rattle.std.proofs.lemmas.List.{length-append}
use Rattle.std.proofs.lemmas.List.Elements.{All-from_recursion}
use Rattle.gos_netlist.specs.Nets.{Netlist}
use Rattle.gos_netlist.specs.Events.{events_of}
use Rattle.gos_netlist.specs.Settling.{Numbers, RunFrom}
use Rattle.gos_model.specs.Labels.{Label}
use Rattle.gos_pace.specs.Flattening.{inputs, outputs}
use Rattle.gos_pace.specs.Silence.{InputsAreClean}
use Rattle.gos_sim.specs.Cycle.{Simulator, at_reset}
use Rattle.gos_pulse.specs.declared.board.Board.{Board}
use Rattle.gos_pulse.specs.declared.entries.Entry.{Entry}
use Rattle.gos_pulse.specs.declared.trace.Trace.{Trace}
use Rattle.gos_pulse.specs.declared.trace.TraceLine.{TraceLine}
use Rattle.gos_pulse.specs.Driving.{BreaksFrom, DrivesFrom, GivesInput, GoesBy, IsBroken, next_entries}
use Rattle.gos_pulse.specs.Traced.{AreLines, IsTraced, LinesFrom}
use Rattle.gos_pulse.specs.Guarding.{inputs_of, outputs_of}
use Rattle.gos_pulse.specs.inner.Slots.{labels_of}
use Rattle.gos_pulse.specs.inner.Board.{Rests}
use Rattle.gos_pulse.specs.inner.Lines.{AddsLines, HavePulses}
use Rattle.gos_pulse.specs.inner.Running.{BreaksCycle, RunsCycle}
use Rattle.gos_pulse.proofs.QueueLemmas.{next_known}

-- the run up to cycle t, after which it goes on from these registers and labels, with these `next` entries left
pub record IsDrivenTo (net : Netlist) (file : List Entry) (t since : ℕ) (queue : List Entry) (past : List Label) (registers : Numbers) (lines : List TraceLine) : Type 0 where
  pub run : List Numbers
  pub ins : List Numbers
  pub long : length run ≡ t
  pub clean : (more : List Numbers) → InputsAreClean net more → InputsAreClean net (ins ++ more)
  pub runs : (is vs : List Numbers) → RunFrom net.cells registers is vs → RunFrom net.cells (replicate (length net.cells) 0) (ins ++ is) (run ++ vs)
  pub drives : (vs : List Numbers) (unused : ℕ) → DrivesFrom net file past t since queue vs unused → DrivesFrom net file [] 0 0 (next_entries file) (run ++ vs) unused
  pub breaks : (vs : List Numbers) (cycle event : ℕ) → BreaksFrom net file past t since queue vs cycle event → BreaksFrom net file [] 0 0 (next_entries file) (run ++ vs) cycle event
  pub traces : (vs : List Numbers) (more : List TraceLine) → LinesFrom net t vs more → LinesFrom net 0 (run ++ vs) (lines ++ more)

-- before the first cycle
not_begun : (net : Netlist) (file : List Entry) (registers : Numbers) → registers ≡ replicate (length net.cells) 0 → IsDrivenTo net file 0 0 (next_entries file) [] registers []
not_begun net file registers reset =
    record {
      run = [];
      ins = [];
      long = refl;
      clean = λ more h. h;
      runs = λ is vs h. subst (λ (r : Numbers). RunFrom net.cells r is vs) reset h;
      drives = λ vs unused h. h;
      breaks = λ vs cycle event h. h;
      traces = λ vs more h. h;
    }

moved : {X : Type 0} (xs ys : List X) (x : X) → (xs ++ x ∷ []) ++ ys ≡ xs ++ x ∷ ys
moved xs ys x = append_assoc xs (x ∷ []) ys

breaks_later : (net : Netlist) (file : List Entry) (past came : List Label) (t since : ℕ) (queue : List Entry) (v : Numbers) (last : ℕ) (rest : List Entry) (vs : List Numbers) (cycle event : ℕ)
    → GoesBy net file past t since queue v came last rest → BreaksFrom net file came (suc t) last rest vs cycle event → BreaksFrom net file past t since queue (v ∷ vs) cycle event
breaks_later net file past came t since queue v last rest [] cycle event goes h = absurd h
breaks_later net file past came t since queue v last rest (w ∷ vs) cycle event goes h = (came, last, rest, goes, h)

-- one cycle more
pub driven_more : (old new : Simulator) (file : List Entry) (t since : ℕ) (queue : List Entry) (past : List Label) (lines lines1 : List TraceLine) (last : ℕ) (rest : List Entry) (board : Board)
    → IsDrivenTo old.net file t since queue past old.registers lines
    → (cycle : RunsCycle old file past t since queue last rest new board)
    → AddsLines old.net t (outputs old.net cycle.values ++ inputs old.net cycle.values) lines lines1
    → IsDrivenTo old.net file (t + 1) last rest cycle.came new.registers lines1
driven_more old new file t since queue past lines lines1 last rest board so_far cycle adds =
    let net : Netlist = old.net in
    let v : Numbers = cycle.values in
    let i : Numbers = cycle.ins in
    record {
      run = so_far.run ++ v ∷ [];
      ins = so_far.ins ++ i ∷ [];
      long = omega (arith, length-append so_far.run (v ∷ []), so_far.long);
      clean = λ more h. subst (InputsAreClean net) (sym (moved so_far.ins more i)) (so_far.clean (i ∷ more) (cycle.clean, h));
      runs = λ is vs h.
          subst (λ (js : List Numbers). RunFrom net.cells (replicate (length net.cells) 0) js ((so_far.run ++ v ∷ []) ++ vs)) (sym (moved so_far.ins is i))
          (subst (RunFrom net.cells (replicate (length net.cells) 0) (so_far.ins ++ i ∷ is)) (sym (moved so_far.run vs v))
          (so_far.runs (i ∷ is) (v ∷ vs) (cycle.settled, subst (λ (r : Numbers). RunFrom net.cells r is vs) cycle.registers h)));
      drives = λ vs unused h.
          subst (λ (ws : List Numbers). DrivesFrom net file [] 0 0 (next_entries file) ws unused) (sym (moved so_far.run vs v))
          (so_far.drives (v ∷ vs) unused (cycle.came, last, rest, cycle.goes, subst (λ (k : ℕ). DrivesFrom net file cycle.came k last rest vs unused) (add-one t) h));
      breaks = λ vs n event h.
          subst (λ (ws : List Numbers). BreaksFrom net file [] 0 0 (next_entries file) ws n event) (sym (moved so_far.run vs v))
          (so_far.breaks (v ∷ vs) n event
          (breaks_later net file past cycle.came t since queue v last rest vs n event cycle.goes (subst (λ (k : ℕ). BreaksFrom net file cycle.came k last rest vs n event) (add-one t) h)));
      traces = λ vs more h.
          let later : LinesFrom net (suc t) vs more = subst (λ (k : ℕ). LinesFrom net k vs more) (add-one t) h in
          let all : lines1 ++ more ≡ lines ++ (adds.now ++ more) = ap (λ (xs : List TraceLine). xs ++ more) adds.is ∙ append_assoc lines adds.now more in
          subst (λ (ws : List Numbers). LinesFrom net 0 ws (lines1 ++ more)) (sym (moved so_far.run vs v))
          (subst (LinesFrom net 0 (so_far.run ++ v ∷ vs)) (sym all)
          (so_far.traces (v ∷ vs) (adds.now ++ more) (adds.now, more, refl, adds.lines, later)));
    }

-- the end of the run
all_driven : (net : Netlist) (file : List Entry) (cycles since : ℕ) (queue : List Entry) (past : List Label) (registers : Numbers) (lines : List TraceLine) (trace : Trace)
    → IsDrivenTo net file cycles since queue past registers lines → trace.cycles ≡ cycles → trace.lines.items ≡ lines → trace.unused ≡ length queue
    → IsTraced net cycles file trace
all_driven net file cycles since queue past registers lines trace so_far count same unused =
    let drives : DrivesFrom net file [] 0 0 (next_entries file) (so_far.run ++ []) (length queue) = so_far.drives [] (length queue) refl in
    let runs : RunFrom net.cells (replicate (length net.cells) 0) (so_far.ins ++ []) (so_far.run ++ []) = so_far.runs [] [] refl in
    let traces : LinesFrom net 0 (so_far.run ++ []) (lines ++ []) = so_far.traces [] [] refl in
    record {
      run = so_far.run;
      driven = (
        so_far.ins,
        subst (InputsAreClean net) (append-nil so_far.ins) (so_far.clean [] tt),
        subst (λ (is : List Numbers). RunFrom net.cells (replicate (length net.cells) 0) is so_far.run) (append-nil so_far.ins)
            (subst (RunFrom net.cells (replicate (length net.cells) 0) (so_far.ins ++ [])) (append-nil so_far.run) runs),
        so_far.long,
        subst (DrivesFrom net file [] 0 0 (next_entries file) so_far.run) (sym unused)
            (subst (λ (vs : List Numbers). DrivesFrom net file [] 0 0 (next_entries file) vs (length queue)) (append-nil so_far.run) drives),
      );
      count = count;
      lines =
          subst (LinesFrom net 0 so_far.run) (sym same)
          (subst (LinesFrom net 0 so_far.run) (append-nil lines)
          (subst (λ (vs : List Numbers). LinesFrom net 0 vs (lines ++ [])) (append-nil so_far.run) traces));
    }

-- the run is broken
pub run_broken : (old : Simulator) (file : List Entry) (cycles t since : ℕ) (queue : List Entry) (past : List Label) (lines : List TraceLine) (event : ℕ) → IsDrivenTo old.net file t since queue past old.registers lines → BreaksCycle old file past t event → t < cycles → IsBroken old.net cycles file t event
run_broken old file cycles t since queue past lines event so_far breaks less = (
  less,
  so_far.ins ++ breaks.ins ∷ [],
  so_far.run ++ breaks.values ∷ [],
  so_far.clean (breaks.ins ∷ []) (breaks.clean, tt),
  so_far.runs (breaks.ins ∷ []) (breaks.values ∷ []) (breaks.settled, refl),
  so_far.breaks (breaks.values ∷ []) t event (refl, breaks.breaks),
)

cycle_known : (net : Netlist) (t : ℕ) (lines : List TraceLine) (labels : List Label) (rest : List TraceLine) → AreLines net t lines labels → AllByRecursion (λ (line : TraceLine). line.event < length (events_of net)) rest → AllByRecursion (λ (line : TraceLine). line.event < length (events_of net)) (lines ++ rest)
cycle_known net t [] labels rest h known = known
cycle_known net t (x ∷ lines) [] rest h known = absurd h
cycle_known net t (x ∷ lines) (l ∷ labels) rest h known = (slice_get_within (events_of net) x.event h.1.event h.1.there, cycle_known net t lines labels rest h.2 known)

lines_known : (net : Netlist) (t : ℕ) (vs : List Numbers) (lines : List TraceLine) → LinesFrom net t vs lines → AllByRecursion (λ (line : TraceLine). line.event < length (events_of net)) lines
lines_known net t [] lines h = subst (AllByRecursion (λ (line : TraceLine). line.event < length (events_of net))) (sym h) tt
lines_known net t (v ∷ vs) lines h =
    subst (AllByRecursion (λ (line : TraceLine). line.event < length (events_of net))) (sym h.2)
    (cycle_known net t h.0 (outputs net v ++ inputs net v) h.1 h.3 (lines_known net (suc t) vs h.1 h.4))

-- the events of a trace are events of the netlist
pub trace_known : (net : Netlist) (cycles : ℕ) (file : List Entry) (trace : Trace) → IsTraced net cycles file trace → All (λ line. line.event < length (events_of net)) trace.lines.items
trace_known net cycles file trace traced =
    All-from_recursion (λ (line : TraceLine). line.event < length (events_of net)) trace.lines.items (lines_known net 0 traced.run trace.lines.items traced.lines)

-- the run up to cycle t, with the simulator and the board as they are
pub record IsUnderWay (sim : Simulator) (file : List Entry) (t since : ℕ) (queue : List Entry) (board : Board) (lines : List TraceLine) : Type 0 where
  pub past : List Label
  pub driven : IsDrivenTo sim.net file t since queue past sim.registers lines
  pub rests : Rests sim.net past board
  pub left : All (GivesInput sim.net) queue

pub begins_run : (sim : Simulator) (file : List Entry) (board : Board) (queue : List Entry) → sim ≡ at_reset sim.net → All (GivesInput sim.net) file → queue ≡ next_entries file → Rests sim.net [] board → IsUnderWay sim file 0 0 queue board []
begins_run sim file board queue reset known is rests =
    record {
      past = [];
      driven =
          subst (λ (es : List Entry). IsDrivenTo sim.net file 0 0 es [] sim.registers []) (sym is)
          (not_begun sim.net file sim.registers (ap (λ (s : Simulator). s.registers) reset));
      rests = rests;
      left = subst (All (GivesInput sim.net)) (sym is) (next_known sim.net file known);
    }

pub goes_on : (old new : Simulator) (file : List Entry) (t since : ℕ) (queue : List Entry) (old_board board : Board) (lines lines1 : List TraceLine) (last : ℕ) (rest : List Entry)
    → new.net ≡ old.net → (so_far : IsUnderWay old file t since queue old_board lines)
    → RunsCycle old file so_far.past t since queue last rest new board
    → AddsLines old.net t (labels_of old.net.ports (outputs_of old.net) board.outputs.items ++ labels_of old.net.ports (inputs_of old.net) board.inputs.items) lines lines1
    → IsUnderWay new file (t + 1) last rest board lines1
goes_on old new file t since queue old_board board lines lines1 last rest same so_far cycle adds =
    let shown : AddsLines old.net t (outputs old.net cycle.values ++ inputs old.net cycle.values) lines lines1 =
    subst (λ (ls : List Label). AddsLines old.net t ls lines lines1) (λ i. cycle.outputs_are i ++ cycle.inputs_are i) adds in
    let more = driven_more old new file t since queue so_far.past lines lines1 last rest board so_far.driven cycle shown in
    record {
      past = cycle.came;
      driven = subst (λ (net : Netlist). IsDrivenTo net file (t + 1) last rest cycle.came new.registers lines1) (sym same) more;
      rests = subst (λ (net : Netlist). Rests net cycle.came board) (sym same) cycle.rests;
      left = subst (λ (net : Netlist). All (GivesInput net) rest) (sym same) cycle.left;
    }

-- the board has a pulse for each event
pub has_inputs : (net : Netlist) (past : List Label) (board : Board) → Rests net past board → HavePulses net true board.slots.items board.inputs.items
has_inputs net past board rests = record { slots_of = rests.slots; each = rests.inputs }

pub has_outputs : (net : Netlist) (past : List Label) (board : Board) → Rests net past board → HavePulses net false board.slots.items board.outputs.items
has_outputs net past board rests = record { slots_of = rests.slots; each = rests.outputs }

-- the trace at the end of the run
pub way_traced : (net : Netlist) (sim : Simulator) (file all : List Entry) (cycles t since : ℕ) (queue : List Entry) (board : Board) (trace : Trace)
    → sim.net ≡ net → file ≡ all → t ≡ cycles → trace.cycles ≡ cycles → trace.unused ≡ length queue → IsUnderWay sim file t since queue board trace.lines.items → IsTraced net cycles all trace
way_traced net sim file all cycles t since queue board trace same is done count unused way =
    let driven = subst (λ (n : ℕ). IsDrivenTo sim.net file n since queue way.past sim.registers trace.lines.items) done way.driven in
    subst (λ (es : List Entry). IsTraced net cycles es trace) is
    (subst (λ (m : Netlist). IsTraced m cycles file trace) same
    (all_driven sim.net file cycles since queue way.past sim.registers trace.lines.items trace driven count refl unused))
