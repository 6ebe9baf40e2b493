-- The text of a run's trace is that of its labels, and what a build leaves in its trace file is the one of its program's ports.
use Rattle.std.specs.Prelude.{◌≡◌, ◌<◌, ◌≤◌, ◌+◌, ◌++◌, ◌∷◌, [], ℕ, zero, suc, List, Option, Some, None, codes, length, map, replicate, slice_get}
use Rattle.std.specs.List.{AllByRecursion, flat_map}
use Rattle.std.specs.FinMap.{insert}
use Rattle.std.specs.Fmt.{decimal}
use Rattle.std.proofs.Common.{refl, sym, ◌∙◌, ap, subst, arith, append_assoc}
use Rattle.std.proofs.lemmas.Grind.{flat_map-append}
use Rattle.std.proofs.lemmas.List.{map-append}
use Rattle.std.proofs.lemmas.List.Concat.{flat_map-cons}
use Rattle.gos_outside.specs.Files.{Files, bytes_at}
use Rattle.gos_lex.specs.Lines.{Statement, Word, statements_of}
use Rattle.gos_syntax.specs.Modules.{SeenModule}
use Rattle.gos_netlist.specs.Nets.{Cell, NetPort, Netlist}
use Rattle.gos_netlist.specs.NetText.{line}
use Rattle.gos_netlist.specs.Settling.{Numbers, RunFrom, at, next_registers}
use Rattle.gos_netcheck.specs.Accepted.{IsAccepted}
use Rattle.gos_netcheck.specs.CellRules.{widths_of}
use Rattle.gos_model.specs.Labels as shown
use Rattle.gos_model.specs.Typing.{Imported, Imports}
use Rattle.gos_model.specs.Moves.{Program}
use Rattle.gos_pace.specs.Flattening.{outputs, inputs}
use Rattle.gos_pace.specs.Silence.{InputsAreClean}
use Rattle.gos_plan.specs.Seen.{SeenPlan}
use Rattle.gos_pulse.specs.PulseFile.{SaysPulses}
use Rattle.gos_pulse.specs.Entries.{IsRunLength}
use Rattle.gos_pulse.specs.Traced.{AreLines, IsTraced, LinesFrom}
use Rattle.gos_pulse.specs.TraceText.{pulse_line, trace_text}
use Rattle.gos_pulse.specs.declared.entries.Entry.{Entry}
use Rattle.gos_pulse.specs.declared.trace.Trace.{Trace}
use Rattle.gos_pulse.specs.declared.trace.TraceLine.{TraceLine}
use Rattle.gos_link.specs.Linked as links
use Rattle.gos_link.specs.Linked.{plans_of}
use Rattle.gos_tidy.proofs.NarrowLemmas.{AreNarrow, next_are_narrow, values_are_narrow, zeros_are_narrow}
use Rattle.gos_witness.specs.declared.labels.Label.{Label}
use Rattle.gos_witness.specs.declared.program.ProgramPort.{ProgramPort}
use Rattle.gos_witness.specs.Ports.{ArePorts, imported, label_of, labels_of}
use Rattle.gos_witness.specs.Substituted.{outcome_if}
use Rattle.gos_witness.specs.TraceText.{IsTraceTextOf, LinesText, label_line}
use Rattle.gos_command.specs.declared.report.Counts.{Counts}
use Rattle.gos_tool.specs.circuits.Circuit.{Face, face_of, taken_face}
use Rattle.gos_tool.specs.simulate.Simulation.{LeavesTrace}
use Rattle.gos_tool.specs.build.Objects.{HavePlans}
use Rattle.gos_tool.specs.explained.Traces.{BuiltTraceIsRead, links_of, run_labels}
use Rattle.gos_tool.proofs.lemmas.build.HeadlineLemmas.{found_last}
use Rattle.gos_tool.proofs.lemmas.explained.EventLemmas.{IsShown, cycle_shown, is_read, net_face, read}
use Rattle.gos_tool.proofs.lemmas.explained.FaceLemmas.{same_program}

-- in each cycle of a run the nets are narrow
abbrev AreAllNarrow : List Cell → List Numbers → Type 0
AreAllNarrow cells vs = AllByRecursion (λ v. AreNarrow (widths_of cells) (at v)) vs

run_narrow : (net : Netlist) → IsAccepted net → (regs : Numbers) (ins vs : List Numbers) → AreNarrow (widths_of net.cells) (at regs)
    → InputsAreClean net ins → RunFrom net.cells regs ins vs → AreAllNarrow net.cells vs
run_narrow net accepted regs [] vs held clean run = subst (AreAllNarrow net.cells) (sym run) tt
run_narrow net accepted regs (i ∷ ins) [] held clean run = absurd run
run_narrow net accepted regs (i ∷ ins) (v ∷ vs) held (one, clean) (settles, run) =
    let here = values_are_narrow net.cells accepted.acyclic accepted.widths regs i v settles held one.0 in
    (here, run_narrow net accepted (next_registers net.cells v) ins vs (next_are_narrow net.cells v accepted.widths here) clean run)

-- the last line
abbrev last : ℕ → List ℕ
last n = line (codes "cycles " ++ decimal n)

module _ (net : Netlist) (accepted : IsAccepted net) (ports : List ProgramPort) (are : ArePorts ports) (faces : map imported ports ≡ map net_face net.ports) where
  later : (from t n : ℕ) → from ≤ t → (os : List Label) (text : List ℕ) → LinesText ports t n os text → LinesText ports from n os text
  later from t n before [] text is = is
  later from t n before (o ∷ os) text (u, rest, after, low, label, more, e) = (u, rest, omega (arith, before, after), low, label, more, e)

  -- of one cycle
  cycle_text : (t n from : ℕ) (lines : List TraceLine) (labels : List shown.Label) → AreLines net t lines labels → AllByRecursion (IsShown net) labels
      → t < n → from ≤ t → (os : List Label) (rest : List ℕ) → LinesText ports t n os rest
      → LinesText ports from n (map (read net) lines ++ os) (flat_map (pulse_line net) lines ++ rest)
  cycle_text t n from [] [] are_lines all low before os rest is = later from t n before os rest is
  cycle_text t n from [] (l ∷ ls) are_lines all low before os rest is = absurd are_lines
  cycle_text t n from (x ∷ xs) [] are_lines all low before os rest is = absurd are_lines
  cycle_text t n from (x ∷ xs) (l ∷ ls) (cycle, pulse, are_lines) (one, all) low before os rest is =
      let said = is_read net accepted ports are faces x l pulse one in
      let here : pulse_line net x ≡ label_line ports t (read net x) = λ i. line (decimal (cycle i) ++ codes " " ++ said.text i) in
      let text : flat_map (pulse_line net) (x ∷ xs) ++ rest ≡ label_line ports t (read net x) ++ (flat_map (pulse_line net) xs ++ rest) =
      ap (λ (bytes : List ℕ). bytes ++ rest) (flat_map-cons (pulse_line net) x xs)
      ∙ (append_assoc (pulse_line net x) (flat_map (pulse_line net) xs) rest
      ∙ ap (λ (bytes : List ℕ). bytes ++ (flat_map (pulse_line net) xs ++ rest)) here) in
      (t, flat_map (pulse_line net) xs ++ rest, before, low, said.label, cycle_text t n t xs ls are_lines all low (omega arith) os rest is, text)

  cycle_labels : (t : ℕ) (lines : List TraceLine) (labels : List shown.Label) → AreLines net t lines labels → AllByRecursion (IsShown net) labels
      → labels_of ports (map (read net) lines) ≡ labels
  cycle_labels t [] [] are_lines all = refl
  cycle_labels t [] (l ∷ ls) are_lines all = absurd are_lines
  cycle_labels t (x ∷ xs) [] are_lines all = absurd are_lines
  cycle_labels t (x ∷ xs) (l ∷ ls) (cycle, pulse, are_lines) (one, all) =
      let said = is_read net accepted ports are faces x l pulse one in
      let rest = cycle_labels t xs ls are_lines all in
      λ i. said.same i ∷ rest i

  -- of the cycles from t on
  record AreRead (t n : ℕ) (vs : List Numbers) (lines : List TraceLine) : Type 0 where
    text : LinesText ports t n (map (read net) lines) (flat_map (pulse_line net) lines ++ last n)
    labels : labels_of ports (map (read net) lines) ≡ run_labels net vs

  are_read : (t n : ℕ) (vs : List Numbers) (lines : List TraceLine) → LinesFrom net t vs lines → AreAllNarrow net.cells vs → t + length vs ≡ n
      → AreRead t n vs lines
  are_read t n [] lines none all sum = subst (AreRead t n []) (sym none) (record { text = refl; labels = refl })
  are_read t n (v ∷ vs) lines (now, rest, is, here, from) (narrow, all) sum =
      let more = are_read (suc t) n vs rest from all (omega (arith, sum)) in
      let shows = cycle_shown net accepted v narrow in
      let labels : List shown.Label = outputs net v ++ inputs net v in
      let after = later t (suc t) n (omega arith) (map (read net) rest) (flat_map (pulse_line net) rest ++ last n) more.text in
      let all_text = cycle_text t n t now labels here shows (omega (arith, sum)) (omega arith) (map (read net) rest) (flat_map (pulse_line net) rest ++ last n) after in
      let seen : map (read net) (now ++ rest) ≡ map (read net) now ++ map (read net) rest = map-append (read net) now rest in
      let bytes : flat_map (pulse_line net) (now ++ rest) ++ last n ≡ flat_map (pulse_line net) now ++ (flat_map (pulse_line net) rest ++ last n) =
      ap (λ (text : List ℕ). text ++ last n) (flat_map-append (pulse_line net) now rest)
      ∙ append_assoc (flat_map (pulse_line net) now) (flat_map (pulse_line net) rest) (last n) in
      let first = cycle_labels t now labels here shows in
      let second = more.labels in
      subst (AreRead t n (v ∷ vs)) (sym is)
      (record {
        text = subst (λ (text : List ℕ). LinesText ports t n (map (read net) (now ++ rest)) text) (sym bytes)
            (subst (λ (os : List Label). LinesText ports t n os (flat_map (pulse_line net) now ++ (flat_map (pulse_line net) rest ++ last n))) (sym seen) all_text);
        labels =
            ap (labels_of ports) seen
            ∙ (map-append (label_of ports) (map (read net) now) (map (read net) rest) ∙ (λ i. first i ++ second i));
      })

  -- the whole text of a run under a pulse file
  pub trace_read : (n : ℕ) (file : List Entry) (trace : Trace) (traced : IsTraced net n file trace) → IsRunLength n
      → (labels : List Label) × IsTraceTextOf ports (trace_text net trace.lines.items n) labels × (labels_of ports labels ≡ run_labels net traced.run)
  trace_read n file trace traced long =
      let (ins, clean, run, size, drives) = traced.driven in
      let narrow = run_narrow net accepted (replicate (length net.cells) 0) ins traced.run (zeros_are_narrow (widths_of net.cells) (length net.cells)) clean run in
      let known = are_read 0 n traced.run trace.lines.items traced.lines narrow (omega (arith, size)) in
      let some = long.0 in
      (map (read net) trace.lines.items, (n, omega (arith, some), long.1, known.text), known.labels)

-- the faces of a circuit's ports
abbrev face_type : Face → Imported
face_type f = record { name = f.name; ty = f.ty }

of_faces : (ps : List NetPort) → map net_face ps ≡ map face_type (map face_of ps)
of_faces [] = refl
of_faces (p ∷ ps) = ap (λ (is : Imports). net_face p ∷ is) (of_faces ps)

of_taken : (is : Imports) → map face_type (map taken_face is) ≡ is
of_taken [] = refl
of_taken (i ∷ is) = ap (λ (js : Imports). i ∷ js) (of_taken is)

outcome_at : (ms : List SeenModule) (ps : List SeenPlan) (k : ℕ) → HavePlans ms ps → links.outcome_of (slice_get (plans_of ps) k) ≡ outcome_if (slice_get ms k)
outcome_at [] [] k have = refl
outcome_at [] (p ∷ ps) k have = absurd have
outcome_at (m ∷ ms) [] k have = absurd have
outcome_at (m ∷ ms) (p ∷ ps) zero have = have.0.made.outcome
outcome_at (m ∷ ms) (p ∷ ps) (suc k) have = outcome_at ms ps k have.1

-- a pulse file says how long its run is
run_length : (net : Netlist) (statements : List Statement) (n : ℕ) (entries : List Entry) → SaysPulses net statements n entries → IsRunLength n
run_length net [] n entries says = absurd says
run_length net (head ∷ rest) n entries says = says.1

-- what a simulation leaves
left_trace : (old : Option Files) (new : Files) (net : Netlist) (pulses trace : Word) (counts : Counts) (left : LeavesTrace old (Some new) net pulses trace counts)
    → (bytes_at new trace ≡ trace_text net left.run.lines.items counts.cycles) × IsRunLength counts.cycles
left_trace None new net pulses trace counts left = absurd (cc left.wrote)
left_trace (Some old) new net pulses trace counts left =
    let text : Word = trace_text net left.run.lines.items counts.cycles in
    let wrote : Some new ≡ Some (insert old trace text) = left.wrote in
    let same : new ≡ insert old trace text = cc wrote in (
      ap (λ (all : Files). bytes_at all trace) same ∙ found_last old trace text,
      run_length net (statements_of (bytes_at old pulses)) counts.cycles left.entries left.says.says,
    )

pub built_trace_is_read : BuiltTraceIsRead
built_trace_is_read files new own report built ports are is_face =
    let ms : List SeenModule = built.compiled.modules in
    let net : Netlist = built.built.net in
    let done = built.built.written in
    let circuit = done.written.circuit in
    let traced = built.built.traced in
    let outcome = done.linked.joining.outcome ∙ outcome_at ms built.plans done.linked.root built.compiled.written.plans in
    let imports = built.imports ∙ ap (λ (q : Program). q.imports) (same_program ms (links_of files new own report built)) in
    let names : map net_face net.ports ≡ record { name = built.build.root; ty = done.whole.outcome } ∷ done.whole.imports =
    of_faces net.ports
    ∙ (ap (λ (fs : List Face). map face_type fs) circuit.ports
    ∙ ap (λ (is : Imports). record { name = built.build.root; ty = done.whole.outcome } ∷ is) (of_taken done.whole.imports)) in
    let faces : map imported ports ≡ map net_face net.ports =
    is_face ∙ sym (names ∙ (λ i. record { name = built.build.root; ty = outcome i } ∷ imports i)) in
    let (text, long) = left_trace built.built.between new net built.build.pulses built.build.trace built.built.counts traced in
    let (labels, is, same) =
    trace_read net circuit.accepted ports are faces built.built.counts.cycles traced.entries traced.run traced.traced long in
    (labels, subst (λ (bytes : List ℕ). IsTraceTextOf ports bytes labels) (sym text) is, same)
