-- The parts of a cycle together: the values settle, and the registers after it are the next ones.
use Rattle.std.specs.Prelude.{◌≡◌, ◌≢◌, ℕ, ◌<◌, Bool, true, false, IsTrue, ◌⊎◌, List, [], ◌∷◌, Option, Some, None, length, map, get_or, replicate, take, nat_eq, All, slice_get}
use Rattle.std.specs.Option.{option_map}
use Rattle.std.proofs.Common.{refl, sym, ◌∙◌, ap, subst, inl, inr}
use Rattle.std.proofs.lemmas.List.{length-map, get_or-replicate, ext_get_or}
use Rattle.std.proofs.lemmas.List.Elements.{All-weaker, All-head, All-tail}
use Rattle.std.proofs.lemmas.Option.{slice_get-map, slice_get-get_or, slice_get_within, get_or_from_slice_get}
use Rattle.gos_netlist.specs.Nets.{Function, Input, Reg, Cell, Netlist}
use Rattle.gos_netlist.specs.Cycles.{IsRegister}
use Rattle.gos_netlist.specs.Settling.{Numbers, at, shown, Settling, next_of, next_registers}
use Rattle.gos_netlist.specs.Seen.{function_of}
use Rattle.gos_sim.specs.declared.event_nets.EventNets.{EventNets}
use Rattle.gos_sim.specs.declared.pulse.Pulse.{Pulse}
use Rattle.gos_sim.specs.declared.program.Step.{Step}
use Rattle.gos_sim.specs.declared.program.Latch.{Latch}
use Rattle.gos_sim.specs.EventNets.{OnNumber, OnNets, Names, input_events, output_events}
use Rattle.gos_sim.specs.Cycle.{GivesAll, IsCycle, IsNextOutput, number_shown, pulse_shown}
use Rattle.gos_sim.specs.inner.Program.{IsStepOf, IsProgram, IsLatchOf, AreLatches, cell_of_step, is_source, latches_at}
use Rattle.gos_sim.specs.inner.Running.{AreShown, AreLoaded, AreTaken, HaveOnePin, KeepsOtherSteps, KeepsOthers}
use Rattle.gos_sim.specs.inner.Ready.{AreApart, IsInputNet, IsReady, IsRegisterNet}
use Rattle.gos_sim.specs.inner.Machine.{HoldNothingElse, IsPlan, IsRunnable, Plan, RunsThrough, SettlesAtReset}
use Rattle.gos_sim.specs.Visits.{IsZeroSettling}
use Rattle.gos_sim.proofs.PlaceLemmas.{all_at, same_element, place_of}
use Rattle.gos_sim.proofs.SourceLemmas.{input_or_register, shown_inside, register_or_not}
use Rattle.gos_sim.proofs.ProgramLemmas.{one_cell}
use Rattle.gos_sim.proofs.GiveLemmas.{kept_given}

-- the net of a source is no step's
no_step : (cells : List Cell) (steps : List Step) (n : ℕ) (c : Cell) → IsProgram cells steps → slice_get cells n ≡ Some c → IsTrue (is_source c.gate)
    → All (λ s. s.net ≢ n) steps
no_step cells steps n c program is source = All-weaker (IsStepOf cells) (λ (s : Step). s.net ≢ n) differs steps program.sound
  where
    differs : (s : Step) → IsStepOf cells s → s.net ≢ n
    differs s step same =
        let one : cell_of_step s ≡ c = same_element cells n (cell_of_step s) c (subst (λ (k : ℕ). slice_get cells k ≡ Some (cell_of_step s)) same step.0) is in
        let no : true ≡ false = sym source ∙ (sym (ap (λ (e : Cell). is_source e.gate) one) ∙ step.1) in
        absurd (cc)

-- the net of a cell that is no register is no latch's
no_latch : (cells : List Cell) (latches : List Latch) (n : ℕ) (c : Cell) → AreLatches cells latches → slice_get cells n ≡ Some c → (IsRegister c.gate → ⊥)
    → All (λ l. l.net ≢ n) latches
no_latch cells latches n c latched is other = All-weaker (IsLatchOf cells) (λ (l : Latch). l.net ≢ n) differs latches latched.sound
  where
    differs : (l : Latch) → IsLatchOf cells l → l.net ≢ n
    differs l (w, at_l) same =
        let one : record { width = w; gate = Reg l.pin } ≡ c = same_element cells n (record { width = w; gate = Reg l.pin }) c (subst (λ (k : ℕ). slice_get cells k ≡ Some (record { width = w; gate = Reg l.pin })) same at_l) is in
        other (subst (λ (e : Cell). IsRegister e.gate) one (l.pin, refl))

-- the values after the steps are a settling, in which the inputs are the values before them
pub settled : (cells : List Cell) (steps : List Step) (latches : List Latch) (registers before values : Numbers)
    → IsProgram cells steps → AreLatches cells latches → AreLoaded latches registers before → AreShown steps values → KeepsOtherSteps steps before values
    → length values ≡ length cells → Settling cells registers before values
settled cells steps latches registers before values program latched loaded all_shown kept each =
    (each, λ n c is. by_test n c is (is_source c.gate) refl)
  where
    source : (n : ℕ) (c : Cell) → slice_get cells n ≡ Some c → (c.gate ≡ Input) ⊎ IsRegister c.gate → at before n ≡ shown c.width c.gate (at registers n) (at before n) (at values)
    source n c is (inl input) = sym (ap (λ (f : Function). shown c.width f (at registers n) (at before n) (at values)) input)
    source n c is (inr (a, register)) =
        let (l, has, same) = latched.whole n a c is register in
        let (j, at_j) = place_of latches l has in
        let held : at before n ≡ at registers n = subst (λ (k : ℕ). at before k ≡ at registers k) same (loaded j l at_j) in
        held ∙ sym (ap (λ (f : Function). shown c.width f (at registers n) (at before n) (at values)) register)

    by_test : (n : ℕ) (c : Cell) → slice_get cells n ≡ Some c → (t : Bool) → is_source c.gate ≡ t → at values n ≡ shown c.width c.gate (at registers n) (at before n) (at values)
    by_test n c is true e = kept n (no_step cells steps n c program is e) ∙ source n c is (input_or_register c.gate e)
    by_test n c is false e =
        let (s, has, same) = program.whole n c is e in
        let (j, at_j) = place_of steps s has in
        let step : IsStepOf cells s = all_at (IsStepOf cells) steps j s program.sound at_j in
        let one : cell_of_step s ≡ c = same_element cells n (cell_of_step s) c (subst (λ (k : ℕ). slice_get cells k ≡ Some (cell_of_step s)) same step.0) is in
        let here : at values n ≡ shown s.width (function_of s.gate) 0 0 (at values) = subst (λ (k : ℕ). at values k ≡ shown s.width (function_of s.gate) 0 0 (at values)) same (all_shown j s at_j) in
        here ∙ (ap (λ (d : Cell). shown d.width d.gate 0 0 (at values)) one ∙ shown_inside c.width c.gate (at registers n) (at before n) (at values) e)

-- what pulses give is kept when the registers are loaded
pub given_loaded : (cells : List Cell) (latches : List Latch) (events : List EventNets) (pulses : List Pulse) (v w : Numbers)
    → AreLatches cells latches → All (OnNets (IsInputNet cells)) events → KeepsOthers latches v w → GivesAll events pulses v → GivesAll events pulses w
given_loaded cells latches events pulses v w latched inputs kept given = λ k e p at_e at_p.
    kept_given v w e p (λ a names. kept a (free a (named e a (all_at (OnNets (IsInputNet cells)) events k e inputs at_e) names))) (given k e p at_e at_p)
  where
    free : (a : ℕ) → IsInputNet cells a → All (λ l. l.net ≢ a) latches
    free a (c, is, input) = no_latch cells latches a c latched is (λ (b, register). let no : Input ≡ Reg b = sym input ∙ register in cc)

    named : (e : EventNets) (a : ℕ) → OnNets (IsInputNet cells) e → Names e a → IsInputNet cells a
    named e a on (inl same) = subst (IsInputNet cells) (sym same) on.0
    named e a on (inr is) = subst (OnNumber (IsInputNet cells)) is on.1

same_pin : (a b : ℕ) → Reg a ≡ Reg b → a ≡ b
same_pin a b e = cc

-- latches of one net have one pin
pub one_pin : (cells : List Cell) (latches : List Latch) → AreLatches cells latches → HaveOnePin latches
one_pin cells latches latched = λ j k l m at_j at_k same. by_cells l m same (all_at (IsLatchOf cells) latches j l latched.sound at_j) (all_at (IsLatchOf cells) latches k m latched.sound at_k)
  where
    by_cells : (l m : Latch) → l.net ≡ m.net → IsLatchOf cells l → IsLatchOf cells m → l.pin ≡ m.pin
    by_cells l m same (w, at_l) (u, at_m) =
        let one : record { width = w; gate = Reg l.pin } ≡ record { width = u; gate = Reg m.pin } = same_element cells m.net (record { width = w; gate = Reg l.pin }) (record { width = u; gate = Reg m.pin }) (subst (λ (k : ℕ). slice_get cells k ≡ Some (record { width = w; gate = Reg l.pin })) same at_l) at_m in
        same_pin l.pin m.pin (ap (λ (c : Cell). c.gate) one)

-- the registers that take over are the next ones
pub next_taken : (cells : List Cell) (latches : List Latch) (values old new : Numbers) → AreLatches cells latches → HoldNothingElse cells old
    → AreTaken latches values new → KeepsOthers latches old new → length new ≡ length cells → new ≡ next_registers cells values
next_taken cells latches values old new latched nothing taken kept each =
    ext_get_or 0 new (next_registers cells values) (each ∙ sym (length-map cells (λ c. next_of c.gate values)))
    (λ n below. at_cell n (subst (λ (m : ℕ). n < m) each below))
  where
    by_cell : (n : ℕ) (c : Cell) → slice_get cells n ≡ Some c → IsRegister c.gate ⊎ ((IsRegister c.gate → ⊥) × ((v : Numbers) → next_of c.gate v ≡ 0) × ((n : ℕ) → latches_at n c.gate ≡ []))
        → at new n ≡ next_of c.gate values
    by_cell n c is (inl (a, register)) =
        let (l, has, same) = latched.whole n a c is register in
        let (j, at_j) = place_of latches l has in
        let there : IsLatchOf cells l = all_at (IsLatchOf cells) latches j l latched.sound at_j in
        let one : record { width = there.0; gate = Reg l.pin } ≡ c = same_element cells n (record { width = there.0; gate = Reg l.pin }) c (subst (λ (k : ℕ). slice_get cells k ≡ Some (record { width = there.0; gate = Reg l.pin })) same there.1) is in
        let here : at new n ≡ at values l.pin = subst (λ (k : ℕ). at new k ≡ at values l.pin) same (taken j l at_j) in
        here ∙ ap (λ (d : Cell). next_of d.gate values) one
    by_cell n c is (inr other) = kept n (no_latch cells latches n c latched is other.0) ∙ (nothing n c is other.0 ∙ sym (other.1 values))

    next_at : (n : ℕ) (c : Cell) → slice_get cells n ≡ Some c → at (next_registers cells values) n ≡ next_of c.gate values
    next_at n c is = get_or_from_slice_get (next_registers cells values) n (next_of c.gate values) 0 (slice_get-map (λ (c : Cell). next_of c.gate values) cells n ∙ ap (option_map (λ (c : Cell). next_of c.gate values)) is)

    any : Cell
    any = record { width = 0; gate = Input }

    at_cell : (n : ℕ) → n < length cells → at new n ≡ at (next_registers cells values) n
    at_cell n below =
        let is = slice_get-get_or cells n any below in
        by_cell n (get_or cells n any) is (register_or_not (get_or cells n any).gate) ∙ sym (next_at n (get_or cells n any) is)

-- and a cell that is no register still holds 0
pub nothing_else : (cells : List Cell) (latches : List Latch) (old new : Numbers) → AreLatches cells latches → HoldNothingElse cells old → KeepsOthers latches old new
    → HoldNothingElse cells new
nothing_else cells latches old new latched nothing kept = λ n c is other. kept n (no_latch cells latches n c latched is other) ∙ nothing n c is other

-- nothing is held at reset
pub nothing_at_reset : (cells : List Cell) → HoldNothingElse cells (replicate (length cells) 0)
nothing_at_reset cells = λ n c is other. get_or-replicate (length cells) n 0 0 (slice_get_within cells n c is)

-- registers show what they hold
pub registers_shown : (cells : List Cell) (registers ins v : Numbers) (events : List EventNets) → Settling cells registers ins v → All (OnNets (IsRegisterNet cells)) events
    → map (pulse_shown registers) events ≡ map (pulse_shown v) events
registers_shown cells registers ins v [] settles all = refl
registers_shown cells registers ins v (e ∷ es) settles all =
    let first : pulse_shown registers e ≡ pulse_shown v e = one e (All-head (OnNets (IsRegisterNet cells)) e es all) in
    let others = registers_shown cells registers ins v es settles (All-tail (OnNets (IsRegisterNet cells)) e es all) in
    (λ i. first i ∷ others i)
  where
    shows : (a : ℕ) → IsRegisterNet cells a → at registers a ≡ at v a
    shows a (c, is, (b, register)) = sym (settles.1 a c is ∙ ap (λ (f : Function). shown c.width f (at registers a) (at ins a) (at v)) register)

    number : (o : Option ℕ) → OnNumber (IsRegisterNet cells) o → number_shown registers o ≡ number_shown v o
    number None on = refl
    number (Some x) on = shows x on

    one : (e : EventNets) → OnNets (IsRegisterNet cells) e → pulse_shown registers e ≡ pulse_shown v e
    one e on = λ i. record { on = nat_eq (shows e.pulse on.0 i) 1; value = number e.number on.1 i }

-- a cycle that is run through
pub cycle_of : (net : Netlist) (m : Plan) (held values after : Numbers) (settlings : List Numbers) (inputs outputs : List Pulse)
    → IsPlan net m → HoldNothingElse net.cells held → RunsThrough m inputs held values outputs after
    → length values ≡ length net.cells → length after ≡ length net.cells
    → IsCycle (record { net = net; registers = held; settlings = settlings }) inputs outputs (record { net = net; registers = after; settlings = values ∷ take 1 settlings })
cycle_of net m held values after settlings inputs outputs plan nothing run values_each after_each =
    let settles = run.settles in
    let all_inputs : All (OnNets (IsInputNet net.cells)) m.inputs = subst (λ (es : List EventNets). All (OnNets (IsInputNet net.cells)) es) (sym plan.inputs) plan.ready.inputs in
    let now_given : GivesAll m.inputs inputs settles.loaded = given_loaded net.cells m.latches m.inputs inputs settles.first settles.loaded plan.latched all_inputs settles.others settles.pulses in
    let next : after ≡ next_registers net.cells values = next_taken net.cells m.latches values held after plan.latched nothing run.taken run.rest after_each in
    record {
      ins = settles.loaded;
      values = values;
      inputs = subst (λ (es : List EventNets). GivesAll es inputs settles.loaded) plan.inputs now_given;
      settled = settled net.cells m.steps m.latches held settles.loaded values plan.program plan.latched settles.registers settles.evaluated settles.sources values_each;
      outputs = run.shows ∙ ap (map (pulse_shown values)) plan.outputs;
      registers = ap (λ (regs : Numbers). record { net = net; registers = regs; settlings = values ∷ take 1 settlings }) next;
    }

-- what the registers show is what every settling shows
pub next_output : (net : Netlist) (m : Plan) (held : Numbers) (settlings : List Numbers) (outputs : List Pulse)
    → IsPlan net m → outputs ≡ map (pulse_shown held) m.outputs
    → IsNextOutput (record { net = net; registers = held; settlings = settlings }) outputs
next_output net m held settlings outputs plan shows = λ given v settles.
    shows ∙ (ap (map (pulse_shown held)) plan.outputs ∙ registers_shown net.cells held given v (output_events net) settles plan.ready.outputs)

-- a fact of an event's nets that gives another one
on_nets : (P Q : ℕ → Type 0) → ((a : ℕ) → P a → Q a) → (e : EventNets) → OnNets P e → OnNets Q e
on_nets P Q gives e on = (gives e.pulse on.0, number e.number on.1)
  where
    number : (o : Option ℕ) → OnNumber P o → OnNumber Q o
    number None h = tt
    number (Some x) h = gives x h

-- the nets of events are cells
events_within : (net : Netlist) (P : ℕ → Type 0) → ((a : ℕ) → P a → a < length net.cells) → (es : List EventNets) → All (OnNets P) es
    → All (OnNets (λ a. a < length net.cells)) es
events_within net P below es all = All-weaker (OnNets P) (OnNets (λ a. a < length net.cells)) (on_nets P (λ a. a < length net.cells) below) es all

pub inputs_within : (net : Netlist) → IsReady net → All (OnNets (λ a. a < length net.cells)) (input_events net)
inputs_within net ready = events_within net (IsInputNet net.cells) (λ a (c, is, input). slice_get_within net.cells a c is) (input_events net) ready.inputs

pub outputs_within : (net : Netlist) → IsReady net → All (OnNets (λ a. a < length net.cells)) (output_events net)
outputs_within net ready = events_within net (IsRegisterNet net.cells) (λ a (c, is, register). slice_get_within net.cells a c is) (output_events net) ready.outputs

-- a netlist's plan can run over its nets
pub runnable : (net : Netlist) (m : Plan) → IsPlan net m → IsRunnable (length net.cells) m
runnable net m plan =
    record {
      inputs = subst (All (OnNets (λ a. a < length net.cells))) (sym plan.inputs) (inputs_within net plan.ready);
      outputs = subst (All (OnNets (λ a. a < length net.cells))) (sym plan.outputs) (outputs_within net plan.ready);
      apart = subst AreApart (sym plan.inputs) plan.ready.apart;
      ordered = plan.program.ordered;
      one_cell = one_cell net.cells m.steps plan.program.sound;
      steps = plan.steps_within;
      latches = plan.latches_within;
      one_pin = one_pin net.cells m.latches plan.latched;
      inputs_apart_from_steps = λ j e a at_j names. free a (input_at j e a at_j names);
      inputs_apart_from_latches = λ j e a at_j names. beside a (input_at j e a at_j names);
      apart_from_steps = λ j l at_j. at_latch l (all_at (IsLatchOf net.cells) m.latches j l plan.latched.sound at_j);
    }
  where
    named : (e : EventNets) (a : ℕ) → OnNets (IsInputNet net.cells) e → Names e a → IsInputNet net.cells a
    named e a on (inl same) = subst (IsInputNet net.cells) (sym same) on.0
    named e a on (inr is) = subst (OnNumber (IsInputNet net.cells)) is on.1

    input_at : (j : ℕ) (e : EventNets) (a : ℕ) → slice_get m.inputs j ≡ Some e → Names e a → IsInputNet net.cells a
    input_at j e a at_j names =
        named e a
        (all_at (OnNets (IsInputNet net.cells)) (input_events net) j e plan.ready.inputs (subst (λ (es : List EventNets). slice_get es j ≡ Some e) plan.inputs at_j)) names

    beside : (a : ℕ) → IsInputNet net.cells a → All (λ l. l.net ≢ a) m.latches
    beside a (c, is, input) = no_latch net.cells m.latches a c plan.latched is (λ (b, register). let no : Input ≡ Reg b = sym input ∙ register in cc)

    free : (a : ℕ) → IsInputNet net.cells a → All (λ s. s.net ≢ a) m.steps
    free a (c, is, input) = no_step net.cells m.steps a c plan.program is (ap is_source input)

    at_latch : (l : Latch) → IsLatchOf net.cells l → All (λ s. s.net ≢ l.net) m.steps
    at_latch l (w, is) = no_step net.cells m.steps l.net (record { width = w; gate = Reg l.pin }) plan.program is refl

-- the values that settle at reset are a settling
pub zero_settling : (net : Netlist) (m : Plan) (values : Numbers) → IsPlan net m → SettlesAtReset m values → length values ≡ length net.cells
    → IsZeroSettling net.cells values
zero_settling net m values plan settles each =
    let zeros : Numbers = replicate (length net.cells) 0 in
    let Sources : ℕ → Type 0 = λ n. KeepsOtherSteps m.steps (replicate n 0) values in
    settled net.cells m.steps m.latches zeros zeros values plan.program plan.latched (λ j l at_j. refl) settles.evaluated
    (subst Sources each settles.sources) each
