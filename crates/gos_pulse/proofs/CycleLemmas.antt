-- A cycle of a driven run.
use Rattle.std.proofs.Common.{◌≡◌, ◌<◌, ◌^◌, ℕ, zero, suc, false, List, [], ◌∷◌, ◌++◌, All, length, reverse, take, get_or, refl, sym, ap, subst, ◌∙◌, arith, Option, Some, None, inl, inr}
use Rattle.std.specs.Prelude.{slice_get}
use Rattle.std.proofs.lemmas.Option.{get_or_from_slice_get, slice_get-get_or, slice_get_within}
use Rattle.std.proofs.lemmas.List.{length-map}
use Rattle.gos_netlist.specs.declared.event.Event.{Event}
use Rattle.gos_netlist.specs.Nets.{Netlist}
use Rattle.gos_netlist.specs.Events.{events_of}
use Rattle.gos_netlist.specs.Settling.{Numbers, Settling}
use Rattle.gos_netlist.proofs.SettlingLemmas.{acyclic_settles}
use Rattle.gos_netcheck.specs.Accepted.{IsAccepted}
use Rattle.gos_model.specs.Labels.{Label}
use Rattle.gos_pace.specs.Flattening.{AnyOrder, inputs, outputs}
use Rattle.gos_sim.specs.declared.event_nets.EventNets.{EventNets}
use Rattle.gos_sim.specs.declared.pulse.Pulse.{Pulse}
use Rattle.gos_sim.specs.EventNets.{input_events, output_events}
use Rattle.gos_sim.specs.Cycle.{IsCycle, IsWord, Simulator, pulse_shown}
use Rattle.gos_pulse.specs.declared.board.Board.{Board}
use Rattle.gos_pulse.specs.declared.entries.Entry.{Entry}
use Rattle.gos_pulse.specs.Guarding.{Guards, inputs_of, outputs_of}
use Rattle.gos_pulse.specs.Driving.{BreaksAt, GivesIn, GivesInput, IsHeld, TakesAll, at_entries}
use Rattle.gos_pulse.specs.inner.Slots.{AreSlots, labels_of}
use Rattle.gos_pulse.specs.inner.Board.{AreInRange, Begins, HasSeen}
use Rattle.gos_pulse.specs.inner.Agenda.{AreTaken}
use Rattle.gos_pulse.specs.inner.Queue.{AreGiven}
use Rattle.gos_pulse.specs.inner.Running.{BreaksCycle, RunsCycle}
use Rattle.gos_pulse.proofs.EventLemmas.{AreRows, IsNumberNet, IsRow}
use Rattle.gos_pulse.proofs.RangeLemmas.{are_clean, none_are_clean}
use Rattle.gos_pulse.proofs.ShownLemmas.{input_rows, inputs_are, outputs_are, outputs_each}

-- a number that fits an event's net may be given to the netlist
is_word : (net : Netlist) (e : Event) (number : Option ℕ) (n : ℕ) → IsNumberNet net.cells e number → n < 2 ^ e.bits → IsWord net.cells n
is_word net e None n none fits = let low = subst (λ (b : ℕ). n < 2 ^ b) none fits in inl (omega (arith, low))
is_word net e (Some x) n (c, is, same, end) fits =
    inr (c, (x, slice_get_within net.cells x c is, get_or_from_slice_get net.cells x c c is), subst (λ (b : ℕ). n < 2 ^ b) (sym same) fits)

row_at : (net : Netlist) (es : List Event) (ns : List EventNets) (k : ℕ) (e : Event) → AreRows net es ns → slice_get es k ≡ Some e → (n : EventNets) × IsRow net e n
row_at net [] ns k e rows at = absurd (cc at)
row_at net (x ∷ es) [] k e rows at = absurd rows
row_at net (x ∷ es) (n ∷ ns) zero e rows at = let same : x ≡ e = cc in (n, subst (λ (y : Event). IsRow net y n) same rows.0)
row_at net (x ∷ es) (n ∷ ns) (suc k) e rows at = row_at net es ns k e rows.1 at

-- so may those of inputs
pub are_words : (net : Netlist) (given : List Pulse) → IsAccepted net → length given ≡ length (inputs_of net) → AreInRange (inputs_of net) given
    → All (λ p. IsWord net.cells p.value) given
are_words net given accepted each range = λ k d less.
    let none : Event = record { port = 0; place = 0; input = false; bits = 0 } in
    let at_event = slice_get-get_or (inputs_of net) k none (omega (arith, less, each)) in
    let event : Event = get_or (inputs_of net) k none in
    let fits = (range k event (get_or given k d) at_event (slice_get-get_or given k d less)).0 in
    let row = row_at net (inputs_of net) (input_events net) k event (input_rows net accepted) at_event in
    is_word net event row.0.number (get_or given k d).value row.1.number fits

module _ (old : Simulator) (past : List Label) (board : Board) (accepted : IsAccepted old.net) (begins : Begins old past board) where
  -- what was seen are the outputs of every settling
  pub seen_is : (ins v : Numbers) → Settling old.net.cells old.registers ins v → labels_of old.net.ports (outputs_of old.net) board.outputs.items ≡ outputs old.net v
  seen_is ins v settles =
      ap (labels_of old.net.ports (outputs_of old.net)) (begins.next ins v settles) ∙ sym (outputs_are old.net v accepted)

  -- the run is broken
  pub broken : (file : List Entry) (t event : ℕ) → BreaksAt old.net (reverse (labels_of old.net.ports (outputs_of old.net) board.outputs.items) ++ past) (at_entries t file) event → BreaksCycle old file past t event
  broken file t event breaks =
      let settles = acyclic_settles old.net.cells old.registers [] accepted.acyclic in
      record {
        ins = [];
        values = settles.0;
        settled = settles.1;
        clean = none_are_clean old.net;
        breaks = subst (λ (ls : List Label). BreaksAt old.net (reverse ls ++ past) (at_entries t file) event) (seen_is [] settles.0 settles.1) breaks;
      }

module _ (old : Simulator) (past : List Label) (board : Board) (accepted : IsAccepted old.net) where
  -- the cycle is run, and its outputs are those that were seen
  pub ran : (file : List Entry) (t since : ℕ) (queue : List Entry) (mid last_board : Board) (last : ℕ) (rest : List Entry) (shown : List Pulse) (new : Simulator)
      → (taken : AreTaken old.net (reverse (labels_of old.net.ports (outputs_of old.net) board.outputs.items) ++ past) (at_entries t file) mid)
      → AreGiven old.net (reverse (labels_of old.net.ports (outputs_of old.net) board.outputs.items) ++ past) taken.taken t since queue last rest last_board
      → (cycle : IsCycle old last_board.inputs.items shown new) → labels_of old.net.ports (outputs_of old.net) board.outputs.items ≡ outputs old.net cycle.values
      → (end : Board) → end.guard ≡ last_board.guard → end.slots ≡ last_board.slots → end.inputs ≡ last_board.inputs → end.outputs.items ≡ shown
      → RunsCycle old file past t since queue last rest new end
  ran file t since queue mid last_board last rest shown new taken given cycle seen end guard slots ins_same outs =
      let came : List Label = reverse (taken.taken ++ given.labels) ++ (reverse (labels_of old.net.ports (outputs_of old.net) board.outputs.items) ++ past) in
      let are : inputs old.net cycle.values ≡ labels_of old.net.ports (inputs_of old.net) last_board.inputs.items =
      inputs_are old.net old.registers cycle.ins cycle.values last_board.inputs.items accepted cycle.settled given.stands.rests.inputs cycle.inputs given.stands.in_range in
      let each : length shown ≡ length (outputs_of old.net) =
      ap length cycle.outputs ∙ length-map (output_events old.net) (pulse_shown cycle.values) ∙ sym (outputs_each old.net accepted) in
      record {
        ins = cycle.ins;
        values = cycle.values;
        came = came;
        settled = cycle.settled;
        clean = are_clean old.net cycle.ins last_board.inputs.items accepted given.stands.rests.inputs cycle.inputs given.stands.in_range;
        registers = ap (λ (s : Simulator). s.registers) cycle.registers;
        newest = ap (λ (s : Simulator). take 1 s.settlings) cycle.registers;
        goes = record {
          taken = taken.taken;
          given = given.labels;
          takes = subst (λ (ls : List Label). TakesAll old.net (reverse ls ++ past) (at_entries t file) taken.taken) seen taken.takes;
          gives = subst (λ (ls : List Label). GivesIn old.net (reverse taken.taken ++ (reverse ls ++ past)) t since queue given.labels last rest) seen given.gives;
          inputs = subst (AnyOrder (taken.taken ++ given.labels)) (sym are) given.stands.order;
          after = ap (λ (ls : List Label). reverse (taken.taken ++ given.labels) ++ (reverse ls ++ past)) seen;
        };
        rests = record {
          slots = subst (λ s. AreSlots (events_of old.net) s.items) (sym slots) given.stands.rests.slots;
          guards = subst (Guards old.net came) (sym guard) given.stands.rests.guards;
          inputs = ap (λ v. length v.items) ins_same ∙ given.stands.rests.inputs;
          outputs = ap length outs ∙ each;
        };
        inputs_are = ap (λ v. labels_of old.net.ports (inputs_of old.net) v.items) ins_same ∙ sym are;
        outputs_are = ap (labels_of old.net.ports (outputs_of old.net)) (outs ∙ cycle.outputs) ∙ sym (outputs_are old.net cycle.values accepted);
        left = given.known;
      }

  -- a cycle is run in which no entry is due, and then its outputs are seen
  pub passed : (file : List Entry) (t since : ℕ) (queue : List Entry) (new : Simulator)
      → HasSeen old.net past board → at_entries t file ≡ [] → ((net : Netlist) (before : List Label) → IsHeld net before t since queue) → All (GivesInput old.net) queue
      → IsCycle old board.inputs.items board.outputs.items new → RunsCycle old file past t since queue since queue new board
  passed file t since queue new stands none early known cycle =
      let came : List Label = reverse (labels_of old.net.ports (outputs_of old.net) board.outputs.items) ++ past in
      let seen = ap (labels_of old.net.ports (outputs_of old.net)) cycle.outputs ∙ sym (outputs_are old.net cycle.values accepted) in
      ran file t since queue board board since queue board.outputs.items new
      (record { taken = []; takes = subst (λ (es : List Entry). TakesAll old.net came es []) (sym none) refl; stands = stands })
      (record { labels = []; gives = (early old.net came, refl, refl); stands = stands; known = known })
      cycle seen board refl refl refl refl
