-- A cycle of silence keeps a run: it has a settling, which has no pulse of an input.
use Rattle.std.proofs.Common.{◌≡◌, ◌<◌, ◌^◌, pow_pos, ℕ, zero, suc, Bool, true, false, true≢false, cond, List, [], ◌∷◌, ◌++◌, length, replicate, refl, sym, ap, subst, ◌∙◌, Option, Some, None, append_assoc}
use Rattle.std.specs.Prelude.{filter, slice_get}
use Rattle.std.specs.List.{AllByRecursion, list_all}
use Rattle.std.proofs.lemmas.List.{append-nil}
use Rattle.gos_netlist.specs.declared.event.Event.{Event}
use Rattle.gos_netlist.specs.Nets.{Netlist}
use Rattle.gos_netlist.specs.Settling.{Numbers, RunFrom, Settling, next_registers}
use Rattle.gos_netlist.proofs.SettlingLemmas.{acyclic_settles}
use Rattle.gos_netcheck.specs.Accepted.{IsAccepted}
use Rattle.gos_model.specs.Typing.{Imports}
use Rattle.gos_model.specs.Labels.{Label, is_output}
use Rattle.gos_model.specs.Protocol.{KeepsAfter, KeepsProtocol}
use Rattle.gos_pace.specs.Flattening.{AnyOrder, Flattening, flat, inputs, outputs, pulses}
use Rattle.gos_pace.specs.RunProtocol.{InputsInRange, RunKeeps, taken_by}
use Rattle.gos_sim.specs.declared.event_nets.EventNets.{EventNets}
use Rattle.gos_sim.specs.declared.pulse.Pulse.{Pulse}
use Rattle.gos_sim.specs.EventNets.{input_events}
use Rattle.gos_sim.specs.Cycle.{Gives, GivesAll, HasNumber}
use Rattle.gos_pulse.specs.Guarding.{inputs_of}
use Rattle.gos_pulse.specs.Silence.{silence, NothingIsARun, SilenceIsARun}
use Rattle.gos_pulse.specs.inner.Board.{AreInRange}
use Rattle.gos_pulse.specs.inner.Lines.{is_off}
use Rattle.gos_pulse.proofs.LineLemmas.{no_labels}
use Rattle.gos_pulse.proofs.RangeLemmas.{none_are_clean}
use Rattle.gos_pulse.proofs.ShownLemmas.{inputs_are}

-- no pulse of an event
abbrev off : Pulse
off = record { on = false; value = 0 }

abbrev offs : List Event → List Pulse
offs [] = []
offs (e ∷ es) = off ∷ offs es

each_off : (es : List Event) → length (offs es) ≡ length es
each_off [] = refl
each_off (e ∷ es) = ap suc (each_off es)

all_off : (es : List Event) → list_all is_off (offs es) ≡ true
all_off [] = refl
all_off (e ∷ es) = all_off es

off_at : (es : List Event) (k : ℕ) (p : Pulse) → slice_get (offs es) k ≡ Some p → off ≡ p
off_at [] k p is = absurd (cc is)
off_at (e ∷ es) zero p is = cc is
off_at (e ∷ es) (suc k) p is = off_at es k p is

-- in silence no input has a pulse
no_inputs : (net : Netlist) (regs v : Numbers) → IsAccepted net → Settling net.cells regs silence v → inputs net v ≡ []
no_inputs net regs v accepted settles =
    inputs_are net regs silence v (offs (inputs_of net)) accepted settles (each_off (inputs_of net)) gives in_range
    ∙ no_labels net.ports (inputs_of net) (offs (inputs_of net)) (all_off (inputs_of net))
  where
    none : (n : EventNets) → Gives silence n off
    none n = (refl, by n.number)
      where
        by : (number : Option ℕ) → HasNumber silence number 0
        by None = tt
        by (Some x) = refl

    gives : GivesAll (input_events net) (offs (inputs_of net)) silence
    gives k n p at_n at_p = subst (Gives silence n) (off_at (inputs_of net) k p at_p) (none n)

    in_range : AreInRange (inputs_of net) (offs (inputs_of net))
    in_range k e p at_e at_p = subst (λ (q : Pulse). (q.value < 2 ^ e.bits) × (q.on ≡ false → q.value ≡ 0)) (off_at (inputs_of net) k p at_p) (pow_pos e.bits, λ _. refl)

-- labels that are outputs
abbrev AreOutputs : List Label → Type 0
AreOutputs = AllByRecursion (λ l. is_output l ≡ true)

-- outputs keep the protocol of inputs
outputs_keep : (i : Imports) (past ls : List Label) → AreOutputs ls → KeepsAfter i past ls
outputs_keep i past [] all = tt
outputs_keep i past (l ∷ ls) all = (λ input. absurd (true≢false (sym all.0 ∙ input)), outputs_keep i (l ∷ past) ls all.1)

keeps_more : (i : Imports) (past ls out : List Label) → KeepsAfter i past ls → AreOutputs out → KeepsAfter i past (ls ++ out)
keeps_more i past [] out keeps all = outputs_keep i past out all
keeps_more i past (l ∷ ls) out keeps all = (keeps.0, keeps_more i (l ∷ past) ls out keeps.1 all)

outputs_filtered : (ls : List Label) → AreOutputs (filter is_output ls)
outputs_filtered [] = tt
outputs_filtered (l ∷ ls) = by (is_output l) refl (outputs_filtered ls)
  where
    by : (b : Bool) → is_output l ≡ b → AreOutputs (filter is_output ls) → AreOutputs (cond b (l ∷ filter is_output ls) (filter is_output ls))
    by true is rest = (is, rest)
    by false is rest = rest

outputs_with : (front back : List Label) (l : Label) → is_output l ≡ true → AreOutputs (front ++ back) → AreOutputs (front ++ l ∷ back)
outputs_with [] back l is all = (is, all)
outputs_with (x ∷ front) back l is all = (all.0, outputs_with front back l is all.1)

-- in any order they are outputs
outputs_ordered : (ls order : List Label) → AreOutputs ls → AnyOrder ls order → AreOutputs order
outputs_ordered [] order all is = subst AreOutputs (sym is) tt
outputs_ordered (l ∷ ls) order all (front, back, is, rest) = subst AreOutputs (sym is) (outputs_with front back l all.0 (outputs_ordered ls (front ++ back) all.1 rest))

-- a flattening of a run with a cycle more
record MoreFlat (net : Netlist) (vs : List Numbers) (v : Numbers) (parts : List (List Label)) : Type 0 where
  front : List (List Label)
  out : List Label
  inp : List Label
  is : flat parts ≡ flat front ++ (out ++ inp)
  flattens : Flattening net vs front
  outs : AnyOrder (outputs net v) out
  ins : AnyOrder (inputs net v) inp

more_flat : (net : Netlist) (vs : List Numbers) (v : Numbers) (parts : List (List Label)) → Flattening net (vs ++ v ∷ []) parts → MoreFlat net vs v parts
more_flat net [] v [] flattens = absurd flattens
more_flat net [] v (part ∷ []) ((out, inp, outs, ins, is), rest) =
    record { front = []; out = out; inp = inp; is = append-nil part ∙ is; flattens = tt; outs = outs; ins = ins }
more_flat net [] v (part ∷ other ∷ parts) flattens = absurd flattens.1
more_flat net (w ∷ vs) v [] flattens = absurd flattens
more_flat net (w ∷ vs) v (part ∷ parts) flattens =
    let rest = more_flat net vs v parts flattens.1 in
    record {
      front = part ∷ rest.front;
      out = rest.out;
      inp = rest.inp;
      is = ap (λ (ls : List Label). part ++ ls) rest.is ∙ sym (append_assoc part (flat rest.front) (rest.out ++ rest.inp));
      flattens = (flattens.0, rest.flattens);
      outs = rest.outs;
      ins = rest.ins;
    }

-- a cycle without inputs keeps the protocol
keeps_silent : (net : Netlist) (vs : List Numbers) (v : Numbers) → inputs net v ≡ [] → RunKeeps net vs → RunKeeps net (vs ++ v ∷ [])
keeps_silent net vs v none keeps parts flattens =
    let more = more_flat net vs v parts flattens in
    let inp_none : more.inp ≡ [] = subst (λ (ls : List Label). AnyOrder ls more.inp) none more.ins in
    let is : flat parts ≡ flat more.front ++ more.out = more.is ∙ ap (λ (ls : List Label). flat more.front ++ ls) (ap (λ (ls : List Label). more.out ++ ls) inp_none ∙ append-nil more.out) in
    subst (KeepsProtocol (taken_by net.ports)) (sym is)
    (keeps_more (taken_by net.ports) [] (flat more.front) more.out (keeps more.front more.flattens) (outputs_ordered (outputs net v) more.out (outputs_filtered (pulses net.ports v)) more.outs))

range_more : (net : Netlist) (ins : List Numbers) → InputsInRange net ins → InputsInRange net (ins ++ silence ∷ [])
range_more net [] range = ((none_are_clean net).0, tt)
range_more net (i ∷ ins) range = (range.0, range_more net ins range.1)

-- a run with a cycle more, and the settling of that
record MoreRun (net : Netlist) (regs : Numbers) (ins vs : List Numbers) : Type 0 where
  v : Numbers
  run : RunFrom net.cells regs (ins ++ silence ∷ []) (vs ++ v ∷ [])
  none : inputs net v ≡ []

run_more : (net : Netlist) (regs : Numbers) (ins vs : List Numbers) → IsAccepted net → RunFrom net.cells regs ins vs → MoreRun net regs ins vs
run_more net regs [] [] accepted run =
    let settled = acyclic_settles net.cells regs silence accepted.acyclic in
    record { v = settled.0; run = (settled.1, refl); none = no_inputs net regs settled.0 accepted settled.1 }
run_more net regs [] (w ∷ vs) accepted run = absurd (cc run)
run_more net regs (i ∷ ins) [] accepted run = absurd run
run_more net regs (i ∷ ins) (w ∷ vs) accepted run =
    let rest = run_more net (next_registers net.cells w) ins vs accepted run.1 in
    record { v = rest.v; run = (run.0, rest.run); none = rest.none }

pub silence_is_a_run : (net : Netlist) → IsAccepted net → SilenceIsARun net
silence_is_a_run net accepted ins vs range run keeps =
    let more = run_more net (replicate (length net.cells) 0) ins vs accepted run in
    (more.v, range_more net ins range, more.run, keeps_silent net vs more.v more.none keeps)

pub nothing_is_a_run : (net : Netlist) → NothingIsARun net
nothing_is_a_run net = (tt, refl, keeps)
  where
    keeps : RunKeeps net []
    keeps [] flattens = tt
    keeps (part ∷ parts) flattens = absurd flattens
