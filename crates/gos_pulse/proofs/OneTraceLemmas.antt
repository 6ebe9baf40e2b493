-- All traces of a file say the same: they are of one run, and a label is that of one event.
use Rattle.std.proofs.Common.{◌≡◌, ℕ, suc, List, [], ◌∷◌, ◌++◌, refl, sym, ap, subst, ◌∙◌}
use Rattle.gos_netlist.specs.Nets.{Netlist}
use Rattle.gos_netlist.specs.Settling.{Numbers}
use Rattle.gos_netcheck.specs.Accepted.{IsAccepted}
use Rattle.gos_model.specs.Labels.{Label}
use Rattle.gos_pace.specs.Flattening.{outputs, inputs}
use Rattle.gos_pulse.specs.inner.Slots.{label_of, port_at}
use Rattle.gos_pulse.specs.Driving.{IsPulse}
use Rattle.gos_pulse.specs.Traced.{AreLines, LinesFrom}
use Rattle.gos_pulse.specs.OneAnswer.{HasOneTrace}
use Rattle.gos_pulse.specs.declared.entries.Entry.{Entry}
use Rattle.gos_pulse.specs.declared.trace.TraceLine.{TraceLine}
use Rattle.gos_pulse.proofs.OneEventLemmas.{one_labelled}
use Rattle.gos_pulse.proofs.OneRunLemmas.{one_run}

module _ (net : Netlist) (accepted : IsAccepted net) where
  -- the label of a pulse, by its event
  its_label : (number value : ℕ) (l : Label) (pulse : IsPulse net number value l) → l ≡ label_of net.ports pulse.event value
  its_label number value l pulse = pulse.is ∙ (λ i. record { port = port_at (sym pulse.at i); event = pulse.event.place; value = value })

  -- a label is one line of a cycle
  one_line : (t : ℕ) (line other : TraceLine) (l : Label) → line.cycle ≡ t → other.cycle ≡ t → IsPulse net line.event line.value l → IsPulse net other.event other.value l → line ≡ other
  one_line t line other l at also one two =
      let same = sym (its_label line.event line.value l one) ∙ its_label other.event other.value l two in
      let cycle : line.cycle ≡ other.cycle = at ∙ sym also in
      let event : line.event ≡ other.event = one_labelled net accepted line.event other.event one.event two.event line.value other.value one.there two.there same in
      let value : line.value ≡ other.value = ap (λ (m : Label). m.value) same in
      λ i. record { cycle = cycle i; event = event i; value = value i }

  one_cycle : (t : ℕ) (labels : List Label) (lines others : List TraceLine) → AreLines net t lines labels → AreLines net t others labels → lines ≡ others
  one_cycle t [] [] [] one two = refl
  one_cycle t [] (x ∷ lines) others one two = absurd one
  one_cycle t [] [] (y ∷ others) one two = absurd two
  one_cycle t (l ∷ labels) [] others one two = absurd one
  one_cycle t (l ∷ labels) (x ∷ lines) [] one two = absurd two
  one_cycle t (l ∷ labels) (x ∷ lines) (y ∷ others) one two =
      let first = one_line t x y l one.0 two.0 one.1 two.1 in
      let rest = one_cycle t labels lines others one.2 two.2 in
      λ i. first i ∷ rest i

  -- the lines of a run
  one_list : (t : ℕ) (vs : List Numbers) (lines others : List TraceLine) → LinesFrom net t vs lines → LinesFrom net t vs others → lines ≡ others
  one_list t [] lines others one two = one ∙ sym two
  one_list t (v ∷ vs) lines others (now, later, is, here, there) (then, after, also, this, that) =
      let first = one_cycle t (outputs net v ++ inputs net v) now then here this in
      let rest = one_list (suc t) vs later after there that in
      is ∙ (λ i. first i ++ rest i) ∙ sym also

  pub one_trace : (cycles : ℕ) (file : List Entry) → HasOneTrace net cycles file
  one_trace cycles file trace other one two =
      let same = one_run net accepted file cycles one.run two.run trace.unused other.unused one.driven two.driven in
      record {
        cycles = one.count ∙ sym two.count;
        lines = one_list 0 two.run trace.lines.items other.lines.items (subst (λ (vs : List Numbers). LinesFrom net 0 vs trace.lines.items) same.0 one.lines) two.lines;
        unused = same.1;
      }
