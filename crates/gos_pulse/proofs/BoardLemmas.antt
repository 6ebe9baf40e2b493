-- A cycle that begins.
use Rattle.std.proofs.Common.{◌≡◌, ◌<◌, ◌^◌, ℕ, false, List, [], ◌++◌, length, reverse, replicate, sym, ap, subst, ◌∙◌, arith, Some, true≢false, pow_pos}
use Rattle.std.specs.Prelude.{slice_get}
use Rattle.std.proofs.lemmas.Option.{slice_get_within, get_or_from_slice_get}
use Rattle.std.proofs.lemmas.List.{length-replicate, get_or-replicate}
use Rattle.gos_netlist.specs.Nets.{Netlist}
use Rattle.gos_netlist.specs.Events.{events_of}
use Rattle.gos_model.specs.Labels.{Label}
use Rattle.gos_sim.specs.declared.pulse.Pulse.{Pulse}
use Rattle.gos_pulse.specs.declared.board.Board.{Board}
use Rattle.gos_pulse.specs.Guarding.{Guards, inputs_of, outputs_of}
use Rattle.gos_pulse.specs.inner.Slots.{AreSlots, labels_of}
use Rattle.gos_pulse.specs.inner.Board.{Rests, Stands}
use Rattle.gos_pulse.proofs.OrderLemmas.{labels_quiet}

-- no pulse
abbrev pub quiet : Pulse
quiet = record { on = false; value = 0 }

quiet_at : (n k : ℕ) (p : Pulse) → slice_get (replicate n quiet) k ≡ Some p → p ≡ quiet
quiet_at n k p at =
    let within : k < length (replicate n quiet) = slice_get_within (replicate n quiet) k p at in
    let less : k < n = omega (arith, within, length-replicate n quiet) in
    sym (get_or_from_slice_get (replicate n quiet) k p quiet at) ∙ get_or-replicate n k quiet quiet less

-- a board whose outputs were seen, and that has no inputs
pub began : (net : Netlist) (past : List Label) (shown : List Pulse) (n : ℕ) (board new : Board) → Rests net past board → new.slots.items ≡ board.slots.items → new.outputs.items ≡ shown → length shown ≡ length (outputs_of net)
    → new.inputs.items ≡ replicate n quiet → n ≡ length (inputs_of net) → Guards net (reverse (labels_of net.ports (outputs_of net) shown) ++ past) new.guard
    → Stands net (reverse (labels_of net.ports (outputs_of net) new.outputs.items) ++ past) [] new
began net past shown n board new rests slots outputs each inputs count guards =
    let none : labels_of net.ports (inputs_of net) new.inputs.items ≡ [] = ap (labels_of net.ports (inputs_of net)) inputs ∙ labels_quiet net.ports (inputs_of net) n 0 in
    let is_quiet : (k : ℕ) (p : Pulse) → slice_get new.inputs.items k ≡ Some p → p ≡ quiet = λ k p at. quiet_at n k p (ap (λ (ps : List Pulse). slice_get ps k) (sym inputs) ∙ at) in
    record {
      rests = record {
        slots = subst (AreSlots (events_of net)) (sym slots) rests.slots;
        guards = subst (λ (ps : List Pulse). Guards net (reverse (labels_of net.ports (outputs_of net) ps) ++ past) new.guard) (sym outputs) guards;
        inputs = ap length inputs ∙ length-replicate n quiet ∙ count;
        outputs = ap length outputs ∙ each;
      };
      in_range = λ k e p at_e at_p.
          let is = is_quiet k p at_p in
          (subst (λ (q : Pulse). q.value < 2 ^ e.bits) (sym is) (pow_pos e.bits), λ off. ap (λ (q : Pulse). q.value) is);
      order = none;
      spent = λ k e p at_e at_p on. absurd (true≢false (sym on ∙ ap (λ (q : Pulse). q.on) (is_quiet k p at_p)));
    }
