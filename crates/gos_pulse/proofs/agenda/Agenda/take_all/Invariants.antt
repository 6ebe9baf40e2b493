use Rattle.std.proofs.Common.{◌≡◌, ◌-◌, true, List, [], All, Some, length}
use Rattle.std.specs.Prelude.{slice_get}
use Rattle.gos_netlist.specs.Nets.{Netlist}
use Rattle.gos_model.specs.Labels.{Label}
use Rattle.gos_pulse.specs.declared.entries.Entry.{Entry}
use Rattle.gos_pulse.specs.Guarding.{HasPorts}
use Rattle.gos_pulse.specs.Driving.{GivesInput}
use Rattle.gos_pulse.specs.inner.Board.{Stands}
use Rattle.gos_pulse.proofs.AgendaLemmas.{TakenTo}
use Rattle.gos_pulse.proofs.agenda.Agenda.take_all.Given as goal

-- the entries before the place were taken
abbrev pub invariant-loop-place : goal.invariant-loop-place
invariant-loop-place l =
    record {
      here : (entry : Entry) → slice_get l.entries l.place ≡ Some entry → (entry.at ≡ true) × (entry.number ≡ l.cycle);
      taken : (net : Netlist) (past : List Label) → HasPorts net → Stands net past [] l.initial.board → All (GivesInput net) l.entries
          → TakenTo net past l.cycle l.entries l.place l.board;
    }

abbrev pub decreases-loop-place : goal.decreases-loop-place
decreases-loop-place l = length l.entries - l.place
