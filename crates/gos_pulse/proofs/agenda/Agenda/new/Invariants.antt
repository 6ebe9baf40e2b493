use Rattle.std.proofs.Common.{◌≤◌, length}
use Rattle.gos_pulse.specs.inner.Agenda.{IsAgendaFrom}
use Rattle.gos_pulse.proofs.agenda.Agenda.new.Given as goal

-- the entries from the place on are put
abbrev pub invariant-loop-place : goal.invariant-loop-place
invariant-loop-place l =
    record {
      within : l.place ≤ length l.entries;
      put : IsAgendaFrom l.cycles l.entries l.place l.agenda;
    }

abbrev pub decreases-loop-place : goal.decreases-loop-place
decreases-loop-place l = l.place
