use Rattle.std.proofs.Common.{ℕ}
use Rattle.gos_pulse.specs.inner.Agenda.{HaveNone, IsAgenda}
use Rattle.gos_pulse.proofs.agenda.Agenda.next_from.Given as goal

-- the cycles so far have none
abbrev pub invariant-loop-cycle : goal.invariant-loop-cycle
invariant-loop-cycle l = (cycles : ℕ) → IsAgenda cycles l.entries l.self → HaveNone l.entries l.from l.cycle
