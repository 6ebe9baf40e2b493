use Rattle.std.proofs.Common.{◌≡◌, length}
use Rattle.gos_netlist.specs.Settling.{Numbers}
use Rattle.gos_sim.specs.inner.Readers.{ReadAll}
use Rattle.gos_sim.specs.inner.Active.{HasSwept, IsWake, Stand}
use Rattle.gos_sim.proofs.active.Active.sweep.Given as goal

-- what isn't marked stands as it must
abbrev pub invariant-loop : goal.invariant-loop
invariant-loop g l =
    record {
      wake : IsWake (length l.initial.values) l.self.wake;
      long : length l.values ≡ length l.initial.values;
      held : length l.registers ≡ length l.initial.registers;
      reading : ReadAll l.machine.program l.machine.latches.items l.self.wake.readers;
      stand : Stand l.machine.program l.machine.latches.items l.self.wake.marks.words.items l.values l.registers;
      swept : (start loaded held : Numbers) → HasSwept l.machine.program l.machine.latches.items start loaded held l.initial.self l.initial.values l.initial.registers
          → HasSwept l.machine.program l.machine.latches.items start loaded held l.self l.values l.registers;
    }
