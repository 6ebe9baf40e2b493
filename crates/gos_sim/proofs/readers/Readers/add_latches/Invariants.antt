use Rattle.std.proofs.Common.{◌≡◌, ℕ, ◌+◌, ◌<◌, ◌/◌, Some, length, slice_get}
use Rattle.gos_sim.specs.declared.program.Latch.{Latch}
use Rattle.gos_sim.specs.inner.Readers.{AreLinked, KeepsReaders, Reads}
use Rattle.gos_sim.proofs.readers.Readers.add_latches.Given as goal

-- the latches so far read their pins
abbrev pub invariant-loop-place : goal.invariant-loop-place
invariant-loop-place l =
    record {
      each : length l.self.heads.items ≡ length l.initial.self.heads.items;
      linked : (words : ℕ) → (l.first + length l.latches) / 64 < words → AreLinked words l.initial.self → AreLinked words l.self;
      kept : KeepsReaders l.initial.self l.self;
      reads : (k : ℕ) → k < l.place → (r : Latch) → slice_get l.latches k ≡ Some r → Reads l.self r.pin (l.first + k);
    }
