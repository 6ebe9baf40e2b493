use Rattle.std.proofs.Common.{◌≡◌, ℕ, ◌<◌, ◌/◌, All, Some, length, slice_get}
use Rattle.gos_sim.specs.declared.program.Step.{Step}
use Rattle.gos_sim.specs.inner.Program.{reads}
use Rattle.gos_sim.specs.inner.Readers.{AreLinked, Reads}
use Rattle.gos_sim.proofs.readers.Readers.add_steps.Given as goal

-- the steps so far read their pins
abbrev pub invariant-loop-step : goal.invariant-loop-step
invariant-loop-step l =
    record {
      each : length l.self.heads.items ≡ length l.initial.self.heads.items;
      linked : (words : ℕ) → length l.steps / 64 < words → AreLinked words l.initial.self → AreLinked words l.self;
      reads : (k : ℕ) → k < l.step → (s : Step) → slice_get l.steps k ≡ Some s → All (λ p. Reads l.self p k) (reads s);
    }
