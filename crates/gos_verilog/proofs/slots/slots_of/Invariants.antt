use Rattle.std.proofs.Common.{◌≡◌, ℕ, length, drop}
use Rattle.gos_verilog.specs.inner.Slots.{Slot', IsSlot, slot_text}
use Rattle.gos_verilog.proofs.RunLemmas.{RunSoFar}
use Rattle.gos_verilog.proofs.slots.slots_of.Given as goal

abbrev pub invariant-loop-slot : goal.invariant-loop-slot
invariant-loop-slot l =
    record {
      far : RunSoFar Slot' ℕ IsSlot slot_text l.slots l.initial.cursor l.cursor l.numbers.items (drop l.slot-index l.slots);
      room : l.numbers.capacity ≡ 4;
      count : length l.numbers.items ≡ l.slot-index;
    }
