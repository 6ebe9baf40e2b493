-- What the parts of a cycle do to the values of the nets and to the registers.
--
-- Read first: Cycle, Program.
use Rattle.std.specs.Prelude.{◌≡◌, ◌≢◌, ℕ, List, All, Some, slice_get}
use Rattle.gos_netlist.specs.Settling.{Numbers, at, shown}
use Rattle.gos_netlist.specs.Seen.{function_of}
use Rattle.gos_sim.specs.declared.event_nets.EventNets.{EventNets}
use Rattle.gos_sim.specs.declared.program.Step.{Step}
use Rattle.gos_sim.specs.declared.program.Latch.{Latch}
use Rattle.gos_sim.specs.EventNets.{Names}

-- the net of each step has what its cell shows
abbrev pub AreShown : List Step → Numbers → Type 0
AreShown steps v =
    (j : ℕ) (s : Step) → slice_get steps j ≡ Some s → at v s.net ≡ shown s.width (function_of s.gate) 0 0 (at v)

-- the net of each register has what the register holds
abbrev pub AreLoaded : List Latch → Numbers → Numbers → Type 0
AreLoaded latches registers v = (j : ℕ) (l : Latch) → slice_get latches j ≡ Some l → at v l.net ≡ at registers l.net

-- each register holds what its pin has
abbrev pub AreTaken : List Latch → Numbers → Numbers → Type 0
AreTaken latches v registers = (j : ℕ) (l : Latch) → slice_get latches j ≡ Some l → at registers l.net ≡ at v l.pin

-- nets that are not those of the steps have what they had
abbrev pub KeepsOtherSteps : List Step → Numbers → Numbers → Type 0
KeepsOtherSteps steps old new = (n : ℕ) → All (λ s. s.net ≢ n) steps → at new n ≡ at old n

-- nets that are not those of the registers have what they had
abbrev pub KeepsOthers : List Latch → Numbers → Numbers → Type 0
KeepsOthers latches old new = (n : ℕ) → All (λ l. l.net ≢ n) latches → at new n ≡ at old n

-- nets that are not the event's have what they had
abbrev pub KeepsOtherNets : EventNets → Numbers → Numbers → Type 0
KeepsOtherNets e old new = (a : ℕ) → (Names e a → ⊥) → at new a ≡ at old a

-- latches of one net have one pin
abbrev pub HaveOnePin : List Latch → Type 0
HaveOnePin latches =
    (j k : ℕ) (l m : Latch) → slice_get latches j ≡ Some l → slice_get latches k ≡ Some m → l.net ≡ m.net → l.pin ≡ m.pin
