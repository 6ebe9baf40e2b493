-- What it means that a netlist keeps pace with a program.
--
-- Read first: Moves (what a program does), Protocol (which inputs it may have).
-- Says nothing of how a netlist is made, nor of the cycle in which an answer comes.
use Rattle.std.specs.Prelude.{◌≡◌, ◌≢◌, ℕ, zero, suc, ◌+◌, ◌<◌, ◌≤◌, ◌⊎◌, List, [], ◌∷◌, length, Some, slice_get}
use Rattle.gos_model.specs.Labels.{Label}
use Rattle.gos_model.specs.Moves.{Program, Config, Idle, Act, Moves, labels, Stalled}
use Rattle.gos_netlist.specs.Nets.{Netlist}
use Rattle.gos_netlist.specs.Settling.{Numbers, IsRun}
use Rattle.gos_pace.specs.Flattening.{Flattening}
use Rattle.gos_pace.specs.RunProtocol.{InputsInRange, RunKeeps}
use Rattle.gos_model.specs.Weight.{pace}

-- the moves of one cycle, and where they lead
pub record Turn : Type 0 where
  pub acts : List Act
  pub config : Config

-- the moves of each cycle lead from where the cycle before ended, and have its labels
abbrev pub Follows : Program → Config → List (List Label) → List Turn → Type 0
Follows p c [] [] = Unit {0}
Follows p c [] (t ∷ ts) = ⊥
Follows p c (part ∷ parts) [] = ⊥
Follows p c (part ∷ parts) (t ∷ ts) = Moves p t.acts c t.config × (labels t.acts ≡ part) × Follows p t.config parts ts

-- the configuration after n cycles
abbrev pub config_after : Config → List Turn → ℕ → Config
config_after c ts zero = c
config_after c [] (suc n) = c
config_after c (t ∷ ts) (suc n) = config_after t.config ts n

-- From each cycle on there is a move within k cycles, unless the program can only wait there.
abbrev pub MovesWithin : ℕ → Program → List Turn → Type 0
MovesWithin k p ts =
    (i : ℕ) → i + k ≤ length ts
    → Stalled p (config_after Idle ts i)
    ⊎ ((j : ℕ) × (t : Turn) × (i ≤ j) × (j < i + k) × (slice_get ts j ≡ Some t) × (t.acts ≢ []))

-- In the run with these settlings the netlist keeps pace with the program: each flattening is a trace of it, cut into
-- cycles, with a move at least once in k cycles unless the program can only wait.
abbrev pub KeepsPace : ℕ → Program → Netlist → List Numbers → Type 0
KeepsPace k p net vs =
    (parts : List (List Label)) → Flattening net vs parts
    → (ts : List Turn) × Follows p Idle parts ts × MovesWithin k p ts

-- for every list of inputs in range whose run keeps the protocol, the netlist keeps pace with the program of this weight
abbrev pub KeepsPaceAlways : ℕ → Program → Netlist → Type 0
KeepsPaceAlways weight p net =
    (ins vs : List Numbers) → InputsInRange net ins → IsRun net.cells ins vs → RunKeeps net vs → KeepsPace (pace weight) p net vs
