-- What a map of nets gives, and what reducing keeps.
--
-- Read first: Mapped, Reduced, Alike; Accepted of gos_netcheck.
use Rattle.std.specs.Prelude.{◌≡◌, ℕ, ◌<◌, ◌≤◌, ◌^◌, List, Some, slice_get, length}
use Rattle.gos_netlist.specs.Nets.{Cell, Netlist}
use Rattle.gos_netlist.specs.Settling.{Numbers, at, shown, Settling}
use Rattle.gos_netcheck.specs.Accepted.{IsAccepted}
use Rattle.gos_tidy.specs.Mapped.{Mapped}
use Rattle.gos_tidy.specs.Steady.{IsSteadied}
use Rattle.gos_tidy.specs.Reduced.{IsReduced, Reduces}
use Rattle.gos_tidy.specs.Alike.{IsAlike, KeepsOrder}

-- A settling of the cells that are mapped to gives, through the map, values that meet each equation of the mapped cells.
abbrev pub PulledBack : Type 0
PulledBack =
    (cells others : List Cell) (f : ℕ → ℕ) (regs ins v : Numbers) → Mapped cells others f → Settling others regs ins v
    → ((n : ℕ) (c : Cell) → slice_get cells n ≡ Some c → at v (f n) < 2 ^ c.width)
    → (n : ℕ) (c : Cell) → slice_get cells n ≡ Some c
    → at v (f n) ≡ shown c.width c.gate (at regs (f n)) (at ins (f n)) (λ a. at v (f a))

-- what is reduced from an accepted netlist
pub record IsStill (net other : Netlist) : Type 0 where
  pub alike : IsAlike net other
  pub accepted : IsAccepted other
  pub fewer : length other.cells ≤ length net.cells
  pub order : (places : List ℕ) × KeepsOrder net.cells other.cells places

-- An accepted netlist that is reduced once is accepted and alike, has no more cells, and has them in their order.
abbrev pub ReducedOnce : Type 0
ReducedOnce = (net other : Netlist) → IsAccepted net → IsReduced net other → IsStill net other

-- So it is where steady cells have become constants.
abbrev pub SteadiedOnce : Type 0
SteadiedOnce = (net other : Netlist) → IsAccepted net → IsSteadied net other → IsStill net other

-- so it is, reduced any number of times
abbrev pub ReducedAgain : Type 0
ReducedAgain = (net other : Netlist) → IsAccepted net → Reduces net other → IsStill net other
