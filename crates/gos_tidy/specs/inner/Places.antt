-- The places of cells that stay, and their numbers.
--
-- Read first: Marks.
use Rattle.std.specs.Prelude.{◌≡◌, ℕ, ◌<◌, ◌≤◌, Bool, List, Some, slice_get, length}
use Rattle.std.specs.List.{flat_map}
use Rattle.gos_netlist.specs.Nets.{Cell, NetPort}
use Rattle.gos_netlist.specs.Settling.{at}
use Rattle.gos_netlist.specs.Renamed.{with_renamed}
use Rattle.gos_tidy.specs.inner.Marks.{IsMarked}

-- the nets of all ports
abbrev pub port_nets : List NetPort → List ℕ
port_nets = flat_map (λ p. p.nets)

-- the first n marks have these places, and a number for each net
pub record AreNumbers (marks : List Bool) (n : ℕ) (numbers places : List ℕ) : Type 0 where
  pub count : length numbers ≡ n
  pub few : length places ≤ n
  pub placed : (k : ℕ) → k < n → IsMarked marks k → slice_get places (at numbers k) ≡ Some k
  pub marked : (i k : ℕ) → slice_get places i ≡ Some k → (k < n) × IsMarked marks k
  pub rises : (i j k l : ℕ) → i < j → slice_get places i ≡ Some k → slice_get places j ≡ Some l → k < l

-- the first n cells of others are those at these places, with their nets renamed
pub record ArePlaced (cells others : List Cell) (numbers places : List ℕ) (n : ℕ) : Type 0 where
  pub count : length others ≡ n
  pub each : (i p : ℕ) (c : Cell) → i < n → slice_get places i ≡ Some p → slice_get cells p ≡ Some c → slice_get others i ≡ Some (with_renamed (at numbers) c)
