-- The next net of an order, as the program looks at it: it and its pins are nets, and its level fits.
use Rattle.std.specs.Prelude.{◌≡◌, ℕ, ◌+◌, ◌<◌, ◌≤◌, ◌^◌, List, length, map, get_or, All, set}
use Rattle.std.proofs.Common.{arith}
use Rattle.std.proofs.lemmas.List.{length-map}
use Rattle.std.proofs.lemmas.List.Elements.{All-from_recursion, All-weaker}
use Rattle.gos_netlist.specs.declared.nets.NetId.{NetId}
use Rattle.gos_netlist.specs.declared.nets.Cell as declared
use Rattle.gos_netlist.specs.Nets.{pins}
use Rattle.gos_netlist.specs.Seen.{cell_of, function_of, number_of}
use Rattle.gos_netlist.specs.Settling.{Numbers, at}
use Rattle.gos_netcheck.specs.CellRules.{NetsExist}
use Rattle.gos_netcheck.specs.Schedule.{IsSchedule}
use Rattle.gos_netcheck.specs.Levels.{level_of}
use Rattle.gos_netcheck.proofs.CountLemmas.{few_places}
use Rattle.gos_netcheck.proofs.LevelLemmas.{AreLevelsBefore, one_leveled}
use Rattle.gos_netcheck.proofs.PinLemmas.{no_cell}
use Rattle.gos_netcheck.proofs.RuleLemmas.{get_mapped}
use Rattle.gos_netcheck.proofs.TurnLemmas.{no_net}

module _ (cells : List declared.Cell) (order : List NetId) (s : IsSchedule (map cell_of cells) (map number_of order)) (i : ℕ) (inside : i < length order) where
  pub net_there : (get_or order i no_net).0 < length cells
  net_there =
      let low = (s.due i (get_or order i no_net).0 (get_mapped number_of order i no_net inside)).0 in
      omega (arith, low, length-map cells cell_of)

  pub pins_there : NetsExist (map cell_of cells) → All (λ a. a < length cells) (pins (function_of (get_or cells (get_or order i no_net).0 no_cell).gate))
  pins_there exist =
      let net : ℕ = (get_or order i no_net).0 in
      let named = exist net (cell_of (get_or cells net no_cell)) (get_mapped cell_of cells net no_cell net_there) in
      let P : ℕ → Type 0 = λ a. a < length (map cell_of cells) in
      let Q : ℕ → Type 0 = λ a. a < length cells in
      All-weaker P Q (λ a low. omega (arith, low, length-map cells cell_of)) _ (All-from_recursion P (pins (function_of (get_or cells net no_cell).gate)) named)

  -- the levels before it have room above them
  pub room_above : length cells < 2 ^ 32 → (levels : Numbers) → AreLevelsBefore (map cell_of cells) (map number_of order) i levels → All (λ l. l + 1 < 2 ^ 32) levels
  room_above few levels before =
      let places = few_places (map cell_of cells) (map number_of order) s in
      All-weaker (λ l. l ≤ i) (λ l. l + 1 < 2 ^ 32)
      (λ l low. omega (arith, low, inside, few, places, length-map cells cell_of, length-map order number_of)) levels before.bound

  pub net_leveled : (levels : Numbers) (x : ℕ) → x ≡ level_of (function_of (get_or cells (get_or order i no_net).0 no_cell).gate) (at levels)
      → ((top : ℕ) → All (λ l. l ≤ top) levels → x ≤ top + 1) → AreLevelsBefore (map cell_of cells) (map number_of order) i levels
      → AreLevelsBefore (map cell_of cells) (map number_of order) (i + 1) (set levels (get_or order i no_net).0 x)
  net_leveled levels x e low before =
      let net : ℕ = (get_or order i no_net).0 in
      one_leveled (map cell_of cells) (map number_of order) s levels i net x (cell_of (get_or cells net no_cell)) (get_mapped number_of order i no_net inside)
      (get_mapped cell_of cells net no_cell net_there) e (low i before.bound) before
