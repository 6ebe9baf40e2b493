-- Where the search for a schedule stands.
--
-- Read first: Schedule, Accepted. The search walks from a net back to what feeds it. Between the search and its lemmas.
use Rattle.std.specs.Prelude.{◌≡◌, ℕ, ◌<◌, List, [], ◌∷◌, reverse, length, take, map, sum_by, Option, Some, slice_get, Contains}
use Rattle.gos_netlist.specs.Nets.{Cell}
use Rattle.gos_netlist.specs.Seen.{number_of}
use Rattle.gos_netlist.specs.Cycles.{IsRegister, Feeds, Distinct}
use Rattle.gos_netcheck.specs.declared.fault.NetFault.{NetFault}
use Rattle.gos_netcheck.specs.declared.fault.NetFault.TheVariants as faults
use Rattle.gos_netcheck.specs.declared.schedule.Mark.{Mark}
use Rattle.gos_netcheck.specs.declared.schedule.Mark.TheVariants.{New, Open, Placed}
use Rattle.gos_netcheck.specs.declared.schedule.Named.{Named}
use Rattle.gos_netcheck.specs.declared.schedule.Named.TheVariants as named
use Rattle.gos_netcheck.specs.declared.schedule.Search.{Search}
use Rattle.gos_netcheck.specs.Schedule.{IsDue}
use Rattle.gos_netcheck.specs.Accepted.{IsCycleFromLeast}

-- the nets that a cell names, as the search looks at them
abbrev pub nets_of : Named → List ℕ
nets_of named.None = []
nets_of (named.One a) = a.0 ∷ []
nets_of (named.Two a b) = a.0 ∷ b.0 ∷ []
nets_of (named.Three a b c) = a.0 ∷ b.0 ∷ c.0 ∷ []

-- each net feeds the next one
abbrev pub Trail : List Cell → List ℕ → Type 0
Trail cells [] = Unit {0}
Trail cells (a ∷ []) = Unit {0}
Trail cells (a ∷ b ∷ ns) = Feeds cells a b × Trail cells (b ∷ ns)

-- The order so far is due net by net. The nets on the path, from the last one back, are different, and each feeds the
-- next one. A net is marked as placed where it stands in the order, and as open where it stands on the path.
pub record IsSearch (cells : List Cell) (marks : List Mark) (path order : List ℕ) : Type 0 where
  pub count : length marks ≡ length cells
  pub placed : (n : ℕ) → slice_get marks n ≡ Some Placed → Contains order n
  pub in_order : (n : ℕ) → Contains order n → slice_get marks n ≡ Some Placed
  pub opened : (n : ℕ) → slice_get marks n ≡ Some Open → Contains path n
  pub on_path : (n : ℕ) → Contains path n → slice_get marks n ≡ Some Open
  pub due : (i b : ℕ) → slice_get order i ≡ Some b → IsDue cells (take i order) b
  pub distinct : Distinct path
  pub trail : Trail cells path

-- the path of a search, from its last net back
abbrev pub path_of : Search → List ℕ
path_of s = reverse (map number_of s.path.items)

abbrev pub Stands : List Cell → Search → Type 0
Stands cells s = IsSearch cells s.marks.items (path_of s) (map number_of s.order.items)

-- how many steps a net has before it, and all nets have
abbrev pub steps_of : Mark → ℕ
steps_of New = 2
steps_of Open = 1
steps_of Placed = 0

abbrev pub steps_left : List Mark → ℕ
steps_left marks = sum_by steps_of marks

-- the net has been gone on to
abbrev pub IsBegun : Option Mark → Type 0
IsBegun (Some New) = ⊥
IsBegun mark = Unit {0}

-- the search has come on
pub record IsLater (old new : List Mark) : Type 0 where
  pub nearer : steps_left new < steps_left old
  pub begun : (n : ℕ) → IsBegun (slice_get old n) → IsBegun (slice_get new n)

-- the net is a register, or placed
abbrev pub IsDone : List Cell → List Mark → ℕ → Type 0
IsDone cells marks a = (c : Cell) → slice_get cells a ≡ Some c → (IsRegister c.gate → ⊥) → slice_get marks a ≡ Some Placed

-- the net is neither
abbrev pub IsUndone : List Cell → List Mark → ℕ → Type 0
IsUndone cells marks a = (c : Cell) × (slice_get cells a ≡ Some c) × (IsRegister c.gate → ⊥) × (slice_get marks a ≡ Some Placed → ⊥)

-- all that feeds the net is placed
abbrev pub IsReady : List Cell → List Mark → ℕ → Type 0
IsReady cells marks net = (a : ℕ) → Feeds cells a net → slice_get marks a ≡ Some Placed

-- the pin feeds the net, and isn't placed
abbrev pub IsWaiting : List Cell → List Mark → ℕ → ℕ → Type 0
IsWaiting cells marks net pin = Feeds cells pin net × (slice_get marks pin ≡ Some Placed → ⊥)

-- a cycle, or want of memory
abbrev pub IsCycleFault : List Cell → NetFault → Type 0
IsCycleFault cells (faults.Cycle nets) = IsCycleFromLeast cells (map number_of nets.items)
IsCycleFault cells faults.NoMemory = Unit {0}
IsCycleFault cells fault = ⊥
