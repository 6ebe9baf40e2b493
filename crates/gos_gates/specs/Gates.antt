-- Two-input gates and latches, and what they show.
--
-- Variable v has the literals 2 v and 2 v + 1, of which the second is its complement. Variable 0 is false; from 1 on come
-- the inputs, then the latches, then the gates.
use Rattle.std.specs.Prelude.{ℕ, suc, ◌+◌, ◌*◌, ◌<◌, ◌≤◌, ◌/◌, ◌%◌, Bool, false, not, ◌&&◌, if◌then◌else◌, nat_eq, List, [], ◌∷◌, ◌++◌, length, map, get_or, replicate}
use Rattle.std.specs.List.{AllByRecursion}

-- A circuit: the literal that each latch holds in the next cycle, that of each output, and the two of each gate.
pub record Gates : Type 0 where
  pub inputs : ℕ
  pub latches : List ℕ
  pub outputs : List ℕ
  pub gates : List (ℕ × ℕ)

-- what each variable shows
abbrev pub Bits : Type 0
Bits = List Bool

-- what a literal shows
abbrev pub shown_by : Bits → ℕ → Bool
shown_by bits l = if nat_eq (l % 2) 1 then not (get_or bits (l / 2) false) else get_or bits (l / 2) false

-- each gate shows the conjunction of its two literals, which are of variables before it
abbrev pub after_gates : List (ℕ × ℕ) → Bits → Bits
after_gates [] bits = bits
after_gates (g ∷ gs) bits = after_gates gs (bits ++ (shown_by bits g.0 && shown_by bits g.1) ∷ [])

-- what all variables show in a cycle with these inputs and latches
abbrev pub all_shown : Gates → Bits → Bits → Bits
all_shown a ins held = after_gates a.gates (false ∷ ins ++ held)

-- the outputs of cycles with these inputs, from these latches on
abbrev pub outputs_from : Gates → Bits → List Bits → List Bits
outputs_from a held [] = []
outputs_from a held (i ∷ is) =
    map (shown_by (all_shown a i held)) a.outputs ∷ outputs_from a (map (shown_by (all_shown a i held)) a.latches) is

-- the outputs of a run: each latch starts at 0
abbrev pub outputs_of : Gates → List Bits → List Bits
outputs_of a = outputs_from a (replicate (length a.latches) false)

-- what the latches hold in these cycles, from these on
abbrev pub latches_from : Gates → Bits → List Bits → List Bits
latches_from a held [] = []
latches_from a held (i ∷ is) = held ∷ latches_from a (map (shown_by (all_shown a i held)) a.latches) is

-- what they hold in a run
abbrev pub latches_of : Gates → List Bits → List Bits
latches_of a = latches_from a (replicate (length a.latches) false)

-- how many variables there are before the gates
abbrev pub sources : Gates → ℕ
sources a = a.inputs + length a.latches

-- how many variables there are
abbrev pub variables : Gates → ℕ
variables a = sources a + length a.gates

-- the literal is 0 or 1, or of one of the first so many variables
abbrev pub IsLiteral : ℕ → ℕ → Type 0
IsLiteral count l = l ≤ 2 * count + 1

-- each gate looks back: so many variables are before the first one, and its second literal is not above its first
abbrev pub LookBack : ℕ → List (ℕ × ℕ) → Type 0
LookBack count [] = Unit {0}
LookBack count (g ∷ gs) = IsLiteral count g.0 × (g.1 ≤ g.0) × LookBack (suc count) gs

-- The literals are of variables that are there, and gates look back. There are few variables and outputs.
pub record AreGates (a : Gates) : Type 0 where
  pub few : variables a < 2147483648
  pub few_outputs : length a.outputs ≤ 4294967295
  pub latches : AllByRecursion (IsLiteral (variables a)) a.latches
  pub outputs : AllByRecursion (IsLiteral (variables a)) a.outputs
  pub gates : LookBack (sources a) a.gates
