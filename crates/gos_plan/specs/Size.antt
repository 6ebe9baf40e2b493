-- The size of a plan, which bounds the cells of its netlist.
--
-- Read first: Plans.
use Rattle.std.specs.Prelude.{ℕ, ◌+◌, ◌*◌, List, [], ◌∷◌, length}
use Rattle.gos_plan.specs.Kinds.{Part, Array, part_contacts}
use Rattle.gos_plan.specs.Plans.{Plan}

-- how many handshakes these parts have together
abbrev pub shakes_of : List Part → ℕ
shakes_of [] = 0
shakes_of (k ∷ ks) = length (part_contacts k) + shakes_of ks

-- how many numbers an array has, and the arrays among these parts together
abbrev pub numbers_in : Part → ℕ
numbers_in (Array w n v) = n
numbers_in k = 0

abbrev pub numbers_of : List Part → ℕ
numbers_of [] = 0
numbers_of (k ∷ ks) = numbers_in k + numbers_of ks

-- 26 for each part and each of its handshakes, 8 for each number of an array, 4 for each joint, and 12 for each port: the result,
-- and the imports
abbrev pub plan_size : Plan → ℕ
plan_size p = 26 * (length p.parts + shakes_of p.parts) + 8 * numbers_of p.parts + 4 * length p.joints + 12 * (length p.imports + 1)
