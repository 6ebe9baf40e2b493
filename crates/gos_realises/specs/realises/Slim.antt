-- Plans that are small for their weight.
--
-- Read first: Size of gos_plan. The lengths of arrays are in the weight, so that what else there is is compared with the rest.
use Rattle.std.specs.Prelude.{ℕ, ◌+◌, ◌*◌, ◌≤◌, List, [], ◌∷◌, length}
use Rattle.gos_plan.specs.Kinds.{Part, part_contacts}
use Rattle.gos_plan.specs.Plans.{Plan}
use Rattle.gos_plan.specs.Size.{numbers_of}

-- how many handshakes parts have together
abbrev pub all_shakes : List Part → ℕ
all_shakes [] = 0
all_shakes (k ∷ ks) = length (part_contacts k) + all_shakes ks

-- A plan is slim: its joints, parts, handshakes and imports are few for its weight without the lengths of its arrays.
pub record IsSlim (p : Plan) : Type 0 where
  pub joints : length p.joints + 2 * numbers_of p.parts ≤ 2 * p.weight
  pub ends : length p.parts + all_shakes p.parts + 4 * numbers_of p.parts ≤ 4 * p.weight
  pub imports : length p.imports + numbers_of p.parts ≤ p.weight
