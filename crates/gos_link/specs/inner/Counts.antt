-- How much there is in plans together: so little that 32 bits count it.
use Rattle.std.specs.Prelude.{ℕ, ◌+◌, ◌<◌, ◌≤◌, ◌^◌, List, [], ◌∷◌, length}
use Rattle.gos_plan.specs.Plans.{End, PartEnd, ImportEnd, ResultEnd, Joint, Plan}
use Rattle.gos_plan.specs.Joining.{all_parts, all_weight}
use Rattle.gos_link.specs.declared.services.Service.{Service}
use Rattle.gos_link.specs.Answers.{all_joints}

-- how many imports plans have together
abbrev pub all_imports : List Plan → ℕ
all_imports [] = 0
all_imports (p ∷ ps) = length p.imports + all_imports ps

pub record AreCounted (ps : List Plan) (ss : List Service) : Type 0 where
  pub weight : all_weight ps < 2 ^ 32
  pub parts : length (all_parts ps) < 2 ^ 32
  pub imports : all_imports ps < 2 ^ 32
  pub joints : all_joints ps ≤ 2 ^ 32
  pub plans : length ps < 2 ^ 32
  pub services : length ss < 2 ^ 32

-- an end of a plan has its number in the whole, where the plan's parts are numbered from `start` and it has n imports
abbrev pub HasRoom : ℕ → ℕ → End → Type 0
HasRoom start n (PartEnd i h) = start + i < 2 ^ 32
HasRoom start n (ImportEnd i h) = i < n
HasRoom start n (ResultEnd h) = Unit {0}

abbrev pub HaveRoom : ℕ → ℕ → List Joint → Type 0
HaveRoom start n [] = Unit {0}
HaveRoom start n (j ∷ js) = HasRoom start n j.asking × HasRoom start n j.serving × HaveRoom start n js

-- a plan of few parts, imports and joints
pub record IsCountable (p : Plan) : Type 0 where
  pub parts : length p.parts < 2 ^ 32
  pub imports : length p.imports < 2 ^ 32
  pub joints : length p.joints ≤ 2 ^ 32
