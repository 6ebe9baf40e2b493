-- What a build asks of a module before its weight, as a plan.
--
-- Read first: Wiring.
use Rattle.std.specs.Prelude.{◌≡◌, ℕ, List, []}
use Rattle.gos_types.specs.Types.{Type'}
use Rattle.gos_model.specs.Typing.{Imported, Imports}
use Rattle.gos_check.specs.Nodes.{Numbered}
use Rattle.gos_plan.specs.Plans.{Plan}
use Rattle.gos_compile.specs.Wiring.{IsPlanOf}

-- the plan of these imports and this result that weighs nothing, and has no part and no joint
abbrev pub shell_of : List Imported → Type' → Plan
shell_of imports outcome = record { weight = 0; imports = imports; outcome = outcome; parts = []; joints = [] }

-- that of a module has the imports and the result of its plan
abbrev pub ShellIsOfPlan : Type 0
ShellIsOfPlan = (is : Imports) (t : Type') (w : ℕ) (m : Numbered) (p : Plan) → IsPlanOf is t w m p → shell_of is t ≡ shell_of p.imports p.outcome
