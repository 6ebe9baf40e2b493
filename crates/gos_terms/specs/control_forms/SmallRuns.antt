-- The sessions of `skip ; skip`, with both branches and with one.
--
-- Read first: Runs; SmallForks of run_children. They show that the definition can be met and can be missed.
use Rattle.std.specs.Prelude.{[], ◌∷◌}
use Rattle.gos_types.specs.Types.{Com}
use Rattle.gos_model.specs.Terms as terms
use Rattle.gos_plan.specs.Plans.{Plan}
use Rattle.gos_nodes.specs.sessions.Sessions.{Form, Sequence}
use Rattle.gos_terms.specs.wired.Wired.{Supplies}
use Rattle.gos_terms.specs.run_children.Forms.{branch}
use Rattle.gos_terms.specs.run_children.SmallForks.{skip}
use Rattle.gos_terms.specs.control_forms.Runs.{AreSessionsOf}

abbrev pub skip_twice : Form
skip_twice = Sequence Com terms.Skip terms.Skip

-- each has a branch, whatever stands for numbers
abbrev pub BothHaveBranches : Type 0
BothHaveBranches = (env : Supplies) (r : Plan) → AreSessionsOf skip_twice [] (branch skip [] ∷ branch skip [] ∷ []) env r

-- the second one has none
abbrev pub SecondHasNone : Type 0
SecondHasNone = (env : Supplies) (r : Plan) → AreSessionsOf skip_twice [] (branch skip [] ∷ []) env r → ⊥
