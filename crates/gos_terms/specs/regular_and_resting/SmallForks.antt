-- The branches of `skip ; skip`, with both and with one.
--
-- Read first: Forks. They show that the definition can be met and can be missed.
use Rattle.std.specs.Prelude.{[], ◌∷◌}
use Rattle.gos_types.specs.Types.{Com}
use Rattle.gos_model.specs.Terms as terms
use Rattle.gos_nodes.specs.sessions.Sessions.{Form, Sequence}
use Rattle.gos_check.specs.Nodes.{Numbered, Closed}
use Rattle.gos_terms.specs.run_children.Forms.{branch}
use Rattle.gos_terms.specs.regular_and_resting.Forks.{AreRun}

abbrev pub skip_node : Numbered
skip_node = Closed Com [] terms.Skip

abbrev pub skip_twice : Form
skip_twice = Sequence Com terms.Skip terms.Skip

-- both sessions run one
abbrev pub BothAreRun : Type 0
BothAreRun = AreRun skip_twice (branch skip_node [] ∷ branch skip_node [] ∷ [])

-- the second has none
abbrev pub SecondIsNotRun : Type 0
SecondIsNotRun = AreRun skip_twice (branch skip_node [] ∷ []) → ⊥
