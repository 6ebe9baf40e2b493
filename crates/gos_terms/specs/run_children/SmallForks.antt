-- `skip ; skip` with its branches, and with one of them.
--
-- Read first: Forms. They show that the definitions can be met and can be missed.
use Rattle.std.specs.Prelude.{[], ◌∷◌}
use Rattle.gos_types.specs.Types.{Com}
use Rattle.gos_model.specs.Terms as terms
use Rattle.gos_check.specs.Nodes.{Numbered, Closed, Two, OfSeq}
use Rattle.gos_plan.specs.Kinds.{Seq}
use Rattle.gos_compile.specs.Wiring.{Types}
use Rattle.gos_terms.specs.run_children.Forks.{IsFork, AreBranches}
use Rattle.gos_terms.specs.run_children.Forms.{branch}

-- every number is a command
abbrev pub commands : Types
commands n = Com

abbrev pub skip : Numbered
skip = Closed Com [] terms.Skip

abbrev pub two_skips : Numbered
two_skips = Two Com [] OfSeq skip skip

-- it is a fork of two branches, and not of one
abbrev pub BothAreBranches : Type 0
BothAreBranches = IsFork commands two_skips [] (Seq 0) (branch skip [] ∷ branch skip [] ∷ [])

abbrev pub OneIsNotAll : Type 0
OneIsNotAll = IsFork commands two_skips [] (Seq 0) (branch skip [] ∷ []) → ⊥

-- No number is there, and then none is left; number 0 is, and is left.
abbrev pub NoneIsLeft : Type 0
NoneIsLeft = AreBranches commands [] [] (branch skip [] ∷ branch skip [] ∷ [])

abbrev pub ZeroIsLeft : Type 0
ZeroIsLeft = AreBranches commands [] (0 ∷ []) (branch skip [] ∷ branch skip [] ∷ []) → ⊥
