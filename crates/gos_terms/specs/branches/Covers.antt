-- The branches of a fork cover it: each end of its plan is one of theirs, but for those at which it is run.
--
-- Read first: Forks; Nodes and Covering of stages. A Share of the node serves two branches, each from its side; a supply whose
-- number is split is seen by each branch that uses a side of it.
use Rattle.std.specs.Prelude.{◌≡◌, ◌≢◌, ℕ, List, [], ◌∷◌, ◌++◌, length}
use Rattle.gos_check.specs.declared.linear.Split.{Split}
use Rattle.gos_check.specs.Nodes.{Numbered}
use Rattle.gos_plan.specs.Plans.{Plan}
use Rattle.gos_nodes.specs.sessions.Sessions.{Form, own_part}
use Rattle.gos_compile.specs.Wiring.{Types}
use Rattle.gos_terms.specs.wired.Wired.{Supplies, Placing, IsWired}
use Rattle.gos_terms.specs.wired.NodeFitting.{AreOfTypes}
use Rattle.gos_terms.specs.stages.Nodes.{Cared, AreCovering}
use Rattle.gos_terms.specs.run_children.Forks.{Branch, IsFork, AreBranches, branch_child}

-- These are the children that the branches are, in their order, behind those that come before.
abbrev pub AreBranchChildren : Types → ℕ → ℕ → List Split → Supplies → List ℕ → List Branch → List Branch → List Cared → Type 0
AreBranchChildren types i j ss env ns before [] [] = Unit {0}
AreBranchChildren types i j ss env ns before [] (e ∷ es) = ⊥
AreBranchChildren types i j ss env ns before (b ∷ bs) [] = ⊥
AreBranchChildren types i j ss env ns before (b ∷ bs) (e ∷ es) =
    (e.child ≡ branch_child types i j ss env ns before b) × AreBranchChildren types i j ss env ns (before ++ b ∷ []) bs es

abbrev pub BranchesCover : Type 0
BranchesCover =
    (f : Form) (types : Types) (i j : ℕ) (m : Numbered) (ss : List Split) (bs : List Branch) (ns : List ℕ) (env : Supplies) (pl : Placing) (r : Plan)
    (es : List Cared)
    → IsFork types m ss (own_part f) bs → AreBranches types ss ns bs → AreOfTypes types env ns → bs ≢ []
    → IsWired types i j m ns env pl r → AreBranchChildren types i j ss env ns [] bs es
    → AreCovering f i pl r (pl.own (length ss)) es
