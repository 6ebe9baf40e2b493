-- Children of one branch, and what are none.
--
-- Read first: Covers. They show that its definition can be met and can be missed.
use Rattle.std.specs.Prelude.{ℕ, List, [], ◌∷◌}
use Rattle.gos_check.specs.declared.linear.Split.{Split}
use Rattle.gos_plan.specs.Plans.{Plan}
use Rattle.gos_compile.specs.Wiring.{Types}
use Rattle.gos_terms.specs.wired.Wired.{Supplies, Placing}
use Rattle.gos_terms.specs.stages.Nodes.{Cared}
use Rattle.gos_terms.specs.run_children.Forks.{Branch, branch_child}
use Rattle.gos_terms.specs.branches.Covers.{AreBranchChildren}

-- one branch has one child, with any plan
abbrev pub OneIsItsChild : Type 0
OneIsItsChild =
    (types : Types) (i j : ℕ) (ss : List Split) (env : Supplies) (ns : List ℕ) (b : Branch) (pl : Placing) (p : Plan)
    → AreBranchChildren types i j ss env ns [] (b ∷ [])
    (record { child = branch_child types i j ss env ns [] b; placing = pl; plan = p } ∷ [])

-- a branch without a child
abbrev pub NoneIsLeftOut : Type 0
NoneIsLeftOut =
    (types : Types) (i j : ℕ) (ss : List Split) (env : Supplies) (ns : List ℕ) (b : Branch) → AreBranchChildren types i j ss env ns [] (b ∷ []) [] → ⊥

-- one child is not two branches', since each is asked at its own handshake
abbrev pub NoneIsTwice : Type 0
NoneIsTwice =
    (types : Types) (i j : ℕ) (ss : List Split) (env : Supplies) (ns : List ℕ) (a b : Branch) (e : Cared)
    → AreBranchChildren types i j ss env ns [] (a ∷ b ∷ []) (e ∷ e ∷ []) → ⊥
