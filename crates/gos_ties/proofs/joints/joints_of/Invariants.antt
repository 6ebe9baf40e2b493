use Rattle.std.proofs.Common.{◌≡◌, ◌++◌, map, drop}
use Rattle.gos_plan.specs.Seen.{joint_of}
use Rattle.gos_ties.specs.inner.Found.{bare, far_by, all_found}
use Rattle.gos_ties.proofs.joints.joints_of.Given as goal

-- with the joints at the ties that are left they are all of them
abbrev pub invariant-loop-tie : goal.invariant-loop-tie
invariant-loop-tie l =
    map joint_of l.joints.items ++ all_found (bare l.imports l.outcome l.parts) (far_by l.tables) (drop l.tie-index l.ties)
    ≡ all_found (bare l.imports l.outcome l.parts) (far_by l.tables) l.ties
