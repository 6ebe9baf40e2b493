use Rattle.std.proofs.Common.{◌≡◌, ◌++◌, ℕ, List, map, drop}
use Rattle.gos_plan.specs.Seen.{joint_of}
use Rattle.gos_link.specs.declared.services.Service.{Service}
use Rattle.gos_link.specs.inner.Wired.{PlacesAre, place_of_result, ties_in}
use Rattle.gos_link.proofs.ties.add_ties.Given as goal

-- with those of the joints that are left they are all
abbrev pub invariant-loop-joint : goal.invariant-loop-joint
invariant-loop-joint l =
    (ss : List Service) (root k from : ℕ) → PlacesAre ss k from l.places → l.outcome ≡ place_of_result ss root k
    → l.ties.items ++ ties_in ss root k l.start from (map joint_of (drop l.joint-index l.joints))
    ≡ l.initial.ties.items ++ ties_in ss root k l.start from (map joint_of l.joints)
