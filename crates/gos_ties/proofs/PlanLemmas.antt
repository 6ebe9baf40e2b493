-- The handshakes at ends have nothing to do with joints.
use Rattle.std.specs.Prelude.{◌≡◌, ◌↔◌, List, map}
use Rattle.std.proofs.Common.{refl, sym, ◌∙◌}
use Rattle.gos_plan.specs.Plans.{End, PartEnd, ImportEnd, ResultEnd, contact_at}
use Rattle.gos_plan.specs.Seen.{SeenPlan, joint_of, plan_of}
use Rattle.gos_ties.specs.declared.points.Tie.{Tie}
use Rattle.gos_ties.specs.Ties.{Connects, Has, joint}
use Rattle.gos_ties.specs.inner.Found.{bare}

same_contact : (s : SeenPlan) (e : End) → contact_at (bare s.imports s.outcome s.parts) e ≡ contact_at (plan_of s) e
same_contact s (PartEnd i h) = refl
same_contact s (ImportEnd i h) = refl
same_contact s (ResultEnd h) = refl

pub bare_connects : (s : SeenPlan) (ts : List Tie) (a b : End) → Connects ts (bare s.imports s.outcome s.parts) a b → Connects ts (plan_of s) a b
bare_connects s ts a b (q, v, one, other, path) = (q, v, sym (same_contact s a) ∙ one, sym (same_contact s b) ∙ other, path)

connects_bare : (s : SeenPlan) (ts : List Tie) (a b : End) → Connects ts (plan_of s) a b → Connects ts (bare s.imports s.outcome s.parts) a b
connects_bare s ts a b (q, v, one, other, path) = (q, v, same_contact s a ∙ one, same_contact s b ∙ other, path)

-- so the joints that the ties make are those of the plan
pub of_plan : (s : SeenPlan) (ts : List Tie)
    → ((a b : End) → Has (map joint_of s.joints) (joint a b) ↔ Connects ts (bare s.imports s.outcome s.parts) a b)
    → (a b : End) → Has (plan_of s).joints (joint a b) ↔ Connects ts (plan_of s) a b
of_plan s ts found a b = (
  λ h. bare_connects s ts a b ((found a b).0 h),
  λ c. (found a b).1 (connects_bare s ts a b c),
)
