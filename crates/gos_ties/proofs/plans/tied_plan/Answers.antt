use Rattle.std.proofs.Common.{List, map, subst, sym}
use Rattle.std.specs.Prelude.{◌↔◌}
use Rattle.gos_plan.specs.declared.kinds.Kind.{Kind}
use Rattle.gos_plan.specs.declared.plan.PlanImport.{PlanImport}
use Rattle.gos_plan.specs.Plans.{End, IsRight}
use Rattle.gos_plan.specs.Seen.{SeenPlan, joint_of, plan_of}
use Rattle.gos_ties.specs.Ties.{Connects, Has, joint}
use Rattle.gos_ties.specs.inner.Found.{bare}
use Rattle.gos_ties.proofs.FaultLemmas.{no_fault}
use Rattle.gos_ties.proofs.PlanLemmas.{of_plan}
use Rattle.gos_ties.proofs.plans.tied_plan.Goals as goal

pub only_memory-requires : goal.only_memory-requires
only_memory-requires c =
    let s : SeenPlan =
    record {
      weight = c.args.weight;
      imports = c.args.imports.items;
      outcome = c.args.outcome;
      parts = c.args.parts.items;
      joints = c.in_ok-joints.joints.items;
    }
    in
    let right : IsRight (plan_of s) =
    subst (λ (ks : List Kind). IsRight (plan_of (record { weight = c.args.weight; imports = c.args.imports.items; outcome = c.args.outcome; parts = ks; joints = c.in_ok-joints.joints.items })))
    c.deref-2.ensures.value
    (subst (λ (is : List PlanImport). IsRight (plan_of (record { weight = c.args.weight; imports = is; outcome = c.args.outcome; parts = c.deref-2.result.now; joints = c.in_ok-joints.joints.items })))
    c.deref.ensures.value (c.in_ok-joints.ensures.right c.args.weight))
    in
    no_fault s c.in-Err.fault right c.in-Err.ensures.fault

pub returns-in-Ok-clause-joints : goal.returns-in-Ok-clause-joints
returns-in-Ok-clause-joints c =
    let s : SeenPlan =
    record {
      weight = c.args.weight;
      imports = c.args.imports.items;
      outcome = c.args.outcome;
      parts = c.args.parts.items;
      joints = c.in_ok-joints.joints.items;
    }
    in
    let found : (a b : End) → Has (map joint_of s.joints) (joint a b) ↔ Connects c.args.ties.now (bare s.imports s.outcome s.parts) a b =
    (λ a b.
    subst (λ (ks : List Kind). Has (map joint_of s.joints) (joint a b) ↔ Connects c.args.ties.now (bare s.imports s.outcome ks) a b) c.deref-2.ensures.value
    (subst (λ (is : List PlanImport). Has (map joint_of s.joints) (joint a b) ↔ Connects c.args.ties.now (bare is s.outcome c.deref-2.result.now) a b)
    c.deref.ensures.value (c.in_ok-joints.ensures.joints a b)))
    in
    subst (λ (q : SeenPlan). (a b : End) → Has (plan_of q).joints (joint a b) ↔ Connects c.args.ties.now (plan_of q) a b) (sym c.in-Ok.ensures.plan)
    (of_plan s c.args.ties.now found)
