use Rattle.std.proofs.Common.{◌≡◌, ◌≤◌, ◌∙◌, ◌+◌, ◌++◌, ℕ, List, Some, arith, ap, length, map, refl, subst, sym}
use Rattle.std.specs.Prelude.{slice_get}
use Rattle.std.proofs.lemmas.List.{length-map}
use Rattle.std.proofs.lemmas.Option.{slice_get_read, slice_get_within}
use Rattle.gos_plan.specs.declared.kinds.Kind.{Kind}
use Rattle.gos_plan.specs.declared.plan.Joint as declared_joint
use Rattle.gos_plan.specs.declared.plan.PlanImport.{PlanImport}
use Rattle.gos_ties.specs.declared.points.Place.{Place}
use Rattle.gos_plan.specs.Seen.{SeenPlan, joint_of, plan_of}
use Rattle.gos_link.specs.inner.Wired.{PlacesAre, rank, ties_in}
use Rattle.gos_link.specs.inner.Counts.{HaveRoom}
use Rattle.gos_link.proofs.CountedLemmas.{imports_on, parts_on, ties_room}
use Rattle.gos_link.proofs.TieLemmas.{ties_from_more, right_more}
use Rattle.gos_link.proofs.ties.ties_of.Goals as goal

pub add_ties-requires : goal.add_ties-requires
add_ties-requires c =
    let k : ℕ = c.loop-number.number in
    let p : SeenPlan = c.index-plans-number.result in
    let at : slice_get c.args.plans.now k ≡ Some p = slice_get_read c.args.plans.now (length c.args.plans.now) k p refl c.loop-number-test.true c.index-plans-number.is in
    let places : length c.deref.result.now ≡ length p.imports =
    ap (λ (each : List Place). length each) c.deref.ensures.value ∙ (c.in_ok-places.ensures.many ∙ ap (λ (is : List PlanImport). length is) c.imports.ensures) in
    subst (λ (js : List declared_joint.Joint). HaveRoom c.loop-number.start (length c.deref.result.now) (map joint_of js)) (sym c.joints.ensures.value)
    (ties_room c.args.plans.now k p c.loop-number.start (length c.deref.result.now) at c.loop-number.invariant.2 c.requires.parts places c.joints.ensures.right)

pub loop-number-preserved : goal.loop-number-preserved
loop-number-preserved c =
    let k : ℕ = c.loop-number.number in
    let p : SeenPlan = c.index-plans-number.result in
    let at : slice_get c.args.plans.now k ≡ Some p = slice_get_read c.args.plans.now (length c.args.plans.now) k p refl c.loop-number-test.true c.index-plans-number.is in
    let are : PlacesAre c.args.services.now k c.loop-number.stay c.deref.result.now = subst (λ (each : List Place). PlacesAre c.args.services.now k c.loop-number.stay each) (sym c.deref.ensures.value) c.in_ok-places.ensures.each in
    let added = c.in_ok-add_ties.ensures c.args.services.now c.args.root k c.loop-number.stay are c.place_of_result-outcome.ensures in
    let joints = added ∙ ap (λ (js : List declared_joint.Joint). c.loop-number.ties.items ++ ties_in c.args.services.now c.args.root k c.loop-number.start c.loop-number.stay (map joint_of js)) c.joints.ensures.value in
    let start : ℕ = c.loop-number.start + length c.parts.result.now in
    let parts : start ≡ c.loop-number.start + length p.parts = ap (λ (ks : List Kind). c.loop-number.start + length ks) c.parts.ensures.value in
    let stay : c.in_ok-places.places.stay ≡ c.loop-number.stay + rank c.args.services.now k (length p.imports) =
    c.in_ok-places.ensures.stay ∙ ap (λ (is : List PlanImport). c.loop-number.stay + rank c.args.services.now k (length is)) c.imports.ensures in
    let few : c.in_ok-places.places.stay ≤ c.loop-number.stay + length c.imports.result.now = c.in_ok-places.ensures.few in
    let size : length c.imports.result.now ≡ length p.imports = ap (λ (is : List PlanImport). length is) c.imports.ensures in
    let on = parts_on c.args.plans.now k p at in
    let more = imports_on c.args.plans.now k p at in
    let so_far = c.loop-number.invariant.2 in
    let stayed = c.loop-number.invariant.3 in (
      ties_from_more c.args.services.now c.args.root k c.loop-number.start c.loop-number.stay start c.in_ok-places.places.stay p c.args.plans.now
          c.loop-number.ties.items c.add_ties.new.ties.items _ at joints parts stay c.loop-number.invariant.0,
      right_more c.args.plans.now k p at c.joints.ensures.right c.loop-number.invariant.1,
      omega (arith, so_far, on, parts),
      omega (arith, stayed, more, few, size),
    )

pub returns-clause-right : goal.returns-clause-right
returns-clause-right c = λ n p at.
    let low = slice_get_within (map plan_of c.args.plans.now) n p at in
    let size = length-map c.args.plans.now plan_of in
    c.loop-number.invariant.1 n p (omega (arith, low, size)) at
