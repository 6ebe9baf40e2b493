-- The joining of slim plans is slim, and a slim plan within the limit on weight is small.
--
-- Parts, handshakes and weights add up, the imports that stay are among all, and the joints are no more than those of the plans.
use Rattle.std.specs.Prelude.{◌≡◌, ◌≤◌, ℕ, ◌+◌, ◌*◌, List, [], ◌∷◌, ◌++◌, length, map, Some, None}
use Rattle.std.proofs.Common.{refl, ◌∙◌, ap, arith, inl, inr, length-append}
use Rattle.std.proofs.lemmas.List.{length-map}
use Rattle.gos_model.specs.Typing.{Imported}
use Rattle.gos_plan.specs.Kinds.{Part}
use Rattle.gos_plan.specs.Plans.{Plan}
use Rattle.gos_plan.specs.Seen.{SeenPlan}
use Rattle.gos_plan.specs.Size.{shakes_of, numbers_of, plan_size}
use Rattle.gos_plan.specs.Joining.{Link, left_among, all_parts, all_weight, IsJoining}
use Rattle.gos_realises.specs.realises.Slim.{all_shakes, IsSlim}
use Rattle.gos_realises.proofs.realises.CountLemmas.{shakes-append, numbers-append}
use Rattle.gos_link.specs.declared.build.Bind.{Bind}
use Rattle.gos_link.specs.declared.build.Build.{Build}
use Rattle.gos_link.specs.declared.build.Instance.{Instance}
use Rattle.gos_link.specs.declared.fault.LinkFault.TheVariants as faults
use Rattle.gos_link.specs.declared.services.Service.{Service}
use Rattle.gos_link.specs.Services.{BindsOn}
use Rattle.gos_link.specs.Linked.{count_ports, plans_of, whole_of, IsLight}
use Rattle.gos_link.specs.Answers.{all_joints, ArePlansOf, JointsAreFew}
use Rattle.gos_link.specs.inner.Counts.{all_imports}
use Rattle.gos_link.proofs.CountedLemmas.{few_left}
use Rattle.gos_linked.specs.fits.Fits.{AreSlim, LinkedIsSlim, SlimIsNeverTooLarge, SlimIsSmall}

-- handshakes are counted in one way
same_shakes : (ks : List Part) → shakes_of ks ≡ all_shakes ks
same_shakes [] = refl
same_shakes (k ∷ ks) = let rest = same_shakes ks in omega (arith, rest)

-- what slim plans have together is little for their weight
record AreFew (ps : List Plan) : Type 0 where
  joints : all_joints ps + 2 * numbers_of (all_parts ps) ≤ 2 * all_weight ps
  ends : length (all_parts ps) + all_shakes (all_parts ps) + 4 * numbers_of (all_parts ps) ≤ 4 * all_weight ps
  imports : all_imports ps + numbers_of (all_parts ps) ≤ all_weight ps

are_few : (ps : List Plan) → AreSlim ps → AreFew ps
are_few [] slim = record { joints = omega arith; ends = omega arith; imports = omega arith }
are_few (p ∷ ps) (slim, others) =
    let rest = are_few ps others in
    let parts = length-append p.parts (all_parts ps) in
    let shakes = shakes-append p.parts (all_parts ps) in
    let numbers = numbers-append p.parts (all_parts ps) in
    let one_joints = slim.joints in
    let one_ends = slim.ends in
    let one_imports = slim.imports in
    let more_joints = rest.joints in
    let more_ends = rest.ends in
    let more_imports = rest.imports in
    record {
      joints = omega (arith, one_joints, more_joints, numbers);
      ends = omega (arith, one_ends, more_ends, parts, shakes, numbers);
      imports = omega (arith, one_imports, more_imports, numbers);
    }

-- a joining of slim plans that has no more joints than they
joined_slim : (ps : List Plan) (ls : List Link) (r : Plan) → AreSlim ps → r.parts ≡ all_parts ps → r.weight ≡ all_weight ps
    → r.imports ≡ map (λ l. l.import) (left_among ls 0 ps) → length r.joints ≤ all_joints ps → IsSlim r
joined_slim ps ls r slim parts weight imports joints =
    let few = are_few ps slim in
    let all_joints_few = few.joints in
    let all_ends_few = few.ends in
    let all_imports_few = few.imports in
    let ends : length r.parts + all_shakes r.parts ≡ length (all_parts ps) + all_shakes (all_parts ps) =
    ap (λ (ks : List Part). length ks + all_shakes ks) parts in
    let numbers : numbers_of r.parts ≡ numbers_of (all_parts ps) = ap (λ (ks : List Part). numbers_of ks) parts in
    let left : length r.imports ≡ length (left_among ls 0 ps) =
    ap (λ (xs : List Imported). length xs) imports ∙ length-map (left_among ls 0 ps) (λ l. l.import) in
    let few_imports = few_left ls 0 ps in
    record {
      joints = omega (arith, joints, all_joints_few, numbers, weight);
      ends = omega (arith, ends, all_ends_few, numbers, weight);
      imports = omega (arith, left, few_imports, all_imports_few, numbers, weight);
    }

module _ (few_joints : JointsAreFew) (b : Build) (ps : List SeenPlan) (are : ArePlansOf b ps) (slim : AreSlim (plans_of ps)) where
  whole_slim : (ss : List Service) (root : ℕ) (p : Plan) → BindsOn b.instances.items ps [] b.binds.items ss None → IsLight b ps ss root
      → IsJoining (whole_of ps ss root) p → IsSlim p
  whole_slim ss root p binds light joining =
      joined_slim (plans_of ps) (whole_of ps ss root).links p slim joining.parts joining.weight joining.imports
      (few_joints b ps ss root p are binds light.grounded.named.placed joining)

-- a slim plan within the limit on weight
small : (p : Plan) → IsSlim p → p.weight ≤ 32768 → (plan_size p ≤ 5000000) × (count_ports p ≤ 65536)
small p slim light =
    let same = same_shakes p.parts in
    let joints = slim.joints in
    let ends = slim.ends in
    let imports = slim.imports in
    (omega (arith, same, joints, ends, imports, light), omega (arith, imports, light))

pub slim_is_small : SlimIsSmall
slim_is_small p slim =
    let same = same_shakes p.parts in
    let joints = slim.joints in
    let ends = slim.ends in
    let imports = slim.imports in
    omega (arith, same, joints, ends, imports)

-- no bind line is too large
never_bind : (is : List Instance) (ps : List SeenPlan) (before : List Service) (bs : List Bind) (ss : List Service) (size ports : ℕ)
    → BindsOn is ps before bs ss (Some (faults.TooLarge size ports)) → ⊥
never_bind is ps before [] [] size ports binds = cc binds
never_bind is ps before [] (s ∷ ss) size ports binds = absurd binds
never_bind is ps before (b ∷ bs) [] size ports binds = absurd binds
never_bind is ps before (b ∷ bs) (s ∷ ss) size ports binds = never_bind is ps (before ++ s ∷ []) bs ss size ports binds.1

pub linked_is_slim : JointsAreFew → LinkedIsSlim
linked_is_slim few_joints b ps p are slim linked =
    whole_slim few_joints b ps are slim linked.services linked.root p linked.binds linked.light linked.joining

pub slim_is_never_too_large : JointsAreFew → SlimIsNeverTooLarge
slim_is_never_too_large few_joints b ps size ports are slim (inr (ss, binds, (root, p, light, joining, is, count, large))) =
    let weighs : all_weight (plans_of ps) ≤ 32768 = light.weight in
    let weight = joining.weight in
    let (low, few) = small p (whole_slim few_joints b ps are slim ss root p binds light joining) (omega (arith, weighs, weight)) in
    elim large [ inl h ↦ absurd (omega (arith, h, is, low)) | inr h ↦ absurd (omega (arith, h, count, few)) ]
slim_is_never_too_large few_joints b ps size ports are slim (inl (ss, binds)) = never_bind b.instances.items ps [] b.binds.items ss size ports binds
