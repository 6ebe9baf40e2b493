-- The plan with the wide Share is there: the joints of the one with the narrow Share, renamed, are right.
use Rattle.std.specs.Prelude.{◌≡◌, map, Contains}
use Rattle.std.proofs.Common.{sym, ap}
use Rattle.gos_plan.specs.Plans.{End, Joint, Plan, IsRight}
use Rattle.gos_plan.proofs.MovedJointLemmas.{map_in, in_map, right_moved}
use Rattle.gos_plan.proofs.JointLemmas.{listed, contained}
use Rattle.gos_joining.specs.webs.Webs.{joint}
use Rattle.gos_sharing.specs.parts_of_types.Narrow.{Narrowing, widened, joint_widened, HasWideShare, IsNarrow, NarrowIsThere}
use Rattle.gos_sharing.proofs.parts_of_types.MovedLemmas.{same_moved, contact_so}

module _ (f : Narrowing) (z u : Plan) (is : HasWideShare f z u) where
  abbrev new : Plan
  new = record z { joints = map (joint_widened f) u.joints }

  pub is_there : IsRight u → IsNarrow f new u
  is_there right =
      record {
        frame =
            record {
              wide_share = is.wide_share;
              narrow_share = is.narrow_share;
              others = is.others;
              imports = is.imports;
              outcome = is.outcome;
              contacts = is.contacts;
              shakes = is.shakes;
              returns = is.returns;
            };
        right = right_moved u new (widened f) right (λ e d k x one other. same_moved f z u is e d) (λ e k at. contact_so f z u is e k at);
        also_right = right;
        joints = λ a b has. listed new.joints (joint (widened f a) (widened f b)) (map_in (joint_widened f) u.joints (joint a b) (contained u.joints (joint a b) has));
        all = back;
      }
    where
      back : (a b : End) → Contains new.joints (joint a b) → (d : End) × (e : End) × Contains u.joints (joint d e) × (widened f d ≡ a) × (widened f e ≡ b)
      back a b has =
          let (k, in_u, same) = in_map (joint_widened f) u.joints (joint a b) (contained new.joints (joint a b) has) in
          (k.asking, k.serving, listed u.joints k in_u, ap (λ (j : Joint). j.asking) (sym same), ap (λ (j : Joint). j.serving) (sym same))

pub narrow_is_there : NarrowIsThere
narrow_is_there f z u is right = is_there f z u is right
