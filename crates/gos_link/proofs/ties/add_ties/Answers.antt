use Rattle.std.proofs.Common.{◌≡◌, ◌∙◌, ◌<◌, ℕ, List, Some, get_or, ap, length, map}
use Rattle.std.specs.Prelude.{slice_get, option_map}
use Rattle.std.proofs.lemmas.Option.{slice_get-get_or, slice_get-map}
use Rattle.gos_plan.specs.Seen.{end_of, joint_of}
use Rattle.gos_link.specs.inner.Counts.{HasRoom, HaveRoom}
use Rattle.gos_plan.specs.declared.plan.End.TheVariants as ends
use Rattle.gos_plan.specs.declared.plan.Joint as declared_joint
use Rattle.gos_ties.specs.declared.points.Tie.{Tie}
use Rattle.gos_ties.specs.Ties.{tie}
use Rattle.gos_link.proofs.CountedLemmas.{joint_room}
use Rattle.gos_link.proofs.TieLemmas.{ties_more}
use Rattle.gos_link.proofs.ties.add_ties.Goals as goal

-- the ends of a joint have room
room : (start n : ℕ) (joints : List declared_joint.Joint) (k : ℕ) (d : declared_joint.Joint) → HaveRoom start n (map joint_of joints) → k < length joints
    → HasRoom start n (end_of (get_or joints k d).asks) × HasRoom start n (end_of (get_or joints k d).serves)
room start n joints k d all low =
    let at : slice_get (map joint_of joints) k ≡ Some (joint_of (get_or joints k d)) =
    slice_get-map joint_of joints k ∙ ap (option_map joint_of) (slice_get-get_or joints k d low) in
    joint_room start n (map joint_of joints) k (joint_of (get_or joints k d)) all at

pub point_of-one-requires : goal.point_of-one-requires
point_of-one-requires c =
    (room c.args.start (length c.args.places.now) c.args.joints.now c.loop-joint.joint-index (record { asks = ends.Part 0 0; serves = ends.Part 0 0 })
    c.requires c.loop-joint-test.true).0

pub point_of-other-requires : goal.point_of-other-requires
point_of-other-requires c =
    (room c.args.start (length c.args.places.now) c.args.joints.now c.loop-joint.joint-index (record { asks = ends.Part 0 0; serves = ends.Part 0 0 })
    c.requires c.loop-joint-test.true).1

pub loop-joint-preserved : goal.loop-joint-preserved
loop-joint-preserved c = λ ss root k from are outcome.
    let n : ℕ = c.loop-joint.joint-index in
    let d : declared_joint.Joint = record { asks = ends.Part 0 0; serves = ends.Part 0 0 } in
    let j : declared_joint.Joint = get_or c.args.joints.now n d in
    let at : slice_get c.args.joints.now n ≡ Some j = slice_get-get_or c.args.joints.now n d c.loop-joint-test.true in
    let one = c.point_of-one.ensures ss root k from are outcome in
    let other = c.point_of-other.ensures ss root k from are outcome in
    let t : Tie = record { one = c.point_of-one.result; other = c.point_of-other.result } in
    ties_more ss root k c.args.start from n j c.args.joints.now t c.loop-joint.ties.items c.push.new.self.items _ at (λ i. tie (one i) (other i)) c.in_ok-push.ensures.items
    (c.loop-joint.invariant ss root k from are outcome)
