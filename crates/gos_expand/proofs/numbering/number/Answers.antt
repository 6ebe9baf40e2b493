use Rattle.std.proofs.Common.{arith, ◌≡◌, ◌≤◌, ◌*◌, length, ◌+◌, ℕ, List, map, ap, subst, ◌∙◌}
use Rattle.gos_plan.specs.Plans.{End, Plan}
use Rattle.gos_plan.specs.Seen.{plan_of, end_of, part_of, joint_of, import_of}
use Rattle.gos_plan.specs.Size.{shakes_of}
use Rattle.std.proofs.lemmas.List.{length-map}
use Rattle.gos_expand.specs.Blocks.{total}
use Rattle.gos_expand.specs.Gates.{Making, part_size}
use Rattle.gos_expand.specs.inner.Orders.{making_in}
use Rattle.gos_expand.specs.inner.Numbering.{laying}
use Rattle.gos_expand.specs.Starts.{Laying, chosen, loose_size, loose_ends, loose_ends_start, parts_start}
use Rattle.gos_expand.specs.inner.Arrivals.{AreAt, or_else, start_by_ends, joined_start}
use Rattle.gos_expand.specs.inner.Departures.{departures_from}
use Rattle.gos_expand.proofs.numbering.number.Goals as goal

pub returns-clause-numbered : goal.returns-clause-numbered
returns-clause-numbered c =
    let making : ℕ → Making = making_in c.args.orders.now in
    let lay : Laying = laying (chosen c.args.keep.now) making in
    let p : Plan = plan_of c.args.plan.now in
    let from = c.number_joints-loose_start.ensures.next making in
    let ends : map end_of c.deref.result.now ≡ loose_ends p = rw (c.deref.ensures.value) c.in_ok-loose.ensures.ends in
    let joined = c.number_joints-loose_start.ensures.table making in
    let first : c.number_loose-parts_start.result ≡ parts_start lay p =
    c.number_loose-parts_start.ensures.next p (joined_start lay p) joined
    ∙ (ap (λ (n : ℕ). n + total (loose_size p) 0 (map end_of c.deref.result.now)) from
    ∙ ap (λ (es : List End). loose_ends_start lay p + total (loose_size p) 0 es) ends) in
    let ports = c.in_ok-ports.ensures.few in
    let joints = c.number_joints-loose_start.ensures.few in
    let loose = c.number_loose-parts_start.ensures.few in
    let all_loose : length c.deref.result.now ≤ 2 * (length c.args.plan.now.imports + 1) + shakes_of p.parts = rw (c.deref.ensures.value) c.in_ok-loose.ensures.few in
    let parts = c.in_ok-departures.ensures.few in
    let size = c.requires.size in
    record {
      of_arrivals =
          subst (λ (n : ℕ). AreAt p (λ e. or_else (joined_start lay p e) (start_by_ends p n (loose_ends p) e)) c.number_loose-parts_start.new.arrivals) from
          (subst (λ (es : List End). AreAt p (λ e. or_else (joined_start lay p e) (start_by_ends p c.number_joints-loose_start.result es e)) c.number_loose-parts_start.new.arrivals) ends
          (c.number_loose-parts_start.ensures.table p (joined_start lay p) joined));
      of_orders = c.requires.orders;
      of_loose = c.in_ok-loose.ensures.ends;
      of_ports = c.in_ok-ports.ensures.starts;
      of_departures = c.in_ok-departures.ensures.departures ∙ ap (λ (n : ℕ). departures_from making 0 n p.parts) first;
      first_part = first;
      room = omega (arith, ports, joints, loose, all_loose, parts, size, length-map c.args.plan.now.parts part_of, length-map c.args.plan.now.joints joint_of, length-map c.args.plan.now.imports import_of);
      few = omega (arith, ports, joints, loose, all_loose, parts, length-map c.args.plan.now.parts part_of, length-map c.args.plan.now.joints joint_of, length-map c.args.plan.now.imports import_of);
      whole = c.in_ok-departures.ensures.next ∙ ap (λ (n : ℕ). n + total (λ n k. part_size (lay.making n) k) 0 p.parts) first;
    }

pub loose_ends-requires-clause-table : goal.loose_ends-requires-clause-table
loose_ends-requires-clause-table c =
    (laying (chosen c.args.keep.now) (making_in c.args.orders.now), c.number_joints-loose_start.ensures.table (making_in c.args.orders.now))
