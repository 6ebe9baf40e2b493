use Rattle.std.proofs.Common.{◌≡◌, ◌∙◌, List, length, ap, ap₂, arith, Bool}
use Rattle.std.proofs.lemmas.List.{length-append}
use Rattle.gos_pool.specs.Pools.{Pool}
use Rattle.gos_netlist.specs.Nets.{Cell}
use Rattle.gos_plan.specs.Plans.{Plan}
use Rattle.gos_plan.specs.Seen.{plan_of}
use Rattle.gos_plan.specs.declared.kinds.Kind.{Kind}
use Rattle.gos_expand.specs.Blocks.{blocks}
use Rattle.gos_expand.specs.Starts.{Laying, chosen, ports_of, loose_ends}
use Rattle.gos_expand.specs.declared.orders.Orders.{Orders}
use Rattle.gos_expand.specs.inner.Orders.{making_in}
use Rattle.gos_expand.specs.inner.Numbering.{laying, laying_in}
use Rattle.gos_expand.specs.Laid.{circuit, port_cells, joint_cells, loose_cells, part_cells}
use Rattle.gos_expand.proofs.GroupLemmas.{ports_long, joints_long, loose_long, parts_long}
use Rattle.gos_expand.proofs.WholeLemmas.{four_groups}
use Rattle.gos_expand.proofs.whole.lay_out.Goals as goal

pub place_ports-requires-clause-spare : goal.place_ports-requires-clause-spare
place_ports-requires-clause-spare c =
    let lay : Laying = laying_in c.in_ok-numbering.numbering in
    let p : Plan = plan_of c.args.plan.now in
    let spare = c.in_ok-reserve.ensures.spare in
    let whole = c.in_ok-numbering.ensures.numbered.whole in
    let ports = ports_long lay p in
    omega (arith, spare, whole, ports)

pub place_joints-requires-clause-spare : goal.place_joints-requires-clause-spare
place_joints-requires-clause-spare c =
    let lay : Laying = laying_in c.in_ok-numbering.numbering in
    let p : Plan = plan_of c.args.plan.now in
    let spare = c.in_ok-reserve.ensures.spare in
    let whole = c.in_ok-numbering.ensures.numbered.whole in
    let ports = ports_long lay p in
    let joints = joints_long lay p in
    let first = c.place_ports.ensures.spare in
    omega (arith, spare, whole, ports, joints, first)

pub place_loose-requires-clause-spare : goal.place_loose-requires-clause-spare
place_loose-requires-clause-spare c =
    let lay : Laying = laying_in c.in_ok-numbering.numbering in
    let p : Plan = plan_of c.args.plan.now in
    let spare = c.in_ok-reserve.ensures.spare in
    let whole = c.in_ok-numbering.ensures.numbered.whole in
    let ports = ports_long lay p in
    let joints = joints_long lay p in
    let loose = loose_long p in
    let first = c.place_ports.ensures.spare in
    let second = c.place_joints.ensures.spare in
    omega (arith, spare, whole, ports, joints, loose, first, second)

pub place_parts-requires-clause-start : goal.place_parts-requires-clause-start
place_parts-requires-clause-start c =
    let lay : Laying = laying_in c.in_ok-numbering.numbering in
    let p : Plan = plan_of c.args.plan.now in
    let ports = ports_long lay p in
    let joints = joints_long lay p in
    let loose = loose_long p in
    let none = ap (λ (q : Pool). length q.cells) c.new-pool.ensures in
    let same = ap (λ (q : Pool). length q.cells) c.in_ok-reserve.ensures.lists in
    let first = ap (λ (cs : List Cell). length cs) c.place_ports.ensures.cells in
    let second = ap (λ (cs : List Cell). length cs) c.place_joints.ensures.cells in
    let third = ap (λ (cs : List Cell). length cs) c.place_loose.ensures.cells in
    let one = length-append c.reserve.new.self.cells (blocks (port_cells lay p) 0 (ports_of p)) in
    let two = length-append c.place_ports.new.pool.cells (blocks (joint_cells lay p) 0 p.joints) in
    let three = length-append c.place_joints.new.pool.cells (blocks (loose_cells p) 0 (loose_ends p)) in
    omega (arith, ports, joints, loose, none, same, first, second, third, one, two, three)

pub place_parts-requires-clause-spare : goal.place_parts-requires-clause-spare
place_parts-requires-clause-spare c =
    let lay : Laying = laying_in c.in_ok-numbering.numbering in
    let p : Plan = plan_of c.args.plan.now in
    let spare = c.in_ok-reserve.ensures.spare in
    let whole = c.in_ok-numbering.ensures.numbered.whole in
    let count = ap (λ (ks : List Kind). length ks) c.parts.ensures.value in
    let ports = ports_long lay p in
    let joints = joints_long lay p in
    let loose = loose_long p in
    let parts = parts_long lay p in
    let first = c.place_ports.ensures.spare in
    let second = c.place_joints.ensures.spare in
    let third = c.place_loose.ensures.spare in
    omega (arith, spare, whole, count, ports, joints, loose, parts, first, second, third)

pub returns-clause-laid : goal.returns-clause-laid
returns-clause-laid c =
    let lay : Laying = laying_in c.in_ok-numbering.numbering in
    let p : Plan = plan_of c.args.plan.now in
    let none = ap (λ (q : Pool). q.cells) c.in_ok-reserve.ensures.lists ∙ ap (λ (q : Pool). q.cells) c.new-pool.ensures in
    let cells = c.into_cells.ensures ∙ four_groups (blocks (port_cells lay p) 0 (ports_of p)) (blocks (joint_cells lay p) 0 p.joints) (blocks (loose_cells p) 0 (loose_ends p)) (blocks (part_cells lay p) 0 p.parts) c.reserve.new.self.cells c.place_ports.new.pool.cells c.place_joints.new.pool.cells c.place_loose.new.pool.cells c.place_parts.new.pool.cells
    none c.place_ports.ensures.cells c.place_joints.ensures.cells c.place_loose.ensures.cells c.place_parts.ensures.cells in
    let same : lay ≡ laying (chosen c.args.keep.now) (making_in c.args.orders.now) =
    ap₂ (λ (keeps : List Bool) (orders : Orders). laying (chosen keeps) (making_in orders)) c.in_ok-numbering.ensures.keep c.in_ok-numbering.ensures.orders in
    rw (cells, c.in_ok-ports.ensures) (ap (λ (k : Laying). circuit k p c.args.root.now) same)

-- what the caller sees to, and what each plan is, are what the laws ask
pub returns-clause-can : goal.returns-clause-can
returns-clause-can c =
    record { in_range = c.parts.ensures.in_range; right = c.in_ok-numbering.ensures.right; ports = record { result = c.requires.result; ground = c.requires.ground }; names = c.requires.names }
