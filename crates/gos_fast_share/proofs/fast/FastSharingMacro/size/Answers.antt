use Rattle.std.proofs.Common.{◌≡◌, ◌+◌, length, subst, arith}
use Rattle.gos_types.specs.Types.{type_of}
use Rattle.gos_plan.proofs.TypeLemmas.{size_le}
use Rattle.gos_share.proofs.SharingLemmas.{few_handshakes, contacts_length}
use Rattle.gos_fast_share.specs.Fast.{fast_cells}
use Rattle.gos_fast_share.specs.Made.{Made}
use Rattle.gos_fast_share.specs.inner.Seen.{all_of}
use Rattle.gos_fast_share.specs.laws.Named.{fast_length}
use Rattle.gos_fast_share.proofs.fast.FastSharingMacro.size.Goals as goal

pub count-requires : goal.count-requires
count-requires c =
    let nodes = size_le (type_of c.self.inside.ty.now) in
    let long = contacts_length (type_of c.self.inside.ty.now) in
    let few = few_handshakes c.self.inside.ty.now c.self.invariant.0 in
    omega (arith, nodes, long, few)

pub returns-clause-cells : goal.returns-clause-cells
returns-clause-cells c = λ base nets.
    let number = c.requests_in.ensures.number in
    let blocks = c.all.ensures.size in
    let long = fast_length base nets (all_of c.self.inside.ty.now) c.self.inside.order.now in
    subst (λ (m : Made). length (fast_cells (all_of m.ty) m.order base nets) ≡ 2 + c.requests_in.result + c.all.result) c.self.view_is
    (omega (arith, long, number, blocks))
