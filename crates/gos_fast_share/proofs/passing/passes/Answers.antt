use Rattle.std.proofs.Common.{◌≡◌, ◌+◌, ◌-◌, length, sym, ◌∙◌, arith}
use Rattle.std.specs.Prelude.{◌||◌, nat_eq}
use Rattle.std.proofs.lemmas.List.{length-map}
use Rattle.gos_types.specs.Types.{type_of}
use Rattle.gos_types.specs.Handshakes.{handshakes_of}
use Rattle.gos_plan.specs.Kinds.{contact}
use Rattle.gos_plan.proofs.TypeLemmas.{size_le}
use Rattle.gos_fast_share.specs.inner.Seen.{all_of}
use Rattle.gos_fast_share.proofs.PassingLemmas.{to_source, to_first, to_second, to_nowhere}
use Rattle.gos_fast_share.proofs.passing.passes.Goals as goal

pub count-count-requires : goal.count-count-requires
count-count-requires c =
    let nodes = size_le (type_of c.args.ty.now) in
    let long = length-map (handshakes_of (type_of c.args.ty.now)) contact in
    let few = c.requires in
    omega (arith, nodes, long, few)

pub returns-then-to-count : goal.returns-then-to-count
returns-then-to-count c =
    let ks = all_of c.args.ty.now in
    let count : c.count-count.result ≡ length ks = c.count-count.ensures ∙ sym (length-map (handshakes_of (type_of c.args.ty.now)) contact) in
    let low = c.if-to-count.true in
    c.goes_up.ensures
    ∙ ((λ i. nat_eq c.args.from (count i + c.args.to) || nat_eq c.args.from (count i + count i + c.args.to))
    ∙ to_source ks c.args.order.now c.args.from c.args.to (omega (arith, low, count)))

pub returns-then-to-count-2 : goal.returns-then-to-count-2
returns-then-to-count-2 c =
    let ks = all_of c.args.ty.now in
    let count : c.count-count.result ≡ length ks = c.count-count.ensures ∙ sym (length-map (handshakes_of (type_of c.args.ty.now)) contact) in
    let low = c.if-to-count.false in
    let high = c.if-to-count-2.true in
    c.reaches.ensures
    ∙ to_first ks c.args.order.now c.args.from c.args.to (c.args.to - c.count-count.result) (omega (arith, low, count)) (omega (arith, low, high, count))

pub returns-then-to-count-3 : goal.returns-then-to-count-3
returns-then-to-count-3 c =
    let ks = all_of c.args.ty.now in
    let count : c.count-count.result ≡ length ks = c.count-count.ensures ∙ sym (length-map (handshakes_of (type_of c.args.ty.now)) contact) in
    let low = c.if-to-count-2.false in
    let high = c.if-to-count-3.true in
    c.reaches-then-to-count-3.ensures
    ∙ to_second ks c.args.order.now c.args.from c.args.to (c.args.to - c.count-count.result - c.count-count.result) (omega (arith, low, count)) (omega (arith, low, high, count))

pub returns-else-to-count-3 : goal.returns-else-to-count-3
returns-else-to-count-3 c =
    let ks = all_of c.args.ty.now in
    let count : c.count-count.result ≡ length ks = c.count-count.ensures ∙ sym (length-map (handshakes_of (type_of c.args.ty.now)) contact) in
    let over = c.if-to-count-3.false in
    to_nowhere ks c.args.order.now c.args.from c.args.to (omega (arith, over, count))
