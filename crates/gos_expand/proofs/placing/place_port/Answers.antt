use Rattle.std.proofs.Common.{◌≡◌, ◌∙◌, ℕ, List, sym, ap, subst, arith, length}
use Rattle.gos_netlist.specs.Nets.{Cell}
use Rattle.gos_netlist.specs.Seen.{side_of}
use Rattle.gos_plan.specs.Kinds.{Contact}
use Rattle.gos_plan.specs.Contacts.{contact_held}
use Rattle.gos_plan.specs.Plans.{End, Plan}
use Rattle.gos_plan.specs.Seen.{plan_of, end_of}
use Rattle.gos_expand.specs.Blocks.{Nets}
use Rattle.gos_expand.specs.Starts.{Laying, Outer, shake_size}
use Rattle.gos_expand.specs.inner.Tokens.{held_nets, Places}
use Rattle.gos_expand.specs.Laid.{side_cells, shake_cells}
use Rattle.gos_expand.specs.inner.Outers.{outer_at}
use Rattle.gos_expand.proofs.CountLemmas.{shake_placed}
use Rattle.gos_expand.proofs.GroupLemmas.{shake_length}
use Rattle.gos_expand.proofs.LeafLemmas.{some_there}
use Rattle.gos_expand.proofs.PlacingLemmas.{block_placed, block_fits}
use Rattle.gos_expand.specs.inner.Numbering.{laying_in}
use Rattle.gos_expand.proofs.placing.place_port.Goals as goal

pub place_shake-requires-clause-spare : goal.place_shake-requires-clause-spare
place_shake-requires-clause-spare c =
    let lay : Laying = laying_in c.args.numbering.now in
    let p : Plan = plan_of c.args.plan.now in
    let o : Outer = outer_at p c.args.place in
    let h : ℕ = c.loop-shake.shake in
    let e : End = end_of c.end-end.result in
    let all = c.requires.all in
    let within = c.loop-shake-test.true in
    let found = some_there o.contacts h (omega (arith, all, within)) in
    let told = sym c.in-Some.is ∙ (c.get.ensures ∙ c.requires.numbered.of_arrivals e) in
    let same =
    shake_placed lay p c.args.place h found.0 c.in-Some.entry (side_of c.side.result) (held_nets c.arrives-nets.result) e found.1 told c.end-end.ensures c.side.ensures c.arrives-nets.ensures in
    let counts = ap (λ (cs : List Cell). length cs) same in
    let contact : Contact = contact_held c.in-Some.entry.contact in
    let nets : Nets = held_nets c.arrives-nets.result in
    let size : length (side_cells (side_of c.side.result) contact nets) ≡ shake_size 0 contact = shake_length (side_of c.side.result) contact nets in
    let spare = c.requires.spare in
    let fits =
    block_fits (shake_cells lay p o) h 0 0 o.contacts found.0 c.args.pool.now c.loop-shake.pool found.1 c.loop-shake.invariant.0 (omega (arith, spare)) in
    omega (arith, fits, counts, size)

pub loop-shake-preserved : goal.loop-shake-preserved
loop-shake-preserved c =
    let lay : Laying = laying_in c.args.numbering.now in
    let p : Plan = plan_of c.args.plan.now in
    let o : Outer = outer_at p c.args.place in
    let h : ℕ = c.loop-shake.shake in
    let e : End = end_of c.end-end.result in
    let all = c.requires.all in
    let within = c.loop-shake-test.true in
    let found = some_there o.contacts h (omega (arith, all, within)) in
    let told = sym c.in-Some.is ∙ (c.get.ensures ∙ c.requires.numbered.of_arrivals e) in
    let same =
    shake_placed lay p c.args.place h found.0 c.in-Some.entry (side_of c.side.result) (held_nets c.arrives-nets.result) e found.1 told c.end-end.ensures c.side.ensures c.arrives-nets.ensures in (
      block_placed (shake_cells lay p o) h 0 0 o.contacts found.0 c.args.pool.now c.loop-shake.pool c.place_shake.new.pool found.1 c.loop-shake.invariant.0
          (subst (λ (cs : List Cell). Places c.loop-shake.pool c.place_shake.new.pool cs 0) same c.place_shake.ensures.placed),
      c.place_shake.ensures.region ∙ c.loop-shake.invariant.1,
    )
