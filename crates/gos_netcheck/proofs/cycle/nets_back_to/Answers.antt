use Rattle.std.proofs.Common.{◌≡◌, ℕ, List, map, reverse, take, sym, ap, ◌∙◌, add-one, below_more}
use Rattle.std.specs.Prelude.{Some, slice_get}
use Rattle.std.proofs.lemmas.Option.{same_Some}
use Rattle.gos_netlist.specs.Seen.{number_of}
use Rattle.gos_netcheck.proofs.TurnLemmas.{no_net, back_at, front_more}
use Rattle.gos_netcheck.proofs.cycle.nets_back_to.Goals as goal

pub returns-then-back-net : goal.returns-then-back-net
returns-then-back-net c =
    let here = back_at c.args.path.now c.loop-i.i no_net c.loop-i-test.true in (
      c.loop-i.i,
      here ∙ ap Some c.if-back-net.true,
      ap (map number_of) c.in_ok-push.ensures.items
          ∙ front_more c.args.path.now c.loop-i.nets.items c.loop-i.i no_net c.loop-i-test.true c.loop-i.invariant.0,
    )

pub loop-i-preserved : goal.loop-i-preserved
loop-i-preserved c =
    let path : List ℕ = reverse (map number_of c.args.path.now) in
    let here = back_at c.args.path.now c.loop-i.i no_net c.loop-i-test.true in
    let P : ℕ → Type 0 = λ k. slice_get path k ≡ Some c.args.net.0 → ⊥ in (
      ap (map number_of) c.in_ok-push.ensures.items
          ∙ front_more c.args.path.now c.loop-i.nets.items c.loop-i.i no_net c.loop-i-test.true c.loop-i.invariant.0
          ∙ ap (λ (n : ℕ). take n path) (sym (add-one c.loop-i.i)),
      below_more P c.loop-i.i c.loop-i.invariant.1 (λ is. c.if-back-net.false (same_Some _ _ (sym here ∙ is))),
    )
