use Rattle.std.proofs.Common.{◌≡◌, ◌∷◌, [], ℕ, List, ◌+◌, ◌++◌, ◌≤◌, zero, suc, arith, length, map, take, refl, sym, ap, subst, ◌∙◌, length-append, add-one}
use Rattle.std.specs.List.{AllByRecursion}
use Rattle.std.proofs.lemmas.List.{map-append}
use Rattle.std.proofs.lemmas.Option.{slice_get_read}
use Rattle.gos_netlist.specs.declared.nets.NetId.{NetId}
use Rattle.gos_netlist.specs.Seen.{number_of}
use Rattle.gos_netlist.specs.Writable.{IsNumber}
use Rattle.gos_netcheck.proofs.TurnLemmas.{take_one_more}
use Rattle.gos_verilog.specs.PortNets.{PortNet}
use Rattle.gos_verilog.proofs.ListLemmas.{numbers_snoc}
use Rattle.gos_verilog.proofs.ports_of.listed.Goals as goal

pub loop-net-preserved : goal.loop-net-preserved
loop-net-preserved c =
    let nets = c.args.nets.now in
    let k = c.loop-net.net-index in
    let old = c.loop-net.list.items in
    let net = c.net_id.result in
    let seen = c.net-item.result in
    let longer = c.in_ok-push.ensures.items in
    let at = slice_get_read nets (length nets) k seen refl c.loop-net-test.true c.net-item.is in
    let cell : net.0 ≡ seen.cell = c.net_id.ensures.same ∙ ap (λ (n : PortNet). n.cell) c.net.view_is in
    let front : take (k + 1) nets ≡ take k nets ++ seen ∷ [] = ap (λ (n : ℕ). take n nets) (add-one k) ∙ take_one_more nets k seen at in
    record {
      count = ap length longer ∙ (length-append old (net ∷ []) ∙ ap (λ (n : ℕ). n + 1) c.loop-net.invariant.count);
      numbers = subst (λ (list : List NetId). AllByRecursion IsNumber (map number_of list)) (sym longer) (numbers_snoc old net c.loop-net.invariant.numbers c.net_id.ensures.number);
      cells =
          ap (map number_of) longer
          ∙ (map-append number_of old (net ∷ [])
          ∙ ((λ i. c.loop-net.invariant.cells i ++ cell i ∷ [])
          ∙ sym (ap (map (λ (n : PortNet). n.cell)) front ∙ map-append (λ (n : PortNet). n.cell) (take k nets) (seen ∷ []))));
    }

take_past : (nets : List PortNet) (k : ℕ) → length nets ≤ k → take k nets ≡ nets
take_past [] zero past = refl
take_past [] (suc k) past = refl
take_past (n ∷ nets) zero past = absurd (omega (arith, past))
take_past (n ∷ nets) (suc k) past = ap (λ more. n ∷ more) (take_past nets k (omega (arith, past)))

pub returns-clause-cells : goal.returns-clause-cells
returns-clause-cells c = c.loop-net.invariant.cells ∙ ap (map (λ (n : PortNet). n.cell)) (take_past c.args.nets.now c.loop-net.net-index c.loop-net-test.false)
