use Rattle.std.proofs.Common.{◌≢◌, ◌∙◌, All, get_or, subst, sym, take}
use Rattle.std.proofs.lemmas.List.{take_more}
use Rattle.std.proofs.lemmas.List.Elements.{All-push, All-weaker}
use Rattle.gos_netlist.specs.declared.nets.NetId.{NetId}
use Rattle.gos_netlist.specs.Settling.{at}
use Rattle.gos_sim.specs.inner.Places.{none}
use Rattle.gos_sim.proofs.places.Places.add_nets.Goals as goal

pub loop-net-preserved : goal.loop-net-preserved
loop-net-preserved c =
    let more = c.add.ensures in
    let nets = c.args.nets.now in
    let index = c.loop-net.net-index in
    let Placed : NetId → Type 0 = λ n. at c.add.new.self.of.items n.0 ≢ none in
    record {
      partly = more.partly;
      each = more.each ∙ c.loop-net.invariant.each;
      placed = subst (All Placed) (sym (take_more nets index (record { 0 = 0 }) c.loop-net-test.true))
          (All-push Placed (take index nets) (get_or nets index (record { 0 = 0 }))
          (All-weaker (λ n. at c.loop-net.self.of.items n.0 ≢ none) Placed (λ n placed. more.kept n.0 placed) (take index nets) c.loop-net.invariant.placed)
          more.placed);
    }
