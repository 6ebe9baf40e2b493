use Rattle.std.proofs.Common.{◌≡◌, ◌+◌, Bool, not, List, [], ◌∷◌, length, refl, sym, ◌∙◌, subst, length-append, arith}
use Rattle.gos_expand.proofs.ChoosingLemmas.{Chosen, few_none, chosen_next}
use Rattle.gos_expand.proofs.choosing.choose.Goals as goal

pub loop-direction-init : goal.loop-direction-init
loop-direction-init c =
    subst (λ (keeps : List Bool). Chosen c.args.directions c.args.graph.now.edges keeps c.args.graph.now × (length keeps ≡ 0))
    (sym c.new-keeps.ensures.items)
    (record { nodes = c.requires.nodes; edges_are = refl; few = few_none c.args.directions c.args.graph.now.edges c.requires.across }, refl)

pub add-requires-clause-from : goal.add-requires-clause-from
add-requires-clause-from c =
    let nodes = c.loop-direction.invariant.0.nodes in let low = c.loop-direction-test.true in omega (arith, nodes, low)

pub add-requires-clause-to : goal.add-requires-clause-to
add-requires-clause-to c =
    let nodes = c.loop-direction.invariant.0.nodes in let low = c.loop-direction-test.true in omega (arith, nodes, low)

pub loop-direction-preserved : goal.loop-direction-preserved
loop-direction-preserved c =
    let keeps = c.loop-direction.keeps.items in
    let left = c.in_ok-left_out.left_out in
    let items = c.in_ok-push.ensures.items in
    let long = c.loop-direction.invariant.1 in
    let size = length-append keeps (not left ∷ []) in
    let next = chosen_next c.args.directions c.args.graph.now.edges keeps c.loop-direction.direction c.loop-direction.graph c.add.new.self left long
    c.loop-direction.invariant.0 c.in_ok-left_out.ensures.added c.in_ok-left_out.ensures.refused c.in_ok-left_out.ensures.after in
    subst (λ (ks : List Bool). Chosen c.args.directions c.args.graph.now.edges ks c.add.new.self × (length ks ≡ c.loop-direction.direction + 1))
    (sym items) (next, omega (arith, size, long))

pub returns-clause-few : goal.returns-clause-few
returns-clause-few c = c.loop-direction.invariant.0.few

pub returns-clause-all : goal.returns-clause-all
returns-clause-all c =
    let long = c.loop-direction.invariant.1 in
    let end = c.loop-direction-test.false in
    let within = c.loop-direction.auto.direction-end in omega (arith, long, end, within)

pub returns-clause-edges : goal.returns-clause-edges
returns-clause-edges c = c.loop-direction.invariant.0.edges_are

pub returns-clause-nodes : goal.returns-clause-nodes
returns-clause-nodes c = c.loop-direction.invariant.0.nodes ∙ sym c.requires.nodes
