use Rattle.std.proofs.Common.{◌≡◌, ◌≤◌, sym, ◌∙◌, subst, ap, List, ℕ, length}
use Rattle.std.specs.Vec.{with_items}
use Rattle.std.proofs.lemmas.List.{with_items_is}
use Rattle.gos_order.specs.Rings.{HasRing, and_edge, Graph, Edge}
use Rattle.gos_order.specs.inner.NodeLists.{at}
use Rattle.gos_order.specs.inner.Levels.{MakesRoom, AreRaised, AreRising}
use Rattle.gos_order.proofs.RingLemmas.{ring_of_same, ring_of_path, ringless_more}
use Rattle.gos_order.proofs.LevelLemmas.{rising_more, low_more}
use Rattle.gos_order.proofs.order.Order.add.Goals as goal

pub returns-then-from-to-clause-refused : goal.returns-then-from-to-clause-refused
returns-then-from-to-clause-refused c = λ _. ring_of_same c.args.self.now.edges c.args.from c.args.to c.if-from-to.true

pub returns-in_default-clause-refused : goal.returns-in_default-clause-refused
returns-in_default-clause-refused c = λ _.
    subst (λ (g : Graph). HasRing (and_edge g.edges c.args.from c.args.to)) c.self.view_is
    (ring_of_path c.self.inside.links.edges c.args.from c.args.to c.in_default.ensures.room)

pub returns-clause-added : goal.returns-clause-added
returns-clause-added c = λ _.
    subst (λ (g : Graph). HasRing (and_edge g.edges c.args.from c.args.to) → ⊥) c.self.view_is
    (ringless_more c.self.inside.links.edges c.args.from c.args.to c.self.invariant.ringless c.if-from-to.false c.in-Some.ensures.room.apart)

pub invariant_of-self-2 : goal.invariant_of-self-2
invariant_of-self-2 c =
    let from = c.args.from in
    let to = c.args.to in
    let edges = c.self.inside.links.edges in
    let levels = c.self.inside.levels.items in
    let new = c.raise.new.levels in
    let behind = c.room.new.behind.items in
    let makes : MakesRoom edges levels behind from to c.in-Some.level =
    subst (λ (xs : List ℕ). MakesRoom edges xs behind from to c.in-Some.level) c.deref.ensures.value c.in-Some.ensures.room in
    let raised : AreRaised behind c.in-Some.level levels new =
    subst (λ (xs : List ℕ). AreRaised behind c.in-Some.level xs new) c.deref_mut.ensures.value c.raise.ensures in
    let is : (with_items c.self.inside.levels new).items ≡ new =
    with_items_is c.self.inside.levels new (c.raise.ensures.length ∙ c.deref_mut.ensures.len) in
    let more : c.add.new.self.edges ≡ and_edge edges from to = ap (λ (g : Graph). g.edges) c.in_ok-add.ensures.added in
    let nodes : c.add.new.self.nodes ≡ c.self.inside.links.nodes = ap (λ (g : Graph). g.nodes) c.in_ok-add.ensures.added in
    record {
      levels = ap length is ∙ raised.length ∙ c.self.invariant.levels ∙ sym nodes;
      before = c.in-Some.ensures.before_bound ∙ c.self.invariant.before ∙ sym nodes;
      behind = c.in-Some.ensures.behind_bound ∙ c.self.invariant.behind ∙ sym nodes;
      rising =
          subst (λ (xs : List ℕ). AreRising c.add.new.self.edges xs) (sym is)
          (subst (λ (es : List Edge). AreRising es new) (sym more)
          (rising_more edges levels behind new from to c.in-Some.level makes raised c.self.invariant.rising));
      low =
          subst (λ (xs : List ℕ). (node : ℕ) → at xs node ≤ length c.add.new.self.edges) (sym is)
          (subst (λ (es : List Edge). (node : ℕ) → at new node ≤ length es) (sym more)
          (low_more edges levels behind new from to c.in-Some.level makes raised c.self.invariant.low));
      small = c.in_ok-add.ensures.small;
      ringless =
          subst (λ (es : List Edge). HasRing es → ⊥) (sym more)
          (ringless_more edges from to c.self.invariant.ringless c.if-from-to.false makes.apart);
    }
