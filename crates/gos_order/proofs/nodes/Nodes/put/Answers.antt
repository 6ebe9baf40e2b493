use Rattle.std.proofs.Common.{rules, ◌≡◌, ◌<◌, ◌++◌, ◌∷◌, [], ap, sym, subst, arith, length, List, ℕ, set}
use Rattle.std.proofs.lemmas.List.{length-set}
use Rattle.gos_order.specs.inner.NodeLists.{NodeList, IsIn, at}
use Rattle.gos_order.proofs.PlaceLemmas.{put_room, put_placed, put_below}
use Rattle.gos_order.proofs.nodes.Nodes.put.Goals as goal

pub overflow_cast-place : goal.overflow_cast-place
overflow_cast-place c =
    let count : c.len-place.result ≡ length c.self.inside.items.items = search rules in
    let bound : length c.self.inside.places.items ≡ c.args.self.now.bound = ap (λ (nodes : NodeList). nodes.bound) c.self.view_is in
    let within : c.args.node < length c.self.inside.places.items = omega (arith, bound, c.requires.below) in
    let absent : IsIn c.self.inside.items.items c.args.node → ⊥ =
    subst (λ (nodes : NodeList). IsIn nodes.items c.args.node → ⊥) (sym c.self.view_is) c.requires.absent in
    let room : length c.self.inside.items.items < length c.self.inside.places.items =
    put_room c.self.inside.items.items c.self.inside.places.items c.args.node c.self.invariant.placed c.self.invariant.below within absent in
    omega (arith, count, room, c.self.invariant.small)

pub push_reserved-requires : goal.push_reserved-requires
push_reserved-requires c =
    let bound : length c.self.inside.places.items ≡ c.args.self.now.bound = ap (λ (nodes : NodeList). nodes.bound) c.self.view_is in
    let within : c.args.node < length c.self.inside.places.items = omega (arith, bound, c.requires.below) in
    let absent : IsIn c.self.inside.items.items c.args.node → ⊥ =
    subst (λ (nodes : NodeList). IsIn nodes.items c.args.node → ⊥) (sym c.self.view_is) c.requires.absent in
    let room : length c.self.inside.items.items < length c.self.inside.places.items =
    put_room c.self.inside.items.items c.self.inside.places.items c.args.node c.self.invariant.placed c.self.invariant.below within absent in
    omega (arith, room, c.self.invariant.room)

pub invariant_of-self : goal.invariant_of-self
invariant_of-self c =
    let count : length c.self.inside.items.items ≡ c.len-place.result = search rules in
    let bound : length c.self.inside.places.items ≡ c.args.self.now.bound = ap (λ (nodes : NodeList). nodes.bound) c.self.view_is in
    let within : c.args.node < length c.self.inside.places.items = omega (arith, bound, c.requires.below) in
    let absent : IsIn c.self.inside.items.items c.args.node → ⊥ =
    subst (λ (nodes : NodeList). IsIn nodes.items c.args.node → ⊥) (sym c.self.view_is) c.requires.absent in
    let old = c.self.inside.items.items in
    let places = c.self.inside.places.items in
    let now : c.push_reserved.new.self.items ≡ old ++ c.args.node ∷ [] = c.push_reserved.ensures.items in
    record {
      placed =
          subst (λ (items : List ℕ). (place : ℕ) → place < length items → at (set places c.args.node c.len-place.result) (at items place) ≡ place) (sym now)
          (subst (λ (n : ℕ). (place : ℕ) → place < length (old ++ c.args.node ∷ []) → at (set places c.args.node n) (at (old ++ c.args.node ∷ []) place) ≡ place) count
          (put_placed old places c.args.node c.self.invariant.placed c.self.invariant.below within absent));
      below =
          subst (λ (items : List ℕ). (place : ℕ) → place < length items → at items place < length (set places c.args.node c.len-place.result)) (sym now)
          (subst (λ (n : ℕ). (place : ℕ) → place < length (old ++ c.args.node ∷ []) → at (old ++ c.args.node ∷ []) place < length (set places c.args.node n)) count
          (put_below old places c.args.node c.self.invariant.placed c.self.invariant.below within absent));
      small = rw length-set c.self.invariant.small;
      room = rw length-set (rw c.push_reserved.ensures.capacity c.self.invariant.room);
    }
