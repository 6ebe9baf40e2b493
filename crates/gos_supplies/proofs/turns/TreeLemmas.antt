-- The joining of a tree of instances is regular: one serving after another.
use Rattle.std.specs.Prelude.{List, All, length}
use Rattle.std.proofs.Common.{◌≡◌, [], ◌∷◌, ◌++◌}
use Rattle.gos_model.specs.Typing.{Imported}
use Rattle.gos_plan.specs.Plans.{Plan}
use Rattle.gos_plan.specs.TokenBits.{LiteralFits}
use Rattle.gos_realises.specs.realises.Regular.{IsRegular}
use Rattle.gos_realises.proofs.realises.LiteralLemmas.{no_literals, literals_append, literals_joined}
use Rattle.gos_joining.specs.renumbered.SmallRewirings.{unchanged}
use Rattle.gos_joining.proofs.renumbered.OrderLemmas.{regular_back}
use Rattle.gos_joining.proofs.renumbered.RewireLemmas.{rewired_is_renumbered}
use Rattle.gos_supplies.specs.instances.Trees.{Tree, Alone, Serve, left_of, type_of, wired, IsTree}
use Rattle.gos_supplies.proofs.instances.SameLemmas.{joinings_same, order_free}
use Rattle.gos_supplies.proofs.instances.TreeLemmas.{JoinedTree, alone_tree, serve_tree}
use Rattle.gos_supplies.specs.turns.Trees.{AreRegular, TreeIsRegular, RewiredTreeIsRegular}
use Rattle.gos_supplies.proofs.turns.ServeLemmas.{serving_is_regular}

-- a joining of a tree that is regular
record Holds (t : Tree) : Type 0 where
  tree : JoinedTree t
  literals : All LiteralFits tree.plan.parts
  regular : IsRegular tree.plan

serve_holds : (is js : List Imported) (x : Imported) (t u : Tree) → Holds t → Holds u → left_of t ≡ is ++ (x ∷ js) → type_of u ≡ x.ty → Holds (Serve is js x t u)
serve_holds is js x t u of_t of_u lefts types =
    let p : Plan = of_t.tree.plan in
    let q : Plan = of_u.tree.plan in
    let whole = serve_tree is js x t u of_t.tree of_u.tree lefts types in
    record {
      tree = whole.tree;
      literals =
          literals_joined p (q ∷ []) whole.tree.plan whole.serves.joining.parts of_t.literals (literals_append q.parts [] of_u.literals no_literals);
      regular =
          serving_is_regular (length is) x p q whole.tree.plan whole.served whole.fitting of_t.literals of_u.literals of_t.regular of_u.regular whole.serves;
    }

tree_holds : (t : Tree) → IsTree t → AreRegular t → Holds t
tree_holds (Alone p m) (right, realised) (literals, regular) = record { tree = alone_tree p m right; literals = literals; regular = regular }
tree_holds (Serve is js x t u) (of_t, of_u, lefts, types) (one, other) =
    serve_holds is js x t u (tree_holds t of_t one) (tree_holds u of_u other) lefts types

pub tree_is_regular : TreeIsRegular
tree_is_regular t r is are joining =
    let there = tree_holds t is are in
    let one = joinings_same (wired t) r there.tree.plan joining there.tree.joined.joining in
    regular_back unchanged r there.tree.plan (order_free r there.tree.plan one joining.right there.tree.joined.joining.right) there.regular

pub rewired_tree_is_regular : RewiredTreeIsRegular
rewired_tree_is_regular t w forth back f r is are rewired joining =
    let there = tree_holds t is are in
    let (g, same) = rewired_is_renumbered forth back f w (wired t) r there.tree.plan rewired joining there.tree.joined.joining in
    regular_back g r there.tree.plan same there.regular
