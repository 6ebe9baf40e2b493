use Rattle.std.proofs.Common.{◌≡◌, ◌+◌, ℕ, sym, subst, arith, inl, refl, ◌<◌}
use Rattle.gos_witness.specs.Sizes.{size}
use Rattle.gos_witness.specs.declared.nodes.Form.{Form}
use Rattle.gos_witness.specs.declared.nodes.TheConstants.{MOST_NODES}
use Rattle.gos_witness.specs.NodeLists.{IsCount, seen, shape}
use Rattle.gos_witness.proofs.SizeLemmas.{size_one, size_two}
use Rattle.gos_witness.proofs.nodes.NodeList.size_of.Goals as goal

no_nodes : IsCount 0 0
no_nodes = let some : 0 < MOST_NODES = omega arith in inl (some, refl)

pub returns-in-One : goal.returns-in-One
returns-in-One c =
    let l = c.args.self.now in
    let m = seen l c.in-One.a in
    let is = size_one l.tables c.in-One.field-0 m in
    let sum : 1 + size m + 0 + 0 ≡ size (shape l (Form.One c.in-One.field-0 c.in-One.a)) = omega (arith, is) in
    let count = c.sum_of_sizes.ensures (size m) 0 0 c.node.ensures.right.size no_nodes no_nodes in
    subst (λ (f : Form). IsCount c.sum_of_sizes.result (size (shape l f))) (sym c.in-One.is)
    (subst (λ (k : ℕ). IsCount c.sum_of_sizes.result k) sum count)

pub returns-in-Two : goal.returns-in-Two
returns-in-Two c =
    let l = c.args.self.now in
    let m = seen l c.in-Two.a in
    let n = seen l c.in-Two.b in
    let is = size_two c.in-Two.field-0 m n in
    let sum : 1 + size m + size n + 0 ≡ size (shape l (Form.Two c.in-Two.field-0 c.in-Two.a c.in-Two.b)) = omega (arith, is) in
    let count = c.sum_of_sizes-in-Two.ensures (size m) (size n) 0 c.node-in-Two.ensures.right.size c.node-in-Two-2.ensures.right.size no_nodes in
    subst (λ (f : Form). IsCount c.sum_of_sizes-in-Two.result (size (shape l f))) (sym c.in-Two.is)
    (subst (λ (k : ℕ). IsCount c.sum_of_sizes-in-Two.result k) sum count)

pub returns-in-If : goal.returns-in-If
returns-in-If c =
    let l = c.args.self.now in
    subst (λ (f : Form). IsCount c.sum_of_sizes-in-If.result (size (shape l f))) (sym c.in-If.is)
    (c.sum_of_sizes-in-If.ensures (size (seen l c.in-If.a)) (size (seen l c.in-If.b)) (size (seen l c.in-If.c))
    c.node-in-If.ensures.right.size c.node-in-If-2.ensures.right.size c.node-in-If-3.ensures.right.size)
