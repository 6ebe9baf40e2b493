use Rattle.std.proofs.Common.{rules, ◌≤◌, ◌+◌, ◌++◌, ◌∷◌, [], ℕ, List, sym, subst}
use Rattle.gos_witness.specs.declared.putting.Job.{Job}
use Rattle.gos_witness.specs.declared.putting.Job.TheVariants as jobs
use Rattle.gos_witness.specs.declared.putting.State.TheVariants as states
use Rattle.gos_witness.specs.NodeLists.{seen}
use Rattle.gos_witness.specs.inner.Jobs.{IsNext}
use Rattle.gos_witness.proofs.DownLemmas.{down_closed, down_leaf, down_one, down_two, down_if}
use Rattle.gos_witness.proofs.putting.down.Goals as goal

pub returns-then-known-depth : goal.returns-then-known-depth
returns-then-known-depth c =
    let l = c.args.list.now in
    let few : c.node-known.result.needs ≤ c.args.depth = search rules in
    down_closed l (seen l c.args.argument) c.args.jobs.now.items c.args.node c.args.depth c.node-known.result c.node-known.ensures.right few c.requires.node c.requires.jobs

pub returns-in-Leaf : goal.returns-in-Leaf
returns-in-Leaf c =
    let l = c.args.list.now in
    down_leaf l c.args.jobs.now.items c.args.node c.args.depth c.node-known.result c.in-Leaf.leaf c.args.argument c.leaf_below.result c.node-known.ensures.right c.in-Leaf.is
    c.requires.node c.requires.argument c.requires.jobs (c.leaf_below.ensures l.tables (seen l c.args.argument))

pub returns-in_ok-push-in-One : goal.returns-in_ok-push-in-One
returns-in_ok-push-in-One c =
    let l = c.args.list.now in
    let n = seen l c.args.argument in
    let js = c.args.jobs.now.items in
    let i = c.args.node in
    let d = c.args.depth in
    subst (λ (more : List Job). IsNext l l n js (states.Down i d) more (states.Down c.in-One.a (d + c.binders.result))) (sym c.in_ok-push-in-One.ensures.items)
    (subst (λ (k : ℕ). IsNext l l n js (states.Down i d) (js ++ jobs.One c.in-One.one ∷ []) (states.Down c.in-One.a (d + k))) (sym c.binders.ensures)
    (down_one l n js i d c.node-known.result c.in-One.one c.in-One.a c.node-known.ensures.right c.in-One.is c.requires.node c.requires.jobs))

pub returns-in_ok-push-in-Two : goal.returns-in_ok-push-in-Two
returns-in_ok-push-in-Two c =
    let l = c.args.list.now in
    let n = seen l c.args.argument in
    let js = c.args.jobs.now.items in
    let i = c.args.node in
    let d = c.args.depth in
    subst (λ (more : List Job). IsNext l l n js (states.Down i d) more (states.Down c.in-Two.a d)) (sym c.in_ok-push-in-Two.ensures.items)
    (down_two l n js i d c.node-known.result c.in-Two.two c.in-Two.a c.in-Two.b c.node-known.ensures.right c.in-Two.is c.requires.node c.requires.jobs)

pub returns-in_ok-push-in-If : goal.returns-in_ok-push-in-If
returns-in_ok-push-in-If c =
    let l = c.args.list.now in
    let n = seen l c.args.argument in
    let js = c.args.jobs.now.items in
    let i = c.args.node in
    let d = c.args.depth in
    subst (λ (more : List Job). IsNext l l n js (states.Down i d) more (states.Down c.in-If.a d)) (sym c.in_ok-push-in-If.ensures.items)
    (down_if l n js i d c.node-known.result c.in-If.a c.in-If.b c.in-If.c c.node-known.ensures.right c.in-If.is c.requires.node c.requires.jobs)
