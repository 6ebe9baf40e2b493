use Rattle.std.proofs.Common.{sym, subst}
use Rattle.gos_witness.specs.declared.nodes.Leaf.{Leaf}
use Rattle.gos_witness.specs.NodeLists.{leaf_term}
use Rattle.gos_witness.specs.inner.Rows.{LeafShows, label_at}
use Rattle.gos_witness.proofs.showing.leaf_behind.Goals as goal

pub returns-in-Import-clause-shows : goal.returns-in-Import-clause-shows
returns-in-Import-clause-shows c = λ is port.
    let a = c.args.list.now.tables in
    subst (λ (f : Leaf). LeafShows a is (label_at c.args.port.now c.args.label) (leaf_term a f) c.asked.result) (sym c.in-Import.is) (c.asked.ensures.shows is port)

pub returns-in-Wait-clause-shows : goal.returns-in-Wait-clause-shows
returns-in-Wait-clause-shows c = λ is port.
    let a = c.args.list.now.tables in
    subst (λ (f : Leaf). LeafShows a is (label_at c.args.port.now c.args.label) (leaf_term a f) c.answered.result) (sym c.in-Wait.is) (c.answered.ensures.shows is port)
