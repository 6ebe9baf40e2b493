use Rattle.gos_sim.proofs.MarkLemmas.{read_at, set_kept, set_marked}
use Rattle.gos_sim.proofs.marks.Marks.mark.Goals as goal

pub returns-clause-marked : goal.returns-clause-marked
returns-clause-marked c =
    let words = c.args.self.now.words.items in
    set_marked words c.args.item c.index_mut.result.now (read_at words _ _ c.requires c.index_mut.ensures.value) c.requires

pub returns-clause-kept : goal.returns-clause-kept
returns-clause-kept c =
    let words = c.args.self.now.words.items in
    set_kept words c.args.item c.index_mut.result.now (read_at words _ _ c.requires c.index_mut.ensures.value) c.requires
