use Rattle.gos_sim.proofs.MarkLemmas.{clear_kept, read_at}
use Rattle.gos_sim.proofs.marks.Marks.take.Goals as goal

pub returns-clause-kept : goal.returns-clause-kept
returns-clause-kept c =
    let words = c.args.self.now.words.items in
    clear_kept words c.args.word _ c.index_mut.result.now (read_at words _ _ c.requires.word c.index_mut.ensures.value) c.requires.word c.lowest-bit.ensures
