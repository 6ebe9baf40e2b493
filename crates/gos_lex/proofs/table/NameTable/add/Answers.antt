use Rattle.gos_lex.proofs.EntryLemmas.{lookup_added}
use Rattle.gos_lex.proofs.table.NameTable.add.Goals as goal

pub returns : goal.returns
returns c = λ other.
    rw c.in_ok-insert.ensures.entries (lookup_added c.args.name c.args.number (λ key. key.items) other c.args.self.now.by_name.entries)
