use Rattle.std.proofs.Common.{◌≡◌, length, rules, sym}
use Rattle.gos_sim.specs.declared.readers.Reader.{Reader}
use Rattle.gos_sim.proofs.MarkLemmas.{read_at}
use Rattle.gos_sim.proofs.ReaderLemmas.{reads_more, reads_new}
use Rattle.gos_sim.proofs.readers.Readers.add.Goals as goal

pub returns-clause-kept : goal.returns-clause-kept
returns-clause-kept c = λ p other on.
    let heads = c.args.self.now.heads.items in
    let all = c.args.self.now.all.items in
    let x : Reader = record { item = c.args.item; next = c.index-next.result.now } in
    let long : c.len-count.result ≡ length c.args.self.now.all.items = search rules in
    reads_more heads all c.push.new.self.items x c.args.place c.len-count.result other p c.requires.place c.in_ok-push.ensures.items
    (sym (read_at heads _ _ c.requires.place c.index-next.ensures)) long on

pub returns-clause-reads : goal.returns-clause-reads
returns-clause-reads c =
    let heads = c.args.self.now.heads.items in
    let all = c.args.self.now.all.items in
    let x : Reader = record { item = c.args.item; next = c.index-next.result.now } in
    let long : c.len-count.result ≡ length c.args.self.now.all.items = search rules in
    reads_new heads all c.push.new.self.items x c.args.place c.len-count.result c.requires.place c.in_ok-push.ensures.items long
