use Rattle.std.proofs.Common.{◌≡◌, ◌∙◌, ap, map, rules, set, sym}
use Rattle.std.proofs.Math.Seq.{map-set_same}
use Rattle.std.proofs.lemmas.List.{map-set}
use Rattle.gos_sim.proofs.SameLemmas.{number_read}
use Rattle.gos_sim.proofs.running.take_over.Goals as goal

pub returns-clause-taken : goal.returns-clause-taken
returns-clause-taken g c =
    let number = g.W.Word.number in
    let word = c.index-values-latch.result in
    let read = number_read number c.args.values.now c.args.latch.now.pin word c.requires.pin c.index-values-latch.is in
    map-set number c.args.registers.now c.args.latch.now.net word ∙ ap (set (map number c.args.registers.now) c.args.latch.now.net) (sym read)

pub returns-clause-same : goal.returns-clause-same
returns-clause-same g c = λ yes.
    let number = g.W.Word.number in
    let held = c.index-registers-net.result in
    let word = c.index-values-latch.result in
    let same : number word ≡ number held = search rules in
    map-set_same number c.args.registers.now c.args.latch.now.net word held (same ∙ ap number c.index-registers-net.is)
