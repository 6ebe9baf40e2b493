use Rattle.std.proofs.Common.{rules, ◌≡◌, ◌<◌, ℕ, true, false, set, get_or, refl, sym, ap, ◌∙◌, arith, true≢false}
use Rattle.std.specs.Vec.{with_item}
use Rattle.std.proofs.lemmas.Option.{slice_get-get_or}
use Rattle.std.proofs.lemmas.List.{get_or_read}
use Rattle.gos_pulse.specs.declared.entries.Entry.{Entry}
use Rattle.gos_pulse.proofs.AgendaLemmas.{put_none, put_at}
use Rattle.gos_pulse.proofs.agenda.Agenda.put.Goals as goal

pub returns-then-not-entry : goal.returns-then-not-entry
returns-then-not-entry c = λ cycles behind.
    let none : Entry = record { at = false; number = 0; event = 0; value = 0 } in
    let entry : Entry = get_or c.args.entries.now c.args.place none in
    let no : entry.at ≡ false = search rules in
    put_none cycles c.args.entries.now c.args.place entry c.args.self.now (slice_get-get_or c.args.entries.now c.args.place none c.requires.place) behind
    (λ is less. true≢false (sym is ∙ no))

pub returns-then-cycle-len : goal.returns-then-cycle-len
returns-then-cycle-len c = λ cycles behind.
    let none : Entry = record { at = false; number = 0; event = 0; value = 0 } in
    let entry : Entry = get_or c.args.entries.now c.args.place none in
    put_none cycles c.args.entries.now c.args.place entry c.args.self.now (slice_get-get_or c.args.entries.now c.args.place none c.requires.place) behind
    (λ is less. omega (arith, less, behind.first_each, c.len.ensures, c.if-cycle-len.true))

pub returns : goal.returns
returns c = λ cycles behind.
    let none : Entry = record { at = false; number = 0; event = 0; value = 0 } in
    let entry : Entry = get_or c.args.entries.now c.args.place none in
    let yes : entry.at ≡ true = search rules in
    let less : entry.number < cycles = omega (arith, behind.first_each, c.len.ensures, c.if-cycle-len.false) in
    let first = c.args.self.now.first.items in
    let read : c.index.result.now ≡ get_or first entry.number 0 = get_or_read first entry.number c.index.result.now (omega (arith, less, behind.first_each)) c.index.ensures 0 in
    put_at cycles c.args.entries.now c.args.place entry c.args.self.now (slice_get-get_or c.args.entries.now c.args.place none c.requires.place) behind yes less
    (record { first = with_item c.args.self.now.first entry.number c.args.place; next = with_item c.args.self.now.next c.args.place c.index.result.now })
    refl (ap (λ (n : ℕ). set c.args.self.now.next.items c.args.place n) read)
