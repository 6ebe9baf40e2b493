use Rattle.std.proofs.Common.{rules, ◌≡◌, true, false, Bool, get_or, subst, arith}
use Rattle.std.proofs.lemmas.Option.{slice_get-get_or}
use Rattle.gos_pulse.specs.declared.entries.Entry.{Entry}
use Rattle.gos_pulse.specs.inner.Board.{IsTried}
use Rattle.gos_pulse.proofs.AgendaLemmas.{first_at, next_at, none_taken, taken_more, taken_breaks, all_taken}
use Rattle.gos_pulse.proofs.agenda.Agenda.take_all.Goals as goal

pub give-requires : goal.give-requires
give-requires c =
    let r = c.requires in
    let none : Entry = record { at = false; number = 0; event = 0; value = 0 } in
    let so_far = c.loop-place.invariant.taken r.net r.past r.ports r.stands r.entries in
    (r.net, (r.past, so_far.taken, so_far.stands), r.entries c.loop-place.place none c.loop-place-test.true)

pub returns-then-not-give : goal.returns-then-not-give
returns-then-not-give c = λ net past ports stands entries.
    let file = c.args.entries.now in
    let place = c.loop-place.place in
    let none : Entry = record { at = false; number = 0; event = 0; value = 0 } in
    let entry : Entry = get_or file place none in
    let here = slice_get-get_or file place none c.loop-place-test.true in
    let so_far = c.loop-place.invariant.taken net past ports stands entries in
    let no : c.give.result ≡ false = search rules in
    let tried = subst (λ (b : Bool). IsTried net past so_far.taken entry b c.give.new.self) no (c.give.ensures net past so_far.taken ports so_far.stands (entries place none c.loop-place-test.true)) in
    taken_breaks net past c.args.cycle file place c.loop-place.board so_far entry here (c.loop-place.invariant.here entry here) (tried.0, so_far.stands)

pub loop-place-init : goal.loop-place-init
loop-place-init c =
    let r = c.requires in
    let first = first_at r.cycles c.args.cycle c.args.entries.now c.args.self.now c.index-place.result.now r.agenda_of r.within c.index-place.ensures in
    record {
      here = first.here;
      taken = λ net past ports stands entries. none_taken net past c.args.cycle c.args.entries.now c.index-place.result.now c.args.board.now stands first;
    }

pub loop-place-smaller : goal.loop-place-smaller
loop-place-smaller c =
    let r = c.requires in
    let file = c.args.entries.now in
    let place = c.loop-place.place in
    let none : Entry = record { at = false; number = 0; event = 0; value = 0 } in
    let entry : Entry = get_or file place none in
    let here = slice_get-get_or file place none c.loop-place-test.true in
    let next = next_at r.cycles c.args.cycle file c.args.self.now place c.index-place-in-loop-place.result.now entry r.agenda_of r.within here (c.loop-place.invariant.here entry here) c.index-place-in-loop-place.ensures in
    omega (arith, next.after, c.loop-place-test.true)

pub loop-place-preserved : goal.loop-place-preserved
loop-place-preserved c =
    let r = c.requires in
    let file = c.args.entries.now in
    let place = c.loop-place.place in
    let none : Entry = record { at = false; number = 0; event = 0; value = 0 } in
    let entry : Entry = get_or file place none in
    let here = slice_get-get_or file place none c.loop-place-test.true in
    let at_t = c.loop-place.invariant.here entry here in
    let next = next_at r.cycles c.args.cycle file c.args.self.now place c.index-place-in-loop-place.result.now entry r.agenda_of r.within here at_t c.index-place-in-loop-place.ensures in
    let yes : c.give.result ≡ true = search rules in
    record {
      here = next.here;
      taken = λ net past ports stands entries.
          let so_far = c.loop-place.invariant.taken net past ports stands entries in
          let tried = subst (λ (b : Bool). IsTried net past so_far.taken entry b c.give.new.self) yes (c.give.ensures net past so_far.taken ports so_far.stands (entries place none c.loop-place-test.true)) in
          taken_more net past c.args.cycle file place c.loop-place.board so_far entry c.index-place-in-loop-place.result.now c.give.new.self here at_t next tried;
    }

pub returns : goal.returns
returns c = λ net past ports stands entries.
    all_taken net past c.args.cycle c.args.entries.now c.loop-place.place c.loop-place.board (c.loop-place.invariant.taken net past ports stands entries) c.loop-place-test.false
