use Rattle.std.proofs.Common.{rules, ◌≡◌, ◌≤◌, ◌+◌, ◌∷◌, Bool, true, false, subst, arith}
use Rattle.gos_pulse.specs.inner.Board.{IsTried}
use Rattle.gos_pulse.proofs.QueueLemmas.{first_known, held_by}
use Rattle.gos_pulse.proofs.queue.give_first.Goals as goal

pub returns-then-not-give-clause-given : goal.returns-then-not-give-clause-given
returns-then-not-give-clause-given c = λ net past given ports stands known.
    let entry = c.in_ok-entry.entry.now in
    let rest = c.in_ok-entry.others.now in
    let first : c.args.queue.entries.now ≡ entry ∷ rest = search rules in
    let no : c.give.result ≡ false = search rules in
    let tried = subst (λ (b : Bool). IsTried net past given entry b c.give.new.self) no (c.give.ensures net past given ports stands (first_known net c.args.queue.entries.now entry rest first known)) in
    held_by net past given c.args.t c.args.queue.since c.args.queue.entries.now entry rest c.give.new.self first tried

pub returns-clause-given : goal.returns-clause-given
returns-clause-given c = λ net past given ports stands known.
    let entry = c.in_ok-entry.entry.now in
    let rest = c.in_ok-entry.others.now in
    let first : c.args.queue.entries.now ≡ entry ∷ rest = search rules in
    let yes : c.give.result ≡ true = search rules in
    let passed : c.args.queue.since + entry.number ≤ c.args.t = omega (arith, c.if-t-queue.false, c.requires.since) in
    let tried = subst (λ (b : Bool). IsTried net past given entry b c.give.new.self) yes (c.give.ensures net past given ports stands (first_known net c.args.queue.entries.now entry rest first known)) in
    record { entry = entry; first = first; passed = passed; tried = tried }
