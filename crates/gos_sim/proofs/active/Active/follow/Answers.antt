use Rattle.std.proofs.Common.{ℕ, ◌+◌, ◌-◌, ◌<◌, ◌≡◌, arith, length, refl, rules, subst, sym}
use Rattle.std.proofs.lemmas.Option.{slice_get_read}
use Rattle.gos_netlist.specs.Settling.{Numbers, at}
use Rattle.gos_sim.specs.declared.active.Active.{Active}
use Rattle.gos_sim.specs.inner.Program.{IsLatchWithin, IsStepWithin}
use Rattle.gos_sim.specs.inner.Active.{Follows, HasSwept, Lacks, Stand}
use Rattle.gos_sim.proofs.PlaceLemmas.{all_at}
use Rattle.gos_sim.proofs.SweepLemmas.{stand_latch, stand_none, stand_step, swept_latch, swept_step}
use Rattle.gos_sim.proofs.active.Active.follow.Goals as goal

pub returns-then-item-steps-clause-swept : goal.returns-then-item-steps-clause-swept
returns-then-item-steps-clause-swept g c = λ start loaded held swept.
    let steps = c.args.machine.now.program in
    let v = c.args.values.now in
    let done = c.show_step.ensures.evaluated in
    let t = done.step in
    let latches = c.args.machine.now.latches.items in
    let old = c.args.self.now in
    let new : Active = record { wake = c.show_step.new.wake; changed = old.changed; settled = old.settled; wait = old.wait; pause = old.pause } in
    subst (λ (w : Numbers). HasSwept steps latches start loaded held new w c.args.registers.now) (sym done.values)
    (swept_step steps latches start loaded held old new v c.args.registers.now c.args.item _ t c.requires.ready.apart_from_steps done.is
    (subst (Follows old.wake new.wake v) done.values c.show_step.ensures.follows) refl swept)

pub returns-then-item-steps-clause-stand : goal.returns-then-item-steps-clause-stand
returns-then-item-steps-clause-stand g c =
    let steps = c.args.machine.now.program in
    let latches = c.args.machine.now.latches.items in
    let old = c.args.self.now.wake in
    let v = c.args.values.now in
    let done = c.show_step.ensures.evaluated in
    let t = done.step in
    let within = (all_at (IsStepWithin (length v)) steps c.args.item t c.requires.ready.steps done.is).net in
    subst (λ (w : Numbers). Stand steps latches c.show_step.new.wake.marks.words.items w c.args.registers.now) (sym done.values)
    (stand_step steps latches old c.show_step.new.wake v c.args.registers.now c.args.item _ t c.requires.ready.one_cell done.is within refl c.requires.reading
    (subst (Follows old c.show_step.new.wake v) done.values c.show_step.ensures.follows) c.requires.stand)

pub returns-then-item-steps-2-clause-stand : goal.returns-then-item-steps-2-clause-stand
returns-then-item-steps-2-clause-stand g c =
    let steps = c.args.machine.now.program in
    let latches = c.args.machine.now.latches.items in
    let v = c.args.values.now in
    let k : ℕ = c.args.item - c.len-steps.result in
    let count : c.len-steps.result ≡ length steps = c.len-steps.ensures in
    let many : c.len.result ≡ length c.args.machine.now.latches.items = search rules in
    let low : k < length latches = omega (arith, c.if-item-steps-2.true, many) in
    let place : c.args.item ≡ length steps + k = omega (arith, c.if-item-steps.false, count) in
    let l = c.index.result.now in
    let is = slice_get_read latches (length latches) k l refl low c.index.ensures in
    let within = (all_at (IsLatchWithin (length v)) latches k l c.requires.ready.latches is).net in
    subst (Stand steps latches c.args.self.now.wake.marks.words.items v) (sym c.take_latch.ensures.taken)
    (stand_latch steps latches c.args.self.now.wake.marks.words.items v c.args.registers.now c.args.item k l c.requires.ready.one_pin is place
    (omega (arith, within, c.requires.same)) c.requires.stand)

pub returns-then-item-steps-2-clause-swept : goal.returns-then-item-steps-2-clause-swept
returns-then-item-steps-2-clause-swept g c = λ start loaded held swept.
    let steps = c.args.machine.now.program in
    let latches = c.args.machine.now.latches.items in
    let old = c.args.self.now in
    let v = c.args.values.now in
    let k : ℕ = c.args.item - c.len-steps.result in
    let many : c.len.result ≡ length c.args.machine.now.latches.items = search rules in
    let low : k < length latches = omega (arith, c.if-item-steps-2.true, many) in
    let l = c.index.result.now in
    let is = slice_get_read latches (length latches) k l refl low c.index.ensures in
    let new : Active = record { wake = old.wake; changed = c.take_latch.new.changed; settled = old.settled; wait = old.wait; pause = old.pause } in
    let taken = c.take_latch.ensures.taken in
    subst (HasSwept steps latches start loaded held new v) (sym taken)
    (swept_latch steps latches start loaded held old new v c.args.registers.now k l is refl
    (subst (λ (rs : Numbers). (p : ℕ) → Lacks new.changed p → Lacks old.changed p × (at rs p ≡ at c.args.registers.now p)) taken c.take_latch.ensures.noted)
    c.take_latch.ensures.listed swept)

pub returns-else-item-steps-2-clause-stand : goal.returns-else-item-steps-2-clause-stand
returns-else-item-steps-2-clause-stand g c =
    let steps = c.args.machine.now.program in
    let latches = c.args.machine.now.latches.items in
    let count : c.len-steps.result ≡ length steps = c.len-steps.ensures in
    let many : c.len.result ≡ length c.args.machine.now.latches.items = search rules in
    stand_none steps latches c.args.self.now.wake.marks.words.items c.args.values.now c.args.registers.now c.args.item
    (omega (arith, c.if-item-steps.false, count)) (omega (arith, c.if-item-steps-2.false, many, count)) c.requires.stand
