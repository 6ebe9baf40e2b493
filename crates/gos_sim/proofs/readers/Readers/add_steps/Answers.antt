use Rattle.std.proofs.Common.{ℕ, ◌<◌, ◌∙◌, All, arith, length, subst, sym}
use Rattle.std.proofs.lemmas.Option.{slice_get_within}
use Rattle.gos_netlist.specs.declared.nets.Gate as declared
use Rattle.gos_netlist.specs.Nets.{pins}
use Rattle.gos_netlist.specs.Seen.{function_of}
use Rattle.gos_sim.specs.inner.Program.{IsStepWithin}
use Rattle.gos_sim.specs.inner.Readers.{Reads}
use Rattle.gos_sim.proofs.PlaceLemmas.{all_at, element_at}
use Rattle.gos_sim.proofs.ReaderLemmas.{steps_more}
use Rattle.gos_sim.proofs.readers.Readers.add_steps.Goals as goal

pub add_pins-requires : goal.add_pins-requires
add_pins-requires c =
    let steps = c.args.steps.now in
    let k = c.loop-step.step in
    let there : k < length steps = omega (arith, c.loop-step-test.true, c.len-step-end.ensures) in
    let s = element_at steps k there in
    let heads = c.args.self.now.heads.items in
    let each = c.loop-step.invariant.each in
    let low = (all_at (IsStepWithin (length heads)) steps k s.0 c.requires.steps s.1).reads in
    record {
      pins = subst (λ (gate : declared.Gate). All (λ a. a < length c.loop-step.self.heads.items) (pins (function_of gate))) (sym (c.gate.ensures s.0 s.1))
          (subst (λ (n : ℕ). All (λ a. a < n) (pins (function_of s.0.gate))) (sym each) low);
    }

pub loop-step-preserved : goal.loop-step-preserved
loop-step-preserved c =
    let known = c.loop-step.invariant in
    let old = c.loop-step.self in
    let new = c.add_pins.new.self in
    let add = c.in_ok-add_pins.ensures in
    let steps = c.args.steps.now in
    let k = c.loop-step.step in
    let low : k < length steps = omega (arith, c.loop-step-test.true, c.len-step-end.ensures) in
    let s = element_at steps k low in
    record {
      each = add.each ∙ known.each;
      linked = λ words less linked. add.linked words (omega (arith, less, low)) (known.linked words less linked);
      reads = steps_more old new k steps s.0 s.1 add.kept (subst (λ (gate : declared.Gate). All (λ p. Reads new p k) (pins (function_of gate))) (c.gate.ensures s.0 s.1) add.reads) known.reads;
    }

pub returns-clause-reads : goal.returns-clause-reads
returns-clause-reads c = λ k s at_k.
    let within : k < length c.args.steps.now = slice_get_within c.args.steps.now k s at_k in
    c.loop-step.invariant.reads k (omega (arith, within, c.loop-step-test.false, c.len-step-end.ensures)) s at_k
