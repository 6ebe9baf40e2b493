use Rattle.std.proofs.Common.{List, ℕ, ◌≡◌, ◌≢◌, ◌∙◌, All, Some, refl, slice_get, subst, sym}
use Rattle.gos_netlist.specs.Settling.{at}
use Rattle.gos_sim.specs.declared.event_nets.EventNets.{EventNets}
use Rattle.gos_sim.specs.declared.program.Step.{Step}
use Rattle.gos_sim.specs.declared.program.Latch.{Latch}
use Rattle.gos_sim.specs.declared.wake.Wake.{Wake}
use Rattle.gos_sim.specs.Cycle.{GivesAll}
use Rattle.gos_sim.specs.inner.Program.{HasLatch}
use Rattle.gos_sim.specs.inner.Running.{AreLoaded, KeepsOthers}
use Rattle.gos_sim.specs.inner.Active.{AreLoadedButNoted, KeepsOtherEvents}
use Rattle.gos_sim.proofs.ActiveLemmas.{follows_on}
use Rattle.gos_sim.proofs.PlaceLemmas.{all_at, all_of_at}
use Rattle.gos_sim.proofs.SweepLemmas.{stand_begun}
use Rattle.gos_sim.proofs.active.Active.begin.Goals as goal

pub load-requires-clause-loaded : goal.load-requires-clause-loaded
load-requires-clause-loaded g c =
    let latches = c.args.machine.now.latches.items in
    let given = subst (λ (es : List EventNets). KeepsOtherEvents es c.args.values.now c.give.new.values) c.deref.ensures.value c.give.ensures.others in
    subst (λ (ls : List Latch). AreLoadedButNoted ls c.args.self.now.changed c.args.registers.now c.give.new.values) (sym c.deref-2.ensures.value)
    (λ j l at_j lacks.
    given l.net (λ k e at_k names. all_at (λ (m : Latch). m.net ≢ l.net) latches j l (c.requires.ready.inputs_apart_from_latches k e l.net at_k names) at_j refl)
    ∙ c.requires.settled.unchanged j l at_j lacks)

pub load-requires-clause-listed : goal.load-requires-clause-listed
load-requires-clause-listed g c =
    subst (λ (ls : List Latch). All (HasLatch ls) c.args.self.now.changed.places.items) (sym c.deref-2.ensures.value) c.requires.awake.noted

pub returns-clause-stand : goal.returns-clause-stand
returns-clause-stand g c =
    let steps = c.args.machine.now.program in
    let latches = c.args.machine.now.latches.items in
    let old : Wake = record { readers = c.args.self.now.wake.readers; marks = c.args.self.now.wake.marks; touched = c.clear.new.self } in
    let v = c.args.values.now in
    let given = subst (λ (es : List EventNets). KeepsOtherEvents es v c.give.new.values) c.deref.ensures.value c.give.ensures.others in
    let loaded = subst (λ (ls : List Latch). KeepsOthers ls c.give.new.values c.load.new.values) c.deref-2.ensures.value c.load.ensures.others in
    let apart : (k : ℕ) (s : Step) → slice_get steps k ≡ Some s → All (λ l. l.net ≢ s.net) latches =
    λ k s at_k. all_of_at (λ l. l.net ≢ s.net) latches
    (λ j l at_j same. all_at (λ (t : Step). t.net ≢ l.net) steps k s (c.requires.ready.apart_from_steps j l at_j) at_k (sym same)) in
    let kept : (k : ℕ) (s : Step) → slice_get steps k ≡ Some s → at c.load.new.values s.net ≡ at v s.net =
    λ k s at_k. loaded s.net (apart k s at_k)
    ∙ given s.net (λ j e at_j names. all_at (λ (t : Step). t.net ≢ s.net) steps k s (c.requires.ready.inputs_apart_from_steps j e s.net at_j names) at_k refl) in
    stand_begun steps latches old c.load.new.self v c.load.new.values c.args.registers.now c.requires.awake.reading
    (follows_on old c.give.new.self c.load.new.self v c.give.new.values c.load.new.values c.give.ensures.follows c.load.ensures.follows)
    c.requires.settled.shown c.requires.settled.taken kept

pub returns-clause-begun : goal.returns-clause-begun
returns-clause-begun g c =
    record {
      first = c.give.new.values;
      pulses = subst (λ (es : List EventNets). GivesAll es c.args.inputs.now c.give.new.values) c.deref.ensures.value c.give.ensures.given;
      registers = subst (λ (ls : List Latch). AreLoaded ls c.args.registers.now c.load.new.values) c.deref-2.ensures.value c.load.ensures.loaded;
      others = subst (λ (ls : List Latch). KeepsOthers ls c.give.new.values c.load.new.values) c.deref-2.ensures.value c.load.ensures.others;
    }
