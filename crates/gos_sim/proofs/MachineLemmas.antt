-- The machine of a netlist runs as the netlist does, as its nets see it.
use Rattle.std.specs.Prelude.{◌≡◌, ℕ, ◌^◌, ◌≤◌, All, true, false, IsFalse, List, ◌∷◌, Some, length, map, replicate, slice_get, take}
use Rattle.std.proofs.Common.{arith, sym, subst, ap, pow_mono, ◌∙◌}
use Rattle.std.proofs.lemmas.List.{length-map, length-replicate}
use Rattle.gos_netlist.specs.Nets.{Function, Input, Const, Not, And, Or, Xor, Mux, Add, Sub, Eq, Less, Gate, Reg, Cell, Netlist}
use Rattle.gos_netlist.specs.Settling.{Numbers, at}
use Rattle.gos_sim.specs.declared.active.Active.{Active}
use Rattle.gos_sim.specs.declared.machine.Machine.{Machine}
use Rattle.gos_sim.specs.declared.past.Past.TheVariants.{Reset}
use Rattle.gos_sim.specs.declared.pulse.Pulse.{Pulse}
use Rattle.gos_sim.specs.Cycle.{IsCycle, IsNextOutput, pulse_shown}
use Rattle.gos_netcheck.specs.Levels.{AreLevels}
use Rattle.gos_sim.specs.Visits.{IsZeroSettling}
use Rattle.gos_sim.specs.inner.Counting.{ChainLevels}
use Rattle.gos_sim.specs.inner.Places.{AreStepsMoved, IsNumbering, by_net, event_moved, latch_moved}
use Rattle.gos_sim.specs.inner.Active.{IsAwake}
use Rattle.gos_sim.specs.inner.Program.{HasBits, HaveBits, IsShort, IsSized, IsStepOf, cell_of_step}
use Rattle.gos_sim.specs.inner.Machine.{HoldNothingElse, IsBuilt, IsMachine, IsPlan, IsRunnable, Plan, RunsThrough, SettlesAtReset, plan_of}
use Rattle.gos_sim.proofs.MoveLemmas.{bits_moved, pulses_by_net, reset_by_net, runnable_moved, step_from, through_by_net, zeros_by_net}
use Rattle.gos_sim.proofs.PlaceLemmas.{all_at, all_of_at}
use Rattle.gos_sim.proofs.CycleLemmas.{cycle_of, next_output, nothing_at_reset, nothing_else, runnable, zero_settling}

-- a machine that is made of a netlist's events, steps, latches and levels, by places that number its nets
pub machine_made : (net : Netlist) (m : Machine) (plan : Plan) (levels : Numbers) → IsPlan net plan → length m.places.items ≡ length net.cells
    → IsNumbering m.places.items m.count
    → m.inputs.items ≡ map (event_moved (at m.places.items)) plan.inputs → m.outputs.items ≡ map (event_moved (at m.places.items)) plan.outputs
    → AreStepsMoved (at m.places.items) plan.steps m.program → m.latches.items ≡ map (latch_moved (at m.places.items)) plan.latches
    → AreLevels net.cells levels → ChainLevels m.levels levels → IsMachine net m
machine_made net m plan levels of_net each numbering inputs outputs steps latches leveled chained =
    record {
      plan = plan;
      of_net = of_net;
      each = each;
      numbering = numbering;
      moved = record { inputs = inputs; outputs = outputs; steps = steps; latches = latches };
      levels = levels;
      leveled = leveled;
      chained = chained;
    }

-- a constant of so many bits is one of more
short_wider : (f : Function) (w bits : ℕ) → w ≤ bits → IsShort w f → IsShort bits f
short_wider (Const k) w bits low is = let more : 2 ^ w ≤ 2 ^ bits = pow_mono low in omega (arith, is, more)
short_wider Input w bits low is = tt
short_wider (Not a) w bits low is = tt
short_wider (And a b) w bits low is = tt
short_wider (Or a b) w bits low is = tt
short_wider (Xor a b) w bits low is = tt
short_wider (Mux s a b) w bits low is = tt
short_wider (Add a b) w bits low is = tt
short_wider (Sub a b) w bits low is = tt
short_wider (Eq a b) w bits low is = tt
short_wider (Less a b) w bits low is = tt
short_wider (Gate s a) w bits low is = tt
short_wider (Reg a) w bits low is = tt

module _ (net : Netlist) (m : Machine) (machine : IsMachine net m) where
  runs_of_net : IsRunnable (length m.places.items) machine.plan
  runs_of_net = subst (λ (n : ℕ). IsRunnable n machine.plan) (sym machine.each) (runnable net machine.plan machine.of_net)

  long : (v : Numbers) → length (by_net m.places.items v) ≡ length net.cells
  long v = length-map m.places.items (at v) ∙ machine.each

  through : (given seen : List Pulse) (held v after : Numbers) → RunsThrough (plan_of m) given held v seen after
      → RunsThrough machine.plan given (by_net m.places.items held) (by_net m.places.items v) seen (by_net m.places.items after)
  through = through_by_net m.places.items m.count machine.plan (plan_of m) machine.moved machine.numbering runs_of_net

  -- it can run over its places
  pub machine_runnable : IsRunnable m.count (plan_of m)
  machine_runnable = runnable_moved m.places.items m.count machine.plan (plan_of m) machine.moved machine.numbering runs_of_net

  -- its steps have no more bits than the netlist's cells
  pub machine_bits : (bits : ℕ) → All (λ c. c.width ≤ bits) net.cells → HaveBits bits m.program
  machine_bits bits narrow = all_of_at (IsSized bits) m.program (λ k t is.
      let (s, at_s, moved) = step_from (at m.places.items) machine.plan.steps m.program k t machine.moved.steps is in
      let step = all_at (IsStepOf net.cells) machine.plan.steps k s machine.of_net.program.sound at_s in
      bits_moved bits (at m.places.items) s t moved (cell_bits s.net (cell_of_step s) step.0))
    where
      cell_bits : (n : ℕ) (c : Cell) → slice_get net.cells n ≡ Some c → HasBits bits c
      cell_bits n c is =
          let low = all_at (λ c. c.width ≤ bits) net.cells n c narrow is in
          record { width = low; short = short_wider c.gate c.width bits low (machine.of_net.ready.constants n c is) }

  -- a cycle through it is one of the netlist
  pub machine_cycle : (held values after : Numbers) (settlings : List Numbers) (inputs outputs : List Pulse) → HoldNothingElse net.cells (by_net m.places.items held)
      → RunsThrough (plan_of m) inputs held values outputs after
      → IsCycle (record { net = net; registers = by_net m.places.items held; settlings = settlings }) inputs outputs
      (record { net = net; registers = by_net m.places.items after; settlings = by_net m.places.items values ∷ take 1 settlings })
  machine_cycle held values after settlings inputs outputs nothing run =
      cycle_of net machine.plan (by_net m.places.items held) (by_net m.places.items values) (by_net m.places.items after) settlings inputs outputs machine.of_net nothing
      (through inputs outputs held values after run) (long values) (long after)

  -- and cells that are no registers still hold 0
  pub machine_others : (held values after : Numbers) (inputs outputs : List Pulse) → HoldNothingElse net.cells (by_net m.places.items held)
      → RunsThrough (plan_of m) inputs held values outputs after → HoldNothingElse net.cells (by_net m.places.items after)
  machine_others held values after inputs outputs nothing run =
      nothing_else net.cells machine.plan.latches (by_net m.places.items held) (by_net m.places.items after) machine.of_net.latched nothing (through inputs outputs held values after run).rest

  -- what its registers show is what every settling shows
  pub machine_output : (held : Numbers) (settlings : List Numbers) (outputs : List Pulse) → outputs ≡ map (pulse_shown held) m.outputs.items
      → IsNextOutput (record { net = net; registers = by_net m.places.items held; settlings = settlings }) outputs
  machine_output held settlings outputs shows =
      next_output net machine.plan (by_net m.places.items held) settlings outputs machine.of_net
      (shows ∙ (ap (map (pulse_shown held)) machine.moved.outputs ∙ pulses_by_net m.places.items held machine.plan.outputs runs_of_net.outputs))

  -- what settles at reset is a settling
  pub machine_zero : (values : Numbers) → SettlesAtReset (plan_of m) values → IsZeroSettling net.cells (by_net m.places.items values)
  machine_zero values settles =
      zero_settling net machine.plan (by_net m.places.items values) machine.of_net
      (reset_by_net m.places.items m.count machine.plan (plan_of m) machine.moved machine.numbering runs_of_net values settles) (long values)

  -- registers at reset are 0 at each net
  pub machine_zeros : by_net m.places.items (replicate m.count 0) ≡ replicate (length net.cells) 0
  machine_zeros = zeros_by_net m.places.items m.count ∙ ap (λ (n : ℕ). replicate n 0) machine.each

  -- a simulator at reset is as it must be
  pub built_at_reset : (active : Active) (registers values before : Numbers) → IsAwake m.count m.program m.latches.items active → IsFalse active.settled
      → registers ≡ replicate m.count 0 → SettlesAtReset (plan_of m) values
      → length values ≡ m.count → length before ≡ m.count → (bits : ℕ) → All (λ c. c.width ≤ bits) net.cells → IsBuilt bits net m active registers values before false Reset
  built_at_reset active registers values before awake fresh zeros settles values_each before_each bits widths =
      record {
        machine = machine;
        widths = widths;
        state = record {
          registers_each = ap length zeros ∙ length-replicate m.count 0;
          values_each = values_each;
          before_each = before_each;
        };
        others = subst (HoldNothingElse net.cells) (sym (ap (by_net m.places.items) zeros ∙ machine_zeros)) (nothing_at_reset net.cells);
        stands = λ no. absurd (cc);
        came = machine_zero values settles;
        awake = awake;
        settled = λ yes. let never : true ≡ false = sym yes ∙ fresh in absurd (cc);
        noted = λ yes. let never : true ≡ false = sym yes ∙ fresh in absurd (cc);
      }
