-- In a run from reset whose inputs are clean, the outputs of a plan's netlist are silent.
--
-- Read first: SilenceLemmas, of one cycle; BitLemmas, that what comes in at parts is a pulse or none.
use Rattle.std.proofs.Common.{◌≡◌, ℕ, ◌≤◌, ◌<◌, List, [], ◌∷◌, map, Some, length, replicate, sym, subst, arith}
use Rattle.gos_netlist.specs.Cycles.{HasCycle}
use Rattle.gos_netlist.specs.Settling.{Numbers, at, next_registers, RunFrom}
use Rattle.gos_netcheck.specs.CellRules.{WidthsFit}
use Rattle.gos_model.specs.Typing.{Imported}
use Rattle.gos_pace.specs.Silence.{InputsAreClean, OutputsAreSilent}
use Rattle.gos_plan.specs.Kinds.{Contact}
use Rattle.gos_plan.specs.Plans.{End, PartEnd, Plan, contact_at}
use Rattle.gos_plan.specs.Tokens.{IsPortEnd}
use Rattle.gos_plan.specs.Seen.{plan_of}
use Rattle.gos_expand.specs.Kept.{AllKeepPaths}
use Rattle.gos_expand.specs.Starts.{plain, Laying}
use Rattle.gos_expand.specs.Laid.{leaves, arrives, circuit_cells, circuit}
use Rattle.gos_expand.specs.Acceptance.{AreDifferent}
use Rattle.gos_expand.specs.Facts.{bits_put, CycleFacts, PlanFacts, PartFacts}
use Rattle.gos_expand.specs.Runs.{CircuitStaysSilent, LaidStaysSilent}
use Rattle.gos_expand.proofs.NetLemmas.{IsAny}
use Rattle.gos_expand.proofs.FlowLemmas.{IsSound, any_arriving, arrives_nets}
use Rattle.gos_expand.proofs.AcceptLemmas.{same_names, sound, circuit_accepted}
use Rattle.gos_expand.proofs.WiringLemmas.{places_in}
use Rattle.gos_expand.proofs.RunLemmas.{all_zero, cycle_facts, part_facts, plan_facts, ranks_of, ranks_go_up, rings_cycles, ringless}
use Rattle.gos_expand.proofs.BitLemmas.{AreBits, bits_shown, bits_held}
use Rattle.gos_expand.proofs.SilenceLemmas.{IsSilent, RegistersAreSilent, registers_after, shows_silent, silent_at_reset}
use Rattle.gos_expand.proofs.SilentPortLemmas.{given_silent, ports_silent}

module _ (lay : Laying) (p : Plan) (root : List ℕ) (fits : IsSound lay p) (differ : AreDifferent (root ∷ map (λ (x : Imported). x.name) p.imports))
    (rank : End → ℕ) (parts : PartFacts lay p rank) (plan : PlanFacts lay p (places_in lay p)) (acyclic : HasCycle (circuit_cells lay p) → ⊥) (widths : WidthsFit (circuit_cells lay p)) where
  run_silent : (ins vs : List Numbers) (regs : Numbers) → AreBits (circuit_cells lay p) regs → RegistersAreSilent lay p (places_in lay p) regs
      → InputsAreClean (circuit lay p root) ins → RunFrom (circuit_cells lay p) regs ins vs → OutputsAreSilent (circuit lay p root) vs
  run_silent [] vs regs bits before clean run = subst (OutputsAreSilent (circuit lay p root)) (sym run) tt
  run_silent (i ∷ ins) [] regs bits before clean run = absurd run
  run_silent (i ∷ ins) (v ∷ vs) regs bits before clean run = (
    ports_silent lay p root v fits
        (shows_silent lay p (circuit lay p root) (places_in lay p) v regs after fits.right rank parts plan facts before pulses given),
    run_silent ins vs after (bits_held (circuit_cells lay p) acyclic widths regs i v run.0 bits clean.0.0)
        (registers_after lay p (circuit lay p root) (places_in lay p) v regs after fits.right rank parts plan facts before pulses given) clean.1 run.1,
  )
    where
      after : Numbers
      after = next_registers (circuit_cells lay p) v

      facts : CycleFacts lay p (circuit lay p root) (places_in lay p) v regs after
      facts = cycle_facts lay p root v regs i fits differ run.0 clean.0.0

      pulses : (i h : ℕ) (c : Contact) → contact_at p (PartEnd i h) ≡ Some c → at v (arrives lay p (PartEnd i h)).pulse ≤ 1
      pulses j h c there =
          let net = (arrives_nets lay p IsAny (any_arriving lay) fits (PartEnd j h) c there).of_pulse in
          bits_shown (circuit_cells lay p) acyclic widths regs i v run.0 bits clean.0.0 (arrives lay p (PartEnd j h)).pulse net.0 net.1 net.2

      given : (e : End) (c : Contact) → IsPortEnd e → contact_at p e ≡ Some c → 0 < bits_put (Some c) → IsSilent v (leaves lay p e)
      given = given_silent lay p root v regs i fits run.0 clean.0.1

pub circuit_stays_silent : AllKeepPaths → CircuitStaysSilent
circuit_stays_silent paths lay p root rank ins vs can rises made clean run =
    let plan : Plan = plan_of p in
    let differ : AreDifferent (root ∷ map (λ (x : Imported). x.name) plan.imports) =
    subst (λ (names : List (List ℕ)). AreDifferent (root ∷ names)) (same_names p.imports) can.names in
    let acyclic : HasCycle (circuit_cells lay plan) → ⊥ = λ cycle. ringless lay plan rank rises ((rings_cycles paths lay p root can).0 cycle) in
    let regs : Numbers = replicate (length (circuit_cells lay plan)) 0 in
    let none : (m : ℕ) → at regs m ≡ 0 = all_zero (length (circuit_cells lay plan)) in
    run_silent lay plan root (sound lay p root can) differ rank (part_facts paths lay p root can rank made) (plan_facts lay plan can.right) acyclic
    (circuit_accepted lay p root can acyclic).widths ins vs regs (λ n c there one. let zero_here = none n in omega (arith, zero_here))
    (silent_at_reset lay plan (places_in lay plan) regs none) clean run

pub laid_stays_silent : AllKeepPaths → LaidStaysSilent
laid_stays_silent paths keep p root ins vs can acyclic clean run =
    circuit_stays_silent paths (plain keep) p root (ranks_of (plain keep) (plan_of p)) ins vs can (ranks_go_up paths (plain keep) p root can acyclic)
    (λ i k there. tt) clean run
