-- A cycle more is a settling more of a run.
use Rattle.std.specs.Prelude.{◌≡◌, List, [], ◌∷◌, ◌++◌, length, replicate, reverse, take}
use Rattle.std.proofs.Common.{refl, ap, sym, subst, ◌∙◌}
use Rattle.std.proofs.lemmas.List.{reverse-append}
use Rattle.gos_netlist.specs.Nets.{Cell}
use Rattle.gos_netlist.specs.Settling.{Numbers, RunFrom, Settling, next_registers}
use Rattle.gos_sim.specs.Cycle.{Simulator}
use Rattle.gos_sim.specs.Runs.{BeginsRun, GoesOnRunning, HasRun, registers_after}

run_more : (cells : List Cell) (regs : Numbers) (ins vs : List Numbers) (i v : Numbers) → RunFrom cells regs ins vs → Settling cells (registers_after cells regs vs) i v
    → RunFrom cells regs (ins ++ i ∷ []) (vs ++ v ∷ [])
run_more cells regs [] [] i v run settles = (settles, refl)
run_more cells regs [] (w ∷ ws) i v run settles = absurd (cc)
run_more cells regs (j ∷ js) [] i v run settles = absurd run
run_more cells regs (j ∷ js) (w ∷ ws) i v run settles = (run.0, run_more cells (next_registers cells w) js ws i v run.1 settles)

registers_more : (cells : List Cell) (regs : Numbers) (vs : List Numbers) (v : Numbers) → registers_after cells regs (vs ++ v ∷ []) ≡ next_registers cells v
registers_more cells regs [] v = refl
registers_more cells regs (w ∷ ws) v = registers_more cells (next_registers cells w) ws v

-- the two newest settlings, with one more
newest_two : (v : Numbers) (two vs : List Numbers) → two ≡ take 2 (reverse vs) → v ∷ take 1 two ≡ take 2 (reverse (vs ++ v ∷ []))
newest_two v two vs are =
    let newest : take 1 two ≡ take 1 (reverse vs) = ap (take 1) are ∙ first (reverse vs) in
    ap (λ ws. v ∷ ws) newest ∙ ap (take 2) (sym (reverse-append vs (v ∷ [])))
  where
    first : (ws : List Numbers) → take 1 (take 2 ws) ≡ take 1 ws
    first [] = refl
    first (w ∷ []) = refl
    first (w ∷ u ∷ ws) = refl

pub begins_run : BeginsRun
begins_run net = record { run = refl; registers = refl; settlings = refl }

-- the simulator after a cycle, whose settling is known
run_on : (old : Simulator) (ins vs : List Numbers) (i v : Numbers) → HasRun old ins vs → Settling old.net.cells old.registers i v
    → HasRun (record { net = old.net; registers = next_registers old.net.cells v; settlings = v ∷ take 1 old.settlings }) (ins ++ i ∷ []) (vs ++ v ∷ [])
run_on old ins vs i v has settles =
    let zeros : Numbers = replicate (length old.net.cells) 0 in
    let now : Settling old.net.cells (registers_after old.net.cells zeros vs) i v = subst (λ (regs : Numbers). Settling old.net.cells regs i v) has.registers settles in
    record {
      run = run_more old.net.cells zeros ins vs i v has.run now;
      registers = sym (registers_more old.net.cells zeros vs v);
      settlings = newest_two v old.settlings vs has.settlings;
    }

pub goes_on_running : GoesOnRunning
goes_on_running old new given shown ins vs has cycle = (
  cycle.ins,
  cycle.values,
  subst (λ (s : Simulator). HasRun s (ins ++ cycle.ins ∷ []) (vs ++ cycle.values ∷ [])) (sym cycle.registers) (run_on old ins vs cycle.ins cycle.values has cycle.settled),
  cycle.inputs,
  cycle.outputs,
)
