-- The trace of a driven run.
--
-- Read first: Driving; Flattening of gos_pace.
use Rattle.std.specs.Prelude.{◌≡◌, ℕ, suc, List, [], ◌∷◌, ◌++◌}
use Rattle.gos_netlist.specs.Nets.{Netlist}
use Rattle.gos_netlist.specs.Settling.{Numbers}
use Rattle.gos_model.specs.Labels.{Label}
use Rattle.gos_pace.specs.Flattening.{outputs, inputs}
use Rattle.gos_pulse.specs.Driving.{IsPulse, IsDriven}
use Rattle.gos_pulse.specs.declared.entries.Entry.{Entry}
use Rattle.gos_pulse.specs.declared.trace.Trace.{Trace}
use Rattle.gos_pulse.specs.declared.trace.TraceLine.{TraceLine}

-- the lines are these labels, one after another, as pulses of cycle t
abbrev pub AreLines : Netlist → ℕ → List TraceLine → List Label → Type 0
AreLines net t [] [] = Unit {0}
AreLines net t [] (l ∷ labels) = ⊥
AreLines net t (line ∷ lines) [] = ⊥
AreLines net t (line ∷ lines) (l ∷ labels) =
    (line.cycle ≡ t) × IsPulse net line.event line.value l × AreLines net t lines labels

-- The lines of a run from cycle t on: of each cycle its outputs and then its inputs, each in event order.
abbrev pub LinesFrom : Netlist → ℕ → List Numbers → List TraceLine → Type 0
LinesFrom net t [] lines = lines ≡ []
LinesFrom net t (v ∷ vs) lines =
    (now : List TraceLine) × (later : List TraceLine) × (lines ≡ now ++ later)
    × AreLines net t now (outputs net v ++ inputs net v) × LinesFrom net (suc t) vs later

-- the trace is that of the netlist's run from reset, of so many cycles, under these entries
pub record IsTraced (net : Netlist) (cycles : ℕ) (file : List Entry) (trace : Trace) : Type 0 where
  pub run : List Numbers
  pub driven : IsDriven net cycles file run trace.unused
  pub count : trace.cycles ≡ cycles
  pub lines : LinesFrom net 0 run trace.lines.items
