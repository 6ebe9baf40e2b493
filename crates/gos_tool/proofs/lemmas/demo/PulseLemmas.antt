-- A circuit with the demo's ports may run under the demo's pulse file.
use Rattle.std.proofs.Common.{ℕ, suc, List, [], ◌∷◌}
use Rattle.gos_netlist.specs.Nets.{Netlist}
use Rattle.gos_netlist.specs.Settling.{Numbers}
use Rattle.gos_model.specs.Labels.{Label}
use Rattle.gos_pulse.specs.Driving.{BreaksFrom}
use Rattle.gos_pulse.specs.declared.entries.Entry.{Entry}
use Rattle.gos_tool.specs.simulate.Complete.{MayRunUnder}
use Rattle.gos_tool.specs.demo.DemoFiles.{IsLevelCount, cycles_of, pulse_file}
use Rattle.gos_tool.proofs.lemmas.demo.PulseTextLemmas.{HasPorts, entries, is_pulse_file}

-- no `at` entry stands in the file, so that none breaks the protocol
no_break : (net : Netlist) (past : List Label) (t since : ℕ) (queue : List Entry) (vs : List Numbers) (cycle event : ℕ) → BreaksFrom net entries past t since queue vs cycle event → ⊥
no_break net past t since queue [] cycle event breaks = breaks
no_break net past t since queue (v ∷ []) cycle event (here, breaks) = breaks
no_break net past t since queue (v ∷ w ∷ vs) cycle event (came, last, rest, goes, breaks) = no_break net came (suc t) last rest (w ∷ vs) cycle event breaks

pub may_run : (levels : ℕ) (net : Netlist) → IsLevelCount levels → HasPorts net → MayRunUnder net (pulse_file levels).text
may_run levels net count has = (
  cycles_of levels,
  entries,
  is_pulse_file levels net count has,
  λ cycle event broken. (let (low, ins, vs, range, run, breaks) = broken in no_break net [] 0 0 _ vs cycle event breaks),
)
