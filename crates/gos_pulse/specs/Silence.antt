-- That each run goes on: behind one whose inputs keep the protocol there may come a cycle without inputs.
--
-- Read first: RunProtocol of gos_pace, Accepted of gos_netcheck. So an accepted netlist has runs of every length under
-- the premises of keeping pace (`gos_pace/specs/Pace`), whatever came before.
use Rattle.std.specs.Prelude.{List, [], ◌∷◌, ◌++◌}
use Rattle.gos_netlist.specs.Nets.{Netlist}
use Rattle.gos_netlist.specs.Settling.{Numbers, IsRun}
use Rattle.gos_pace.specs.RunProtocol.{InputsInRange, RunKeeps}

-- inputs that are all 0, since a net without a number has 0
abbrev pub silence : Numbers
silence = []

-- before its first cycle a run keeps all that inputs have to
abbrev pub NothingIsARun : Netlist → Type 0
NothingIsARun net = InputsInRange net [] × IsRun net.cells [] [] × RunKeeps net []

-- and after cycles that keep it, so does the run with a cycle of silence more
abbrev pub SilenceIsARun : Netlist → Type 0
SilenceIsARun net =
    (ins vs : List Numbers) → InputsInRange net ins → IsRun net.cells ins vs → RunKeeps net vs
    → (v : Numbers) × InputsInRange net (ins ++ silence ∷ []) × IsRun net.cells (ins ++ silence ∷ []) (vs ++ v ∷ []) × RunKeeps net (vs ++ v ∷ [])
