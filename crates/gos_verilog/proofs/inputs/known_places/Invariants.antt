use Rattle.gos_verilog.specs.inner.Stages.{HaveOwnNames}
use Rattle.gos_verilog.specs.inner.Noted.{HasPlaces}
use Rattle.gos_verilog.proofs.inputs.known_places.Given as goal

-- the places of the inputs so far are known
abbrev pub invariant-loop-k : goal.invariant-loop-k
invariant-loop-k l = HaveOwnNames l.nets → HasPlaces l.nets l.k l.places
