-- Which inputs a run of a netlist may have: they keep the protocol, and their numbers are in range.
--
-- Read first: Flattening; Protocol of gos_model. The circuit promises nothing of a run whose inputs come out of turn.
use Rattle.std.specs.Prelude.{◌≡◌, ℕ, ◌^◌, ◌<◌, List, [], ◌∷◌, Some, slice_get}
use Rattle.gos_model.specs.Typing.{Imports}
use Rattle.gos_model.specs.Labels.{Label}
use Rattle.gos_netlist.specs.Nets.{Input, Cell, Side, Give, Take, NetPort, Netlist}
use Rattle.gos_netlist.specs.Settling.{Numbers, at}
use Rattle.gos_pace.specs.Flattening.{Flattening, flat}
use Rattle.gos_model.specs.Protocol.{KeepsProtocol}

-- a port before others, if it is taken
abbrev pub with_side : Side → NetPort → Imports → Imports
with_side Give p is = is
with_side Take p is = record { name = p.name; ty = p.ty } ∷ is

-- the ports that are taken, as imports
abbrev pub taken_by : List NetPort → Imports
taken_by [] = []
taken_by (p ∷ ps) = with_side p.side p (taken_by ps)

-- a run keeps the protocol where each of its flattenings does
abbrev pub RunKeeps : Netlist → List Numbers → Type 0
RunKeeps net vs = (parts : List (List Label)) → Flattening net vs parts → KeepsProtocol (taken_by net.ports) (flat parts)

-- The inputs of one cycle are in range: each has at most the bits of its cell. What a number is without its pulse is free.
abbrev pub IsInRange : Netlist → Numbers → Type 0
IsInRange net ins = (n : ℕ) (c : Cell) → slice_get net.cells n ≡ Some c → c.gate ≡ Input → at ins n < 2 ^ c.width

-- the inputs of every cycle are in range
abbrev pub InputsInRange : Netlist → List Numbers → Type 0
InputsInRange net [] = Unit {0}
InputsInRange net (ins ∷ rest) = IsInRange net ins × InputsInRange net rest
