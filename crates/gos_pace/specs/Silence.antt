-- No number without its pulse: of clean inputs, and of outputs.
--
-- Read first: RunProtocol. A netlist keeps pace whatever number an input has without its pulse. Those of a pulse file are
-- clean, and under clean inputs outputs are silent.
use Rattle.std.specs.Prelude.{◌≡◌, ℕ, suc, Bool, true, false, List, [], ◌∷◌, Some, None}
use Rattle.gos_model.specs.Labels.{Port, is_output_at}
use Rattle.gos_types.specs.Events.{Event, Is, events}
use Rattle.gos_netlist.specs.Nets.{NetPort, Netlist}
use Rattle.gos_netlist.specs.Settling.{Numbers, at}
use Rattle.gos_pace.specs.Flattening.{port_of}
use Rattle.gos_pace.specs.RunProtocol.{IsInRange}

-- From event number n of a port on: where the pulse of an output is 0, or else that of an input, so is its number.
abbrev pub IsSilentFrom : Bool → Port → ℕ → List Event → List ℕ → Numbers → Type 0
IsSilentFrom out p n (Is way None ∷ es) (a ∷ nets) v = IsSilentFrom out p (suc n) es nets v
IsSilentFrom out p n (Is way (Some b) ∷ es) (a ∷ x ∷ nets) v =
    (is_output_at p n ≡ out → at v a ≡ 0 → at v x ≡ 0) × IsSilentFrom out p (suc n) es nets v
IsSilentFrom out p n es nets v = Unit {0}

-- so it is at every port
abbrev pub AreSilent : Bool → List NetPort → Numbers → Type 0
AreSilent out [] v = Unit {0}
AreSilent out (p ∷ ps) v = IsSilentFrom out (port_of p.side p.name) 0 (events p.ty) p.nets v × AreSilent out ps v

-- The inputs of one cycle are clean: in range, and each number is 0 without its pulse.
abbrev pub IsClean : Netlist → Numbers → Type 0
IsClean net ins = IsInRange net ins × AreSilent false net.ports ins

-- the inputs of every cycle are clean
abbrev pub InputsAreClean : Netlist → List Numbers → Type 0
InputsAreClean net [] = Unit {0}
InputsAreClean net (ins ∷ rest) = IsClean net ins × InputsAreClean net rest

-- in every cycle each output's number is 0 without its pulse
abbrev pub OutputsAreSilent : Netlist → List Numbers → Type 0
OutputsAreSilent net [] = Unit {0}
OutputsAreSilent net (v ∷ vs) = AreSilent true net.ports v × OutputsAreSilent net vs
