-- A small netlist that is lowered, and circuits that it isn't lowered to.
--
-- Read first: Lowered, SmallCircuits; SmallNets of gos_netlist.
use Rattle.std.specs.Prelude.{◌≡◌, [], ◌∷◌}
use Rattle.gos_netlist.specs.SmallNets.{latch}
use Rattle.gos_gates.specs.Lowered.{IsLowered, IsGateFault, bits_in}
use Rattle.gos_gates.specs.SmallCircuits.{keeper}
use Rattle.gos_gates.specs.declared.fault.GateFault.TheVariants.{TooLarge}

-- an Or and two registers of it
abbrev pub LatchIsLowered : Type 0
LatchIsLowered = IsLowered latch keeper

-- not where latches take over the gate itself, which is the complement of the Or; and not where the output is turned
abbrev pub TurnedIsNotLowered : Type 0
TurnedIsNotLowered =
    (IsLowered latch (record keeper { latches = 8 ∷ 8 ∷ [] }) → ⊥)
    × (IsLowered latch (record keeper { outputs = 7 ∷ [] }) → ⊥)

-- not where a latch is left out, though the outputs are the same
abbrev pub LackingIsNotLowered : Type 0
LackingIsNotLowered = IsLowered latch (record { inputs = 1; latches = 7 ∷ []; outputs = 4 ∷ []; gates = (5, 3) ∷ [] }) → ⊥

-- its cells and their pins have 8 bits, which aren't too many
abbrev pub LatchIsSmall : Type 0
LatchIsSmall = (bits_in latch.cells ≡ 8) × (IsGateFault latch.cells (TooLarge 8) → ⊥)
