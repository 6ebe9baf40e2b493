-- Small circuits: their runs, their texts, and which literals a gate may have. Where small texts break off.
--
-- Read first: AagText, AagFaults.
use Rattle.std.specs.Prelude.{◌≡◌, Bool, true, false, List, [], ◌∷◌, codes}
use Rattle.gos_gates.specs.Gates.{Gates, AreGates, outputs_of}
use Rattle.gos_gates.specs.AagText.{aag_text}
use Rattle.gos_gates.specs.AagFaults.{HasFault}
use Rattle.gos_gates.specs.declared.fault.AagFault.TheVariants as faults

-- what the input was in the cycle before
abbrev pub delay : Gates
delay = record { inputs = 1; latches = 2 ∷ []; outputs = 4 ∷ []; gates = [] }

-- 1 from the cycle on in which the input was 1 before
abbrev pub keeper : Gates
keeper = record { inputs = 1; latches = 9 ∷ 9 ∷ []; outputs = 6 ∷ []; gates = (5, 3) ∷ [] }

-- the input in three cycles
abbrev pub one_pulse : List (List Bool)
one_pulse = (true ∷ []) ∷ (false ∷ []) ∷ (false ∷ []) ∷ []

-- what they show then
abbrev pub SmallRuns : Type 0
SmallRuns =
    (outputs_of delay one_pulse ≡ (false ∷ []) ∷ (true ∷ []) ∷ (false ∷ []) ∷ [])
    × (outputs_of keeper one_pulse ≡ (false ∷ []) ∷ (true ∷ []) ∷ (true ∷ []) ∷ [])

-- their texts
abbrev pub SmallTexts : Type 0
SmallTexts =
    (aag_text delay ≡ codes "aag 2 1 1 1 0\n2\n4 2\n4\n")
    × (aag_text keeper ≡ codes "aag 4 1 2 1 1\n2\n4 9\n6 9\n6\n8 5 3\n")

-- they are circuits
abbrev pub AreCircuits : Type 0
AreCircuits = AreGates delay × AreGates keeper

-- no circuit: a gate of its own literal, and one whose second literal is above its first
abbrev pub GatesLookBack : Type 0
GatesLookBack =
    (AreGates (record { inputs = 1; latches = []; outputs = []; gates = (4, 2) ∷ [] }) → ⊥)
    × (AreGates (record { inputs = 1; latches = []; outputs = []; gates = (2, 3) ∷ [] }) → ⊥)

-- Where texts break off: the empty one; one with more inputs than variables; one with more gates than are left; one with
-- a leading zero; one with too many variables.
abbrev pub SmallFaults : Type 0
SmallFaults =
    HasFault [] (faults.Form 0)
    × HasFault (codes "aag 2 3") (faults.Form 6)
    × HasFault (codes "aag 2 1 1 1 1") (faults.Form 12)
    × HasFault (codes "aag 02") (faults.Form 5)
    × HasFault (codes "aag 2147483648") (faults.Form 13)
