-- Small netlists that are made tidy, and what isn't so.
--
-- Read first: Alike; SmallNets of gos_netlist; SmallPace of gos_pace.
use Rattle.std.specs.Prelude.{ℕ, List, [], ◌∷◌, codes}
use Rattle.gos_types.specs.Types.{Com}
use Rattle.gos_netlist.specs.Nets.{Input, Const, Not, And, Or, Xor, Mux, Gate, Reg, Cell, Netlist, Give}
use Rattle.gos_netlist.specs.SmallNets.{bit, latch}
use Rattle.gos_netlist.specs.Settling.{at}
use Rattle.gos_pace.specs.SmallPace.{skip_circuit, silent_circuit}
use Rattle.gos_tidy.specs.Mapped.{Mapped}
use Rattle.gos_tidy.specs.Steady.{IsSteadied}
use Rattle.gos_tidy.specs.Reduced.{IsQuotient, IsPart}
use Rattle.gos_tidy.specs.Tidy.{IsTidy}
use Rattle.gos_tidy.specs.Alike.{IsAlike, IsTidied}

-- a netlist with one port, of a command
abbrev pub command : List Cell → List ℕ → Netlist
command cells nets = record { cells = cells; ports = record { name = codes "main"; side = Give; ty = Com; nets = nets } ∷ [] }

-- A latch has two equal registers. Made tidy it has one.
abbrev pub LatchIsTidied : Type 0
LatchIsTidied = IsTidied latch (command (bit Input ∷ bit (Or 0 2) ∷ bit (Reg 1) ∷ []) (0 ∷ 2 ∷ []))

-- Its selector folds to 1, so the gate goes; then two registers are equal.
abbrev pub folding : Netlist
folding = command (bit Input ∷ bit (Const 1) ∷ bit (And 1 1) ∷ bit (Gate 2 0) ∷ bit (Reg 3) ∷ bit (Reg 0) ∷ []) (0 ∷ 4 ∷ [])

abbrev pub FoldingIsTidied : Type 0
FoldingIsTidied = IsTidied folding (command (bit Input ∷ bit (Reg 0) ∷ []) (0 ∷ 1 ∷ []))

-- Not tidy: two equal registers; a gate whose pins are one net; a constant selector; a Not of a Not; a Xor of a net and of a
-- Xor of this net; a gate of constants; and a cell that leads nowhere.
abbrev pub TwiceIsNotTidy : Type 0
TwiceIsNotTidy = IsTidy latch.cells (3 ∷ []) → ⊥

abbrev pub SpareIsNotTidy : Type 0
SpareIsNotTidy = IsTidy (bit Input ∷ bit (And 0 0) ∷ bit (Reg 1) ∷ []) (2 ∷ []) → ⊥

abbrev pub ChosenIsNotTidy : Type 0
ChosenIsNotTidy = IsTidy (bit Input ∷ bit (Const 0) ∷ bit (Mux 1 0 3) ∷ bit (Reg 2) ∷ []) (3 ∷ []) → ⊥

abbrev pub TurnedIsNotTidy : Type 0
TurnedIsNotTidy = IsTidy (bit Input ∷ bit (Not 0) ∷ bit (Not 1) ∷ bit (Reg 2) ∷ []) (3 ∷ []) → ⊥

abbrev pub MixedIsNotTidy : Type 0
MixedIsNotTidy = IsTidy (bit Input ∷ bit (Reg 0) ∷ bit (Xor 0 1) ∷ bit (Xor 2 0) ∷ bit (Reg 3) ∷ []) (4 ∷ []) → ⊥

abbrev pub FoldedIsNotTidy : Type 0
FoldedIsNotTidy = IsTidy (bit (Const 0) ∷ bit (Not 0) ∷ bit (Reg 1) ∷ []) (2 ∷ []) → ⊥

abbrev pub IdleIsNotTidy : Type 0
IdleIsNotTidy = IsTidy (bit Input ∷ bit (Reg 0) ∷ bit (Reg 1) ∷ []) (1 ∷ []) → ⊥

-- tidy all the same: a register of a constant, which shows 0 in the first cycle
abbrev pub HeldIsTidy : Type 0
HeldIsTidy = IsTidy (bit (Const 1) ∷ bit (Reg 0) ∷ []) (1 ∷ [])

-- A Mux whose selector is 1 is not the second of its sides, and a register is not the constant that it reads.
abbrev pub OtherSideIsNotMapped : Type 0
OtherSideIsNotMapped =
    Mapped (bit Input ∷ bit Input ∷ bit (Const 1) ∷ bit (Mux 2 0 1) ∷ []) (bit Input ∷ bit Input ∷ bit (Const 1) ∷ []) (at (0 ∷ 1 ∷ 2 ∷ 1 ∷ [])) → ⊥

abbrev pub RegisterIsNotFolded : Type 0
RegisterIsNotFolded = Mapped (bit (Const 1) ∷ bit (Reg 0) ∷ []) (bit (Const 1) ∷ []) (at (0 ∷ 0 ∷ [])) → ⊥

-- two inputs are not merged, and none is left out
abbrev pub InputsStayApart : Type 0
InputsStayApart = (roots : List ℕ) → IsQuotient (bit Input ∷ bit Input ∷ []) (bit Input ∷ []) (λ _. 0) roots → ⊥

abbrev pub InputsStay : Type 0
InputsStay = (g : ℕ → ℕ) → IsPart [] (bit Input ∷ []) g → ⊥

-- A register that reads itself through an And is 0 for ever, and so is this And.
abbrev pub LoopIsSteadied : Type 0
LoopIsSteadied =
    IsSteadied (command (bit Input ∷ bit (Reg 2) ∷ bit (And 1 0) ∷ bit (Or 0 1) ∷ bit (Reg 3) ∷ []) (0 ∷ 4 ∷ []))
    (command (bit Input ∷ bit (Const 0) ∷ bit (Const 0) ∷ bit (Or 0 1) ∷ bit (Reg 3) ∷ []) (0 ∷ 4 ∷ []))

-- but not one that reads itself through an Or: it is 1 from the first pulse on
abbrev pub HeldIsNotSteadied : Type 0
HeldIsNotSteadied =
    IsSteadied (command (bit Input ∷ bit (Reg 2) ∷ bit (Or 1 0) ∷ bit (Reg 2) ∷ []) (0 ∷ 3 ∷ []))
    (command (bit Input ∷ bit (Const 0) ∷ bit (Or 1 0) ∷ bit (Reg 2) ∷ []) (0 ∷ 3 ∷ [])) → ⊥

-- Nor is one that reads 1 any constant, since it shows 0 in the first cycle; and an output stays a register.
abbrev pub OneIsNotSteadied : Type 0
OneIsNotSteadied =
    (k : ℕ) → IsSteadied (command (bit Input ∷ bit (Const 1) ∷ bit (Reg 1) ∷ bit (And 2 0) ∷ bit (Reg 3) ∷ []) (0 ∷ 4 ∷ []))
    (command (bit Input ∷ bit (Const 1) ∷ bit (Const k) ∷ bit (And 2 0) ∷ bit (Reg 3) ∷ []) (0 ∷ 4 ∷ [])) → ⊥

abbrev pub EndIsNotSteadied : Type 0
EndIsNotSteadied =
    IsSteadied (command (bit Input ∷ bit (Const 0) ∷ bit (Reg 1) ∷ []) (0 ∷ 2 ∷ []))
    (command (bit Input ∷ bit (Const 0) ∷ bit (Const 0) ∷ []) (0 ∷ 2 ∷ [])) → ⊥

-- a circuit that answers is not alike to one that never does
abbrev pub SilentIsNotAlike : Type 0
SilentIsNotAlike = IsAlike skip_circuit silent_circuit → ⊥
