-- Inputs of a small circuit: in range and clean, in range alone, and neither; and what it shows, silent or not.
--
-- Read first: Silence. The circuit is one of `import x : exp 8; x`, which takes a number from x and gives it.
use Rattle.std.specs.Prelude.{[], ◌∷◌, codes}
use Rattle.gos_types.specs.Types.{Exp}
use Rattle.gos_netlist.specs.Nets.{Netlist, Cell, Function, Input, Reg, Give, Take}
use Rattle.gos_netlist.specs.Settling.{Numbers}
use Rattle.gos_netlist.specs.SmallNets.{bit}
use Rattle.gos_pace.specs.RunProtocol.{IsInRange}
use Rattle.gos_pace.specs.Silence.{IsClean, OutputsAreSilent}

-- a cell of eight bits
abbrev pub byte : Function → Cell
byte f = record { width = 8; gate = f }

-- nets: main.ask, main.ans and its value, x.ask, x.ans and its value
abbrev pub ask_circuit : Netlist
ask_circuit =
    record {
      cells = bit Input ∷ bit (Reg 4) ∷ byte (Reg 5) ∷ bit (Reg 0) ∷ bit Input ∷ byte Input ∷ [];
      ports =
          record { name = codes "main"; side = Give; ty = Exp 8; nets = 0 ∷ 1 ∷ 2 ∷ [] }
          ∷ record { name = codes "x"; side = Take; ty = Exp 8; nets = 3 ∷ 4 ∷ 5 ∷ [] } ∷ [];
    }

-- x answers 7; the number 7 comes without its pulse; and x answers 256
abbrev pub answer : Numbers
answer = 0 ∷ 0 ∷ 0 ∷ 0 ∷ 1 ∷ 7 ∷ []

abbrev pub stray : Numbers
stray = 0 ∷ 0 ∷ 0 ∷ 0 ∷ 0 ∷ 7 ∷ []

abbrev pub too_wide : Numbers
too_wide = 0 ∷ 0 ∷ 0 ∷ 0 ∷ 1 ∷ 256 ∷ []

-- an answer with its number is clean
abbrev pub AnswerIsClean : Type 0
AnswerIsClean = IsClean ask_circuit answer

-- a number without its pulse is in range, and not clean
abbrev pub StrayIsInRange : Type 0
StrayIsInRange = IsInRange ask_circuit stray × (IsClean ask_circuit stray → ⊥)

-- a number of more bits than its net is not in range
abbrev pub WideIsNotInRange : Type 0
WideIsNotInRange = IsInRange ask_circuit too_wide → ⊥

-- it gives 7 with its pulse; and without it
abbrev pub gives : Numbers
gives = 0 ∷ 1 ∷ 7 ∷ 0 ∷ 0 ∷ 0 ∷ []

abbrev pub leaks : Numbers
leaks = 0 ∷ 0 ∷ 7 ∷ 0 ∷ 0 ∷ 0 ∷ []

-- outputs are silent in the one cycle, and not in the other
abbrev pub GivingIsSilent : Type 0
GivingIsSilent = OutputsAreSilent ask_circuit (gives ∷ []) × (OutputsAreSilent ask_circuit (leaks ∷ []) → ⊥)
