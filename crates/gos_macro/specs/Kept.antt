-- All that the gates of a part keep.
--
-- Read first: Law, Fit.
use Rattle.std.specs.Prelude.{ℕ, List}
use Rattle.gos_netlist.specs.Nets.{Cell}
use Rattle.gos_netlist.specs.Settling.{Numbers}
use Rattle.gos_plan.specs.Kinds.{Part}
use Rattle.gos_plan.specs.Firing.{State, Token}
use Rattle.gos_macro.specs.Gates.{Incoming, Outgoing}
use Rattle.gos_macro.specs.Law.{Order, LawInOrder, RestsAtZero, StaySilent}
use Rattle.gos_macro.specs.Fit.{GatesFit}

-- In each cycle they do what the part does by its rows, in this order; registers that are all 0 stand for a part at rest; no
-- number goes out without its pulse; and in a netlist they keep what is asked of an accepted one.
pub record KeepLaws (k : Part) (cells : ℕ → Incoming → List Cell) (outs : ℕ → List Outgoing) (late : List ℕ)
    (pending : ℕ → Numbers → List Token) (stands : ℕ → Numbers → State → Type 0) (rank : Order) : Type 0 where
  pub law : LawInOrder k cells outs late pending stands rank
  pub rests : RestsAtZero pending stands
  pub silent : StaySilent k cells outs
  pub fits : GatesFit k cells outs

-- The same in each order. So gates that keep them know no order.
abbrev pub KeepLawsInEachOrder : Part → (ℕ → Incoming → List Cell) → (ℕ → List Outgoing) → List ℕ → (ℕ → Numbers → List Token)
    → (ℕ → Numbers → State → Type 0) → Type 0
KeepLawsInEachOrder k cells outs late pending stands = (rank : Order) → KeepLaws k cells outs late pending stands rank
