-- The gates of each kind: what is placed, and what its registers stand for. What that means is the law, in gos_macro.
--
-- Read first: Law of gos_macro; Seq, Par, Choice, Repeat. Of the kinds of other crates nothing is said here.
use Rattle.std.specs.Prelude.{ℕ, Bool, List, [], ◌∷◌}
use Rattle.gos_netlist.specs.Nets.{Cell}
use Rattle.gos_netlist.specs.Settling.{Numbers}
use Rattle.gos_plan.specs.Kinds.{Part, Skip, Seq, Par, If, While}
use Rattle.gos_plan.specs.Firing.{State, Token}
use Rattle.gos_macro.specs.Gates.{Incoming, Outgoing, nothing_pending}
use Rattle.gos_macro.specs.Paths.{is_pair}
use Rattle.gos_macro.specs.SmallGates.{skip_cells, skip_outs, skip_stands}
use Rattle.gos_control.specs.Seq.{seq_layout, seq_outs, seq_stands}
use Rattle.gos_control.specs.Par.{par_layout, par_outs, par_stands}
use Rattle.gos_control.specs.Choice.{choice_layout, choice_outs, choice_stands}
use Rattle.gos_control.specs.Repeat.{repeat_layout, repeat_outs, repeat_late, repeat_pending, RepeatStands}

-- the cells of a part, from the number of the first one and the nets that come in
abbrev pub layout : Part → ℕ → Incoming → List Cell
layout Skip = skip_cells
layout (Seq v) = λ b. seq_layout v
layout Par = par_layout
layout (If v) = choice_layout v
layout While = repeat_layout
layout k = λ b i. []

-- the nets that go out of them
abbrev pub outs_of : Part → ℕ → List Outgoing
outs_of Skip = skip_outs
outs_of (Seq v) = seq_outs v
outs_of Par = par_outs
outs_of (If v) = choice_outs v
outs_of While = repeat_outs
outs_of k = λ b. []

-- the handshakes at which what comes in is late
abbrev pub late_of : Part → List ℕ
late_of While = repeat_late
late_of k = []

-- what registers hold to be put out
abbrev pub pending_of : Part → ℕ → Numbers → List Token
pending_of While = repeat_pending
pending_of k = nothing_pending

-- which states registers stand for
abbrev pub stands_of : Part → ℕ → Numbers → State → Type 0
stands_of Skip = skip_stands
stands_of (Seq v) = seq_stands
stands_of Par = par_stands
stands_of (If v) = choice_stands
stands_of While = RepeatStands
stands_of k = λ b regs q. ⊥

-- from which handshake to which a path without registers leads
abbrev pub passing_of : Part → ℕ → ℕ → Bool
passing_of Skip = is_pair ((0, 0) ∷ [])
passing_of (Seq v) = is_pair ((0, 1) ∷ (1, 2) ∷ (2, 0) ∷ [])
passing_of Par = is_pair ((0, 2) ∷ (1, 2) ∷ (2, 0) ∷ (2, 1) ∷ [])
passing_of (If v) = is_pair ((0, 1) ∷ (0, 2) ∷ (1, 3) ∷ (2, 3) ∷ (3, 0) ∷ [])
passing_of While = is_pair ((0, 1) ∷ (0, 2) ∷ (2, 0) ∷ [])
passing_of k = is_pair []
