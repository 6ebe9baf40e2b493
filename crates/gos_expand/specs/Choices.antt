-- Which directions of a plan's joints keep their registers: all, or few.
--
-- Read first: Laid; Cycles of gos_netlist. The directions are taken in the order of joints, of each the request and then the
-- answer. One is left out exactly where the netlist without its register, without those already left out and with all later
-- ones has no combinational cycle.
use Rattle.std.specs.Prelude.{◌≡◌, ℕ, List, true, false, not, Some, None, slice_get, nat_eq, nat_lt, if◌then◌else◌}
use Rattle.gos_types.specs.Events.{Direction}
use Rattle.gos_netlist.specs.Nets.{Cell, Netlist}
use Rattle.gos_netlist.specs.Cycles.{HasCycle}
use Rattle.gos_plan.specs.Plans.{Joint, Plan}
use Rattle.gos_expand.specs.declared.whole.Policy.{Policy}
use Rattle.gos_expand.specs.declared.whole.Policy.TheVariants.{All, Few}
use Rattle.gos_expand.specs.Starts.{Keep, keep_all, place_of}
use Rattle.gos_expand.specs.Laid.{laid_cells, laid}

-- the choice that is as this one before a place, leaves out the direction there, and keeps all later ones
abbrev pub left_out_at : Keep → ℕ → Keep
left_out_at keep n x way = if nat_lt (place_of x way) n then keep x way else not (nat_eq (place_of x way) n)

-- A direction is kept exactly where a cycle would be left without it. `cells` are those of the plan by a choice.
pub record KeepsFewOf (cells : Keep → List Cell) (p : Plan) (keep : Keep) : Type 0 where
  pub kept :
      (x : ℕ) (j : Joint) (way : Direction) → slice_get p.joints x ≡ Some j → keep x way ≡ true
      → HasCycle (cells (left_out_at keep (place_of x way)))
  pub left_out :
      (x : ℕ) (j : Joint) (way : Direction) → slice_get p.joints x ≡ Some j → keep x way ≡ false
      → HasCycle (cells (left_out_at keep (place_of x way)))
      → ⊥
  pub beyond : (x : ℕ) (way : Direction) → slice_get p.joints x ≡ None → keep x way ≡ true

-- so it is of gates that are made for no order
abbrev pub KeepsFew : Plan → Keep → Type 0
KeepsFew p keep = KeepsFewOf (λ k. laid_cells k p) p keep

-- The netlist is the one that the plan is laid out as by a policy: all directions keep their registers, or few.
abbrev pub IsLaidBy : Policy → Plan → List ℕ → Netlist → Type 0
IsLaidBy All p root net = net ≡ laid keep_all p root
IsLaidBy Few p root net = (keep : Keep) × KeepsFew p keep × (net ≡ laid keep p root)

-- A policy gives a plan one netlist.
abbrev pub LaidByIsOne : Type 0
LaidByIsOne =
    (policy : Policy) (p : Plan) (root : List ℕ) (net other : Netlist) → IsLaidBy policy p root net → IsLaidBy policy p root other → net ≡ other
