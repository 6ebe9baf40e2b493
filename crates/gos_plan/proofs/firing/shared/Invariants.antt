use Rattle.std.proofs.Common.{◌≡◌, length, map, drop}
use Rattle.gos_plan.specs.Kinds.{contact}
use Rattle.gos_plan.specs.Firing.{row_for, share_rows}
use Rattle.gos_plan.specs.OneFiring.{slot_of, at_value}
use Rattle.gos_plan.proofs.firing.shared.Given as goal

-- none of the rows so far takes the token
abbrev pub invariant-loop-j : goal.invariant-loop-j
invariant-loop-j l =
    at_value l.value (row_for (slot_of l.slot) (share_rows (map contact (drop l.j l.shakes)) (length l.shakes) l.j l.branch))
    ≡ at_value l.value (row_for (slot_of l.slot) (share_rows (map contact l.shakes) (length l.shakes) 0 l.branch))
