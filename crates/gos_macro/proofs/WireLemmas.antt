-- Wires that hold nets, one list behind the other.
use Rattle.std.proofs.Common.{List, [], ◌∷◌, ◌++◌}
use Rattle.gos_macro.specs.declared.gates.Wire.{Wire}
use Rattle.gos_macro.specs.Gates.{Outgoing}
use Rattle.gos_macro.specs.Wires.{HoldNets}

pub hold_both : (os qs : List Outgoing) (xs ys : List Wire) → HoldNets os xs → HoldNets qs ys → HoldNets (os ++ qs) (xs ++ ys)
hold_both [] qs [] ys first second = second
hold_both [] qs (x ∷ xs) ys first second = absurd first
hold_both (o ∷ os) qs [] ys first second = absurd first
hold_both (o ∷ os) qs (x ∷ xs) ys first second = (first.0, hold_both os qs xs ys first.1 second)
