-- One order of a cycle's pulses is enough: where each has an end of its own, every order leads to the same state.
--
-- Read first: Cycles.
use Rattle.std.specs.Prelude.{◌≡◌, false, List, [], ◌∷◌}
use Rattle.gos_netlist.specs.Nets.{Netlist}
use Rattle.gos_netlist.specs.Settling.{Numbers}
use Rattle.gos_model.specs.Labels.{Label}
use Rattle.gos_pace.specs.Flattening.{outputs, inputs}
use Rattle.gos_plan.specs.Plans.{End, Plan, IsRight, same_end}
use Rattle.gos_plan.specs.Tokens.{Tokens, Runs}
use Rattle.gos_pace.specs.Cycles.{end_of_label, cycle_list, MakesCycle}
use Rattle.gos_plan.specs.Made.{Made}

-- none of these labels passes this end
abbrev pub NonePasses : Plan → End → List Label → Type 0
NonePasses p e [] = Unit {0}
NonePasses p e (l ∷ ls) = (same_end e (end_of_label p l) ≡ false) × NonePasses p e ls

-- no two of these labels pass one end
abbrev pub EndsDiffer : Plan → List Label → Type 0
EndsDiffer p [] = Unit {0}
EndsDiffer p (l ∷ ls) = NonePasses p (end_of_label p l) ls × EndsDiffer p ls

-- A cycle that is made with its pulses in the order of events is made with them in every order.
abbrev pub OneOrderIsEnough : Type 0
OneOrderIsEnough =
    (p : Plan) (net : Netlist) (v : Numbers) (s : Tokens) (m : Made)
    → IsRight p → EndsDiffer p (outputs net v) → EndsDiffer p (inputs net v)
    → Runs p (cycle_list p (outputs net v) (inputs net v) m.firings) s m.after → MakesCycle p net v s m
