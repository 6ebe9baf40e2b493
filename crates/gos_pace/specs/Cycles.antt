-- A netlist's cycles as lists of a plan, and promptness.
--
-- Read first: Orderly; Flattening. In a cycle come its outputs in any order, its inputs in any order, and then
-- firings of parts. Nothing is asked of a run from its first broken cycle on.
use Rattle.std.specs.Prelude.{◌≡◌, ℕ, suc, ◌+◌, ◌<◌, ◌≤◌, ◌⊎◌, List, [], ◌∷◌, ◌++◌, length, map, Some, slice_get, Contains, if◌then◌else◌}
use Rattle.std.specs.Str.{bytes_eq}
use Rattle.gos_netlist.specs.Nets.{Netlist}
use Rattle.gos_netlist.specs.Settling.{Numbers}
use Rattle.gos_model.specs.Labels.{Port, Given, Taken, Label}
use Rattle.gos_pace.specs.Flattening.{outputs, inputs, AnyOrder}
use Rattle.gos_model.specs.Protocol.{shake_of}
use Rattle.gos_model.specs.Typing.{Imported}
use Rattle.gos_plan.specs.Plans.{End, ImportEnd, ResultEnd, Plan}
use Rattle.gos_plan.specs.Tokens.{Tokens, Element, Fire, Out, In, Does, Runs, IsIdle}
use Rattle.gos_plan.specs.Orderly.{IsOrderly}
use Rattle.gos_plan.specs.Made.{PartFiring, fires_of, Made, state_after}

-- the number of the import of this name, among imports of which the first has number n
abbrev pub import_number : ℕ → List Imported → List ℕ → ℕ
import_number n [] x = n
import_number n (i ∷ is) x = if bytes_eq i.name x then n else import_number (suc n) is x

-- the end that the token of a label passes: of the result, or of the import of the port's name
abbrev pub end_of_event : Plan → Port → ℕ → End
end_of_event p Given event = ResultEnd (shake_of event)
end_of_event p (Taken x) event = ImportEnd (import_number 0 p.imports x) (shake_of event)

abbrev pub end_of_label : Plan → Label → End
end_of_label p l = end_of_event p l.port l.event

-- labels as outputs, and as inputs
abbrev pub out_of : Plan → Label → Element
out_of p l = Out (end_of_label p l) l.value

abbrev pub in_of : Plan → Label → Element
in_of p l = In (end_of_label p l) l.value

abbrev pub outs_of : Plan → List Label → List Element
outs_of p ls = map (out_of p) ls

abbrev pub ins_of : Plan → List Label → List Element
ins_of p ls = map (in_of p) ls

-- a cycle as a list: outputs, inputs, firings
abbrev pub cycle_list : Plan → List Label → List Label → List PartFiring → List Element
cycle_list p out inp fs = outs_of p out ++ (ins_of p inp ++ fires_of fs)

-- From token state s the cycle in which the nets show v is made so, in whichever order its outputs and its inputs stand.
abbrev pub MakesCycle : Plan → Netlist → Numbers → Tokens → Made → Type 0
MakesCycle p net v s m =
    (out inp : List Label) → AnyOrder (outputs net v) out → AnyOrder (inputs net v) inp
    → Runs p (cycle_list p out inp m.firings) s m.after

-- the first cycles of a run are made so, one after another
abbrev pub MakesCycles : Plan → Netlist → List Numbers → Tokens → List Made → Type 0
MakesCycles p net vs s [] = Unit {0}
MakesCycles p net [] s (m ∷ ms) = ⊥
MakesCycles p net (v ∷ vs) s (m ∷ ms) = MakesCycle p net v s m × MakesCycles p net vs m.after ms

-- the cycles as one list, each with its pulses in the order of events
abbrev pub list_of : Plan → Netlist → List Numbers → List Made → List Element
list_of p net vs [] = []
list_of p net [] (m ∷ ms) = []
list_of p net (v ∷ vs) (m ∷ ms) = cycle_list p (outputs net v) (inputs net v) m.firings ++ list_of p net vs ms

-- The cycle after these is broken: its inputs, or firings that are possible after them, make the list not orderly.
abbrev pub IsBroken : Plan → Netlist → List Numbers → Tokens → List Made → Type 0
IsBroken p net vs s ms =
    (v : Numbers) × (fs : List PartFiring) × (t : Tokens) × (slice_get vs (length ms) ≡ Some v)
    × Runs p (list_of p net vs ms ++ cycle_list p (outputs net v) (inputs net v) fs) s t
    × (IsOrderly p (list_of p net vs ms ++ cycle_list p (outputs net v) (inputs net v) fs) s → ⊥)

-- the firing or the output is made in one of the cycles t to t + 3
abbrev pub IsMadeSoon : Plan → Netlist → List Numbers → List Made → ℕ → Element → Type 0
IsMadeSoon p net vs ms t (Fire i k) =
    (j : ℕ) × (m : Made) × (t ≤ j) × (j ≤ t + 3) × (slice_get ms j ≡ Some m) × Contains m.firings (record { part = i; takes = k })
IsMadeSoon p net vs ms t (Out e n) =
    (j : ℕ) × (v : Numbers) × (t ≤ j) × (j ≤ t + 3) × (slice_get vs j ≡ Some v) × Contains (outs_of p (outputs net v)) (Out e n)
IsMadeSoon p net vs ms t (In e n) = Unit {0}

-- what is possible after t cycles is made within four, where so many follow
abbrev pub IsPrompt : Plan → Netlist → List Numbers → Tokens → List Made → Type 0
IsPrompt p net vs s ms =
    (t : ℕ) (x : Element) (after : Tokens) → t + 3 < length ms → Does p x (state_after s ms t) after → IsMadeSoon p net vs ms t x

-- all cycles of the run, or those before a broken one, are lists of the plan from an idle state, and prompt
abbrev pub CyclesAreLists : Plan → Netlist → List Numbers → Type 0
CyclesAreLists p net vs =
    (s : Tokens) × (ms : List Made) × IsIdle p s × MakesCycles p net vs s ms × IsPrompt p net vs s ms
    × ((length ms ≡ length vs) ⊎ IsBroken p net vs s ms)
