-- Steps in runs, and what they do one after another.
--
-- Read first: Program; Settling of gos_netlist.
use Rattle.std.specs.Prelude.{◌≡◌, ℕ, suc, ◌+◌, ◌<◌, ◌≤◌, List, [], ◌∷◌, ◌++◌, All, drop, length, set, take}
use Rattle.std.specs.List.{flat_map}
use Rattle.gos_netlist.specs.declared.nets.Gate as declared
use Rattle.gos_netlist.specs.declared.nets.Gate.TheVariants as gates
use Rattle.gos_netlist.specs.Nets.{Function, Not, Add, Sub}
use Rattle.gos_netlist.specs.Seen.{function_of}
use Rattle.gos_netlist.specs.Settling.{Numbers, at, shown}
use Rattle.gos_sim.specs.declared.program.Step.{Step}
use Rattle.gos_sim.specs.declared.evaluation.Kind.{Kind}
use Rattle.gos_sim.specs.declared.evaluation.Kind.TheVariants as kinds
use Rattle.gos_sim.specs.declared.evaluation.Operands.{Operands}
use Rattle.gos_sim.specs.declared.evaluation.Run.{Run}

-- the value that a step gives to its net
abbrev pub value_of : Step → Numbers → ℕ
value_of s v = shown s.width (function_of s.gate) 0 0 (at v)

-- the values after steps, one after another
abbrev pub after : List Step → Numbers → Numbers
after [] v = v
after (s ∷ ss) v = after ss (set v s.net (value_of s v))

-- the bits of a function, where they matter
abbrev pub bits_of : Function → ℕ → ℕ
bits_of (Not a) w = w
bits_of (Add a b) w = w
bits_of (Sub a b) w = w
bits_of f w = 0

-- steps of so many bits, one for each operand, at nets from one on
abbrev pub steps_from : {A : Type 0} → ℕ → (A → declared.Gate) → ℕ → List A → List Step
steps_from w gate n [] = []
steps_from w gate n (x ∷ xs) = record { net = n; width = w; gate = gate x } ∷ steps_from w gate (suc n) xs

-- those of the operands that are a run's
abbrev pub part : {A : Type 0} → Run → List A → List A
part r xs = take r.count (drop r.first xs)

-- the steps of a run
abbrev pub steps_of_kind : Kind → Operands → Run → List Step
steps_of_kind kinds.Const o r = steps_from 0 gates.Const r.net (part r o.constants.items)
steps_of_kind kinds.Not o r = steps_from r.width gates.Not r.net (part r o.pins.items)
steps_of_kind kinds.And o r = steps_from 0 (λ p. gates.And p.a p.b) r.net (part r o.pairs.items)
steps_of_kind kinds.Or o r = steps_from 0 (λ p. gates.Or p.a p.b) r.net (part r o.pairs.items)
steps_of_kind kinds.Xor o r = steps_from 0 (λ p. gates.Xor p.a p.b) r.net (part r o.pairs.items)
steps_of_kind kinds.Mux o r = steps_from 0 (λ t. gates.Mux t.s t.a t.b) r.net (part r o.triples.items)
steps_of_kind kinds.Add o r = steps_from r.width (λ p. gates.Add p.a p.b) r.net (part r o.pairs.items)
steps_of_kind kinds.Sub o r = steps_from r.width (λ p. gates.Sub p.a p.b) r.net (part r o.pairs.items)
steps_of_kind kinds.Eq o r = steps_from 0 (λ p. gates.Eq p.a p.b) r.net (part r o.pairs.items)
steps_of_kind kinds.Less o r = steps_from 0 (λ p. gates.Less p.a p.b) r.net (part r o.pairs.items)
steps_of_kind kinds.Gate o r = steps_from 0 (λ p. gates.Gate p.a p.b) r.net (part r o.pairs.items)

abbrev pub steps_of : Operands → Run → List Step
steps_of o r = steps_of_kind r.kind o r

-- the steps of some runs, and then those of a last one
abbrev pub all_steps : Operands → List Run → Run → List Step
all_steps o runs last = flat_map (steps_of o) runs ++ steps_of o last

-- how many operands of a kind there are
abbrev pub room_of : Kind → Operands → ℕ
room_of kinds.Const o = length o.constants.items
room_of kinds.Not o = length o.pins.items
room_of kinds.Mux o = length o.triples.items
room_of kind o = length o.pairs.items

-- a run has an operand for each of its steps
abbrev pub Fits : Operands → Run → Type 0
Fits o r = r.first + r.count ≤ room_of r.kind o

-- each of these runs has, and a last one too
pub record AreFitting (o : Operands) (runs : List Run) (last : Run) : Type 0 where
  pub all : All (Fits o) runs
  pub too : Fits o last

-- a run goes on as another one ends
pub record GoesOn (last next : Run) : Type 0 where
  pub kind : last.kind ≡ next.kind
  pub width : last.width ≡ next.width
  pub net : last.net + last.count ≡ next.net
  pub first : last.first + last.count ≡ next.first
  pub few : last.count < 4294967295

-- a run more: its steps come behind the others, and it has its operands
abbrev pub AreRunsMore : List Run → Run → Run → List Run → Run → Type 0
AreRunsMore runs last next more newest =
    (o : Operands) → AreFitting o runs last → Fits o next
    → (all_steps o more newest ≡ all_steps o runs last ++ steps_of o next) × AreFitting o more newest

-- some list is another one, or has one element more behind it
pub record IsLonger {A : Type 0} (old new : List A) : Type 0 where
  pub rest : List A
  pub is : new ≡ old ++ rest
  pub few : length rest ≤ 1

-- so are the operands of each kind
pub record AreLonger (old new : Operands) : Type 0 where
  pub constants : IsLonger old.constants.items new.constants.items
  pub pins : IsLonger old.pins.items new.pins.items
  pub pairs : IsLonger old.pairs.items new.pairs.items
  pub triples : IsLonger old.triples.items new.triples.items

-- the run of one step
abbrev pub run_of : Kind → ℕ → ℕ → ℕ → Run
run_of kind net width first = record { kind = kind; width = width; net = net; first = first; count = 1 }

-- an operand is added behind others, and the run is the one step that has it
pub record HasOperand {A : Type 0} (kind : Kind) (net width : ℕ) (operand : A) (old new : List A) (r : Run) : Type 0 where
  pub run : r ≡ run_of kind net width (length old)
  pub added : new ≡ old ++ operand ∷ []

-- the operand of a step is added, and the run is that step alone
pub record IsAdded (old new : Operands) (s : Step) (r : Run) : Type 0 where
  pub longer : AreLonger old new
  pub one : r.count ≡ 1
  pub fits : Fits new r
  pub steps : steps_of new r ≡ record { net = s.net; width = bits_of (function_of s.gate) s.width; gate = s.gate } ∷ []
