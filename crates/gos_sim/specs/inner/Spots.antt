-- Single steps among runs: where they are found, and what evaluates one by itself.
--
-- Read first: Evaluation.
use Rattle.std.specs.Prelude.{◌≡◌, ◌≢◌, ℕ, ◌+◌, ◌<◌, ◌≤◌, List, [], ◌∷◌, All, MatchOption, Option, Some, drop, length, set, slice_get, take}
use Rattle.std.specs.List.{flat_map}
use Rattle.gos_netlist.specs.declared.nets.Gate as declared
use Rattle.gos_netlist.specs.Settling.{Numbers, at}
use Rattle.gos_sim.specs.declared.program.Step.{Step}
use Rattle.gos_sim.specs.declared.evaluation.Operands.{Operands}
use Rattle.gos_sim.specs.declared.evaluation.Run.{Run}
use Rattle.gos_sim.specs.declared.spots.Spot.{Spot}
use Rattle.gos_sim.specs.inner.Evaluation.{Fits, steps_of, value_of}

-- how many steps there are in runs
abbrev pub steps_in : List Run → ℕ
steps_in [] = 0
steps_in (r ∷ rs) = r.count + steps_in rs

-- a run has so many steps before it
abbrev pub IsSpot : List Run → Spot → Type 0
IsSpot runs spot = spot.before + steps_in (drop spot.run runs) ≡ steps_in runs

-- the nets and operands of a run have numbers of 32 bits
pub record IsNumbered (r : Run) : Type 0 where
  pub net : r.net + r.count ≤ 4294967295
  pub first : r.first + r.count ≤ 4294967295

-- runs that have their operands, with spots among them, and the count of their steps
pub record IsIndexed (o : Operands) (runs : List Run) (all : List Spot) (many : ℕ) : Type 0 where
  pub fit : All (Fits o) runs
  pub spots : All (IsSpot runs) all
  pub numbered : All IsNumbered runs
  pub count : many ≡ steps_in runs

-- one step of a run, as a run
abbrev pub one_of : Run → ℕ → Run
one_of r k = record { kind = r.kind; width = r.width; net = r.net + k; first = r.first + k; count = 1 }

-- the run of a step alone: whatever operands these runs have, that one has its own
abbrev pub IsAlone : List Run → ℕ → Run → Type 0
IsAlone runs k one =
    (o : Operands) → All (Fits o) runs → Fits o one × (one.count ≡ 1) × (steps_of o one ≡ take 1 (drop k (flat_map (steps_of o) runs)))

-- the first of some steps has this gate
abbrev pub HasGate : List Step → declared.Gate → Type 0
HasGate steps gate = (s : Step) → slice_get steps 0 ≡ Some s → gate ≡ s.gate

-- the step with this number has
abbrev pub IsGate : List Step → ℕ → declared.Gate → Type 0
IsGate steps k gate = (s : Step) → slice_get steps k ≡ Some s → gate ≡ s.gate

-- the step with this number is evaluated
pub record IsEvaluated (steps : List Step) (k : ℕ) (old new : Numbers) : Type 0 where
  pub step : Step
  pub is : slice_get steps k ≡ Some step
  pub values : new ≡ set old step.net (value_of step old)

-- all places but one have what they had
abbrev pub KeepsOthersThan : ℕ → Numbers → Numbers → Type 0
KeepsOthersThan place old new = (p : ℕ) → place ≢ p → at new p ≡ at old p

-- it is told at which place there may be another value
abbrev pub Tells : Option ℕ → Numbers → Numbers → Type 0
Tells told old new = MatchOption told (new ≡ old) (λ place. (place < length old) × KeepsOthersThan place old new)
