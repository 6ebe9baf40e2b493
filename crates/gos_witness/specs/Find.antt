-- What `find` answers where it finds no lines.
--
-- Read first: Lines; Moves of gos_model. A label's budget is of the whole list of moves: the steps that lead to the labels
-- before it count as well.
use Rattle.std.specs.Prelude.{◌≡◌, ◌<◌, ◌≤◌, ◌*◌, ℕ, suc, List, [], ◌∷◌, length, take}
use Rattle.gos_model.specs.Terms.{Term}
use Rattle.gos_model.specs.Labels.{Label}
use Rattle.gos_model.specs.Moves.{Program, Config, Idle, Running, Act, Computing, Showing, Unfoldings, Moves, Trace, labels}
use Rattle.gos_witness.specs.declared.fault.ExplainFault.{ExplainFault}
use Rattle.gos_witness.specs.declared.fault.ExplainFault.TheVariants as faults
use Rattle.gos_witness.specs.declared.moves.Line.{Line}
use Rattle.gos_witness.specs.Sizes.{size}
use Rattle.gos_witness.specs.Lines.{limit, Explains}

-- how many of the moves are computation steps
abbrev pub steps_of : List Act → ℕ
steps_of [] = 0
steps_of (Computing ∷ acts) = suc (steps_of acts)
steps_of (Showing o ∷ acts) = steps_of acts

-- a list of moves from Idle has these labels and makes n steps
abbrev pub TakesSteps : Program → List Label → ℕ → Type 0
TakesSteps p ls n = (acts : List Act) × (c : Config) × Moves p acts Idle c × (labels acts ≡ ls) × (steps_of acts ≡ n)

-- the labels before number k are a trace, and those with it are none
pub record IsNotTrace (p : Program) (ls : List Label) (k : ℕ) : Type 0 where
  pub there : k < length ls
  pub before : Trace p (take k ls)
  pub none : Trace p (take (suc k) ls) → ⊥

-- how many steps may lead to label number k
abbrev pub budget : ℕ → ℕ
budget k = 1000000 * suc k

-- so many steps, or more, are made with the labels before number k, and with it there are no fewer
pub record IsSpent (p : Program) (ls : List Label) (k : ℕ) : Type 0 where
  pub there : k < length ls
  pub before : (n : ℕ) × (budget k ≤ n) × TakesSteps p (take k ls) n
  pub least : (n : ℕ) → TakesSteps p (take (suc k) ls) n → budget k ≤ n

-- unfoldings lead from a running term to one of so many nodes
abbrev pub UnfoldsToSize : Config → ℕ → Type 0
UnfoldsToSize Idle nodes = ⊥
UnfoldsToSize (Running m s) nodes = (n : ℕ) × (t : Term) × Unfoldings n m t × (nodes ≡ size t)

-- moves with the first of the labels, and unfoldings behind them, lead to a term that is too large
pub record HasLarge (p : Program) (ls : List Label) (nodes : ℕ) : Type 0 where
  pub acts : List Act
  pub config : Config
  pub moves : Moves p acts Idle config
  pub first : (k : ℕ) × (labels acts ≡ take k ls)
  pub size : UnfoldsToSize config nodes
  pub large : limit < nodes

-- why no lines are found
abbrev pub IsFaultOfFind : Program → List Label → ExplainFault → Type 0
IsFaultOfFind p ls (faults.NotTrace k) = IsNotTrace p ls k
IsFaultOfFind p ls (faults.Spent k) = IsSpent p ls k
IsFaultOfFind p ls (faults.Nodes n) = HasLarge p ls n
IsFaultOfFind p ls f = ⊥

-- one label at most is the first that can't come, and there is none in a trace
abbrev pub OneIsNotTrace : Type 0
OneIsNotTrace = (p : Program) (ls : List Label) (j k : ℕ) → IsNotTrace p ls j → IsNotTrace p ls k → j ≡ k

abbrev pub ExplainedIsNotRefused : Type 0
ExplainedIsNotRefused = (p : Program) (ls : List Label) (lines : List Line) (k : ℕ) → Explains p ls lines → IsNotTrace p ls k → ⊥
