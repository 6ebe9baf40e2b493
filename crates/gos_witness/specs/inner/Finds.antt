-- What is known while lines are found.
--
-- Read first: Find, Stages.
use Rattle.std.specs.Prelude.{◌≡◌, ℕ, suc, ◌<◌, ◌≤◌, List, [], ◌∷◌, length}
use Rattle.gos_witness.specs.declared.labels.Label.{Label}
use Rattle.gos_witness.specs.declared.fault.ExplainFault.{ExplainFault}
use Rattle.gos_witness.specs.declared.fault.ExplainFault.TheVariants as faults
use Rattle.gos_witness.specs.declared.moves.Line.{Line}
use Rattle.gos_witness.specs.declared.moves.Line.TheVariants as kinds
use Rattle.gos_witness.specs.declared.needed.Turn.{Turn}
use Rattle.gos_witness.specs.declared.needed.Turn.TheVariants as turns
use Rattle.gos_witness.specs.declared.verifying.Stage.{Stage}
use Rattle.gos_witness.specs.Ports.{labels_of}
use Rattle.gos_witness.specs.Programs.{SeenProgram, program_of}
use Rattle.gos_witness.specs.Sizes.{size_of}
use Rattle.gos_witness.specs.Lines.{Stand, start, Makes, IsSmall, Lead, EndsIdly, limit}
use Rattle.gos_witness.specs.Find.{budget}
use Rattle.gos_witness.specs.inner.Stages.{stand_of, IsStage}
use Rattle.gos_witness.specs.inner.Searches.{IsSearch, IsNeededFor, NeverComes}

-- a way goes on to nodes of the list, and below node n where it isn't at its end
abbrev pub LeadsBelow : ℕ → ℕ → Turn → Type 0
LeadsBelow nodes n (turns.Down way part) = part < n
LeadsBelow nodes n (turns.Head head) = head < nodes
LeadsBelow nodes n (turns.Operand head) = head < nodes
LeadsBelow nodes n turns.Step = Unit {0}
LeadsBelow nodes n turns.Label = Unit {0}

-- a line leads from one stage to another, whose term isn't too large
pub record IsAdvanced (p : SeenProgram) (labels : List Label) (line : Line) (g h : Stage) : Type 0 where
  pub stage : IsStage p labels h
  pub makes : Makes (program_of p) line (stand_of p.ports labels g) (stand_of p.ports labels h)
  pub small : IsSmall (stand_of p.ports labels h)
  pub needed : IsNeededFor line (stand_of p.ports labels g).config (stand_of p.ports labels g).left

-- how many of the lines are computation steps
abbrev pub steps_in : List Line → ℕ
steps_in [] = 0
steps_in (kinds.Step path ∷ lines) = suc (steps_in lines)
steps_in (line ∷ lines) = steps_in lines

-- The lines so far lead to a stage, and labels are left where the last of them is an unfolding. So many of them are steps, and each list
-- of moves to the next label holds them.
pub record IsFound (p : SeenProgram) (labels : List Label) (lines : List Line) (g : Stage) (steps : ℕ) : Type 0 where
  pub stage : IsStage p labels g
  pub lead : Lead (program_of p) lines (start (labels_of p.ports labels)) (stand_of p.ports labels g)
  pub some : EndsIdly lines → g.matched < length labels
  pub count : steps ≡ steps_in lines
  pub search : IsSearch (program_of p) (labels_of p.ports labels) steps (stand_of p.ports labels g)

-- a line leads from a stage to a term that is too large
pub record Overgrows (p : SeenProgram) (labels : List Label) (g : Stage) (nodes : ℕ) : Type 0 where
  pub line : Line
  pub next : Stand
  pub makes : Makes (program_of p) line (stand_of p.ports labels g) next
  pub has : nodes ≡ size_of next.config
  pub large : limit < nodes

-- why no line is found at a stage, to which so many steps have led
abbrev pub IsHalt : SeenProgram → List Label → Stage → ℕ → ExplainFault → Type 0
IsHalt p labels g steps (faults.Nodes nodes) = Overgrows p labels g nodes
IsHalt p labels g steps (faults.NotTrace k) =
    (k ≡ g.matched) × NeverComes (program_of p) (stand_of p.ports labels g).config (stand_of p.ports labels g).left
IsHalt p labels g steps (faults.Spent k) = (k ≡ g.matched) × (budget k ≤ steps)
IsHalt p labels g steps faults.NoMemory = Unit {0}
IsHalt p labels g steps f = ⊥
