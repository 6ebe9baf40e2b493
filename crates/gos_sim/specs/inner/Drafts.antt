-- Runs that are being made of steps.
--
-- Read first: Spots, Places.
use Rattle.std.specs.Prelude.{ℕ, ◌+◌, ◌≤◌, List, ◌++◌, All, length}
use Rattle.gos_netlist.specs.Settling.{Numbers, at}
use Rattle.gos_sim.specs.declared.evaluation.Draft.{Draft}
use Rattle.gos_sim.specs.declared.evaluation.Operands.{Operands}
use Rattle.gos_sim.specs.declared.evaluation.Run.{Run}
use Rattle.gos_sim.specs.declared.program.Step.{Step}
use Rattle.gos_sim.specs.inner.Evaluation.{AreFitting, all_steps}
use Rattle.gos_sim.specs.inner.Spots.{IsNumbered, steps_in}
use Rattle.gos_sim.specs.inner.Places.{AreStepsMoved}

-- the runs so far are of these steps, moved to their places
pub record IsDraft (places : Numbers) (steps : List Step) (d : Draft) : Type 0 where
  pub fit : AreFitting d.operands d.runs.items d.last
  pub moved : AreStepsMoved (at places) steps (all_steps d.operands d.runs.items d.last)

-- at most so many operands of each kind
pub record AreUpTo (many : ℕ) (o : Operands) : Type 0 where
  pub constants : length o.constants.items ≤ many
  pub pins : length o.pins.items ≤ many
  pub pairs : length o.pairs.items ≤ many
  pub triples : length o.triples.items ≤ many

-- runs of at most so many steps, whose nets and operands have numbers of 32 bits
pub record AreCounted (many : ℕ) (runs : List Run) (last : Run) : Type 0 where
  pub steps : steps_in runs + last.count ≤ many
  pub all : All IsNumbered runs
  pub too : IsNumbered last

-- the runs so far are of at most so many steps
pub record IsDraftOf (many : ℕ) (d : Draft) : Type 0 where
  pub operands : AreUpTo many d.operands
  pub runs : AreCounted many d.runs.items d.last

-- steps are added behind whatever steps there are
abbrev pub AddsSteps : Numbers → List Step → Draft → Draft → Type 0
AddsSteps places more old new = (steps : List Step) → IsDraft places steps old → IsDraft places (steps ++ more) new
