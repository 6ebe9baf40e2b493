-- Where lines lead, as the program keeps it.
--
-- Read first: Lines, Programs, Ports; Rows, Keeping.
use Rattle.std.specs.Prelude.{◌≡◌, ◌⊎◌, ◌<◌, ◌≤◌, ℕ, Bool, true, false, List, Option, Some, None, IfSome, length, take, drop}
use Rattle.gos_model.specs.Terms.{Term, Skip, Lit}
use Rattle.gos_model.specs.Moves.{Config, Idle, Running}
use Rattle.gos_witness.specs.declared.labels.Label.{Label}
use Rattle.gos_witness.specs.declared.moves.Line.{Line}
use Rattle.gos_witness.specs.declared.program.ProgramPort.{ProgramPort}
use Rattle.gos_witness.specs.declared.store.Entry.{Entry}
use Rattle.gos_witness.specs.declared.verifying.Stage.{Stage}
use Rattle.gos_witness.specs.NodeLists.{Listed, seen}
use Rattle.gos_witness.specs.Ports.{labels_of}
use Rattle.gos_witness.specs.Programs.{SeenProgram, program_of}
use Rattle.gos_witness.specs.Lines.{Stand, start, Makes, CantMake, Lead, EndsIdly}
use Rattle.gos_witness.specs.inner.Keeping.{Keeps}
use Rattle.gos_witness.specs.inner.Rows.{AreNarrow, entries_of}

-- the configuration of a node, if there is one, and a store
abbrev pub config_of : Listed → Option ℕ → List Entry → Config
config_of l None s = Idle
config_of l (Some i) s = Running (seen l i) (entries_of s)

-- where the lines lead, and the labels that are left
abbrev pub stand_of : List ProgramPort → List Label → Stage → Stand
stand_of ports labels g =
    record { config = config_of g.list g.running g.store.items; left = labels_of ports (drop g.matched labels) }

-- the number with which a value answers
abbrev pub HasValue : Term → ℕ → Type 0
HasValue m k = ((m ≡ Skip) × (k ≡ 0)) ⊎ ((w : ℕ) × (m ≡ Lit k w))

-- what is known of a stage
pub record IsStage (p : SeenProgram) (labels : List Label) (g : Stage) : Type 0 where
  pub running : IfSome g.running (λ i. i < length g.list.nodes)
  pub narrow : AreNarrow g.store.items
  pub program : Keeps p.list g.list
  pub matched : g.matched ≤ length labels

-- the line leads from one stage to another, whose list has the terms of the first, or it can't be made
abbrev pub IsMade : SeenProgram → List Label → Line → Stage → Stage → Bool → Type 0
IsMade p labels line g h true =
    IsStage p labels h × Makes (program_of p) line (stand_of p.ports labels g) (stand_of p.ports labels h) × Keeps g.list h.list
IsMade p labels line g h false = CantMake (program_of p) line (stand_of p.ports labels g)

-- the first n lines have led to a stage, and if those are all, the last is no unfolding
pub record IsPassed (p : SeenProgram) (labels : List Label) (lines : List Line) (n : ℕ) (g : Stage) : Type 0 where
  pub stage : IsStage p labels g
  pub lead : Lead (program_of p) (take n lines) (start (labels_of p.ports labels)) (stand_of p.ports labels g)
  pub whole : n ≡ length lines → EndsIdly lines → ⊥
