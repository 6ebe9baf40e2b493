-- Why a text is refused, and that texts are read in one way.
--
-- Read first: MovesText, TraceText; Items of gos_lex. Places count bytes from 0.
use Rattle.std.specs.Prelude.{◌≡◌, ◌≢◌, ℕ, List}
use Rattle.gos_lex.specs.Items.{StopsAt}
use Rattle.gos_witness.specs.declared.fault.ExplainFault.{ExplainFault}
use Rattle.gos_witness.specs.declared.fault.ExplainFault.TheVariants as faults
use Rattle.gos_witness.specs.declared.labels.Label.{Label}
use Rattle.gos_witness.specs.declared.moves.Line.{Line}
use Rattle.gos_witness.specs.declared.program.ProgramPort.{ProgramPort}
use Rattle.gos_witness.specs.Ports.{ArePorts}
use Rattle.gos_witness.specs.TraceText.{IsTraceTextOf}
use Rattle.gos_witness.specs.MovesText.{IsMovesTextOf, AreLines, moves_text}

-- `Form`: `at` is the first place at which the text can't go on as one of this form, or its end. There is no other fault but
-- want of memory.
abbrev pub IsFormFault : (List ℕ → Type 0) → List ℕ → ExplainFault → Type 0
IsFormFault IsText text (faults.Form at) = StopsAt IsText text 0 at × (IsText text → ⊥)
IsFormFault IsText text faults.NoMemory = Unit {0}
IsFormFault IsText text fault = ⊥

-- a text has one such fault at most beside want of memory
abbrev pub HasOneFault : (List ℕ → Type 0) → List ℕ → Type 0
HasOneFault IsText text =
    (fault other : ExplainFault) → IsFormFault IsText text fault → IsFormFault IsText text other
    → fault ≢ faults.NoMemory → other ≢ faults.NoMemory → fault ≡ other

-- a text of the form has none
abbrev pub HasNoFault : (List ℕ → Type 0) → List ℕ → Type 0
HasNoFault IsText text = (fault : ExplainFault) → IsText text → IsFormFault IsText text fault → fault ≡ faults.NoMemory

-- a text is that of one list of moves at most
abbrev pub IsOneList : List ℕ → Type 0
IsOneList text = (lines others : List Line) → IsMovesTextOf text lines → IsMovesTextOf text others → lines ≡ others

-- the text of lines is read, as those lines
abbrev pub PrintedIsRead : Type 0
PrintedIsRead = (lines : List Line) → AreLines lines → IsMovesTextOf (moves_text lines) lines

-- and that of one list of labels
abbrev pub IsOneTrace : List ProgramPort → List ℕ → Type 0
IsOneTrace ports text = ArePorts ports → (labels others : List Label) → IsTraceTextOf ports text labels → IsTraceTextOf ports text others → labels ≡ others
