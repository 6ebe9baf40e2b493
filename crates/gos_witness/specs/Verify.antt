-- What `verify` answers, and what a yes means.
--
-- Read first: Lines. Of any lines and labels one answer is right at most (OneAnswer), so `verify` gives each answer exactly where it is.
use Rattle.std.specs.Prelude.{◌≡◌, List}
use Rattle.gos_model.specs.Labels.{Label}
use Rattle.gos_model.specs.Moves.{Program, Trace}
use Rattle.gos_witness.specs.declared.moves.Line.{Line}
use Rattle.gos_witness.specs.declared.fault.ExplainFault.{ExplainFault}
use Rattle.gos_witness.specs.declared.fault.ExplainFault.TheVariants as faults
use Rattle.gos_witness.specs.Lines.{IsWrong, IsTooLarge, IsLeft, Explains}

-- why lines don't explain labels
abbrev pub IsFaultOf : Program → List Label → List Line → ExplainFault → Type 0
IsFaultOf p ls lines (faults.Wrong n) = IsWrong p ls lines n
IsFaultOf p ls lines (faults.Labels n) = IsLeft p ls lines n
IsFaultOf p ls lines (faults.Nodes n) = IsTooLarge p ls lines n
IsFaultOf p ls lines f = ⊥

-- lines that explain labels are a list of moves with these labels, whoever wrote them
abbrev pub ExplainedIsTrace : Type 0
ExplainedIsTrace = (p : Program) (ls : List Label) (lines : List Line) → Explains p ls lines → Trace p ls

-- of the answers one fits at most
pub record OneAnswer (p : Program) (ls : List Label) (lines : List Line) : Type 0 where
  pub not_both : Explains p ls lines → (f : ExplainFault) → IsFaultOf p ls lines f → ⊥
  pub one : (f g : ExplainFault) → IsFaultOf p ls lines f → IsFaultOf p ls lines g → f ≡ g

abbrev pub AlwaysOneAnswer : Type 0
AlwaysOneAnswer = (p : Program) (ls : List Label) (lines : List Line) → OneAnswer p ls lines
