-- A trace file or a file of moves is read whole, or it is rejected.
use Rattle.std.proofs.Common.{◌≡◌, ◌≤◌, ◌∙◌, inl, inr, ℕ, List, None, Option, ap, length, refl, subst, sym}
use Rattle.std.specs.Prelude.{IfSome}
use Rattle.gos_outside.specs.Files.{Files, bytes_at}
use Rattle.gos_lex.specs.Lines.{Word}
use Rattle.gos_witness.specs.declared.fault.ExplainFault.{ExplainFault}
use Rattle.gos_witness.specs.TextFaults.{IsFormFault}
use Rattle.gos_command.specs.Ends.{IsRealCause}
use Rattle.gos_command.specs.Lines.{fault_line}
use Rattle.gos_command.specs.declared.status.Cause.{Cause}
use Rattle.gos_command.specs.declared.status.Cause.TheVariants.{Explain}
use Rattle.gos_command.specs.declared.status.Fault.{Fault}
use Rattle.gos_command.proofs.EndLemmas.{of_some}
use Rattle.gos_tool.specs.Causes.{IsFileFault}
use Rattle.gos_tool.specs.explained.Texts.{IsTextCause, too_long}
use Rattle.gos_tool.specs.explained.inner.Reading.{IsLongFile}

-- a file that is rejected for this cause
pub file_fault : (Why : Cause → Type 0) (name : Word) (cause : Cause) (fault : Fault) (line : List ℕ) → Why cause
    → fault ≡ record { file = name; cause = cause } → line ≡ fault_line None fault → IsFileFault name Why fault line
file_fault Why name cause fault line why is says =
    record { file = ap (λ (f : Fault). f.file) is; cause = subst Why (sym (ap (λ (f : Fault). f.cause) is)) why; says = says }

-- what is so of the text is so of the file
pub of_file : (Q : List ℕ → Type 0) (told : Option Files) (name : Word) (text given : List ℕ) → IfSome told (λ files. bytes_at files name ≡ text) → given ≡ text
    → Q given → IfSome told (λ files. Q (bytes_at files name))
of_file Q told name text given read same is =
    of_some (λ files. bytes_at files name ≡ text) (λ files. Q (bytes_at files name)) told (λ files h. subst Q (same ∙ sym h) is) read

module _ (IsText : List ℕ → Type 0) (told : Option Files) (name : Word) where
  pub too_long_text : (fault : Fault) (line : List ℕ) → IfSome told (λ files. IsLongFile files name fault line)
      → IfSome told (λ files. IsFileFault name (IsTextCause IsText (bytes_at files name)) fault line)
  too_long_text fault line wrong =
      of_some (λ files. IsLongFile files name fault line) (λ files. IsFileFault name (IsTextCause IsText (bytes_at files name)) fault line) told
      (λ files h. file_fault (IsTextCause IsText (bytes_at files name)) name (Explain too_long) fault line (inl (h.long, refl)) h.is h.says) wrong

  pub broken_text : (text given : List ℕ) (why : ExplainFault) (fault : Fault) (line : List ℕ) → IfSome told (λ files. bytes_at files name ≡ text)
      → given ≡ text → length given ≤ 268435456 → IsFormFault IsText given why → IsRealCause (Explain why) → fault ≡ record { file = name; cause = Explain why }
      → line ≡ fault_line None fault → IfSome told (λ files. IsFileFault name (IsTextCause IsText (bytes_at files name)) fault line)
  broken_text text given why fault line read same short broken real is says =
      of_file (λ (bytes : List ℕ). IsFileFault name (IsTextCause IsText bytes) fault line) told name text given read same
      (file_fault (IsTextCause IsText given) name (Explain why) fault line (inr (short, real, broken)) is says)
