-- Why the build file is rejected for its modules: their links are wrong, it names the file to be written, or their program is too large.
use Rattle.std.specs.Prelude.{◌≡◌, ◌≢◌, ◌∷◌, [], false, IsTrue, List, ℕ, Option, None}
use Rattle.std.proofs.Common.{inl, inr, refl}
use Rattle.gos_lex.specs.Lines.{Word}
use Rattle.gos_syntax.specs.Modules.{SeenModule}
use Rattle.gos_plan.specs.Seen.{SeenPlan}
use Rattle.gos_link.specs.declared.build.Build.{Build}
use Rattle.gos_link.specs.declared.fault.LinkFault.{LinkFault}
use Rattle.gos_link.specs.declared.fault.LinkFault.TheVariants as faults
use Rattle.gos_link.specs.Linked.{SeenLinks, IsOfLinks, IsUnlinked}
use Rattle.gos_witness.specs.declared.fault.ExplainFault.TheVariants as explain
use Rattle.gos_command.specs.Ends.{IsRealCause}
use Rattle.gos_command.specs.Lines.{fault_line}
use Rattle.gos_command.specs.declared.status.Cause.{Cause}
use Rattle.gos_command.specs.declared.status.Cause.TheVariants as causes
use Rattle.gos_command.specs.declared.status.Fault.{Fault}
use Rattle.gos_tool.specs.explained.Taken.{is_taken}
use Rattle.gos_tool.specs.explained.LinkedModules.{AreLinksOf, IsLinksCause, IsModulesCause, IsProgramCause, IsSizeCause, StandFor}
use Rattle.gos_tool.specs.Causes.{IsFileFault, IsOneOf, OfBuild}
use Rattle.gos_tool.proofs.lemmas.explained.TextLemmas.{file_fault}

module _ (b : Build) (ms : List SeenModule) where
  -- a fault of links, and of no weight and no size
  links_cause : (ps : List SeenPlan) (why : LinkFault) → StandFor ms ps → IsOfLinks why → (why ≢ faults.NoMemory → IsUnlinked b ps why)
      → IsRealCause (causes.Link why) → IsLinksCause b ms (causes.Link why)
  links_cause ps why stand light known real = (real, light, ps, stand, known real)

  -- a cause of the program is one of modules
  module _ (written : Option Word) where
    no_link : (why : LinkFault) → IsProgramCause b written ms (causes.Link why) → ⊥
    no_link why (inl (e, taken, ls, are)) = cc e
    no_link why (inr (free, h)) = h

    of_program : (cause : Cause) → IsProgramCause b written ms cause → IsModulesCause b written ms cause
    of_program (causes.Link why) h = absurd (no_link why h)
    of_program (causes.Explain why) h = h
    of_program (causes.Lex why) h = h
    of_program (causes.Syntax why) h = h
    of_program (causes.Check why) h = h
    of_program (causes.Object why) h = h
    of_program (causes.Net why) h = h
    of_program (causes.Refused why) h = h
    of_program (causes.Pulse why) h = h
    of_program (causes.Gates why) h = h

    pub of_program_fault : (own : Word) (fault : Fault) (line : List ℕ) → IsFileFault own (IsProgramCause b written ms) fault line
        → IsFileFault own (IsModulesCause b written ms) fault line
    of_program_fault own fault line h = record { file = h.file; cause = of_program fault.cause h.cause; says = h.says }

    -- and one of its size is one of the program, where no file is taken
    pub of_size_fault : is_taken b written ≡ false → (own : Word) (fault : Fault) (line : List ℕ) → IsFileFault own (IsSizeCause b ms) fault line
        → IsFileFault own (IsProgramCause b written ms) fault line
    of_size_fault free own fault line h = record { file = h.file; cause = inr (free, h.cause); says = h.says }

-- the file is rejected for a cause that it has
abbrev IsRejection : Word → Cause → Fault → List ℕ → Type 0
IsRejection own cause fault line = (fault ≡ record { file = own; cause = cause }) × IsRealCause cause × (line ≡ fault_line None fault)

rejected : (own : Word) (Why : Cause → Type 0) (cause : Cause) → (IsRealCause cause → Why cause) → (fault : Fault) (line : List ℕ)
    → IsRejection own cause fault line → IsFileFault own Why fault line
rejected own Why cause holds fault line (e, real, says) = file_fault Why own cause fault line (holds real) e says

pub links_fault : (b : Build) (written : Option Word) (ms : List SeenModule) (ps : List SeenPlan) (own : Word) (why : LinkFault) → StandFor ms ps
    → IsOfLinks why → (why ≢ faults.NoMemory → IsUnlinked b ps why) → (fault : Fault) (line : List ℕ)
    → IsRejection own (causes.Link why) fault line → IsFileFault own (IsModulesCause b written ms) fault line
links_fault b written ms ps own why stand light known =
    rejected own (IsModulesCause b written ms) (causes.Link why) (links_cause b ms ps why stand light known)

pub taken_fault : (b : Build) (written : Option Word) (ms : List SeenModule) (ls : SeenLinks) (own : Word) → IsTrue (is_taken b written)
    → AreLinksOf b ms ls → (fault : Fault) (line : List ℕ) → IsRejection own (causes.Explain explain.Taken) fault line
    → IsFileFault own (IsProgramCause b written ms) fault line
taken_fault b written ms ls own taken are =
    rejected own (IsProgramCause b written ms) (causes.Explain explain.Taken) (λ real. inl (refl, taken, ls, are))

-- a fault of links is one of the build
pub of_links : (why : LinkFault) → IsOfLinks why → IsOneOf (OfBuild ∷ []) (causes.Link why)
of_links (faults.TooHeavy weight) light = absurd light
of_links (faults.TooLarge size ports) light = absurd light
of_links why light = inl refl
