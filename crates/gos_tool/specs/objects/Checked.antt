-- The command `check SRC`.
--
-- Read first: ParsedModules of gos_syntax; Accepted and Judgements of gos_check. Of a file no more than 65,537 bytes are
-- read, one more than a source may have.
use Rattle.std.specs.Prelude.{◌≡◌, ◌≤◌, ℕ, List, length, take, None}
use Rattle.gos_outside.specs.Files.{Files, bytes_at}
use Rattle.gos_lex.specs.Lines.{Word}
use Rattle.gos_lex.specs.declared.token.Token.{Token}
use Rattle.gos_lex.specs.Tokens.{Reads}
use Rattle.gos_lex.specs.Tokens as lexing
use Rattle.gos_syntax.specs.Modules.{SeenModule}
use Rattle.gos_syntax.specs.ParsedModules as parsing
use Rattle.gos_check.specs.Accepted.{IsAccepted, weighed}
use Rattle.gos_check.specs.Faults.{Refuses}
use Rattle.gos_check.specs.Judgements.{module_judged}
use Rattle.gos_command.specs.Ends.{IsRealCause}
use Rattle.gos_command.specs.Lines.{fault_line}
use Rattle.gos_command.specs.declared.report.Report.{Report}
use Rattle.gos_command.specs.declared.report.Report.TheVariants as reports
use Rattle.gos_command.specs.declared.status.Cause.{Cause}
use Rattle.gos_command.specs.declared.status.Cause.TheVariants as causes
use Rattle.gos_command.specs.declared.status.Fault.{Fault}

-- the text has these tokens
pub record HasTokens (text : List ℕ) (tokens : List Token) : Type 0 where
  pub short : length text ≤ 65536
  pub reads : Reads text 0 tokens None

-- the text is that of this module
pub record IsSource (text : List ℕ) (m : SeenModule) : Type 0 where
  pub tokens : List Token
  pub scanned : HasTokens text tokens
  pub parsed : parsing.IsParsed text tokens m

-- the text is that of this module, which is accepted
pub record SaysModule (text : List ℕ) (m : SeenModule) : Type 0 where
  pub source : IsSource text m
  pub accepted : IsAccepted m

-- the source file says a module that is accepted, and the report has its weight
pub record IsChecked (files : Files) (source : Word) (report : Report) : Type 0 where
  pub made : SeenModule
  pub says : SaysModule (bytes_at files source) made
  pub tells : report ≡ reports.Weight (weighed made)

-- Why a source is rejected: it has no tokens, they are no module, or the module has a first fault.
abbrev pub IsSourceCause : List ℕ → Cause → Type 0
IsSourceCause text (causes.Lex fault) = lexing.HasFault text fault
IsSourceCause text (causes.Syntax fault) = (tokens : List Token) × HasTokens text tokens × parsing.HasFault text tokens fault
IsSourceCause text (causes.Check fault) = (m : SeenModule) × IsSource text m × Refuses (module_judged m) fault
IsSourceCause text cause = ⊥

-- the source file is rejected so, with this line
pub record IsSourceFault (files : Files) (source : Word) (fault : Fault) (line : List ℕ) : Type 0 where
  pub file : fault.file ≡ source
  pub real : IsRealCause fault.cause
  pub cause : IsSourceCause (take 65537 (bytes_at files source)) fault.cause
  pub says : line ≡ fault_line None fault
