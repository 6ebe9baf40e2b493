-- From the calls of `verify` to what it tells, at each of its ends.
use Rattle.std.proofs.Common.{◌≡◌, ◌∙◌, inl, inr, ℕ, List, Option, None, Result, Ok, Err, length, refl, subst, sym}
use Rattle.std.specs.Prelude.{IfSome, IfOk, IfErr}
use Rattle.gos_outside.specs.Files.{Files, bytes_at}
use Rattle.gos_outside.specs.Faults.{LastFault, ReadFault}
use Rattle.gos_outside.specs.Calls.{StoreCall, Calls, and_all, AreMade}
use Rattle.gos_outside.proofs.CallsLemmas.{all_made}
use Rattle.gos_lex.specs.Lines.{Word}
use Rattle.gos_syntax.specs.Modules.{SeenModule}
use Rattle.gos_model.specs.Moves.{Program, Trace}
use Rattle.gos_link.specs.Linked.{SeenLinks}
use Rattle.gos_link.specs.BuildFile.{IsBuildFile}
use Rattle.gos_link.specs.declared.build.Build.{Build}
use Rattle.gos_link.specs.declared.build.Instance.{Instance}
use Rattle.gos_witness.specs.declared.labels.Label.{Label}
use Rattle.gos_witness.specs.declared.moves.Line.{Line}
use Rattle.gos_witness.specs.declared.program.ProgramPort.{ProgramPort}
use Rattle.gos_witness.specs.Lines.{Explains}
use Rattle.gos_witness.specs.MovesText.{IsMovesText}
use Rattle.gos_witness.specs.Ports.{labels_of}
use Rattle.gos_witness.specs.Programs.{SeenProgram, program_of}
use Rattle.gos_witness.specs.TraceText.{IsTraceText}
use Rattle.gos_command.specs.Ends.{ending}
use Rattle.gos_command.specs.declared.report.Report.{Report}
use Rattle.gos_command.specs.declared.report.Report.TheVariants as reports
use Rattle.gos_command.specs.declared.status.Fault.{Fault}
use Rattle.gos_command.specs.declared.stop.Stop.{Stop}
use Rattle.gos_command.specs.declared.stop.Stop.TheVariants.{Rejected, StoreFailed, NoMemory}
use Rattle.gos_command.proofs.EndLemmas.{of_some, of_some_both}
use Rattle.gos_tool.specs.Causes.{IsFileFault}
use Rattle.gos_tool.specs.circuits.Linked.{SaysBuild}
use Rattle.gos_tool.proofs.lemmas.circuits.LinkLemmas.{HasRead}
use Rattle.gos_tool.specs.build.Headline.{SayModules}
use Rattle.gos_tool.specs.explained.Sources.{RejectsSource, IsSourceCall}
use Rattle.gos_tool.specs.explained.LinkedModules.{IsLinkedAs, IsModulesCause}
use Rattle.gos_tool.specs.explained.Texts.{SaysLabels, SaysLines, IsTextCause}
use Rattle.gos_tool.specs.explained.Explained.{AreExplained, IsLinesCause, RejectsTexts, HasTraceLabels, IsTextsCall}
use Rattle.gos_tool.specs.explained.Verified.{SayProgram, IsVerified, RejectsSources, RejectsVerify, HasProgramLabels, IsVerifyCall}

-- the calls of what reads no file, after some that were all made
pub none_more : {A : Type 0} (r : Result A Stop) (calls : List StoreCall) (old new : Calls) → IfErr r (λ stop. stop ≡ StoreFailed → ⊥)
    → new ≡ and_all old calls → AreMade (ending r) calls old new
none_more (Ok x) calls old new other made = made
none_more (Err (Rejected r)) calls old new other made = all_made calls old new made
none_more (Err StoreFailed) calls old new other made = absurd (other refl)
none_more (Err NoMemory) calls old new other made = all_made calls old new made

-- the trace file is read first
module _ (old : Option Files) (ports named : List ProgramPort) (same : named ≡ ports) (p : Program) (trace moves : Word) where
  pub trace_rejected : (fault : Fault) (line : List ℕ) → IfSome old (λ files. IsFileFault trace (IsTextCause (IsTraceText named) (bytes_at files trace)) fault line)
      → IfSome old (λ files. RejectsTexts files ports p trace moves fault line)
  trace_rejected fault line wrong =
      of_some (λ files. IsFileFault trace (IsTextCause (IsTraceText named) (bytes_at files trace)) fault line) (λ files. RejectsTexts files ports p trace moves fault line) old
      (λ files h. inl (subst (λ (qs : List ProgramPort). IsFileFault trace (IsTextCause (IsTraceText qs) (bytes_at files trace)) fault line) same h)) wrong

-- it has labels, and the moves are read
pub record HasLabels (old told : Option Files) (ports : List ProgramPort) (trace : Word) (labels : List Label) : Type 0 where
  pub kept : told ≡ old
  pub says : IfSome old (λ files. SaysLabels ports (bytes_at files trace) labels)

pub has_labels : (old told : Option Files) (ports named : List ProgramPort) (trace : Word) (labels read : List Label) → named ≡ ports → labels ≡ read → told ≡ old
    → IfSome old (λ files. SaysLabels named (bytes_at files trace) read) → HasLabels old told ports trace labels
has_labels old told ports named trace labels read same is kept says =
    record {
      kept = kept;
      says =
          subst (λ (qs : List ProgramPort). IfSome old (λ files. SaysLabels qs (bytes_at files trace) labels)) same
          (subst (λ (ls : List Label). IfSome old (λ files. SaysLabels named (bytes_at files trace) ls)) (sym is) says);
    }

module _ {old told : Option Files} {ports : List ProgramPort} {trace : Word} {labels : List Label} (has : HasLabels old told ports trace labels) (p : Program)
    (moves : Word) where
  -- from a fact of the files then and the labels
  with_labels : (P Q : Files → Type 0) → ((files : Files) → SaysLabels ports (bytes_at files trace) labels → P files → Q files) → IfSome told P → IfSome old Q
  with_labels P Q f h =
      of_some_both (λ files. SaysLabels ports (bytes_at files trace) labels) P Q old f has.says (subst (λ (o : Option Files). IfSome o P) has.kept h)

  pub moves_rejected : (fault : Fault) (line : List ℕ) → IfSome told (λ files. IsFileFault moves (IsTextCause IsMovesText (bytes_at files moves)) fault line)
      → IfSome old (λ files. RejectsTexts files ports p trace moves fault line)
  moves_rejected fault line =
      with_labels (λ files. IsFileFault moves (IsTextCause IsMovesText (bytes_at files moves)) fault line)
      (λ files. RejectsTexts files ports p trace moves fault line) (λ files says h. inr (labels, says, inl h))

  pub moves_call : (fault : LastFault) → fault ≡ ReadFault moves → IsTextsCall trace moves (IfSome old (λ files. HasTraceLabels files ports trace)) fault
  moves_call fault is =
      inr (
        of_some (λ files. SaysLabels ports (bytes_at files trace) labels) (λ files. HasTraceLabels files ports trace) old (λ files says. (labels, says)) has.says,
        is,
      )

  -- these have lines
  module _ (lines read : List Line) (same : lines ≡ read) (say : IfSome told (λ files. SaysLines (bytes_at files moves) read)) where
    with_lines : (Q : Files → Type 0) → ((files : Files) → SaysLabels ports (bytes_at files trace) labels → SaysLines (bytes_at files moves) lines → Q files) → IfSome old Q
    with_lines Q f =
        with_labels (λ files. SaysLines (bytes_at files moves) read) Q
        (λ files says h. f files says (subst (λ (ls : List Line). SaysLines (bytes_at files moves) ls) (sym same) h)) say

    pub lines_rejected : (fault : Fault) (line : List ℕ) → IsFileFault moves (IsLinesCause p (labels_of ports labels) lines) fault line
        → IfSome old (λ files. RejectsTexts files ports p trace moves fault line)
    lines_rejected fault line wrong =
        with_lines (λ files. RejectsTexts files ports p trace moves fault line) (λ files says said. inr (labels, says, inr (lines, said, wrong)))

    are_explained : (report : Report) → Explains p (labels_of ports labels) lines → Trace p (labels_of ports labels)
        → report ≡ reports.Explained (length lines) (length labels) → IfSome old (λ files. AreExplained files ports p trace moves report)
    are_explained report explained is_trace tells =
        with_lines (λ files. AreExplained files ports p trace moves report)
        (λ files says said. record {
          labels = labels;
          lines = lines;
          says_labels = says;
          says_lines = said;
          explained = explained;
          is_trace = is_trace;
          tells = tells;
        })

    pub all_explained : (r : Result Report Stop) → IfOk r (λ _. Explains p (labels_of ports labels) lines) → IfOk r (λ _. Trace p (labels_of ports labels))
        → IfOk r (λ report. report ≡ reports.Explained (length lines) (length labels)) → IfOk r (λ report. IfSome old (λ files. AreExplained files ports p trace moves report))
    all_explained (Ok report) explained is_trace tells = are_explained report explained is_trace tells
    all_explained (Err stop) explained is_trace tells = tt

-- the sources of a build are read, and then linked
module _ (old : Option Files) (own : Word) (b : Build) (is : List Instance) (same : is ≡ b.instances.items) where
  pub source_rejected : (written : Option Word) (fault : Fault) (line : List ℕ) → IfSome old (λ files. RejectsSource files is fault line)
      → IfSome old (λ files. RejectsSources files own b written fault line)
  source_rejected written fault line wrong =
      of_some (λ files. RejectsSource files is fault line) (λ files. RejectsSources files own b written fault line) old
      (λ files h. inl (subst (λ (js : List Instance). RejectsSource files js fault line) same h)) wrong

  module _ (ms : List SeenModule) (say : IfSome old (λ files. SayModules files is ms)) where
    pub modules_rejected : (written : Option Word) (fault : Fault) (line : List ℕ) → IsFileFault own (IsModulesCause b written ms) fault line
        → IfSome old (λ files. RejectsSources files own b written fault line)
    modules_rejected written fault line wrong =
        of_some (λ files. SayModules files is ms) (λ files. RejectsSources files own b written fault line) old
        (λ files h. inr (ms, subst (λ (js : List Instance). SayModules files js ms) same h, wrong)) say

    pub say_program : (whole : SeenProgram) → ((links : SeenLinks) × IsLinkedAs b ms links whole) → IfSome old (λ files. SayProgram files b whole)
    say_program whole (links, linked) =
        of_some (λ files. SayModules files is ms) (λ files. SayProgram files b whole) old
        (λ files h. record { modules = ms; links = links; say = subst (λ (js : List Instance). SayModules files js ms) same h; linked = linked }) say

-- the build file was read
module _ {old told : Option Files} {own : Word} {b : Build} (has : HasRead old told own b) (moves : Word) where
  pub after_build : (P Q : Files → Type 0) → ((files : Files) → SaysBuild files own b → P files → Q files) → IfSome told P → IfSome old Q
  after_build P Q f h = of_some_both (λ files. SaysBuild files own b) P Q old f has.says (subst (λ (o : Option Files). IfSome o P) has.kept h)

  pub sources_rejected : (fault : Fault) (line : List ℕ) → IfSome told (λ files. RejectsSources files own b None fault line)
      → IfSome old (λ files. RejectsVerify files own moves fault line)
  sources_rejected fault line =
      after_build (λ files. RejectsSources files own b None fault line) (λ files. RejectsVerify files own moves fault line) (λ files says h. inr (b, says, inl h))

  pub sources_call : ((text : List ℕ) × IsBuildFile text own b) → (fault : LastFault) → IsSourceCall told b.instances.items fault
      → IsVerifyCall old own moves fault
  sources_call read fault call =
      inr (b, (read, has.says), inl (subst (λ (o : Option Files). IsSourceCall o b.instances.items fault) has.kept call))

-- its sources too, and linked
pub record HasProgram (old told : Option Files) (own : Word) (b : Build) (whole : SeenProgram) : Type 0 where
  pub kept : told ≡ old
  pub says : IfSome old (λ files. SaysBuild files own b)
  pub sources : IfSome old (λ files. SayProgram files b whole)

pub has_program : {old told : Option Files} {own : Word} {b : Build} → HasRead old told own b → (new : Option Files) (whole : SeenProgram) → new ≡ told
    → IfSome told (λ files. SayProgram files b whole) → HasProgram old new own b whole
has_program {old} {told} {own} {b} has new whole kept say =
    record {
      kept = kept ∙ has.kept;
      says = has.says;
      sources = subst (λ (o : Option Files). IfSome o (λ files. SayProgram files b whole)) has.kept say;
    }

module _ {old told : Option Files} {own : Word} {b : Build} {whole : SeenProgram} (has : HasProgram old told own b whole) (moves trace : Word)
    (named : trace ≡ b.trace) where
  pub after_program : (P : Word → Files → Type 0) (Q : Files → Type 0)
      → ((files : Files) → SaysBuild files own b → SayProgram files b whole → P b.trace files → Q files) → IfSome told (P trace) → IfSome old Q
  after_program P Q f h =
      of_some_both (λ files. SaysBuild files own b) (λ files. P b.trace files × SayProgram files b whole) Q old
      (λ files says both. f files says both.1 both.0) has.says
      (of_some_both (P b.trace) (λ files. SayProgram files b whole) (λ files. P b.trace files × SayProgram files b whole) old
      (λ files here said. (here, said))
      (subst (λ (o : Option Files). IfSome o (P b.trace)) has.kept (subst (λ (t : Word). IfSome told (P t)) named h)) has.sources)

  pub texts_rejected : (fault : Fault) (line : List ℕ)
      → IfSome told (λ files. RejectsTexts files whole.ports (program_of whole) trace moves fault line)
      → IfSome old (λ files. RejectsVerify files own moves fault line)
  texts_rejected fault line =
      after_program (λ t files. RejectsTexts files whole.ports (program_of whole) t moves fault line) (λ files. RejectsVerify files own moves fault line)
      (λ files says said h. inr (
        b,
        says,
        inr (whole, said, subst (λ (p : Program). RejectsTexts files whole.ports p b.trace moves fault line) said.linked.program.program h),
      ))

  -- what its program is known by, and its labels
  pub has_whole : IfSome old (λ files. (p : SeenProgram) × SayProgram files b p)
  has_whole = of_some (λ files. SayProgram files b whole) (λ files. (p : SeenProgram) × SayProgram files b p) old (λ files said. (whole, said)) has.sources

  labelled : IfSome told (λ files. HasTraceLabels files whole.ports trace) → IfSome old (λ files. HasProgramLabels files b)
  labelled =
      after_program (λ t files. HasTraceLabels files whole.ports t) (λ files. HasProgramLabels files b) (λ files says said h. (whole, said, h))

  pub texts_call : ((text : List ℕ) × IsBuildFile text own b) → (fault : LastFault)
      → IsTextsCall trace moves (IfSome told (λ files. HasTraceLabels files whole.ports trace)) fault → IsVerifyCall old own moves fault
  texts_call read fault (inl is) = inr (b, (read, has.says), inr (has_whole, inl (subst (λ (t : Word). fault ≡ ReadFault t) named is)))
  texts_call read fault (inr (says, is)) = inr (b, (read, has.says), inr (has_whole, inr (labelled says, is)))

  pub verified : (report : Report) → IfSome told (λ files. AreExplained files whole.ports (program_of whole) trace moves report)
      → IfSome old (λ files. IsVerified files own moves report)
  verified report =
      after_program (λ t files. AreExplained files whole.ports (program_of whole) t moves report) (λ files. IsVerified files own moves report)
      (λ files says said h. record {
        build = b;
        whole = whole;
        says = says;
        sources = said;
        explained = subst (λ (p : Program). AreExplained files whole.ports p b.trace moves report) said.linked.program.program h;
      })
