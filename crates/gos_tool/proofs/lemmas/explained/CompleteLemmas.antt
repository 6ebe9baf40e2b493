-- Files that are right for `verify` or for `explain` have no fault: the build file has one answer, each source says one program, and each
-- text is read in one way.
use Rattle.std.specs.Prelude.{◌≡◌, ◌≤◌, ◌||◌, ◌∷◌, [], ℕ, false, List, Option, None, Some, length, map}
use Rattle.std.specs.List.{list_any}
use Rattle.std.specs.Str.{bytes_eq}
use Rattle.std.proofs.Common.{inl, inr, refl, sym, ◌∙◌, ap, arith, subst, true≢false}
use Rattle.gos_outside.specs.Files.{Files, bytes_at}
use Rattle.gos_lex.specs.Lines.{Word}
use Rattle.gos_syntax.specs.Modules.{SeenModule}
use Rattle.gos_model.specs.Labels as shown
use Rattle.gos_model.specs.Moves.{Program}
use Rattle.gos_link.specs.Answers.{BuildHasNoWrongLine, IsOneBuild}
use Rattle.gos_link.specs.BuildFile.{whole}
use Rattle.gos_link.specs.Faces.{FaultsAreOfFaces, LinksAreOfFaces, LinksAreOne, LinksHaveNoFault}
use Rattle.gos_link.specs.Linked.{SeenLinks}
use Rattle.gos_link.specs.declared.build.Build.{Build}
use Rattle.gos_link.specs.declared.build.Instance.{Instance}
use Rattle.gos_witness.specs.declared.fault.ExplainFault.{ExplainFault}
use Rattle.gos_witness.specs.declared.fault.ExplainFault.TheVariants as explain
use Rattle.gos_witness.specs.declared.labels.Label.{Label}
use Rattle.gos_witness.specs.declared.moves.Line.{Line}
use Rattle.gos_witness.specs.declared.program.ProgramPort.{ProgramPort}
use Rattle.gos_witness.specs.Lines.{Explains}
use Rattle.gos_witness.specs.MovesText.{IsMovesText, moves_text}
use Rattle.gos_witness.specs.Ports.{ArePorts, imported, labels_of}
use Rattle.gos_witness.specs.Programs.{SeenProgram}
use Rattle.gos_witness.specs.Sizes.{size}
use Rattle.gos_witness.specs.Substituted.{IsTooLargeFault}
use Rattle.gos_witness.specs.TextFaults.{HasNoFault, IsOneList, IsOneTrace}
use Rattle.gos_witness.specs.TraceText.{IsTraceText}
use Rattle.gos_witness.specs.Verify.{AlwaysOneAnswer}
use Rattle.gos_command.specs.declared.report.Report.{Report}
use Rattle.gos_command.specs.declared.status.Cause.{Cause}
use Rattle.gos_command.specs.declared.status.Cause.TheVariants as causes
use Rattle.gos_command.specs.declared.status.Fault.{Fault}
use Rattle.gos_tool.specs.Calls.{source_calls}
use Rattle.gos_tool.specs.Agreement.{AgreeOn}
use Rattle.gos_tool.specs.objects.Complete.{AcceptedIsNotRejected, SaysOneProgram}
use Rattle.gos_tool.specs.circuits.Complete.{EmptyIsNoBuild}
use Rattle.gos_tool.specs.build.Headline.{SayModules}
use Rattle.gos_tool.specs.explained.Sources.{RejectsSource}
use Rattle.gos_tool.specs.explained.Taken.{has_file, is_named, is_taken}
use Rattle.gos_tool.specs.explained.LinkedModules.{IsLinkedAs, IsModulesCause, IsProgramCause, program_along}
use Rattle.gos_tool.specs.explained.Texts.{IsTextCause}
use Rattle.gos_tool.specs.explained.Explained.{AreExplained, IsLinesCause, RejectsMoves, RejectsTexts}
use Rattle.gos_tool.specs.explained.Verified.{SayProgram, IsVerified, RejectsProgram, RejectsSources}
use Rattle.gos_tool.specs.explained.Found.{IsFindCause, RejectsTrace}
use Rattle.gos_tool.specs.explained.Complete.{AreRightToExplain, EmptyIsNotExplained, EmptyIsNotRight, ExplainedIsNotRejected, VerifiedIsNotRejected}
use Rattle.gos_tool.proofs.lemmas.circuits.CompleteLemmas.{no_form_cause}
use Rattle.gos_tool.proofs.lemmas.circuits.SameBuildLemmas.{instances_same, net_same, pulses_same, trace_same, unlinked_too, verilog_same}
use Rattle.gos_tool.proofs.lemmas.explained.PortLemmas.{labels_same, trace_too}
use Rattle.gos_tool.proofs.lemmas.explained.ProgramLemmas.{AreAlike, alike, along_same, ports_same, same_faces}

-- what is known of texts, and of links
pub record TextsAreOne : Type 0 where
  pub list : (text : List ℕ) → IsOneList text
  pub trace : (ports : List ProgramPort) (text : List ℕ) → IsOneTrace ports text
  pub moves_read : (text : List ℕ) → HasNoFault IsMovesText text
  pub trace_read : (ports : List ProgramPort) (text : List ℕ) → HasNoFault (IsTraceText ports) text

pub record LinksAreTold : Type 0 where
  pub of_faces : LinksAreOfFaces
  pub fault_of_faces : FaultsAreOfFaces
  pub no_fault : LinksHaveNoFault
  pub one : LinksAreOne

pub texts_one : ((text : List ℕ) → IsOneList text) → ((ports : List ProgramPort) (text : List ℕ) → IsOneTrace ports text)
    → ((text : List ℕ) → HasNoFault IsMovesText text) → ((ports : List ProgramPort) (text : List ℕ) → HasNoFault (IsTraceText ports) text) → TextsAreOne
texts_one list trace moves_read trace_read = record { list = list; trace = trace; moves_read = moves_read; trace_read = trace_read }

pub links_told : LinksAreOfFaces → FaultsAreOfFaces → LinksHaveNoFault → LinksAreOne → LinksAreTold
links_told of_faces fault_of_faces no_fault one = record { of_faces = of_faces; fault_of_faces = fault_of_faces; no_fault = no_fault; one = one }

-- all sources agree with themselves
agree_with : (is : List Instance) (files : Files) → AgreeOn (source_calls is) files files
agree_with [] files = tt
agree_with (i ∷ is) files = (refl, agree_with is files)

-- sources that say modules
no_source : AcceptedIsNotRejected → (files : Files) (is : List Instance) (ms : List SeenModule) (fault : Fault) (line : List ℕ) → SayModules files is ms
    → RejectsSource files is fault line → ⊥
no_source accepted files [] ms fault line say wrong = wrong
no_source accepted files (i ∷ is) [] fault line say wrong = say
no_source accepted files (i ∷ is) (m ∷ ms) fault line say (inl wrong) = accepted files i.source m fault line say.0 wrong
no_source accepted files (i ∷ is) (m ∷ ms) fault line say (inr (other, says, wrong)) = no_source accepted files is ms fault line say.1 wrong

-- a program that is not too large
not_too_large : (p q : Program) → p ≡ q → size q.body ≤ 1000000 → (fault : ExplainFault) → IsTooLargeFault p fault → ⊥
not_too_large p q same small (explain.Nodes n) (large, is) =
    let e = ap (λ (r : Program). size r.body) same in omega (arith, e, small, large)
not_too_large p q same small (explain.Form at) wrong = wrong
not_too_large p q same small (explain.Wrong line) wrong = wrong
not_too_large p q same small (explain.Labels matched) wrong = wrong
not_too_large p q same small (explain.NotTrace label) wrong = wrong
not_too_large p q same small (explain.Spent label) wrong = wrong
not_too_large p q same small explain.Taken wrong = wrong
not_too_large p q same small explain.NoMemory wrong = wrong

-- modules that are linked
module _ (told : LinksAreTold) (b c : Build) (same : whole b ≡ whole c) (ms os : List SeenModule) (modules : AreAlike ms os) (links : SeenLinks) (q : SeenProgram)
    (linked : IsLinkedAs c os links q) where
  no_program_cause : (written : Option Word) → is_taken b written ≡ false → (cause : Cause) → IsProgramCause b written ms cause → ⊥
  no_program_cause written free cause (inl (e, taken, others, are)) = absurd (true≢false (sym taken ∙ free))
  no_program_cause written free (causes.Explain fault) (inr (also, wrong)) =
      let (real, others, are, large) = wrong in
      not_too_large (program_along ms others) (program_along os links)
      (along_same told.of_faces told.one b c same ms os modules others links are linked.links) linked.program.small fault large
  no_program_cause written free (causes.Link fault) (inr (also, wrong)) = wrong
  no_program_cause written free (causes.Lex fault) (inr (also, wrong)) = wrong
  no_program_cause written free (causes.Syntax fault) (inr (also, wrong)) = wrong
  no_program_cause written free (causes.Check fault) (inr (also, wrong)) = wrong
  no_program_cause written free (causes.Object fault) (inr (also, wrong)) = wrong
  no_program_cause written free (causes.Net fault) (inr (also, wrong)) = wrong
  no_program_cause written free (causes.Refused fault) (inr (also, wrong)) = wrong
  no_program_cause written free (causes.Pulse fault) (inr (also, wrong)) = wrong
  no_program_cause written free (causes.Gates fault) (inr (also, wrong)) = wrong

  no_modules_cause : (written : Option Word) → is_taken b written ≡ false → (cause : Cause) → IsModulesCause b written ms cause → ⊥
  no_modules_cause written free (causes.Link fault) (real, of_links, ps, stand, wrong) =
      let (qs, also, are) = linked.links in
      told.no_fault c qs links fault are of_links
      (told.fault_of_faces c ps qs fault (same_faces told.of_faces told.one b c same ms os modules ps qs stand also) of_links
      (unlinked_too b c same ps fault wrong))
  no_modules_cause written free (causes.Explain fault) wrong = no_program_cause written free (causes.Explain fault) wrong
  no_modules_cause written free (causes.Lex fault) wrong = no_program_cause written free (causes.Lex fault) wrong
  no_modules_cause written free (causes.Syntax fault) wrong = no_program_cause written free (causes.Syntax fault) wrong
  no_modules_cause written free (causes.Check fault) wrong = no_program_cause written free (causes.Check fault) wrong
  no_modules_cause written free (causes.Object fault) wrong = no_program_cause written free (causes.Object fault) wrong
  no_modules_cause written free (causes.Net fault) wrong = no_program_cause written free (causes.Net fault) wrong
  no_modules_cause written free (causes.Refused fault) wrong = no_program_cause written free (causes.Refused fault) wrong
  no_modules_cause written free (causes.Pulse fault) wrong = no_program_cause written free (causes.Pulse fault) wrong
  no_modules_cause written free (causes.Gates fault) wrong = no_program_cause written free (causes.Gates fault) wrong

-- a text of its form
no_text_cause : (IsText : List ℕ → Type 0) (text : List ℕ) → HasNoFault IsText text → length text ≤ 268435456 → IsText text → (cause : Cause)
    → IsTextCause IsText text cause → ⊥
no_text_cause IsText text none short is (causes.Explain fault) (inl (long, at)) = omega (arith, long, short)
no_text_cause IsText text none short is (causes.Explain fault) (inr (small, real, wrong)) = real (none fault is wrong)
no_text_cause IsText text none short is (causes.Lex fault) wrong = wrong
no_text_cause IsText text none short is (causes.Syntax fault) wrong = wrong
no_text_cause IsText text none short is (causes.Check fault) wrong = wrong
no_text_cause IsText text none short is (causes.Object fault) wrong = wrong
no_text_cause IsText text none short is (causes.Link fault) wrong = wrong
no_text_cause IsText text none short is (causes.Net fault) wrong = wrong
no_text_cause IsText text none short is (causes.Refused fault) wrong = wrong
no_text_cause IsText text none short is (causes.Pulse fault) wrong = wrong
no_text_cause IsText text none short is (causes.Gates fault) wrong = wrong

-- lines that explain labels
no_lines_cause : AlwaysOneAnswer → (p : Program) (labels : List shown.Label) (lines : List Line) → Explains p labels lines → (cause : Cause)
    → IsLinesCause p labels lines cause → ⊥
no_lines_cause one p labels lines explained (causes.Explain fault) (real, wrong) = (one p labels lines).not_both explained fault wrong
no_lines_cause one p labels lines explained (causes.Lex fault) wrong = wrong
no_lines_cause one p labels lines explained (causes.Syntax fault) wrong = wrong
no_lines_cause one p labels lines explained (causes.Check fault) wrong = wrong
no_lines_cause one p labels lines explained (causes.Object fault) wrong = wrong
no_lines_cause one p labels lines explained (causes.Link fault) wrong = wrong
no_lines_cause one p labels lines explained (causes.Net fault) wrong = wrong
no_lines_cause one p labels lines explained (causes.Refused fault) wrong = wrong
no_lines_cause one p labels lines explained (causes.Pulse fault) wrong = wrong
no_lines_cause one p labels lines explained (causes.Gates fault) wrong = wrong

-- so no text is rejected of a trace that is explained, whichever ports of these faces it is read by
module _ (one : TextsAreOne) (answer : AlwaysOneAnswer) (files : Files) (ports also : List ProgramPort) (faces : map imported ports ≡ map imported also)
    (named : ArePorts also) (p : Program) (trace moves : Word) (report : Report) (right : AreExplained files also p trace moves report) (fault : Fault)
    (line : List ℕ) where
  no_moves : RejectsMoves files ports p moves right.labels fault line → ⊥
  no_moves (inl wrong) =
      no_text_cause IsMovesText (bytes_at files moves) (one.moves_read (bytes_at files moves)) right.says_lines.short (right.lines, right.says_lines.is) fault.cause
      wrong.cause
  no_moves (inr (lines, says, wrong)) =
      let same = one.list (bytes_at files moves) lines right.lines says.is right.says_lines.is in
      no_lines_cause answer p (labels_of also right.labels) right.lines right.explained fault.cause
      (subst (λ (ls : List Line). IsLinesCause p (labels_of also right.labels) ls fault.cause) same
      (subst (λ (ls : List shown.Label). IsLinesCause p ls lines fault.cause) (labels_same ports also faces right.labels) wrong.cause))

  no_texts : RejectsTexts files ports p trace moves fault line → ⊥
  no_texts (inl wrong) =
      no_text_cause (IsTraceText ports) (bytes_at files trace) (one.trace_read ports (bytes_at files trace)) right.says_labels.short
      (right.labels, trace_too also ports (sym faces) (bytes_at files trace) right.labels right.says_labels.is) fault.cause wrong.cause
  no_texts (inr (labels, says, wrong)) =
      let same = one.trace also (bytes_at files trace) named labels right.labels (trace_too ports also faces (bytes_at files trace) labels says.is)
      right.says_labels.is in
      no_moves (subst (λ (ls : List Label). RejectsMoves files ports p moves ls fault line) same wrong)

-- a file that another build of the same names is named by this one
named_too : (b c : Build) (file : Word) → whole b ≡ whole c → is_named b file ≡ is_named c file
named_too b c file same =
    let instances = instances_same b c same in
    let net = net_same b c same in
    let verilog = verilog_same b c same in
    let pulses = pulses_same b c same in
    let trace = trace_same b c same in
    λ i. list_any (has_file file) (instances i)
    || (bytes_eq (net i) file || (bytes_eq (verilog i) file || (bytes_eq (pulses i) file || bytes_eq (trace i) file)))

-- nor is any file before the trace, of a build that says the same
module _ (accepted : AcceptedIsNotRejected) (one_program : SaysOneProgram) (told : LinksAreTold) (files : Files) (own : Word) (c : Build) (top : SeenProgram)
    (sources : SayProgram files c top) (b : Build) (same : whole b ≡ whole c) where
  alike_as : (ms : List SeenModule) → SayModules files b.instances.items ms → AreAlike ms sources.modules
  alike_as ms say =
      alike one_program files files c.instances.items ms sources.modules (agree_with c.instances.items files)
      (subst (λ (is : List Instance). SayModules files is ms) (instances_same b c same) say) sources.say

  no_sources : (written : Option Word) → is_taken b written ≡ false → (fault : Fault) (line : List ℕ) → RejectsSources files own b written fault line → ⊥
  no_sources written free fault line (inl no_module) =
      no_source accepted files c.instances.items sources.modules fault line sources.say
      (subst (λ (is : List Instance). RejectsSource files is fault line) (instances_same b c same) no_module)
  no_sources written free fault line (inr (ms, say, unlinked)) =
      no_modules_cause told b c same ms sources.modules (alike_as ms say) sources.links top sources.linked written free fault.cause unlinked.cause

  -- its program is the same, and so are the names and types of its ports
  module _ (other : SeenProgram) (s : SayProgram files b other) where
    modules : AreAlike s.modules sources.modules
    modules = alike_as s.modules s.say

    program_one : program_along s.modules s.links ≡ program_along sources.modules sources.links
    program_one =
        along_same told.of_faces told.one b c same s.modules sources.modules modules s.links sources.links s.linked.links sources.linked.links

    faces_one : map imported other.ports ≡ map imported top.ports
    faces_one =
        ports_same told.of_faces told.one b c same s.modules sources.modules modules s.links sources.links s.linked.links sources.linked.links other top
        s.linked sources.linked

module _ (accepted : AcceptedIsNotRejected) (one_program : SaysOneProgram) (told : LinksAreTold) (one : TextsAreOne) where
  -- nor is the trace or the file of moves
  no_program : AlwaysOneAnswer → (files : Files) (own moves : Word) (report : Report) (right : IsVerified files own moves report) (b : Build)
      → whole b ≡ whole right.build → (fault : Fault) (line : List ℕ) → RejectsProgram files b moves fault line → ⊥
  no_program answer files own moves report right b same fault line (other, s, texts) =
      no_texts one answer files other.ports right.whole.ports
      (faces_one accepted one_program told files own right.build right.whole right.sources b same other s) right.sources.linked.program.ports
      (program_along right.sources.modules right.sources.links) right.build.trace moves report right.explained fault line
      (subst (λ (q : Program). RejectsTexts files other.ports q right.build.trace moves fault line)
      (program_one accepted one_program told files own right.build right.whole right.sources b same other s)
      (subst (λ (t : Word). RejectsTexts files other.ports (program_along s.modules s.links) t moves fault line) (trace_same b right.build same) texts))

  -- nor is a trace for which lines are found
  no_labels : (files : Files) (own moves : Word) (right : AreRightToExplain files own moves) (ports : List ProgramPort) (p : Program)
      → map imported ports ≡ map imported right.whole.ports → p ≡ program_along right.sources.modules right.sources.links
      → (fault : Fault) (line : List ℕ) → RejectsTrace files ports p right.build.trace fault line → ⊥
  no_labels files own moves right ports p faces program fault line (inl wrong) =
      let text = bytes_at files right.build.trace in
      no_text_cause (IsTraceText ports) text (one.trace_read ports text) right.says_labels.short
      (right.labels, trace_too right.whole.ports ports (sym faces) text right.labels right.says_labels.is) fault.cause wrong.cause
  no_labels files own moves right ports p faces program fault line (inr (labels, says, wrong)) =
      let text = bytes_at files right.build.trace in
      let same = one.trace right.whole.ports text right.sources.linked.program.ports labels right.labels
      (trace_too ports right.whole.ports faces text labels says.is) right.says_labels.is in
      right.none fault.cause
      (subst (λ (ls : List Label). IsFindCause (program_along right.sources.modules right.sources.links) (labels_of right.whole.ports ls) fault.cause) same
      (subst (λ (q : Program). IsFindCause q (labels_of right.whole.ports labels) fault.cause) program
      (subst (λ (ls : List shown.Label). IsFindCause p ls fault.cause) (labels_same ports right.whole.ports faces labels) wrong.cause)))

pub verified_is_not_rejected : IsOneBuild → BuildHasNoWrongLine → AcceptedIsNotRejected → SaysOneProgram → LinksAreTold → TextsAreOne → AlwaysOneAnswer
    → VerifiedIsNotRejected
verified_is_not_rejected one_build not_wrong accepted one_program told one answer files own moves fault line (report, right) (inl wrong) =
    no_form_cause not_wrong (bytes_at files own) own right.build right.says fault.cause wrong.cause
verified_is_not_rejected one_build not_wrong accepted one_program told one answer files own moves fault line (report, right) (inr (b, says, inl wrong)) =
    let same = one_build (bytes_at files own) own b right.build says right.says in
    no_sources accepted one_program told files own right.build right.whole right.sources b same None refl fault line wrong
verified_is_not_rejected one_build not_wrong accepted one_program told one answer files own moves fault line (report, right) (inr (b, says, inr wrong)) =
    let same = one_build (bytes_at files own) own b right.build says right.says in
    no_program accepted one_program told one answer files own moves report right b same fault line wrong

pub explained_is_not_rejected : IsOneBuild → BuildHasNoWrongLine → AcceptedIsNotRejected → SaysOneProgram → LinksAreTold → TextsAreOne
    → ExplainedIsNotRejected
explained_is_not_rejected one_build not_wrong accepted one_program told one files own moves fault line right (inl wrong) =
    no_form_cause not_wrong (bytes_at files own) own right.build right.says fault.cause wrong.cause
explained_is_not_rejected one_build not_wrong accepted one_program told one files own moves fault line right (inr (b, says, inl wrong)) =
    let same = one_build (bytes_at files own) own b right.build says right.says in
    no_sources accepted one_program told files own right.build right.whole right.sources b same (Some moves) (named_too b right.build moves same ∙ right.free)
    fault line wrong
explained_is_not_rejected one_build not_wrong accepted one_program told one files own moves fault line right (inr (b, says, inr (free, other, s, wrong))) =
    let same = one_build (bytes_at files own) own b right.build says right.says in
    no_labels accepted one_program told one files own moves right other.ports (program_along s.modules s.links)
    (faces_one accepted one_program told files own right.build right.whole right.sources b same other s)
    (program_one accepted one_program told files own right.build right.whole right.sources b same other s) fault line
    (subst (λ (t : Word). RejectsTrace files other.ports (program_along s.modules s.links) t fault line) (trace_same b right.build same) wrong)

-- moves have a first line
no_empty_moves : (lines : List Line) → [] ≡ moves_text lines → ⊥
no_empty_moves lines e = cc e

pub empty_is_not_right : EmptyIsNoBuild → EmptyIsNotRight
empty_is_not_right no_build files own moves (report, right) = (
  λ empty. no_build files own right.build empty right.says,
  λ empty. no_empty_moves right.explained.lines (sym empty ∙ right.explained.says_lines.is.is),
)

pub empty_is_not_explained : EmptyIsNoBuild → EmptyIsNotExplained
empty_is_not_explained no_build files own moves right empty = no_build files own right.build empty right.says
