-- From the calls of `explain` to what it tells, at each of its ends.
use Rattle.std.proofs.Common.{◌≡◌, ◌∙◌, inl, inr, ℕ, false, List, Option, None, Some, Result, Ok, Err, ap, length, subst, sym}
use Rattle.std.specs.Prelude.{IfSome, IfOk}
use Rattle.gos_outside.specs.Files.{Files, SameBut, bytes_at, with_file}
use Rattle.gos_outside.specs.Faults.{LastFault, ReadFault, WriteFault}
use Rattle.gos_lex.specs.Lines.{Word}
use Rattle.gos_model.specs.Moves.{Program, Trace}
use Rattle.gos_link.specs.BuildFile.{IsBuildFile}
use Rattle.gos_link.specs.declared.build.Build.{Build}
use Rattle.gos_witness.specs.declared.labels.Label.{Label}
use Rattle.gos_witness.specs.declared.moves.Line.{Line}
use Rattle.gos_witness.specs.declared.program.ProgramPort.{ProgramPort}
use Rattle.gos_witness.specs.Lines.{Explains}
use Rattle.gos_witness.specs.MovesText.{AreLines, moves_text}
use Rattle.gos_witness.specs.Ports.{labels_of}
use Rattle.gos_witness.specs.Programs.{SeenProgram, program_of}
use Rattle.gos_witness.specs.TraceText.{IsTraceText}
use Rattle.gos_command.specs.declared.report.Report.{Report}
use Rattle.gos_command.specs.declared.report.Report.TheVariants as reports
use Rattle.gos_command.specs.declared.status.Fault.{Fault}
use Rattle.gos_command.specs.declared.stop.Stop.{Stop}
use Rattle.gos_command.proofs.EndLemmas.{of_some}
use Rattle.gos_tool.specs.Causes.{IsFileFault}
use Rattle.gos_tool.specs.explained.Sources.{IsSourceCall}
use Rattle.gos_tool.specs.explained.Taken.{is_named}
use Rattle.gos_tool.specs.explained.Texts.{SaysLabels, IsTextCause}
use Rattle.gos_tool.specs.explained.Verified.{RejectsSources}
use Rattle.gos_tool.specs.explained.Found.{AreFound, IsExplained, IsFindCause, RejectsTrace, RejectsExplain, HasLines, HasProgramLines, IsTraceCall, IsExplainCall}
use Rattle.gos_tool.proofs.lemmas.circuits.LinkLemmas.{HasRead}
use Rattle.gos_tool.proofs.lemmas.explained.VerifyLemmas.{HasLabels, HasProgram, after_build, after_program, has_whole}

-- the trace file is read first
pub trace_text_rejected : (old : Option Files) (ports named : List ProgramPort) → named ≡ ports → (p : Program) (trace : Word) (fault : Fault) (line : List ℕ)
    → IfSome old (λ files. IsFileFault trace (IsTextCause (IsTraceText named) (bytes_at files trace)) fault line)
    → IfSome old (λ files. RejectsTrace files ports p trace fault line)
trace_text_rejected old ports named same p trace fault line wrong =
    of_some (λ files. IsFileFault trace (IsTextCause (IsTraceText named) (bytes_at files trace)) fault line) (λ files. RejectsTrace files ports p trace fault line) old
    (λ files h. inl (subst (λ (qs : List ProgramPort). IsFileFault trace (IsTextCause (IsTraceText qs) (bytes_at files trace)) fault line) same h)) wrong

-- it has labels, and lines are found for them
module _ {old told : Option Files} {ports : List ProgramPort} {trace : Word} {labels : List Label} (has : HasLabels old told ports trace labels) (p : Program) where
  pub labels_rejected : (fault : Fault) (line : List ℕ) → IsFileFault trace (IsFindCause p (labels_of ports labels)) fault line
      → IfSome old (λ files. RejectsTrace files ports p trace fault line)
  labels_rejected fault line wrong =
      of_some (λ files. SaysLabels ports (bytes_at files trace) labels) (λ files. RejectsTrace files ports p trace fault line) old
      (λ files says. inr (labels, says, wrong)) has.says

  module _ (moves : Word) (new : Option Files) (lines : List Line) (explained : Explains p (labels_of ports labels) lines) where
    -- their text can't be written
    pub lines_unwritten : (fault : LastFault) → fault ≡ WriteFault moves → SameBut moves told new
        → IsTraceCall old new trace moves (IfSome old (λ files. HasLines files ports p trace)) fault
    lines_unwritten fault is others =
        inr (
          is,
          subst (λ (o : Option Files). SameBut moves o new) has.kept others,
          of_some (λ files. SaysLabels ports (bytes_at files trace) labels) (λ files. HasLines files ports p trace) old
              (λ files says. (labels, lines, says, explained)) has.says,
        )

    -- or it is
    are_found : Trace p (labels_of ports labels) → (printed : List Line) → printed ≡ lines → AreLines printed
        → new ≡ with_file moves (moves_text printed) told → (report : Report) → report ≡ reports.Explained (length printed) (length labels)
        → IfSome old (λ files. AreFound files new ports p trace moves report)
    are_found is_trace printed same are wrote report tells = by old has.says (wrote ∙ ap (with_file moves (moves_text printed)) has.kept)
      where
        by : (o : Option Files) → IfSome o (λ files. SaysLabels ports (bytes_at files trace) labels) → new ≡ with_file moves (moves_text printed) o
            → IfSome o (λ files. AreFound files new ports p trace moves report)
        by None says held = tt
        by (Some files) says held =
            record {
              labels = labels;
              lines = printed;
              says_labels = says;
              explained = subst (λ (ls : List Line). Explains p (labels_of ports labels) ls) (sym same) explained;
              is_trace = is_trace;
              are = are;
              wrote = held;
              tells = tells;
            }

    pub all_found : Trace p (labels_of ports labels) → (printed : List Line) → printed ≡ lines → (r : Result Report Stop) → IfOk r (λ _. AreLines printed)
        → IfOk r (λ _. new ≡ with_file moves (moves_text printed) told) → IfOk r (λ report. report ≡ reports.Explained (length printed) (length labels))
        → IfOk r (λ report. IfSome old (λ files. AreFound files new ports p trace moves report))
    all_found is_trace printed same (Ok report) are wrote tells = are_found is_trace printed same are wrote report tells
    all_found is_trace printed same (Err stop) are wrote tells = tt

-- the build file was read
module _ {old told : Option Files} {own : Word} {b : Build} (has : HasRead old told own b) (moves : Word) where
  pub unexplained : (fault : Fault) (line : List ℕ) → IfSome told (λ files. RejectsSources files own b (Some moves) fault line)
      → IfSome old (λ files. RejectsExplain files own moves fault line)
  unexplained fault line =
      after_build has moves (λ files. RejectsSources files own b (Some moves) fault line) (λ files. RejectsExplain files own moves fault line)
      (λ files says h. inr (b, says, inl h))

  pub source_unread : ((text : List ℕ) × IsBuildFile text own b) → (new : Option Files) (fault : LastFault) → new ≡ told
      → IsSourceCall told b.instances.items fault → IsExplainCall old new own moves fault
  source_unread read new fault kept call =
      inr (
        b,
        (read, has.says),
        inl (subst (λ (o : Option Files). IsSourceCall o b.instances.items fault) has.kept call, kept ∙ has.kept),
      )

-- its sources too, and linked; and it doesn't name the file for the moves
module _ {old told : Option Files} {own : Word} {b : Build} {whole : SeenProgram} (has : HasProgram old told own b whole) (moves trace : Word)
    (named : trace ≡ b.trace) (free : is_named b moves ≡ false) where
  pub trace_rejected : (fault : Fault) (line : List ℕ) → IfSome told (λ files. RejectsTrace files whole.ports (program_of whole) trace fault line)
      → IfSome old (λ files. RejectsExplain files own moves fault line)
  trace_rejected fault line =
      after_program has moves trace named (λ t files. RejectsTrace files whole.ports (program_of whole) t fault line)
      (λ files. RejectsExplain files own moves fault line)
      (λ files says said h. inr (
        b,
        says,
        inr (free, whole, said, subst (λ (p : Program). RejectsTrace files whole.ports p b.trace fault line) said.linked.program.program h),
      ))

  -- lines are found for its labels
  has_lines : IfSome told (λ files. HasLines files whole.ports (program_of whole) trace) → IfSome old (λ files. HasProgramLines files b)
  has_lines =
      after_program has moves trace named (λ t files. HasLines files whole.ports (program_of whole) t) (λ files. HasProgramLines files b)
      (λ files says said h. (whole, said, subst (λ (p : Program). HasLines files whole.ports p b.trace) said.linked.program.program h))

  pub trace_call : ((text : List ℕ) × IsBuildFile text own b) → (new : Option Files) (fault : LastFault)
      → IsTraceCall told new trace moves (IfSome told (λ files. HasLines files whole.ports (program_of whole) trace)) fault
      → IsExplainCall old new own moves fault
  trace_call read new fault (inl (is, kept)) =
      inr (
        b,
        (read, has.says),
        inr (free, has_whole has moves trace named, inl (subst (λ (t : Word). fault ≡ ReadFault t) named is, kept ∙ has.kept)),
      )
  trace_call read new fault (inr (is, others, found)) =
      inr (
        b,
        (read, has.says),
        inr (free, has_whole has moves trace named, inr (is, subst (λ (o : Option Files). SameBut moves o new) has.kept others, has_lines found)),
      )

  pub explained : (new : Option Files) (report : Report)
      → IfSome told (λ files. AreFound files new whole.ports (program_of whole) trace moves report)
      → IfSome old (λ files. IsExplained files new own moves report)
  explained new report =
      after_program has moves trace named (λ t files. AreFound files new whole.ports (program_of whole) t moves report)
      (λ files. IsExplained files new own moves report)
      (λ files says said h. record {
        build = b;
        whole = whole;
        says = says;
        free = free;
        sources = said;
        found = subst (λ (p : Program). AreFound files new whole.ports p b.trace moves report) said.linked.program.program h;
      })
