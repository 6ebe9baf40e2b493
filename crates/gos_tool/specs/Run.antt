-- How the tool's commands end.
--
-- Read first: Command; Checked and Compiled of objects; Linked of circuits; Sim of simulate; Built of build; Demo of demo; Tidy and Gates
-- of netlists; Found and Verified of explained; Lines of gos_command. `old` and `new` are the files of the store before and after, `written` and
-- `printed` the bytes of the sink.
use Rattle.std.specs.Prelude.{◌≡◌, ◌⊎◌, ℕ, List, [], ◌∷◌, Option, None, IfSome}
use Rattle.gos_outside.specs.Files.{Files, SameBut}
use Rattle.gos_outside.specs.OtherFiles.{OthersSame}
use Rattle.gos_outside.specs.Faults.{LastFault, ReadFault}
use Rattle.gos_outside.specs.Calls.{Calls, Ending, AreMade}
use Rattle.gos_outside.specs.Written.{appended, AppendsPrefix}
use Rattle.gos_lex.specs.Lines.{Word}
use Rattle.gos_command.specs.Lines.{report_line}
use Rattle.gos_command.specs.Ends.{IsTold}
use Rattle.gos_command.specs.declared.report.Report.{Report}
use Rattle.gos_command.specs.declared.status.Fault.{Fault}
use Rattle.gos_tool.specs.Calls.{read_source, compile_calls, link_calls, sim_calls, build_calls, rewrite_calls, explain_calls, verify_calls, GoesByBuild}
use Rattle.gos_tool.specs.Causes.{Kind, OfSource, OfObject, OfBuild, OfWeight, OfSize, OfNetlist, OfPulses, OfMoves, IsOneOf, TellsWeight, TellsRun, TellsBoth, TellsCells, TellsGates, TellsExplained}
use Rattle.gos_tool.specs.objects.Checked.{IsChecked, IsSourceFault}
use Rattle.gos_tool.specs.objects.Compiled.{IsCompiled, IsCompileCall}
use Rattle.gos_tool.specs.circuits.Linked as linking
use Rattle.gos_tool.specs.circuits.Linked.{IsLinkDone, RejectsLink, IsLinkCall, IsLinkCutShort}
use Rattle.gos_tool.specs.netlists.Netlist.{IsNetFault}
use Rattle.gos_tool.specs.netlists.Tidy.{IsTidyDone, IsTidyCall}
use Rattle.gos_tool.specs.netlists.Gates.{AreGatesDone, IsGatesFault, IsGatesCall}
use Rattle.gos_tool.specs.simulate.Sim.{IsSimDone, IsSimFault, IsSimCall}
use Rattle.gos_tool.specs.build.Built as building
use Rattle.gos_tool.specs.build.Built.{IsBuilt, RejectsBuild, IsBuildCall, IsBuildCutShort}
use Rattle.gos_tool.specs.demo.Demo as showing
use Rattle.gos_tool.specs.demo.Demo.{IsDemoDone, IsDemoCall, IsDemoCutShort, CallsOfDemo}
use Rattle.gos_tool.specs.explained.Found.{IsExplained, RejectsExplain, IsExplainCall}
use Rattle.gos_tool.specs.explained.Verified.{IsVerified, RejectsVerify, IsVerifyCall}
use Rattle.gos_tool.specs.Command.{Command, Check, Compile, Link, Sim, Build, Demo, Tidy, Gates, Explain, Verify, Means}

-- what the command's line tells, where it is done
abbrev pub Tells : Command → Report → Type 0
Tells (Check source) report = TellsWeight report
Tells (Compile source object) report = TellsWeight report
Tells (Link own) report = TellsWeight report
Tells (Sim net pulses trace) report = TellsRun report
Tells (Build own) report = TellsBoth report
Tells (Demo levels) report = TellsBoth report
Tells (Tidy net out) report = TellsCells report
Tells (Gates net out) report = TellsGates report
Tells (Explain own moves) report = TellsExplained report
Tells (Verify own moves) report = TellsExplained report

-- The kinds of causes for which it may reject a file. `build` and `demo` read no object and no netlist, and what they compile is never
-- too large. `explain` and `verify` compile nothing, so that no weight and no size counts.
abbrev pub kinds_of : Command → List Kind
kinds_of (Check source) = OfSource ∷ []
kinds_of (Compile source object) = OfSource ∷ []
kinds_of (Link own) = OfObject ∷ OfBuild ∷ OfWeight ∷ OfSize ∷ []
kinds_of (Sim net pulses trace) = OfNetlist ∷ OfPulses ∷ []
kinds_of (Build own) = OfSource ∷ OfBuild ∷ OfWeight ∷ OfPulses ∷ []
kinds_of (Demo levels) = OfSource ∷ OfBuild ∷ OfWeight ∷ OfPulses ∷ []
kinds_of (Tidy net out) = OfNetlist ∷ []
kinds_of (Gates net out) = OfNetlist ∷ []
kinds_of (Explain own moves) = OfSource ∷ OfBuild ∷ OfMoves ∷ []
kinds_of (Verify own moves) = OfSource ∷ OfBuild ∷ OfMoves ∷ []

-- all that the command is to do is done, with this report
abbrev pub IsDone : Command → Option Files → Option Files → Report → Type 0
IsDone (Check source) old new report = (new ≡ old) × IfSome old (λ files. IsChecked files source report)
IsDone (Compile source object) old new report = IfSome old (λ files. IsCompiled files new source object report)
IsDone (Link own) old new report = IsLinkDone old new own report
IsDone (Sim net pulses trace) old new report = IsSimDone old new net pulses trace report
IsDone (Build own) old new report = IfSome old (λ files. IsBuilt files new own report)
IsDone (Demo levels) old new report = IfSome old (λ files. IsDemoDone files new levels report)
IsDone (Tidy net out) old new report = IsTidyDone old new net out report
IsDone (Gates net out) old new report = AreGatesDone old new net out report
IsDone (Explain own moves) old new report = IfSome old (λ files. IsExplained files new own moves report)
IsDone (Verify own moves) old new report = (new ≡ old) × IfSome old (λ files. IsVerified files own moves report)

-- The command rejects a file for this fault, with this line: the first that it finds. `demo` rejects none where the store tells its
-- files.
abbrev pub IsRejected : Command → Option Files → Option Files → Fault → List ℕ → Type 0
IsRejected (Check source) old new fault line = (new ≡ old) × (fault.file ≡ source) × IfSome old (λ files. IsSourceFault files source fault line)
IsRejected (Compile source object) old new fault line =
    (new ≡ old) × (fault.file ≡ source) × IfSome old (λ files. IsSourceFault files source fault line)
IsRejected (Link own) old new fault line = (new ≡ old) × IfSome old (λ files. RejectsLink files own fault line)
IsRejected (Sim net pulses trace) old new fault line =
    (new ≡ old) × ((fault.file ≡ net) ⊎ (fault.file ≡ pulses)) × IfSome old (λ files. IsSimFault files net pulses fault line)
IsRejected (Build own) old new fault line = IfSome old (λ files. RejectsBuild files new own fault line)
IsRejected (Demo levels) old new fault line = old ≡ None
IsRejected (Tidy net out) old new fault line =
    (new ≡ old) × (fault.file ≡ net) × IfSome old (λ files. IsNetFault files net fault line)
IsRejected (Gates net out) old new fault line =
    (new ≡ old) × (fault.file ≡ net) × IfSome old (λ files. IsGatesFault files net fault line)
IsRejected (Explain own moves) old new fault line = (new ≡ old) × IfSome old (λ files. RejectsExplain files own moves fault line)
IsRejected (Verify own moves) old new fault line = (new ≡ old) × IfSome old (λ files. RejectsVerify files own moves fault line)

-- The command makes this call of the store, after all that is judged before it was right, and this is what it wrote before. Which file the
-- call names is said of every store; what hangs on what its files hold, where it tells that.
abbrev pub IsCall : Command → Option Files → Option Files → LastFault → Type 0
IsCall (Check source) old new fault = (fault ≡ ReadFault source) × (new ≡ old)
IsCall (Compile source object) old new fault = IsCompileCall old new source object fault
IsCall (Link own) old new fault = IsLinkCall old new own fault
IsCall (Sim net pulses trace) old new fault = IsSimCall old new net pulses trace fault
IsCall (Build own) old new fault = IsBuildCall old new own fault
IsCall (Demo levels) old new fault = IsDemoCall old new levels fault
IsCall (Tidy net out) old new fault = IsTidyCall old new net out fault
IsCall (Gates net out) old new fault = IsGatesCall old new net out fault
IsCall (Explain own moves) old new fault = IsExplainCall old new own moves fault
IsCall (Verify own moves) old new fault = (new ≡ old) × IsVerifyCall old own moves fault

-- What the command leaves where memory runs out before its end: the first of its files, each as where all is done.
abbrev pub IsCutShort : Command → Option Files → Option Files → Type 0
IsCutShort (Check source) old new = new ≡ old
IsCutShort (Compile source object) old new = new ≡ old
IsCutShort (Link own) old new = IsLinkCutShort old new own
IsCutShort (Sim net pulses trace) old new = new ≡ old
IsCutShort (Build own) old new = IfSome old (λ files. IsBuildCutShort files new own)
IsCutShort (Demo levels) old new = IfSome old (λ files. IsDemoCutShort files new levels)
IsCutShort (Tidy net out) old new = new ≡ old
IsCutShort (Gates net out) old new = new ≡ old
IsCutShort (Explain own moves) old new = new ≡ old
IsCutShort (Verify own moves) old new = new ≡ old

-- all files but those that the command writes are as they were
abbrev pub KeepsOthers : Command → Option Files → Option Files → Type 0
KeepsOthers (Check source) old new = new ≡ old
KeepsOthers (Compile source object) old new = SameBut object old new
KeepsOthers (Link own) old new = linking.KeepsUnnamed own old new
KeepsOthers (Sim net pulses trace) old new = SameBut trace old new
KeepsOthers (Build own) old new = building.KeepsUnnamed own old new
KeepsOthers (Demo levels) old new = OthersSame (showing.written_by levels) old new
KeepsOthers (Tidy net out) old new = SameBut out old new
KeepsOthers (Gates net out) old new = SameBut out old new
KeepsOthers (Explain own moves) old new = SameBut moves old new
KeepsOthers (Verify own moves) old new = new ≡ old

-- The calls of the store that the command makes, up to where it ends.
abbrev pub CallsOf : Command → Ending → Option Files → Calls → Calls → Type 0
CallsOf (Check source) ending files old new = AreMade ending (read_source source ∷ []) old new
CallsOf (Compile source object) ending files old new = AreMade ending (compile_calls source object) old new
CallsOf (Link own) ending files old new = GoesByBuild ending [] files own link_calls old new
CallsOf (Sim net pulses trace) ending files old new = AreMade ending (sim_calls net pulses trace) old new
CallsOf (Build own) ending files old new = GoesByBuild ending [] files own build_calls old new
CallsOf (Demo levels) ending files old new = CallsOfDemo ending files levels old new
CallsOf (Tidy net out) ending files old new = AreMade ending (rewrite_calls net out) old new
CallsOf (Gates net out) ending files old new = AreMade ending (rewrite_calls net out) old new
CallsOf (Explain own moves) ending files old new = GoesByBuild ending [] files own (explain_calls moves) old new
CallsOf (Verify own moves) ending files old new = GoesByBuild ending [] files own (verify_calls moves) old new

-- the words are a command, which is done, and the line that tells so was printed
pub record EndsDone (words : List Word) (old new : Option Files) (written printed : Option (List ℕ)) : Type 0 where
  pub command : Command
  pub report : Report
  pub means : Means words command
  pub line : printed ≡ appended (report_line report) written
  pub tells : Tells command report
  pub done : IsDone command old new report

-- the words are a command, which rejects a file for this fault, and the line that tells so was printed
pub record EndsRejected (words : List Word) (old new : Option Files) (written printed : Option (List ℕ)) (fault : Fault) : Type 0 where
  pub command : Command
  pub text : List ℕ
  pub means : Means words command
  pub told : IsTold fault text
  pub line : printed ≡ appended text written
  pub kind : IsOneOf (kinds_of command) fault.cause
  pub rejected : IsRejected command old new fault text

-- The line could not be printed, of which a first part was: that of the command that is done, or that of a file that it
-- rejects.
abbrev pub IsUnsaid : Command → Option Files → Option Files → Option (List ℕ) → Option (List ℕ) → Type 0
IsUnsaid c old new written printed =
    ((report : Report) × AppendsPrefix (report_line report) written printed × Tells c report × IsDone c old new report)
    ⊎ ((fault : Fault) × (text : List ℕ) × IsTold fault text × AppendsPrefix text written printed × IsOneOf (kinds_of c) fault.cause
    × IsRejected c old new fault text)

-- what the command leaves where memory runs out: all that it is to do is done, or a file is rejected, or it is cut short
abbrev pub IsUntold : Command → Option Files → Option Files → Type 0
IsUntold c old new =
    ((report : Report) × IsDone c old new report) ⊎ (((fault : Fault) × (text : List ℕ) × IsRejected c old new fault text) ⊎ IsCutShort c old new)
