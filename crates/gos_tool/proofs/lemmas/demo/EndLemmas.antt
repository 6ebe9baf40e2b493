-- How `demo` ends, from how the build of its files ends.
use Rattle.std.proofs.Common.{◌≡◌, inl, inr, refl, ℕ, List, [], Option, Some, None, Result, unwrap_or, ap, sym, subst}
use Rattle.std.specs.Prelude.{IfSome, IfOk, IfErr}
use Rattle.gos_outside.specs.Files.{Files, bytes_at}
use Rattle.gos_outside.specs.OtherFiles.{OthersSame}
use Rattle.gos_outside.specs.Faults.{LastFault}
use Rattle.gos_outside.proofs.OtherFilesLemmas.{none_yet, then_later, more_names, apart_front, apart_back}
use Rattle.gos_lex.specs.Lines.{Word}
use Rattle.gos_check.specs.Accepted.{FoundExactly}
use Rattle.gos_link.specs.Answers.{JointsAreFew}
use Rattle.gos_link.specs.BuildFile.{IsBuildFile}
use Rattle.gos_link.specs.declared.build.Build.{Build}
use Rattle.gos_command.specs.Ends.{IfStopped}
use Rattle.gos_command.specs.declared.report.Report.{Report}
use Rattle.gos_command.specs.declared.status.Fault.{Fault}
use Rattle.gos_command.specs.declared.stop.Stop.{Stop}
use Rattle.gos_command.proofs.EndLemmas.{of_result, of_stop}
use Rattle.gos_tool.specs.declared.circuits.layout.Layout.TheVariants.{Few}
use Rattle.gos_tool.specs.circuits.Linked.{SaysBuild}
use Rattle.gos_tool.specs.build.Built as building
use Rattle.gos_tool.specs.build.Built.{IsBuilt, RejectsBuild, IsBuildCall, IsBuildCutShort, KeepsUnnamed}
use Rattle.gos_tool.specs.build.Complete.{BuildIsNotRejected}
use Rattle.gos_tool.specs.demo.DemoFiles.{IsLevelCount, build_file, demo_files}
use Rattle.gos_tool.specs.demo.Demo.{with_files, with_demo, HoldsEach, IsDemoDone, IsDemoCall, IsDemoCutShort, names_of, built_by, written_by}
use Rattle.gos_tool.proofs.lemmas.demo.BuildFileLemmas.{demo_written}
use Rattle.gos_tool.proofs.lemmas.demo.RightLemmas.{demo_is_right}
use Rattle.gos_tool.proofs.lemmas.demo.HoldLemmas.{put, demo_held, demo_hold}

-- the files of the demo are written
abbrev IsBetween : ℕ → Option Files → Option Files → Type 0
IsBetween levels old mid = mid ≡ with_files (demo_files levels) old

-- the build file that the build reads is that of the demo
pub own_text : (levels : ℕ) (files : Files) → bytes_at (with_demo levels files) (build_file levels).name ≡ (build_file levels).text
own_text levels files = ap (λ (o : Option (List ℕ)). unwrap_or o []) (put _ (build_file levels).name (build_file levels).text)

-- so what it writes is known
said_others : (levels : ℕ) (old new : Option Files) (b : Build) → IsLevelCount levels → IfSome (with_files (demo_files levels) old) (λ files. SaysBuild files (build_file levels).name b)
    → OthersSame (building.written_by b) (with_files (demo_files levels) old) new → OthersSame (built_by levels) (with_files (demo_files levels) old) new
said_others levels None None b count says same = tt
said_others levels None (Some new) b count says same = absurd same
said_others levels (Some files) new b count says same =
    subst (λ (names : List Word). OthersSame names (Some (with_demo levels files)) new)
    (demo_written levels b count (subst (λ (text : List ℕ). IsBuildFile text (build_file levels).name b) (own_text levels files) says)) same

others_built : (levels : ℕ) (old new : Option Files) → IsLevelCount levels → KeepsUnnamed (build_file levels).name (with_files (demo_files levels) old) new
    → OthersSame (built_by levels) (with_files (demo_files levels) old) new
others_built levels old new count (inl e) =
    subst (λ (n : Option Files). OthersSame (built_by levels) (with_files (demo_files levels) old) n) (sym e) (none_yet (built_by levels) (with_files (demo_files levels) old))
others_built levels old new count (inr w) = said_others levels old new w.0 count w.1 w.2

-- the files of the demo hold their texts in the end
still_held : (levels : ℕ) (files : Files) (new : Option Files) → IsLevelCount levels → KeepsUnnamed (build_file levels).name (Some (with_demo levels files)) new
    → HoldsEach new (demo_files levels)
still_held levels files new count keeps = demo_hold levels (Some (with_demo levels files)) new (others_built levels (Some files) new count keeps) (demo_held levels files)

-- what is known of the end of a build, where its files are those of the demo
lifted : (P Q : Files → Type 0) (levels : ℕ) (old mid : Option Files) → IsBetween levels old mid → ((files : Files) → P (with_demo levels files) → Q files) → IfSome mid P → IfSome old Q
lifted P Q levels None mid between step h = tt
lifted P Q levels (Some files) mid between step h = step files (subst (λ (m : Option Files). IfSome m P) between h)

kept_by : (levels : ℕ) (old mid new : Option Files) → IsLevelCount levels → IsBetween levels old mid → KeepsUnnamed (build_file levels).name mid new
    → IfSome old (λ files. HoldsEach new (demo_files levels))
kept_by levels None mid new count between keeps = tt
kept_by levels (Some files) mid new count between keeps =
    still_held levels files new count (subst (λ (m : Option Files). KeepsUnnamed (build_file levels).name m new) between keeps)

pub demo_done : (levels : ℕ) (old mid new : Option Files) (ended : Result Report Stop) → IsLevelCount levels → IsBetween levels old mid → KeepsUnnamed (build_file levels).name mid new
    → IfOk ended (λ report. IfSome mid (λ files. IsBuilt files new (build_file levels).name report)) → IfOk ended (λ report. IfSome old (λ files. IsDemoDone files new levels report))
demo_done levels old mid new ended count between keeps =
    of_result (λ report. IfSome mid (λ files. IsBuilt files new (build_file levels).name report)) (λ report. IfSome old (λ files. IsDemoDone files new levels report)) ended
    (λ report built. by old (kept_by levels old mid new count between keeps) report
    (lifted (λ files. IsBuilt files new (build_file levels).name report) (λ files. IsBuilt (with_demo levels files) new (build_file levels).name report) levels old mid between (λ files b. b) built))
  where
    by : (o : Option Files) → IfSome o (λ files. HoldsEach new (demo_files levels)) → (report : Report)
        → IfSome o (λ files. IsBuilt (with_demo levels files) new (build_file levels).name report) → IfSome o (λ files. IsDemoDone files new levels report)
    by None hold report built = tt
    by (Some files) hold report built = record { hold = hold; built = built }

-- no file is rejected
pub demo_never_rejected : (levels : ℕ) (old mid new : Option Files) (ended : Result Report Stop) → IsLevelCount levels → FoundExactly → JointsAreFew
    → BuildIsNotRejected → IsBetween levels old mid
    → IfErr ended (λ stop. IfStopped stop (λ fault line. IfSome mid (λ files. RejectsBuild files new (build_file levels).name fault line)))
    → IfErr ended (λ stop. IfStopped stop (λ fault line. old ≡ None))
demo_never_rejected levels old mid new ended count exactly few not_rejected between =
    of_stop (λ fault line. IfSome mid (λ files. RejectsBuild files new (build_file levels).name fault line)) (λ fault line. old ≡ None) ended
    (λ fault line rejects. by old fault line
    (lifted (λ files. RejectsBuild files new (build_file levels).name fault line) (λ files. RejectsBuild (with_demo levels files) new (build_file levels).name fault line) levels old mid between (λ files b. b) rejects))
  where
    by : (o : Option Files) (fault : Fault) (line : List ℕ) → IfSome o (λ files. RejectsBuild (with_demo levels files) new (build_file levels).name fault line) → o ≡ None
    by None fault line rejects = refl
    by (Some files) fault line rejects =
        absurd (not_rejected Few (with_demo levels files) new (build_file levels).name fault line
        (demo_is_right exactly few levels (with_demo levels files) new count (demo_held levels files) (own_text levels files)) rejects)

pub demo_call : (levels : ℕ) (old mid new : Option Files) (fault : LastFault) → IsBetween levels old mid
    → IsBuildCall mid new (build_file levels).name fault → IsDemoCall old new levels fault
demo_call levels old mid new fault between call =
    inr (subst (λ (m : Option Files). IsBuildCall m new (build_file levels).name fault) between call)

pub demo_cut_short : (levels : ℕ) (old mid new : Option Files) → IsBetween levels old mid
    → IfSome mid (λ files. IsBuildCutShort files new (build_file levels).name) → IfSome old (λ files. IsDemoCutShort files new levels)
demo_cut_short levels old mid new between short =
    lifted (λ files. IsBuildCutShort files new (build_file levels).name) (λ files. IsDemoCutShort files new levels) levels old mid between (λ files c. inr c) short

-- all other files are as they were
pub names_alone : (levels : ℕ) (old mid : Option Files) → OthersSame (names_of (demo_files levels)) old mid → OthersSame (written_by levels) old mid
names_alone levels old mid same =
    more_names (names_of (demo_files levels)) (written_by levels) old mid (λ other apart. apart_front other (names_of (demo_files levels)) (built_by levels) apart) same

pub all_others : (levels : ℕ) (old mid new : Option Files) → IsLevelCount levels → IsBetween levels old mid → KeepsUnnamed (build_file levels).name mid new
    → OthersSame (names_of (demo_files levels)) old mid → OthersSame (written_by levels) old new
all_others levels old mid new count between keeps first =
    then_later (written_by levels) old mid new (names_alone levels old mid first)
    (more_names (built_by levels) (written_by levels) mid new (λ other apart. apart_back other (names_of (demo_files levels)) (built_by levels) apart)
    (subst (λ (m : Option Files). OthersSame (built_by levels) m new) (sym between)
    (others_built levels old new count (subst (λ (m : Option Files). KeepsUnnamed (build_file levels).name m new) between keeps))))
