-- How a command ends, from how its work ended and what was printed.
use Rattle.std.proofs.Common.{◌≡◌, ◌∙◌, ◌⊎◌, inl, inr, refl, List, [], ◌∷◌, ◌++◌, ℕ, Option, Some, None, Result, Ok, Err, nat_eq, if◌then◌else◌, ap, sym, subst}
use Rattle.std.specs.Prelude.{IfOk, IfErr, IfSome}
use Rattle.gos_outside.specs.Files.{Files}
use Rattle.gos_outside.specs.Calls.{StoreCall, Calls, Ending, Whole, Short}
use Rattle.gos_outside.proofs.CallsLemmas.{all_made}
use Rattle.gos_lex.specs.Lines.{Word}
use Rattle.gos_link.specs.declared.build.Build as built
use Rattle.gos_command.specs.Ends.{IfStopped, IfRejected, IsTold, IsSaid, ending, status_ending}
use Rattle.gos_command.specs.Finish.{Finishes}
use Rattle.gos_command.specs.declared.report.Report.{Report}
use Rattle.gos_command.specs.declared.status.Fault.{Fault}
use Rattle.gos_command.specs.declared.status.Status.{Status}
use Rattle.gos_command.specs.declared.status.Status.TheVariants as statuses
use Rattle.gos_command.specs.declared.stop.Stop.{Stop}
use Rattle.gos_command.specs.declared.stop.Stop.TheVariants as stops
use Rattle.gos_tool.specs.Calls.{read_source, read_build_file, compile_calls, link_calls, sim_calls, build_calls, rewrite_calls, explain_calls, verify_calls, write_calls, GoesByBuild}
use Rattle.gos_tool.specs.objects.Checked.{IsSourceFault}
use Rattle.gos_tool.specs.circuits.Linked.{RejectsLink}
use Rattle.gos_tool.specs.netlists.Netlist.{IsNetFault}
use Rattle.gos_tool.specs.netlists.Gates.{IsGatesFault}
use Rattle.gos_tool.specs.simulate.Sim.{IsSimFault}
use Rattle.gos_tool.specs.declared.circuits.layout.Layout.TheVariants.{Few}
use Rattle.gos_tool.specs.build.Headline.{Headline}
use Rattle.gos_tool.specs.build.Paced.{HeadlineHolds}
use Rattle.gos_tool.specs.demo.DemoFiles.{build_file, demo_files}
use Rattle.gos_tool.specs.demo.Demo.{with_demo, with_files, names_of}
use Rattle.gos_tool.specs.explained.Found.{RejectsExplain}
use Rattle.gos_tool.specs.explained.Verified.{RejectsVerify}
use Rattle.gos_tool.specs.Command.{Command, Check, Compile, Link, Sim, Build, Demo, Tidy, Gates, Explain, Verify, Means}
use Rattle.gos_tool.proofs.WordLemmas.{levels_in, levels_back}
use Rattle.gos_tool.specs.Causes.{IsOneOf, StopsFor}
use Rattle.gos_tool.specs.Run.{Tells, kinds_of, IsDone, IsRejected, IsCutShort, KeepsOthers, CallsOf, EndsDone, EndsRejected, IsUnsaid, IsUntold}

-- a command is done only where its work is
pub ends_done : (words : List Word) (old new : Option Files) (written printed : Option (List ℕ)) (c : Command) (ended : Result Report Stop) (status : Status)
    → Means words c → IfOk ended (Tells c) → IfOk ended (IsDone c old new) → Finishes ended status written printed → status ≡ statuses.Done → EndsDone words old new written printed
ends_done words old new written printed c (Ok report) status means tells is says done =
    record { command = c; report = report; means = means; line = says.whole done; tells = tells; done = is }
ends_done words old new written printed c (Err (stops.Rejected rejection)) status means tells is says done = absurd (not_done says.only)
  where
    not_done : (status ≡ statuses.Rejected rejection.fault) ⊎ ((status ≡ statuses.SinkFailed) ⊎ (status ≡ statuses.NoMemory)) → ⊥
    not_done (inl e) = cc (e, done)
    not_done (inr (inl e)) = cc (e, done)
    not_done (inr (inr e)) = cc (e, done)
ends_done words old new written printed c (Err stops.StoreFailed) status means tells is says done = let e = says.0 in cc
ends_done words old new written printed c (Err stops.NoMemory) status means tells is says done = let e = says.0 in cc

-- The command that words are: by how many they are, and by the third letter of the first.
abbrev third : Word → ℕ
third (a ∷ b ∷ c ∷ letters) = c
third letters = 0

abbrev with_one_file : ℕ → Word → Command
with_one_file letter file =
    if nat_eq letter 101 then Check file else (if nat_eq letter 110 then Link file else (if nat_eq letter 105 then Build file else Demo (levels_in file)))

abbrev with_two_files : ℕ → Word → Word → Command
with_two_files letter file made =
    if nat_eq letter 109 then Compile file made else (if nat_eq letter 100 then Tidy file made else (if nat_eq letter 114 then Verify file made else (if nat_eq letter 112 then Explain file made else Gates file made)))

abbrev read_back : List Word → Option Command
read_back (verb ∷ file ∷ []) = Some (with_one_file (third verb) file)
read_back (verb ∷ file ∷ made ∷ []) = Some (with_two_files (third verb) file made)
read_back (verb ∷ net ∷ pulses ∷ trace ∷ []) = Some (Sim net pulses trace)
read_back words = None

is_read_back : (words : List Word) (c : Command) → Means words c → read_back words ≡ Some c
is_read_back words (Check source) means = ap read_back means.0
is_read_back words (Compile source object) means = ap read_back means.0
is_read_back words (Link own) means = ap read_back means.0
is_read_back words (Sim net pulses trace) means = ap read_back means.0
is_read_back words (Build own) means = ap read_back means.0
is_read_back words (Demo levels) means = ap read_back means.0 ∙ ap (λ (n : ℕ). Some (Demo n)) (levels_back levels means.1.1)
is_read_back words (Tidy net out) means = ap read_back means.0
is_read_back words (Gates net out) means = ap read_back means.0
is_read_back words (Explain own moves) means = ap read_back means.0
is_read_back words (Verify own moves) means = ap read_back means.0

-- words are one command at most
pub same_meaning : (words : List Word) (c d : Command) → Means words c → Means words d → c ≡ d
same_meaning words c d m n = let same : Some c ≡ Some d = sym (is_read_back words c m) ∙ is_read_back words d n in cc

-- what holds of the files where a build is done
pub headline : HeadlineHolds → (words : List Word) (old new : Option Files) (written printed : Option (List ℕ)) (own : Word)
    → Means words (Build own) → EndsDone words old new written printed → IfSome old (λ files. IfSome new (λ held. Headline files held own))
headline law words None new written printed own means done = tt
headline law words (Some files) None written printed own means done = tt
headline law words (Some files) (Some held) written printed own means done =
    let build : IsDone (Build own) (Some files) (Some held) done.report =
    subst (λ (c : Command). IsDone c (Some files) (Some held) done.report) (same_meaning words done.command (Build own) done.means means) done.done in
    law Few files held own done.report build

pub headline_of_demo : HeadlineHolds → (words : List Word) (old new : Option Files) (written printed : Option (List ℕ)) (levels : ℕ)
    → Means words (Demo levels) → EndsDone words old new written printed
    → IfSome old (λ files. IfSome new (λ held. Headline (with_demo levels files) held (build_file levels).name))
headline_of_demo law words None new written printed levels means done = tt
headline_of_demo law words (Some files) None written printed levels means done = tt
headline_of_demo law words (Some files) (Some held) written printed levels means done =
    let demo : IsDone (Demo levels) (Some files) (Some held) done.report =
    subst (λ (c : Command). IsDone c (Some files) (Some held) done.report) (same_meaning words done.command (Demo levels) done.means means) done.done in
    law Few (with_demo levels files) held (build_file levels).name done.report demo.built

-- what is known of all other files, of one command and so of any that the words are
pub kept : (words : List Word) (old new : Option Files) (c d : Command) → Means words c → Means words d → KeepsOthers c old new → KeepsOthers d old new
kept words old new c d m n keeps = subst (λ (e : Command). KeepsOthers e old new) (same_meaning words c d m n) keeps

-- a command whose line could not be printed
unsaid_as : (old new : Option Files) (written printed : Option (List ℕ)) (c : Command) (ended : Result Report Stop) (status : Status)
    → IfOk ended (Tells c) → IfErr ended (StopsFor (kinds_of c)) → IfOk ended (IsDone c old new) → IfErr ended (λ stop. IfStopped stop (IsRejected c old new))
    → IfErr ended (λ stop. IfStopped stop IsTold) → Finishes ended status written printed → status ≡ statuses.SinkFailed → IsUnsaid c old new written printed
unsaid_as old new written printed c (Ok report) status tells kind done rejected told says failed = inl (report, says.cut failed, tells, done)
unsaid_as old new written printed c (Err (stops.Rejected rejection)) status tells kind done rejected told says failed =
    inr (rejection.fault, rejection.line.items, told, says.cut failed, kind, rejected)
unsaid_as old new written printed c (Err stops.StoreFailed) status tells kind done rejected told says failed = let e = says.0 in cc
unsaid_as old new written printed c (Err stops.NoMemory) status tells kind done rejected told says failed = let e = says.0 in cc

pub unsaid : (words : List Word) (old new : Option Files) (written printed : Option (List ℕ)) (c d : Command) (ended : Result Report Stop) (status : Status)
    → Means words c → Means words d → IfOk ended (Tells c) → IfErr ended (StopsFor (kinds_of c)) → IfOk ended (IsDone c old new)
    → IfErr ended (λ stop. IfStopped stop (IsRejected c old new)) → IfErr ended (λ stop. IfStopped stop IsTold) → Finishes ended status written printed → status ≡ statuses.SinkFailed
    → IsUnsaid d old new written printed
unsaid words old new written printed c d ended status m n tells kind done rejected told says failed =
    subst (λ (e : Command). IsUnsaid e old new written printed) (same_meaning words c d m n) (unsaid_as old new written printed c ended status tells kind done rejected told says failed)

-- a command at whose end memory runs out
untold_as : (old new : Option Files) (written printed : Option (List ℕ)) (c : Command) (ended : Result Report Stop) (status : Status)
    → IfOk ended (IsDone c old new) → IfErr ended (λ stop. IfStopped stop (IsRejected c old new)) → (ended ≡ Err stops.NoMemory → IsCutShort c old new)
    → Finishes ended status written printed → status ≡ statuses.NoMemory → IsUntold c old new
untold_as old new written printed c (Ok report) status done rejected short says failed = inl (report, done)
untold_as old new written printed c (Err (stops.Rejected rejection)) status done rejected short says failed = inr (inl (rejection.fault, rejection.line.items, rejected))
untold_as old new written printed c (Err stops.StoreFailed) status done rejected short says failed = let e = says.0 in cc
untold_as old new written printed c (Err stops.NoMemory) status done rejected short says failed = inr (inr (short refl))

pub untold : (words : List Word) (old new : Option Files) (written printed : Option (List ℕ)) (c d : Command) (ended : Result Report Stop) (status : Status)
    → Means words c → Means words d → IfOk ended (IsDone c old new) → IfErr ended (λ stop. IfStopped stop (IsRejected c old new)) → (ended ≡ Err stops.NoMemory → IsCutShort c old new)
    → Finishes ended status written printed → status ≡ statuses.NoMemory → IsUntold d old new
untold words old new written printed c d ended status m n done rejected short says failed =
    subst (λ (e : Command). IsUntold e old new) (same_meaning words c d m n) (untold_as old new written printed c ended status done rejected short says failed)

-- a command that rejects a file, where the line that says so was printed
ends_rejected : (words : List Word) (old new : Option Files) (written printed : Option (List ℕ)) (c : Command) (ended : Result Report Stop) (fault : Fault)
    → Means words c → IfErr ended (StopsFor (kinds_of c)) → IfErr ended (λ stop. IfStopped stop (IsRejected c old new)) → IfErr ended (λ stop. IfStopped stop IsTold) → Finishes ended (statuses.Rejected fault) written printed
    → EndsRejected words old new written printed fault
ends_rejected words old new written printed c (Ok report) fault means kind rejected told says = absurd (not_done says.only)
  where
    not_done : (statuses.Rejected fault ≡ statuses.Done) ⊎ ((statuses.Rejected fault ≡ statuses.SinkFailed) ⊎ (statuses.Rejected fault ≡ statuses.NoMemory)) → ⊥
    not_done (inl e) = cc e
    not_done (inr (inl e)) = cc e
    not_done (inr (inr e)) = cc e
ends_rejected words old new written printed c (Err (stops.Rejected rejection)) fault means kind rejected told says = by_said says.only
  where
    by_said : (statuses.Rejected fault ≡ statuses.Rejected rejection.fault) ⊎ ((statuses.Rejected fault ≡ statuses.SinkFailed) ⊎ (statuses.Rejected fault ≡ statuses.NoMemory)) → EndsRejected words old new written printed fault
    by_said (inl e) =
        let same : rejection.fault ≡ fault = cc e in
        record {
          command = c;
          text = rejection.line.items;
          means = means;
          told = subst (λ (f : Fault). IsTold f rejection.line.items) same told;
          line = says.whole e;
          kind = subst (λ (f : Fault). IsOneOf (kinds_of c) f.cause) same kind;
          rejected = subst (λ (f : Fault). IsRejected c old new f rejection.line.items) same rejected;
        }
    by_said (inr (inl e)) = absurd (cc e)
    by_said (inr (inr e)) = absurd (cc e)
ends_rejected words old new written printed c (Err stops.StoreFailed) fault means kind rejected told says = let e = says.0 in absurd (cc e)
ends_rejected words old new written printed c (Err stops.NoMemory) fault means kind rejected told says = let e = says.0 in absurd (cc e)

pub if_rejected : (words : List Word) (old new : Option Files) (written printed : Option (List ℕ)) (c : Command) (ended : Result Report Stop) (status : Status)
    → Means words c → IfErr ended (StopsFor (kinds_of c)) → IfErr ended (λ stop. IfStopped stop (IsRejected c old new)) → IfErr ended (λ stop. IfStopped stop IsTold) → Finishes ended status written printed
    → IfRejected status (EndsRejected words old new written printed)
if_rejected words old new written printed c ended (statuses.Rejected fault) means kind rejected told says = ends_rejected words old new written printed c ended fault means kind rejected told says
if_rejected words old new written printed c ended statuses.Done means kind rejected told says = tt
if_rejected words old new written printed c ended statuses.Usage means kind rejected told says = tt
if_rejected words old new written printed c ended statuses.StoreFailed means kind rejected told says = tt
if_rejected words old new written printed c ended statuses.SinkFailed means kind rejected told says = tt
if_rejected words old new written printed c ended statuses.NoMemory means kind rejected told says = tt

-- what is known of a rejection of `sim`, as one
pub sim_rejected : (net pulses trace : Word) (old new : Option Files) (ended : Result Report Stop)
    → IfErr ended (λ stop. IfStopped stop (λ fault line. new ≡ old)) → IfErr ended (λ stop. IfStopped stop (λ fault line. (fault.file ≡ net) ⊎ (fault.file ≡ pulses)))
    → IfErr ended (λ stop. IfStopped stop (λ fault line. IfSome old (λ files. IsSimFault files net pulses fault line)))
    → IfErr ended (λ stop. IfStopped stop (IsRejected (Sim net pulses trace) old new))
sim_rejected net pulses trace old new (Ok report) kept file why = tt
sim_rejected net pulses trace old new (Err (stops.Rejected rejection)) kept file why = (kept, file, why)
sim_rejected net pulses trace old new (Err stops.StoreFailed) kept file why = tt
sim_rejected net pulses trace old new (Err stops.NoMemory) kept file why = tt

-- and of `compile`
pub compile_rejected : (source object : Word) (old new : Option Files) (ended : Result Report Stop)
    → IfErr ended (λ stop. IfStopped stop (λ fault line. new ≡ old)) → IfErr ended (λ stop. IfStopped stop (λ fault line. fault.file ≡ source))
    → IfErr ended (λ stop. IfStopped stop (λ fault line. IfSome old (λ files. IsSourceFault files source fault line)))
    → IfErr ended (λ stop. IfStopped stop (IsRejected (Compile source object) old new))
compile_rejected source object old new (Ok report) kept file why = tt
compile_rejected source object old new (Err (stops.Rejected rejection)) kept file why = (kept, file, why)
compile_rejected source object old new (Err stops.StoreFailed) kept file why = tt
compile_rejected source object old new (Err stops.NoMemory) kept file why = tt

-- and of `link`
pub link_rejected : (own : Word) (old new : Option Files) (ended : Result Report Stop)
    → IfErr ended (λ stop. IfStopped stop (λ fault line. new ≡ old)) → IfErr ended (λ stop. IfStopped stop (λ fault line. IfSome old (λ files. RejectsLink files own fault line)))
    → IfErr ended (λ stop. IfStopped stop (IsRejected (Link own) old new))
link_rejected own old new (Ok report) kept why = tt
link_rejected own old new (Err (stops.Rejected rejection)) kept why = (kept, why)
link_rejected own old new (Err stops.StoreFailed) kept why = tt
link_rejected own old new (Err stops.NoMemory) kept why = tt

-- and of `tidy` and `gates`
pub tidy_rejected : (net out : Word) (old new : Option Files) (ended : Result Report Stop)
    → IfErr ended (λ stop. IfStopped stop (λ fault line. new ≡ old)) → IfErr ended (λ stop. IfStopped stop (λ fault line. fault.file ≡ net))
    → IfErr ended (λ stop. IfStopped stop (λ fault line. IfSome old (λ files. IsNetFault files net fault line)))
    → IfErr ended (λ stop. IfStopped stop (IsRejected (Tidy net out) old new))
tidy_rejected net out old new (Ok report) kept file why = tt
tidy_rejected net out old new (Err (stops.Rejected rejection)) kept file why = (kept, file, why)
tidy_rejected net out old new (Err stops.StoreFailed) kept file why = tt
tidy_rejected net out old new (Err stops.NoMemory) kept file why = tt

pub gates_rejected : (net out : Word) (old new : Option Files) (ended : Result Report Stop)
    → IfErr ended (λ stop. IfStopped stop (λ fault line. new ≡ old)) → IfErr ended (λ stop. IfStopped stop (λ fault line. fault.file ≡ net))
    → IfErr ended (λ stop. IfStopped stop (λ fault line. IfSome old (λ files. IsGatesFault files net fault line)))
    → IfErr ended (λ stop. IfStopped stop (IsRejected (Gates net out) old new))
gates_rejected net out old new (Ok report) kept file why = tt
gates_rejected net out old new (Err (stops.Rejected rejection)) kept file why = (kept, file, why)
gates_rejected net out old new (Err stops.StoreFailed) kept file why = tt
gates_rejected net out old new (Err stops.NoMemory) kept file why = tt

-- and of `explain`
pub explain_rejected : (own moves : Word) (old new : Option Files) (ended : Result Report Stop)
    → IfErr ended (λ stop. IfStopped stop (λ fault line. new ≡ old))
    → IfErr ended (λ stop. IfStopped stop (λ fault line. IfSome old (λ files. RejectsExplain files own moves fault line)))
    → IfErr ended (λ stop. IfStopped stop (IsRejected (Explain own moves) old new))
explain_rejected own moves old new (Ok report) kept why = tt
explain_rejected own moves old new (Err (stops.Rejected rejection)) kept why = (kept, why)
explain_rejected own moves old new (Err stops.StoreFailed) kept why = tt
explain_rejected own moves old new (Err stops.NoMemory) kept why = tt

-- and of `verify`, which leaves all files
pub verify_rejected : (own moves : Word) (old new : Option Files) (ended : Result Report Stop) → new ≡ old
    → IfErr ended (λ stop. IfStopped stop (λ fault line. IfSome old (λ files. RejectsVerify files own moves fault line)))
    → IfErr ended (λ stop. IfStopped stop (IsRejected (Verify own moves) old new))
verify_rejected own moves old new (Ok report) kept why = tt
verify_rejected own moves old new (Err (stops.Rejected rejection)) kept why = (kept, why)
verify_rejected own moves old new (Err stops.StoreFailed) kept why = tt
verify_rejected own moves old new (Err stops.NoMemory) kept why = tt

-- where all calls were made, some were
short_by_build : (first : List StoreCall) (files : Option Files) (own : Word) (rest : built.Build → List StoreCall) (old new : Calls)
    → GoesByBuild Whole first files own rest old new → GoesByBuild Short first files own rest old new
short_by_build first files own rest old new (inl (cut, made)) = absurd (cut refl)
short_by_build first files own rest old new (inr (b, says, made)) = inr (b, says, all_made (first ++ read_build_file own ∷ rest b) old new made)

short_of : (c : Command) (files : Option Files) (old new : Calls) → CallsOf c Whole files old new → CallsOf c Short files old new
short_of (Check source) files old new made = all_made (read_source source ∷ []) old new made
short_of (Compile source object) files old new made = all_made (compile_calls source object) old new made
short_of (Link own) files old new made = short_by_build [] files own link_calls old new made
short_of (Sim net pulses trace) files old new made = all_made (sim_calls net pulses trace) old new made
short_of (Build own) files old new made = short_by_build [] files own build_calls old new made
short_of (Demo levels) files old new made =
    short_by_build (write_calls (names_of (demo_files levels))) (with_files (demo_files levels) files) (build_file levels).name build_calls old new made
short_of (Tidy net out) files old new made = all_made (rewrite_calls net out) old new made
short_of (Gates net out) files old new made = all_made (rewrite_calls net out) old new made
short_of (Explain own moves) files old new made = short_by_build [] files own (explain_calls moves) old new made
short_of (Verify own moves) files old new made = short_by_build [] files own (verify_calls moves) old new made

-- how far a command came is told by its status, where its line may be unsaid
calls_at : (c : Command) (status : Status) (end : Ending) (files : Option Files) (old new : Calls) → status_ending status ≡ end → CallsOf c end files old new
    → CallsOf c (status_ending status) files old new
calls_at c status end files old new is made = subst (λ (e : Ending). CallsOf c e files old new) (sym is) made

calls_said : (c : Command) (wanted status : Status) (files : Option Files) (old new : Calls) → IsSaid status wanted → CallsOf c (status_ending wanted) files old new
    → CallsOf c Short files old new → CallsOf c (status_ending status) files old new
calls_said c wanted status files old new (inl e) made cut = calls_at c status (status_ending wanted) files old new (ap status_ending e) made
calls_said c wanted status files old new (inr (inl e)) made cut = calls_at c status Short files old new (ap status_ending e) cut
calls_said c wanted status files old new (inr (inr e)) made cut = calls_at c status Short files old new (ap status_ending e) cut

calls_end : (written printed : Option (List ℕ)) (c : Command) (ended : Result Report Stop) (status : Status) (files : Option Files) (old new : Calls)
    → Finishes ended status written printed → CallsOf c (ending ended) files old new → CallsOf c (status_ending status) files old new
calls_end written printed c (Ok report) status files old new says made = calls_said c statuses.Done status files old new says.only made (short_of c files old new made)
calls_end written printed c (Err (stops.Rejected rejection)) status files old new says made = calls_said c (statuses.Rejected rejection.fault) status files old new says.only made made
calls_end written printed c (Err stops.StoreFailed) status files old new says made = calls_at c status (status_ending statuses.StoreFailed) files old new (ap status_ending says.0) made
calls_end written printed c (Err stops.NoMemory) status files old new says made = calls_at c status Short files old new (ap status_ending says.0) made

pub calls : (words : List Word) (written printed : Option (List ℕ)) (c d : Command) (ended : Result Report Stop) (status : Status) (files : Option Files) (old new : Calls)
    → Means words c → Means words d → Finishes ended status written printed → CallsOf c (ending ended) files old new → CallsOf d (status_ending status) files old new
calls words written printed c d ended status files old new m n says made =
    subst (λ (e : Command). CallsOf e (status_ending status) files old new) (same_meaning words c d m n) (calls_end written printed c ended status files old new says made)
