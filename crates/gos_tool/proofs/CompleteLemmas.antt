-- A command whose files are right is done, or memory runs out, where no call fails.
use Rattle.std.proofs.Common.{◌≡◌, ◌⊎◌, inl, inr, refl, List, ℕ, Option, Some, Result, Ok, Err, subst}
use Rattle.std.specs.Prelude.{IfErr}
use Rattle.gos_outside.specs.Files.{Files}
use Rattle.gos_lex.specs.Lines.{Word}
use Rattle.gos_command.specs.Ends.{IfStopped}
use Rattle.gos_command.specs.Finish.{Finishes}
use Rattle.gos_command.specs.declared.report.Report.{Report}
use Rattle.gos_command.specs.declared.status.Status.{Status}
use Rattle.gos_command.specs.declared.status.Status.TheVariants as statuses
use Rattle.gos_command.specs.declared.stop.Stop.{Stop}
use Rattle.gos_command.specs.declared.stop.Stop.TheVariants as stops
use Rattle.gos_tool.specs.declared.circuits.layout.Layout.TheVariants.{Few}
use Rattle.gos_tool.specs.objects.Complete.{AcceptedIsNotRejected}
use Rattle.gos_tool.specs.circuits.Complete.{LinkIsNotRejected}
use Rattle.gos_tool.specs.netlists.Complete.{TidyIsNotRejected, GatesAreNotRejected}
use Rattle.gos_tool.specs.simulate.Complete.{SimIsNotRejected}
use Rattle.gos_tool.specs.build.Complete.{BuildIsNotRejected}
use Rattle.gos_tool.specs.explained.Complete.{ExplainedIsNotRejected, VerifiedIsNotRejected}
use Rattle.gos_tool.specs.Command.{Command, Check, Compile, Link, Sim, Build, Demo, Tidy, Gates, Explain, Verify, Means}
use Rattle.gos_tool.specs.Run.{IsRejected}
use Rattle.gos_tool.specs.Complete.{AreRight, RightIsNotRejected}
use Rattle.gos_tool.proofs.EndLemmas.{same_meaning}

pub right_is_not_rejected : AcceptedIsNotRejected → LinkIsNotRejected → SimIsNotRejected → BuildIsNotRejected → TidyIsNotRejected → GatesAreNotRejected
    → ExplainedIsNotRejected → VerifiedIsNotRejected → RightIsNotRejected
right_is_not_rejected source link sim build tidy gates explain verify (Check name) files new fault line right wrong = source files name right.0 fault line right.1 wrong.2
right_is_not_rejected source link sim build tidy gates explain verify (Compile name object) files new fault line right wrong = source files name right.0 fault line right.1 wrong.2
right_is_not_rejected source link sim build tidy gates explain verify (Link own) files new fault line right wrong = link files own fault line right wrong.1
right_is_not_rejected source link sim build tidy gates explain verify (Sim net pulses trace) files new fault line right wrong = sim files net pulses fault line right wrong.2
right_is_not_rejected source link sim build tidy gates explain verify (Build own) files new fault line right wrong = build Few files new own fault line right wrong
right_is_not_rejected source link sim build tidy gates explain verify (Demo levels) files new fault line right wrong = cc wrong
right_is_not_rejected source link sim build tidy gates explain verify (Tidy net out) files new fault line right wrong = tidy files net fault line right wrong.2
right_is_not_rejected source link sim build tidy gates explain verify (Gates net out) files new fault line right wrong = gates files net fault line right wrong.2
right_is_not_rejected source link sim build tidy gates explain verify (Explain own moves) files new fault line right wrong = explain files own moves fault line right wrong.1
right_is_not_rejected source link sim build tidy gates explain verify (Verify own moves) files new fault line right wrong = verify files own moves fault line right wrong.1

-- one status of two
abbrev IsDoneOrShort : Status → Type 0
IsDoneOrShort status = (status ≡ statuses.Done) ⊎ (status ≡ statuses.NoMemory)

complete_as : RightIsNotRejected → (files : Files) (new : Option Files) (written printed : Option (List ℕ)) (c : Command) (ended : Result Report Stop) (status : Status)
    → AreRight c files new → IfErr ended (λ stop. IfStopped stop (IsRejected c (Some files) new)) → (ended ≡ Err stops.StoreFailed → ⊥)
    → Finishes ended status written printed → (status ≡ statuses.SinkFailed → ⊥) → IsDoneOrShort status
complete_as law files new written printed c (Ok report) status right rejected no_call says no_line = by says.only
  where
    by : (status ≡ statuses.Done) ⊎ ((status ≡ statuses.SinkFailed) ⊎ (status ≡ statuses.NoMemory)) → IsDoneOrShort status
    by (inl done) = inl done
    by (inr (inl failed)) = absurd (no_line failed)
    by (inr (inr short)) = inr short
complete_as law files new written printed c (Err (stops.Rejected rejection)) status right rejected no_call says no_line =
    absurd (law c files new rejection.fault rejection.line.items right rejected)
complete_as law files new written printed c (Err stops.StoreFailed) status right rejected no_call says no_line = absurd (no_call refl)
complete_as law files new written printed c (Err stops.NoMemory) status right rejected no_call says no_line = inr says.0

pub complete : RightIsNotRejected → (words : List Word) (old new : Option Files) (written printed : Option (List ℕ)) (c d : Command) (ended : Result Report Stop) (status : Status)
    (files : Files) → old ≡ Some files → Means words c → Means words d → AreRight d files new → IfErr ended (λ stop. IfStopped stop (IsRejected c old new))
    → (ended ≡ Err stops.StoreFailed → ⊥) → Finishes ended status written printed → (status ≡ statuses.SinkFailed → ⊥) → IsDoneOrShort status
complete law words old new written printed c d ended status files told m n right rejected no_call says no_line =
    complete_as law files new written printed c ended status (subst (λ (e : Command). AreRight e files new) (same_meaning words d c n m) right)
    (subst (λ (o : Option Files). IfErr ended (λ stop. IfStopped stop (IsRejected c o new))) told rejected) no_call says no_line
