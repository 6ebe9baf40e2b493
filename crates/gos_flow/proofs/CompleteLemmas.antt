-- A command whose file is right is done, or memory runs out, where no call fails.
use Rattle.std.proofs.Common.{◌≡◌, ◌⊎◌, ◌∙◌, inl, inr, refl, List, ℕ, Option, Some, Result, Ok, Err, subst, sym}
use Rattle.std.specs.Prelude.{IfErr}
use Rattle.gos_outside.specs.Files.{Files, bytes_at}
use Rattle.gos_lex.specs.Lines.{Word}
use Rattle.gos_netlist.specs.Nets.{Netlist}
use Rattle.gos_netlist.specs.NetFaults as netlists
use Rattle.gos_netcheck.specs.Accepted.{IsAccepted, AcceptedHasNoFault}
use Rattle.gos_verilog.specs.OneText.{IsReadAsOne}
use Rattle.gos_verilog.specs.declared.fault.VFault.TheVariants as verilog
use Rattle.gos_flow.specs.Ends.{IfStopped}
use Rattle.gos_flow.specs.Finish.{Finishes}
use Rattle.gos_flow.specs.Texts.{SaysNet, SaysVerilog, IsNetCause, IsVerilogCause}
use Rattle.gos_flow.specs.declared.status.Cause.{Cause}
use Rattle.gos_flow.specs.declared.status.Cause.TheVariants as causes
use Rattle.gos_flow.specs.declared.status.Status.{Status}
use Rattle.gos_flow.specs.declared.status.Status.TheVariants as statuses
use Rattle.gos_flow.specs.declared.stop.Stop.{Stop}
use Rattle.gos_flow.specs.declared.stop.Stop.TheVariants as stops
use Rattle.gos_flow.specs.Command.{Command, ToVerilog, ToNetlist, read_by, Means}
use Rattle.gos_flow.specs.Run.{IsRejected}
use Rattle.gos_flow.specs.Complete.{IsRight, RightIsNotRejected, EmptyIsNotRight}
use Rattle.gos_flow.proofs.EndLemmas.{same_meaning}

module _ (one_netlist : (text : List ℕ) → netlists.IsOneNetlist text) (no_fault : (text : List ℕ) → netlists.ReadHasNoFault text)
    (one_reading : (text : List ℕ) → IsReadAsOne text) (not_refused : (net : Netlist) → AcceptedHasNoFault net) where
  no_net_cause : (text : List ℕ) (net : Netlist) → SaysNet text net → (cause : Cause) → IsNetCause text cause → ⊥
  no_net_cause text net says (causes.Net why) (real, has) = real (no_fault text net why says.read has)
  no_net_cause text net says (causes.Verilog why) cause = cause
  no_net_cause text net says (causes.Refused why) (other, read, (real, has)) =
      let same = one_netlist text net other says.read.writable read.writable says.read.is read.is in
      real (not_refused other why (subst IsAccepted same says.accepted) has)

  no_verilog_cause : (text : List ℕ) (net : Netlist) → SaysVerilog text net → (cause : Cause) → IsVerilogCause text cause → ⊥
  no_verilog_cause text net says (causes.Net why) cause = cause
  no_verilog_cause text net says (causes.Verilog (verilog.Form at)) (real, refused, place) = refused net says.read
  no_verilog_cause text net says (causes.Verilog verilog.NoMemory) (real, refused, place) = real refl
  no_verilog_cause text net says (causes.Refused why) (other, read, (real, has)) =
      let same = one_reading text net other says.read read in
      real (not_refused other why (subst IsAccepted same says.accepted) has)

  pub right_is_not_rejected : RightIsNotRejected
  right_is_not_rejected (ToVerilog net out) files new cause (circuit, says) wrong = no_net_cause (bytes_at files net) circuit says cause wrong.why
  right_is_not_rejected (ToNetlist ver out) files new cause (circuit, says) wrong = no_verilog_cause (bytes_at files ver) circuit says cause wrong.why

-- no text of either form is empty
pub empty_is_not_right : EmptyIsNotRight
empty_is_not_right (ToVerilog net out) files empty (circuit, says) = let e = sym empty ∙ says.read.is in absurd (cc e)
empty_is_not_right (ToNetlist ver out) files empty (circuit, says) = let e = sym empty ∙ says.read.1.2 in absurd (cc e)

-- one status of two
abbrev IsDoneOrShort : Status → Type 0
IsDoneOrShort status = (status ≡ statuses.Done) ⊎ (status ≡ statuses.NoMemory)

complete_as : RightIsNotRejected → (files : Files) (new : Option Files) (written printed : Option (List ℕ)) (c : Command) (ended : Result ℕ Stop) (status : Status)
    → IsRight c files → IfErr ended (λ stop. IfStopped stop (IsRejected c (Some files) new)) → (ended ≡ Err stops.StoreFailed → ⊥)
    → Finishes (read_by c) ended status written printed → (status ≡ statuses.SinkFailed → ⊥) → IsDoneOrShort status
complete_as law files new written printed c (Ok cells) status right rejected no_call says no_line = by says.only
  where
    by : (status ≡ statuses.Done) ⊎ ((status ≡ statuses.SinkFailed) ⊎ (status ≡ statuses.NoMemory)) → IsDoneOrShort status
    by (inl done) = inl done
    by (inr (inl failed)) = absurd (no_line failed)
    by (inr (inr short)) = inr short
complete_as law files new written printed c (Err (stops.Rejected cause)) status right rejected no_call says no_line = absurd (law c files new cause right rejected)
complete_as law files new written printed c (Err stops.StoreFailed) status right rejected no_call says no_line = absurd (no_call refl)
complete_as law files new written printed c (Err stops.NoMemory) status right rejected no_call says no_line = inr says.0

pub complete : RightIsNotRejected → (words : List Word) (old new : Option Files) (written printed : Option (List ℕ)) (c d : Command) (ended : Result ℕ Stop) (status : Status)
    (files : Files) → old ≡ Some files → Means words c → Means words d → IsRight d files → IfErr ended (λ stop. IfStopped stop (IsRejected c old new))
    → (ended ≡ Err stops.StoreFailed → ⊥) → Finishes (read_by c) ended status written printed → (status ≡ statuses.SinkFailed → ⊥) → IsDoneOrShort status
complete law words old new written printed c d ended status files told m n right rejected no_call says no_line =
    complete_as law files new written printed c ended status (subst (λ (e : Command). IsRight e files) (same_meaning words d c n m) right)
    (subst (λ (o : Option Files). IfErr ended (λ stop. IfStopped stop (IsRejected c o new))) told rejected) no_call says no_line
