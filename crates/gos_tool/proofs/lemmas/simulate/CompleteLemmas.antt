-- Files that are right for `sim` have no fault: a text has one answer, and so has a netlist, and a run.
use Rattle.std.proofs.Common.{◌≡◌, ◌∙◌, inl, inr, ℕ, List, [], sym, subst}
use Rattle.gos_outside.specs.Files.{bytes_at}
use Rattle.gos_netlist.specs.Nets.{Netlist}
use Rattle.gos_netlist.specs.NetText.{text_of}
use Rattle.gos_netlist.specs.NetFaults.{IsOneNetlist, ReadHasNoFault}
use Rattle.gos_netcheck.specs.Accepted.{AcceptedHasNoFault, IsAccepted}
use Rattle.gos_pulse.specs.Driving.{BreaksAs, IsBroken}
use Rattle.gos_pulse.specs.OneAnswer.{DrivenIsNotBroken, FilesAreNotRefused, IsOneFile}
use Rattle.gos_pulse.specs.declared.entries.Entry.{Entry}
use Rattle.gos_pulse.specs.declared.fault.PulseFault.{PulseFault}
use Rattle.gos_pulse.specs.declared.fault.PulseFault.TheVariants as pulses
use Rattle.gos_command.specs.declared.status.Cause.{Cause}
use Rattle.gos_command.specs.declared.status.Cause.TheVariants as causes
use Rattle.gos_tool.specs.simulate.Simulation.{IsPulseCause, IsPulseFault}
use Rattle.gos_tool.proofs.lemmas.netlists.CompleteLemmas.{same_net, no_net_cause}
use Rattle.gos_tool.specs.simulate.Complete.{EmptyIsNoNet, EndedMayRun, MayRunUnder, PulsesAreNotRejected, SimIsNotRejected}

never_breaks : (net : Netlist) (cycles : ℕ) (entries : List Entry) → ((cycle event : ℕ) → IsBroken net cycles entries cycle event → ⊥)
    → (why : PulseFault) → BreaksAs net cycles entries why → ⊥
never_breaks net cycles entries kept (pulses.Form line) broken = broken
never_breaks net cycles entries kept (pulses.NoPort line) broken = broken
never_breaks net cycles entries kept (pulses.Value line) broken = broken
never_breaks net cycles entries kept (pulses.Limit line) broken = broken
never_breaks net cycles entries kept (pulses.Broken cycle event) broken = kept cycle event broken
never_breaks net cycles entries kept pulses.NoMemory broken = broken

module _ (one_file : (net : Netlist) (text : List ℕ) → IsAccepted net → IsOneFile net text)
    (not_refused : (net : Netlist) (text : List ℕ) → IsAccepted net → FilesAreNotRefused net text) where
  no_cause : (net : Netlist) (text : List ℕ) → IsAccepted net → MayRunUnder net text → (cause : Cause) → IsPulseCause net text cause → ⊥
  no_cause net text accepted (cycles, entries, file, kept) (causes.Pulse why) (real, inl refused) =
      not_refused net text accepted cycles entries why file refused
  no_cause net text accepted (cycles, entries, file, kept) (causes.Pulse why) (real, inr (count, others, other, breaks)) =
      let same = one_file net text accepted count cycles others entries other file in
      never_breaks net cycles entries kept why
      (subst (λ (es : List Entry). BreaksAs net cycles es why) same.1 (subst (λ (n : ℕ). BreaksAs net n others why) same.0 breaks))
  no_cause net text accepted may (causes.Lex why) cause = cause
  no_cause net text accepted may (causes.Syntax why) cause = cause
  no_cause net text accepted may (causes.Check why) cause = cause
  no_cause net text accepted may (causes.Object why) cause = cause
  no_cause net text accepted may (causes.Link why) cause = cause
  no_cause net text accepted may (causes.Net why) cause = cause
  no_cause net text accepted may (causes.Refused why) cause = cause
  no_cause net text accepted may (causes.Gates why) cause = cause
  no_cause net text accepted may (causes.Explain why) cause = cause

  pub pulses_are_not_rejected : PulsesAreNotRejected
  pulses_are_not_rejected files net name fault line accepted may wrong = no_cause net (bytes_at files name) accepted may fault.cause wrong.cause

pub ended_may_run : ((net : Netlist) (cycles : ℕ) (file : List Entry) → IsAccepted net → DrivenIsNotBroken net cycles file) → EndedMayRun
ended_may_run not_broken net text accepted (cycles, entries, run, unused, file, driven) =
    (cycles, entries, file, λ cycle event broken. not_broken net cycles entries accepted run unused cycle event driven broken)

pub sim_is_not_rejected : PulsesAreNotRejected → ((text : List ℕ) → IsOneNetlist text) → ((text : List ℕ) → ReadHasNoFault text)
    → ((net : Netlist) → AcceptedHasNoFault net) → SimIsNotRejected
sim_is_not_rejected not_rejected one_netlist no_fault not_refused files net name fault line right (inl wrong) =
    no_net_cause one_netlist no_fault not_refused (bytes_at files net) right.circuit right.says fault.cause wrong.cause
sim_is_not_rejected not_rejected one_netlist no_fault not_refused files net name fault line right (inr (other, says, wrong)) =
    let same = same_net one_netlist (bytes_at files net) other right.circuit says right.says in
    not_rejected files right.circuit name fault line right.says.accepted right.runs (subst (λ (n : Netlist). IsPulseFault files n name fault line) same wrong)

-- the text of a netlist is not empty
some_text : (net : Netlist) → [] ≡ text_of net → ⊥
some_text net e = cc e

pub empty_is_no_net : EmptyIsNoNet
empty_is_no_net files net name e right = some_text right.circuit (sym e ∙ right.says.read.is)
