-- Files that are right for `tidy` and `gates` have no fault: a text has one answer, and so has a netlist.
use Rattle.std.proofs.Common.{◌≡◌, ◌∙◌, ◌≤◌, inl, inr, ℕ, List, arith, ap, sym, subst}
use Rattle.gos_outside.specs.Files.{bytes_at}
use Rattle.gos_netlist.specs.Nets.{Netlist}
use Rattle.gos_netlist.specs.NetFaults.{IsOneNetlist, ReadHasNoFault}
use Rattle.gos_netcheck.specs.Accepted.{AcceptedHasNoFault, IsAccepted}
use Rattle.gos_gates.specs.declared.fault.GateFault.TheVariants as gates
use Rattle.gos_gates.specs.Lowered.{bits_in}
use Rattle.gos_command.specs.declared.status.Cause.{Cause}
use Rattle.gos_command.specs.declared.status.Cause.TheVariants as causes
use Rattle.gos_tool.specs.netlists.Netlist.{IsNetCause, SaysNet}
use Rattle.gos_tool.specs.netlists.Gates.{IsGatesCause}
use Rattle.gos_tool.specs.netlists.Complete.{TidyIsNotRejected, GatesAreNotRejected}

module _ (one_netlist : (text : List ℕ) → IsOneNetlist text) where
  pub same_net : (text : List ℕ) (net other : Netlist) → SaysNet text net → SaysNet text other → net ≡ other
  same_net text net other one two = one_netlist text net other one.read.writable two.read.writable one.read.is two.read.is

  pub no_net_cause : ((text : List ℕ) → ReadHasNoFault text) → ((net : Netlist) → AcceptedHasNoFault net) → (text : List ℕ) (net : Netlist)
      → SaysNet text net → (cause : Cause) → IsNetCause text cause → ⊥
  no_net_cause no_fault not_refused text net says (causes.Net why) (real, has) = real (no_fault text net why says.read has)
  no_net_cause no_fault not_refused text net says (causes.Refused why) (real, other, read, has) =
      let same = one_netlist text net other says.read.writable read.writable says.read.is read.is in
      real (not_refused other why (subst IsAccepted same says.accepted) has)
  no_net_cause no_fault not_refused text net says (causes.Lex why) cause = cause
  no_net_cause no_fault not_refused text net says (causes.Syntax why) cause = cause
  no_net_cause no_fault not_refused text net says (causes.Check why) cause = cause
  no_net_cause no_fault not_refused text net says (causes.Object why) cause = cause
  no_net_cause no_fault not_refused text net says (causes.Link why) cause = cause
  no_net_cause no_fault not_refused text net says (causes.Pulse why) cause = cause
  no_net_cause no_fault not_refused text net says (causes.Gates why) cause = cause
  no_net_cause no_fault not_refused text net says (causes.Explain why) cause = cause

pub tidy_is_not_rejected : ((text : List ℕ) → IsOneNetlist text) → ((text : List ℕ) → ReadHasNoFault text) → ((net : Netlist) → AcceptedHasNoFault net)
    → TidyIsNotRejected
tidy_is_not_rejected one_netlist no_fault not_refused files net fault line (circuit, says) wrong =
    no_net_cause one_netlist no_fault not_refused (bytes_at files net) circuit says fault.cause wrong.cause

-- a netlist that may be lowered is not too large
never_too_large : (text : List ℕ) (circuit : Netlist) → ((other : Netlist) → SaysNet text other → circuit ≡ other) → bits_in circuit.cells ≤ 2000000
    → (cause : Cause) → IsGatesCause text cause → ⊥
never_too_large text circuit same few (causes.Gates (gates.TooLarge bits)) (many, other, says, is) =
    let e : bits ≡ bits_in circuit.cells = is ∙ ap (λ (net : Netlist). bits_in net.cells) (sym (same other says)) in
    omega (arith, many, few, e)
never_too_large text circuit same few (causes.Gates gates.NoMemory) cause = cause
never_too_large text circuit same few (causes.Lex why) cause = cause
never_too_large text circuit same few (causes.Syntax why) cause = cause
never_too_large text circuit same few (causes.Check why) cause = cause
never_too_large text circuit same few (causes.Object why) cause = cause
never_too_large text circuit same few (causes.Link why) cause = cause
never_too_large text circuit same few (causes.Net why) cause = cause
never_too_large text circuit same few (causes.Refused why) cause = cause
never_too_large text circuit same few (causes.Pulse why) cause = cause
never_too_large text circuit same few (causes.Explain why) cause = cause

pub gates_are_not_rejected : ((text : List ℕ) → IsOneNetlist text) → ((text : List ℕ) → ReadHasNoFault text) → ((net : Netlist) → AcceptedHasNoFault net)
    → GatesAreNotRejected
gates_are_not_rejected one_netlist no_fault not_refused files net fault line (circuit, says, few) (inl wrong) =
    no_net_cause one_netlist no_fault not_refused (bytes_at files net) circuit says fault.cause wrong.cause
gates_are_not_rejected one_netlist no_fault not_refused files net fault line (circuit, says, few) (inr large) =
    never_too_large (bytes_at files net) circuit (λ other said. same_net one_netlist (bytes_at files net) circuit other says said) few fault.cause large.cause
