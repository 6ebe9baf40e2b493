-- Why a netlist file is rejected.
use Rattle.std.proofs.Common.{◌≡◌, inr, refl, ℕ, List, Option, None, ap, sym, subst}
use Rattle.std.specs.Prelude.{IfSome}
use Rattle.gos_outside.specs.Files.{Files, SameBut, bytes_at}
use Rattle.gos_outside.specs.Faults.{LastFault, WriteFault}
use Rattle.gos_lex.specs.Lines.{Word}
use Rattle.gos_netlist.specs.Nets.{Netlist}
use Rattle.gos_netlist.specs.NetFaults.{IsRead}
use Rattle.gos_netcheck.specs.Accepted.{HasFault}
use Rattle.gos_netcheck.specs.declared.fault.NetFault.{NetFault}
use Rattle.gos_gates.specs.Lowered.{IsGateFault}
use Rattle.gos_gates.specs.declared.fault.GateFault.{GateFault}
use Rattle.gos_gates.specs.declared.fault.GateFault.TheVariants as gates
use Rattle.gos_command.specs.Ends.{IsRealCause}
use Rattle.gos_command.specs.Lines.{fault_line}
use Rattle.gos_command.specs.declared.status.Cause.{Cause}
use Rattle.gos_command.specs.declared.status.Cause.TheVariants.{Refused, Gates}
use Rattle.gos_command.specs.declared.status.Fault.{Fault}
use Rattle.gos_command.proofs.EndLemmas.{of_some}
use Rattle.gos_tool.specs.netlists.Netlist.{SaysNet, IsNetCause, IsNetFault}
use Rattle.gos_tool.specs.netlists.Tidy.{IsTidyCall}
use Rattle.gos_tool.specs.netlists.Gates.{IsGatesCause, IsGatesFault}

-- a netlist that is not accepted
pub refused : (told : Option Files) (net : Word) (circuit : Netlist) (why : NetFault) (fault : Fault) (line : List ℕ)
    → IfSome told (λ files. IsRead (bytes_at files net) circuit) → HasFault circuit why → IsRealCause (Refused why)
    → fault ≡ record { file = net; cause = Refused why } → line ≡ fault_line None fault
    → IfSome told (λ files. IsNetFault files net fault line)
refused told net circuit why fault line read has real is says =
    of_some (λ files. IsRead (bytes_at files net) circuit) (λ files. IsNetFault files net fault line) told
    (λ files here. record {
      file = ap (λ (f : Fault). f.file) is;
      cause = subst (λ (c : Cause). IsNetCause (bytes_at files net) c) (sym (ap (λ (f : Fault). f.cause) is)) (real, circuit, here, has);
      says = says;
    })
    read

-- a netlist that has too many bits
pub too_large : (told : Option Files) (net : Word) (circuit : Netlist) (why : GateFault) (fault : Fault) (line : List ℕ)
    → IfSome told (λ files. SaysNet (bytes_at files net) circuit) → IsGateFault circuit.cells why → IsRealCause (Gates why)
    → fault ≡ record { file = net; cause = Gates why } → line ≡ fault_line None fault
    → IfSome told (λ files. IsGatesFault files net fault line)
too_large told net circuit gates.NoMemory fault line says large real is said = absurd (real refl)
too_large told net circuit (gates.TooLarge bits) fault line says large real is said =
    of_some (λ files. SaysNet (bytes_at files net) circuit) (λ files. IsGatesFault files net fault line) told
    (λ files here. inr (record {
      file = ap (λ (f : Fault). f.file) is;
      cause = subst (λ (c : Cause). IsGatesCause (bytes_at files net) c) (sym (ap (λ (f : Fault). f.cause) is)) (large.0, circuit, here, large.1);
      says = said;
    }))
    says

-- the result of a tidy netlist could not be written
pub tidy_call : (old mid new : Option Files) (net out : Word) (fault : LastFault) (circuit : Netlist)
    → IfSome old (λ files. SaysNet (bytes_at files net) circuit) → mid ≡ old → SameBut out mid new → fault ≡ WriteFault out → IsTidyCall old new net out fault
tidy_call old mid new net out fault circuit says same others is =
    inr (
      is,
      subst (λ (told : Option Files). SameBut out told new) same others,
      of_some (λ files. SaysNet (bytes_at files net) circuit) (λ files. (given : Netlist) × SaysNet (bytes_at files net) given) old (λ files here. (circuit, here)) says,
    )
