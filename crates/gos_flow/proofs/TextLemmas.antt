-- What the bytes that were read tell of the file, and why it is rejected.
use Rattle.std.proofs.Common.{◌≡◌, ◌<◌, ◌∙◌, inl, inr, ap, ℕ, List, length, take, Option, Result, Ok, Err, arith, sym, subst}
use Rattle.std.proofs.lemmas.List.{take_all, length-take}
use Rattle.std.specs.Prelude.{IfErr, IfOk, IfSome}
use Rattle.gos_outside.specs.Files.{Files, bytes_at}
use Rattle.gos_lex.specs.Lines.{Word}
use Rattle.gos_netlist.specs.Nets.{Netlist}
use Rattle.gos_netlist.specs.NetFaults as netlists
use Rattle.gos_netlist.specs.declared.fault.NetTextFault.{NetTextFault}
use Rattle.gos_netlist.specs.declared.fault.NetTextFault.TheVariants as texts
use Rattle.gos_netcheck.specs.Accepted.{IsAccepted}
use Rattle.gos_verilog.specs.Readable as modules
use Rattle.gos_verilog.specs.Place.{HasPlace}
use Rattle.gos_verilog.specs.declared.fault.VFault.{VFault}
use Rattle.gos_flow.specs.Ends.{IfStopped, IsRealCause}
use Rattle.gos_flow.specs.Texts.{SaysVerilog, IsNetCause, IsVerilogCause, IsRefusal}
use Rattle.gos_flow.specs.declared.status.Cause.{Cause}
use Rattle.gos_flow.specs.declared.status.Cause.TheVariants as causes
use Rattle.gos_flow.specs.declared.stop.Stop.{Stop}
use Rattle.gos_flow.specs.declared.stop.Stop.TheVariants as stops
use Rattle.gos_flow.proofs.RunLemmas.{of_some}

-- A fact of a stop.
stopped : (P Q : Cause → Type 0) (stop : Stop) → ((cause : Cause) → P cause → Q cause) → IfStopped stop P → IfStopped stop Q
stopped P Q (stops.Rejected cause) f h = f cause h
stopped P Q stops.StoreFailed f h = tt
stopped P Q stops.NoMemory f h = tt

-- Of a netlist file.

-- bytes that end before the limit are the whole file
pub whole : (limit : ℕ) (file read : List ℕ) → read ≡ take limit file → length read < limit → read ≡ file
whole limit file read e few =
    let len = ap length e ∙ length-take limit file in
    e ∙ take_all limit file (omega (arith, len, few))

-- what is too long in the first bytes is too long in the file
longer : (limit n : ℕ) (file read : List ℕ) → read ≡ take limit file → n < length read → n < length file
longer limit n file read e long =
    let len = ap length e ∙ length-take limit file in
    omega (arith, len, long)

-- a netlist that is read from them is read from the file
pub net_read : (told : Option Files) (net : Word) (read : List ℕ) (circuit : Netlist) → IfSome told (λ files. read ≡ take 268435457 (bytes_at files net))
    → netlists.IsRead read circuit → IfSome told (λ files. netlists.IsRead (bytes_at files net) circuit)
net_read told net read circuit first is =
    of_some (λ files. read ≡ take 268435457 (bytes_at files net)) (λ files. netlists.IsRead (bytes_at files net) circuit) told
    (λ files e. let short = is.short in subst (λ (text : List ℕ). netlists.IsRead text circuit) (whole 268435457 (bytes_at files net) read e (omega (arith, short))) is) first

-- and so is a fault
fault_of_file : (file read : List ℕ) (fault : NetTextFault) → read ≡ take 268435457 file → netlists.HasFault read fault → netlists.HasFault file fault
fault_of_file file read (texts.Form at) e has =
    let short = has.0 in
    subst (λ (text : List ℕ). netlists.HasFault text (texts.Form at)) (whole 268435457 file read e (omega (arith, short))) has
fault_of_file file read (texts.Limit at) e (inl long) = inl (longer 268435457 268435456 file read e long.0, long.1)
fault_of_file file read (texts.Limit at) e (inr above) =
    let short = above.0 in
    subst (λ (text : List ℕ). netlists.HasFault text (texts.Limit at)) (whole 268435457 file read e (omega (arith, short))) (inr above)
fault_of_file file read texts.NoMemory e has = has

net_fault : (told : Option Files) (net : Word) (read : List ℕ) (fault : NetTextFault) → IfSome told (λ files. read ≡ take 268435457 (bytes_at files net))
    → netlists.HasFault read fault → IfSome told (λ files. netlists.HasFault (bytes_at files net) fault)
net_fault told net read fault first has =
    of_some (λ files. read ≡ take 268435457 (bytes_at files net)) (λ files. netlists.HasFault (bytes_at files net) fault) told
    (λ files e. fault_of_file (bytes_at files net) read fault e has) first

pub net_rejected : (told : Option Files) (net : Word) (read : List ℕ) (fault : NetTextFault) (stop : Stop) → IfSome told (λ files. read ≡ take 268435457 (bytes_at files net))
    → netlists.HasFault read fault → IfStopped stop (λ why. (why ≡ causes.Net fault) × IsRealCause (causes.Net fault))
    → IfStopped stop (λ cause. IfSome told (λ files. IsNetCause (bytes_at files net) cause))
net_rejected told net read fault stop first has =
    stopped (λ why. (why ≡ causes.Net fault) × IsRealCause (causes.Net fault)) (λ cause. IfSome told (λ files. IsNetCause (bytes_at files net) cause)) stop
    (λ cause h. subst (λ (why : Cause). IfSome told (λ files. IsNetCause (bytes_at files net) why)) (sym h.0)
    (of_some (λ files. netlists.HasFault (bytes_at files net) fault) (λ files. IsNetCause (bytes_at files net) (causes.Net fault)) told (λ files is. (h.1, is)) (net_fault told net read fault first has)))

-- its netlist was refused
pub net_refused : (told : Option Files) (net : Word) (circuit : Netlist) (ended : Result Netlist Stop) → IfSome told (λ files. netlists.IsRead (bytes_at files net) circuit)
    → IfErr ended (λ stop. IfStopped stop (IsRefusal circuit)) → IfErr ended (λ stop. IfStopped stop (λ cause. IfSome told (λ files. IsNetCause (bytes_at files net) cause)))
net_refused told net circuit (Ok checked) read h = tt
net_refused told net circuit (Err (stops.Rejected (causes.Net fault))) read h = absurd h
net_refused told net circuit (Err (stops.Rejected (causes.Verilog fault))) read h = absurd h
net_refused told net circuit (Err (stops.Rejected (causes.Refused fault))) read h =
    of_some (λ files. netlists.IsRead (bytes_at files net) circuit) (λ files. IsNetCause (bytes_at files net) (causes.Refused fault)) told (λ files here. (circuit, here, h)) read
net_refused told net circuit (Err stops.StoreFailed) read h = tt
net_refused told net circuit (Err stops.NoMemory) read h = tt

-- Of a Verilog file, which is read whole: memory has fewer bytes than were asked for.

verilog_whole : (told : Option Files) (ver : Word) (read : List ℕ) → IfSome told (λ files. read ≡ take 18446744073709551615 (bytes_at files ver))
    → length read < 18446744073709551615 → IfSome told (λ files. read ≡ bytes_at files ver)
verilog_whole told ver read first few =
    of_some (λ files. read ≡ take 18446744073709551615 (bytes_at files ver)) (λ files. read ≡ bytes_at files ver) told
    (λ files e. whole 18446744073709551615 (bytes_at files ver) read e few) first

pub verilog_read : (told : Option Files) (ver : Word) (read : List ℕ) (circuit : Netlist) → IfSome told (λ files. read ≡ take 18446744073709551615 (bytes_at files ver))
    → length read < 18446744073709551615 → modules.IsRead read circuit → IfSome told (λ files. modules.IsRead (bytes_at files ver) circuit)
verilog_read told ver read circuit first few is =
    of_some (λ files. read ≡ bytes_at files ver) (λ files. modules.IsRead (bytes_at files ver) circuit) told
    (λ files e. subst (λ (text : List ℕ). modules.IsRead text circuit) e is) (verilog_whole told ver read first few)

abbrev IsFault : List ℕ → VFault → Type 0
IsFault text fault = modules.IsRefused text fault × HasPlace text fault

pub verilog_rejected : (told : Option Files) (ver : Word) (read : List ℕ) (fault : VFault) (stop : Stop)
    → IfSome told (λ files. read ≡ take 18446744073709551615 (bytes_at files ver)) → length read < 18446744073709551615
    → modules.IsRefused read fault → HasPlace read fault → IfStopped stop (λ why. (why ≡ causes.Verilog fault) × IsRealCause (causes.Verilog fault))
    → IfStopped stop (λ cause. IfSome told (λ files. IsVerilogCause (bytes_at files ver) cause))
verilog_rejected told ver read fault stop first few refused place =
    stopped (λ why. (why ≡ causes.Verilog fault) × IsRealCause (causes.Verilog fault)) (λ cause. IfSome told (λ files. IsVerilogCause (bytes_at files ver) cause)) stop
    (λ cause h. subst (λ (why : Cause). IfSome told (λ files. IsVerilogCause (bytes_at files ver) why)) (sym h.0)
    (of_some (λ files. read ≡ bytes_at files ver) (λ files. IsVerilogCause (bytes_at files ver) (causes.Verilog fault)) told
    (λ files e. let both : IsFault (bytes_at files ver) fault = subst (λ (text : List ℕ). IsFault text fault) e (refused, place) in (h.1, both.0, both.1))
    (verilog_whole told ver read first few)))

pub verilog_refused : (told : Option Files) (ver : Word) (circuit : Netlist) (ended : Result Netlist Stop) → IfSome told (λ files. modules.IsRead (bytes_at files ver) circuit)
    → IfErr ended (λ stop. IfStopped stop (IsRefusal circuit)) → IfErr ended (λ stop. IfStopped stop (λ cause. IfSome told (λ files. IsVerilogCause (bytes_at files ver) cause)))
verilog_refused told ver circuit (Ok checked) read h = tt
verilog_refused told ver circuit (Err (stops.Rejected (causes.Net fault))) read h = absurd h
verilog_refused told ver circuit (Err (stops.Rejected (causes.Verilog fault))) read h = absurd h
verilog_refused told ver circuit (Err (stops.Rejected (causes.Refused fault))) read h =
    of_some (λ files. modules.IsRead (bytes_at files ver) circuit) (λ files. IsVerilogCause (bytes_at files ver) (causes.Refused fault)) told (λ files here. (circuit, here, h)) read
verilog_refused told ver circuit (Err stops.StoreFailed) read h = tt
verilog_refused told ver circuit (Err stops.NoMemory) read h = tt

pub verilog_said : (told : Option Files) (ver : Word) (circuit : Netlist) (ended : Result Netlist Stop) → IfSome told (λ files. modules.IsRead (bytes_at files ver) circuit)
    → IfOk ended (λ checked. checked ≡ circuit) → IfOk ended IsAccepted → IfOk ended (λ checked. IfSome told (λ files. SaysVerilog (bytes_at files ver) checked))
verilog_said told ver circuit (Ok checked) read same accepted =
    of_some (λ files. modules.IsRead (bytes_at files ver) circuit) (λ files. SaysVerilog (bytes_at files ver) checked) told
    (λ files here. record { read = subst (λ (net : Netlist). modules.IsRead (bytes_at files ver) net) (sym same) here; accepted = accepted }) read
verilog_said told ver circuit (Err stop) read same accepted = tt
