-- The calls of commands, by the kinds of calls: none is blamed that neither reads nor writes, and `verify` writes none.
use Rattle.std.proofs.Common.{◌≡◌, inl, inr, refl, List, [], ◌∷◌, Option}
use Rattle.gos_outside.specs.Files.{Files}
use Rattle.gos_outside.specs.Faults.{LastFault, NoFault, ReadFault, WriteFault}
use Rattle.gos_lex.specs.Lines.{Word}
use Rattle.gos_netlist.specs.Nets.{Netlist}
use Rattle.gos_plan.specs.Plans.{Plan}
use Rattle.gos_plan.specs.Seen.{SeenPlan}
use Rattle.gos_link.specs.declared.build.Build.{Build}
use Rattle.gos_link.specs.declared.build.Instance.{Instance}
use Rattle.gos_tool.specs.declared.circuits.layout.Layout.{Layout}
use Rattle.gos_tool.specs.declared.circuits.layout.Layout.TheVariants.{Few}
use Rattle.gos_tool.specs.circuits.Objects.{IsObjectCall}
use Rattle.gos_tool.specs.circuits.Plans.{IsWriteCall, IsPlansCall}
use Rattle.gos_tool.specs.simulate.Simulation.{IsSimulationCall}
use Rattle.gos_tool.specs.build.Objects.{IsInstanceCall}
use Rattle.gos_tool.specs.build.Built.{IsBuildCall}
use Rattle.gos_tool.specs.explained.Sources.{IsSourceCall}
use Rattle.gos_tool.specs.explained.Verified.{IsVerifyCall}
use Rattle.gos_tool.specs.Command as commands
use Rattle.gos_tool.specs.SmallCalls.{BuildFileMayFail, NoFaultIsNoCall, VerifyWritesNothing}

-- what reads no file
abbrev ReadsNone : LastFault → Type 0
ReadsNone fault = (name : Word) → fault ≡ ReadFault name → ⊥

source_read : (old : Option Files) (is : List Instance) (fault : LastFault) → ReadsNone fault → IsSourceCall old is fault → ⊥
source_read old [] fault none call = call
source_read old (i ∷ is) fault none (inl e) = none i.source e
source_read old (i ∷ is) fault none (inr (m, says, call)) = source_read old is fault none call

object_read : (old : Option Files) (is : List Instance) (fault : LastFault) → ReadsNone fault → IsObjectCall old is fault → ⊥
object_read old [] fault none call = call
object_read old (i ∷ is) fault none (inl e) = none i.object e
object_read old (i ∷ is) fault none (inr (p, holds, call)) = object_read old is fault none call

verify_reads : (old : Option Files) (own moves : Word) (fault : LastFault) → ReadsNone fault → IsVerifyCall old own moves fault → ⊥
verify_reads old own moves fault none (inl e) = none own e
verify_reads old own moves fault none (inr (b, reads, inl call)) = source_read old b.instances.items fault none call
verify_reads old own moves fault none (inr (b, reads, inr (linked, inl e))) = none b.trace e
verify_reads old own moves fault none (inr (b, reads, inr (linked, inr (says, e)))) = none moves e

pub build_file_may_fail : BuildFileMayFail
build_file_may_fail own moves = (inl (refl, refl), inl (refl, refl), (refl, inl refl))

pub verify_writes_nothing : VerifyWritesNothing
verify_writes_nothing own moves name old new (kept, call) = verify_reads old own moves (WriteFault name) (λ n e. cc e) call

-- no call
no_read : ReadsNone NoFault
no_read name e = cc e

not_written : (name : Word) → NoFault ≡ WriteFault name → ⊥
not_written name e = cc e

no_write : (layout : Layout) (old new : Option Files) (b : Build) (whole : Plan) → IsWriteCall layout old new b whole NoFault → ⊥
no_write layout old new b whole (inl (e, same)) = not_written b.net e
no_write layout old new b whole (inr (net, is, e, same)) = not_written b.verilog e

no_plans : (layout : Layout) (old new : Option Files) (b : Build) (plans : List SeenPlan) → IsPlansCall layout old new b plans NoFault → ⊥
no_plans layout old new b plans (whole, linked, call) = no_write layout old new b whole call

no_simulation : (old new : Option Files) (net : Netlist) (pulses trace : Word) → IsSimulationCall old new net pulses trace NoFault → ⊥
no_simulation old new net pulses trace (inl (e, kept)) = no_read pulses e
no_simulation old new net pulses trace (inr (e, same, runs)) = not_written trace e

no_instance : (old new : Option Files) (i : Instance) (Accepted : Type 0) → IsInstanceCall old new i Accepted NoFault → ⊥
no_instance old new i Accepted (inl (e, kept)) = no_read i.source e
no_instance old new i Accepted (inr (e, same, says)) = not_written i.object e

no_build : (old new : Option Files) (own : Word) → IsBuildCall old new own NoFault → ⊥
no_build old new own (inl (e, kept)) = no_read own e
no_build old new own (inr (b, reads, inl one)) = no_instance one.between new one.instance _ one.call
no_build old new own (inr (b, reads, inr (plans, objects, written, inl call))) = no_plans Few objects new b plans call
no_build old new own (inr (b, reads, inr (plans, objects, written, inr (net, weight, between, done, call)))) =
    no_simulation between new net b.pulses b.trace call

pub no_fault_is_no_call : NoFaultIsNoCall
no_fault_is_no_call (commands.Check source) old new (e, kept) = no_read source e
no_fault_is_no_call (commands.Compile source object) old new (inl (e, kept)) = no_read source e
no_fault_is_no_call (commands.Compile source object) old new (inr (e, same, says)) = not_written object e
no_fault_is_no_call (commands.Link own) old new (inl (e, kept)) = no_read own e
no_fault_is_no_call (commands.Link own) old new (inr (b, reads, inl (call, kept))) = object_read old b.instances.items NoFault no_read call
no_fault_is_no_call (commands.Link own) old new (inr (b, reads, inr (whole, linked, call))) = no_write Few old new b whole call
no_fault_is_no_call (commands.Sim net pulses trace) old new (inl (e, kept)) = no_read net e
no_fault_is_no_call (commands.Sim net pulses trace) old new (inr (circuit, says, call)) = no_simulation old new circuit pulses trace call
no_fault_is_no_call (commands.Build own) old new call = no_build old new own call
no_fault_is_no_call (commands.Demo levels) old new (inl writing) = not_written writing.file.name writing.blamed
no_fault_is_no_call (commands.Demo levels) old new (inr call) = no_build _ new _ call
no_fault_is_no_call (commands.Tidy net out) old new (inl (e, kept)) = no_read net e
no_fault_is_no_call (commands.Tidy net out) old new (inr (e, same, says)) = not_written out e
no_fault_is_no_call (commands.Gates net out) old new (inl (e, kept)) = no_read net e
no_fault_is_no_call (commands.Gates net out) old new (inr (e, same, says)) = not_written out e
no_fault_is_no_call (commands.Explain own moves) old new (inl (e, kept)) = no_read own e
no_fault_is_no_call (commands.Explain own moves) old new (inr (b, reads, inl (call, kept))) = source_read old b.instances.items NoFault no_read call
no_fault_is_no_call (commands.Explain own moves) old new (inr (b, reads, inr (free, linked, inl (e, kept)))) = no_read b.trace e
no_fault_is_no_call (commands.Explain own moves) old new (inr (b, reads, inr (free, linked, inr (e, same, found)))) = not_written moves e
no_fault_is_no_call (commands.Verify own moves) old new (kept, call) = verify_reads old own moves NoFault no_read call
