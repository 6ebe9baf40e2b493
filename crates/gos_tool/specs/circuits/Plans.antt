-- Plans are linked, and the circuit of the whole is written.
--
-- Read first: Linked of gos_link; Circuit; NetText of gos_netlist; VerilogText of gos_verilog. `old` and `new` are the files of
-- the store before and after, `layout` the way in which plans are laid out. The plans are those of the build's instances, however
-- they came.
use Rattle.std.specs.Prelude.{◌≡◌, ◌≢◌, ◌⊎◌, ℕ, List, Option}
use Rattle.gos_outside.specs.Files.{Files, with_file, SameBut}
use Rattle.gos_outside.specs.Faults.{LastFault, WriteFault}
use Rattle.gos_netlist.specs.Nets.{Netlist}
use Rattle.gos_netlist.specs.NetText.{text_of}
use Rattle.gos_plan.specs.Plans.{Plan}
use Rattle.gos_plan.specs.Seen.{SeenPlan}
use Rattle.gos_link.specs.Linked.{IsLinked, IsUnlinked}
use Rattle.gos_link.specs.declared.build.Build.{Build}
use Rattle.gos_link.specs.declared.fault.LinkFault.TheVariants as faults
use Rattle.gos_verilog.specs.VerilogText.{IsVerilogOf}
use Rattle.gos_command.specs.declared.status.Cause.{Cause}
use Rattle.gos_command.specs.declared.status.Cause.TheVariants as causes
use Rattle.gos_tool.specs.declared.circuits.layout.Layout.{Layout}
use Rattle.gos_tool.specs.circuits.Circuit.{IsCircuitOf}

-- the files with the netlist written
abbrev pub with_net : Option Files → Build → Netlist → Option Files
with_net old b net = with_file b.net (text_of net) old

-- the netlist of a circuit of the plan was written, and then the Verilog text of this very netlist
pub record IsWritten (layout : Layout) (old new : Option Files) (b : Build) (whole : Plan) (net : Netlist) : Type 0 where
  pub verilog : List ℕ
  pub circuit : IsCircuitOf layout b.root whole net
  pub text : IsVerilogOf net verilog
  pub wrote : new ≡ with_file b.verilog verilog (with_net old b net)

-- these plans are linked, and a circuit of the whole was written, which weighs so much
pub record IsPlansDone (layout : Layout) (old new : Option Files) (b : Build) (plans : List SeenPlan) (weight : ℕ) (net : Netlist) : Type 0 where
  pub whole : Plan
  pub linked : IsLinked b plans whole
  pub written : IsWritten layout old new b whole net
  pub weighs : weight ≡ whole.weight

-- the first reason for which plans can't be linked
abbrev pub IsPlansCause : Build → List SeenPlan → Cause → Type 0
IsPlansCause b plans (causes.Link fault) = (fault ≢ faults.NoMemory) × IsUnlinked b plans fault
IsPlansCause b plans cause = ⊥

-- The calls of the store, each where what is judged before it is right, with what was written before it: those that write the
-- circuit, then those from the linking on. A file whose write fails may hold anything.
abbrev pub IsWriteCall : Layout → Option Files → Option Files → Build → Plan → LastFault → Type 0
IsWriteCall layout old new b whole fault =
    ((fault ≡ WriteFault b.net) × SameBut b.net old new)
    ⊎ ((net : Netlist) × IsCircuitOf layout b.root whole net × (fault ≡ WriteFault b.verilog) × SameBut b.verilog (with_net old b net) new)

abbrev pub IsPlansCall : Layout → Option Files → Option Files → Build → List SeenPlan → LastFault → Type 0
IsPlansCall layout old new b plans fault = (whole : Plan) × IsLinked b plans whole × IsWriteCall layout old new b whole fault

-- what is left where memory runs out: the files before, or these with the netlist of a circuit of the plan written
abbrev pub IsWriteCutShort : Layout → Option Files → Option Files → Build → Plan → Type 0
IsWriteCutShort layout old new b whole = (new ≡ old) ⊎ ((net : Netlist) × IsCircuitOf layout b.root whole net × (new ≡ with_net old b net))

abbrev pub IsPlansCutShort : Layout → Option Files → Option Files → Build → List SeenPlan → Type 0
IsPlansCutShort layout old new b plans = (new ≡ old) ⊎ ((whole : Plan) × IsLinked b plans whole × IsWriteCutShort layout old new b whole)
