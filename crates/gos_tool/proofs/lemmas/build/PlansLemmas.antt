-- From linking and simulation to what `build` leaves once its plans are there.
use Rattle.std.proofs.Common.{◌≡◌, inr, ℕ, List, [], ◌∷◌, Option, sym, subst}
use Rattle.std.specs.Prelude.{IfSome}
use Rattle.gos_outside.specs.Files.{Files, SameBut}
use Rattle.gos_outside.specs.OtherFiles.{OthersSame}
use Rattle.gos_outside.specs.Faults.{LastFault}
use Rattle.gos_outside.proofs.OtherFilesLemmas.{one_more, more_names}
use Rattle.gos_lex.specs.Lines.{Word}
use Rattle.gos_netlist.specs.Nets.{Netlist}
use Rattle.gos_plan.specs.Seen.{SeenPlan}
use Rattle.gos_link.specs.declared.build.Build.{Build}
use Rattle.gos_command.specs.declared.report.Counts.{Counts}
use Rattle.gos_command.specs.declared.report.Report.{Report}
use Rattle.gos_command.specs.declared.report.Report.TheVariants as reports
use Rattle.gos_command.specs.declared.status.Fault.{Fault}
use Rattle.gos_tool.specs.declared.circuits.layout.Layout.{Layout}
use Rattle.gos_tool.specs.circuits.Plans.{IsPlansDone}
use Rattle.gos_tool.specs.simulate.Simulation.{LeavesTrace, IsPulseFault, IsSimulationCall}
use Rattle.gos_tool.specs.build.Built.{IsPlansBuilt, RejectsPlans, IsPlansBuildCall, IsPlansBuildCutShort}

-- the files that are named by these words are those that the build names
pub plans_built : {layout : Layout} (old mid new : Option Files) (b : Build) (plans : List SeenPlan) (weight : ℕ) (net : Netlist) (pulses trace : Word) (counts : Counts) (report : Report)
    → pulses ≡ b.pulses → trace ≡ b.trace → IsPlansDone layout old mid b plans weight net → LeavesTrace mid new net pulses trace counts
    → report ≡ reports.Build weight counts → IsPlansBuilt layout old new b plans report
plans_built old mid new b plans weight net pulses trace counts report same_pulses same_trace done traced tells =
    record {
      net = net;
      weight = weight;
      between = mid;
      counts = counts;
      written = done;
      traced = subst (λ (n : Word). LeavesTrace mid new net b.pulses n counts) same_trace
          (subst (λ (n : Word). LeavesTrace mid new net n trace counts) same_pulses traced);
      tells = tells;
    }

pub rejects_pulses : {layout : Layout} (old mid new : Option Files) (own : Word) (b : Build) (plans : List SeenPlan) (weight : ℕ) (net : Netlist) (pulses : Word) (fault : Fault) (line : List ℕ)
    → pulses ≡ b.pulses → IsPlansDone layout old mid b plans weight net → new ≡ mid → IfSome mid (λ files. IsPulseFault files net pulses fault line)
    → RejectsPlans layout old new own b plans fault line
rejects_pulses {layout} old mid new own b plans weight net pulses fault line same done kept why =
    inr (record {
      net = net;
      weight = weight;
      written = subst (λ (told : Option Files). IsPlansDone layout old told b plans weight net) (sym kept) done;
      why = subst (λ (told : Option Files). IfSome told (λ files. IsPulseFault files net b.pulses fault line)) (sym kept)
          (subst (λ (n : Word). IfSome mid (λ files. IsPulseFault files net n fault line)) same why);
    })

pub simulation_call : {layout : Layout} (old mid new : Option Files) (b : Build) (plans : List SeenPlan) (weight : ℕ) (net : Netlist) (pulses trace : Word) (fault : LastFault)
    → pulses ≡ b.pulses → trace ≡ b.trace → IsPlansDone layout old mid b plans weight net → IsSimulationCall mid new net pulses trace fault
    → IsPlansBuildCall layout old new b plans fault
simulation_call old mid new b plans weight net pulses trace fault same_pulses same_trace done call =
    inr (
      net,
      weight,
      mid,
      done,
      subst (λ (n : Word). IsSimulationCall mid new net b.pulses n fault) same_trace
          (subst (λ (n : Word). IsSimulationCall mid new net n trace fault) same_pulses call),
    )

pub has_circuit : {layout : Layout} (old mid new : Option Files) (b : Build) (plans : List SeenPlan) (weight : ℕ) (net : Netlist)
    → IsPlansDone layout old mid b plans weight net → new ≡ mid → IsPlansBuildCutShort layout old new b plans
has_circuit {layout} old mid new b plans weight net done kept =
    inr (net, weight, subst (λ (told : Option Files). IsPlansDone layout old told b plans weight net) (sym kept) done)

-- what is left as it was: all but the netlist and the Verilog text, and then all but the trace too
pub no_trace : (net verilog trace : Word) (old mid : Option Files) → OthersSame (net ∷ verilog ∷ []) old mid → OthersSame (net ∷ verilog ∷ trace ∷ []) old mid
no_trace net verilog trace old mid same =
    more_names (net ∷ verilog ∷ []) (net ∷ verilog ∷ trace ∷ []) old mid (λ other apart. (apart.0, (apart.1.0, tt))) same

pub with_trace : (net verilog trace written : Word) (old mid new : Option Files) → written ≡ trace → OthersSame (net ∷ verilog ∷ []) old mid → SameBut written mid new
    → OthersSame (net ∷ verilog ∷ trace ∷ []) old new
with_trace net verilog trace written old mid new is before after =
    one_more trace (net ∷ verilog ∷ trace ∷ []) old mid new (λ other apart. apart.1.1.0) (no_trace net verilog trace old mid before)
    (subst (λ (n : Word). SameBut n mid new) is after)
