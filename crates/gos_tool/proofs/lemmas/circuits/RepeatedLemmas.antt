-- Of the same files `link` makes the same: the build file says one build, the object files hold one plan each, and so on to the end.
use Rattle.std.proofs.Common.{◌≡◌, ◌∙◌, ℕ, List, [], ◌∷◌, Option, Some, ap, refl, subst, sym}
use Rattle.gos_outside.specs.Files.{Files, bytes_at}
use Rattle.gos_lex.specs.Lines.{Word}
use Rattle.gos_netlist.specs.Nets.{Netlist}
use Rattle.gos_netlist.specs.NetText.{text_of}
use Rattle.gos_netcheck.specs.Accepted.{IsAccepted}
use Rattle.gos_plan.specs.Plans.{Plan}
use Rattle.gos_plan.specs.Seen.{SeenPlan, plan_of}
use Rattle.gos_plan.specs.ObjectFaults.{IsOnePlan, IsRead}
use Rattle.gos_expand.specs.declared.whole.Policy.TheVariants as policies
use Rattle.gos_expand.specs.Choices.{LaidByIsOne}
use Rattle.gos_link.specs.Answers.{IsOneBuild, LinkedIsOne}
use Rattle.gos_link.specs.BuildFile.{IsBuildFile, Sum, whole}
use Rattle.gos_link.specs.Linked.{plans_of}
use Rattle.gos_link.specs.declared.build.Build.{Build}
use Rattle.gos_link.specs.declared.build.Instance.{Instance}
use Rattle.gos_verilog.specs.OneText.{HasOneText}
use Rattle.gos_verilog.specs.VerilogText.{IsVerilogOf}
use Rattle.gos_command.specs.declared.report.Report.TheVariants as reports
use Rattle.gos_tool.specs.Calls.{circuit_calls, object_calls}
use Rattle.gos_tool.specs.Agreement.{AgreeOn, WriteTheSame, files_of, with_texts}
use Rattle.gos_tool.specs.declared.circuits.layout.Layout.TheVariants.{Few}
use Rattle.gos_tool.specs.circuits.Circuit.{IsCircuitOf}
use Rattle.gos_tool.specs.circuits.Objects.{HoldPlans}
use Rattle.gos_tool.specs.circuits.Plans.{IsWritten}
use Rattle.gos_tool.specs.circuits.Repeated.{CircuitIsOne, LinkMakesOne}
use Rattle.gos_tool.proofs.lemmas.AgreeLemmas.{agree_front, same_then_same}
use Rattle.gos_tool.proofs.lemmas.circuits.SameBuildLemmas.{file_in, instances_same, linked_too, net_same, root_same}

pub circuit_is_one : LaidByIsOne → CircuitIsOne
circuit_is_one laid root p net other one two = laid policies.Few p root net other one.is_laid two.is_laid

-- object files hold one plan each
held_same : ((text : List ℕ) → IsOnePlan text) → (files others : Files) (is : List Instance) (ps qs : List SeenPlan) → AgreeOn (object_calls is) files others
    → HoldPlans files is ps → HoldPlans others is qs → plans_of ps ≡ plans_of qs
held_same one_plan files others [] [] [] agree held other = refl
held_same one_plan files others [] [] (q ∷ qs) agree held other = absurd other
held_same one_plan files others [] (p ∷ ps) qs agree held other = absurd held
held_same one_plan files others (i ∷ is) [] qs agree held other = absurd held
held_same one_plan files others (i ∷ is) (p ∷ ps) [] agree held other = absurd other
held_same one_plan files others (i ∷ is) (p ∷ ps) (q ∷ qs) agree ((one, right), held) (also, other) =
    let here : IsRead (bytes_at files i.object) (plan_of q) = subst (λ (text : List ℕ). IsRead text (plan_of q)) (sym agree.0) also in
    let two = here.0 in
    let first : plan_of p ≡ plan_of q =
    (one_plan (bytes_at files i.object) one.format two.format (plan_of p) (plan_of q) one.writable two.writable one.is two.is).1 in
    let rest = held_same one_plan files others is ps qs agree.1 held other in λ j. first j ∷ rest j

-- a plan has one circuit for builds that say the same
pub nets_same : LaidByIsOne → (b c : Build) → whole b ≡ whole c → (p q : Plan) → p ≡ q → (net also : Netlist) → IsCircuitOf Few b.root p net
    → IsCircuitOf Few c.root q also → net ≡ also
nets_same laid b c same p q plans net also one two =
    circuit_is_one laid c.root q net also
    (subst (λ (root : Word). IsCircuitOf Few root q net) (root_same b c same) (subst (λ (r : Plan). IsCircuitOf Few b.root r net) plans one)) two

-- what is written of one plan for builds that say the same is the same
pub written_same : LaidByIsOne → ((net : Netlist) → IsAccepted net → HasOneText net) → (old mid new other : Option Files) (b c : Build) → whole b ≡ whole c
    → (p q : Plan) → p ≡ q → (net also : Netlist) → IsWritten Few old new b p net → IsWritten Few mid other c q also
    → WriteTheSame (circuit_calls b) old mid new other
written_same laid one_text old mid new other b c same p q plans net also one two =
    record {
      texts = (b.net, text_of net) ∷ ((b.verilog, one.verilog) ∷ []);
      named = refl;
      one = one.wrote;
      two = two.wrote ∙ sym (λ i. with_texts ((net_same b c same i, text_of (nets i)) ∷ ((verilog_file i, text i) ∷ [])) mid);
    }
  where
    verilog_file : b.verilog ≡ c.verilog
    verilog_file = ap (λ (s : Sum). file_in s.verilog) same

    nets : net ≡ also
    nets = nets_same laid b c same p q plans net also one.circuit two.circuit

    text : one.verilog ≡ two.verilog
    text = one_text also two.circuit.accepted one.verilog two.verilog (subst (λ (n : Netlist). IsVerilogOf n one.verilog) nets one.text) two.text

-- where objects are read nothing is written
nothing_written : (is : List Instance) → [] ≡ files_of (object_calls is)
nothing_written [] = refl
nothing_written (i ∷ is) = nothing_written is

pub link_makes_one : IsOneBuild → ((text : List ℕ) → IsOnePlan text) → LinkedIsOne → LaidByIsOne → ((net : Netlist) → IsAccepted net → HasOneText net)
    → LinkMakesOne
link_makes_one one_build one_plan linked_one laid one_text files others own new other report told agree one two = (
  (
    one.build,
    one.says,
    same_then_same (object_calls one.build.instances.items) (circuit_calls one.build) (Some files) (Some others) (Some files) (Some others) new other
        (record { texts = []; named = nothing_written one.build.instances.items; one = refl; two = refl })
        (written_same laid one_text (Some files) (Some others) new other one.build two.build same one.whole two.whole wholes one.net two.net one.written two.written),
  ),
  one.tells ∙ (ap (λ (p : Plan). reports.Weight p.weight) wholes ∙ sym two.tells),
)
  where
    same : whole one.build ≡ whole two.build
    same =
        one_build (bytes_at files own) own one.build two.build one.says
        (subst (λ (text : List ℕ). IsBuildFile text own two.build) (sym agree.0) two.says)

    on_objects : AgreeOn (object_calls two.build.instances.items) files others
    on_objects =
        subst (λ (is : List Instance). AgreeOn (object_calls is) files others) (instances_same one.build two.build same)
        (agree_front (object_calls one.build.instances.items) (circuit_calls one.build) files others (agree.1 one.build one.says))

    plans : plans_of one.linked.plans ≡ plans_of two.linked.plans
    plans =
        held_same one_plan files others two.build.instances.items one.linked.plans two.linked.plans on_objects
        (subst (λ (is : List Instance). HoldPlans files is one.linked.plans) (instances_same one.build two.build same) one.linked.held) two.linked.held

    wholes : one.whole ≡ two.whole
    wholes =
        linked_one two.build one.linked.plans two.linked.plans one.whole two.whole plans
        (linked_too one.build two.build same one.linked.plans one.whole one.linked.linked) two.linked.linked
