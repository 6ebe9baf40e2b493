-- Files that are right for `build` have no fault: the build file has one answer, each source says one program, and the pulse file is as it was
-- when the command began.
use Rattle.std.proofs.Common.{◌≡◌, ◌∙◌, inl, inr, ℕ, zero, suc, List, [], ◌∷◌, Option, Some, length, slice_get, ap, sym, subst}
use Rattle.std.specs.Prelude.{IfSome}
use Rattle.gos_outside.specs.Files.{Files, bytes_at}
use Rattle.gos_lex.specs.Lines.{Word}
use Rattle.gos_netlist.specs.NetText.{text_of}
use Rattle.gos_syntax.specs.Modules.{SeenModule}
use Rattle.gos_plan.specs.Seen.{SeenPlan, plan_of}
use Rattle.gos_link.specs.Answers.{IsOneBuild, BuildHasNoWrongLine}
use Rattle.gos_link.specs.BuildFile.{whole}
use Rattle.gos_link.specs.declared.build.Build.{Build}
use Rattle.gos_link.specs.declared.build.Instance.{Instance}
use Rattle.gos_command.specs.declared.status.Fault.{Fault}
use Rattle.gos_tool.specs.objects.Checked.{SaysModule}
use Rattle.gos_tool.specs.objects.Complete.{AcceptedIsNotRejected, SaysOneProgram, SaysOneTerm}
use Rattle.gos_tool.proofs.lemmas.objects.CompiledLemmas.{plan_too}
use Rattle.gos_tool.specs.declared.circuits.layout.Layout.{Layout}
use Rattle.gos_tool.specs.circuits.Circuit.{IsCircuitOf}
use Rattle.gos_tool.specs.circuits.Linked.{SaysBuild}
use Rattle.gos_tool.specs.circuits.Complete.{EmptyIsNoBuild}
use Rattle.gos_tool.proofs.lemmas.circuits.SameBuildLemmas.{instances_same, net_same, root_same, pulses_same, linked_too, unlinked_too}
use Rattle.gos_tool.proofs.lemmas.circuits.CompleteLemmas.{no_form_cause, no_plans_cause}
use Rattle.gos_tool.specs.simulate.Simulation.{IsPulseFault}
use Rattle.gos_tool.specs.simulate.Complete.{MayRunUnder, PulsesAreNotRejected}
use Rattle.gos_tool.specs.build.Objects.{AllWritten, HavePlans}
use Rattle.gos_tool.specs.build.Headline.{SayModules}
use Rattle.gos_tool.specs.build.Built.{RejectsInstances, RejectsPulses}
use Rattle.gos_tool.specs.build.Complete.{AreRightToBuildAs, BuildIsNotRejected, EmptyIsNotRight, HoldsNet, IsNetFor}
use Rattle.gos_tool.proofs.lemmas.build.HeadlineLemmas.{say_modules}
use Rattle.gos_tool.proofs.lemmas.build.ObjectLemmas.{none_at, first_at}
use Rattle.gos_tool.proofs.lemmas.build.PulseLemmas.{pulses_else, stand_both}
use Rattle.gos_tool.proofs.lemmas.build.RoleLemmas.{roles_differ}

-- the source of an instance says a module where those of all do
says_at : (files : Files) (is : List Instance) (ms : List SeenModule) (k : ℕ) (i : Instance) → SayModules files is ms → slice_get is k ≡ Some i
    → (m : SeenModule) × SaysModule (bytes_at files i.source) m
says_at files [] ms k i say at = absurd (none_at k i at)
says_at files (j ∷ is) [] k i say at = absurd say
says_at files (j ∷ is) (m ∷ ms) zero i say at = (m, subst (λ (x : Instance). SaysModule (bytes_at files x.source) m) (first_at j is i at) say.0)
says_at files (j ∷ is) (m ∷ ms) (suc k) i say at = says_at files is ms k i say.1 at

-- plans of modules that the sources say are plans of all that they say
plans_too : SaysOneProgram → SaysOneTerm → (files : Files) (is : List Instance) (ms others : List SeenModule) (ps : List SeenPlan) → SayModules files is ms
    → SayModules files is others → HavePlans others ps → HavePlans ms ps
plans_too one term files [] [] [] [] say also have = tt
plans_too one term files [] [] [] (p ∷ ps) say also have = have
plans_too one term files [] [] (o ∷ os) ps say also have = absurd also
plans_too one term files [] (m ∷ ms) others ps say also have = absurd say
plans_too one term files (i ∷ is) [] others ps say also have = absurd say
plans_too one term files (i ∷ is) (m ∷ ms) [] ps say also have = absurd also
plans_too one term files (i ∷ is) (m ∷ ms) (o ∷ os) [] say also have = absurd have
plans_too one term files (i ∷ is) (m ∷ ms) (o ∷ os) (p ∷ ps) say also have =
    let same = one (bytes_at files i.source) o m also.0 say.0 in
    (plan_too o m (plan_of p) same.0 same.1 (term (bytes_at files i.source) o m also.0 say.0) have.0, plans_too one term files is ms os ps say.1 also.1 have.1)

module _ (one_program : SaysOneProgram) (one_term : SaysOneTerm) (layout : Layout) (files : Files) (new : Option Files) (own : Word) (right : AreRightToBuildAs layout files new own) (b : Build) (says : SaysBuild files own b)
    (same : whole b ≡ whole right.build) (plans : List SeenPlan) (objects : Option Files) (written : AllWritten files objects b.instances.items plans) where
  plans_made : HavePlans right.modules plans
  plans_made =
      plans_too one_program one_term files right.build.instances.items right.modules written.modules plans right.sources
      (subst (λ (is : List Instance). SayModules files is written.modules) (instances_same b right.build same)
      (say_modules files b.instances.items written.modules written.written.say written.all))
      written.written.plans

  pulses_right : PulsesAreNotRejected → (fault : Fault) (line : List ℕ) → RejectsPulses layout objects new b plans fault line → ⊥
  pulses_right not_rejected fault line wrong =
      let done = wrong.written in
      let both = stand_both files b plans objects new (text_of wrong.net) done.written.verilog (pulses_else (bytes_at files own) own b says)
      (roles_differ (bytes_at files own) own b says).net_verilog written.written.wrote done.written.wrote in
      let stands = both.pulses in
      let net : IsNetFor layout right.build right.modules wrong.net =
      record {
        plans = plans;
        whole = done.whole;
        compiled = plans_made;
        linked = linked_too b right.build same plans done.whole done.linked;
        circuit = subst (λ (root : Word). IsCircuitOf layout root done.whole wrong.net) (root_same b right.build same) done.written.circuit;
      } in
      let held : HoldsNet new right.build wrong.net =
      subst (λ (file : Word). IfSome new (λ all. bytes_at all file ≡ text_of wrong.net)) (net_same b right.build same)
      (subst (λ (told : Option Files). IfSome told (λ all. bytes_at all b.net ≡ text_of wrong.net)) (sym both.netlist.is) both.netlist.held) in
      let text : bytes_at files right.build.pulses ≡ bytes_at stands.all b.pulses = ap (bytes_at files) (sym (pulses_same b right.build same)) ∙ sym stands.held in
      not_rejected stands.all wrong.net b.pulses fault line done.written.circuit.accepted
      (subst (MayRunUnder wrong.net) text (right.runs wrong.net net held))
      (subst (λ (told : Option Files). IfSome told (λ all. IsPulseFault all wrong.net b.pulses fault line)) stands.is wrong.why)

pub build_is_not_rejected : IsOneBuild → BuildHasNoWrongLine → AcceptedIsNotRejected → SaysOneProgram → SaysOneTerm → PulsesAreNotRejected
    → BuildIsNotRejected
build_is_not_rejected one_build not_wrong accepted one_program one_term not_rejected layout files new own fault line right (inl (wrong, kept)) =
    no_form_cause not_wrong (bytes_at files own) own right.build right.says fault.cause wrong.cause
build_is_not_rejected one_build not_wrong accepted one_program one_term not_rejected layout files new own fault line right (inr (b, says, wrong)) =
    by (one_build (bytes_at files own) own b right.build says right.says) wrong
  where
    by : whole b ≡ whole right.build → RejectsInstances layout files new own b fault line → ⊥
    by same (inl source) =
        let there = says_at files right.build.instances.items right.modules (length source.before.plans) source.instance right.sources
        (subst (λ (is : List Instance). slice_get is (length source.before.plans) ≡ Some source.instance) (instances_same b right.build same) source.at) in
        accepted files source.instance.source there.0 fault line there.1 source.why
    by same (inr (plans, objects, written, inl (unlinked, kept))) =
        no_plans_cause b plans
        (λ why here. right.links plans why (plans_made one_program one_term layout files new own right b says same plans objects written)
        (unlinked_too b right.build same plans why here))
        fault.cause unlinked.cause
    by same (inr (plans, objects, written, inr pulses)) =
        pulses_right one_program one_term layout files new own right b says same plans objects written not_rejected fault line pulses

pub empty_is_not_right : EmptyIsNoBuild → EmptyIsNotRight
empty_is_not_right no_build layout files new own e right = no_build files own right.build e right.says
