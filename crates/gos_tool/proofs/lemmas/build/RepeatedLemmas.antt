-- Of the same files `build` makes the same: the build file says one build, each source has one plan, and so on to the trace.
use Rattle.std.proofs.Common.{◌≡◌, ◌∙◌, arith, length, map, ℕ, List, [], ◌∷◌, Option, Some, ap, refl, subst, sym, ◌++◌}
use Rattle.gos_outside.specs.Files.{Files, bytes_at, with_file}
use Rattle.gos_outside.specs.Calls.{StoreCall}
use Rattle.gos_lex.specs.Lines.{Word}
use Rattle.gos_netlist.specs.Nets.{Netlist}
use Rattle.gos_netlist.specs.NetText.{text_of as net_text}
use Rattle.gos_netcheck.specs.Accepted.{IsAccepted}
use Rattle.gos_syntax.specs.Modules.{SeenModule}
use Rattle.gos_plan.specs.ObjectText.{text_of}
use Rattle.gos_plan.specs.Plans.{Plan}
use Rattle.gos_plan.specs.Seen.{SeenPlan, plan_of}
use Rattle.gos_expand.specs.Choices.{LaidByIsOne}
use Rattle.gos_link.specs.Answers.{IsOneBuild, LinkedIsOne}
use Rattle.gos_link.specs.BuildFile.{IsBuildFile, whole}
use Rattle.gos_link.specs.Linked.{plans_of}
use Rattle.gos_link.specs.declared.build.Build.{Build}
use Rattle.gos_link.specs.declared.build.Instance.{Instance}
use Rattle.gos_verilog.specs.OneText.{HasOneText}
use Rattle.gos_command.specs.declared.report.Report.{Report}
use Rattle.gos_command.specs.declared.report.Report.TheVariants as reports
use Rattle.gos_tool.specs.Calls.{build_calls, circuit_calls, module_calls, plans_calls, simulation_calls}
use Rattle.gos_tool.specs.Agreement.{AgreeOn, WriteOneBuild, WriteTheSame, files_of, with_texts}
use Rattle.gos_tool.specs.objects.Checked.{SaysModule}
use Rattle.gos_tool.specs.objects.Repeated.{SaysOnePlan}
use Rattle.gos_tool.specs.simulate.Simulation.{LeavesTrace}
use Rattle.gos_tool.specs.simulate.Repeated.{TraceIsOne}
use Rattle.gos_tool.specs.build.Headline.{SayModules}
use Rattle.gos_tool.specs.build.Objects.{AllWritten, HavePlans, with_objects}
use Rattle.gos_tool.specs.build.Built.{IsBuilt}
use Rattle.gos_tool.specs.build.Repeated.{BuildMakesOne}
use Rattle.gos_tool.proofs.lemmas.AgreeLemmas.{agree_back, agree_front, same_then_same}
use Rattle.gos_tool.proofs.lemmas.circuits.SameBuildLemmas.{instances_same, linked_too, pulses_same, trace_same}
use Rattle.gos_tool.proofs.lemmas.circuits.RepeatedLemmas.{nets_same, written_same}
use Rattle.gos_tool.proofs.lemmas.simulate.RepeatedLemmas.{traced_as}
use Rattle.gos_tool.proofs.lemmas.build.HeadlineLemmas.{say_modules}
use Rattle.gos_tool.proofs.lemmas.build.PulseLemmas.{Stands, pulses_else, stand_both}
use Rattle.gos_tool.proofs.lemmas.build.RoleLemmas.{roles_differ}

-- sources that are the same have one plan each
plans_same : SaysOnePlan → (files others : Files) (is : List Instance) (ms os : List SeenModule) (ps qs : List SeenPlan) → AgreeOn (module_calls is) files others
    → SayModules files is ms → SayModules others is os → HavePlans ms ps → HavePlans os qs → plans_of ps ≡ plans_of qs
plans_same one files others [] [] [] [] [] agree say also have too = refl
plans_same one files others [] [] [] [] (q ∷ qs) agree say also have too = absurd too
plans_same one files others [] [] [] (p ∷ ps) qs agree say also have too = absurd have
plans_same one files others [] [] (o ∷ os) ps qs agree say also have too = absurd also
plans_same one files others [] (m ∷ ms) os ps qs agree say also have too = absurd say
plans_same one files others (i ∷ is) [] os ps qs agree say also have too = absurd say
plans_same one files others (i ∷ is) (m ∷ ms) [] ps qs agree say also have too = absurd also
plans_same one files others (i ∷ is) (m ∷ ms) (o ∷ os) [] qs agree say also have too = absurd have
plans_same one files others (i ∷ is) (m ∷ ms) (o ∷ os) (p ∷ ps) [] agree say also have too = absurd too
plans_same one files others (i ∷ is) (m ∷ ms) (o ∷ os) (p ∷ ps) (q ∷ qs) agree say also have too =
    let here : SaysModule (bytes_at files i.source) o = subst (λ (text : List ℕ). SaysModule text o) (sym agree.0) also.0 in
    let first : plan_of p ≡ plan_of q = one (bytes_at files i.source) m o (plan_of p) (plan_of q) say.0 here have.0 too.0 in
    let rest = plans_same one files others is ms os ps qs agree.1 say.1 also.1 have.1 too.1 in λ j. first j ∷ rest j

-- the objects that are written are those of the plans
abbrev object_texts : List Instance → List Plan → List (Word × List ℕ)
object_texts is [] = []
object_texts [] (p ∷ ps) = []
object_texts (i ∷ is) (p ∷ ps) = (i.object, text_of p) ∷ object_texts is ps

by_texts : (old : Option Files) (is : List Instance) (ps : List SeenPlan) → with_objects old is ps ≡ with_texts (object_texts is (plans_of ps)) old
by_texts old is [] = refl
by_texts old [] (p ∷ ps) = refl
by_texts old (i ∷ is) (p ∷ ps) = by_texts (with_file i.object (text_of (plan_of p)) old) is ps

by_names : (is : List Instance) (ms : List SeenModule) (ps : List SeenPlan) → length ms ≡ length is → HavePlans ms ps
    → map (λ (written : Word × List ℕ). written.0) (object_texts is (plans_of ps)) ≡ files_of (module_calls is)
by_names [] [] [] all have = refl
by_names [] [] (p ∷ ps) all have = absurd have
by_names [] (m ∷ ms) ps all have = absurd (omega (arith, all))
by_names (i ∷ is) [] ps all have = absurd (omega (arith, all))
by_names (i ∷ is) (m ∷ ms) [] all have = absurd have
by_names (i ∷ is) (m ∷ ms) (p ∷ ps) all have =
    ap (λ (names : List Word). i.object ∷ names) (by_names is ms ps (omega (arith, all)) have.1)

-- the pulse file stands as it was where it is read
stands : (files : Files) (new : Option Files) (own : Word) (report : Report) (is : IsBuilt files new own report)
    → Stands is.built.between is.build.pulses (bytes_at files is.build.pulses)
stands files new own report is =
    let wrote = is.built.written.written in
    (stand_both files is.build is.plans is.objects is.built.between (net_text is.built.net) wrote.verilog
    (pulses_else (bytes_at files own) own is.build is.says) (roles_differ (bytes_at files own) own is.build is.says).net_verilog is.compiled.written.wrote
    wrote.wrote).pulses

module _ (one_build : IsOneBuild) (one_plan : SaysOnePlan) (linked_one : LinkedIsOne) (laid : LaidByIsOne) (one_text : (net : Netlist) → IsAccepted net → HasOneText net)
    (trace_one : TraceIsOne) (files others : Files) (own : Word) (new other : Option Files) (report told : Report) (same_own : bytes_at files own ≡ bytes_at others own)
    (one : IsBuilt files new own report) (agree : AgreeOn (module_calls one.build.instances.items ++ plans_calls one.build) files others)
    (two : IsBuilt others other own told)
  where
    same : whole one.build ≡ whole two.build
    same =
        one_build (bytes_at files own) own one.build two.build one.says
        (subst (λ (text : List ℕ). IsBuildFile text own two.build) (sym same_own) two.says)

    instances : one.build.instances.items ≡ two.build.instances.items
    instances = instances_same one.build two.build same

    say : (all : Files) (made : Build) (objects : Option Files) (plans : List SeenPlan) (compiled : AllWritten all objects made.instances.items plans)
        → SayModules all made.instances.items compiled.modules
    say all made objects plans compiled = say_modules all made.instances.items compiled.modules compiled.written.say compiled.all

    plans : plans_of one.plans ≡ plans_of two.plans
    plans =
        plans_same one_plan files others two.build.instances.items one.compiled.modules two.compiled.modules one.plans two.plans
        (subst (λ (is : List Instance). AgreeOn (module_calls is) files others) instances
        (agree_front (module_calls one.build.instances.items) (plans_calls one.build) files others agree))
        (subst (λ (is : List Instance). SayModules files is one.compiled.modules) instances (say files one.build one.objects one.plans one.compiled))
        (say others two.build two.objects two.plans two.compiled) one.compiled.written.plans two.compiled.written.plans

    objects : WriteTheSame (module_calls one.build.instances.items) (Some files) (Some others) one.objects two.objects
    objects =
        record {
          texts = object_texts one.build.instances.items (plans_of one.plans);
          named = by_names one.build.instances.items one.compiled.modules one.plans one.compiled.all one.compiled.written.plans;
          one = one.compiled.written.wrote ∙ by_texts (Some files) one.build.instances.items one.plans;
          two =
              two.compiled.written.wrote
              ∙ (by_texts (Some others) two.build.instances.items two.plans ∙ sym (λ i. with_texts (object_texts (instances i) (plans i)) (Some others)));
        }

    wholes : one.built.written.whole ≡ two.built.written.whole
    wholes =
        linked_one two.build one.plans two.plans one.built.written.whole two.built.written.whole plans
        (linked_too one.build two.build same one.plans one.built.written.whole one.built.written.linked) two.built.written.linked

    nets : one.built.net ≡ two.built.net
    nets =
        nets_same laid one.build two.build same one.built.written.whole two.built.written.whole wholes one.built.net two.built.net
        one.built.written.written.circuit two.built.written.written.circuit

    circuits : WriteTheSame (circuit_calls one.build) one.objects two.objects one.built.between two.built.between
    circuits =
        written_same laid one_text one.objects two.objects one.built.between two.built.between one.build two.build same one.built.written.whole
        two.built.written.whole wholes one.built.net two.built.net one.built.written.written two.built.written.written

    first : Stands one.built.between one.build.pulses (bytes_at files one.build.pulses)
    first = stands files new own report one

    second : Stands two.built.between two.build.pulses (bytes_at others two.build.pulses)
    second = stands others other own told two

    on_pulses : bytes_at first.all two.build.pulses ≡ bytes_at second.all two.build.pulses
    on_pulses =
        ap (bytes_at first.all) (sym (pulses_same one.build two.build same))
        ∙ (first.held
        ∙ ((agree_back (module_calls one.build.instances.items) (plans_calls one.build) files others agree).0
        ∙ (ap (bytes_at others) (pulses_same one.build two.build same) ∙ sym second.held)))

    traces : WriteTheSame (simulation_calls two.build.pulses two.build.trace) (Some first.all) (Some second.all) new other × (one.built.counts ≡ two.built.counts)
    traces =
        trace_one first.all second.all new other two.built.net two.build.pulses two.build.trace one.built.counts two.built.counts
        two.built.written.written.circuit.accepted (on_pulses, tt)
        (traced_as one.built.between (Some first.all) new one.built.net two.built.net one.build.pulses two.build.pulses one.build.trace two.build.trace one.built.counts
        first.is nets (pulses_same one.build two.build same) (trace_same one.build two.build same) one.built.traced)
        (subst (λ (old : Option Files). LeavesTrace old other two.built.net two.build.pulses two.build.trace two.built.counts) second.is two.built.traced)

    traced : WriteTheSame (simulation_calls one.build.pulses one.build.trace) one.built.between two.built.between new other
    traced =
        subst (λ (old : Option Files). WriteTheSame (simulation_calls one.build.pulses one.build.trace) old two.built.between new other) (sym first.is)
        (subst (λ (old : Option Files). WriteTheSame (simulation_calls one.build.pulses one.build.trace) (Some first.all) old new other) (sym second.is)
        (subst (λ (calls : List StoreCall). WriteTheSame calls (Some first.all) (Some second.all) new other)
        (sym (λ i. simulation_calls (pulses_same one.build two.build same i) (trace_same one.build two.build same i))) traces.0))

    weights : one.built.weight ≡ two.built.weight
    weights = one.built.written.weighs ∙ (ap (λ (p : Plan). p.weight) wholes ∙ sym two.built.written.weighs)

    pub build_makes : WriteOneBuild own build_calls files others new other × (report ≡ told)
    build_makes = (
      (
        one.build,
        one.says,
        same_then_same (module_calls one.build.instances.items) (plans_calls one.build) (Some files) (Some others) one.objects two.objects new other objects
            (same_then_same (circuit_calls one.build) (simulation_calls one.build.pulses one.build.trace) one.objects two.objects one.built.between two.built.between
            new other circuits traced),
      ),
      one.built.tells ∙ ((λ i. reports.Build (weights i) (traces.1 i)) ∙ sym two.built.tells),
    )

pub build_makes_one : IsOneBuild → SaysOnePlan → LinkedIsOne → LaidByIsOne → ((net : Netlist) → IsAccepted net → HasOneText net) → TraceIsOne → BuildMakesOne
build_makes_one one_build one_plan linked_one laid one_text trace_one files others own new other report told agree one two =
    build_makes one_build one_plan linked_one laid one_text trace_one files others own new other report told agree.0 one (agree.1 one.build one.says) two
