-- What is verified of a build's trace is its run.
use Rattle.std.specs.Prelude.{◌≡◌, ◌∷◌, [], ℕ, List, Some, map, slice_get}
use Rattle.std.proofs.Common.{sym, ◌∙◌, ap, subst}
use Rattle.gos_outside.specs.Files.{Files, bytes_at}
use Rattle.gos_lex.specs.Lines.{Word}
use Rattle.gos_syntax.specs.Modules.{SeenModule}
use Rattle.gos_model.specs.Sources.{program_of}
use Rattle.gos_link.specs.Answers.{IsOneBuild}
use Rattle.gos_link.specs.Linked.{SeenLinks}
use Rattle.gos_witness.specs.declared.labels.Label.{Label}
use Rattle.gos_witness.specs.declared.program.ProgramPort.{ProgramPort}
use Rattle.gos_witness.specs.Ports.{imported, labels_of}
use Rattle.gos_witness.specs.Substituted.{outcome_if}
use Rattle.gos_witness.specs.TextFaults.{IsOneTrace}
use Rattle.gos_witness.specs.TraceText.{IsTraceTextOf}
use Rattle.gos_command.specs.declared.report.Report.{Report}
use Rattle.gos_tool.specs.Calls.{source_calls}
use Rattle.gos_tool.specs.Agreement.{AgreeOnBuild}
use Rattle.gos_tool.specs.objects.Complete.{SaysOneProgram}
use Rattle.gos_tool.specs.build.Built.{IsBuilt}
use Rattle.gos_tool.specs.build.Programs.{bind_in}
use Rattle.gos_tool.specs.explained.LinkedModules.{program_along}
use Rattle.gos_tool.specs.explained.Traces.{BuiltTraceIsRead, VerifiesTheRun, links_of, port_faces}
use Rattle.gos_tool.specs.explained.Verified.{IsVerified}
use Rattle.gos_tool.proofs.lemmas.build.HeadlineLemmas.{say_binds, say_modules}
use Rattle.gos_tool.proofs.lemmas.build.PacedLemmas.{same_imports}
use Rattle.gos_tool.proofs.lemmas.circuits.SameBuildLemmas.{root_same, trace_same}
use Rattle.gos_tool.proofs.lemmas.explained.FaceLemmas.{same_program}
use Rattle.gos_tool.proofs.lemmas.explained.HeadlineLemmas.{IsSaid, programs, results, roots, same}

module _ (one_build : IsOneBuild) (one_program : SaysOneProgram) (files new all : Files) (own moves : Word) (report told : Report)
    (built : IsBuilt files (Some new) own report) (v : IsVerified all own moves told) (agree : AgreeOnBuild own (λ c. source_calls c.instances.items) files all)
  where
    abbrev ms : List SeenModule
    ms = built.compiled.modules

    abbrev ls : SeenLinks
    ls = links_of files new own report built

    said : IsSaid files own built.build ms (map (bind_in (map program_of ms)) ls.services) ls.root
    said =
        let linked = built.built.written.linked in
        record {
          says = built.says;
          sources = say_modules files built.build.instances.items ms built.compiled.written.say built.compiled.all;
          bound =
              say_binds built.build.instances.items ms built.plans (λ n. same_imports ms built.plans n built.compiled.written.plans) []
              built.build.binds.items linked.services linked.binds;
          named = linked.light.grounded.named.placed.finds_root;
        }

    one_program_of : program_along v.sources.modules v.sources.links ≡ program_along ms ls
    one_program_of =
        programs one_build one_program files all own moves told built.build ms (map (bind_in (map program_of ms)) ls.services) ls.root said v agree
        ∙ same_program ms ls

    pub one_name : built.build.root ≡ v.build.root
    one_name =
        root_same built.build v.build
        (same one_build one_program files all own moves told built.build ms (map (bind_in (map program_of ms)) ls.services) ls.root said v agree)

    pub one_trace : built.build.trace ≡ v.build.trace
    one_trace =
        trace_same built.build v.build
        (same one_build one_program files all own moves told built.build ms (map (bind_in (map program_of ms)) ls.services) ls.root said v agree)

    one_result : outcome_if (slice_get v.sources.modules v.sources.links.root) ≡ outcome_if (slice_get ms ls.root)
    one_result =
        results one_build one_program files all own moves told built.build ms (map (bind_in (map program_of ms)) ls.services) ls.root said v agree
        v.sources.links.root
        ∙ ap (λ (k : ℕ). outcome_if (slice_get ms k))
        (roots one_build one_program files all own moves told built.build ms (map (bind_in (map program_of ms)) ls.services) ls.root said v agree)

    -- the ports of the program that is verified are those of the build's
    pub also_faces : map imported v.whole.ports ≡ port_faces files new own report built
    also_faces =
        let name = sym one_name in
        let result = one_result in
        let program = one_program_of in
        v.sources.linked.program.faces ∙ (λ i. record { name = name i; ty = result i } ∷ (program i).imports)

pub verifies_the_run : IsOneBuild → SaysOneProgram → ((ports : List ProgramPort) (text : List ℕ) → IsOneTrace ports text) → BuiltTraceIsRead → VerifiesTheRun
verifies_the_run one_build one_program one_text read files new all own moves report told built v agree same_trace =
    let (labels, is, run) =
    read files new own report built v.whole.ports v.sources.linked.program.ports
    (also_faces one_build one_program files new all own moves report told built v agree) in
    let text : bytes_at all v.build.trace ≡ bytes_at new built.build.trace =
    ap (bytes_at all) (sym (one_trace one_build one_program files new all own moves report told built v agree)) ∙ sym same_trace in
    let also : IsTraceTextOf v.whole.ports (bytes_at new built.build.trace) v.explained.labels =
    subst (λ (bytes : List ℕ). IsTraceTextOf v.whole.ports bytes v.explained.labels) text v.explained.says_labels.is in
    let one : v.explained.labels ≡ labels =
    one_text v.whole.ports (bytes_at new built.build.trace) v.sources.linked.program.ports v.explained.labels labels also is in
    ap (λ (ls : List Label). labels_of v.whole.ports ls) one ∙ run
