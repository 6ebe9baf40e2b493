-- Of the same files `verify` tells the same: the build file says one build, each source one program, and each text is read in one way.
use Rattle.std.specs.Prelude.{◌≡◌, ◌∷◌, ◌++◌, [], ℕ, List, length, map}
use Rattle.std.proofs.Common.{refl, sym, ◌∙◌, ap, subst}
use Rattle.gos_outside.specs.Files.{Files, bytes_at}
use Rattle.gos_outside.specs.Calls.{StoreCall}
use Rattle.gos_lex.specs.Lines.{Word}
use Rattle.gos_link.specs.Answers.{IsOneBuild}
use Rattle.gos_link.specs.BuildFile.{IsBuildFile, whole}
use Rattle.gos_link.specs.Faces.{LinksAreOfFaces, LinksAreOne}
use Rattle.gos_link.specs.declared.build.Instance.{Instance}
use Rattle.gos_witness.specs.declared.program.ProgramPort.{ProgramPort}
use Rattle.gos_witness.specs.MovesText.{IsMovesTextOf}
use Rattle.gos_witness.specs.Ports.{imported}
use Rattle.gos_witness.specs.TextFaults.{IsOneList, IsOneTrace}
use Rattle.gos_witness.specs.TraceText.{IsTraceTextOf}
use Rattle.gos_command.specs.declared.report.Report.{Report}
use Rattle.gos_command.specs.declared.report.Report.TheVariants as reports
use Rattle.gos_tool.specs.Calls.{explained_calls, source_calls, verify_calls}
use Rattle.gos_tool.specs.Agreement.{AgreeOn, files_of}
use Rattle.gos_tool.specs.objects.Complete.{SaysOneProgram}
use Rattle.gos_tool.specs.build.Headline.{SayModules}
use Rattle.gos_tool.specs.explained.Verified.{IsVerified}
use Rattle.gos_tool.specs.explained.Repeated.{VerifyMakesOne}
use Rattle.gos_tool.proofs.lemmas.AgreeLemmas.{agree_back, agree_front}
use Rattle.gos_tool.proofs.lemmas.circuits.SameBuildLemmas.{instances_same, trace_same}
use Rattle.gos_tool.proofs.lemmas.explained.PortLemmas.{trace_too}
use Rattle.gos_tool.proofs.lemmas.explained.ProgramLemmas.{AreAlike, alike, ports_same}

-- where sources and then some files are read nothing is written
nothing_written : (is : List Instance) (calls : List StoreCall) → [] ≡ files_of calls → [] ≡ files_of (source_calls is ++ calls)
nothing_written [] calls none = none
nothing_written (i ∷ is) calls none = nothing_written is calls none

module _ (one_build : IsOneBuild) (one_program : SaysOneProgram) (of_faces : LinksAreOfFaces) (one_link : LinksAreOne)
    (one_list : (text : List ℕ) → IsOneList text) (one_trace : (ports : List ProgramPort) (text : List ℕ) → IsOneTrace ports text)
    (files others : Files) (own moves : Word) (report told : Report) (same_own : bytes_at files own ≡ bytes_at others own)
    (one : IsVerified files own moves report) (agree : AgreeOn (verify_calls moves one.build) files others) (two : IsVerified others own moves told)
  where
    same : whole one.build ≡ whole two.build
    same =
        one_build (bytes_at files own) own one.build two.build one.says
        (subst (λ (text : List ℕ). IsBuildFile text own two.build) (sym same_own) two.says)

    instances : one.build.instances.items ≡ two.build.instances.items
    instances = instances_same one.build two.build same

    modules : AreAlike one.sources.modules two.sources.modules
    modules =
        alike one_program files others two.build.instances.items one.sources.modules two.sources.modules
        (subst (λ (is : List Instance). AgreeOn (source_calls is) files others) instances
        (agree_front (source_calls one.build.instances.items) (explained_calls one.build.trace moves) files others agree))
        (subst (λ (is : List Instance). SayModules files is one.sources.modules) instances one.sources.say) two.sources.say

    faces : map imported one.whole.ports ≡ map imported two.whole.ports
    faces =
        ports_same of_faces one_link one.build two.build same one.sources.modules two.sources.modules modules one.sources.links two.sources.links
        one.sources.linked.links two.sources.linked.links one.whole two.whole one.sources.linked two.sources.linked

    texts : AgreeOn (explained_calls one.build.trace moves) files others
    texts = agree_back (source_calls one.build.instances.items) (explained_calls one.build.trace moves) files others agree

    trace : bytes_at files one.build.trace ≡ bytes_at others two.build.trace
    trace = texts.0 ∙ ap (bytes_at others) (trace_same one.build two.build same)

    labels : one.explained.labels ≡ two.explained.labels
    labels =
        one_trace two.whole.ports (bytes_at others two.build.trace) two.sources.linked.program.ports one.explained.labels two.explained.labels
        (subst (λ (text : List ℕ). IsTraceTextOf two.whole.ports text one.explained.labels) trace
        (trace_too one.whole.ports two.whole.ports faces (bytes_at files one.build.trace) one.explained.labels one.explained.says_labels.is))
        two.explained.says_labels.is

    lines : one.explained.lines ≡ two.explained.lines
    lines =
        one_list (bytes_at others moves) one.explained.lines two.explained.lines
        (subst (λ (text : List ℕ). IsMovesTextOf text one.explained.lines) texts.1.0 one.explained.says_lines.is) two.explained.says_lines.is

    pub tells_one : report ≡ told
    tells_one = one.explained.tells ∙ ((λ i. reports.Explained (length (lines i)) (length (labels i))) ∙ sym two.explained.tells)

pub verify_makes_one : IsOneBuild → SaysOneProgram → LinksAreOfFaces → LinksAreOne → ((text : List ℕ) → IsOneList text)
    → ((ports : List ProgramPort) (text : List ℕ) → IsOneTrace ports text) → VerifyMakesOne
verify_makes_one one_build one_program of_faces one_link one_list one_trace files others own moves new other report told agree (kept, one) (also, two) = (
  (
    one.build,
    one.says,
    record {
      texts = [];
      named = nothing_written one.build.instances.items (explained_calls one.build.trace moves) refl;
      one = kept;
      two = also;
    },
  ),
  tells_one one_build one_program of_faces one_link one_list one_trace files others own moves report told agree.0 one (agree.1 one.build one.says) two,
)
