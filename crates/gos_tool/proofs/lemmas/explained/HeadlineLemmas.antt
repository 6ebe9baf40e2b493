-- The program whose trace is explained is that of the headline: one build file says one list of binds and one root, and one source one
-- program.
use Rattle.std.specs.Prelude.{◌≡◌, ◌∷◌, [], ℕ, zero, suc, List, Some, map, slice_get}
use Rattle.std.proofs.Common.{refl, sym, ◌∙◌, subst}
use Rattle.gos_outside.specs.Files.{Files, bytes_at}
use Rattle.gos_lex.specs.Lines.{Word}
use Rattle.gos_syntax.specs.Modules.{SeenModule}
use Rattle.gos_model.specs.Sources.{program_of}
use Rattle.gos_model.specs.Linking.{Bind, substituted}
use Rattle.gos_link.specs.Answers.{IsOneBuild}
use Rattle.gos_link.specs.BuildFile.{IsBuildFile, whole}
use Rattle.gos_link.specs.declared.build.Bind as lines
use Rattle.gos_link.specs.declared.build.Build.{Build}
use Rattle.gos_link.specs.declared.build.Instance.{Instance}
use Rattle.gos_link.specs.Services.{instance_named}
use Rattle.gos_link.specs.Linked.{SeenLinks}
use Rattle.gos_command.specs.declared.report.Report.{Report}
use Rattle.gos_witness.specs.Substituted.{outcome_if}
use Rattle.gos_tool.specs.Calls.{source_calls}
use Rattle.gos_tool.specs.circuits.Linked.{SaysBuild}
use Rattle.gos_tool.specs.Agreement.{AgreeOn, AgreeOnBuild}
use Rattle.gos_tool.specs.objects.Checked.{SaysModule}
use Rattle.gos_tool.specs.objects.Complete.{SaysOneProgram}
use Rattle.gos_tool.specs.build.Headline.{SayBinds, SayModules}
use Rattle.gos_tool.specs.build.Programs.{bind_in}
use Rattle.gos_tool.specs.explained.LinkedModules.{AreLinksOf, program_along}
use Rattle.gos_tool.specs.explained.Verified.{IsVerified}
use Rattle.gos_tool.specs.explained.Headlines.{VerifiesTheHeadline}
use Rattle.gos_tool.proofs.lemmas.circuits.SameBuildLemmas.{instances_same, binds_same, root_same}
use Rattle.gos_tool.proofs.lemmas.build.HeadlineLemmas.{say_binds}
use Rattle.gos_tool.proofs.lemmas.explained.FaceLemmas.{imports_there, program_imports, same_program}

binds_one : (is : List Instance) (ls : List lines.Bind) (bs cs : List Bind) → SayBinds is ls bs → SayBinds is ls cs → bs ≡ cs
binds_one is [] [] [] say also = refl
binds_one is [] [] (c ∷ cs) say also = absurd also
binds_one is [] (b ∷ bs) cs say also = absurd say
binds_one is (l ∷ ls) [] cs say also = absurd say
binds_one is (l ∷ ls) (b ∷ bs) [] say also = absurd also
binds_one is (l ∷ ls) (b ∷ bs) (c ∷ cs) (user, import, giver, say) (user_too, import_too, giver_too, also) =
    let both : Some b.user ≡ Some c.user = sym user ∙ user_too in
    let also_both : Some b.giver ≡ Some c.giver = sym giver ∙ giver_too in
    let users : b.user ≡ c.user = cc both in
    let names : b.import ≡ c.import = sym import ∙ import_too in
    let givers : b.giver ≡ c.giver = cc also_both in
    let rest = binds_one is ls bs cs say also in
    λ i. record { user = users i; import = names i; giver = givers i } ∷ rest i

programs_one : SaysOneProgram → (old files : Files) (is : List Instance) (hs ms : List SeenModule) → AgreeOn (source_calls is) old files
    → SayModules old is hs → SayModules files is ms → map program_of ms ≡ map program_of hs
programs_one law old files [] [] [] agree say also = refl
programs_one law old files [] [] (m ∷ ms) agree say also = absurd also
programs_one law old files [] (h ∷ hs) ms agree say also = absurd say
programs_one law old files (i ∷ is) [] ms agree say also = absurd say
programs_one law old files (i ∷ is) (h ∷ hs) [] agree say also = absurd also
programs_one law old files (i ∷ is) (h ∷ hs) (m ∷ ms) agree say also =
    let here : SaysModule (bytes_at old i.source) m = subst (λ (text : List ℕ). SaysModule text m) (sym agree.0) also.0 in
    let first : program_of m ≡ program_of h = (law (bytes_at old i.source) m h here say.0).0 in
    let rest = programs_one law old files is hs ms agree.1 say.1 also.1 in λ j. first j ∷ rest j

results_one : SaysOneProgram → (old files : Files) (is : List Instance) (hs ms : List SeenModule) → AgreeOn (source_calls is) old files
    → SayModules old is hs → SayModules files is ms → (k : ℕ) → outcome_if (slice_get ms k) ≡ outcome_if (slice_get hs k)
results_one law old files [] [] [] agree say also k = refl
results_one law old files [] [] (m ∷ ms) agree say also k = absurd also
results_one law old files [] (h ∷ hs) ms agree say also k = absurd say
results_one law old files (i ∷ is) [] ms agree say also k = absurd say
results_one law old files (i ∷ is) (h ∷ hs) [] agree say also k = absurd also
results_one law old files (i ∷ is) (h ∷ hs) (m ∷ ms) agree say also zero =
    let here : SaysModule (bytes_at old i.source) m = subst (λ (text : List ℕ). SaysModule text m) (sym agree.0) also.0 in
    (law (bytes_at old i.source) m h here say.0).1
results_one law old files (i ∷ is) (h ∷ hs) (m ∷ ms) agree say also (suc k) = results_one law old files is hs ms agree.1 say.1 also.1 k

root_one : (is : List Instance) (name : Word) (k n : ℕ) → instance_named is name ≡ Some k → instance_named is name ≡ Some n → k ≡ n
root_one is name k n one two = let both : Some k ≡ Some n = sym one ∙ two in cc both

-- what the links of modules bind is what the bind lines say
links_say : (b : Build) (ms : List SeenModule) (ls : SeenLinks) → AreLinksOf b ms ls
    → SayBinds b.instances.items b.binds.items (map (bind_in (map program_of ms)) ls.services) × (instance_named b.instances.items b.root ≡ Some ls.root)
links_say b ms ls (ps, stand, are) = (
  say_binds b.instances.items ms ps (λ n. imports_there ms ps stand n ∙ sym (program_imports ms n)) [] b.binds.items ls.services are.binds,
  are.grounded.named.placed.finds_root,
)

-- what a build file and its sources say: modules, binds and a root
pub record IsSaid (files : Files) (own : Word) (b : Build) (ms : List SeenModule) (bs : List Bind) (root : ℕ) : Type 0 where
  pub says : SaysBuild files own b
  pub sources : SayModules files b.instances.items ms
  pub bound : SayBinds b.instances.items b.binds.items bs
  pub named : instance_named b.instances.items b.root ≡ Some root

module _ (one_build : IsOneBuild) (one_program : SaysOneProgram) (old files : Files) (own moves : Word) (report : Report) (b : Build) (hs : List SeenModule)
    (bs : List Bind) (top : ℕ) (h : IsSaid old own b hs bs top) (v : IsVerified files own moves report)
    (agree : AgreeOnBuild own (λ c. source_calls c.instances.items) old files)
  where
    pub same : whole b ≡ whole v.build
    same =
        one_build (bytes_at old own) own b v.build h.says
        (subst (λ (text : List ℕ). IsBuildFile text own v.build) (sym agree.0) v.says)

    instances : b.instances.items ≡ v.build.instances.items
    instances = instances_same b v.build same

    said : SayBinds v.build.instances.items v.build.binds.items bs
    said =
        subst (λ (ls : List lines.Bind). SayBinds v.build.instances.items ls bs) (binds_same b v.build same)
        (subst (λ (is : List Instance). SayBinds is b.binds.items bs) instances h.bound)

    root_said : instance_named v.build.instances.items v.build.root ≡ Some top
    root_said =
        subst (λ (name : Word). instance_named v.build.instances.items name ≡ Some top) (root_same b v.build same)
        (subst (λ (is : List Instance). instance_named is b.root ≡ Some top) instances h.named)

    all_agree : AgreeOn (source_calls v.build.instances.items) old files
    all_agree = subst (λ (is : List Instance). AgreeOn (source_calls is) old files) instances (agree.1 b h.says)

    all_said : SayModules old v.build.instances.items hs
    all_said = subst (λ (is : List Instance). SayModules old is hs) instances h.sources

    pub roots : v.sources.links.root ≡ top
    roots =
        let (say, root) = links_say v.build v.sources.modules v.sources.links v.sources.linked.links in
        root_one v.build.instances.items v.build.root v.sources.links.root top root root_said

    pub results : (k : ℕ) → outcome_if (slice_get v.sources.modules k) ≡ outcome_if (slice_get hs k)
    results = results_one one_program old files v.build.instances.items hs v.sources.modules all_agree all_said v.sources.say

    pub programs : program_along v.sources.modules v.sources.links ≡ substituted (map program_of hs) bs top
    programs =
        let (say, root) = links_say v.build v.sources.modules v.sources.links v.sources.linked.links in
        let binds = binds_one v.build.instances.items v.build.binds.items (map (bind_in (map program_of v.sources.modules)) v.sources.links.services) bs say said in
        let all = programs_one one_program old files v.build.instances.items hs v.sources.modules all_agree all_said v.sources.say in
        let top_same = roots in
        sym (same_program v.sources.modules v.sources.links) ∙ (λ i. substituted (all i) (binds i) (top_same i))

pub verifies_the_headline : IsOneBuild → SaysOneProgram → VerifiesTheHeadline
verifies_the_headline one_build one_program old new files own moves report h v agree =
    programs one_build one_program old files own moves report h.build h.modules h.binds h.root
    (record { says = h.says; sources = h.sources; bound = h.bound; named = h.named }) v agree
