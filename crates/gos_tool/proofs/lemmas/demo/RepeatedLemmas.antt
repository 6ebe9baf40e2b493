-- What `demo` reads it wrote itself, so that two stores agree on it.
use Rattle.std.proofs.Common.{◌≡◌, ◌≤◌, ◌∙◌, ◌++◌, ℕ, zero, suc, List, [], ◌∷◌, Option, Some, ap, arith, map, refl, subst, sym}
use Rattle.std.specs.Prelude.{codes}
use Rattle.std.specs.FinMap.{insert}
use Rattle.gos_outside.specs.Files.{Files, bytes_at}
use Rattle.gos_outside.specs.Calls.{StoreCall}
use Rattle.gos_lex.specs.Lines.{Word}
use Rattle.gos_link.specs.Answers.{IsOneBuild}
use Rattle.gos_link.specs.BuildFile.{IsBuildFile}
use Rattle.gos_link.specs.declared.build.Build.{Build}
use Rattle.gos_link.specs.declared.build.Instance.{Instance}
use Rattle.gos_tool.specs.Calls.{build_calls, module_calls, plans_calls, write_calls}
use Rattle.gos_tool.specs.Agreement.{AgreeOn, AgreeOnBuild, WriteOneBuild, WriteTheSame, files_of, with_texts}
use Rattle.gos_tool.specs.demo.DemoFiles.{IsLevelCount, NamedText, build_file, demo_files, pulse_file}
use Rattle.gos_tool.specs.demo.Demo.{HoldsEach, holding, names_of, with_demo}
use Rattle.gos_tool.proofs.lemmas.AgreeLemmas.{same_then_same}
use Rattle.gos_tool.proofs.lemmas.demo.DemoLinkLemmas.{IsDemoBuild, is_demo_build, kinds}
use Rattle.gos_tool.proofs.lemmas.demo.EndLemmas.{own_text}
use Rattle.gos_tool.proofs.lemmas.demo.FormLemmas.{demo_build}
use Rattle.gos_tool.proofs.lemmas.demo.HoldLemmas.{demo_held}
use Rattle.gos_tool.proofs.lemmas.demo.KindLemmas.{HoldSources, Kind, names_of_kinds, source_of, sources_of}
use Rattle.gos_tool.proofs.lemmas.demo.RightLemmas.{held_at, hold_sources}

-- the texts of named files
abbrev texts_of : List NamedText → List (Word × List ℕ)
texts_of [] = []
texts_of (f ∷ fs) = (f.name, f.text) ∷ texts_of fs

all_held : (fs : List NamedText) (files : Files) → Some (holding fs files) ≡ with_texts (texts_of fs) (Some files)
all_held [] files = refl
all_held (f ∷ fs) files = all_held fs (insert files f.name f.text)

all_named : (fs : List NamedText) → map (λ (written : Word × List ℕ). written.0) (texts_of fs) ≡ files_of (write_calls (names_of fs))
all_named [] = refl
all_named (f ∷ fs) = ap (λ (names : List Word). f.name ∷ names) (all_named fs)

demo_writes : (fs : List NamedText) (files others : Files)
    → WriteTheSame (write_calls (names_of fs)) (Some files) (Some others) (Some (holding fs files)) (Some (holding fs others))
demo_writes fs files others = record { texts = texts_of fs; named = all_named fs; one = all_held fs files; two = all_held fs others }

-- first the files of the demo, then those of the build
pub demo_then_build : (levels : ℕ) (files others : Files) (new other : Option Files)
    → WriteOneBuild (build_file levels).name build_calls (with_demo levels files) (with_demo levels others) new other
    → (b : Build) × IsBuildFile (build_file levels).text (build_file levels).name b
    × WriteTheSame (write_calls (names_of (demo_files levels)) ++ build_calls b) (Some files) (Some others) new other
demo_then_build levels files others new other (b, says, wrote) = (
  b,
  subst (λ (text : List ℕ). IsBuildFile text (build_file levels).name b) (own_text levels files) says,
  same_then_same (write_calls (names_of (demo_files levels))) (build_calls b) (Some files) (Some others) (Some (with_demo levels files)) (Some (with_demo levels others))
      new other (demo_writes (demo_files levels) files others) wrote,
)

-- stores that hold the sources agree on the instances of these
on_sources : (rest : List StoreCall) (is : List Instance) (ks : List Kind) (files others : Files) → HoldSources files → HoldSources others
    → sources_of is ≡ names_of_kinds ks → AgreeOn rest files others → AgreeOn (module_calls is ++ rest) files others
on_sources rest [] ks files others hold also same agree = agree
on_sources rest (i ∷ is) [] files others hold also same agree = absurd (cc same)
on_sources rest (i ∷ is) (k ∷ ks) files others hold also same agree =
    let first : i.source ≡ (source_of k).name = cc same in
    let others_same : sources_of is ≡ names_of_kinds ks = cc same in (
      ap (bytes_at files) first ∙ (hold k ∙ (sym (also k) ∙ ap (bytes_at others) (sym first))),
      on_sources rest is ks files others hold also others_same agree,
    )

on_all : (k : ℕ) (files others : Files) → HoldsEach (Some files) (demo_files (suc k)) → HoldsEach (Some others) (demo_files (suc k)) → (b : Build)
    → IsDemoBuild k b → AgreeOn (build_calls b) files others
on_all k files others hold also b known =
    on_sources (plans_calls b) b.instances.items (kinds k) files others (hold_sources (suc k) files hold) (hold_sources (suc k) others also) known.sources
    (ap (bytes_at files) known.pulses ∙ (pulses files hold ∙ (sym (pulses others also) ∙ ap (bytes_at others) (sym known.pulses))), tt)
  where
    pulses : (all : Files) → HoldsEach (Some all) (demo_files (suc k)) → bytes_at all (codes "demo.pls") ≡ (pulse_file (suc k)).text
    pulses all each = held_at all (pulse_file (suc k)).name (pulse_file (suc k)).text each.1.1.1.1.1.0

pub demo_agrees : IsOneBuild → (levels : ℕ) (files others : Files) → IsLevelCount levels
    → AgreeOnBuild (build_file levels).name build_calls (with_demo levels files) (with_demo levels others)
demo_agrees one_build zero files others count = let some = count.0 in absurd (omega (arith, some))
demo_agrees one_build (suc k) files others count = (
  own_text (suc k) files ∙ sym (own_text (suc k) others),
  λ b says.
      let most = count.1 in
      let low : k ≤ 11 = omega (arith, most) in
      let made = demo_build k low in
      let own = (build_file (suc k)).name in
      let is : IsBuildFile (build_file (suc k)).text own b = subst (λ (text : List ℕ). IsBuildFile text own b) (own_text (suc k) files) says in
      on_all k (with_demo (suc k) files) (with_demo (suc k) others) (demo_held (suc k) files) (demo_held (suc k) others) b
      (is_demo_build k b low (made.2 ∙ one_build (build_file (suc k)).text own made.0 b made.1 is)),
)
