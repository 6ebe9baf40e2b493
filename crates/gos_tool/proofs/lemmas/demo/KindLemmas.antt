-- What the demo's sources say: modules that are accepted, whose plans are known but for their parts and joints.
use Rattle.std.proofs.Common.{◌≡◌, ℕ, suc, List, [], ◌∷◌, length, map, refl, sym, ◌∙◌, ap, subst}
use Rattle.std.specs.Prelude.{codes}
use Rattle.gos_outside.specs.Files.{Files, bytes_at}
use Rattle.gos_lex.specs.Tokens.{Reading}
use Rattle.gos_types.specs.Types.{Type', Com, Fun, type_of}
use Rattle.gos_syntax.specs.Items.{Item}
use Rattle.gos_syntax.specs.Modules.{SeenModule}
use Rattle.gos_model.specs.Typing.{Imported}
use Rattle.gos_model.specs.Sources.{program_of}
use Rattle.gos_check.specs.Accepted.{FoundExactly, weighed}
use Rattle.gos_plan.specs.Plans.{Plan}
use Rattle.gos_plan.specs.Seen.{SeenPlan, plan_of}
use Rattle.gos_link.specs.declared.build.Instance.{Instance}
use Rattle.gos_lex.specs.Lines.{Word}
use Rattle.gos_tool.specs.objects.Checked.{SaysModule}
use Rattle.gos_tool.specs.objects.Compiled.{IsPlanOfModule}
use Rattle.gos_tool.specs.build.Objects.{HavePlans}
use Rattle.gos_tool.specs.build.Headline.{SayModules}
use Rattle.gos_tool.specs.demo.DemoFiles.{NamedText, main_source, twice_source, pass_source, pair_source, id_source}
use Rattle.gos_tool.proofs.lemmas.demo.SourceTexts.{main_read, twice_read, pass_read, pair_read, id_read}
use Rattle.gos_tool.proofs.lemmas.demo.SourceModules.{main_module, twice_module, pass_module, pair_module, id_module}
use Rattle.gos_tool.proofs.lemmas.demo.AcceptedLemmas.{IsSourceOf, items_in, says_module}
use Rattle.gos_tool.proofs.lemmas.demo.SourceLemmas.{main_accepted, twice_accepted, pass_accepted, pair_accepted, id_accepted}
use Rattle.gos_tool.proofs.lemmas.demo.SortLemmas.{Sort, IsOf, AreOf}
use Rattle.gos_tool.proofs.lemmas.demo.LinkLemmas.{command_c}

-- the five sources
pub data Kind : Type 0 where
  AMain ATwice APass APair AnId : Kind

abbrev pub source_of : Kind → NamedText
source_of AMain = main_source
source_of ATwice = twice_source
source_of APass = pass_source
source_of APair = pair_source
source_of AnId = id_source

abbrev read_of : Kind → List Reading
read_of AMain = main_read
read_of ATwice = twice_read
read_of APass = pass_read
read_of APair = pair_read
read_of AnId = id_read

abbrev made_of : Kind → List Item → SeenModule
made_of AMain = main_module
made_of ATwice = twice_module
made_of APass = pass_module
made_of APair = pair_module
made_of AnId = id_module

abbrev weight_of : Kind → ℕ
weight_of AMain = 19
weight_of ATwice = 45
weight_of APass = 24
weight_of APair = 40
weight_of AnId = 11

pub accepted : (k : Kind) → IsSourceOf (source_of k).text (read_of k) (made_of k) (weight_of k)
accepted AMain = main_accepted
accepted ATwice = twice_accepted
accepted APass = pass_accepted
accepted APair = pair_accepted
accepted AnId = id_accepted

-- the modules that they say
abbrev module_of : Kind → SeenModule
module_of k = made_of k (items_in (accepted k))

abbrev pub modules_of : List Kind → List SeenModule
modules_of [] = []
modules_of (k ∷ ks) = module_of k ∷ modules_of ks

-- the plans of these
abbrev f_type : Type'
f_type = Fun Com Com

abbrev command_f : Imported
command_f = record { name = codes "f"; ty = f_type }

abbrev pub sort_of : Kind → Sort
sort_of AMain = record { imports = command_f ∷ command_c ∷ []; outcome = Com; weight = 19 }
sort_of ATwice = record { imports = command_f ∷ []; outcome = f_type; weight = 45 }
sort_of APass = record { imports = command_f ∷ []; outcome = f_type; weight = 24 }
sort_of APair = record { imports = command_f ∷ []; outcome = f_type; weight = 40 }
sort_of AnId = record { imports = []; outcome = f_type; weight = 11 }

record IsSort (m : SeenModule) (s : Sort) : Type 0 where
  imports : (program_of m).imports ≡ s.imports
  result : type_of m.result ≡ s.outcome
  weight : weighed m ≡ s.weight

sort_is : (k : Kind) (items : List Item) → IsSort (made_of k items) (sort_of k)
sort_is AMain items = record { imports = refl; result = refl; weight = refl }
sort_is ATwice items = record { imports = refl; result = refl; weight = refl }
sort_is APass items = record { imports = refl; result = refl; weight = refl }
sort_is APair items = record { imports = refl; result = refl; weight = refl }
sort_is AnId items = record { imports = refl; result = refl; weight = refl }

plan_is : (k : Kind) (p : Plan) → IsPlanOfModule (module_of k) p → IsOf p (sort_of k)
plan_is k p plan =
    let known = sort_is k (items_in (accepted k)) in
    record {
      imports = plan.made.imports ∙ known.imports;
      outcome = plan.made.outcome ∙ known.result;
      weight = plan.made.weight ∙ known.weight;
      right = plan.made.right;
      slim = plan.slim;
    }

pub plans_are : (ks : List Kind) (ps : List SeenPlan) → HavePlans (modules_of ks) ps → AreOf ps (map sort_of ks)
plans_are [] [] have = tt
plans_are [] (p ∷ ps) have = absurd have
plans_are (k ∷ ks) [] have = absurd have
plans_are (k ∷ ks) (p ∷ ps) have = (plan_is k (plan_of p) have.0, plans_are ks ps have.1)

-- files that hold the sources
abbrev pub HoldSources : Files → Type 0
HoldSources files = (k : Kind) → bytes_at files (source_of k).name ≡ (source_of k).text

-- the sources of instances
abbrev pub sources_of : List Instance → List Word
sources_of is = map (λ i. i.source) is

abbrev pub names_of_kinds : List Kind → List Word
names_of_kinds ks = map (λ k. (source_of k).name) ks

-- instances of these sources say these modules, and have as many plans
pub modules_said : FoundExactly → (files : Files) (is : List Instance) (ks : List Kind) → HoldSources files → sources_of is ≡ names_of_kinds ks
    → SayModules files is (modules_of ks)
modules_said exactly files [] [] hold same = tt
modules_said exactly files [] (k ∷ ks) hold same = absurd (cc same)
modules_said exactly files (i ∷ is) [] hold same = absurd (cc same)
modules_said exactly files (i ∷ is) (k ∷ ks) hold same =
    let first : i.source ≡ (source_of k).name = cc same in
    let rest : sources_of is ≡ names_of_kinds ks = cc same in
    let text : bytes_at files i.source ≡ (source_of k).text = ap (bytes_at files) first ∙ hold k in
    (subst (λ (t : List ℕ). SaysModule t (module_of k)) (sym text) (says_module exactly (accepted k)), modules_said exactly files is ks hold rest)

pub as_many : (is : List Instance) (ks : List Kind) (ps : List SeenPlan) → sources_of is ≡ names_of_kinds ks → HavePlans (modules_of ks) ps → length ps ≡ length is
as_many [] [] [] same have = refl
as_many [] [] (p ∷ ps) same have = absurd have
as_many [] (k ∷ ks) ps same have = absurd (cc same)
as_many (i ∷ is) [] ps same have = absurd (cc same)
as_many (i ∷ is) (k ∷ ks) [] same have = absurd have
as_many (i ∷ is) (k ∷ ks) (p ∷ ps) same have = let rest : sources_of is ≡ names_of_kinds ks = cc same in ap suc (as_many is ks ps rest have.1)
