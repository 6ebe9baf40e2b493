-- Modules, and plans that have their imports and results: what services bind among the one they bind among the others.
use Rattle.std.specs.Prelude.{◌≡◌, ◌∷◌, [], ℕ, zero, suc, List, Option, Some, None, length, map, option_map, slice_get}
use Rattle.std.specs.List.{AllByRecursion}
use Rattle.std.proofs.Common.{refl, sym, ◌∙◌, ap, subst}
use Rattle.std.proofs.lemmas.Option.{slice_get-map}
use Rattle.gos_syntax.specs.Modules.{SeenImport, SeenModule}
use Rattle.gos_model.specs.Typing.{Imports}
use Rattle.gos_model.specs.Sources.{import_of, program_of}
use Rattle.gos_model.specs.Linking.{Bind, substituted}
use Rattle.gos_check.specs.Accepted.{IsAccepted}
use Rattle.gos_plan.specs.Seen.{SeenPlan, plan_of}
use Rattle.gos_realises.specs.realises.Realises.{NamesDiffer}
use Rattle.gos_terms.proofs.theorem.ImportLemmas.{names_differ}
use Rattle.gos_link.specs.Faces.{Face, face_of, faces_of}
use Rattle.gos_link.specs.Linked as links
use Rattle.gos_link.specs.Linked.{SeenLinks, plans_of}
use Rattle.gos_link.specs.declared.services.Service.{Service}
use Rattle.gos_linked.specs.linked.Linked as linked
use Rattle.gos_linked.proofs.linked.OpenLemmas.{HaveImports}
use Rattle.gos_witness.specs.Substituted.{binds_of, import_name, imports_at, name_if, outcome_if}
use Rattle.gos_tool.specs.build.Programs as built
use Rattle.gos_tool.specs.build.Programs.{bind_in, imports_if}
use Rattle.gos_tool.specs.explained.LinkedModules.{StandFor, bound_of, module_face, program_along}

pub as_many : (ms : List SeenModule) (ps : List SeenPlan) → StandFor ms ps → length (plans_of ps) ≡ length ms
as_many [] [] e = refl
as_many [] (p ∷ ps) e = absurd (cc e)
as_many (m ∷ ms) [] e = absurd (cc e)
as_many (m ∷ ms) (p ∷ ps) e = let rest : faces_of ps ≡ map module_face ms = cc e in ap suc (as_many ms ps rest)

-- the imports and the result at a place
pub imports_there : (ms : List SeenModule) (ps : List SeenPlan) → StandFor ms ps → (k : ℕ)
    → links.imports_of (slice_get (plans_of ps) k) ≡ map import_of (imports_at ms k)
imports_there [] [] e k = refl
imports_there [] (p ∷ ps) e k = absurd (cc e)
imports_there (m ∷ ms) [] e k = absurd (cc e)
imports_there (m ∷ ms) (p ∷ ps) e zero = let first : face_of p ≡ module_face m = cc e in ap (λ (f : Face). f.imports) first
imports_there (m ∷ ms) (p ∷ ps) e (suc k) = let rest : faces_of ps ≡ map module_face ms = cc e in imports_there ms ps rest k

pub outcome_there : (ms : List SeenModule) (ps : List SeenPlan) → StandFor ms ps → (k : ℕ)
    → links.outcome_of (slice_get (plans_of ps) k) ≡ outcome_if (slice_get ms k)
outcome_there [] [] e k = refl
outcome_there [] (p ∷ ps) e k = absurd (cc e)
outcome_there (m ∷ ms) [] e k = absurd (cc e)
outcome_there (m ∷ ms) (p ∷ ps) e zero = let first : face_of p ≡ module_face m = cc e in ap (λ (f : Face). f.outcome) first
outcome_there (m ∷ ms) (p ∷ ps) e (suc k) = let rest : faces_of ps ≡ map module_face ms = cc e in outcome_there ms ps rest k

-- those of programs are those of modules
pub program_imports : (ms : List SeenModule) (k : ℕ) → imports_if (slice_get (map program_of ms) k) ≡ map import_of (imports_at ms k)
program_imports [] k = refl
program_imports (m ∷ ms) zero = refl
program_imports (m ∷ ms) (suc k) = program_imports ms k

-- the name of an import
named : (is : List SeenImport) (k : ℕ) → linked.name_if (slice_get (map import_of is) k) ≡ import_name is k
named is k = ap linked.name_if (slice_get-map import_of is k) ∙ by (slice_get is k)
  where
    by : (o : Option SeenImport) → linked.name_if (option_map import_of o) ≡ name_if o
    by None = refl
    by (Some i) = refl

-- what a service binds among plans, and among programs, it binds among modules
pub same_binds : (ms : List SeenModule) (ps : List SeenPlan) → StandFor ms ps → (ss : List Service)
    → linked.binds_of (plans_of ps) ss ≡ binds_of ms (map bound_of ss)
same_binds ms ps e [] = refl
same_binds ms ps e (s ∷ ss) =
    let here = ap (λ (is : Imports). linked.name_if (slice_get is s.import)) (imports_there ms ps e s.user) ∙ named (imports_at ms s.user) s.import in
    let rest = same_binds ms ps e ss in
    λ i. record { user = s.user; import = here i; giver = s.giver } ∷ rest i

also_binds : (ms : List SeenModule) (ss : List Service) → map (bind_in (map program_of ms)) ss ≡ binds_of ms (map bound_of ss)
also_binds ms [] = refl
also_binds ms (s ∷ ss) =
    let here = ap (λ (is : Imports). linked.name_if (slice_get is s.import)) (program_imports ms s.user) ∙ named (imports_at ms s.user) s.import in
    let rest = also_binds ms ss in
    λ i. record { user = s.user; import = here i; giver = s.giver } ∷ rest i

-- so the program along the services is one
pub same_program : (ms : List SeenModule) (ls : SeenLinks) → built.program_along ms ls.services ls.root ≡ program_along ms ls
same_program ms ls = ap (λ (bs : List Bind). substituted (map program_of ms) bs ls.root) (also_binds ms ls.services)

-- the programs of accepted modules have the imports of these plans, and their names differ
pub have_imports : (ms : List SeenModule) (ps : List SeenPlan) → StandFor ms ps → AllByRecursion IsAccepted ms
    → HaveImports (plans_of ps) (map program_of ms)
have_imports [] [] e all = tt
have_imports [] (p ∷ ps) e all = absurd (cc e)
have_imports (m ∷ ms) [] e all = absurd (cc e)
have_imports (m ∷ ms) (p ∷ ps) e (one, all) =
    let first : face_of p ≡ module_face m = cc e in
    let rest : faces_of ps ≡ map module_face ms = cc e in
    let imports : (plan_of p).imports ≡ (program_of m).imports = ap (λ (f : Face). f.imports) first in
    (imports, subst NamesDiffer (sym imports) (names_differ m.imports one.names), have_imports ms ps rest all)
