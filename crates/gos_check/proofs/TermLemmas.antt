-- Modules that are one but for their boxes have one typed term: of their imports names and types count.
use Rattle.std.proofs.Common.{◌≡◌, ◌∙◌, ℕ, suc, List, [], ◌∷◌, Option, Some, if◌then◌else◌, length, map, refl, ap}
use Rattle.std.specs.Str.{bytes_eq}
use Rattle.gos_syntax.specs.Modules.{SeenImport}
use Rattle.gos_syntax.specs.Trees.{Tree, tree_of}
use Rattle.gos_syntax.specs.ModuleTrees.{ImportTree, ModuleTree, import_tree}
use Rattle.gos_model.specs.Terms.{Name}
use Rattle.gos_model.specs.Sources.{import_of}
use Rattle.gos_check.specs.declared.opens.Open.{Open}
use Rattle.gos_check.specs.Nodes.{Numbered}
use Rattle.gos_check.specs.Numbering.{import_number, numbered, placed, raised, typed_tree, under_imports, with_place}
use Rattle.gos_check.specs.OneTerm.{TermIsOne}

first_same : (i j : SeenImport) (is js : List SeenImport) → map import_tree (i ∷ is) ≡ map import_tree (j ∷ js) → import_tree i ≡ import_tree j
first_same i j is js e = cc e

rest_same : (i j : SeenImport) (is js : List SeenImport) → map import_tree (i ∷ is) ≡ map import_tree (j ∷ js) → map import_tree is ≡ map import_tree js
rest_same i j is js e = cc e

programs_too : (is js : List SeenImport) → map import_tree is ≡ map import_tree js → map import_of is ≡ map import_of js
programs_too [] [] e = refl
programs_too [] (j ∷ js) e = absurd (cc e)
programs_too (i ∷ is) [] e = absurd (cc e)
programs_too (i ∷ is) (j ∷ js) e =
    let first : import_of i ≡ import_of j = ap (λ (t : ImportTree). record { name = t.name; ty = t.ty }) (first_same i j is js e) in
    let rest = programs_too is js (rest_same i j is js e) in λ k. first k ∷ rest k

number_too : (x : Name) (is js : List SeenImport) → map import_tree is ≡ map import_tree js → import_number is x ≡ import_number js x
number_too x [] [] e = refl
number_too x [] (j ∷ js) e = absurd (cc e)
number_too x (i ∷ is) [] e = absurd (cc e)
number_too x (i ∷ is) (j ∷ js) e =
    let name : i.name ≡ j.name = ap (λ (t : ImportTree). t.name) (first_same i j is js e) in
    let rest = number_too x is js (rest_same i j is js e) in λ k. if bytes_eq (name k) x then Some 0 else raised 1 (rest k)

placed_too : (is js : List SeenImport) → map import_tree is ≡ map import_tree js → (os : List Open) (node : Numbered) → placed is os node ≡ placed js os node
placed_too is js e [] node = refl
placed_too is js e (o ∷ os) node =
    placed_too is js e os (with_place (import_number is o.name) o.number node)
    ∙ ap (λ (p : Option ℕ). placed js os (with_place p o.number node)) (number_too o.name is js e)

count_too : (is js : List SeenImport) → map import_tree is ≡ map import_tree js → length is ≡ length js
count_too [] [] e = refl
count_too [] (j ∷ js) e = absurd (cc e)
count_too (i ∷ is) [] e = absurd (cc e)
count_too (i ∷ is) (j ∷ js) e = ap suc (count_too is js (rest_same i j is js e))

typed_imports : (is js : List SeenImport) → map import_tree is ≡ map import_tree js → (tree : Tree) → typed_tree is tree ≡ typed_tree js tree
typed_imports is js e tree =
    placed_too is js e (under_imports is tree).names (under_imports is tree).node
    ∙ (λ k. placed js (numbered (imports k) [] (count_too is js e k) tree).names (numbered (imports k) [] (count_too is js e k) tree).node)
  where
    imports : map import_of is ≡ map import_of js
    imports = programs_too is js e

pub term_is_one : TermIsOne
term_is_one m other e =
    typed_imports m.imports other.imports (ap (λ (t : ModuleTree). t.imports) e) (tree_of m.body.form m.body.span)
    ∙ ap (typed_tree other.imports) (ap (λ (t : ModuleTree). t.body) e)
