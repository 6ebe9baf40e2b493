-- Modules whose nodes are made, each after those that serve it.
--
-- Read first: Substituted, Adding. For each module there is its node, where it has one.
use Rattle.std.specs.Prelude.{◌≡◌, ◌<◌, ◌≤◌, ℕ, suc, Vec, Bool, true, false, not, ◌&&◌, ◌+◌, ◌++◌, List, [], ◌∷◌, Option, Some, None, length, slice_get, nat_eq, if◌then◌else◌}
use Rattle.std.specs.Str.{bytes_eq}
use Rattle.std.specs.declared.alloc.Global.{Global}
use Rattle.gos_syntax.specs.Modules.{SeenImport, SeenModule}
use Rattle.gos_model.specs.Terms.{Name, Term}
use Rattle.gos_model.specs.Linking.{Bind, Instances, linked, supplied, with_giver}
use Rattle.gos_model.specs.Sources.{import_of, program_of}
use Rattle.gos_model.specs.Typing.{Imports}
use Rattle.gos_witness.specs.declared.binding.Bound.{Bound}
use Rattle.gos_witness.specs.NodeLists.{Listed, seen}
use Rattle.gos_witness.specs.Substituted.{import_name, instances_of, binds_of}

-- the binds of one user
abbrev pub of_user : ℕ → List Bound → List Bound
of_user u [] = []
of_user u (b ∷ bs) = if nat_eq b.user u then b ∷ of_user u bs else of_user u bs

-- the binds of a list that there is
abbrev pub items_if : Option (Vec Bound Global) → List Bound
items_if None = []
items_if (Some v) = v.items

abbrev pub list_at : List (Vec Bound Global) → ℕ → List Bound
list_at vs u = items_if (slice_get vs u)

-- a list for each user
pub record AreByUser (count : ℕ) (vs : List (Vec Bound Global)) (bs : List Bound) : Type 0 where
  pub each : length vs ≡ count
  pub own : (u : ℕ) → u < count → list_at vs u ≡ of_user u bs

-- the giver of the first of a user's binds for an import of this name
abbrev pub giver_in : List SeenImport → List Bound → Name → Option ℕ
giver_in is [] x = None
giver_in is (b ∷ bs) x = if bytes_eq (import_name is b.import) x then Some b.giver else giver_in is bs x

-- the node of a module
abbrev pub node_if : Option (Option ℕ) → Option ℕ
node_if None = None
node_if (Some n) = n

abbrev pub node_of : List (Option ℕ) → Option ℕ → Option ℕ
node_of nodes None = None
node_of nodes (Some g) = node_if (slice_get nodes g)

-- whether a module has a node
abbrev pub is_made : Option ℕ → Bool
is_made None = false
is_made (Some n) = true

abbrev pub has_node : List (Option ℕ) → ℕ → Bool
has_node nodes u = is_made (node_if (slice_get nodes u))

-- whether each giver has one
abbrev pub is_ready : List (Option ℕ) → List Bound → Bool
is_ready nodes [] = true
is_ready nodes (b ∷ bs) = has_node nodes b.giver && is_ready nodes bs

-- whether a module has none, and each of its givers has one
abbrev pub is_next : List (Vec Bound Global) → List (Option ℕ) → ℕ → Bool
is_next vs nodes u = not (has_node nodes u) && is_ready nodes (list_at vs u)

-- givers are there, and imports
abbrev pub AreBelow : ℕ → List Bound → Type 0
AreBelow modules [] = Unit {0}
AreBelow modules (b ∷ bs) = (b.giver < modules) × AreBelow modules bs

abbrev pub AllBelow : ℕ → List (Vec Bound Global) → Type 0
AllBelow modules vs = (u : ℕ) → u < length vs → AreBelow modules (list_at vs u)

abbrev pub AreImports : ℕ → List Bound → Type 0
AreImports imports [] = Unit {0}
AreImports imports (b ∷ bs) = (b.import < imports) × AreImports imports bs

-- an answer, or else another
abbrev pub or_else : Option ℕ → Option ℕ → Option ℕ
or_else None b = b
or_else (Some a) b = Some a

-- the nodes of modules are in the list
abbrev pub AreMade : Listed → List (Option ℕ) → Type 0
AreMade l nodes = (u n : ℕ) → slice_get nodes u ≡ Some (Some n) → n < length l.nodes

-- the term of a module's giver for an import of this name
abbrev pub giver_term : Listed → List (Option ℕ) → List SeenImport → List Bound → Name → Option Term
giver_term l nodes is bs x = with_giver (seen l) (node_of nodes (giver_in is bs x))

-- a node of the new list is the module's body with the terms of its givers
pub record IsModuleNode (old new : Listed) (m : SeenModule) (bs : List Bound) (nodes : List (Option ℕ)) (n : ℕ) : Type 0 where
  pub there : n < length new.nodes
  pub term :
      (f : Name → Option Term) → ((x : Name) → giver_term old nodes m.imports bs x ≡ f x) → seen new n ≡ supplied f (program_of m).body

-- the imports that none of a user's binds serves
abbrev pub open_in : List SeenImport → List Bound → List SeenImport → Imports
open_in all bs [] = []
open_in all bs (i ∷ is) = if is_made (giver_in all bs i.name) then open_in all bs is else import_of i ∷ open_in all bs is

-- those of all modules, from number u on
abbrev pub opens_from : List (Vec Bound Global) → ℕ → List SeenModule → Imports
opens_from vs u [] = []
opens_from vs u (m ∷ ms) = open_in m.imports (list_at vs u) m.imports ++ opens_from vs (u + 1) ms

-- the binds of each module are for imports that it has
abbrev pub AllImports : List SeenModule → List (Vec Bound Global) → Type 0
AllImports ms vs = (u : ℕ) (m : SeenModule) → slice_get ms u ≡ Some m → AreImports (length m.imports) (list_at vs u)

-- how many modules have nodes
abbrev pub made : List (Option ℕ) → ℕ
made [] = 0
made (None ∷ nodes) = made nodes
made (Some n ∷ nodes) = suc (made nodes)

-- The nodes are the modules' terms with their givers put in. As many levels are enough as modules have nodes.
abbrev pub AreBuilt : Instances → List Bind → Listed → List (Option ℕ) → Type 0
AreBuilt ps bs l nodes =
    (u n : ℕ) → slice_get nodes u ≡ Some (Some n)
    → (n < length l.nodes) × ((levels : ℕ) → made nodes ≤ levels → seen l n ≡ linked ps bs levels u)

-- the nodes so far, of which the root's is none
pub record IsBuilding (ms : List SeenModule) (bs : List Bound) (root : ℕ) (l : Listed) (nodes : List (Option ℕ)) : Type 0 where
  pub each : length nodes ≡ length ms
  pub root_left : has_node nodes root ≡ false
  pub built : AreBuilt (instances_of ms) (binds_of ms bs) l nodes
