-- What `substitute` takes, and the program that it makes.
--
-- Read first: Programs, Ports; Sources and Linking of gos_model. An import is bound by its number in its module, and a module by its
-- number; the model's binds name the import. A bound import is served by the giver's own substituted term, and an open import stays
-- as it is, also where an import of its name is bound elsewhere.
use Rattle.std.specs.Prelude.{◌≡◌, ◌<◌, ◌≤◌, ℕ, List, [], ◌∷◌, Option, Some, None, length, map, slice_get}
use Rattle.std.specs.List.{AllByRecursion}
use Rattle.gos_types.specs.Types.{Type', Com, type_of}
use Rattle.gos_netlist.specs.Writable.{IsPortType}
use Rattle.gos_netlist.specs.declared.nets.Side.TheVariants.{Give, Take}
use Rattle.gos_syntax.specs.Modules.{SeenImport, SeenModule}
use Rattle.gos_model.specs.Terms as terms
use Rattle.gos_model.specs.Terms.{Name, Term}
use Rattle.gos_model.specs.Typing.{Imported, Imports, Typed}
use Rattle.gos_model.specs.Moves.{Program}
use Rattle.gos_model.specs.Sources.{program_of}
use Rattle.gos_model.specs.Linking.{Bind, Instances, substituted}
use Rattle.gos_witness.specs.declared.binding.Bound.{Bound}
use Rattle.gos_witness.specs.declared.fault.ExplainFault.{ExplainFault}
use Rattle.gos_witness.specs.declared.program.ProgramPort.{ProgramPort}
use Rattle.gos_witness.specs.declared.fault.ExplainFault.TheVariants as faults
use Rattle.gos_witness.specs.Sizes.{size}
use Rattle.gos_witness.specs.Ports.{ArePorts, imported}
use Rattle.gos_witness.specs.Programs.{SeenProgram, program_of as program_in}

-- the imports of a module that there is, and the name of an import that there is
abbrev pub imports_if : Option SeenModule → List SeenImport
imports_if None = []
imports_if (Some m) = m.imports

abbrev pub name_if : Option SeenImport → Name
name_if None = []
name_if (Some i) = i.name

-- the imports of a module by its number, and the name of an import by its
abbrev pub imports_at : List SeenModule → ℕ → List SeenImport
imports_at ms u = imports_if (slice_get ms u)

abbrev pub import_name : List SeenImport → ℕ → Name
import_name is i = name_if (slice_get is i)

-- a bind by the name of its import
abbrev pub bind_of : List SeenModule → Bound → Bind
bind_of ms b = record { user = b.user; import = import_name (imports_at ms b.user) b.import; giver = b.giver }

-- the modules' programs, and their binds
abbrev pub instances_of : List SeenModule → Instances
instances_of = map program_of

abbrev pub binds_of : List SeenModule → List Bound → List Bind
binds_of ms = map (bind_of ms)

-- the program of linked modules
abbrev pub linked_program : List SeenModule → List Bound → ℕ → Program
linked_program ms bs root = substituted (instances_of ms) (binds_of ms bs) root

-- the module and the import of a bind are there, and the module that serves it
pub record IsBind (ms : List SeenModule) (b : Bound) : Type 0 where
  pub user : b.user < length ms
  pub import : b.import < length (imports_at ms b.user)
  pub giver : b.giver < length ms

-- literals, variables and arrays have at most 64 bits
abbrev pub HasNarrow : Term → Type 0
HasNarrow (terms.Lit k w) = w ≤ 64
HasNarrow (terms.New w m) = (w ≤ 64) × HasNarrow m
HasNarrow (terms.NewArray n w m) = (w ≤ 64) × HasNarrow m
HasNarrow (terms.Lam a m) = HasNarrow m
HasNarrow (terms.App m n) = HasNarrow m × HasNarrow n
HasNarrow (terms.Both m n) = HasNarrow m × HasNarrow n
HasNarrow (terms.Fst m) = HasNarrow m
HasNarrow (terms.Snd m) = HasNarrow m
HasNarrow (terms.Seq m n) = HasNarrow m × HasNarrow n
HasNarrow (terms.Par m n) = HasNarrow m × HasNarrow n
HasNarrow (terms.If m n p) = HasNarrow m × HasNarrow n × HasNarrow p
HasNarrow (terms.While m n) = HasNarrow m × HasNarrow n
HasNarrow (terms.Assign m n) = HasNarrow m × HasNarrow n
HasNarrow (terms.Deref m) = HasNarrow m
HasNarrow (terms.Not m) = HasNarrow m
HasNarrow (terms.Bin op m n) = HasNarrow m × HasNarrow n
HasNarrow m = Unit {0}

-- Each giver stands lower than the modules that it serves, so there is no ring.
pub record AreOrdered (bs : List Bound) : Type 0 where
  pub rank : ℕ → ℕ
  pub lower : (i : ℕ) (b : Bound) → slice_get bs i ≡ Some b → rank b.giver < rank b.user

-- modules and binds that have a program
pub record AreLinkable (ms : List SeenModule) (bs : List Bound) (root : ℕ) : Type 0 where
  pub there : root < length ms
  pub binds : AllByRecursion (IsBind ms) bs
  pub order : AreOrdered bs
  pub narrow : AllByRecursion (λ m. HasNarrow (program_of m).body) ms

-- two ports have different names
abbrev pub NamesDiffer : List Name → Type 0
NamesDiffer xs = (i j : ℕ) (x : Name) → slice_get xs i ≡ Some x → slice_get xs j ≡ Some x → i ≡ j

-- a result and open imports that may be ports: the root's port has its name and the type of its result
pub record MayBePorts (ms : List SeenModule) (bs : List Bound) (root : ℕ) (name : Name) : Type 0 where
  pub result : (m : SeenModule) → slice_get ms root ≡ Some m → IsPortType (type_of m.result)
  pub taken : AllByRecursion (λ (x : Imported). IsPortType x.ty) (linked_program ms bs root).imports
  pub apart : NamesDiffer (name ∷ map (λ (x : Imported). x.name) (linked_program ms bs root).imports)
  pub few : length (linked_program ms bs root).imports < 4294967296

-- the type of the result of a module that there is, or a command
abbrev pub outcome_if : Option SeenModule → Type'
outcome_if None = Com
outcome_if (Some m) = type_of m.result

-- a name and a type
abbrev pub face : Name → Type' → Imported
face x t = record { name = x; ty = t }

-- the root's port: it has this name, and the type of the root's result
abbrev pub root_port : List SeenModule → ℕ → Name → Imported
root_port ms root x = face x (outcome_if (slice_get ms root))

-- the root's port comes first and is given to the surroundings, and the others are taken from them
abbrev pub AreOnSides : List ProgramPort → Type 0
AreOnSides [] = ⊥
AreOnSides (root ∷ ports) = (root.side ≡ Give) × AllByRecursion (λ p. p.side ≡ Take) ports

-- the program of linked modules, with the root's port and behind it those of the open imports; it has at most 1,000,000 nodes
pub record IsLinked (ms : List SeenModule) (bs : List Bound) (root : ℕ) (name : Name) (p : SeenProgram) : Type 0 where
  pub program : program_in p ≡ linked_program ms bs root
  pub ports : ArePorts p.ports
  pub faces : map imported p.ports ≡ root_port ms root name ∷ (linked_program ms bs root).imports
  pub sides : AreOnSides p.ports
  pub small : size (linked_program ms bs root).body ≤ 1000000

-- why there is no program: it has more than 1,000,000 nodes, and the count ends with the next one
abbrev pub IsTooLargeFault : Program → ExplainFault → Type 0
IsTooLargeFault p (faults.Nodes n) = (1000000 < size p.body) × (n ≡ 1000001)
IsTooLargeFault p f = ⊥

-- What a typing says of widths: a typed body is narrow.
abbrev pub TypedIsNarrow : Type 0
TypedIsNarrow = (is : Imports) (g : List Type') (m : Term) (t : Type') → Typed is g m t → HasNarrow m
