-- The program of the linked modules of a build, and the ports of its circuit.
--
-- Read first: Linking of gos_model (the program that links make of programs); Services of gos_link (what bind lines mean). A
-- service speaks of an import by its number, and the program by its name.
use Rattle.std.specs.Prelude.{◌≡◌, ℕ, List, [], ◌∷◌, map, Option, Some, None, slice_get}
use Rattle.gos_lex.specs.Lines.{Word}
use Rattle.gos_types.specs.Types.{Type'}
use Rattle.gos_syntax.specs.Modules.{SeenModule}
use Rattle.gos_netlist.specs.Nets.{Give, Netlist}
use Rattle.gos_model.specs.Typing.{Imports, Typed}
use Rattle.gos_model.specs.Moves.{Program}
use Rattle.gos_model.specs.Sources.{program_of}
use Rattle.gos_model.specs.Linking.{Instances, Bind, substituted}
use Rattle.gos_link.specs.declared.services.Service.{Service}
use Rattle.gos_linked.specs.linked.Linked.{name_if}
use Rattle.gos_tool.specs.circuits.Circuit.{face_of, taken_face}

-- the imports of a program that there is, or of none
abbrev pub imports_if : Option Program → Imports
imports_if None = []
imports_if (Some p) = p.imports

-- what a service binds, among these programs
abbrev pub bind_in : Instances → Service → Bind
bind_in ps s = record { user = s.user; import = name_if (slice_get (imports_if (slice_get ps s.user)) s.import); giver = s.giver }

-- the root's program, in which each import that is served is the program of its giver
abbrev pub program_along : List SeenModule → List Service → ℕ → Program
program_along ms ss root = substituted (map program_of ms) (map (bind_in (map program_of ms)) ss) root

-- the program has this type, under its imports
abbrev pub IsTyped : Program → Type' → Type 0
IsTyped p t = Typed p.imports [] p.body t

-- the netlist's ports: that of the root gives what the program is, and each import is taken
pub record HasPorts (root : Word) (p : Program) (net : Netlist) : Type 0 where
  pub ty : Type'
  pub typed : IsTyped p ty
  pub are : map face_of net.ports ≡ record { name = root; side = Give; ty = ty } ∷ map taken_face p.imports
