-- Ports of a program, and labels that name a port by its number.
--
-- Read first: Labels of gos_model. The root's port is number 0; behind it stand those of the open imports.
use Rattle.std.specs.Prelude.{◌≡◌, ◌<◌, ◌≤◌, ℕ, zero, suc, List, [], ◌∷◌, Option, Some, None, length, map, slice_get}
use Rattle.std.specs.List.{AllByRecursion}
use Rattle.gos_lex.specs.Names.{IsNameOrWord}
use Rattle.gos_netlist.specs.Seen.{ground_type}
use Rattle.gos_netlist.specs.Writable.{IsPortType}
use Rattle.gos_model.specs.Terms.{Name}
use Rattle.gos_model.specs.Typing.{Imported, Imports}
use Rattle.gos_model.specs.Labels as shown
use Rattle.gos_witness.specs.declared.labels.Label.{Label}
use Rattle.gos_witness.specs.declared.program.ProgramPort.{ProgramPort}

-- the import that a port is of
abbrev pub imported : ProgramPort → Imported
imported p = record { name = p.name; ty = ground_type p.ground }

-- the open imports
abbrev pub imports_of : List ProgramPort → Imports
imports_of [] = []
imports_of (root ∷ ports) = map imported ports

-- the name of a port that there is
abbrev pub name_of : Option ProgramPort → Name
name_of None = []
name_of (Some p) = p.name

-- a port by its number
abbrev pub port_of : List ProgramPort → ℕ → shown.Port
port_of ports zero = shown.Given
port_of ports (suc n) = shown.Taken (name_of (slice_get ports (suc n)))

-- a label
abbrev pub label_of : List ProgramPort → Label → shown.Label
label_of ports o = record { port = port_of ports o.port; event = o.place; value = o.value }

abbrev pub labels_of : List ProgramPort → List Label → List shown.Label
labels_of ports = map (label_of ports)

-- labels of these ports
abbrev pub AreOfPorts : List ProgramPort → List Label → Type 0
AreOfPorts ports [] = Unit {0}
AreOfPorts ports (o ∷ labels) = (o.port < length ports) × AreOfPorts ports labels

-- no two ports have one name
abbrev pub AreApart : List ProgramPort → Type 0
AreApart ports = (i j : ℕ) (p q : ProgramPort) → slice_get ports i ≡ Some p → slice_get ports j ≡ Some q → p.name ≡ q.name → i ≡ j

-- ports of a program: there is one, their numbers are below 2^32, and no two have one name
pub record ArePorts (ports : List ProgramPort) : Type 0 where
  pub some : 0 < length ports
  pub few : length ports ≤ 4294967296
  pub named : AllByRecursion (λ p. IsNameOrWord p.name) ports
  pub types : AllByRecursion (λ p. IsPortType (ground_type p.ground)) ports
  pub apart : AreApart ports
