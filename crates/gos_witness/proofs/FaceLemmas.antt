-- Ports that have the names and types of a root and of open imports are a program's.
use Rattle.std.proofs.Common.{◌≡◌, ◌<◌, ℕ, zero, suc, Some, arith, List, [], ◌∷◌, length, map, refl, sym, ap, subst, ◌∙◌}
use Rattle.std.specs.Prelude.{slice_get}
use Rattle.std.proofs.lemmas.Option.{none-some}
use Rattle.std.specs.List.{AllByRecursion}
use Rattle.gos_syntax.specs.Modules.{SeenModule}
use Rattle.gos_types.specs.Types.{type_of}
use Rattle.gos_netlist.specs.Seen.{ground_type}
use Rattle.gos_netlist.specs.Writable.{IsPortType}
use Rattle.gos_model.specs.Terms.{Name, Term}
use Rattle.gos_model.specs.Typing.{Imported, Imports}
use Rattle.gos_model.specs.Moves.{Program}
use Rattle.gos_witness.specs.declared.binding.Bound.{Bound}
use Rattle.gos_witness.specs.declared.program.ProgramPort.{ProgramPort}
use Rattle.gos_witness.specs.Ports.{AreApart, ArePorts, imported, imports_of}
use Rattle.gos_witness.specs.Substituted.{AreLinkable, MayBePorts, NamesDiffer, linked_program, outcome_if, root_port}
use Rattle.gos_witness.specs.inner.TraceParts.{IsNamed}
use Rattle.gos_witness.proofs.OpenLemmas.{MayBeTaken}

-- the names of faces
abbrev names : Imports → List Name
names = map (λ (x : Imported). x.name)

name_at : (ports : List ProgramPort) (i : ℕ) (p : ProgramPort) → slice_get ports i ≡ Some p → slice_get (names (map imported ports)) i ≡ Some p.name
name_at [] i p at = absurd (none-some p at)
name_at (q ∷ ports) zero p at = let same : q ≡ p = cc at in ap (λ (x : ProgramPort). Some x.name) same
name_at (q ∷ ports) (suc i) p at = name_at ports i p at

apart_of : (ports : List ProgramPort) → NamesDiffer (names (map imported ports)) → AreApart ports
apart_of ports differ = λ i j p q a b same. differ i j p.name (name_at ports i p a) (name_at ports j q b ∙ ap (λ (x : Name). Some x) (sym same))

types_of : (ports : List ProgramPort) → MayBeTaken (map imported ports) → AllByRecursion (λ p. IsPortType (ground_type p.ground)) ports
types_of [] all = tt
types_of (p ∷ ports) all = (all.0, types_of ports all.1)

count_of : (ports : List ProgramPort) → length ports ≡ length (map imported ports)
count_of [] = refl
count_of (p ∷ ports) = ap suc (count_of ports)

-- the root has a result, which may be a port's
result_taken : (ms : List SeenModule) (root : ℕ) → root < length ms → ((m : SeenModule) → slice_get ms root ≡ Some m → IsPortType (type_of m.result))
    → IsPortType (outcome_if (slice_get ms root))
result_taken [] root low taken = absurd (omega (arith, low))
result_taken (m ∷ ms) zero low taken = taken m refl
result_taken (m ∷ ms) (suc root) low taken = result_taken ms root (omega (arith, low)) taken

pub are_ports : (ms : List SeenModule) (bs : List Bound) (root : ℕ) (name : Name) (ports : List ProgramPort) → AreLinkable ms bs root
    → MayBePorts ms bs root name → map imported ports ≡ root_port ms root name ∷ (linked_program ms bs root).imports → AllByRecursion IsNamed ports
    → ArePorts ports
are_ports ms bs root name ports linkable may faces named =
    record { some = omega (arith, count); few = omega (arith, count, may.few); named = named; types = types_of ports taken; apart = apart_of ports differ }
  where
    count : length ports ≡ suc (length (linked_program ms bs root).imports)
    count = count_of ports ∙ ap length faces

    taken : MayBeTaken (map imported ports)
    taken = subst MayBeTaken (sym faces) (result_taken ms root linkable.there may.result, may.taken)

    differ : NamesDiffer (names (map imported ports))
    differ = subst (λ (is : Imports). NamesDiffer (names is)) (sym faces) may.apart

-- the program that they have
pub same_program : (ports : List ProgramPort) (r : Imported) (body : Term) (p : Program) → map imported ports ≡ r ∷ p.imports → body ≡ p.body
    → record { imports = imports_of ports; body = body } ≡ p
same_program [] r body p faces same = absurd (cc faces)
same_program (q ∷ ports) r body p faces same = λ i. record { imports = rest i; body = same i }
  where
    rest : map imported ports ≡ p.imports
    rest = cc faces
