-- The ports of the netlist that a plan is laid out as are those of the plan, however it is laid out; and they stay where it is made tidy.
use Rattle.std.proofs.Common.{◌≡◌, ◌<◌, ◌∙◌, ℕ, zero, suc, List, [], ◌∷◌, Some, map, length, All, slice_get, slice_index_or, refl, ap, sym, subst, arith}
use Rattle.gos_types.specs.Types.{Type', IsGround, type_of}
use Rattle.gos_lex.specs.Lines.{Word}
use Rattle.gos_model.specs.Typing.{Imported}
use Rattle.gos_netlist.specs.Nets.{Side, Give, NetPort}
use Rattle.gos_plan.specs.declared.plan.PlanImport.{PlanImport}
use Rattle.gos_plan.specs.Plans.{Plan}
use Rattle.gos_plan.specs.Seen.{import_of}
use Rattle.gos_realises.specs.realises.Realises.{AllGround, NamesDiffer}
use Rattle.gos_expand.specs.Starts.{Laying}
use Rattle.gos_expand.specs.Laid.{circuit, taken}
use Rattle.gos_expand.specs.Acceptance.{AreDifferent}
use Rattle.gos_tidy.specs.Alike.{face, SamePorts}
use Rattle.gos_linked.specs.keeping.Ports.{AreTaken, HasPorts}
use Rattle.gos_tool.specs.circuits.Circuit.{Face, face_of, taken_face, plan_faces}

taken_faces : (p : Plan) (k : ℕ) (is : List Imported) → map face_of (taken p k is) ≡ map taken_face is
taken_faces p k [] = refl
taken_faces p k (i ∷ is) = ap (λ (faces : List Face). taken_face i ∷ faces) (taken_faces p (suc k) is)

pub has_faces : (lay : Laying) (p : Plan) (root : Word) → map face_of (circuit lay p root).ports ≡ plan_faces root p
has_faces lay p root = ap (λ (faces : List Face). record { name = root; side = Give; ty = p.outcome } ∷ faces) (taken_faces p 1 p.imports)

are_taken : (p : Plan) (k : ℕ) (is : List Imported) → AreTaken is (taken p k is)
are_taken p k [] = tt
are_taken p k (i ∷ is) = (refl, refl, refl, are_taken p (suc k) is)

pub has_ports : (lay : Laying) (p : Plan) (root : Word) → HasPorts p (circuit lay p root).ports
has_ports lay p root = (refl, refl, are_taken p 1 p.imports)

-- what is told of a port by gos_tidy, as a face
abbrev of_told : List ℕ × Side × Type' → Face
of_told told = record { name = told.0; side = told.1; ty = told.2 }

told_faces : (ps : List NetPort) → map face_of ps ≡ map of_told (map face ps)
told_faces [] = refl
told_faces (p ∷ ps) = ap (λ (faces : List Face). face_of p ∷ faces) (told_faces ps)

pub same_faces : (ps qs : List NetPort) → SamePorts ps qs → map face_of qs ≡ map face_of ps
same_faces ps qs same = told_faces qs ∙ (ap (λ (told : List (List ℕ × Side × Type')). map of_told told) (sym same) ∙ sym (told_faces ps))

-- the element at a place
at_index : {X : Type 0} (xs : List X) (k : ℕ) (d : X) → k < length xs → slice_get xs k ≡ Some (slice_index_or xs k d)
at_index [] k d less = absurd (omega (arith, less))
at_index (x ∷ xs) zero d less = refl
at_index (x ∷ xs) (suc k) d less = at_index xs k d (omega (arith, less))

named_at : (is : List Imported) (k : ℕ) (j : Imported) → slice_get is k ≡ Some j → slice_get (map (λ (i : Imported). i.name) is) k ≡ Some j.name
named_at [] k j h = absurd (cc h)
named_at (i ∷ is) zero j h = let same : i ≡ j = cc h in ap (λ (i : Imported). Some i.name) same
named_at (i ∷ is) (suc k) j h = named_at is k j h

-- names of which no two are one
rest_differ : (x : Word) (xs : List Word) → AreDifferent (x ∷ xs) → AreDifferent xs
rest_differ x xs different = λ i j a b less here there. different (suc i) (suc j) a b (omega (arith, less)) here there

names_differ : (is : List Imported) → AreDifferent (map (λ (i : Imported). i.name) is) → NamesDiffer is
names_differ [] different = tt
names_differ (i ∷ is) different = (
  λ j has. different 0 (suc has.0) i.name j.name (omega arith) refl (named_at is has.0 j (at_index is has.0 j has.1 ∙ ap Some has.2)),
  names_differ is (rest_differ i.name (map (λ (i : Imported). i.name) is) different),
)

same_names : (is : List PlanImport) → map (λ (i : PlanImport). i.name) is ≡ map (λ (i : Imported). i.name) (map import_of is)
same_names [] = refl
same_names (i ∷ is) = ap (λ (names : List Word). i.name ∷ names) (same_names is)

pub imports_differ : (root : Word) (is : List PlanImport) → AreDifferent (root ∷ map (λ (i : PlanImport). i.name) is) → NamesDiffer (map import_of is)
imports_differ root is different =
    names_differ (map import_of is)
    (subst AreDifferent (same_names is) (rest_differ root (map (λ (i : PlanImport). i.name) is) different))

pub all_ground : (is : List PlanImport) → All (λ i. IsGround (type_of i.ty)) is → AllGround (map import_of is)
all_ground [] all = tt
all_ground (i ∷ is) all = (all 0 i (omega arith), all_ground is (λ k d less. all (suc k) d (omega (arith, less))))
