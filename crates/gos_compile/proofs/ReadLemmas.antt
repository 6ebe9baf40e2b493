-- The plan of a checked module has a text that is read back.
--
-- Read first: SlimLemmas, TextLemmas; ObjectText and ObjectFaults of gos_plan.
use Rattle.std.specs.Prelude.{◌≡◌, ℕ, zero, suc, ◌+◌, ◌≤◌, ◌<◌, ◌⊎◌, List, [], ◌∷◌, ◌++◌, Some, length, map, slice_get}
use Rattle.std.specs.List.{AllByRecursion}
use Rattle.std.proofs.Common.{refl, ap, sym, ◌∙◌, subst, arith, inl, inr}
use Rattle.std.proofs.lemmas.List.{length-map}
use Rattle.gos_lex.specs.Names.{IsNameOrWord}
use Rattle.gos_types.specs.declared.widths.TheConstants.{GREATEST_WIDTH}
use Rattle.gos_types.specs.Types.{Type', type_of}
use Rattle.gos_model.specs.Typing.{Imports}
use Rattle.gos_model.specs.Laws.{NodeHasType}
use Rattle.gos_check.specs.Checked.{SeenLinear, IsChecked, program_in}
use Rattle.gos_check.specs.Linearity.{import_at}
use Rattle.gos_check.specs.Nodes.{node_seen}
use Rattle.gos_plan.specs.declared.plan.PlanImport.{PlanImport}
use Rattle.gos_plan.specs.declared.format.Format.TheVariants.{Two}
use Rattle.gos_plan.specs.Kinds as kinds
use Rattle.gos_plan.specs.Kinds.{Part, Contact, contacts_of, part_contacts}
use Rattle.gos_plan.specs.Plans.{End, PartEnd, ImportEnd, ResultEnd, Joint, Plan, contact_at, contacts_of_part, contacts_of_import, AreRight}
use Rattle.gos_types.specs.Widths.{IsWidth}
use Rattle.gos_plan.specs.Seen.{import_of}
use Rattle.gos_plan.specs.ObjectText.{text_of, IsWritablePart, IsWritableImport, IsWritableEnd, IsWritableJoint, IsWritable, IsSmallType, IsSmallPart, IsSmallPlan}
use Rattle.gos_plan.specs.ObjectFaults.{IsRead}
use Rattle.gos_plan.proofs.FormatLemmas.{widths_written}
use Rattle.gos_realises.specs.realises.Regular.{count}
use Rattle.gos_realises.specs.realises.Slim.{all_shakes, IsSlim}
use Rattle.gos_compile.specs.Wiring.{type_of_node, all_parts, IsPlanOf}
use Rattle.gos_compile.specs.inner.Named.{HaveNames}
use Rattle.gos_compile.proofs.EndLemmas.{imports_shakes, short, turned_some}
use Rattle.gos_compile.proofs.LoadLemmas.{few_ends, some_weight}
use Rattle.gos_compile.proofs.RangeLemmas.{HasRange, IsFine, ImportsFine, written_fine, checked_range, node_typed}
use Rattle.gos_compile.proofs.SlimLemmas.{imports_weigh, few_parts}
use Rattle.gos_compile.proofs.TextLemmas.{text_length}

-- parts in range have a line, and small types
few_bits : (v : ℕ) → (v ≡ 0) ⊎ IsWidth v → v ≤ GREATEST_WIDTH
few_bits v (inl e) = omega (arith, e)
few_bits v (inr h) = h.1

part_writable : (k : Part) → HasRange k → IsWritablePart Two k × IsSmallPart k
part_writable kinds.Skip h = (tt, tt)
part_writable (kinds.Lit w k) h = (h, tt)
part_writable (kinds.Seq v) h = (few_bits v h, tt)
part_writable kinds.Par h = (tt, tt)
part_writable (kinds.If v) h = (few_bits v h, tt)
part_writable kinds.While h = (tt, tt)
part_writable (kinds.Op op w) h = (h, tt)
part_writable (kinds.Not w) h = (h, tt)
part_writable (kinds.Assign w) h = (h, tt)
part_writable (kinds.Deref w) h = (h, tt)
part_writable (kinds.Local w v) h = (h, tt)
part_writable (kinds.Array w n v) h = ((tt, h.0, h.1, h.2), tt)
part_writable (kinds.Share t) h = (widths_written t h.0, h.1)

parts_writable : (ks : List Part) → AllByRecursion HasRange ks → AllByRecursion (IsWritablePart Two) ks × AllByRecursion IsSmallPart ks
parts_writable [] h = (tt, tt)
parts_writable (k ∷ ks) (one, h) =
    let (writable, small) = part_writable k one in let (rest, others) = parts_writable ks h in ((writable, rest), (small, others))

-- imports with names
imports_writable : (is : List PlanImport) → HaveNames is → ImportsFine (map import_of is)
    → AllByRecursion (IsWritableImport Two) (map import_of is) × AllByRecursion (λ i. IsSmallType i.ty) (map import_of is)
imports_writable [] names fine = (tt, tt)
imports_writable (i ∷ is) (name, names) ((wide, small), fine) =
    let (rest, others) = imports_writable is names fine in (((name, widths_written (type_of i.ty) wide), rest), (small, others))

-- ends that are there have small numbers
part_end : (ks : List Part) (i h : ℕ) (c : Contact) → slice_get (contacts_of_part (slice_get ks i)) h ≡ Some c → (i < length ks) × (h < all_shakes ks)
part_end [] i h c e = cc
part_end (k ∷ ks) zero h c e = let low = short (part_contacts k) h c e in (omega arith, omega (arith, low))
part_end (k ∷ ks) (suc i) h c e = let (place, low) = part_end ks i h c e in (omega (arith, place), omega (arith, low))

import_end : (is : Imports) (i h : ℕ) (c : Contact) → slice_get (contacts_of_import (slice_get is i)) h ≡ Some c
    → (i < length is) × (h < imports_shakes is)
import_end [] i h c e = cc
import_end (x ∷ xs) zero h c e = let low = short (contacts_of x.ty) h c e in (omega arith, omega (arith, low))
import_end (x ∷ xs) (suc i) h c e = let (place, low) = import_end xs i h c e in (omega (arith, place), omega (arith, low))

abbrev IsFew : Plan → Type 0
IsFew p = length p.parts + all_shakes p.parts + length p.imports + imports_shakes p.imports + count p.outcome ≤ 65536

end_writable : (p : Plan) → IsFew p → (e : End) (c : Contact) → contact_at p e ≡ Some c → IsWritableEnd e
end_writable p few (PartEnd i h) c e = let (place, low) = part_end p.parts i h c e in (omega (arith, few, place), omega (arith, few, low))
end_writable p few (ImportEnd i h) c e = let (place, low) = import_end p.imports i h c e in (omega (arith, few, place), omega (arith, few, low))
end_writable p few (ResultEnd h) c e = let low = turned_some (contacts_of p.outcome) h c e in omega (arith, few, low)

joints_writable : (p : Plan) → IsFew p → (before js : List Joint) → AreRight p before js → AllByRecursion IsWritableJoint js
joints_writable p few before [] right = tt
joints_writable p few before (j ∷ js) (((q, v, asks, serves), free_asking, free_serving), rest) = (
  (end_writable p few j.asking _ asks, end_writable p few j.serving _ serves),
  joints_writable p few (j ∷ before) js rest,
)

-- the plan of a checked module, of at most 64 imports
pub reads_back : NodeHasType → (l : SeenLinear) → IsChecked l → (p : Plan) (imports : List PlanImport)
    → IsPlanOf (program_in l).imports (type_of l.result) l.weight (node_seen l.term) p → IsSlim p → p.imports ≡ map import_of imports
    → HaveNames imports → length l.imports ≤ 64 → IsRead (text_of p) p
reads_back law l c p imports plan slim seen names many = (
  record {
    format = Two;
    short = text_length p slim writable small;
    is = refl;
    writable = writable;
    small = small;
  },
  plan.right,
)
  where
    is : Imports
    is = (program_in l).imports

    limits : (length p.parts ≤ 16384) × (length p.joints ≤ 16384)
    limits = few_parts l c p plan.weight slim

    fine : ImportsFine (map import_of imports)
    fine = subst (λ (js : Imports). ImportsFine js) (sym plan.imports ∙ seen) (written_fine l.imports c.imports)

    result : IsFine p.outcome
    result = subst (λ (t : Type'). IsFine t) (sym plan.outcome) c.result

    ranges : AllByRecursion HasRange p.parts
    ranges = subst (λ (ks : List Part). AllByRecursion HasRange ks) (sym plan.parts) (checked_range law l c)

    few_there : length p.imports ≤ 64
    few_there =
        let same : length p.imports ≡ length is = ap (λ (js : Imports). length js) plan.imports in
        let size : length is ≡ length l.imports = simp length-map refl in
        omega (arith, same, size, many)

    few : IsFew p
    few =
        let ends = few_ends l c in
        let (some, weigh) = imports_weigh is in
        let of_result : count p.outcome ≡ count (type_of_node (node_seen l.term)) =
        ap (λ (t : Type'). count t) (plan.outcome ∙ sym (node_typed law is [] (import_at is) (node_seen l.term) (type_of l.result) c.term.types c.typed))
        in
        let shakes : all_shakes p.parts ≡ all_shakes (all_parts is (node_seen l.term)) = ap (λ (ks : List Part). all_shakes ks) plan.parts in
        let parts : length p.parts ≡ length (all_parts is (node_seen l.term)) = ap (λ (ks : List Part). length ks) plan.parts in
        let imports : length p.imports ≡ length is = ap (λ (xs : Imports). length xs) plan.imports in
        let of_imports : imports_shakes p.imports ≡ imports_shakes is = ap (λ (xs : Imports). imports_shakes xs) plan.imports in
        let limit = c.light in
        omega (arith, ends, some, weigh, of_result, shakes, parts, imports, of_imports, limit)

    writable : IsWritable Two p
    writable =
        record {
          weight = (let heavy = some_weight l c in let same = plan.weight in let limit = c.light in (omega (arith, heavy, same), omega (arith, same, limit)));
          imports = (
            omega (arith, few_there),
            subst (λ (js : Imports). AllByRecursion (IsWritableImport Two) js) (sym seen) (imports_writable imports names fine).0,
          );
          outcome = widths_written p.outcome result.0;
          parts = (let one = limits.0 in (omega (arith, one), (parts_writable p.parts ranges).0));
          joints = (let other = limits.1 in (omega (arith, other), joints_writable p few [] p.joints plan.right));
        }

    small : IsSmallPlan p
    small =
        record {
          imports = (few_there, subst (λ (js : Imports). AllByRecursion (λ i. IsSmallType i.ty) js) (sym seen) (imports_writable imports names fine).1);
          outcome = result.1;
          parts = (limits.0, (parts_writable p.parts ranges).1);
          joints = (let other = limits.1 in omega (arith, other));
        }

-- one import more
pub names_more : (is : List PlanImport) (i : PlanImport) → HaveNames is → IsNameOrWord i.name → HaveNames (is ++ i ∷ [])
names_more [] i names name = (name, tt)
names_more (j ∷ is) i (other, names) name = (other, names_more is i names name)
