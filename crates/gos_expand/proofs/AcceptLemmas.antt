-- The netlist of a plan that can be laid out is accepted, if it has no combinational cycle; where all directions keep
-- registers it has none.
--
-- Read first: Acceptance. What is asked of the program's plan gives what the other lemmas want of it (FlowLemmas);
-- they show that cells are right (GoodLemmas), that ports are (RightPortLemmas), and that no ring of gates closes where
-- all directions keep registers (RingLemmas).
use Rattle.std.proofs.Common.{◌≡◌, ℕ, zero, suc, List, [], ◌∷◌, Option, map, slice_get, Some, All, refl, ap, subst}
use Rattle.std.specs.Prelude.{None}
use Rattle.std.specs.List.{AllByRecursion}
use Rattle.std.proofs.lemmas.Option.{none-some, same_Some, slice_get_within, get_or_from_slice_get}
use Rattle.gos_types.specs.Types.{Type', IsGround, type_of}
use Rattle.gos_plan.specs.declared.plan.PlanImport.{PlanImport}
use Rattle.gos_plan.specs.Kinds.{Part, Contact, contacts_of, part_contacts, turned_contact}
use Rattle.gos_model.specs.Typing.{Imported}
use Rattle.gos_plan.specs.Plans.{End, PartEnd, ImportEnd, ResultEnd, Plan, contacts_of_part, contacts_of_import, turned_if, contact_at}
use Rattle.gos_plan.specs.Ranges.{IsInRange}
use Rattle.gos_types.specs.Widths.{HasWidths}
use Rattle.gos_plan.specs.Seen.{SeenPlan, part_of, import_of, plan_of}
use Rattle.gos_macro.specs.Fit.{GatesFit}
use Rattle.gos_expand.specs.Gates.{Making, layout, outs_of}
use Rattle.gos_expand.proofs.KeptLemmas.{all_fit}
use Rattle.gos_expand.specs.Acceptance.{AreDifferent, CanBeLaid, CircuitIsAccepted, LaidIsAccepted, AllCutCycles}
use Rattle.gos_expand.proofs.NarrowLemmas.{IsNarrow, one_narrow, narrow_kind, narrow_type}
use Rattle.gos_expand.specs.Starts.{plain, Laying, keep_all}
use Rattle.gos_expand.proofs.NetLemmas.{IsCut, IsAny}
use Rattle.gos_expand.proofs.FlowLemmas.{IsSound, cells_of, any_arriving, cut_arriving}
use Rattle.gos_expand.proofs.GoodLemmas.{all_good}
use Rattle.gos_expand.proofs.RingLemmas.{no_cycle}
use Rattle.gos_expand.proofs.RightPortLemmas.{ports_fit}

-- elements of a mapped list, and of one whose elements all have a property

pub mapped_found : {A B : Type 0} (f : A → B) (xs : List A) (i : ℕ) (y : B) → slice_get (map f xs) i ≡ Some y
    → (x : A) × (slice_get xs i ≡ Some x) × (f x ≡ y)
mapped_found f [] i y is = absurd (none-some y is)
mapped_found f (x ∷ xs) zero y is = (x, refl, same_Some (f x) y is)
mapped_found f (x ∷ xs) (suc i) y is = mapped_found f xs i y is

pub one_of_all : {A : Type 0} (P : A → Type 0) (xs : List A) (i : ℕ) (x : A) → All P xs → slice_get xs i ≡ Some x → P x
one_of_all P xs i x all is = subst P (get_or_from_slice_get xs i x x is) (all i x (slice_get_within xs i x is))

-- the plan of the program, in the words of the other lemmas

part_fits : (m : Making) (p : SeenPlan) (root : List ℕ) → CanBeLaid p root → (i : ℕ) (k : Part) → slice_get (plan_of p).parts i ≡ Some k
    → GatesFit k (layout m k) (outs_of m k)
part_fits m p root can i k is =
    let (kind, found, same) = mapped_found part_of p.parts i k is in
    let fits = all_fit m kind (one_of_all IsInRange p.parts i kind can.in_range.of_parts found) in
    subst (λ (x : Part). GatesFit x (layout m x) (outs_of m x)) same fits

import_ground : (p : SeenPlan) (root : List ℕ) → CanBeLaid p root → (i : ℕ) (t : Imported) → slice_get (plan_of p).imports i ≡ Some t
    → IsGround t.ty × HasWidths t.ty
import_ground p root can i t is =
    let (x, found, same) = mapped_found import_of p.imports i t is in
    let ground = one_of_all (λ y. IsGround (type_of y.ty)) p.imports i x can.ports.ground found in
    let small = one_of_all (λ y. HasWidths (type_of y.ty)) p.imports i x (λ k d low. (can.in_range.of_imports k d low).0) found in
    subst (λ (y : Imported). IsGround y.ty × HasWidths y.ty) same (ground, small)

narrow_part : (p : SeenPlan) (root : List ℕ) → CanBeLaid p root → (i h : ℕ) (c : Contact) (o : Option Part)
    → slice_get (plan_of p).parts i ≡ o
    → slice_get (contacts_of_part o) h ≡ Some c → IsNarrow c
narrow_part p root can i h c None at is = absurd (none-some c is)
narrow_part p root can i h c (Some k) at is =
    let (kind, found, same) = mapped_found part_of p.parts i k at in
    let all = narrow_kind kind (one_of_all IsInRange p.parts i kind can.in_range.of_parts found) in
    one_narrow (part_contacts k) h c (subst (λ (x : Part). AllByRecursion IsNarrow (part_contacts x)) same all) is

narrow_import : (p : SeenPlan) (root : List ℕ) → CanBeLaid p root → (i h : ℕ) (c : Contact) (o : Option Imported)
    → slice_get (plan_of p).imports i ≡ o
    → slice_get (contacts_of_import o) h ≡ Some c → IsNarrow c
narrow_import p root can i h c None at is = absurd (none-some c is)
narrow_import p root can i h c (Some t) at is =
    one_narrow (contacts_of t.ty) h c (narrow_type t.ty (import_ground p root can i t at).1) is

narrow_outcome : (t : Type') → HasWidths t → (h : ℕ) (c : Contact) (o : Option Contact) → slice_get (contacts_of t) h ≡ o
    → turned_if o ≡ Some c → IsNarrow c
narrow_outcome t widths h c None at is = absurd (none-some c is)
narrow_outcome t widths h c (Some d) at is =
    let here : IsNarrow (turned_contact d) = one_narrow (contacts_of t) h d (narrow_type t widths) at in
    subst IsNarrow (same_Some (turned_contact d) c is) here

narrow : (p : SeenPlan) (root : List ℕ) → CanBeLaid p root → (e : End) (c : Contact) → contact_at (plan_of p) e ≡ Some c → IsNarrow c
narrow p root can (PartEnd i h) c is = narrow_part p root can i h c (slice_get (plan_of p).parts i) refl is
narrow p root can (ImportEnd i h) c is = narrow_import p root can i h c (slice_get (plan_of p).imports i) refl is
narrow p root can (ResultEnd h) c is =
    narrow_outcome (type_of p.outcome) can.in_range.of_result.0 h c (slice_get (contacts_of (type_of p.outcome)) h) refl is

pub sound : (lay : Laying) (p : SeenPlan) (root : List ℕ) → CanBeLaid p root → IsSound lay (plan_of p)
sound lay p root can =
    record {
      gates = λ i. part_fits (lay.making i) p root can i;
      narrow = narrow p root can;
      right = can.right;
      done = can.ports.result;
      done_widths = can.in_range.of_result.0;
      grounds = λ i t is. (import_ground p root can i t is).0;
      ground_widths = λ i t is. (import_ground p root can i t is).1;
    }

pub same_names : (ts : List PlanImport) → map (λ (i : PlanImport). i.name) ts ≡ map (λ (x : Imported). x.name) (map import_of ts)
same_names [] = refl
same_names (t ∷ ts) = ap (λ (names : List (List ℕ)). t.name ∷ names) (same_names ts)

pub circuit_accepted : CircuitIsAccepted
circuit_accepted lay p root can acyclic =
    let plan : Plan = plan_of p in
    let fits = sound lay p root can in
    let good = all_good IsAny lay plan (any_arriving lay) fits in
    let different = subst (λ (names : List (List ℕ)). AreDifferent (root ∷ names)) (same_names p.imports) can.names in
    record {
      nets = λ k c is. (good k c is).exist;
      widths = λ k c is. (good k c is).fit;
      ports = ports_fit lay plan fits root different;
      acyclic = acyclic;
    }

pub laid_accepted : LaidIsAccepted
laid_accepted keep = circuit_accepted (plain keep)

-- where all directions keep registers, what comes in is cut
pub all_cut : AllCutCycles
all_cut p root can =
    no_cycle (cells_of (plain keep_all) (plan_of p)) (all_good IsCut (plain keep_all) (plan_of p) cut_arriving (sound (plain keep_all) p root can))
