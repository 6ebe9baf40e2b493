-- The table of arrivals: the entries of a new one, and how one entry is filled.
use Rattle.std.specs.Prelude.{Option, None, Some}
use Rattle.std.proofs.Common.{◌≡◌, ℕ, zero, suc, ◌&&◌, nat_eq, length, ◌≤◌, false, List, [], ◌∷◌, Vec, Global, slice_get, slice_set, get_or, refl, ap, arith, ◌∙◌, map}
use Rattle.gos_types.specs.Types.{type_of}
use Rattle.gos_plan.specs.declared.kinds.Kind.{Kind}
use Rattle.gos_plan.specs.declared.plan.PlanImport.{PlanImport}
use Rattle.gos_plan.specs.Kinds.{Contact, contacts_of, other_side, part_contacts}
use Rattle.gos_plan.specs.Contacts.{held_contact, contact_held}
use Rattle.gos_plan.specs.Plans.{PartEnd, ImportEnd, ResultEnd, contacts_of_part, contacts_of_import, turned_if}
use Rattle.gos_plan.specs.Seen.{SeenPlan, plan_of, part_of, import_of}
use Rattle.gos_expand.specs.declared.arrivals.Origin.{Origin}
use Rattle.gos_expand.specs.declared.arrivals.Arrival.{Arrival}
use Rattle.gos_expand.specs.declared.arrivals.Arrivals.{Arrivals}
use Rattle.gos_expand.specs.inner.Arrivals.{new_arrival, arrival_in, arrival_if, AreAt, filled_if}

pub entries_held : (cs : List Contact) → map (λ c. new_arrival (contact_held c)) (map held_contact cs) ≡ map new_arrival cs
entries_held [] = refl
entries_held (c ∷ cs) = rw (entries_held cs) refl

entry_of_list : (cs : List Contact) (h : ℕ) → slice_get (map new_arrival cs) h ≡ arrival_if None (slice_get cs h)
entry_of_list [] h = refl
entry_of_list (c ∷ cs) zero = refl
entry_of_list (c ∷ cs) (suc h) = entry_of_list cs h

entry_of_kinds : (kinds : List Kind) (i h : ℕ)
    → arrival_in (slice_get (map (λ k. map new_arrival (part_contacts (part_of k))) kinds) i) h
    ≡ arrival_if None (slice_get (contacts_of_part (slice_get (map part_of kinds) i)) h)
entry_of_kinds [] i h = refl
entry_of_kinds (k ∷ ks) zero h = entry_of_list (part_contacts (part_of k)) h
entry_of_kinds (k ∷ ks) (suc i) h = entry_of_kinds ks i h

entry_of_imports : (is : List PlanImport) (i h : ℕ)
    → arrival_in (slice_get (map (λ i. map new_arrival (contacts_of (type_of i.ty))) is) i) h
    ≡ arrival_if None (slice_get (contacts_of_import (slice_get (map import_of is) i)) h)
entry_of_imports [] i h = refl
entry_of_imports (x ∷ xs) zero h = entry_of_list (contacts_of (type_of x.ty)) h
entry_of_imports (x ∷ xs) (suc i) h = entry_of_imports xs i h

turned_there : (cs : List Contact) (h : ℕ) → slice_get (other_side cs) h ≡ turned_if (slice_get cs h)
turned_there [] h = refl
turned_there (c ∷ cs) zero = refl
turned_there (c ∷ cs) (suc h) = turned_there cs h

-- a table of these entries has none that begins
pub new_table : (p : SeenPlan) (table : Arrivals)
    → map (λ s. s.items) table.parts.items ≡ map (λ k. map new_arrival (part_contacts (part_of k))) p.parts
    → map (λ s. s.items) table.imports.items ≡ map (λ i. map new_arrival (contacts_of (type_of i.ty))) p.imports
    → table.result.items ≡ map new_arrival (other_side (contacts_of (type_of p.outcome)))
    → AreAt (plan_of p) (λ e. None) table
new_table p table of_parts of_imports of_result (PartEnd i h) =
    ap (λ (lists : List (List Arrival)). arrival_in (slice_get lists i) h) of_parts ∙ entry_of_kinds p.parts i h
new_table p table of_parts of_imports of_result (ImportEnd i h) =
    ap (λ (lists : List (List Arrival)). arrival_in (slice_get lists i) h) of_imports ∙ entry_of_imports p.imports i h
new_table p table of_parts of_imports of_result (ResultEnd h) =
    ap (λ (list : List Arrival). slice_get list h) of_result
    ∙ (entry_of_list (other_side (contacts_of (type_of p.outcome))) h ∙ ap (arrival_if None) (turned_there (contacts_of (type_of p.outcome)) h))

pub not_filled : (origin : Origin) (o : Option Arrival) → o ≡ filled_if false origin o
not_filled origin None = refl
not_filled origin (Some a) = refl

-- an entry of one of several lists is filled
pub filled_of : (lists : List (Vec Arrival Global)) (at shake : ℕ) (origin : Origin) (old new : Vec Arrival Global) → old ≡ get_or lists at old
    → ((h : ℕ) → slice_get new.items h ≡ filled_if (nat_eq h shake) origin (slice_get old.items h))
    → (i h : ℕ) → arrival_in (slice_get (map (λ s. s.items) (slice_set lists at new)) i) h
    ≡ filled_if (nat_eq i at && nat_eq h shake) origin (arrival_in (slice_get (map (λ s. s.items) lists) i) h)
filled_of [] at shake origin old new e f i h = refl
filled_of (x ∷ xs) zero shake origin old new e f zero h =
    f h ∙ ap (λ (v : Vec Arrival Global). filled_if (nat_eq h shake) origin (slice_get v.items h)) e
filled_of (x ∷ xs) zero shake origin old new e f (suc i) h =
    let other : nat_eq (suc i) 0 ≡ false = grind arith in
    rw other (not_filled origin (arrival_in (slice_get (map (λ s. s.items) xs) i) h))
filled_of (x ∷ xs) (suc at) shake origin old new e f zero h =
    let other : nat_eq 0 (suc at) ≡ false = grind arith in
    rw other (not_filled origin (slice_get x.items h))
filled_of (x ∷ xs) (suc at) shake origin old new e f (suc i) h =
    let same : nat_eq (suc i) (suc at) ≡ nat_eq i at = grind arith in
    rw same (filled_of xs at shake origin old new e f i h)

-- where there is no such list, none is
pub none_filled : (lists : List (Vec Arrival Global)) (at shake : ℕ) (origin : Origin) → length lists ≤ at
    → (i h : ℕ) → arrival_in (slice_get (map (λ s. s.items) lists) i) h
    ≡ filled_if (nat_eq i at && nat_eq h shake) origin (arrival_in (slice_get (map (λ s. s.items) lists) i) h)
none_filled [] at shake origin over i h = refl
none_filled (x ∷ xs) zero shake origin over i h = absurd (grind (arith, over))
none_filled (x ∷ xs) (suc at) shake origin over zero h =
    let other : nat_eq 0 (suc at) ≡ false = grind arith in
    rw other (not_filled origin (slice_get x.items h))
none_filled (x ∷ xs) (suc at) shake origin over (suc i) h =
    let same : nat_eq (suc i) (suc at) ≡ nat_eq i at = grind arith in
    rw same (none_filled xs at shake origin (grind (arith, over)) i h)
