-- The ends that there are are finitely many: a list has them all, and their pairs.
use Rattle.std.specs.Prelude.{◌≡◌, ℕ, zero, suc, List, [], ◌∷◌, ◌++◌, ◌⊎◌, Some, slice_get}
use Rattle.std.proofs.Common.{refl, ap, subst, inl, inr}
use Rattle.std.proofs.lemmas.Option.{none-some}
use Rattle.gos_model.specs.Typing.{Imported}
use Rattle.gos_plan.specs.Kinds.{Part, Contact, contacts_of}
use Rattle.gos_plan.specs.Plans.{End, PartEnd, ImportEnd, ResultEnd, Joint, Plan, contacts_of_part, contacts_of_import, contact_at}
use Rattle.gos_plan.proofs.JointLemmas.{IsIn, is_in_front, is_in_behind}
use Rattle.gos_plan.proofs.ContactLemmas.{turned_some}
use Rattle.gos_joining.specs.webs.Webs.{joint}

-- an end is one of these
abbrev pub Listed : End → List End → Type 0
Listed e [] = ⊥
Listed e (x ∷ xs) = (e ≡ x) ⊎ Listed e xs

listed_first : (e : End) (xs ys : List End) → Listed e xs → Listed e (xs ++ ys)
listed_first e [] ys h = absurd h
listed_first e (x ∷ xs) ys (inl is) = inl is
listed_first e (x ∷ xs) ys (inr later) = inr (listed_first e xs ys later)

listed_last : (e : End) (xs ys : List End) → Listed e ys → Listed e (xs ++ ys)
listed_last e [] ys h = h
listed_last e (x ∷ xs) ys h = inr (listed_last e xs ys h)

-- the ends of a place with these contacts
abbrev of_contacts : (ℕ → End) → List Contact → List End
of_contacts e [] = []
of_contacts e (k ∷ ks) = e 0 ∷ of_contacts (λ h. e (suc h)) ks

of_contact : (e : ℕ → End) (ks : List Contact) (h : ℕ) (k : Contact) → slice_get ks h ≡ Some k → Listed (e h) (of_contacts e ks)
of_contact e [] h k at = absurd (none-some k at)
of_contact e (x ∷ ks) zero k at = inl refl
of_contact e (x ∷ ks) (suc h) k at = inr (of_contact (λ h. e (suc h)) ks h k at)

-- the ends of these parts, and of these imports
abbrev of_parts : (ℕ → ℕ → End) → List Part → List End
of_parts e [] = []
of_parts e (x ∷ xs) = of_contacts (e 0) (contacts_of_part (Some x)) ++ of_parts (λ i. e (suc i)) xs

of_part : (e : ℕ → ℕ → End) (xs : List Part) (i h : ℕ) (k : Contact) → slice_get (contacts_of_part (slice_get xs i)) h ≡ Some k → Listed (e i h) (of_parts e xs)
of_part e [] i h k at = absurd (none-some k at)
of_part e (x ∷ xs) zero h k at =
    listed_first (e 0 h) (of_contacts (e 0) (contacts_of_part (Some x))) (of_parts (λ i. e (suc i)) xs)
    (of_contact (e 0) (contacts_of_part (Some x)) h k at)
of_part e (x ∷ xs) (suc i) h k at =
    listed_last (e (suc i) h) (of_contacts (e 0) (contacts_of_part (Some x))) (of_parts (λ i. e (suc i)) xs)
    (of_part (λ i. e (suc i)) xs i h k at)

abbrev of_imports : (ℕ → ℕ → End) → List Imported → List End
of_imports e [] = []
of_imports e (x ∷ xs) = of_contacts (e 0) (contacts_of_import (Some x)) ++ of_imports (λ i. e (suc i)) xs

of_import : (e : ℕ → ℕ → End) (xs : List Imported) (i h : ℕ) (k : Contact) → slice_get (contacts_of_import (slice_get xs i)) h ≡ Some k → Listed (e i h) (of_imports e xs)
of_import e [] i h k at = absurd (none-some k at)
of_import e (x ∷ xs) zero h k at =
    listed_first (e 0 h) (of_contacts (e 0) (contacts_of_import (Some x))) (of_imports (λ i. e (suc i)) xs)
    (of_contact (e 0) (contacts_of_import (Some x)) h k at)
of_import e (x ∷ xs) (suc i) h k at =
    listed_last (e (suc i) h) (of_contacts (e 0) (contacts_of_import (Some x))) (of_imports (λ i. e (suc i)) xs)
    (of_import (λ i. e (suc i)) xs i h k at)

abbrev pub part_ends : Plan → List End
part_ends c = of_parts PartEnd c.parts

abbrev pub port_ends : Plan → List End
port_ends c = of_imports ImportEnd c.imports ++ of_contacts ResultEnd (contacts_of c.outcome)

-- all ends
abbrev pub ends_of : Plan → List End
ends_of c = part_ends c ++ port_ends c

pub there : (c : Plan) (e : End) (k : Contact) → contact_at c e ≡ Some k → Listed e (ends_of c)
there c (PartEnd i h) k at = listed_first (PartEnd i h) (part_ends c) (port_ends c) (of_part PartEnd c.parts i h k at)
there c (ImportEnd i h) k at =
    listed_last (ImportEnd i h) (part_ends c) (port_ends c)
    (listed_first (ImportEnd i h) (of_imports ImportEnd c.imports) (of_contacts ResultEnd (contacts_of c.outcome)) (of_import ImportEnd c.imports i h k at))
there c (ResultEnd h) k at =
    let (l, here) = turned_some (slice_get (contacts_of c.outcome) h) k at in
    listed_last (ResultEnd h) (part_ends c) (port_ends c)
    (listed_last (ResultEnd h) (of_imports ImportEnd c.imports) (of_contacts ResultEnd (contacts_of c.outcome))
    (of_contact ResultEnd (contacts_of c.outcome) h l here))

-- all pairs
abbrev with_each : End → List End → List Joint
with_each a [] = []
with_each a (b ∷ bs) = joint a b ∷ with_each a bs

abbrev pub pairs : List End → List End → List Joint
pairs [] bs = []
pairs (a ∷ xs) bs = with_each a bs ++ pairs xs bs

with_one : (a b : End) (bs : List End) → Listed b bs → IsIn (joint a b) (with_each a bs)
with_one a b [] h = absurd h
with_one a b (x ∷ bs) (inl is) = inl (ap (joint a) is)
with_one a b (x ∷ bs) (inr later) = inr (with_one a b bs later)

pub pair : (a b : End) (xs bs : List End) → Listed a xs → Listed b bs → IsIn (joint a b) (pairs xs bs)
pair a b [] bs h other = absurd h
pair a b (x ∷ xs) bs (inl is) other =
    is_in_front (joint a b) (with_each x bs) (pairs xs bs)
    (subst (λ (y : End). IsIn (joint a b) (with_each y bs)) is (with_one a b bs other))
pair a b (x ∷ xs) bs (inr later) other = is_in_behind (joint a b) (with_each x bs) (pairs xs bs) (pair a b xs bs later other)
