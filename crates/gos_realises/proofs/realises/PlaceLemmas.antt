-- Elements of lists by their places; and imports of different names, which stand at one place each.
use Rattle.std.specs.Prelude.{◌≡◌, ◌≢◌, ℕ, zero, suc, Bool, true, false, List, [], ◌∷◌, ◌++◌, ◌⊎◌, Some, Contains, slice_get, if◌then◌else◌}
use Rattle.std.specs.Str.{bytes_eq}
use Rattle.std.proofs.Common.{refl, sym, ◌∙◌, ap, subst, arith, inl, inr}
use Rattle.std.proofs.lemmas.List.Elements.{Contains-append_left, Contains-append_right, Contains-append_cases}
use Rattle.std.proofs.lemmas.Option.{slice_get_within, get_or_from_slice_get}
use Rattle.gos_types.specs.Types.{Type', IsGround, IsPort}
use Rattle.gos_model.specs.Terms.{Name}
use Rattle.gos_model.specs.Typing.{Imported, Imports, import_type}
use Rattle.gos_realises.specs.realises.Realises.{AllGround, AllPorts, NamesDiffer, HaveOtherNames}

-- what stands at a place is contained, and what is contained stands at one
pub contains_at : {X : Type 0} (xs : List X) (k : ℕ) (x : X) → slice_get xs k ≡ Some x → Contains xs x
contains_at xs k x e = (k, slice_get_within xs k x e, get_or_from_slice_get xs k x x e)

pub place_of : {X : Type 0} (xs : List X) (x : X) → Contains xs x → (k : ℕ) × (slice_get xs k ≡ Some x)
place_of [] x (k, small, e) = absurd (omega (arith, small))
place_of (y ∷ xs) x (zero, small, e) = (0, ap Some e)
place_of (y ∷ xs) x (suc k, small, e) = let (n, at) = place_of xs x (k, omega (arith, small), e) in (suc n, at)

-- each import is a port
pub port_among : (is : List Imported) → AllPorts is → (i : Imported) → Contains is i → IsPort i.ty
port_among [] all i (k, small, e) = absurd (omega (arith, small))
port_among (x ∷ is) all i (zero, small, e) = subst (λ (y : Imported). IsPort y.ty) e all.0
port_among (x ∷ is) all i (suc k, small, e) = port_among is all.1 i (k, omega (arith, small), e)

pub ports_by : (is : List Imported) → ((i : Imported) → Contains is i → IsPort i.ty) → AllPorts is
ports_by [] each = tt
ports_by (x ∷ is) each = (each x (0, omega arith, refl), ports_by is (λ i has. each i (suc has.0, (let small = has.1 in omega (arith, small)), has.2)))

-- so has the import of a name; and each is a port where all are
some_type : (a b : Type') → Some a ≡ Some b → a ≡ b
some_type a b e = cc

pub ground_import : (is : Imports) → AllGround is → (x : Name) (t : Type') → import_type is x ≡ Some t → IsGround t
ground_import [] all x t e = absurd (cc e)
ground_import (i ∷ is) all x t e = tested (bytes_eq i.name x) e (ground_import is all.1 x t)
  where
    tested : (b : Bool) → (if b then Some i.ty else import_type is x) ≡ Some t → (import_type is x ≡ Some t → IsGround t) → IsGround t
    tested true same further = subst IsGround (some_type i.ty t same) all.0
    tested false other further = further other

pub port_import : (is : Imports) → AllPorts is → (x : Name) (t : Type') → import_type is x ≡ Some t → IsPort t
port_import [] all x t e = absurd (cc e)
port_import (i ∷ is) all x t e = tested (bytes_eq i.name x) e (port_import is all.1 x t)
  where
    tested : (b : Bool) → (if b then Some i.ty else import_type is x) ≡ Some t → (import_type is x ≡ Some t → IsPort t) → IsPort t
    tested true same further = subst IsPort (some_type i.ty t same) all.0
    tested false other further = further other

-- imports of one name stand at one place
abbrev pub DifferAt : List Imported → Type 0
DifferAt is = (m n : ℕ) (i j : Imported) → slice_get is m ≡ Some i → slice_get is n ≡ Some j → i.name ≡ j.name → m ≡ n

pub differ_at : (is : List Imported) → NamesDiffer is → DifferAt is
differ_at [] differ m n i j at_m at_n e = absurd (cc at_m)
differ_at (x ∷ is) differ zero zero i j at_m at_n e = refl
differ_at (x ∷ is) differ zero (suc n) i j at_m at_n e =
    let same : x ≡ i = cc at_m in absurd (differ.0 j (contains_at is n j at_n) (ap (λ (y : Imported). y.name) same ∙ e))
differ_at (x ∷ is) differ (suc m) zero i j at_m at_n e =
    let same : x ≡ j = cc at_n in absurd (differ.0 i (contains_at is m i at_m) (ap (λ (y : Imported). y.name) same ∙ sym e))
differ_at (x ∷ is) differ (suc m) (suc n) i j at_m at_n e = ap suc (differ_at is differ.1 m n i j at_m at_n e)

pub at_differ : (is : List Imported) → DifferAt is → NamesDiffer is
at_differ [] differ = tt
at_differ (x ∷ is) differ = (
  λ j has e. (let (n, at) = place_of is j has in let same = differ 0 (suc n) x j refl at e in omega (arith, same)),
  at_differ is (λ m n i j at_m at_n e. (let same = differ (suc m) (suc n) i j at_m at_n e in omega (arith, same))),
)

-- imports one behind the other
pub differ_first : (is js : List Imported) → NamesDiffer (is ++ js) → NamesDiffer is
differ_first [] js differ = tt
differ_first (i ∷ is) js differ = (λ j has. differ.0 j (Contains-append_left is js j has), differ_first is js differ.1)

pub differ_second : (is js : List Imported) → NamesDiffer (is ++ js) → NamesDiffer js
differ_second [] js differ = differ
differ_second (i ∷ is) js differ = differ_second is js differ.1

pub differ_between : (is js : List Imported) → NamesDiffer (is ++ js) → (i j : Imported) → Contains is i → Contains js j → i.name ≢ j.name
differ_between [] js differ i j (k, small, e) of_j = absurd (omega (arith, small))
differ_between (x ∷ is) js differ i j (zero, small, e) of_j =
    subst (λ (y : Imported). y.name ≢ j.name) e (differ.0 j (Contains-append_right is js j of_j))
differ_between (x ∷ is) js differ i j (suc k, small, e) of_j = differ_between is js differ.1 i j (k, omega (arith, small), e) of_j

pub differ_both : (is js : List Imported) → NamesDiffer is → NamesDiffer js → HaveOtherNames is js → NamesDiffer (is ++ js)
differ_both [] js first second apart = second
differ_both (i ∷ is) js first second apart = (
  λ j has. differs j (Contains-append_cases is js j has),
  differ_both is js first.1 second (λ k j of_is of_js. apart k j (suc of_is.0, (let small = of_is.1 in omega (arith, small)), of_is.2) of_js),
)
  where
    differs : (j : Imported) → Contains is j ⊎ Contains js j → i.name ≢ j.name
    differs j (inl has) = first.0 j has
    differs j (inr has) = apart i j (0, omega arith, refl) has
