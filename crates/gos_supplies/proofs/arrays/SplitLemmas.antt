-- The name of an array, joined to the plan of an index and read or written, is made of the plan of the access and that of the index.
use Rattle.std.specs.Prelude.{◌≡◌, ◌⊎◌, ℕ, zero, suc, ◌+◌, ◌-◌, ◌<◌, Bool, true, false, List, [], ◌∷◌, ◌++◌, length, Option, Some, None, Contains, slice_get, nat_lt}
use Rattle.std.proofs.Common.{refl, sym, ◌∙◌, ap, subst, arith, inl, inr}
use Rattle.std.proofs.lemmas.Bool.Decides.{nat_tests}
use Rattle.std.proofs.lemmas.Option.{none-some, slice_get_within}
use Rattle.gos_types.specs.declared.shakes.Role.TheVariants.{Serve, Ask}
use Rattle.gos_types.specs.Types.{Type', Exp, Var, Fun}
use Rattle.gos_model.specs.Terms.{Name}
use Rattle.gos_model.specs.Typing.{Imported}
use Rattle.gos_plan.specs.Kinds.{Part, Contact, asks, serves, contacts_of}
use Rattle.gos_plan.specs.Plans.{End, PartEnd, ImportEnd, ResultEnd, Plan, contact_at, contacts_of_part, contacts_of_import, turned_if, IsRight}
use Rattle.gos_plan.specs.Orderly.{handshake_at}
use Rattle.gos_plan.specs.Joining.{Place, place, Wiring, Path, origin, IsJoining}
use Rattle.gos_plan.proofs.ContactLemmas.{part_is_there}
use Rattle.gos_plan.proofs.JointLemmas.{contained, fits}
use Rattle.gos_realises.specs.realises.Wirings.{applying}
use Rattle.gos_realises.proofs.joined.ReachLemmas.{Paths}
use Rattle.gos_joining.specs.webs.Webs.{joint}
use Rattle.gos_supplies.specs.names.Names.{imported}
use Rattle.gos_supplies.specs.arrays.ArrayNames.{array_name}
use Rattle.gos_supplies.proofs.arrays.MadeLemmas.{index_out, own_out, IsSplit, get_first, get_second}
use Rattle.gos_supplies.proofs.arrays.AppliedLemmas.{Class, Of, Code, code_is, of_is, of_no_code, joined_by_name, applied, class_of, imports_are, IsThere, index_class, index_joints}

pub there_in : {A : Type 0} (xs : List A) (k : ℕ) → k < length xs → (z : A) × (slice_get xs k ≡ Some z)
there_in [] k low = absurd (omega (arith, low))
there_in (z ∷ xs) zero low = (z, refl)
there_in (z ∷ xs) (suc k) low = there_in xs k (omega (arith, low))

low_get : {A : Type 0} (xs ys : List A) (k : ℕ) → k < length xs → slice_get (xs ++ ys) k ≡ slice_get xs k
low_get xs ys k low = let (z, at) = there_in xs k low in get_first xs ys k z at ∙ sym at

-- What is asked of the wiring: where ends stand in it, and which of them its paths connect.
pub record IsAccessWiring (x : Name) (i w : ℕ) (q s r p : Plan) (q_right : IsRight q) (q_type : q.outcome ≡ Exp i)
    (first : IsJoining (applying (Exp i) (Var w) (array_name x i w) q) s) (v : Wiring) (class_at : ℕ → End → Class) (code : End → ℕ) : Type 0 where
  pub joining : IsJoining v r
  pub variable : p.imports ≡ imported x (Var w) ∷ []
  pub right : IsRight p
  pub plan : slice_get v.plans 0 ≡ Some s
  pub parts : r.parts ≡ q.parts ++ p.parts
  pub imports : r.imports ≡ s.imports
  pub outcome : r.outcome ≡ p.outcome
  pub part_origin : (k h : ℕ) → k < length q.parts → origin v (PartEnd k h) ≡ place 0 (PartEnd k h)
  pub import_origin : (j h : ℕ) (y : Imported) → slice_get s.imports j ≡ Some y → origin v (ImportEnd j h) ≡ place 0 (ImportEnd j h)
  pub inner : (e : End) → class_at 0 e ≡ class_of x i w q s q_right q_type first (origin (applied x i w q s q_right q_type first) e)
  pub along : (n : ℕ) (a b : Place) → Path v n a b → class_at a.plan a.end ≡ class_at b.plan b.end
  pub own_class : (d : End) (k : Contact) → contact_at p d ≡ Some k → class_at (origin v (own_out (length q.parts) d)).plan (origin v (own_out (length q.parts) d)).end ≡ Code (code d)
  pub own_pairs :
      (d e : End) (b c : Contact) → contact_at p d ≡ Some b → b.role ≡ Ask → contact_at p e ≡ Some c → c.role ≡ Serve → code d ≡ code e
      → Contains p.joints (joint d e)
  pub own_contacts : (d e : End) → Contains p.joints (joint d e) → (a : ℕ) × (b : ℕ) × (contact_at p d ≡ Some (asks a b)) × (contact_at p e ≡ Some (serves a b))
  pub own_paths : (d e : End) → Contains p.joints (joint d e) → Paths v (origin v (own_out (length q.parts) d)) (origin v (own_out (length q.parts) e))

module _ (x : Name) (i w : ℕ) (q s r p : Plan) (q_right : IsRight q) (q_type : q.outcome ≡ Exp i)
    (first : IsJoining (applying (Exp i) (Var w) (array_name x i w) q) s) (v : Wiring) (class_at : ℕ → End → Class) (code : End → ℕ)
    (is : IsAccessWiring x i w q s r p q_right q_type first v class_at code) where
  abbrev There : End → Type 0
  There e = IsThere x i w q s q_right q_type first e

  whole_imports : r.imports ≡ imported x (Fun (Exp i) (Var w)) ∷ q.imports
  whole_imports = is.imports ∙ imports_are x i w q s q_right q_type first

  import_contacts : (j h : ℕ) → contact_at r (ImportEnd j h) ≡ slice_get (contacts_of_import (slice_get (imported x (Fun (Exp i) (Var w)) ∷ q.imports) j)) h
  import_contacts j h = ap (λ (us : List Imported). slice_get (contacts_of_import (slice_get us j)) h) whole_imports

  -- which end of a side an end is
  abbrev OfOwn : End → Contact → Type 0
  OfOwn e k = (d : End) × (contact_at p d ≡ Some k) × (own_out (length q.parts) d ≡ e)

  abbrev OfIndex : End → Contact → Type 0
  OfIndex e k = (d : End) × (contact_at q d ≡ Some k) × (index_out d ≡ e)

  which : (e : End) (k : Contact) → contact_at r e ≡ Some k → OfOwn e k ⊎ OfIndex e k
  which (PartEnd m h) k at = by_test (nat_lt m (length q.parts)) refl
    where
      by_test : (b : Bool) → nat_lt m (length q.parts) ≡ b → OfOwn (PartEnd m h) k ⊎ OfIndex (PartEnd m h) k
      by_test true test =
          let low : m < length q.parts = grind (arith, nat_tests, test) in
          let same : slice_get q.parts m ≡ slice_get r.parts m = sym (ap (λ (us : List Part). slice_get us m) is.parts ∙ low_get q.parts p.parts m low) in
          inr (PartEnd m h, ap (λ (o : Option Part). slice_get (contacts_of_part o) h) same ∙ at, refl)
      by_test false test =
          let high : length q.parts + (m - length q.parts) ≡ m = grind (arith, nat_tests, test) in
          let same : slice_get p.parts (m - length q.parts) ≡ slice_get r.parts m =
          sym (get_second q.parts p.parts (m - length q.parts)) ∙ (ap (slice_get (q.parts ++ p.parts)) high ∙ sym (ap (λ (us : List Part). slice_get us m) is.parts))
          in
          inl (PartEnd (m - length q.parts) h, ap (λ (o : Option Part). slice_get (contacts_of_part o) h) same ∙ at, ap (λ (n : ℕ). PartEnd n h) high)
  which (ImportEnd zero zero) k at =
      inr (ResultEnd 0, ap (λ (t : Type'). turned_if (slice_get (contacts_of t) 0)) q_type ∙ (sym (import_contacts 0 0) ∙ at), refl)
  which (ImportEnd zero (suc h)) k at =
      inl (ImportEnd 0 h, ap (λ (us : List Imported). slice_get (contacts_of_import (slice_get us 0)) h) is.variable ∙ (sym (import_contacts 0 (suc h)) ∙ at), refl)
  which (ImportEnd (suc j) h) k at = inr (ImportEnd j h, sym (import_contacts (suc j) h) ∙ at, refl)
  which (ResultEnd h) k at = inl (ResultEnd h, ap (λ (t : Type'). turned_if (slice_get (contacts_of t) h)) (sym is.outcome) ∙ at, refl)

  no_variable : (j h : ℕ) (k : Contact) → contact_at p (ImportEnd (suc j) h) ≡ Some k → ⊥
  no_variable j h k at = none-some k (sym (ap (λ (us : List Imported). slice_get (contacts_of_import (slice_get us (suc j))) h) is.variable) ∙ at)

  no_result : (h : ℕ) (k : Contact) → contact_at q (ResultEnd (suc h)) ≡ Some k → ⊥
  no_result h k at = none-some k (sym (ap (λ (t : Type'). turned_if (slice_get (contacts_of t) (suc h))) q_type) ∙ at)

  -- and the other way round
  own_contact : (d : End) (k : Contact) → contact_at p d ≡ Some k → contact_at r (own_out (length q.parts) d) ≡ Some k
  own_contact (PartEnd m h) k at =
      ap (λ (us : List Part). slice_get (contacts_of_part (slice_get us (length q.parts + m))) h) is.parts
      ∙ (ap (λ (o : Option Part). slice_get (contacts_of_part o) h) (get_second q.parts p.parts m) ∙ at)
  own_contact (ImportEnd zero h) k at =
      import_contacts 0 (suc h) ∙ (sym (ap (λ (us : List Imported). slice_get (contacts_of_import (slice_get us 0)) h) is.variable) ∙ at)
  own_contact (ImportEnd (suc j) h) k at = absurd (no_variable j h k at)
  own_contact (ResultEnd h) k at = ap (λ (t : Type'). turned_if (slice_get (contacts_of t) h)) is.outcome ∙ at

  low_of : (m h : ℕ) (k : Contact) → contact_at q (PartEnd m h) ≡ Some k → m < length q.parts
  low_of m h k at = let (z, there) = part_is_there (slice_get q.parts m) h k at in slice_get_within q.parts m z there

  index_contact : (d : End) (k : Contact) → contact_at q d ≡ Some k → contact_at r (index_out d) ≡ Some k
  index_contact (PartEnd m h) k at =
      ap (λ (us : List Part). slice_get (contacts_of_part (slice_get us m)) h) is.parts
      ∙ (ap (λ (o : Option Part). slice_get (contacts_of_part o) h) (low_get q.parts p.parts m (low_of m h k at)) ∙ at)
  index_contact (ImportEnd j h) k at = import_contacts (suc j) h ∙ at
  index_contact (ResultEnd zero) k at = import_contacts 0 0 ∙ (sym (ap (λ (t : Type'). turned_if (slice_get (contacts_of t) 0)) q_type) ∙ at)
  index_contact (ResultEnd (suc h)) k at = absurd (no_result h k at)

  import_there : (us : List Imported) (j h : ℕ) (k : Contact) → slice_get (contacts_of_import (slice_get us j)) h ≡ Some k → (y : Imported) × (slice_get us j ≡ Some y)
  import_there us j h k there = by_import (slice_get us j) refl there
    where
      by_import : (o : Option Imported) → slice_get us j ≡ o → slice_get (contacts_of_import o) h ≡ Some k → (y : Imported) × (slice_get us j ≡ Some y)
      by_import None at there = absurd (none-some k there)
      by_import (Some y) at there = (y, at)

  index_origin : (d : End) (k : Contact) → contact_at q d ≡ Some k → origin v (index_out d) ≡ place 0 (index_out d)
  index_origin (PartEnd m h) k at = is.part_origin m h (low_of m h k at)
  index_origin (ImportEnd j h) k at =
      let (y, there) = import_there q.imports j h k at in
      is.import_origin (suc j) h y (ap (λ (us : List Imported). slice_get us (suc j)) (imports_are x i w q s q_right q_type first) ∙ there)
  index_origin (ResultEnd zero) k at =
      is.import_origin 0 0 (imported x (Fun (Exp i) (Var w))) (ap (λ (us : List Imported). slice_get us 0) (imports_are x i w q s q_right q_type first))
  index_origin (ResultEnd (suc h)) k at = absurd (no_result h k at)

  index_class_of : (d : End) (k : Contact) → contact_at q d ≡ Some k → class_at (origin v (index_out d)).plan (origin v (index_out d)).end ≡ Of (handshake_at q d)
  index_class_of d k at =
      ap (λ (a : Place). class_at a.plan a.end) (index_origin d k at) ∙ (is.inner (index_out d) ∙ index_class x i w q s q_right q_type first d (k, at))

  index_joined : (d e : End) → Contains q.joints (joint d e) → Contains r.joints (joint (index_out d) (index_out e))
  index_joined d e has =
      let (a, b, asking, serving) = fits q [] q.joints (joint d e) q_right (contained q.joints (joint d e) has) in
      (is.joining.joints (index_out d) (index_out e)).1 (
        a,
        b,
        1,
        index_contact d (asks a b) asking,
        index_contact e (serves a b) serving,
        subst (λ (z : Place). Path v 1 z (origin v (index_out e))) (sym (index_origin d (asks a b) asking)) (
          origin v (index_out e),
          inl (
            s,
            joint (index_out d) (index_out e),
            ap (λ (z : Place). z.plan) (sym (index_origin e (serves a b) serving)),
            is.plan,
            index_joints x i w q s q_right q_type first d e has,
            inl (refl, ap (λ (z : Place). z.end) (index_origin e (serves a b) serving)),
          ),
          refl,
        ),
      )

  own_joined : (d e : End) → Contains p.joints (joint d e) → Contains r.joints (joint (own_out (length q.parts) d) (own_out (length q.parts) e))
  own_joined d e has =
      let (a, b, asking, serving) = is.own_contacts d e has in
      let (n, path) = is.own_paths d e has in
      (is.joining.joints (own_out (length q.parts) d) (own_out (length q.parts) e)).1
      (a, b, n, own_contact d (asks a b) asking, own_contact e (serves a b) serving, path)

  abbrev JointOf : End → End → Type 0
  JointOf a b =
      ((d : End) × (e : End) × Contains p.joints (joint d e) × (own_out (length q.parts) d ≡ a) × (own_out (length q.parts) e ≡ b))
      ⊎ ((d : End) × (e : End) × Contains q.joints (joint d e) × (index_out d ≡ a) × (index_out e ≡ b))

  joint_of : (a b : End) → Contains r.joints (joint a b) → JointOf a b
  joint_of a b has =
      let (m, k, n, at_a, at_b, path) = (is.joining.joints a b).0 has in
      by_sides m k at_a at_b (is.along n (origin v a) (origin v b) path) (which a (asks m k) at_a) (which b (serves m k) at_b)
    where
      by_sides : (m k : ℕ) → contact_at r a ≡ Some (asks m k) → contact_at r b ≡ Some (serves m k)
          → class_at (origin v a).plan (origin v a).end ≡ class_at (origin v b).plan (origin v b).end
          → OfOwn a (asks m k) ⊎ OfIndex a (asks m k) → OfOwn b (serves m k) ⊎ OfIndex b (serves m k) → JointOf a b
      by_sides m k at_a at_b same (inl (d, at_d, is_a)) (inl (e, at_e, is_b)) =
          let one = ap (λ (z : End). class_at (origin v z).plan (origin v z).end) is_a in
          let other = ap (λ (z : End). class_at (origin v z).plan (origin v z).end) is_b in
          let codes : code d ≡ code e = code_is (code d) (code e) (sym (is.own_class d (asks m k) at_d) ∙ (one ∙ (same ∙ (sym other ∙ is.own_class e (serves m k) at_e)))) in
          inl (d, e, is.own_pairs d e (asks m k) (serves m k) at_d refl at_e refl codes, is_a, is_b)
      by_sides m k at_a at_b same (inr (d, at_d, is_a)) (inr (e, at_e, is_b)) =
          let one = ap (λ (z : End). class_at (origin v z).plan (origin v z).end) is_a in
          let other = ap (λ (z : End). class_at (origin v z).plan (origin v z).end) is_b in
          let names : handshake_at q d ≡ handshake_at q e =
          of_is (handshake_at q d) (handshake_at q e)
          (sym (index_class_of d (asks m k) at_d) ∙ (one ∙ (same ∙ (sym other ∙ index_class_of e (serves m k) at_e))))
          in
          inr (d, e, joined_by_name q d e (asks m k) (serves m k) q_right at_d refl at_e refl names, is_a, is_b)
      by_sides m k at_a at_b same (inl (d, at_d, is_a)) (inr (e, at_e, is_b)) =
          let one = ap (λ (z : End). class_at (origin v z).plan (origin v z).end) is_a in
          let other = ap (λ (z : End). class_at (origin v z).plan (origin v z).end) is_b in
          absurd (of_no_code (handshake_at q e) (code d)
          (sym (index_class_of e (serves m k) at_e) ∙ (other ∙ (sym same ∙ (sym one ∙ is.own_class d (asks m k) at_d)))))
      by_sides m k at_a at_b same (inr (d, at_d, is_a)) (inl (e, at_e, is_b)) =
          let one = ap (λ (z : End). class_at (origin v z).plan (origin v z).end) is_a in
          let other = ap (λ (z : End). class_at (origin v z).plan (origin v z).end) is_b in
          absurd (of_no_code (handshake_at q d) (code e)
          (sym (index_class_of d (asks m k) at_d) ∙ (one ∙ (same ∙ (sym other ∙ is.own_class e (serves m k) at_e)))))

  pub wiring_split : IsSplit i w x r p q
  wiring_split =
      record {
        whole_right = is.joining.right;
        own_right = is.right;
        index_right = q_right;
        variable = is.variable;
        imports = whole_imports;
        outcome = is.outcome;
        number = q_type;
        parts = is.parts;
        own_joints = own_joined;
        index_joints = index_joined;
        joints = joint_of;
      }
