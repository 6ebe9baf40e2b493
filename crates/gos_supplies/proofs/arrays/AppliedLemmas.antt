-- The name of an array joined to the plan of an index: which ends a path connects, told by classes of places that no joint and no link
-- leaves, and the joints of the joining.
use Rattle.std.specs.Prelude.{◌≡◌, ◌⊎◌, ℕ, zero, suc, ◌+◌, ◌-◌, ◌<◌, Bool, true, false, List, [], ◌∷◌, ◌++◌, length, Option, Some, None, Contains, slice_get, nat_lt, if◌then◌else◌}
use Rattle.std.proofs.Common.{refl, sym, ◌∙◌, ap, subst, arith, inl, inr}
use Rattle.std.proofs.lemmas.Bool.Decides.{nat_tests}
use Rattle.std.proofs.lemmas.Option.{none-some, same_Some, slice_get_within}
use Rattle.gos_types.specs.declared.shakes.Role.TheVariants.{Serve, Ask}
use Rattle.gos_types.proofs.RoleLemmas.{ask_is_not_serve}
use Rattle.gos_types.specs.Types.{Type', Exp, Var, Fun}
use Rattle.gos_model.specs.Terms.{Name}
use Rattle.gos_model.specs.Typing.{Imported}
use Rattle.gos_plan.specs.Kinds.{Part, Contact, asks, serves, contacts_of}
use Rattle.gos_plan.specs.Plans.{End, PartEnd, ImportEnd, ResultEnd, Joint, Plan, contact_at, contacts_of_part, contacts_of_import, turned_if, IsRight}
use Rattle.gos_plan.specs.Tokens.{places_of}
use Rattle.gos_plan.specs.Orderly.{named_by, handshake_at}
use Rattle.gos_plan.specs.Joining.{Place, place, Link, Wiring, LeftImport, JoinedWithin, Linked, Path, left_place, part_place, origin, IsJoining}
use Rattle.gos_plan.proofs.ContactLemmas.{part_is_there}
use Rattle.gos_plan.proofs.JointLemmas.{IsIn, listed, contained, fits, stands_there, asking_stands, serving_stands}
use Rattle.gos_realises.specs.realises.Wirings.{applying, link}
use Rattle.gos_realises.proofs.joined.ReachLemmas.{Paths, paths_then, paths_back}
use Rattle.gos_joining.specs.webs.Webs.{joint}
use Rattle.gos_supplies.specs.names.Names.{imported}
use Rattle.gos_supplies.specs.arrays.ArrayNames.{array_name}
use Rattle.gos_supplies.proofs.applications.SeamLemmas.{applied_left, listed_at}
use Rattle.gos_supplies.proofs.applications.SeamLemmas as seams
use Rattle.gos_supplies.proofs.turns.StandLemmas.{asks_own, serves_in}
use Rattle.gos_supplies.proofs.arrays.MadeLemmas.{index_out}

-- the class of a place: the handshake of the index' plan that stands there, or another
pub data Class : Type 0 where
  Of : (e : End) → Class
  Code : (n : ℕ) → Class

pub code_is : (m n : ℕ) → Code m ≡ Code n → m ≡ n
code_is m n e = cc e

pub of_is : (d e : End) → Of d ≡ Of e → d ≡ e
of_is d e same = cc same

pub of_no_code : (d : End) (n : ℕ) → Of d ≡ Code n → ⊥
of_no_code d n same = cc same

-- two ends of one name, of which one asks and the other serves, are joined
pub joined_by_name : (q : Plan) (d e : End) (b c : Contact) → IsRight q → contact_at q d ≡ Some b → b.role ≡ Ask → contact_at q e ≡ Some c → c.role ≡ Serve
    → handshake_at q d ≡ handshake_at q e → Contains q.joints (joint d e)
joined_by_name q d e b c right at_d asking at_e serving same = by_place (places_of q e) refl
  where
    own : handshake_at q d ≡ d
    own = by_own (places_of q d) refl
      where
        by_own : (o : Option End) → places_of q d ≡ o → named_by o d ≡ d
        by_own None at = refl
        by_own (Some a) at = asks_own q d a b right at_d asking at

    by_place : (o : Option End) → places_of q e ≡ o → Contains q.joints (joint d e)
    by_place None at =
        let one : d ≡ e = sym own ∙ (same ∙ ap (λ (o : Option End). named_by o e) at) in
        let roles : b ≡ c = same_Some b c (sym at_d ∙ (ap (contact_at q) one ∙ at_e)) in
        absurd (ask_is_not_serve (sym asking ∙ (ap (λ (k : Contact). k.role) roles ∙ serving)))
    by_place (Some a) at =
        let (j, is_in, asker, server) = serves_in q e a c right at_e serving at in
        let is_d : a ≡ d = sym (ap (λ (o : Option End). named_by o e) at) ∙ (sym same ∙ own) in
        listed q.joints (joint d e) (subst (λ (k : Joint). IsIn k q.joints) (λ z. joint ((asker ∙ is_d) z) (server z)) is_in)

module _ (x : Name) (i w : ℕ) (q r : Plan) (q_right : IsRight q) (q_type : q.outcome ≡ Exp i)
    (joining : IsJoining (applying (Exp i) (Var w) (array_name x i w) q) r) where
  abbrev pub applied : Wiring
  applied = applying (Exp i) (Var w) (array_name x i w) q

  abbrev class_at : ℕ → End → Class
  class_at zero (PartEnd k h) = Code 9
  class_at zero (ImportEnd k zero) = Of (handshake_at q (ResultEnd 0))
  class_at zero (ImportEnd k (suc h)) = Code h
  class_at zero (ResultEnd zero) = Of (handshake_at q (ResultEnd 0))
  class_at zero (ResultEnd (suc h)) = Code h
  class_at (suc zero) e = Of (handshake_at q e)
  class_at (suc (suc k)) e = Code 9

  abbrev pub class_of : Place → Class
  class_of a = class_at a.plan a.end

  abbrev Ends : Joint → End → End → Type 0
  Ends j d e = ((d ≡ j.asking) × (e ≡ j.serving)) ⊎ ((d ≡ j.serving) × (e ≡ j.asking))

  by_ends : (k : ℕ) (j : Joint) (d e : End) → class_at k j.asking ≡ class_at k j.serving → Ends j d e → class_at k d ≡ class_at k e
  by_ends k j d e same (inl (first, last)) = ap (class_at k) first ∙ (same ∙ sym (ap (class_at k) last))
  by_ends k j d e same (inr (first, last)) = ap (class_at k) first ∙ (sym same ∙ sym (ap (class_at k) last))

  name_joint : (j : Joint) → Contains (array_name x i w).joints j → class_at 0 j.asking ≡ class_at 0 j.serving
  name_joint j (zero, small, at) = let one : joint (ImportEnd 0 0) (ResultEnd 0) ≡ j = cc at in subst (λ (k : Joint). class_at 0 k.asking ≡ class_at 0 k.serving) one refl
  name_joint j (suc zero, small, at) = let one : joint (ResultEnd 1) (ImportEnd 0 1) ≡ j = cc at in subst (λ (k : Joint). class_at 0 k.asking ≡ class_at 0 k.serving) one refl
  name_joint j (suc (suc zero), small, at) = let one : joint (ResultEnd 2) (ImportEnd 0 2) ≡ j = cc at in subst (λ (k : Joint). class_at 0 k.asking ≡ class_at 0 k.serving) one refl
  name_joint j (suc (suc (suc n)), small, at) = absurd (omega (arith, small))

  index_joint : (j : Joint) → Contains q.joints j → class_at 1 j.asking ≡ class_at 1 j.serving
  index_joint j has =
      let is_in = contained q.joints j has in
      ap (λ (o : Option End). Of (named_by o j.asking)) (stands_there q j j.asking q_right is_in (asking_stands j))
      ∙ sym (ap (λ (o : Option End). Of (named_by o j.serving)) (stands_there q j j.serving q_right is_in (serving_stands j)))

  within : (k l : ℕ) (d e : End) → JoinedWithin applied (place k d) (place l e) → class_at k d ≡ class_at l e
  within zero zero d e (p, j, same, is, has, ends) =
      let that : array_name x i w ≡ p = cc is in by_ends 0 j d e (name_joint j (subst (λ (z : Plan). Contains z.joints j) (sym that) has)) ends
  within (suc zero) (suc zero) d e (p, j, same, is, has, ends) =
      let that : q ≡ p = cc is in by_ends 1 j d e (index_joint j (subst (λ (z : Plan). Contains z.joints j) (sym that) has)) ends
  within zero (suc l) d e (p, j, same, is, has, ends) = absurd (cc same)
  within (suc zero) zero d e (p, j, same, is, has, ends) = absurd (cc same)
  within (suc zero) (suc (suc l)) d e (p, j, same, is, has, ends) = absurd (cc same)
  within (suc (suc k)) l d e (p, j, same, is, has, ends) = absurd (cc is)

  linked : (a b : Place) → Linked applied a b → class_of a ≡ class_of b
  linked a b (l, (zero, small, at), ends) =
      let one : link 0 (ResultEnd 0) 1 (ResultEnd 0) ≡ l = cc at in
      by_link (subst (λ (z : Link). ((a ≡ z.one) × (b ≡ z.other)) ⊎ ((a ≡ z.other) × (b ≡ z.one))) (sym one) ends)
    where
      by_link : ((a ≡ place 0 (ResultEnd 0)) × (b ≡ place 1 (ResultEnd 0))) ⊎ ((a ≡ place 1 (ResultEnd 0)) × (b ≡ place 0 (ResultEnd 0))) → class_of a ≡ class_of b
      by_link (inl (first, last)) = ap class_of first ∙ sym (ap class_of last)
      by_link (inr (first, last)) = ap class_of first ∙ sym (ap class_of last)
  linked a b (l, (suc n, small, at), ends) = absurd (omega (arith, small))

  along : (n : ℕ) (a b : Place) → Path applied n a b → class_of a ≡ class_of b
  along zero a b e = ap class_of e
  along (suc n) a b (c, inl step, path) = within a.plan c.plan a.end c.end step ∙ along n c b path
  along (suc n) a b (c, inr step, path) = linked a c step ∙ along n c b path

  -- joined ends are of one class
  pub joint_class : (a b : End) → Contains r.joints (joint a b) → class_of (origin applied a) ≡ class_of (origin applied b)
  joint_class a b has = let (s, v, n, at_a, at_b, path) = (joining.joints a b).0 has in along n (origin applied a) (origin applied b) path

  -- where ends stand
  pub imports_are : r.imports ≡ imported x (Fun (Exp i) (Var w)) ∷ q.imports
  imports_are = joining.imports ∙ seams.applied_imports (Exp i) (Var w) (array_name x i w) q

  pub array_origin : (h : ℕ) → origin applied (ImportEnd 0 h) ≡ place 0 (ImportEnd 0 h)
  array_origin h = ap (λ (ls : List LeftImport). left_place (slice_get ls 0) h) (applied_left (Exp i) (Var w) (array_name x i w) q)

  pub other_origin : (j h : ℕ) (y : Imported) → slice_get q.imports j ≡ Some y → origin applied (ImportEnd (suc j) h) ≡ place 1 (ImportEnd j h)
  other_origin j h y at =
      ap (λ (ls : List LeftImport). left_place (slice_get ls (suc j)) h) (applied_left (Exp i) (Var w) (array_name x i w) q)
      ∙ (ap (λ (o : Option LeftImport). left_place o h) (listed_at 1 0 q.imports j y at) ∙ (let zeros : 0 + j ≡ j = omega arith in ap (λ (n : ℕ). place 1 (ImportEnd n h)) zeros))

  pub part_origin : (k h : ℕ) → k < length q.parts → origin applied (PartEnd k h) ≡ place 1 (PartEnd k h)
  part_origin k h low =
      let none : nat_lt k 0 ≡ false = grind (arith, nat_tests) in
      let same : k - 0 ≡ k = omega arith in
      let test : nat_lt k (length q.parts) ≡ true = grind (arith, nat_tests, low) in
      ap (λ (b : Bool). if b then place 0 (PartEnd k h) else part_place 1 (q ∷ []) (k - 0) h) none
      ∙ (ap (λ (n : ℕ). part_place 1 (q ∷ []) n h) same ∙ ap (λ (b : Bool). if b then place 1 (PartEnd k h) else part_place 2 [] (k - length q.parts) h) test)

  -- an end of the index' plan that there is
  abbrev pub IsThere : End → Type 0
  IsThere e = (k : Contact) × (contact_at q e ≡ Some k)

  part_low : (k h : ℕ) → IsThere (PartEnd k h) → k < length q.parts
  part_low k h (c, there) = let (z, at) = part_is_there (slice_get q.parts k) h c there in slice_get_within q.parts k z at

  import_there : (j h : ℕ) → IsThere (ImportEnd j h) → (y : Imported) × (slice_get q.imports j ≡ Some y)
  import_there j h (c, there) = by_import (slice_get q.imports j) refl there
    where
      by_import : (o : Option Imported) → slice_get q.imports j ≡ o → slice_get (contacts_of_import o) h ≡ Some c → (y : Imported) × (slice_get q.imports j ≡ Some y)
      by_import None at there = absurd (none-some c there)
      by_import (Some y) at there = (y, at)

  no_result : (h : ℕ) → IsThere (ResultEnd (suc h)) → ⊥
  no_result h (c, there) = none-some c (sym (ap (λ (t : Type'). turned_if (slice_get (contacts_of t) (suc h))) q_type) ∙ there)

  pub index_class : (d : End) → IsThere d → class_of (origin applied (index_out d)) ≡ Of (handshake_at q d)
  index_class (PartEnd k h) there = ap class_of (part_origin k h (part_low k h there))
  index_class (ImportEnd j h) there = let (y, at) = import_there j h there in ap class_of (other_origin j h y at)
  index_class (ResultEnd zero) there = ap class_of (array_origin 0)
  index_class (ResultEnd (suc h)) there = absurd (no_result h there)

  pub array_class : (h : ℕ) → class_of (origin applied (ImportEnd 0 (suc h))) ≡ Code h
  array_class h = ap class_of (array_origin (suc h))

  -- from where it stands in the whole a path leads to where it stands in its plan
  reach : (d : End) → IsThere d → Paths applied (origin applied (index_out d)) (place 1 d)
  reach (PartEnd k h) there = (0, part_origin k h (part_low k h there))
  reach (ImportEnd j h) there = let (y, at) = import_there j h there in (0, other_origin j h y at)
  reach (ResultEnd zero) there =
      subst (λ (z : Place). Paths applied z (place 1 (ResultEnd 0))) (sym (array_origin 0)) (
        2,
        (
          place 0 (ResultEnd 0),
          inl (array_name x i w, joint (ImportEnd 0 0) (ResultEnd 0), refl, refl, (0, omega arith, refl), inl (refl, refl)),
          (place 1 (ResultEnd 0), inr (link 0 (ResultEnd 0) 1 (ResultEnd 0), (0, omega arith, refl), inl (refl, refl)), refl),
        ),
      )
  reach (ResultEnd (suc h)) there = absurd (no_result h there)

  pub index_path : (d e : End) → IsThere d → IsThere e → Contains q.joints (joint d e) → Paths applied (origin applied (index_out d)) (origin applied (index_out e))
  index_path d e at_d at_e has =
      paths_then applied (origin applied (index_out d)) (place 1 d) (origin applied (index_out e)) (reach d at_d)
      (paths_then applied (place 1 d) (place 1 e) (origin applied (index_out e)) (1, (place 1 e, inl (q, joint d e, refl, refl, has, inl (refl, refl)), refl))
      (paths_back applied (origin applied (index_out e)) (place 1 e) (reach e at_e)))

  -- the handshakes of the joining
  import_contacts : (j h : ℕ) → contact_at r (ImportEnd j h) ≡ slice_get (contacts_of_import (slice_get (imported x (Fun (Exp i) (Var w)) ∷ q.imports) j)) h
  import_contacts j h = ap (λ (us : List Imported). slice_get (contacts_of_import (slice_get us j)) h) imports_are

  append_none : {A : Type 0} (xs : List A) → xs ++ [] ≡ xs
  append_none [] = refl
  append_none (z ∷ xs) = ap (λ (ys : _). z ∷ ys) (append_none xs)

  pub parts_are : r.parts ≡ q.parts
  parts_are = joining.parts ∙ append_none q.parts

  pub index_contact : (d : End) → IsThere d → contact_at r (index_out d) ≡ contact_at q d
  index_contact (PartEnd k h) there = ap (λ (us : List Part). slice_get (contacts_of_part (slice_get us k)) h) parts_are
  index_contact (ImportEnd j h) there = import_contacts (suc j) h
  index_contact (ResultEnd zero) there = import_contacts 0 0 ∙ sym (ap (λ (t : Type'). turned_if (slice_get (contacts_of t) 0)) q_type)
  index_contact (ResultEnd (suc h)) there = absurd (no_result h there)

  -- its joints: those of the index, and from the result to the array
  pub index_joints : (d e : End) → Contains q.joints (joint d e) → Contains r.joints (joint (index_out d) (index_out e))
  index_joints d e has =
      let (s, v, asking, serving) = fits q [] q.joints (joint d e) q_right (contained q.joints (joint d e) has) in
      let at_d : IsThere d = (asks s v, asking) in
      let at_e : IsThere e = (serves s v, serving) in
      let (n, path) = index_path d e at_d at_e has in
      (joining.joints (index_out d) (index_out e)).1 (s, v, n, index_contact d at_d ∙ asking, index_contact e at_e ∙ serving, path)

  result_contact : (h : ℕ) → contact_at r (ResultEnd h) ≡ turned_if (slice_get (contacts_of (Var w)) h)
  result_contact h = ap (λ (t : Type'). turned_if (slice_get (contacts_of t) h)) joining.outcome

  pub read_joint : Contains r.joints (joint (ResultEnd 0) (ImportEnd 0 1))
  read_joint =
      (joining.joints (ResultEnd 0) (ImportEnd 0 1)).1 (
        0,
        w,
        1,
        result_contact 0,
        import_contacts 0 1,
        (
          place 0 (ImportEnd 0 1),
          inl (array_name x i w, joint (ResultEnd 1) (ImportEnd 0 1), refl, refl, (1, omega arith, refl), inl (refl, refl)),
          sym (array_origin 1),
        ),
      )

  pub write_joint : Contains r.joints (joint (ResultEnd 1) (ImportEnd 0 2))
  write_joint =
      (joining.joints (ResultEnd 1) (ImportEnd 0 2)).1 (
        w,
        0,
        1,
        result_contact 1,
        import_contacts 0 2,
        (
          place 0 (ImportEnd 0 2),
          inl (array_name x i w, joint (ResultEnd 2) (ImportEnd 0 2), refl, refl, (2, omega arith, refl), inl (refl, refl)),
          sym (array_origin 2),
        ),
      )
