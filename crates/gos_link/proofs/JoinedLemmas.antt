-- A plan of the joints that the ties make is the joining.
use Rattle.std.specs.Prelude.{◌≡◌, ◌≢◌, ◌↔◌, ℕ, ◌+◌, List, [], ◌∷◌, map, Option, Some, Contains, slice_get}
use Rattle.std.proofs.Common.{sym, ◌∙◌, ap, subst, arith, inl, inr}
use Rattle.gos_model.specs.Typing.{Imported}
use Rattle.gos_types.specs.Types.{Type'}
use Rattle.gos_plan.specs.Kinds.{Contact, Part, contacts_of, asks, serves, turned_contact}
use Rattle.gos_plan.specs.Plans.{End, PartEnd, ImportEnd, ResultEnd, Joint, Plan, contact_at, contacts_of_part, contacts_of_import, turned_if, IsRight}
use Rattle.gos_plan.specs.Seen.{SeenPlan, plan_of, joint_of}
use Rattle.gos_plan.specs.Joining.{all_parts, all_weight, all_left, origin, Path, Connects, contacts_of_result, IsJoining}
use Rattle.gos_ties.specs.declared.points.Point.{Point}
use Rattle.gos_ties.specs.Ties.{at}
use Rattle.gos_ties.specs.Ties as tied
use Rattle.gos_ties.proofs.JointLemmas.{same_at}
use Rattle.gos_link.specs.declared.services.Service.{Service}
use Rattle.gos_link.specs.Linked.{outcome_of, wiring_of}
use Rattle.gos_link.specs.inner.Wired.{ties_from, AllRight, AreJoinable}
use Rattle.gos_link.proofs.ServiceLemmas.{In, in_contained, contains_in}
use Rattle.gos_link.proofs.PointLemmas.{spot_of, joined, Stands, stands}
use Rattle.gos_link.proofs.PathLemmas.{path_tied, tied_path}
use Rattle.gos_link.proofs.WalkLemmas.{ends_turn}

-- the joints of gos_ties are in the list
pub has_in : (js : List Joint) (j : Joint) → tied.Has js j → In js j
has_in [] j h = absurd h
has_in (k ∷ js) j (inl e) = inl e
has_in (k ∷ js) j (inr h) = inr (has_in js j h)

pub in_has : (js : List Joint) (j : Joint) → In js j → tied.Has js j
in_has [] j h = absurd h
in_has (k ∷ js) j (inl e) = inl e
in_has (k ∷ js) j (inr h) = inr (in_has js j h)

module _ (ps : List Plan) (ss : List Service) (root : ℕ) (known : AreJoinable ps ss root) (right : AllRight ps) where
  -- a plan of these parts, imports and result
  pub record Bears (r : Plan) : Type 0 where
    pub parts : r.parts ≡ all_parts ps
    pub imports : r.imports ≡ map (λ l. l.import) (all_left (wiring_of ps ss root))
    pub outcome : r.outcome ≡ outcome_of (slice_get ps root)

  contact_same : (r : Plan) → Bears r → (e : End) → contact_at r e ≡ contact_at (joined ps ss root known []) e
  contact_same r bears (PartEnd i h) = ap (λ (ks : List Part). slice_get (contacts_of_part (slice_get ks i)) h) bears.parts
  contact_same r bears (ImportEnd i h) = ap (λ (xs : List Imported). slice_get (contacts_of_import (slice_get xs i)) h) bears.imports
  contact_same r bears (ResultEnd h) = ap (λ (t : Type'). turned_if (slice_get (contacts_of t) h)) bears.outcome

  pub there_at : (r : Plan) → Bears r → (e : End) (c : Contact) → contact_at r e ≡ Some c → Stands ps ss root known e c
  there_at r bears e c is = stands ps ss root known [] e c (sym (contact_same r bears e) ∙ is)

  pub is_joining : (s : SeenPlan) → Bears (plan_of s) → s.weight ≡ all_weight ps → IsRight (plan_of s)
      → ((a b : End) → tied.Has (map joint_of s.joints) (tied.joint a b) ↔ tied.Connects (ties_from ss root 0 0 0 ps) (plan_of s) a b)
      → IsJoining (wiring_of ps ss root) (plan_of s)
  is_joining s bears weight right_joints found =
      record {
        parts = bears.parts;
        imports = bears.imports;
        outcome = bears.outcome;
        weight = weight;
        right = right_joints;
        result = result;
        fits = fits;
        joints = λ a b. (forth a b, back a b);
      }
    where
      r : Plan
      r = plan_of s

      result : (h : ℕ) (c : Contact) → slice_get (contacts_of (outcome_of (slice_get ps root))) h ≡ Some c
          → slice_get (contacts_of_result (slice_get ps root)) (0 + h) ≡ Some c
      result h c is =
          let (p, at_root) = known.some_root in
          let none : 0 + h ≡ h = omega arith in
          let here : slice_get (contacts_of p.outcome) h ≡ Some c = subst (λ (o : Option Plan). slice_get (contacts_of (outcome_of o)) h ≡ Some c) at_root is in
          subst (λ (o : Option Plan). slice_get (contacts_of_result o) (0 + h) ≡ Some c) (sym at_root) (ap (slice_get (contacts_of p.outcome)) none ∙ here)

      fits : (a b : End) (c d : Contact) (n : ℕ) → contact_at r a ≡ Some c → contact_at r b ≡ Some d → a ≢ b
          → Path (wiring_of ps ss root) n (origin (wiring_of ps ss root) a) (origin (wiring_of ps ss root) b) → d ≡ turned_contact c
      fits a b c d n at_a at_b apart path =
          let one = there_at r bears a c at_a in
          let other = there_at r bears b d at_b in
          ends_turn ps ss root known right (origin (wiring_of ps ss root) a) (origin (wiring_of ps ss root) b) c d n one.contact other.contact one.apart other.apart
          (λ e. apart (same_at a b (sym one.spot ∙ (ap (spot_of ps ss root) e ∙ other.spot)))) path

      forth : (a b : End) → Contains r.joints (record { asking = a; serving = b }) → Connects (wiring_of ps ss root) r a b
      forth a b has =
          let (q, v, asked, served, path) = (found a b).0 (in_has (map joint_of s.joints) (tied.joint a b) (in_contained (map joint_of s.joints) (tied.joint a b) has)) in
          let one = there_at r bears a (asks q v) asked in
          let other = there_at r bears b (serves q v) served in
          let spots : tied.Path (ties_from ss root 0 0 0 ps) (spot_of ps ss root (origin (wiring_of ps ss root) a)) (spot_of ps ss root (origin (wiring_of ps ss root) b)) =
          subst (λ (p : Point). tied.Path (ties_from ss root 0 0 0 ps) p (spot_of ps ss root (origin (wiring_of ps ss root) b))) (sym one.spot)
          (subst (λ (p : Point). tied.Path (ties_from ss root 0 0 0 ps) (at a) p) (sym other.spot) path) in
          let (n, way) = tied_path ps ss root known right (origin (wiring_of ps ss root) a) (origin (wiring_of ps ss root) b) (asks q v, one.contact) (serves q v, other.contact) spots in
          (q, v, n, asked, served, way)

      back : (a b : End) → Connects (wiring_of ps ss root) r a b → Contains r.joints (record { asking = a; serving = b })
      back a b (q, v, n, asked, served, way) =
          let one = there_at r bears a (asks q v) asked in
          let other = there_at r bears b (serves q v) served in
          let spots = path_tied ps ss root known right n (origin (wiring_of ps ss root) a) (origin (wiring_of ps ss root) b) way in
          let path : tied.Path (ties_from ss root 0 0 0 ps) (at a) (at b) =
          subst (λ (p : Point). tied.Path (ties_from ss root 0 0 0 ps) p (at b)) one.spot
          (subst (λ (p : Point). tied.Path (ties_from ss root 0 0 0 ps) (spot_of ps ss root (origin (wiring_of ps ss root) a)) p) other.spot spots) in
          contains_in (map joint_of s.joints) (tied.joint a b)
          (has_in (map joint_of s.joints) (tied.joint a b) ((found a b).1 (q, v, asked, served, path)))
