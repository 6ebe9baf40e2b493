-- A joining of a plan with others is that plan, where its parts, imports and outcome are, and its paths are the plan's ways.
use Rattle.std.specs.Prelude.{◌≡◌, ◌↔◌, ℕ, zero, suc, List, ◌⊎◌, Some, Contains, slice_get}
use Rattle.std.proofs.Common.{sym, ◌∙◌, ap, subst, inl, inr}
use Rattle.gos_types.specs.Types.{Type'}
use Rattle.gos_model.specs.Typing.{Imported}
use Rattle.gos_plan.specs.Kinds.{Part, Contact, asks, serves, contacts_of}
use Rattle.gos_plan.specs.Plans.{End, PartEnd, ImportEnd, ResultEnd, Joint, Plan, contact_at, contacts_of_part, contacts_of_import, turned_if, IsRight}
use Rattle.gos_plan.specs.Joining.{Place, Wiring, origin, Path, Connects, IsJoining}
use Rattle.gos_realises.proofs.joined.ReachLemmas.{Step, Paths}
use Rattle.gos_joining.specs.webs.Webs.{Of, Tie, tie, Meet, Way, here, along, joint, own_web, IsOfWeb}
use Rattle.gos_joining.specs.webs.Renumbering.{IsRenumbered, moved_end}
use Rattle.gos_joining.proofs.webs.WebLemmas.{right_is_of_its_web}
use Rattle.gos_joining.proofs.unions.UnionLemmas.{in_image}
use Rattle.gos_joining.specs.renumbered.SmallRewirings.{unchanged}
use Rattle.gos_joining.proofs.renumbered.HigherLemmas.{unchanged_end, unchanged_one}

-- two ends are one, or those of a joint of the plan
abbrev pub Near : Plan → End → End → Type 0
Near q a b = (a ≡ b) ⊎ Meet (own_web q).ties (Of a) (Of b)

-- the ends of a joint, in either order
abbrev pub OfJoint : Joint → End → End → Type 0
OfJoint j a b = ((a ≡ j.asking) × (b ≡ j.serving)) ⊎ ((a ≡ j.serving) × (b ≡ j.asking))

abbrev joint_tie : Joint → Tie
joint_tie j = tie (Of j.asking) (Of j.serving)

pub joint_near : (q : Plan) (j : Joint) (a b : End) → Contains q.joints j → OfJoint j a b → Near q a b
joint_near q j a b has (inl (e, f)) =
    inr
    (inl
    (subst (λ (x : End). Contains (own_web q).ties (tie (Of x) (Of b))) (sym e)
    (subst (λ (x : End). Contains (own_web q).ties (tie (Of j.asking) (Of x))) (sym f) (in_image joint_tie q.joints j has))))
joint_near q j a b has (inr (e, f)) =
    inr
    (inr
    (subst (λ (x : End). Contains (own_web q).ties (tie (Of b) (Of x))) (sym e)
    (subst (λ (x : End). Contains (own_web q).ties (tie (Of x) (Of j.serving))) (sym f) (in_image joint_tie q.joints j has))))

near_way : (q : Plan) (a b c : End) → Near q a b → Way (own_web q).ties (Of b) (Of c) → Way (own_web q).ties (Of a) (Of c)
near_way q a b c (inl e) way = subst (λ (x : End). Way (own_web q).ties (Of x) (Of c)) (sym e) way
near_way q a b c (inr meet) way = along (Of a) (Of b) (Of c) meet way

contacts_same : (q r : Plan) → r.parts ≡ q.parts → r.imports ≡ q.imports → r.outcome ≡ q.outcome → (e : End) → contact_at r e ≡ contact_at q e
contacts_same q r parts imports outcome (PartEnd i h) = ap (λ (ks : List Part). slice_get (contacts_of_part (slice_get ks i)) h) parts
contacts_same q r parts imports outcome (ImportEnd i h) = ap (λ (is : List Imported). slice_get (contacts_of_import (slice_get is i)) h) imports
contacts_same q r parts imports outcome (ResultEnd h) = ap (λ (t : Type'). turned_if (slice_get (contacts_of t) h)) outcome

-- How the plan q lies in a wiring: where its ends stand, and which end of it each place is.
pub record IsShadow (w : Wiring) (q : Plan) (stand : End → Place) (home : Place → End) : Type 0 where
  pub stands : (e : End) (c : Contact) → contact_at q e ≡ Some c → origin w e ≡ stand e
  pub returns : (e : End) → home (stand e) ≡ e
  pub near : (a b : Place) → Step w a b → Near q (home a) (home b)
  pub reach :
      (a b : End) (c d : Contact) → contact_at q a ≡ Some c → contact_at q b ≡ Some d → Contains q.joints (joint a b)
      → Paths w (stand a) (stand b)

module _ (w : Wiring) (q r : Plan) (stand : End → Place) (home : Place → End) (right : IsRight q) (joining : IsJoining w r)
    (parts : r.parts ≡ q.parts) (imports : r.imports ≡ q.imports) (outcome : r.outcome ≡ q.outcome) (is : IsShadow w q stand home)
  where
    contacts : (e : End) → contact_at r e ≡ contact_at q e
    contacts = contacts_same q r parts imports outcome

    own : IsOfWeb (own_web q) q
    own = right_is_of_its_web q right

    path_way : (n : ℕ) (a b : Place) → Path w n a b → Way (own_web q).ties (Of (home a)) (Of (home b))
    path_way zero a b e = subst (λ (x : Place). Way (own_web q).ties (Of (home a)) (Of (home x))) e (here (Of (home a)))
    path_way (suc n) a b (c, step, path) = near_way q (home a) (home c) (home b) (is.near a c step) (path_way n c b path)

    ends_way : (n : ℕ) (a b : End) (c d : Contact) → contact_at q a ≡ Some c → contact_at q b ≡ Some d → Path w n (origin w a) (origin w b)
        → Way (own_web q).ties (Of a) (Of b)
    ends_way n a b c d at_a at_b path =
        let one : home (origin w a) ≡ a = ap home (is.stands a c at_a) ∙ is.returns a in
        let other : home (origin w b) ≡ b = ap home (is.stands b d at_b) ∙ is.returns b in
        subst (λ (x : End). Way (own_web q).ties (Of x) (Of b)) one
        (subst (λ (x : End). Way (own_web q).ties (Of (home (origin w a))) (Of x)) other (path_way n (origin w a) (origin w b) path))

    to : (a b : End) → Contains r.joints (joint a b) → Contains q.joints (joint a b)
    to a b has = by_path ((joining.joints a b).0 has)
      where
        by_path : Connects w r a b → Contains q.joints (joint a b)
        by_path (x, v, n, asked, served, path) =
            let at_a : contact_at q a ≡ Some (asks x v) = sym (contacts a) ∙ asked in
            let at_b : contact_at q b ≡ Some (serves x v) = sym (contacts b) ∙ served in
            (own.joints a b).1 (x, v, at_a, at_b, ends_way n a b (asks x v) (serves x v) at_a at_b path)

    from : (a b : End) → Contains q.joints (joint a b) → Contains r.joints (joint a b)
    from a b has =
        let (x, v, asked, served, way) = (own.joints a b).0 has in
        let (n, path) = is.reach a b (asks x v) (serves x v) asked served has in
        (joining.joints a b).1 (
          x,
          v,
          n,
          contacts a ∙ asked,
          contacts b ∙ served,
          subst (λ (y : Place). Path w n y (origin w b)) (sym (is.stands a (asks x v) asked))
              (subst (λ (y : Place). Path w n (stand a) y) (sym (is.stands b (serves x v) served)) path),
        )

    pub shadow_is_it : IsRenumbered unchanged r q
    shadow_is_it =
        record {
          one_to_one = unchanged_one;
          parts = λ i. ap (λ (ks : List Part). slice_get ks i) (sym parts);
          imports = λ i. ap (λ (is : List Imported). slice_get is i) (sym imports);
          outcome = sym outcome;
          joints = λ a b.
              subst (λ (y : End). Contains r.joints (joint a b) ↔ Contains q.joints (joint (moved_end unchanged a) y)) (sym (unchanged_end b))
              (subst (λ (y : End). Contains r.joints (joint a b) ↔ Contains q.joints (joint y b)) (sym (unchanged_end a)) (to a b, from a b));
          right = joining.right;
          also_right = right;
        }
