-- A plan alone is its own joining.
use Rattle.std.specs.Prelude.{◌≡◌, ℕ, zero, suc, ◌+◌, ◌<◌, List, [], ◌∷◌, length, map, Option, Some, None, Contains, slice_get}
use Rattle.std.proofs.Common.{refl, sym, ◌∙◌, ap, subst, arith, inl, inr}
use Rattle.std.proofs.lemmas.Option.{slice_get_within}
use Rattle.std.proofs.lemmas.List.{append-nil}
use Rattle.gos_model.specs.Typing.{Imported}
use Rattle.gos_plan.specs.Kinds.{Part, Contact, asks, serves, contacts_of}
use Rattle.gos_plan.specs.Plans.{End, PartEnd, ImportEnd, ResultEnd, Joint, Plan, contact_at, contacts_of_part, contacts_of_import, IsRight}
use Rattle.gos_plan.specs.Joining.{Place, place, Link, Wiring, LeftImport, all_left, left_in, left_place, part_place, origin, Path, Connects, IsJoining}
use Rattle.gos_realises.specs.realises.Wirings.{side}
use Rattle.gos_realises.specs.realises.Modules.{Supply, plans_of}
use Rattle.gos_realises.proofs.joined.OriginLemmas.{import_of}
use Rattle.gos_joining.specs.webs.Webs.{Of, tie, Way, here, along, joint, own_web, IsOfWeb}
use Rattle.gos_joining.proofs.webs.WebLemmas.{right_is_of_its_web}
use Rattle.gos_joining.specs.unions.Flat.{AreJoinings, AllLinksStand}
use Rattle.gos_joining.proofs.unions.UnionLemmas.{in_image}
use Rattle.gos_joining.proofs.unions.DeepLemmas.{place_of_part}
use Rattle.gos_supplies.proofs.applications.SeamLemmas.{singles, listed, left_none, listed_imports, listed_at}

abbrev alone : Plan → Wiring
alone p = side 0 p.outcome p

module _ (p : Plan) (right : IsRight p) where
  alone_left : all_left (alone p) ≡ listed 0 0 p.imports
  alone_left = append-nil (left_in [] 0 0 p.imports) ∙ left_none [] 0 (λ j. refl) 0 p.imports

  part_in_range : (i h : ℕ) (c : Contact) → slice_get (contacts_of_part (slice_get p.parts i)) h ≡ Some c → i < length p.parts
  part_in_range i h c e = by_part (slice_get p.parts i) refl e
    where
      by_part : (o : Option Part) → slice_get p.parts i ≡ o → slice_get (contacts_of_part o) h ≡ Some c → i < length p.parts
      by_part None none there = absurd (cc there)
      by_part (Some k) at there = slice_get_within p.parts i k at

  stands : (e : End) (c : Contact) → contact_at p e ≡ Some c → origin (alone p) e ≡ place 0 e
  stands (PartEnd i h) c there =
      let zeros : i ≡ 0 + i = omega arith in
      ap (λ (n : ℕ). part_place 0 (p ∷ []) n h) zeros ∙ place_of_part 0 (p ∷ []) 0 i h p refl (part_in_range i h c there)
  stands (ImportEnd i h) c there = by_import (slice_get p.imports i) refl there
    where
      by_import : (o : Option Imported) → slice_get p.imports i ≡ o → slice_get (contacts_of_import o) h ≡ Some c → origin (alone p) (ImportEnd i h) ≡ place 0 (ImportEnd i h)
      by_import None none at = absurd (cc at)
      by_import (Some x) is at =
          let zeros : 0 + i ≡ i = omega arith in
          ap (λ (l : List LeftImport). left_place (slice_get l i) h) alone_left
          ∙ (ap (λ (o : Option LeftImport). left_place o h) (listed_at 0 0 p.imports i x is) ∙ ap (λ (n : ℕ). place 0 (ImportEnd n h)) zeros)
  stands (ResultEnd h) c there = let zeros : 0 + h ≡ h = omega arith in ap (λ (n : ℕ). place 0 (ResultEnd n)) zeros

  -- a path is a way of joints
  abbrev joint_tie : Joint → Rattle.gos_joining.specs.webs.Webs.Tie
  joint_tie j = tie (Of j.asking) (Of j.serving)

  plan_is : (n : ℕ) (x : Plan) → slice_get (p ∷ []) n ≡ Some x → p ≡ x
  plan_is zero x at = cc at
  plan_is (suc n) x at = absurd (cc at)

  path_way : (n : ℕ) (a b : Place) → Path (alone p) n a b → Way (own_web p).ties (Of a.end) (Of b.end)
  path_way zero a b e = subst (λ (x : Place). Way (own_web p).ties (Of a.end) (Of x.end)) e (here (Of a.end))
  path_way (suc n) a b (c, inl (x, j, same, is, has, ways), path) =
      let plans = plan_is a.plan x is in
      let tied = in_image joint_tie p.joints j (subst (λ (y : Plan). Contains y.joints j) (sym plans) has) in
      let rest = path_way n c b path in
      elim ways [
        | inl (e, f) ↦ along (Of a.end) (Of c.end) (Of b.end) (inl (subst (λ (y : End). Contains (own_web p).ties (tie (Of y) (Of c.end))) (sym e)
            (subst (λ (y : End). Contains (own_web p).ties (tie (Of j.asking) (Of y))) (sym f) tied))) rest
        | inr (e, f) ↦ along (Of a.end) (Of c.end) (Of b.end) (inr (subst (λ (y : End). Contains (own_web p).ties (tie (Of c.end) (Of y))) (sym e)
            (subst (λ (y : End). Contains (own_web p).ties (tie (Of y) (Of j.serving))) (sym f) tied))) rest
      ]
  path_way (suc n) a b (c, inr (l, (k, small, e), ways), path) = absurd (omega (arith, small))

  ends_way : (n : ℕ) (a b : End) (c d : Contact) → contact_at p a ≡ Some c → contact_at p b ≡ Some d → Path (alone p) n (origin (alone p) a) (origin (alone p) b)
      → Way (own_web p).ties (Of a) (Of b)
  ends_way n a b c d at_a at_b path =
      subst (λ (x : Place). Way (own_web p).ties (Of x.end) (Of b)) (stands a c at_a)
      (subst (λ (y : Place). Way (own_web p).ties (Of (origin (alone p) a).end) (Of y.end)) (stands b d at_b)
      (path_way n (origin (alone p) a) (origin (alone p) b) path))

  own : IsOfWeb (own_web p) p
  own = right_is_of_its_web p right

  to : (a b : End) → Contains p.joints (joint a b) → Connects (alone p) p a b
  to a b has =
      let (q, v, asked, served, way) = (own.joints a b).0 has in
      let path : Path (alone p) 1 (place 0 a) (place 0 b) = (place 0 b, inl (p, joint a b, refl, refl, has, inl (refl, refl)), refl) in (
        q,
        v,
        1,
        asked,
        served,
        subst (λ (x : Place). Path (alone p) 1 x (origin (alone p) b)) (sym (stands a (asks q v) asked))
            (subst (λ (y : Place). Path (alone p) 1 (place 0 a) y) (sym (stands b (serves q v) served)) path),
      )

  pub alone_joins : IsJoining (alone p) p
  alone_joins =
      record {
        parts = sym (append-nil p.parts);
        imports = sym (ap (map import_of) alone_left ∙ listed_imports 0 0 p.imports);
        outcome = refl;
        weight = omega arith;
        right = right;
        result = λ h c there. (let zeros : 0 + h ≡ h = omega arith in ap (slice_get (contacts_of p.outcome)) zeros ∙ there);
        fits = λ a b c d n at_a at_b apart path. own.fits a b c d at_a at_b apart (ends_way n a b c d at_a at_b path);
        joints = λ a b. (
          to a b,
          λ led. (own.joints a b).1 (led.0, led.1, led.3, led.4, ends_way led.2 a b (asks led.0 led.1) (serves led.0 led.1) led.3 led.4 led.5),
        );
      }

pub singles_join : (us : List Supply) → ((n : ℕ) (p : Plan) → slice_get (plans_of us) n ≡ Some p → IsRight p) → AreJoinings (singles us) (plans_of us)
singles_join [] rights = tt
singles_join (u ∷ us) rights = (alone_joins u.plan (rights 0 u.plan refl), singles_join us (λ n p at. rights (suc n) p at))

pub singles_stand : (us : List Supply) → AllLinksStand (singles us)
singles_stand [] = tt
singles_stand (u ∷ us) = ((λ l has. absurd (none l has)), singles_stand us)
  where
    none : (l : Link) → Contains [] l → ⊥
    none l (k, small, e) = omega (arith, small)
