-- What is before a Share in a seated plan is before it in the whole, and the Share is loyal.
use Rattle.std.specs.Prelude.{◌≡◌, ℕ, ◌+◌, ◌-◌, ◌*◌, List, [], ◌⊎◌, Option, Some, None, slice_get, Contains}
use Rattle.std.proofs.Common.{refl, sym, ◌∙◌, ap, subst, inl, inr}
use Rattle.gos_types.specs.Types.{Type'}
use Rattle.gos_model.specs.Typing.{Imported}
use Rattle.gos_plan.specs.Kinds.{Share, Contact, asks, serves}
use Rattle.gos_plan.specs.Plans.{End, PartEnd, ImportEnd, ResultEnd, Joint, Plan, contact_at, contacts_of_part, contacts_of_import}
use Rattle.gos_plan.specs.Tokens.{IsPortEnd}
use Rattle.gos_plan.proofs.JointLemmas.{fits, contained, one_joint, which_end}
use Rattle.gos_plan.proofs.ContactLemmas.{part_is_there, import_is_there}
use Rattle.gos_realises.specs.realises.Regular.{count}
use Rattle.gos_joining.specs.webs.Webs.{joint}
use Rattle.gos_joining.specs.webs.Cutting.{Cut, StandsIn, IsInside, IsOutside, lies_at}
use Rattle.gos_joining.proofs.webs.CutLemmas.{stands_by}
use Rattle.gos_sharing.specs.behind.Source.{IsBefore, HasItsImports}
use Rattle.gos_sharing.proofs.behind.LyingLemmas.{lying}
use Rattle.gos_sharing.proofs.behind.SourceLemmas.{before_it, import_joined, sources_are_loyal}
use Rattle.gos_sharing.specs.loyal.Seats.{Seat, seat_end, IsNoResult, IsSeated, then_number, part_back, import_back, end_back, then_end, seated_cut, SeatedIsBefore, SeatedIsLoyal}
use Rattle.gos_sharing.proofs.loyal.SeatLemmas.{passed_on}

end_on : (o : Option End) (f : End → Option End) (e : End) → then_end o f ≡ Some e → (d : End) × (o ≡ Some d) × (f d ≡ Some e)
end_on None f e at = absurd (cc at)
end_on (Some d) f e at = (d, refl, at)

part_on : (o : Option ℕ) (h : ℕ) (d : End) → part_back o h ≡ Some d → (k : ℕ) × (o ≡ Some k) × (d ≡ PartEnd k h)
part_on None h d at = absurd (cc at)
part_on (Some k) h d at = let same : PartEnd k h ≡ d = cc at in (k, refl, sym same)

import_on : (o : Option ℕ) (h : ℕ) (d : End) → import_back o h ≡ Some d → (k : ℕ) × (o ≡ Some k) × (d ≡ ImportEnd k h)
import_on None h d at = absurd (cc at)
import_on (Some k) h d at = let same : ImportEnd k h ≡ d = cc at in (k, refl, sym same)

module _ (g : Seat) (f : Cut) (i : ℕ) (t : Type') (c : ℕ) (r x p : Plan) (seated : IsSeated g r x) (is : IsBefore f i t c x p) where
  abbrev cut : Cut
  cut = seated_cut g f

  -- ends of the seated plan
  contact_kept : (e : End) (k : Contact) → IsNoResult e → contact_at x e ≡ Some k → (contact_at r (seat_end g e) ≡ Some k) × (end_back g (seat_end g e) ≡ Some e)
  contact_kept (PartEnd n h) k own at =
      let (y, there) = part_is_there (slice_get x.parts n) h k at in
      let (at_r, back) = seated.parts n y there in
      (ap (λ o. slice_get (contacts_of_part o) h) (at_r ∙ sym there) ∙ at, ap (λ o. part_back o h) back)
  contact_kept (ImportEnd n h) k own at =
      let (y, there) = import_is_there (slice_get x.imports n) h k at in
      let (at_r, back) = seated.imports n y there in
      (ap (λ o. slice_get (contacts_of_import o) h) (at_r ∙ sym there) ∙ at, ap (λ o. import_back o h) back)
  contact_kept (ResultEnd h) k own at = absurd own

  back_at : (b d : End) → end_back g b ≡ Some d → seat_end g d ≡ b
  back_at (PartEnd m h) d at =
      let (k, number, same) = part_on (g.number m) h d at in
      subst (λ (e : End). seat_end g e ≡ PartEnd m h) (sym same) (ap (λ n. PartEnd n h) (seated.numbers m k number).0)
  back_at (ImportEnd m h) d at =
      let (k, number, same) = import_on (g.origin m) h d at in
      subst (λ (e : End). seat_end g e ≡ ImportEnd m h) (sym same) (ap (λ n. ImportEnd n h) (seated.origins m k number))
  back_at (ResultEnd h) d at = absurd (cc at)

  -- where the region's ends lie
  outer_own : (e : End) → IsPortEnd e → StandsIn p e → IsNoResult (f.outer e)
  outer_own (PartEnd n h) port stood = absurd port
  outer_own (ImportEnd n h) port stood = let (m, l, at) = is.ports n h stood in subst IsNoResult (sym at) tt
  outer_own (ResultEnd j) port stood = subst IsNoResult (sym (is.source j stood)) tt

  lies_own : (e : End) → StandsIn p e → IsNoResult (lies_at f e)
  lies_own (PartEnd n h) stood = tt
  lies_own (ImportEnd n h) stood = outer_own (ImportEnd n h) tt stood
  lies_own (ResultEnd h) stood = outer_own (ResultEnd h) tt stood

  lies_seated : (e : End) → seat_end g (lies_at f e) ≡ lies_at cut e
  lies_seated (PartEnd n h) = refl
  lies_seated (ImportEnd n h) = refl
  lies_seated (ResultEnd h) = refl

  stood_contact : (e : End) → StandsIn p e → (k : Contact) × (contact_at p e ≡ Some k)
  stood_contact e (j, has, stands) =
      let fit = fits p [] p.joints j is.cut.right (contained p.joints j has) in
      elim (which_end e j stands) [
        | inl one ↦ (asks fit.0 fit.1, ap (contact_at p) one ∙ fit.2)
        | inr one ↦ (serves fit.0 fit.1, ap (contact_at p) one ∙ fit.3)
      ]

  outer_kept : (e : End) → IsPortEnd e → StandsIn p e → (contact_at r (cut.outer e) ≡ contact_at p e) × (end_back g (cut.outer e) ≡ Some (f.outer e))
  outer_kept e port stood =
      let (k, at) = stood_contact e stood in
      let (kept, back) = contact_kept (f.outer e) k (outer_own e port stood) (is.cut.contacts e port stood ∙ at) in
      (kept ∙ sym at, back)

  -- joints
  joint_lies : (a b : End) → Contains p.joints (joint a b) → Contains r.joints (joint (lies_at cut a) (lies_at cut b))
  joint_lies a b has =
      subst (λ (y : End). Contains r.joints (joint y (lies_at cut b))) (lies_seated a)
      (subst (λ (y : End). Contains r.joints (joint (seat_end g (lies_at f a)) y)) (lies_seated b)
      (seated.joints (lies_at f a) (lies_at f b) (lies_own a (joint a b, has, stands_by a (joint a b) (inl refl)))
      (lies_own b (joint a b, has, stands_by b (joint a b) (inr refl))) (is.cut.joints a b has)))

  abbrev Lies : End → End → Type 0
  Lies a b = (d e : End) × Contains p.joints (joint d e) × (lies_at cut d ≡ a) × (lies_at cut e ≡ b)

  inside_joint : (a b : End) (y : End) → IsInside cut y → (y ≡ a) ⊎ (y ≡ b) → Contains r.joints (joint a b) → Lies a b
  inside_joint a b (ImportEnd n h) inside which has = absurd inside
  inside_joint a b (ResultEnd h) inside which has = absurd inside
  inside_joint a b (PartEnd n h) (j, number) which has =
      let (m, at_m, at_j) = passed_on (g.number n) f.number j number in
      let (same, (z, there)) = seated.numbers n m at_m in
      of_joint m at_j same
      (seated.stands m h z there (subst (λ (v : ℕ). StandsIn r (PartEnd v h)) (sym same) (joint a b, has, stands_by (PartEnd n h) (joint a b) which)))
    where
      of_joint : (m : ℕ) → f.number m ≡ Some j → g.part m ≡ n → StandsIn x (PartEnd m h) → Lies a b
      of_joint m at_j same (k, has_k, stands) =
          let within : IsInside f k.asking ⊎ IsInside f k.serving = elim (which_end (PartEnd m h) k stands) [
            | inl one ↦ inl (subst (IsInside f) one (j, at_j))
            | inr one ↦ inr (subst (IsInside f) one (j, at_j))
          ] in
          let (d, e, here, at_d, at_e) = is.cut.all k.asking k.serving has_k within in
          let there = joint_lies d e here in
          let seat_d : seat_end g k.asking ≡ lies_at cut d = ap (seat_end g) (sym at_d) ∙ lies_seated d in
          let seat_e : seat_end g k.serving ≡ lies_at cut e = ap (seat_end g) (sym at_e) ∙ lies_seated e in
          let side : (PartEnd n h ≡ lies_at cut d) ⊎ (PartEnd n h ≡ lies_at cut e) = elim (which_end (PartEnd m h) k stands) [
            | inl one ↦ inl (ap (λ v. PartEnd v h) (sym same) ∙ (ap (seat_end g) one ∙ seat_d))
            | inr one ↦ inr (ap (λ v. PartEnd v h) (sym same) ∙ (ap (seat_end g) one ∙ seat_e))
          ] in
          let one : joint (lies_at cut d) (lies_at cut e) ≡ joint a b =
          one_joint r [] r.joints (joint (lies_at cut d) (lies_at cut e)) (joint a b) (PartEnd n h) seated.whole_right
          (contained r.joints (joint (lies_at cut d) (lies_at cut e)) there) (contained r.joints (joint a b) has)
          (stands_by (PartEnd n h) (joint (lies_at cut d) (lies_at cut e)) side) (stands_by (PartEnd n h) (joint a b) which) in
          (d, e, here, ap (λ (y : Joint). y.asking) one, ap (λ (y : Joint). y.serving) one)

  share_number : g.number (g.part i) ≡ Some i
  share_number = (seated.parts i (Share t) is.share).1

  share_outside : cut.number (g.part i) ≡ None
  share_outside = ap (λ o. then_number o f.number) share_number ∙ is.outside

  ports : (e : End) → IsPortEnd e → StandsIn p e → IsOutside cut (cut.outer e) × (cut.inner (cut.outer e) ≡ Some e)
  ports e port stood = (outside e port stood, ap (λ o. then_end o f.inner) (outer_kept e port stood).1 ∙ (is.cut.ports e port stood).1)
    where
      outside : (e : End) → IsPortEnd e → StandsIn p e → IsOutside cut (cut.outer e)
      outside (PartEnd n h) port stood = absurd port
      outside (ImportEnd n h) port stood = let (m, l, at) = is.ports n h stood in subst (λ (y : End). IsOutside cut (seat_end g y)) (sym at) tt
      outside (ResultEnd j) port stood = subst (λ (y : End). IsOutside cut (seat_end g y)) (sym (is.source j stood)) share_outside

  inners : (b e : End) → cut.inner b ≡ Some e → IsPortEnd e × StandsIn p e × (cut.outer e ≡ b)
  inners b e at =
      let (d, at_d, at_e) = end_on (end_back g b) f.inner e at in
      let (port, stood, same) = is.cut.inners d e at_e in
      (port, stood, ap (seat_end g) same ∙ back_at b d at_d)

  pub before_so : IsBefore (seated_cut g f) (g.part i) t c r p
  before_so =
      record {
        cut =
            record {
              whole_right = seated.whole_right;
              right = is.cut.right;
              parts =
                  λ n k there.
                  let (at_x, back_x) = is.cut.parts n k there in
                  let (at_r, back_r) = seated.parts (f.part n) k at_x in
                  (at_r, ap (λ o. then_number o f.number) back_r ∙ back_x);
              numbers =
                  λ n j at.
                  let (m, at_m, at_j) = passed_on (g.number n) f.number j at in
                  let (same, there) = is.cut.numbers m j at_j in
                  (ap g.part same ∙ (seated.numbers n m at_m).0, there);
              ports = ports;
              inners = inners;
              contacts = λ e port stood. (outer_kept e port stood).0;
              joints = joint_lies;
              all = λ a b has inside. elim inside [
                | inl one ↦ inside_joint a b a one (inl refl) has
                | inr one ↦ inside_joint a b b one (inr refl) has
              ];
            };
        share = (seated.parts i (Share t) is.share).0;
        caller = is.caller;
        outcome = is.outcome;
        outside = share_outside;
        alone = λ j low stood. is.alone j low (seated.stands i (count t + (1 - c) * count t + j) (Share t) is.share stood);
        source = λ j stood. ap (seat_end g) (is.source j stood);
        joined = λ j low stood. is.joined j low (seated.stands i j (Share t) is.share stood);
        ports = λ n h stood. (let (m, l, at) = is.ports n h stood in (g.import m, l, ap (seat_end g) at));
      }

pub seated_is_before : SeatedIsBefore
seated_is_before g f i t c r x p seated is = before_so g f i t c r x p seated is

pub seated_is_loyal : SeatedIsLoyal
seated_is_loyal g i t c r x p seated is regular =
    sources_are_loyal (seated_cut g (lying i p)) (g.part i) t c r p (before_so g (lying i p) i t c r x p seated before) has_imports regular
  where
    before : IsBefore (lying i p) i t c x p
    before = before_it i t c x p is

    has_imports : HasItsImports (seated_cut g (lying i p)) r p
    has_imports n h m l k y stood at_m at_l role joined = (n, k, import_joined i t c x p is n k there, ap (λ v. ImportEnd v k) number)
      where
        number : g.import n ≡ m
        number = cc at_m

        own : (d : Contact) × (contact_at p (ImportEnd n h) ≡ Some d)
        own = stood_contact g (lying i p) i t c r x p seated before (ImportEnd n h) stood

        import : (z : Imported) × (slice_get p.imports n ≡ Some z)
        import = import_is_there (slice_get p.imports n) h own.0 own.1

        there : StandsIn x (ImportEnd n k)
        there =
            seated.heard n k import.0 (ap (λ (is : List Imported). slice_get is n) is.frame.imports ∙ import.1)
            (subst (λ (v : ℕ). StandsIn r (ImportEnd v k)) (sym number) joined)
