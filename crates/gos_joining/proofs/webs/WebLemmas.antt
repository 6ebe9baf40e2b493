-- Plans of webs.
use Rattle.std.specs.Prelude.{◌↔◌, ◌≢◌, map}
use Rattle.std.proofs.lemmas.Option.{same_Some}
use Rattle.std.proofs.Common.{◌≡◌, ℕ, zero, suc, true, List, [], ◌∷◌, ◌⊎◌, Some, Contains, inl, inr, refl, sym, ◌∙◌, ap, subst, arith}
use Rattle.gos_plan.specs.Kinds.{Contact, asks, serves, turned_contact}
use Rattle.gos_plan.specs.Plans.{End, ResultEnd, Joint, Plan, contact_at, stands_in, IsRight}
use Rattle.gos_plan.proofs.JointLemmas.{IsIn, same_itself, fits, one_joint, contained, listed}
use Rattle.gos_plan.proofs.ContactLemmas.{serves_is_not_asks}
use Rattle.gos_joining.specs.webs.Webs.{Dot, Of, Number, Node, Within, Tie, tie, Web, Way, here, along, Connects, joint, own_web, SameWays, SameWaysSamePlan, RightIsOfItsWeb}

connects : (w v : Web) (p : Plan) (a b : End) → SameWays w v p → Connects w p a b → Connects v p a b
connects w v p a b same (q, k, asked, served, way) = (q, k, asked, served, (same a b (asks q k) (serves q k) asked served).0 way)

connected : (w v : Web) (p : Plan) (a b : End) → SameWays w v p → Connects v p a b → Connects w p a b
connected w v p a b same (q, k, asked, served, way) = (q, k, asked, served, (same a b (asks q k) (serves q k) asked served).1 way)

after : {A B C : Type 0} → A ↔ B → (B → C) → (C → B) → A ↔ C
after (f, g) h k = (λ a. h (f a), λ c. g (k c))

pub same_ways : SameWaysSamePlan
same_ways w v p same is =
    record {
      right = is.right;
      fits = λ a b c d at_a at_b differ way. is.fits a b c d at_a at_b differ ((same a b c d at_a at_b).1 way);
      joints = λ a b. after (is.joints a b) (connects w v p a b same) (connected w v p a b same);
    }

-- a plan's own web
abbrev OfJoint : List Joint → Tie → Type 0
OfJoint js t = (j : Joint) × IsIn j js × (tie (Of j.asking) (Of j.serving) ≡ t)

of_joint : (js : List Joint) (t : Tie) → Contains (map (λ j. tie (Of j.asking) (Of j.serving)) js) t → OfJoint js t
of_joint [] t (n, within, is) = absurd (omega (arith, within))
of_joint (x ∷ xs) t (zero, within, is) = (x, inl refl, is)
of_joint (x ∷ xs) t (suc n, within, is) =
    let rest = of_joint xs t (n, omega (arith, within), is) in (rest.0, inr rest.1, rest.2)

to_joint : (js : List Joint) (j : Joint) → IsIn j js → Contains (map (λ j. tie (Of j.asking) (Of j.serving)) js) (tie (Of j.asking) (Of j.serving))
to_joint [] j h = absurd h
to_joint (x ∷ xs) j (inl e) = (zero, omega arith, ap (λ (k : Joint). tie (Of k.asking) (Of k.serving)) (sym e))
to_joint (x ∷ xs) j (inr h) = let rest = to_joint xs j h in (suc rest.0, omega (arith, rest.1), rest.2)

abbrev end_in : Dot → End
end_in (Of e) = e
end_in (Number n h) = ResultEnd 0
end_in (Node n h) = ResultEnd 0
end_in (Within k d) = ResultEnd 0

-- two ends that a way connects are one, or those of a joint
abbrev Near : Plan → End → End → Type 0
Near p a b = (a ≡ b) ⊎ IsIn (joint a b) p.joints ⊎ IsIn (joint b a) p.joints

-- no end asks in one joint and serves in one
pub not_both : (p : Plan) (a e b : End) → IsRight p → IsIn (joint a e) p.joints → IsIn (joint e b) p.joints → ⊥
not_both p a e b right one other =
    let f = fits p [] p.joints (joint a e) right one in
    let g = fits p [] p.joints (joint e b) right other in
    serves_is_not_asks f.0 f.1 g.0 g.1 (sym f.3 ∙ g.2)

pub asks_there : (e a : End) → stands_in e (joint e a) ≡ true
asks_there e a = let h = same_itself e in grind (arith, h)

pub serves_there : (a e : End) → stands_in e (joint a e) ≡ true
serves_there a e = let h = same_itself e in grind (arith, h)

further : (p : Plan) (a e b : End) → IsRight p → IsIn (joint a e) p.joints ⊎ IsIn (joint e a) p.joints → Near p e b → Near p a b
further p a e b right (inl h) (inl same) = subst (λ (x : End). Near p a x) same (inr (inl h))
further p a e b right (inr h) (inl same) = subst (λ (x : End). Near p a x) same (inr (inr h))
further p a e b right (inl h) (inr (inl k)) = absurd (not_both p a e b right h k)
further p a e b right (inl h) (inr (inr k)) =
    inl (ap (λ (j : Joint). j.asking) (one_joint p [] p.joints (joint a e) (joint b e) e right h k (serves_there a e) (serves_there b e)))
further p a e b right (inr h) (inr (inl k)) =
    inl (ap (λ (j : Joint). j.serving) (one_joint p [] p.joints (joint e a) (joint e b) e right h k (asks_there e a) (asks_there e b)))
further p a e b right (inr h) (inr (inr k)) = absurd (not_both p b e a right k h)

near : (p : Plan) (x y : Dot) → IsRight p → Way (own_web p).ties x y → (a b : End) → x ≡ Of a → y ≡ Of b → Near p a b
near p x y right (here d) a b at_a at_b = inl (ap end_in (sym at_a ∙ at_b))
near p x y right (along d c z (inl meets) way) a b at_a at_b =
    let found = of_joint p.joints (tie d c) meets in
    let asked : found.0.asking ≡ a = ap (λ (t : Tie). end_in t.one) found.2 ∙ ap end_in at_a in
    further p a found.0.serving b right (inl (subst (λ (e : End). IsIn (joint e found.0.serving) p.joints) asked found.1))
    (near p c z right way found.0.serving b (sym (ap (λ (t : Tie). t.other) found.2)) at_b)
near p x y right (along d c z (inr meets) way) a b at_a at_b =
    let found = of_joint p.joints (tie c d) meets in
    let served : found.0.serving ≡ a = ap (λ (t : Tie). end_in t.other) found.2 ∙ ap end_in at_a in
    further p a found.0.asking b right (inr (subst (λ (e : End). IsIn (joint found.0.asking e) p.joints) served found.1))
    (near p c z right way found.0.asking b (sym (ap (λ (t : Tie). t.one) found.2)) at_b)

own_fits : (p : Plan) → IsRight p → (a b : End) (c d : Contact) → contact_at p a ≡ Some c → contact_at p b ≡ Some d → a ≢ b → Near p a b → d ≡ turned_contact c
own_fits p right a b c d at_a at_b differ (inl same) = absurd (differ same)
own_fits p right a b c d at_a at_b differ (inr (inl h)) =
    let f = fits p [] p.joints (joint a b) right h in
    same_Some d (serves f.0 f.1) (sym at_b ∙ f.3) ∙ ap turned_contact (same_Some (asks f.0 f.1) c (sym f.2 ∙ at_a))
own_fits p right a b c d at_a at_b differ (inr (inr h)) =
    let f = fits p [] p.joints (joint b a) right h in
    same_Some d (asks f.0 f.1) (sym at_b ∙ f.2) ∙ ap turned_contact (same_Some (serves f.0 f.1) c (sym f.3 ∙ at_a))

own_joint : (p : Plan) → IsRight p → (a b : End) (q v : ℕ) → contact_at p a ≡ Some (asks q v) → contact_at p b ≡ Some (serves q v) → Near p a b → IsIn (joint a b) p.joints
own_joint p right a b q v at_a at_b (inl same) = absurd (serves_is_not_asks q v q v (sym at_b ∙ (ap (contact_at p) (sym same) ∙ at_a)))
own_joint p right a b q v at_a at_b (inr (inl h)) = h
own_joint p right a b q v at_a at_b (inr (inr h)) =
    let f = fits p [] p.joints (joint b a) right h in absurd (serves_is_not_asks f.0 f.1 q v (sym f.3 ∙ at_a))

pub right_is_of_its_web : RightIsOfItsWeb
right_is_of_its_web p right =
    record {
      right = right;
      fits = λ a b c d at_a at_b differ way. own_fits p right a b c d at_a at_b differ (near p (Of a) (Of b) right way a b refl refl);
      joints = λ a b. (there a b, λ h. listed p.joints (joint a b) (own_joint p right a b h.0 h.1 h.2 h.3 (near p (Of a) (Of b) right h.4 a b refl refl)));
    }
  where
    there : (a b : End) → Contains p.joints (joint a b) → Connects (own_web p) p a b
    there a b h =
        let is_in = contained p.joints (joint a b) h in
        let f = fits p [] p.joints (joint a b) right is_in in
        (f.0, f.1, f.2, f.3, along (Of a) (Of b) (Of b) (inl (to_joint p.joints (joint a b) is_in)) (here (Of b)))
