-- Tokens seen through a Share: what is put or taken outside it.
use Rattle.std.specs.Prelude.{◌⊎◌, None}
use Rattle.std.proofs.Common.{◌≡◌, ℕ, Bool, true, false, [], Option, Some, inl, inr, refl, sym, ◌∙◌, ap, subst, arith}
use Rattle.gos_types.specs.Types.{Type'}
use Rattle.gos_plan.specs.Plans.{End, PartEnd, Joint, Plan, same_end, stands_in, IsRight}
use Rattle.gos_plan.specs.Tokens.{places_of}
use Rattle.gos_plan.proofs.JointLemmas.{IsIn, same_is, Found, found, one_joint, stands_there}
use Rattle.gos_joining.specs.webs.Webs.{joint}
use Rattle.gos_joining.specs.webs.Cutting.{asks_in}
use Rattle.gos_sharing.specs.sharing.Sharing.{other_end, IsOfPart, IsSeenThrough, passed_on, follower}
use Rattle.gos_joining.proofs.webs.WebLemmas.{asks_there, serves_there}
use Rattle.gos_sharing.proofs.sharing.SeenPlaceLemmas.{Plain, Through, asker, asks_so, asking_of}

abbrev pub next : ℕ → Type' → ℕ → Plan → End → Option End
next i t c r a = follower i t c (other_end r.joints a)

-- place d of the plan with the Share is a place of the joint of this name
abbrev pub Owns : ℕ → Type' → ℕ → Plan → End → End → Type 0
Owns i t c r a d = (d ≡ a) ⊎ (next i t c r a ≡ Some d)

pub asking_at : (i : ℕ) (t : Type') (c : ℕ) (r q : Plan) → IsSeenThrough i t c r q → (a : End) → asks_in q.joints a ≡ true → Plain i t c r q a ⊎ Through i t c r q a
asking_at i t c r q is a asks = let b = asker q.joints a asks in asking_of i t c r q is a b.0 b.1

pub outside_at : (i : ℕ) (t : Type') (c : ℕ) (r q : Plan) (a : End) → Plain i t c r q a ⊎ Through i t c r q a → IsOfPart i a → ⊥
outside_at i t c r q a (inl p) = p.outside
outside_at i t c r q a (inr p) = p.outside

-- a joint that is followed goes through the Share, to the place that follows
pub follows : (i : ℕ) (t : Type') (c : ℕ) (r q : Plan) (a d : End) → Plain i t c r q a ⊎ Through i t c r q a → next i t c r a ≡ Some d
    → (w : Through i t c r q a) × (d ≡ PartEnd i (passed_on t c w.shake))
follows i t c r q a d (inl p) h = let e : None ≡ Some d = sym p.next ∙ h in absurd (cc e)
follows i t c r q a d (inr p) h = let e : Some (PartEnd i (passed_on t c p.shake)) ≡ Some d = sym p.next ∙ h in (p, (cc e))

pub of_part : (i h : ℕ) (d : End) → d ≡ PartEnd i h → IsOfPart i d
of_part i h d e = subst (λ (x : End). IsOfPart i x) (sym e) refl

pub one_owner : (i : ℕ) (t : Type') (c : ℕ) (r q : Plan) → IsSeenThrough i t c r q → (a b d : End) → asks_in q.joints a ≡ true → asks_in q.joints b ≡ true
    → Owns i t c r a d → Owns i t c r b d → a ≡ b
one_owner i t c r q is a b d asks also (inl h) (inl k) = sym h ∙ k
one_owner i t c r q is a b d asks also (inl h) (inr k) =
    let w = follows i t c r q b d (asking_at i t c r q is b also) k in
    absurd (outside_at i t c r q a (asking_at i t c r q is a asks) (of_part i (passed_on t c w.0.shake) a (sym h ∙ w.1)))
one_owner i t c r q is a b d asks also (inr h) (inl k) =
    let w = follows i t c r q a d (asking_at i t c r q is a asks) h in
    absurd (outside_at i t c r q b (asking_at i t c r q is b also) (of_part i (passed_on t c w.0.shake) b (sym k ∙ w.1)))
one_owner i t c r q is a b d asks also (inr h) (inr k) =
    let v = follows i t c r q a d (asking_at i t c r q is a asks) h in
    let w = follows i t c r q b d (asking_at i t c r q is b also) k in
    let ends : PartEnd i (passed_on t c v.0.shake) ≡ PartEnd i (passed_on t c w.0.shake) = sym v.1 ∙ w.1 in
    let passed : passed_on t c v.0.shake ≡ passed_on t c w.0.shake = cc ends in
    let same : v.0.shake ≡ w.0.shake = sym v.0.back ∙ (ap (passed_on t c) passed ∙ w.0.back) in
    let into : IsIn (joint b (PartEnd i v.0.shake)) r.joints = subst (λ (n : ℕ). IsIn (joint b (PartEnd i n)) r.joints) (sym same) w.0.into in
    ap (λ (j : Joint). j.asking)
    (one_joint r [] r.joints (joint a (PartEnd i v.0.shake)) (joint b (PartEnd i v.0.shake)) (PartEnd i v.0.shake) is.right v.0.into into
    (serves_there a (PartEnd i v.0.shake)) (serves_there b (PartEnd i v.0.shake)))

-- where an end outside the Share has its places in both plans
pub record Seen (i : ℕ) (t : Type') (c : ℕ) (r q : Plan) (e a : End) : Type 0 where
  pub place : End
  pub in_r : places_of r e ≡ Some place
  pub asks : asks_in q.joints a ≡ true
  pub owns : Owns i t c r a place

pub either_end : (e a b : End) → stands_in e (joint a b) ≡ true → (e ≡ a) ⊎ (e ≡ b)
either_end e a b h = by_test (same_end e a) refl
  where
    by_test : (t : Bool) → same_end e a ≡ t → (e ≡ a) ⊎ (e ≡ b)
    by_test true t = inl (same_is e a t)
    by_test false t = inr (same_is e b (grind (arith, h, t)))

-- an end has one partner: who asks at it, or serves it
pub one_server : (p : Plan) (a b d : End) → IsRight p → IsIn (joint a b) p.joints → IsIn (joint a d) p.joints → b ≡ d
one_server p a b d right h k =
    ap (λ (j : Joint). j.serving) (one_joint p [] p.joints (joint a b) (joint a d) a right h k (asks_there a b) (asks_there a d))

pub place_asking : (p : Plan) (a b : End) → IsRight p → IsIn (joint a b) p.joints → places_of p a ≡ Some a
place_asking p a b right h = stands_there p (joint a b) a right h (asks_there a b)

pub place_serving : (p : Plan) (a b : End) → IsRight p → IsIn (joint a b) p.joints → places_of p b ≡ Some a
place_serving p a b right h = stands_there p (joint a b) b right h (serves_there a b)

pub seen_at : (i : ℕ) (t : Type') (c : ℕ) (r q : Plan) → IsSeenThrough i t c r q → (e a : End) → places_of q e ≡ Some a → Seen i t c r q e a
seen_at i t c r q is e a there = by_end (either_end e f.joint.asking f.joint.serving f.stands)
  where
    f : Found q.joints e a
    f = found q.joints e a there

    in_q : IsIn (joint a f.joint.serving) q.joints
    in_q = subst (λ (x : End). IsIn (joint x f.joint.serving) q.joints) f.named f.is_in

    asks : asks_in q.joints a ≡ true
    asks = asks_so q.joints a f.joint.serving in_q

    at_asker : e ≡ a → Plain i t c r q a ⊎ Through i t c r q a → Seen i t c r q e a
    at_asker h (inl p) = record { place = a; in_r = ap (places_of r) h ∙ place_asking r a p.serving is.right p.in_r; asks = asks; owns = inl refl }
    at_asker h (inr p) = record { place = a; in_r = ap (places_of r) h ∙ place_asking r a (PartEnd i p.shake) is.right p.into; asks = asks; owns = inl refl }

    at_server : e ≡ f.joint.serving → Plain i t c r q a ⊎ Through i t c r q a → Seen i t c r q e a
    at_server h (inl p) =
        let same : e ≡ p.serving = h ∙ one_server q a f.joint.serving p.serving is.also_right in_q p.in_q in
        record { place = a; in_r = ap (places_of r) same ∙ place_serving r a p.serving is.right p.in_r; asks = asks; owns = inl refl }
    at_server h (inr p) =
        let same : e ≡ p.serving = h ∙ one_server q a f.joint.serving p.serving is.also_right in_q p.in_q in
        record {
          place = PartEnd i (passed_on t c p.shake);
          in_r = ap (places_of r) same ∙ place_serving r (PartEnd i (passed_on t c p.shake)) p.serving is.right p.out;
          asks = asks;
          owns = inr p.next;
        }

    by_end : (e ≡ f.joint.asking) ⊎ (e ≡ f.joint.serving) → Seen i t c r q e a
    by_end (inl h) = at_asker (h ∙ f.named) (asking_at i t c r q is a asks)
    by_end (inr h) = at_server h (asking_at i t c r q is a asks)

-- the places of an end that has none in the plan without the Share are not seen
pub lost_at : (i : ℕ) (t : Type') (c : ℕ) (r q : Plan) → IsSeenThrough i t c r q → (e d a : End) → (IsOfPart i e → ⊥) → places_of q e ≡ None → places_of r e ≡ Some d
    → asks_in q.joints a ≡ true → Owns i t c r a d → ⊥
lost_at i t c r q is e d a apart none there asks owns = by_owner owns (asking_at i t c r q is a asks)
  where
    f : Found r.joints e d
    f = found r.joints e d there

    in_r : IsIn (joint d f.joint.serving) r.joints
    in_r = subst (λ (x : End). IsIn (joint x f.joint.serving) r.joints) f.named f.is_in

    clash : (x : End) → places_of q e ≡ Some x → ⊥
    clash x h = let k : None ≡ Some x = sym none ∙ h in cc k

    ends : (e ≡ d) ⊎ (e ≡ f.joint.serving)
    ends = either_end e d f.joint.serving (subst (λ (x : End). stands_in e (joint x f.joint.serving) ≡ true) f.named f.stands)

    as_asker : e ≡ a → (b : End) → IsIn (joint a b) q.joints → ⊥
    as_asker h b k = clash a (ap (places_of q) h ∙ place_asking q a b is.also_right k)

    as_server : (b : End) → e ≡ b → IsIn (joint a b) q.joints → ⊥
    as_server b h k = clash a (ap (places_of q) h ∙ place_serving q a b is.also_right k)

    by_end : d ≡ a → (e ≡ d) ⊎ (e ≡ f.joint.serving) → Plain i t c r q a ⊎ Through i t c r q a → ⊥
    by_end o (inl h) (inl p) = as_asker (h ∙ o) p.serving p.in_q
    by_end o (inl h) (inr p) = as_asker (h ∙ o) p.serving p.in_q
    by_end o (inr h) (inl p) =
        as_server p.serving (h ∙ one_server r a f.joint.serving p.serving is.right (subst (λ (x : End). IsIn (joint x f.joint.serving) r.joints) o in_r) p.in_r) p.in_q
    by_end o (inr h) (inr p) =
        apart (of_part i p.shake e (h ∙ one_server r a f.joint.serving (PartEnd i p.shake) is.right (subst (λ (x : End). IsIn (joint x f.joint.serving) r.joints) o in_r) p.into))

    at_follower : (w : Through i t c r q a) → d ≡ PartEnd i (passed_on t c w.shake) → (e ≡ d) ⊎ (e ≡ f.joint.serving) → ⊥
    at_follower w k (inl h) = apart (of_part i (passed_on t c w.shake) e (h ∙ k))
    at_follower w k (inr h) =
        as_server w.serving
        (h ∙ one_server r (PartEnd i (passed_on t c w.shake)) f.joint.serving w.serving is.right (subst (λ (x : End). IsIn (joint x f.joint.serving) r.joints) k in_r) w.out)
        w.in_q

    by_owner : Owns i t c r a d → Plain i t c r q a ⊎ Through i t c r q a → ⊥
    by_owner (inl o) kind = by_end o ends kind
    by_owner (inr o) kind = let w = follows i t c r q a d kind o in at_follower w.0 w.1 ends
