-- A plan is a joining where each place of the plans has an end of it: what a joint or a link joins has one handshake there.
use Rattle.std.specs.Prelude.{◌≢◌, ◌⊎◌, ◌+◌, None, slice_get, map}
use Rattle.std.proofs.Common.{◌≡◌, ℕ, true, [], Option, Some, Contains, inl, inr, refl, sym, ◌∙◌, ap, subst}
use Rattle.gos_types.specs.declared.shakes.Role.TheVariants.{Serve, Ask}
use Rattle.gos_plan.specs.Kinds.{Contact, asks, serves, contacts_of, turned_contact}
use Rattle.gos_plan.specs.Plans.{End, Joint, Plan, contact_at, IsRight}
use Rattle.gos_plan.specs.Joining.{Place, Wiring, all_parts, all_weight, all_left, origin, JoinedWithin, Linked, Path, Connects, contacts_of_result, IsJoining}
use Rattle.gos_plan.specs.Tokens.{places_of}
use Rattle.gos_plan.specs.Orderly.{named_by, handshake_at}
use Rattle.gos_plan.proofs.JointLemmas.{IsIn, found, fits, one_joint, contained}
use Rattle.gos_joining.specs.webs.Webs.{joint}
use Rattle.gos_joining.proofs.webs.MovedLemmas.{listed}
use Rattle.gos_joining.proofs.webs.WebLemmas.{asks_there}
use Rattle.gos_sharing.proofs.sharing.SeenTokenLemmas.{either_end, place_asking, place_serving}
use Rattle.gos_sharing.proofs.buffers.KeptLemmas.{path_keeps}

-- where each place stands in the joining
pub record IsHoused (w : Wiring) (r : Plan) (home : Place → End) : Type 0 where
  pub within : (a b : Place) → JoinedWithin w a b → handshake_at r (home a) ≡ handshake_at r (home b)
  pub linked : (a b : Place) → Linked w a b → handshake_at r (home a) ≡ handshake_at r (home b)
  pub origins : (e : End) (c : Contact) → contact_at r e ≡ Some c → home (origin w e) ≡ e
  pub paths : (a b : End) → Contains r.joints (joint a b) → (n : ℕ) × Path w n (origin w a) (origin w b)

-- a joint gives its ends one handshake
pub one_handshake : (r : Plan) (a b : End) → IsRight r → IsIn (joint a b) r.joints → handshake_at r a ≡ handshake_at r b
one_handshake r a b right here = ap (λ f. named_by f a) (place_asking r a b right here) ∙ sym (ap (λ f. named_by f b) (place_serving r a b right here))

-- two ends of one handshake are those of a joint
abbrev pub Together : Plan → End → End → Type 0
Together r a b = IsIn (joint a b) r.joints ⊎ IsIn (joint b a) r.joints

pub together : (r : Plan) (a b : End) → IsRight r → a ≢ b → handshake_at r a ≡ handshake_at r b → Together r a b
together r a b right apart same = by_places (places_of r a) refl (places_of r b) refl
  where
    named : (e x : End) → places_of r e ≡ Some x → handshake_at r e ≡ x
    named e x h = ap (λ p. named_by p e) h

    bare : (e : End) → places_of r e ≡ None → handshake_at r e ≡ e
    bare e h = ap (λ p. named_by p e) h

    -- the joint of an end that has a place
    at_joint : (e x : End) → places_of r e ≡ Some x → (y : End) × IsIn (joint x y) r.joints × ((e ≡ x) ⊎ (e ≡ y))
    at_joint e x h =
        let f = found r.joints e x h in (
          f.joint.serving,
          subst (λ (z : End). IsIn (joint z f.joint.serving) r.joints) f.named f.is_in,
          either_end e x f.joint.serving (subst (λ (z : End). Rattle.gos_plan.specs.Plans.stands_in e (joint z f.joint.serving) ≡ true) f.named f.stands),
        )

    one_placed : (e d x : End) → places_of r e ≡ Some x → places_of r d ≡ None → x ≡ d → ⊥
    one_placed e d x h none at_d =
        let at = at_joint e x h in
        let there = place_asking r x at.0 right at.1 in
        let clash : None ≡ Some x = sym none ∙ (ap (places_of r) (sym at_d) ∙ there) in
        cc clash

    both_placed : (x : End) → places_of r a ≡ Some x → places_of r b ≡ Some x → Together r a b
    both_placed x h k = by_ends (at_joint a x h) (at_joint b x k)
      where
        by_ends : (y : End) × IsIn (joint x y) r.joints × ((a ≡ x) ⊎ (a ≡ y)) → (z : End) × IsIn (joint x z) r.joints × ((b ≡ x) ⊎ (b ≡ z)) → Together r a b
        by_ends (y, one, inl at_a) (z, other, inl at_b) = absurd (apart (at_a ∙ sym at_b))
        by_ends (y, one, inl at_a) (z, other, inr at_b) =
            inl (subst (λ (v : End). IsIn (joint v b) r.joints) (sym at_a) (subst (λ (v : End). IsIn (joint x v) r.joints) (sym at_b) other))
        by_ends (y, one, inr at_a) (z, other, inl at_b) =
            inr (subst (λ (v : End). IsIn (joint v a) r.joints) (sym at_b) (subst (λ (v : End). IsIn (joint x v) r.joints) (sym at_a) one))
        by_ends (y, one, inr at_a) (z, other, inr at_b) =
            let equal = ap (λ (j : Joint). j.serving) (one_joint r [] r.joints (joint x y) (joint x z) x right one other (asks_there x y) (asks_there x z)) in
            absurd (apart (at_a ∙ (equal ∙ sym at_b)))

    by_places : (m : Option End) → places_of r a ≡ m → (n : Option End) → places_of r b ≡ n → Together r a b
    by_places None h None k = absurd (apart (sym (bare a h) ∙ (same ∙ bare b k)))
    by_places (Some x) h None k = absurd (one_placed a b x h k (sym (named a x h) ∙ (same ∙ bare b k)))
    by_places None h (Some y) k = absurd (one_placed b a y k h (sym (named b y k) ∙ (sym same ∙ bare a h)))
    by_places (Some x) h (Some y) k = both_placed x h (k ∙ ap Some (sym (named b y k) ∙ (sym same ∙ named a x h)))

pub is_contact : (r : Plan) (e : End) (c d : Contact) → contact_at r e ≡ Some c → contact_at r e ≡ Some d → c ≡ d
is_contact r e c d h k = let both : Some c ≡ Some d = sym h ∙ k in cc both

pub not_both : (q a x y : ℕ) → asks q a ≡ serves x y → ⊥
not_both q a x y e = let roles : Ask ≡ Serve = ap (λ (c : Contact). c.role) e in cc roles

-- an end that serves in another one's handshake stands in a joint behind that one
pub joint_to : (r : Plan) (a b : End) (q v : ℕ) → IsRight r → a ≢ b → contact_at r b ≡ Some (serves q v) → handshake_at r a ≡ handshake_at r b
    → IsIn (joint a b) r.joints
joint_to r a b q v right apart there same = of_two (together r a b right apart same)
  where
    of_two : Together r a b → IsIn (joint a b) r.joints
    of_two (inl here) = here
    of_two (inr here) =
        let fit = fits r [] r.joints (joint b a) right here in
        absurd (not_both fit.0 fit.1 q v (is_contact r b (asks fit.0 fit.1) (serves q v) fit.2 there))

-- one that asks is no other that serves
pub asker_apart : (r : Plan) (a b : End) (q v : ℕ) → contact_at r a ≡ Some (asks q v) → contact_at r b ≡ Some (serves q v) → a ≢ b
asker_apart r a b q v there also e = not_both q v q v (is_contact r a (asks q v) (serves q v) there (ap (contact_at r) e ∙ also))

pub housed_joining : (w : Wiring) (r : Plan) (home : Place → End) → IsRight r → IsHoused w r home
    → r.parts ≡ all_parts w.plans → r.imports ≡ map (λ l. l.import) (all_left w) → r.outcome ≡ w.outcome → r.weight ≡ all_weight w.plans
    → ((h : ℕ) (c : Contact) → slice_get (contacts_of w.outcome) h ≡ Some c → slice_get (contacts_of_result (slice_get w.plans w.giver)) (w.skipped + h) ≡ Some c)
    → IsJoining w r
housed_joining w r home right housed parts imports outcome weight result =
    record {
      parts = parts;
      imports = imports;
      outcome = outcome;
      weight = weight;
      right = right;
      result = result;
      fits = λ a b c d n there also apart path. turned_by a b c d there also (together r a b right apart (one_name a b c d n there also path));
      joints = λ a b. (connects a b, joined a b);
    }
  where
    one_name : (a b : End) (c d : Contact) (n : ℕ) → contact_at r a ≡ Some c → contact_at r b ≡ Some d → Path w n (origin w a) (origin w b) → handshake_at r a ≡ handshake_at r b
    one_name a b c d n there also path =
        ap (handshake_at r) (sym (housed.origins a c there))
        ∙ (path_keeps End (λ x. handshake_at r (home x)) w housed.within housed.linked n (origin w a) (origin w b) path
        ∙ ap (handshake_at r) (housed.origins b d also))

    turned_by : (a b : End) (c d : Contact) → contact_at r a ≡ Some c → contact_at r b ≡ Some d → Together r a b → d ≡ turned_contact c
    turned_by a b c d there also (inl here) =
        let fit = fits r [] r.joints (joint a b) right here in
        is_contact r b d (serves fit.0 fit.1) also fit.3 ∙ ap turned_contact (is_contact r a (asks fit.0 fit.1) c fit.2 there)
    turned_by a b c d there also (inr here) =
        let fit = fits r [] r.joints (joint b a) right here in
        is_contact r b d (asks fit.0 fit.1) also fit.2 ∙ ap turned_contact (is_contact r a (serves fit.0 fit.1) c fit.3 there)

    connects : (a b : End) → Contains r.joints (joint a b) → Connects w r a b
    connects a b has =
        let fit = fits r [] r.joints (joint a b) right (contained r.joints (joint a b) has) in
        let path = housed.paths a b has in
        (fit.0, fit.1, path.0, fit.2, fit.3, path.1)

    joined : (a b : End) → Connects w r a b → Contains r.joints (joint a b)
    joined a b (q, v, n, there, also, path) =
        listed r.joints (joint a b) (joint_to r a b q v right (asker_apart r a b q v there also) also (one_name a b (asks q v) (serves q v) n there also path))
