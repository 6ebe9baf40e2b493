-- Where the plan with the Share is quiet, so is the other.
use Rattle.std.specs.Prelude.{◌⊎◌, None, nat_eq, slice_get}
use Rattle.std.proofs.Common.{◌≡◌, ℕ, Bool, true, false, List, [], Option, Some, inl, inr, refl, sym, ◌∙◌, ap, subst, arith, if◌then◌else◌}
use Rattle.gos_types.specs.Types.{Type'}
use Rattle.gos_types.specs.declared.shakes.Role.{Role}
use Rattle.gos_types.specs.declared.shakes.Role.TheVariants.{Serve, Ask}
use Rattle.gos_types.specs.Events.{Direction, Request, Answer}
use Rattle.gos_plan.specs.Kinds.{Contact, Part, asks, serves}
use Rattle.gos_plan.specs.Plans.{End, PartEnd, Plan, contact_at}
use Rattle.gos_plan.specs.Firing.{at, Rest, Slot, Req, Ans}
use Rattle.gos_plan.specs.Tokens.{Tokens, Element, Fire, Out, places_of, held_at, token_at, end_of, way_of, way_taken, firing_of, fired, with_token, Passes, Does, IsQuiet}
use Rattle.gos_plan.specs.Orderly.{none_open, AllWelcome}
use Rattle.gos_plan.proofs.JointLemmas.{IsIn, Found, found, fits}
use Rattle.gos_plan.proofs.AskingLemmas.{row_roles}
use Rattle.gos_plan.proofs.RowLemmas.{role_taking}
use Rattle.gos_realises.proofs.quiet.QuietLemmas.{orderly_welcome}
use Rattle.gos_joining.specs.webs.Webs.{joint}
use Rattle.gos_joining.specs.webs.Cutting.{asks_in}
use Rattle.gos_sharing.specs.sharing.Sharing.{IsOfPart, IsSeenThrough, LeadsThrough, passed_on, held_or, held_if, way_out_of, seen_tokens, ServesOne, QuietIsSeen}
use Rattle.gos_joining.proofs.webs.MovedLemmas.{listed}
use Rattle.gos_sharing.proofs.sharing.SeenPlaceLemmas.{Through}
use Rattle.gos_sharing.proofs.sharing.SeenTokenLemmas.{next, Owns, seen_at, asking_at, follows, of_part, either_end, one_server, place_asking, place_serving}
use Rattle.gos_sharing.proofs.sharing.SeenFireLemmas.{contact_seen, port_outside}
use Rattle.gos_sharing.proofs.sharing.SeenKeptLemmas.{Side, side, not_both_so}
use Rattle.gos_sharing.proofs.sharing.SeenElementLemmas.{takes_so, one_contact}
use Rattle.gos_sharing.proofs.sharing.SeenRunLemmas.{nothing_held}

-- a token that is seen lies where it is seen, where the Share has nothing to pass on
lies_there : (i : ℕ) (t : Type') (c : ℕ) (r q : Plan) → IsSeenThrough i t c r q → (w : Tokens) → AllWelcome r w → IsQuiet r w → (e a d : End) (way : Direction) (n : ℕ)
    → (IsOfPart i e → ⊥) → asks_in q.joints a ≡ true → Side r e d → ((k : Contact) → contact_at r e ≡ Some k → way_taken k.role ≡ way) → Owns i t c r a d
    → held_or (w.in_place way a) (held_if w way (next i t c r a)) ≡ Some n → w.in_place way d ≡ Some n
lies_there i t c r q is w welcome quiet e a d way n apart asking at_e takes (inl o) seen =
    ap (w.in_place way) o ∙ by_held (w.in_place way a) refl
  where
    followed_by : (p : Option End) → next i t c r a ≡ p → held_if w way p ≡ Some n → ⊥
    followed_by None h k = not_both_so n None refl k
    followed_by (Some f) h k = by_side at_e
      where
        v : (y : Through i t c r q a) × (f ≡ PartEnd i (passed_on t c y.shake))
        v = follows i t c r q a f (asking_at i t c r q is a asking) h

        answers : way ≡ Answer → ⊥
        answers is_way =
            let g = passed_on t c v.0.shake in
            let lies : token_at r w (PartEnd i g) Answer ≡ Some n =
            ap (held_at w Answer) (place_asking r (PartEnd i g) v.0.serving is.right v.0.out)
            ∙ (ap (w.in_place Answer) (sym v.1) ∙ subst (λ (y : Direction). w.in_place y f ≡ Some n) is_way k) in
            let fit = fits r [] r.joints (joint (PartEnd i g) v.0.serving) is.right v.0.out in
            let fires = welcome i (Ans g) (asks fit.0 fit.1) n fit.2 refl lies in
            quiet.0 i (Ans g) (fired r i fires.0 n w) (n, fires.0, lies, fires.1, refl)

        by_side : Side r e d → ⊥
        by_side (inl j) = answers (sym (takes (asks j.1.0 j.1.1) j.1.2))
        by_side (inr j) = apart (of_part i v.0.shake e (one_server r a e (PartEnd i v.0.shake) is.right (subst (λ (y : End). IsIn (joint y e) r.joints) o j.0) v.0.into))

    by_held : (x : Option ℕ) → w.in_place way a ≡ x → w.in_place way a ≡ Some n
    by_held None h = absurd (followed_by (next i t c r a) refl (ap (λ x. held_or x (held_if w way (next i t c r a))) (sym h) ∙ seen))
    by_held (Some m) h = h ∙ (ap (λ x. held_or x (held_if w way (next i t c r a))) (sym h) ∙ seen)
lies_there i t c r q is w welcome quiet e a d way n apart asking at_e takes (inr o) seen = by_held (w.in_place way a) refl
  where
    v : (y : Through i t c r q a) × (d ≡ PartEnd i (passed_on t c y.shake))
    v = follows i t c r q a d (asking_at i t c r q is a asking) o

    requests : (m : ℕ) → w.in_place way a ≡ Some m → way ≡ Request → ⊥
    requests m k is_way =
        let lies : token_at r w (PartEnd i v.0.shake) Request ≡ Some m =
        ap (held_at w Request) (place_serving r a (PartEnd i v.0.shake) is.right v.0.into) ∙ subst (λ (y : Direction). w.in_place y a ≡ Some m) is_way k in
        let fit = fits r [] r.joints (joint a (PartEnd i v.0.shake)) is.right v.0.into in
        let fires = welcome i (Req v.0.shake) (serves fit.0 fit.1) m fit.3 refl lies in
        quiet.0 i (Req v.0.shake) (fired r i fires.0 m w) (m, fires.0, lies, fires.1, refl)

    by_side : (m : ℕ) → w.in_place way a ≡ Some m → Side r e d → ⊥
    by_side m k (inl j) = apart (of_part i (passed_on t c v.0.shake) e (sym j.0 ∙ v.1))
    by_side m k (inr j) = requests m k (sym (takes (serves j.1.0 j.1.1) j.1.2))

    by_held : (x : Option ℕ) → w.in_place way a ≡ x → w.in_place way d ≡ Some n
    by_held None h = sym (ap (held_if w way) o) ∙ (ap (λ x. held_or x (held_if w way (next i t c r a))) (sym h) ∙ seen)
    by_held (Some m) h = absurd (by_side m h at_e)

token_too : (i : ℕ) (t : Type') (c : ℕ) (r q : Plan) → IsSeenThrough i t c r q → (w : Tokens) → AllWelcome r w → IsQuiet r w → (e : End) (way : Direction) (n : ℕ) → (IsOfPart i e → ⊥)
    → ((k : Contact) → contact_at r e ≡ Some k → way_taken k.role ≡ way) → token_at q (seen_tokens i t c r q w) e way ≡ Some n → token_at r w e way ≡ Some n
token_too i t c r q is w welcome quiet e way n apart takes lies = by_place (places_of q e) refl
  where
    by_place : (p : Option End) → places_of q e ≡ p → token_at r w e way ≡ Some n
    by_place None h = absurd (not_both_so n (token_at q (seen_tokens i t c r q w) e way) (ap (held_at (seen_tokens i t c r q w) way) h) lies)
    by_place (Some a) h =
        let at = seen_at i t c r q is e a h in
        let asking = at.asks in
        let seen : (if asks_in q.joints a then held_or (w.in_place way a) (held_if w way (next i t c r a)) else None) ≡ Some n = sym (ap (held_at (seen_tokens i t c r q w) way) h) ∙ lies in
        let plain : held_or (w.in_place way a) (held_if w way (next i t c r a)) ≡ Some n = rw asking at seen in
        ap (held_at w way) at.in_r ∙ lies_there i t c r q is w welcome quiet e a at.place way n apart asking (side r e at.place is.right at.in_r) takes at.owns plain

-- no end of the Share has a place in the plan without it
not_joined : (i : ℕ) (t : Type') (c : ℕ) (r q : Plan) → IsSeenThrough i t c r q → (h : ℕ) (a : End) → places_of q (PartEnd i h) ≡ Some a → ⊥
not_joined i t c r q is h a there = by_end (either_end (PartEnd i h) f.joint.asking f.joint.serving f.stands) ((is.joints f.joint.asking f.joint.serving).0 (listed q.joints f.joint f.is_in))
  where
    f : Found q.joints (PartEnd i h) a
    f = found q.joints (PartEnd i h) a there

    out_of : (j : ℕ) (role : Role) → IsOfPart i (way_out_of i t c j role)
    out_of j Serve = refl
    out_of j Ask = refl

    into_of : (j : ℕ) (role : Role) → IsOfPart i (Rattle.gos_sharing.specs.sharing.Sharing.way_into i t c j role)
    into_of j Serve = refl
    into_of j Ask = refl

    by_end : (PartEnd i h ≡ f.joint.asking) ⊎ (PartEnd i h ≡ f.joint.serving)
        → (Rattle.std.proofs.Common.Contains r.joints (joint f.joint.asking f.joint.serving) × (IsOfPart i f.joint.asking → ⊥) × (IsOfPart i f.joint.serving → ⊥)) ⊎ LeadsThrough i t c r f.joint.asking f.joint.serving → ⊥
    by_end (inl e) (inl p) = p.1 (of_part i h f.joint.asking (sym e))
    by_end (inr e) (inl p) = p.2 (of_part i h f.joint.serving (sym e))
    by_end (inl e) (inr (j, k, at_j, into, out)) = is.apart f.joint.asking _ into (of_part i h f.joint.asking (sym e)) (into_of j k.role)
    by_end (inr e) (inr (j, k, at_j, into, out)) = is.apart _ f.joint.serving out (out_of j k.role) (of_part i h f.joint.serving (sym e))

-- where each token is welcome, whatever led there
pub quiet_here : (i : ℕ) (t : Type') (c : ℕ) (r q : Plan) → IsSeenThrough i t c r q → (w : Tokens) → AllWelcome r w → IsQuiet r w → IsQuiet q (seen_tokens i t c r q w)
quiet_here i t c r q is w welcome quiet = (λ k slot u does. no_fire k slot u does (nat_eq k i) refl, λ e v u does. no_out e v u does (contact_at r e) refl)
  where
    placed : (h : ℕ) (way : Direction) (n : ℕ) → token_at q (seen_tokens i t c r q w) (PartEnd i h) way ≡ Some n → (p : Option End) → places_of q (PartEnd i h) ≡ p → ⊥
    placed h way n lies None k = not_both_so n (token_at q (seen_tokens i t c r q w) (PartEnd i h) way) (ap (held_at (seen_tokens i t c r q w) way) k) lies
    placed h way n lies (Some a) k = not_joined i t c r q is h a k

    no_fire : (k : ℕ) (slot : Slot) (u : Tokens) → Does q (Fire k slot) (seen_tokens i t c r q w) u → (b : Bool) → nat_eq k i ≡ b → ⊥
    no_fire k slot u (n, row, lies, by, leads) true h =
        let same : k ≡ i = grind (arith, h) in
        placed (Rattle.gos_plan.specs.Tokens.shake_of slot) (way_of slot) n (subst (λ (y : ℕ). token_at q (seen_tokens i t c r q w) (end_of y slot) (way_of slot) ≡ Some n) same lies) _ refl
    no_fire k slot u (n, row, lies, by, leads) false h = with_part (slice_get r.parts k) refl
      where
        apart : k ≡ i → ⊥
        apart e = let y : nat_eq k i ≡ true = grind (arith, e) in let z : true ≡ false = sym y ∙ h in cc z

        by_r : firing_of (slice_get r.parts k) (w.state k) slot ≡ Some row
        by_r =
            let here : (if nat_eq k i then at Rest c else w.state k) ≡ w.state k = rw h refl in
            ap (λ y. firing_of (slice_get r.parts k) y slot) (sym here) ∙ (ap (λ y. firing_of (slice_get y k) (if nat_eq k i then at Rest c else w.state k) slot) (sym is.parts) ∙ by)

        with_part : (p : Option Part) → slice_get r.parts k ≡ p → ⊥
        with_part None z = let no : None ≡ Some row = ap (λ y. firing_of y (w.state k) slot) (sym z) ∙ by_r in cc no
        with_part (Some p) z =
            let roles = row_roles p (w.state k) slot row n (ap (λ y. firing_of y (w.state k) slot) (sym z) ∙ by_r) in
            let role = subst (λ (x : Slot). Rattle.gos_plan.proofs.AskingLemmas.RoleIs p (Rattle.gos_plan.specs.Tokens.shake_of x) (role_taking x)) roles.0 roles.1.0 in
            let there = token_too i t c r q is w welcome quiet (end_of k slot) (way_of slot) n apart (takes_so r k p slot z role) lies in
            quiet.0 k slot (fired r k row n w) (n, row, there, by_r, refl)

    no_out : (e : End) (v : ℕ) (u : Tokens) → Does q (Out e v) (seen_tokens i t c r q w) u → (f : Option Contact) → contact_at r e ≡ f → ⊥
    no_out e v u does None h = subst (λ (f : Option Contact). Passes q (Out e v) f (seen_tokens i t c r q w) u) (contact_seen i t c r q is e ∙ h) does.1
    no_out e v u does (Some k) h =
        let passes = subst (λ (f : Option Contact). Passes q (Out e v) f (seen_tokens i t c r q w) u) (contact_seen i t c r q is e ∙ h) does.1 in
        let there = token_too i t c r q is w welcome quiet e (way_taken k.role) v (port_outside i e does.0) (λ d z. ap (λ (x : Contact). way_taken x.role) (one_contact r e k d h z)) passes.0 in
        quiet.1 e v (with_token r e (way_taken k.role) None w) (does.0, subst (λ (f : Option Contact). Passes r (Out e v) f w (with_token r e (way_taken k.role) None w)) (sym h) (there, refl))

pub all_welcome : (i : ℕ) (t : Type') (c : ℕ) (r q : Plan) (xs : List Element) (s w : Tokens) → ServesOne i t c r q xs s w → AllWelcome r w
all_welcome i t c r q xs s w one =
    orderly_welcome r xs none_open one.opened s w one.orderly
    (λ k slot d v there way lies. absurd (not_both_so v (token_at r s (end_of k slot) (way_of slot)) (nothing_held s (way_of slot) (places_of r (end_of k slot)) (λ a. one.idle.0 (way_of slot) a)) lies))

pub quiet_is_seen : QuietIsSeen
quiet_is_seen i t c r q xs s w one quiet = quiet_here i t c r q one.plans w (all_welcome i t c r q xs s w one) quiet
