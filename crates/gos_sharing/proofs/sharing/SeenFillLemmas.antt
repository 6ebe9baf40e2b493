-- Tokens seen through a Share: a place filled or emptied outside it.
use Rattle.std.specs.Prelude.{None, nat_eq, ◌&&◌}
use Rattle.std.proofs.Common.{◌≡◌, ℕ, Bool, true, false, Option, Some, inl, inr, refl, sym, ◌∙◌, ap, subst, if◌then◌else◌}
use Rattle.gos_types.specs.Types.{Type'}
use Rattle.gos_types.specs.Events.{Direction, Request, Answer}
use Rattle.gos_plan.specs.Plans.{End, Plan, same_end}
use Rattle.gos_plan.specs.Firing.{Rest, at}
use Rattle.gos_plan.specs.Tokens.{Tokens, places_of, same_way, with_place, with_held, held_at, token_at, with_token}
use Rattle.gos_plan.proofs.JointLemmas.{same_itself, same_is, apart_is_not_same}
use Rattle.gos_joining.specs.webs.Cutting.{asks_in}
use Rattle.gos_sharing.specs.sharing.Sharing.{IsOfPart, IsSeenThrough, held_or, held_if, seen_tokens}
use Rattle.gos_sharing.proofs.sharing.SeenTokenLemmas.{next, Owns, one_owner, seen_at, lost_at, follows, asking_at, outside_at}

-- the other place of the joint is empty
abbrev pub IsClear : ℕ → Type' → ℕ → Plan → Tokens → Direction → End → End → Type 0
IsClear i t c r s way a d =
    (d ≡ a → held_if s way (next i t c r a) ≡ None) × (next i t c r a ≡ Some d → s.in_place way a ≡ None)

-- what is seen in a place that there is
abbrev held_in : ℕ → Type' → ℕ → Plan → Tokens → Direction → End → Option ℕ
held_in i t c r s way e = held_or (s.in_place way e) (held_if s way (next i t c r e))

-- a place that isn't of this joint is filled: it isn't seen there
untouched : (s : Tokens) (way w : Direction) (d e : End) (o : Option End) (held : Option ℕ) → (d ≡ e → ⊥) → (o ≡ Some d → ⊥)
    → held_or ((with_place way d held s).in_place w e) (held_if (with_place way d held s) w o) ≡ held_or (s.in_place w e) (held_if s w o)
untouched s way w d e None held h k =
    let t : same_end e d ≡ false = apart_is_not_same e d (λ x. h (sym x)) in untouched_test (same_way w way) (same_end e d) held (s.in_place w e) t
  where
    untouched_test : (a b : Bool) (v u : Option ℕ) → b ≡ false → held_or (if a && b then v else u) None ≡ held_or u None
    untouched_test true true v u t = absurd (cc t)
    untouched_test true false v u t = refl
    untouched_test false b v u t = refl
untouched s way w d e (Some f) held h k =
    let t : same_end e d ≡ false = apart_is_not_same e d (λ x. h (sym x)) in
    let g : same_end f d ≡ false = apart_is_not_same f d (λ x. k (ap Some x)) in
    untouched_test (same_way w way) (same_end e d) (same_end f d) held (s.in_place w e) (s.in_place w f) t g
  where
    untouched_test : (a b g : Bool) (v u z : Option ℕ) → b ≡ false → g ≡ false → held_or (if a && b then v else u) (if a && g then v else z) ≡ held_or u z
    untouched_test true true g v u z t k = absurd (cc t)
    untouched_test true false true v u z t k = absurd (cc k)
    untouched_test true false false v u z t k = refl
    untouched_test false b g v u z t k = refl

none_below : (v : Option ℕ) → held_or v None ≡ v
none_below None = refl
none_below (Some v) = refl

-- filled in one of its two places
filled_first : (s : Tokens) (way w : Direction) (a : End) (o : Option End) (held : Option ℕ) → (o ≡ Some a → ⊥) → held_if s way o ≡ None
    → held_or ((with_place way a held s).in_place w a) (held_if (with_place way a held s) w o) ≡ (if same_way w way then held else held_or (s.in_place w a) (held_if s w o))
filled_first s way w a None held h k = by_test (same_way w way) (same_end a a) held (s.in_place w a) (same_itself a)
  where
    by_test : (m b : Bool) (v u : Option ℕ) → b ≡ true → held_or (if m && b then v else u) None ≡ (if m then v else held_or u None)
    by_test true true v u t = none_below v
    by_test true false v u t = absurd (cc t)
    by_test false b v u t = refl
filled_first s Request Request a (Some f) held h k =
    let t : same_end f a ≡ false = apart_is_not_same f a (λ x. h (ap Some x)) in rw (same_itself a, t, k) (none_below held)
filled_first s Answer Answer a (Some f) held h k =
    let t : same_end f a ≡ false = apart_is_not_same f a (λ x. h (ap Some x)) in rw (same_itself a, t, k) (none_below held)
filled_first s Request Answer a (Some f) held h k = refl
filled_first s Answer Request a (Some f) held h k = refl

filled_second : (s : Tokens) (way w : Direction) (a d : End) (held : Option ℕ) → (d ≡ a → ⊥) → s.in_place way a ≡ None
    → held_or ((with_place way d held s).in_place w a) (held_if (with_place way d held s) w (Some d)) ≡ (if same_way w way then held else held_or (s.in_place w a) (s.in_place w d))
filled_second s Request Request a d held h k = let t : same_end a d ≡ false = apart_is_not_same a d (λ x. h (sym x)) in rw (t, k, same_itself d) refl
filled_second s Answer Answer a d held h k = let t : same_end a d ≡ false = apart_is_not_same a d (λ x. h (sym x)) in rw (t, k, same_itself d) refl
filled_second s Request Answer a d held h k = refl
filled_second s Answer Request a d held h k = refl

apart_next : (i : ℕ) (t : Type') (c : ℕ) (r q : Plan) → IsSeenThrough i t c r q → (a d : End) → asks_in q.joints a ≡ true → next i t c r a ≡ Some d → d ≡ a → ⊥
apart_next i t c r q is a d asks h same =
    let w = follows i t c r q a d (asking_at i t c r q is a asks) h in
    outside_at i t c r q a (asking_at i t c r q is a asks) (subst (λ (x : End). IsOfPart i x) (sym w.1 ∙ same) refl)

-- the joint's own places
filled_own : (i : ℕ) (t : Type') (c : ℕ) (r q : Plan) → IsSeenThrough i t c r q → (s : Tokens) (way w : Direction) (a d : End) (held : Option ℕ) → asks_in q.joints a ≡ true
    → Owns i t c r a d → IsClear i t c r s way a d → held_in i t c r (with_place way d held s) w a ≡ (if same_way w way then held else held_in i t c r s w a)
filled_own i t c r q is s way w a d held asks (inl o) clear =
    subst (λ (x : End). held_in i t c r (with_place way x held s) w a ≡ (if same_way w way then held else held_in i t c r s w a)) (sym o)
    (filled_first s way w a (next i t c r a) held (λ h. apart_next i t c r q is a a asks h refl) (clear.0 o))
filled_own i t c r q is s way w a d held asks (inr o) clear =
    subst (λ (x : Option End). held_or ((with_place way d held s).in_place w a) (held_if (with_place way d held s) w x) ≡ (if same_way w way then held else held_or (s.in_place w a) (held_if s w x)))
    (sym o) (filled_second s way w a d held (apart_next i t c r q is a d asks o) (clear.1 o))

place_seen : (i : ℕ) (t : Type') (c : ℕ) (r q : Plan) → IsSeenThrough i t c r q → (s : Tokens) (way w : Direction) (a d e : End) (held : Option ℕ) → asks_in q.joints a ≡ true
    → Owns i t c r a d → IsClear i t c r s way a d
    → (if asks_in q.joints e then held_in i t c r (with_place way d held s) w e else None)
    ≡ (if same_way w way && same_end e a then held else if asks_in q.joints e then held_in i t c r s w e else None)
place_seen i t c r q is s way w a d e held asks owns clear = by_name (same_end e a) refl
  where
    other : (b : Bool) → asks_in q.joints e ≡ b → (e ≡ a → ⊥)
        → (if b then held_in i t c r (with_place way d held s) w e else None) ≡ (if b then held_in i t c r s w e else None)
    other true k apart =
        untouched s way w d e (next i t c r e) held (λ h. apart (one_owner i t c r q is e a d k asks (inl h) owns)) (λ h. apart (one_owner i t c r q is e a d k asks (inr h) owns))
    other false k apart = refl

    not_way : (m : Bool) (v u : Option ℕ) → u ≡ (if m && false then v else u)
    not_way true v u = refl
    not_way false v u = refl

    this_way : (m : Bool) (v u : Option ℕ) → (if m then v else u) ≡ (if m && true then v else u)
    this_way true v u = refl
    this_way false v u = refl

    by_name : (b : Bool) → same_end e a ≡ b
        → (if asks_in q.joints e then held_in i t c r (with_place way d held s) w e else None)
        ≡ (if same_way w way && same_end e a then held else if asks_in q.joints e then held_in i t c r s w e else None)
    by_name true k =
        subst (λ (x : End). (if asks_in q.joints x then held_in i t c r (with_place way d held s) w x else None)
        ≡ (if same_way w way && same_end x a then held else if asks_in q.joints x then held_in i t c r s w x else None)) (sym (same_is e a k))
        (rw (asks, same_itself a) (filled_own i t c r q is s way w a d held asks owns clear ∙ this_way (same_way w way) held (held_in i t c r s w a)))
    by_name false k =
        rw k (other (asks_in q.joints e) refl (λ h. let y : same_end e a ≡ true = ap (λ x. same_end x a) h ∙ same_itself a in let z : true ≡ false = sym y ∙ k in cc z)
        ∙ not_way (same_way w way) held (if asks_in q.joints e then held_in i t c r s w e else None))

pub place_filled : (i : ℕ) (t : Type') (c : ℕ) (r q : Plan) → IsSeenThrough i t c r q → (s : Tokens) (way : Direction) (a d : End) (held : Option ℕ) → asks_in q.joints a ≡ true
    → Owns i t c r a d → IsClear i t c r s way a d
    → seen_tokens i t c r q (with_place way d held s) ≡ with_place way a held (seen_tokens i t c r q s)
place_filled i t c r q is s way a d held asks owns clear =
    λ k. record {
      in_place = λ w e. place_seen i t c r q is s way w a d e held asks owns clear k;
      state = λ j. if nat_eq j i then at Rest c else s.state j;
    }

-- a place that isn't seen
pub unseen_filled : (i : ℕ) (t : Type') (c : ℕ) (r q : Plan) (s : Tokens) (way : Direction) (d : End) (held : Option ℕ)
    → ((a : End) → asks_in q.joints a ≡ true → Owns i t c r a d → ⊥)
    → seen_tokens i t c r q (with_place way d held s) ≡ seen_tokens i t c r q s
unseen_filled i t c r q s way d held none =
    λ k. record { in_place = λ w e. at_place w e (asks_in q.joints e) refl k; state = λ j. if nat_eq j i then at Rest c else s.state j }
  where
    at_place : (w : Direction) (e : End) (b : Bool) → asks_in q.joints e ≡ b
        → (if asks_in q.joints e then held_in i t c r (with_place way d held s) w e else None) ≡ (if asks_in q.joints e then held_in i t c r s w e else None)
    at_place w e true h = rw h (untouched s way w d e (next i t c r e) held (λ x. none e h (inl x)) (λ x. none e h (inr x)))
    at_place w e false h = rw h refl

-- the other place of an end's joint is empty
abbrev pub ClearAt : ℕ → Type' → ℕ → Plan → Plan → Tokens → End → Direction → Type 0
ClearAt i t c r q s e way = (a d : End) → places_of q e ≡ Some a → places_of r e ≡ Some d → IsClear i t c r s way a d

pub token_filled : (i : ℕ) (t : Type') (c : ℕ) (r q : Plan) → IsSeenThrough i t c r q → (s : Tokens) (e : End) (way : Direction) (held : Option ℕ) → (IsOfPart i e → ⊥)
    → ClearAt i t c r q s e way → seen_tokens i t c r q (with_token r e way held s) ≡ with_token q e way held (seen_tokens i t c r q s)
token_filled i t c r q is s e way held apart clear = by_place (places_of q e) refl
  where
    unseen : places_of q e ≡ None → (o : Option End) → places_of r e ≡ o → seen_tokens i t c r q (with_held way o held s) ≡ seen_tokens i t c r q s
    unseen none None h = refl
    unseen none (Some d) h = unseen_filled i t c r q s way d held (λ a asks owns. lost_at i t c r q is e d a apart none h asks owns)

    by_place : (o : Option End) → places_of q e ≡ o → seen_tokens i t c r q (with_token r e way held s) ≡ with_held way (places_of q e) held (seen_tokens i t c r q s)
    by_place None none = unseen none (places_of r e) refl ∙ ap (λ o. with_held way o held (seen_tokens i t c r q s)) (sym none)
    by_place (Some a) there =
        let at = seen_at i t c r q is e a there in
        ap (λ o. seen_tokens i t c r q (with_held way o held s)) at.in_r
        ∙ (place_filled i t c r q is s way a at.place held at.asks at.owns (clear a at.place there at.in_r)
        ∙ ap (λ o. with_held way o held (seen_tokens i t c r q s)) (sym there))

-- a token that lies at an end that has a place is seen there
pub token_seen : (i : ℕ) (t : Type') (c : ℕ) (r q : Plan) → IsSeenThrough i t c r q → (s : Tokens) (e : End) (way : Direction) (v : ℕ) → (places_of q e ≡ None → ⊥)
    → ClearAt i t c r q s e way → token_at r s e way ≡ Some v → token_at q (seen_tokens i t c r q s) e way ≡ Some v
token_seen i t c r q is s e way v visible clear lies = by_place (places_of q e) refl
  where
    both : (a d : End) → Owns i t c r a d → IsClear i t c r s way a d → s.in_place way d ≡ Some v → held_in i t c r s way a ≡ Some v
    both a d (inl o) clear h =
        let g : s.in_place way a ≡ Some v = ap (s.in_place way) (sym o) ∙ h in rw g refl
    both a d (inr o) clear h =
        ap (λ x. held_or x (held_if s way (next i t c r a))) (clear.1 o) ∙ (ap (held_if s way) o ∙ h)

    by_place : (o : Option End) → places_of q e ≡ o → held_at (seen_tokens i t c r q s) way (places_of q e) ≡ Some v
    by_place None none = absurd (visible none)
    by_place (Some a) there =
        let at = seen_at i t c r q is e a there in
        let lying : s.in_place way at.place ≡ Some v = ap (held_at s way) (sym at.in_r) ∙ lies in
        let asks = at.asks in
        ap (held_at (seen_tokens i t c r q s) way) there ∙ rw asks (both a at.place at.owns (clear a at.place there at.in_r) lying)
