-- Elements seen through a Share: those outside it, and its own firings.
use Rattle.std.specs.Prelude.{None, nat_eq, ◌&&◌, slice_get}
use Rattle.std.proofs.Common.{◌≡◌, ℕ, Bool, true, false, List, [], ◌∷◌, Option, Some, inl, inr, refl, sym, ◌∙◌, ap, subst, arith, if◌then◌else◌}
use Rattle.gos_types.specs.Types.{Type'}
use Rattle.gos_types.specs.Events.{Direction, Request, Answer}
use Rattle.gos_plan.specs.Kinds.{Contact}
use Rattle.gos_plan.specs.Plans.{End, PartEnd, ImportEnd, ResultEnd, Plan, same_end, contact_at, contacts_of_import}
use Rattle.gos_plan.specs.Firing.{Rest, State, at, Slot, Token, Row}
use Rattle.gos_plan.specs.Tokens.{Tokens, Fire, Out, In, places_of, same_way, with_place, with_held, token_at, with_token, with_state, with_puts, end_of, way_of, way_taken, way_put, firing_of, IsPortEnd, Passes, Does}
use Rattle.gos_plan.proofs.JointLemmas.{same_itself, same_is}
use Rattle.gos_plan.proofs.HeldLemmas.{takes_of}
use Rattle.gos_joining.specs.webs.Cutting.{asks_in}
use Rattle.gos_sharing.specs.sharing.Sharing.{other_end, IsOfPart, IsSeenThrough, follower, held_or, held_if, seen_tokens}
use Rattle.gos_sharing.proofs.sharing.SeenTokenLemmas.{Owns}
use Rattle.gos_sharing.proofs.sharing.SeenFillLemmas.{IsClear, ClearAt, place_filled, unseen_filled, token_filled, token_seen}

-- states
other_state : (i c k j : ℕ) (x y : State) → (k ≡ i → ⊥)
    → (if nat_eq j i then at Rest c else if nat_eq j k then x else y) ≡ (if nat_eq j k then x else if nat_eq j i then at Rest c else y)
other_state i c k j x y apart = by_test (nat_eq j i) refl (nat_eq j k) refl
  where
    by_test : (a : Bool) → nat_eq j i ≡ a → (b : Bool) → nat_eq j k ≡ b
        → (if nat_eq j i then at Rest c else if nat_eq j k then x else y) ≡ (if nat_eq j k then x else if nat_eq j i then at Rest c else y)
    by_test true t true u = let same : k ≡ i = grind (arith, t, u) in absurd (apart same)
    by_test true t false u = rw (t, u) refl
    by_test false t b u = rw t refl

pub state_filled : (i : ℕ) (t : Type') (c : ℕ) (r q : Plan) (k : ℕ) (x : State) (s : Tokens) → (k ≡ i → ⊥)
    → seen_tokens i t c r q (with_state k x s) ≡ with_state k x (seen_tokens i t c r q s)
state_filled i t c r q k x s apart =
    λ n. record {
      in_place = λ way e. if asks_in q.joints e then held_or (s.in_place way e) (held_if s way (follower i t c (other_end r.joints e))) else None;
      state = λ j. other_state i c k j x (s.state j) apart n;
    }

own_state : (i c j : ℕ) (x y : State) → (if nat_eq j i then at Rest c else if nat_eq j i then x else y) ≡ (if nat_eq j i then at Rest c else y)
own_state i c j x y = by_test (nat_eq j i)
  where
    by_test : (b : Bool) → (if b then at Rest c else if b then x else y) ≡ (if b then at Rest c else y)
    by_test true = refl
    by_test false = refl

pub state_unseen : (i : ℕ) (t : Type') (c : ℕ) (r q : Plan) (x : State) (s : Tokens) → seen_tokens i t c r q (with_state i x s) ≡ seen_tokens i t c r q s
state_unseen i t c r q x s =
    λ n. record {
      in_place = λ way e. if asks_in q.joints e then held_or (s.in_place way e) (held_if s way (follower i t c (other_end r.joints e))) else None;
      state = λ j. own_state i c j x (s.state j) n;
    }

-- what a part other than the Share puts
abbrev pub PutsClear : ℕ → Type' → ℕ → Plan → Plan → ℕ → List Token → Tokens → Type 0
PutsClear i t c r q k [] s = Unit {0}
PutsClear i t c r q k (x ∷ xs) s =
    ClearAt i t c r q s (end_of k x.slot) (way_of x.slot) × PutsClear i t c r q k xs (with_token r (end_of k x.slot) (way_of x.slot) (Some x.value) s)

puts_seen : (i : ℕ) (t : Type') (c : ℕ) (r q : Plan) → IsSeenThrough i t c r q → (k : ℕ) → (k ≡ i → ⊥) → (xs : List Token) (s : Tokens) → PutsClear i t c r q k xs s
    → seen_tokens i t c r q (with_puts r k xs s) ≡ with_puts q k xs (seen_tokens i t c r q s)
puts_seen i t c r q is k apart [] s clear = refl
puts_seen i t c r q is k apart (x ∷ xs) s clear =
    puts_seen i t c r q is k apart xs (with_token r (end_of k x.slot) (way_of x.slot) (Some x.value) s) clear.1
    ∙ ap (with_puts q k xs) (token_filled i t c r q is s (end_of k x.slot) (way_of x.slot) (Some x.value) apart clear.0)

-- A firing outside the Share, where what it takes has a place in the plan without it, and the other places are clear.
pub fire_seen : (i : ℕ) (t : Type') (c : ℕ) (r q : Plan) → IsSeenThrough i t c r q → (k : ℕ) → (k ≡ i → ⊥) → (slot : Slot) (s u : Tokens)
    → (places_of q (end_of k slot) ≡ None → ⊥) → ClearAt i t c r q s (end_of k slot) (way_of slot)
    → ((v : ℕ) (row : Row) → token_at r s (end_of k slot) (way_of slot) ≡ Some v → firing_of (slice_get r.parts k) (s.state k) slot ≡ Some row
    → PutsClear i t c r q k (row.puts v) (with_state k (row.next v) (with_token r (end_of k row.takes) (way_of row.takes) None s)))
    → Does r (Fire k slot) s u → Does q (Fire k slot) (seen_tokens i t c r q s) (seen_tokens i t c r q u)
fire_seen i t c r q is k apart slot s u visible clear puts (v, row, lies, by, leads) = (
  v,
  row,
  token_seen i t c r q is s (end_of k slot) (way_of slot) v visible clear lies,
  ap (λ x. firing_of (slice_get x k) ((seen_tokens i t c r q s).state k) slot) is.parts
      ∙ (ap (λ x. firing_of (slice_get r.parts k) x slot) here ∙ by),
  ap (seen_tokens i t c r q) leads
      ∙ (puts_seen i t c r q is k apart (row.puts v) (with_state k (row.next v) (with_token r (end_of k row.takes) (way_of row.takes) None s)) (puts v row lies by)
      ∙ ap (with_puts q k (row.puts v))
      (state_filled i t c r q k (row.next v) (with_token r (end_of k row.takes) (way_of row.takes) None s) apart
      ∙ ap (with_state k (row.next v)) (token_filled i t c r q is s (end_of k row.takes) (way_of row.takes) None apart clear_too))),
)
  where
    here : (if nat_eq k i then at Rest c else s.state k) ≡ s.state k
    here = by_test (nat_eq k i) refl
      where
        by_test : (b : Bool) → nat_eq k i ≡ b → (if nat_eq k i then at Rest c else s.state k) ≡ s.state k
        by_test true h = absurd (apart (grind (arith, h)))
        by_test false h = rw h refl

    clear_too : ClearAt i t c r q s (end_of k row.takes) (way_of row.takes)
    clear_too = subst (λ (x : Slot). ClearAt i t c r q s (end_of k x) (way_of x)) (sym (takes_of (slice_get r.parts k) (s.state k) slot row by)) clear

-- ports
pub contact_seen : (i : ℕ) (t : Type') (c : ℕ) (r q : Plan) → IsSeenThrough i t c r q → (e : End) → contact_at q e ≡ contact_at r e
contact_seen i t c r q is (PartEnd k h) = ap (λ x. contact_at (record r { parts = x }) (PartEnd k h)) is.parts
contact_seen i t c r q is (ImportEnd k h) = ap (λ x. slice_get (contacts_of_import (slice_get x k)) h) is.imports
contact_seen i t c r q is (ResultEnd h) = ap (λ x. contact_at (record r { outcome = x }) (ResultEnd h)) is.outcome

pub port_outside : (i : ℕ) (e : End) → IsPortEnd e → IsOfPart i e → ⊥
port_outside i (PartEnd k h) port of = port
port_outside i (ImportEnd k h) port of = of
port_outside i (ResultEnd h) port of = of

pub out_seen : (i : ℕ) (t : Type') (c : ℕ) (r q : Plan) → IsSeenThrough i t c r q → (e : End) (v : ℕ) (s u : Tokens)
    → (places_of q e ≡ None → ⊥) → ((d : Contact) → contact_at r e ≡ Some d → ClearAt i t c r q s e (way_taken d.role))
    → Does r (Out e v) s u → Does q (Out e v) (seen_tokens i t c r q s) (seen_tokens i t c r q u)
out_seen i t c r q is e v s u visible clear (port, passes) = (
  port,
  subst (λ (d : Option Contact). Passes q (Out e v) d (seen_tokens i t c r q s) (seen_tokens i t c r q u)) (sym (contact_seen i t c r q is e)) (at_contact (contact_at r e) refl passes),
)
  where
    at_contact : (d : Option Contact) → contact_at r e ≡ d → Passes r (Out e v) d s u → Passes q (Out e v) d (seen_tokens i t c r q s) (seen_tokens i t c r q u)
    at_contact None h p = p
    at_contact (Some d) h (lies, leads) = (
      token_seen i t c r q is s e (way_taken d.role) v visible (clear d h) lies,
      ap (seen_tokens i t c r q) leads ∙ token_filled i t c r q is s e (way_taken d.role) None (port_outside i e port) (clear d h),
    )

pub in_seen : (i : ℕ) (t : Type') (c : ℕ) (r q : Plan) → IsSeenThrough i t c r q → (e : End) (v : ℕ) (s u : Tokens)
    → ((d : Contact) → contact_at r e ≡ Some d → ClearAt i t c r q s e (way_put d.role))
    → Does r (In e v) s u → Does q (In e v) (seen_tokens i t c r q s) (seen_tokens i t c r q u)
in_seen i t c r q is e v s u clear (port, passes) = (
  port,
  subst (λ (d : Option Contact). Passes q (In e v) d (seen_tokens i t c r q s) (seen_tokens i t c r q u)) (sym (contact_seen i t c r q is e)) (at_contact (contact_at r e) refl passes),
)
  where
    at_contact : (d : Option Contact) → contact_at r e ≡ d → Passes r (In e v) d s u → Passes q (In e v) d (seen_tokens i t c r q s) (seen_tokens i t c r q u)
    at_contact None h p = p
    at_contact (Some d) h (fits, leads) = (
      fits,
      ap (seen_tokens i t c r q) leads ∙ token_filled i t c r q is s e (way_put d.role) (Some v) (port_outside i e port) (clear d h),
    )

-- A place emptied and filled again is as it was.
refilled : (way : Direction) (a : End) (v : ℕ) (s : Tokens) → s.in_place way a ≡ Some v → with_place way a (Some v) (with_place way a None s) ≡ s
refilled way a v s h = λ n. record { in_place = λ w e. at_place way w e (same_end e a) refl h n; state = s.state }
  where
    at_place : (way w : Direction) (e : End) (b : Bool) → same_end e a ≡ b → s.in_place way a ≡ Some v
        → (if same_way w way && same_end e a then Some v else if same_way w way && same_end e a then None else s.in_place w e) ≡ s.in_place w e
    at_place Request Request e true k h = rw k (sym (ap (s.in_place Request) (same_is e a k) ∙ h))
    at_place Request Request e false k h = rw k refl
    at_place Answer Answer e true k h = rw k (sym (ap (s.in_place Answer) (same_is e a k) ∙ h))
    at_place Answer Answer e false k h = rw k refl
    at_place Request Answer e b k h = refl
    at_place Answer Request e b k h = refl

-- The Share passes a token on, from the one place of a joint to the other: nothing is seen of it.
pub passed_seen : (i : ℕ) (t : Type') (c : ℕ) (r q : Plan) → IsSeenThrough i t c r q → (way : Direction) (a d e : End) (v : ℕ) (x : State) (s : Tokens)
    → asks_in q.joints a ≡ true → Owns i t c r a d → Owns i t c r a e → (d ≡ e → ⊥) → s.in_place way d ≡ Some v → IsClear i t c r s way a d
    → seen_tokens i t c r q (with_place way e (Some v) (with_state i x (with_place way d None s))) ≡ seen_tokens i t c r q s
passed_seen i t c r q is way a d e v x s asks owns also apart lies clear =
    place_filled i t c r q is (with_state i x (with_place way d None s)) way a e (Some v) asks also (now owns also)
    ∙ (ap (with_place way a (Some v)) (state_unseen i t c r q x (with_place way d None s))
    ∙ (ap (with_place way a (Some v)) (place_filled i t c r q is s way a d None asks owns clear) ∙ refilled way a v (seen_tokens i t c r q s) (seen_there owns)))
  where
    emptied : (way : Direction) (d : End) → (with_place way d None s).in_place way d ≡ None
    emptied Request d = rw (same_itself d) refl
    emptied Answer d = rw (same_itself d) refl

    now : Owns i t c r a d → Owns i t c r a e → IsClear i t c r (with_place way d None s) way a e
    now (inl o) (inl k) = absurd (apart (o ∙ sym k))
    now (inr o) (inr k) = let same : Some d ≡ Some e = sym o ∙ k in absurd (apart (cc same))
    now (inl o) (inr k) = (
      λ h. absurd (apart (o ∙ sym h)),
      λ h. subst (λ (y : End). (with_place way d None s).in_place way y ≡ None) o (emptied way d),
    )
    now (inr o) (inl k) = (
      λ h. ap (held_if (with_place way d None s) way) o ∙ emptied way d,
      λ h. let same : Some d ≡ Some e = sym o ∙ h in absurd (apart (cc same)),
    )

    seen_there : Owns i t c r a d → (seen_tokens i t c r q s).in_place way a ≡ Some v
    seen_there (inl o) = let g : s.in_place way a ≡ Some v = ap (s.in_place way) (sym o) ∙ lies in rw (asks, g) refl
    seen_there (inr o) = rw (asks, clear.1 o) (ap (held_if s way) o ∙ lies)

-- or from and to places that aren't seen
pub passed_unseen : (i : ℕ) (t : Type') (c : ℕ) (r q : Plan) (way : Direction) (d : End) (o : Option End) (v : ℕ) (x : State) (s : Tokens)
    → ((a : End) → asks_in q.joints a ≡ true → Owns i t c r a d → ⊥) → ((a e : End) → asks_in q.joints a ≡ true → o ≡ Some e → Owns i t c r a e → ⊥)
    → seen_tokens i t c r q (with_held way o (Some v) (with_state i x (with_place way d None s))) ≡ seen_tokens i t c r q s
passed_unseen i t c r q way d None v x s none also = state_unseen i t c r q x (with_place way d None s) ∙ unseen_filled i t c r q s way d None none
passed_unseen i t c r q way d (Some e) v x s none also =
    unseen_filled i t c r q (with_state i x (with_place way d None s)) way e (Some v) (λ a asks owns. also a e asks refl owns)
    ∙ (state_unseen i t c r q x (with_place way d None s) ∙ unseen_filled i t c r q s way d None none)
