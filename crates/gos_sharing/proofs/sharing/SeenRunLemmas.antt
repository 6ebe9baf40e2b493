-- Lists seen through a Share: its own firings keep what an orderly list keeps, and nothing is seen of them.
use Rattle.std.specs.Prelude.{◌⊎◌, None, nat_eq, ◌&&◌}
use Rattle.std.proofs.Common.{◌≡◌, ℕ, Bool, true, false, List, [], ◌∷◌, Option, Some, inl, inr, refl, sym, ◌∙◌, ap, subst, arith, if◌then◌else◌}
use Rattle.gos_types.specs.Types.{Type'}
use Rattle.gos_types.specs.Events.{Direction, Request, Answer}
use Rattle.gos_plan.specs.Kinds.{Share}
use Rattle.gos_plan.specs.Plans.{End, PartEnd, Plan, same_end}
use Rattle.gos_plan.specs.Firing.{State, Slot, Req, Ans, put}
use Rattle.gos_plan.specs.Tokens.{Tokens, Element, Fire, Out, In, places_of, same_way, held_at, with_held, token_at, with_token, with_state, end_of, way_of, way_taken, Does, Runs}
use Rattle.gos_plan.specs.Orderly.{Open, none_open, named_by, handshake_at, with_open, after_taken, after_puts, ComesInOrder, OrderlyFrom}
use Rattle.gos_plan.proofs.JointLemmas.{IsIn, same_itself, same_is, found, contained}
use Rattle.gos_plan.proofs.HeldLemmas.{step}
use Rattle.gos_plan.proofs.TokenBitsLemmas.{same_way_is}
use Rattle.gos_joining.specs.webs.Webs.{joint}
use Rattle.gos_joining.specs.webs.Cutting.{asks_in}
use Rattle.gos_sharing.specs.sharing.Sharing.{IsOfPart, IsSeenThrough, seen_tokens, without, WorksFor, RunsAreSeen}
use Rattle.gos_sharing.proofs.sharing.SeenTokenLemmas.{next, of_part, one_server, place_asking, place_serving}
use Rattle.gos_sharing.proofs.sharing.ShareRowLemmas.{Pair, pair_through, into_pair, served_there, asked_there, differ, Passed, IsRequestPassed, IsAnswerPassed, share_passes, share_seen}
use Rattle.gos_sharing.proofs.sharing.SeenKeptLemmas.{Kept, fit_none, not_both_so, all_clear, Side, side, stays_empty, held_stays, still_open}
use Rattle.gos_sharing.proofs.sharing.SeenElementLemmas.{fire_too, out_too, in_too}

-- two joints that the Share joins are one in the plan without it
pub seen_joint : (i : ℕ) (t : Type') (c : ℕ) (r q : Plan) → IsSeenThrough i t c r q → (h g : ℕ) → Pair i t c r h g → (a b : End) → IsIn (joint a (PartEnd i h)) r.joints
    → IsIn (joint (PartEnd i g) b) r.joints → IsIn (joint a b) q.joints
seen_joint i t c r q is h g pair a b into out = contained q.joints (joint a b) ((is.joints a b).1 (inr (pair.leads a b into out)))

-- the name of the handshake at which it asks
pub name_of : (r : Plan) (i g : ℕ) → ((d : End) → places_of r (PartEnd i g) ≡ Some d → d ≡ PartEnd i g) → handshake_at r (PartEnd i g) ≡ PartEnd i g
name_of r i g own = by_place (places_of r (PartEnd i g)) refl
  where
    by_place : (p : Option End) → places_of r (PartEnd i g) ≡ p → named_by p (PartEnd i g) ≡ PartEnd i g
    by_place None h = refl
    by_place (Some d) h = own d h

unless_there : (s : Tokens) (way : Direction) (p : Option End) (held : Option ℕ) (a : End) → ((d : End) → p ≡ Some d → a ≡ d → ⊥) → s.in_place way a ≡ None → (with_held way p held s).in_place way a ≡ None
unless_there s way None held a apart h = h
unless_there s way (Some d) held a apart h = by_test (same_end a d) refl
  where
    by_test : (b : Bool) → same_end a d ≡ b → (if same_way way way && same_end a d then held else s.in_place way a) ≡ None
    by_test true k = absurd (apart d refl (same_is a d k))
    by_test false k = rw k (other (same_way way way))
      where
        other : (b : Bool) → (if b && false then held else s.in_place way a) ≡ None
        other true = h
        other false = h

other_way : (s : Tokens) (p : Option End) (held : Option ℕ) (a : End) → s.in_place Answer a ≡ None → (with_held Request p held s).in_place Answer a ≡ None
other_way s None held a h = h
other_way s (Some d) held a h = h

other_too : (s : Tokens) (p : Option End) (held : Option ℕ) (a : End) → s.in_place Request a ≡ None → (with_held Answer p held s).in_place Request a ≡ None
other_too s None held a h = h
other_too s (Some d) held a h = h

emptied : (s : Tokens) (a : End) → (with_held Request (Some a) None s).in_place Request a ≡ None
emptied s a = rw (same_itself a) refl

held_unless : (s : Tokens) (way w : Direction) (p n : Option End) (held : Option ℕ) → ((d : End) → p ≡ Some d → n ≡ Some d → w ≡ way → ⊥) → held_at s w n ≡ None → held_at (with_held way p held s) w n ≡ None
held_unless s way w p None held apart h = refl
held_unless s way w None (Some d) held apart h = h
held_unless s way w (Some f) (Some d) held apart h = by_test (same_way w way) refl (same_end d f) refl
  where
    by_test : (a : Bool) → same_way w way ≡ a → (b : Bool) → same_end d f ≡ b → (if same_way w way && same_end d f then held else s.in_place w d) ≡ None
    by_test true y true z = absurd (apart f refl (ap Some (same_is d f z)) (same_way_is w way y))
    by_test true y false z = rw (y, z) h
    by_test false y b z = rw y h

state_kept : (s : Tokens) (i : ℕ) (x : State) (w : Direction) (n : Option End) → held_at s w n ≡ None → held_at (with_state i x s) w n ≡ None
state_kept s i x w None h = h
state_kept s i x w (Some d) h = h

fit_beside : (b : Bool) (v : ℕ) (x y : Option ℕ) → Rattle.gos_plan.proofs.HeldLemmas.Fits b x y → x ≡ Some v → y ≡ None
fit_beside false v x y f h = f.1
fit_beside true v x y (inl f) h = absurd (not_both_so v x f h)
fit_beside true v x y (inr f) h = f

request_kept : (i : ℕ) (t : Type') (c : ℕ) (r q : Plan) → IsSeenThrough i t c r q → (h g : ℕ) → Pair i t c r h g → (v : ℕ) (x : State) (o m : Open) (s u : Tokens)
    → token_at r s (PartEnd i h) Request ≡ Some v → u ≡ with_token r (PartEnd i g) Request (Some v) (with_state i x (with_token r (PartEnd i h) Request None s))
    → m ≡ with_open (handshake_at r (PartEnd i g)) true o → Rattle.gos_plan.proofs.HeldLemmas.AllFit m u → Kept i t c r q o s → Kept i t c r q m u
request_kept i t c r q is h g pair v x o m s u lies leads opens fit kept =
    subst (λ (w : Open). Kept i t c r q w u) (sym opens)
    (subst (λ (w : Tokens). Kept i t c r q (with_open (handshake_at r (PartEnd i g)) true o) w) (sym leads)
    (record {
      fit = subst (λ (w : Open). Rattle.gos_plan.proofs.HeldLemmas.AllFit w (with_token r (PartEnd i g) Request (Some v) (with_state i x (with_token r (PartEnd i h) Request None s)))) opens (subst (λ (w : Tokens). Rattle.gos_plan.proofs.HeldLemmas.AllFit m w) leads fit);
      firsts = λ a d asks n up. first a d asks n (same_end d (handshake_at r (PartEnd i g))) refl up;
      lost = λ e k apart there none.
          held_unless (with_state i x (with_token r (PartEnd i h) Request None s)) Request (way_taken k.role) (places_of r (PartEnd i g)) (places_of r e) (Some v)
          (λ d at_g at_e w. lost_there e d apart none at_g (side r e d is.right at_e))
          (state_kept (with_token r (PartEnd i h) Request None s) i x (way_taken k.role) (places_of r e)
          (held_stays s Request (way_taken k.role) (places_of r (PartEnd i h)) (places_of r e) (kept.lost e k apart there none)));
    }))
  where
    own : (d : End) → places_of r (PartEnd i g) ≡ Some d → d ≡ PartEnd i g
    own d there = asked_there r i g (Share t) d is.right is.share pair.asks_at there

    taken_from : (p : Option End) → places_of r (PartEnd i h) ≡ p → (d : End) × IsIn (joint d (PartEnd i h)) r.joints
    taken_from None k = absurd (not_both_so v (token_at r s (PartEnd i h) Request) (ap (held_at s Request) k) lies)
    taken_from (Some d) k = (d, served_there r i h (Share t) d is.right is.share pair.serves_at k)

    lost_there : (e d : End) → (IsOfPart i e → ⊥) → places_of q e ≡ None → places_of r (PartEnd i g) ≡ Some d → Side r e d → ⊥
    lost_there e d apart none at_g (inl k) = apart (of_part i g e (sym k.0 ∙ own d at_g))
    lost_there e d apart none at_g (inr k) =
        let from = taken_from (places_of r (PartEnd i h)) refl in
        let out : IsIn (joint (PartEnd i g) e) r.joints = subst (λ (y : End). IsIn (joint y e) r.joints) (own d at_g) k.0 in
        let there = place_serving q from.0 e is.also_right (seen_joint i t c r q is h g pair from.0 e from.1 out) in
        let clash : None ≡ Some from.0 = sym none ∙ there in
        absurd (cc clash)

    still : (b y : Bool) → y ≡ true → (if b then true else y) ≡ true
    still true y k = refl
    still false y k = k

    first : (a d : End) → asks_in q.joints a ≡ true → next i t c r a ≡ Some d → (b : Bool) → same_end d (handshake_at r (PartEnd i g)) ≡ b
        → (if same_end d (handshake_at r (PartEnd i g)) then true else o d) ≡ true
        → ((if same_end a (handshake_at r (PartEnd i g)) then true else o a) ≡ true)
        × ((with_token r (PartEnd i g) Request (Some v) (with_state i x (with_token r (PartEnd i h) Request None s))).in_place Request a ≡ None)
        × ((with_token r (PartEnd i g) Request (Some v) (with_state i x (with_token r (PartEnd i h) Request None s))).in_place Answer a ≡ None)
    first a d asks n true k up = (
      still (same_end a (handshake_at r (PartEnd i g))) (o a) (is_open (o a) refl),
      unless_there (with_state i x (with_token r (PartEnd i h) Request None s)) Request (places_of r (PartEnd i g)) (Some v) a (λ y at_g z. differ i t c r q is a g asks (z ∙ own y at_g))
          (subst (λ (p : Option End). (with_held Request p None s).in_place Request a ≡ None) (sym there) (emptied s a)),
      other_way (with_state i x (with_token r (PartEnd i h) Request None s)) (places_of r (PartEnd i g)) (Some v) a
          (other_way s (places_of r (PartEnd i h)) None a (fit_beside (o a) v (s.in_place Request a) (s.in_place Answer a) (kept.fit a) here)),
    )
      where
        into : IsIn (joint a (PartEnd i h)) r.joints
        into = into_pair i t c r q is h g pair a asks (n ∙ ap Some (same_is d (handshake_at r (PartEnd i g)) k ∙ name_of r i g own))

        there : places_of r (PartEnd i h) ≡ Some a
        there = place_serving r a (PartEnd i h) is.right into

        here : s.in_place Request a ≡ Some v
        here = sym (ap (held_at s Request) there) ∙ lies

        is_open : (b : Bool) → o a ≡ b → o a ≡ true
        is_open true y = y
        is_open false y = absurd (not_both_so v (s.in_place Request a) (fit_none o s kept.fit a y Request) here)
    first a d asks n false k up =
        let was : o d ≡ true = rw k at up in
        let old = kept.firsts a d asks n was in (
          still (same_end a (handshake_at r (PartEnd i g))) (o a) old.0,
          unless_there (with_state i x (with_token r (PartEnd i h) Request None s)) Request (places_of r (PartEnd i g)) (Some v) a (λ y at_g z. differ i t c r q is a g asks (z ∙ own y at_g))
              (stays_empty s Request Request (places_of r (PartEnd i h)) a old.1),
          other_way (with_state i x (with_token r (PartEnd i h) Request None s)) (places_of r (PartEnd i g)) (Some v) a (other_way s (places_of r (PartEnd i h)) None a old.2),
        )

answer_kept : (i : ℕ) (t : Type') (c : ℕ) (r q : Plan) → IsSeenThrough i t c r q → (h g : ℕ) → Pair i t c r h g → (v : ℕ) (x : State) (o m : Open) (s u : Tokens)
    → token_at r s (PartEnd i g) Answer ≡ Some v → u ≡ with_token r (PartEnd i h) Answer (Some v) (with_state i x (with_token r (PartEnd i g) Answer None s))
    → m ≡ with_open (handshake_at r (PartEnd i g)) false o → Rattle.gos_plan.proofs.HeldLemmas.AllFit m u → Kept i t c r q o s → Kept i t c r q m u
answer_kept i t c r q is h g pair v x o m s u lies leads opens fit kept =
    subst (λ (w : Open). Kept i t c r q w u) (sym opens)
    (subst (λ (w : Tokens). Kept i t c r q (with_open (handshake_at r (PartEnd i g)) false o) w) (sym leads)
    (record {
      fit = subst (λ (w : Open). Rattle.gos_plan.proofs.HeldLemmas.AllFit w (with_token r (PartEnd i h) Answer (Some v) (with_state i x (with_token r (PartEnd i g) Answer None s)))) opens (subst (λ (w : Tokens). Rattle.gos_plan.proofs.HeldLemmas.AllFit m w) leads fit);
      firsts = λ a d asks n up. first a d asks n (still_open (handshake_at r (PartEnd i g)) d (same_end d (handshake_at r (PartEnd i g))) (o d) refl up);
      lost = λ e k apart there none.
          held_unless (with_state i x (with_token r (PartEnd i g) Answer None s)) Answer (way_taken k.role) (places_of r (PartEnd i h)) (places_of r e) (Some v)
          (λ d at_h at_e w. lost_there e d apart none (served_there r i h (Share t) d is.right is.share pair.serves_at at_h) (side r e d is.right at_e))
          (state_kept (with_token r (PartEnd i g) Answer None s) i x (way_taken k.role) (places_of r e)
          (held_stays s Answer (way_taken k.role) (places_of r (PartEnd i g)) (places_of r e) (kept.lost e k apart there none)));
    }))
  where
    own : (d : End) → places_of r (PartEnd i g) ≡ Some d → d ≡ PartEnd i g
    own d there = asked_there r i g (Share t) d is.right is.share pair.asks_at there

    taken_from : (p : Option End) → places_of r (PartEnd i g) ≡ p → (b : End) × IsIn (joint (PartEnd i g) b) r.joints
    taken_from None k = absurd (not_both_so v (token_at r s (PartEnd i g) Answer) (ap (held_at s Answer) k) lies)
    taken_from (Some d) k =
        let f = found r.joints (PartEnd i g) d k in
        (f.joint.serving, subst (λ (y : End). IsIn (joint y f.joint.serving) r.joints) (f.named ∙ own d k) f.is_in)

    lost_there : (e d : End) → (IsOfPart i e → ⊥) → places_of q e ≡ None → IsIn (joint d (PartEnd i h)) r.joints → Side r e d → ⊥
    lost_there e d apart none into (inl k) =
        let from = taken_from (places_of r (PartEnd i g)) refl in
        let there = place_asking q e from.0 is.also_right (seen_joint i t c r q is h g pair e from.0 (subst (λ (y : End). IsIn (joint y (PartEnd i h)) r.joints) k.0 into) from.1) in
        let clash : None ≡ Some e = sym none ∙ there in
        absurd (cc clash)
    lost_there e d apart none into (inr k) = apart (of_part i h e (one_server r d e (PartEnd i h) is.right k.0 into))

    first : (a d : End) → asks_in q.joints a ≡ true → next i t c r a ≡ Some d → (same_end d (handshake_at r (PartEnd i g)) ≡ false) × (o d ≡ true)
        → ((if same_end a (handshake_at r (PartEnd i g)) then false else o a) ≡ true)
        × ((with_token r (PartEnd i h) Answer (Some v) (with_state i x (with_token r (PartEnd i g) Answer None s))).in_place Request a ≡ None)
        × ((with_token r (PartEnd i h) Answer (Some v) (with_state i x (with_token r (PartEnd i g) Answer None s))).in_place Answer a ≡ None)
    first a d asks n (k, up) =
        let old = kept.firsts a d asks n up in (
          still (same_end a (handshake_at r (PartEnd i g))) refl old.0,
          other_too (with_state i x (with_token r (PartEnd i g) Answer None s)) (places_of r (PartEnd i h)) (Some v) a (other_too s (places_of r (PartEnd i g)) None a old.1),
          unless_there (with_state i x (with_token r (PartEnd i g) Answer None s)) Answer (places_of r (PartEnd i h)) (Some v) a
              (λ y at_h z. not_there (subst (λ (e : End). IsIn (joint e (PartEnd i h)) r.joints) (sym z) (served_there r i h (Share t) y is.right is.share pair.serves_at at_h)))
              (stays_empty s Answer Answer (places_of r (PartEnd i g)) a old.2),
        )
      where
        still : (b : Bool) → same_end a (handshake_at r (PartEnd i g)) ≡ b → o a ≡ true → (if same_end a (handshake_at r (PartEnd i g)) then false else o a) ≡ true
        still true y z = absurd (differ i t c r q is a g asks (same_is a (handshake_at r (PartEnd i g)) y ∙ name_of r i g own))
        still false y z = rw y z

        not_there : IsIn (joint a (PartEnd i h)) r.joints → ⊥
        not_there into =
            let both : Some d ≡ Some (PartEnd i g) = sym n ∙ pair_through i t c r q is h g pair a into asks in
            let same : d ≡ handshake_at r (PartEnd i g) = cc both ∙ sym (name_of r i g own) in
            let y : same_end d (handshake_at r (PartEnd i g)) ≡ true = ap (λ e. same_end e (handshake_at r (PartEnd i g))) same ∙ same_itself (handshake_at r (PartEnd i g)) in
            let clash : true ≡ false = sym y ∙ k in cc clash

pub share_kept : (i : ℕ) (t : Type') (c : ℕ) (r q : Plan) → IsSeenThrough i t c r q → (slot : Slot) (o m : Open) (s u : Tokens) → Does r (Fire i slot) s u → Passed i t c r slot s u
    → ComesInOrder r (Fire i slot) s o m → Kept i t c r q o s → Kept i t c r q m u
share_kept i t c r q is slot o m s u does p comes kept = of_kind p.passed
  where
    opens : m ≡ after_puts r i (p.row.puts p.value) (after_taken r (end_of i slot) (way_of slot) o)
    opens = (comes p.value p.row p.lies p.fires).1

    of_kind : IsRequestPassed i r p.into p.out slot p.value p.row s u ⊎ IsAnswerPassed i r p.into p.out slot p.value p.row s u → Kept i t c r q m u
    of_kind (inl (same, puts, lies, leads)) =
        request_kept i t c r q is p.into p.out p.pair p.value (p.row.next p.value) o m s u lies leads
        (opens ∙ (ap (λ ts. after_puts r i ts (after_taken r (end_of i slot) (way_of slot) o)) puts
        ∙ ap (λ x. after_puts r i (put (Req p.out) p.value ∷ []) (after_taken r (end_of i x) (way_of x) o)) same))
        (step r (Fire i slot) o m s u does comes kept.fit) kept
    of_kind (inr (same, puts, lies, leads)) =
        answer_kept i t c r q is p.into p.out p.pair p.value (p.row.next p.value) o m s u lies leads
        (opens ∙ (ap (λ ts. after_puts r i ts (after_taken r (end_of i slot) (way_of slot) o)) puts
        ∙ ap (λ x. after_puts r i (put (Ans p.into) p.value ∷ []) (after_taken r (end_of i x) (way_of x) o)) same))
        (step r (Fire i slot) o m s u does comes kept.fit) kept

-- the whole list
all_seen : (i : ℕ) (t : Type') (c : ℕ) (r q : Plan) → IsSeenThrough i t c r q → (xs : List Element) (o v : Open) (s w : Tokens)
    → OrderlyFrom r xs o s v w → WorksFor i t c r xs s → Kept i t c r q o s → Runs q (without i xs) (seen_tokens i t c r q s) (seen_tokens i t c r q w)
all_seen i t c r q is [] o v s w list works kept = ap (seen_tokens i t c r q) list.1
all_seen i t c r q is (Fire k slot ∷ xs) o v s w (m, u, does, comes, welcome, list) works kept =
    by_part (nat_eq k i) refl (λ h. all_seen i t c r q is xs m v u w list (works.1 u does) h)
  where
    by_part : (b : Bool) → nat_eq k i ≡ b → (Kept i t c r q m u → Runs q (without i xs) (seen_tokens i t c r q u) (seen_tokens i t c r q w))
        → Runs q (if b then without i xs else Fire k slot ∷ without i xs) (seen_tokens i t c r q s) (seen_tokens i t c r q w)
    by_part true h further =
        let same : k ≡ i = grind (arith, h) in
        let fires : Does r (Fire i slot) s u = subst (λ (j : ℕ). Does r (Fire j slot) s u) same does in
        let now : ComesInOrder r (Fire i slot) s o m = subst (λ (j : ℕ). ComesInOrder r (Fire j slot) s o m) same comes in
        let p = share_passes i t c r q is slot s u (works.0 slot (ap (λ j. Fire j slot) same)) fires in
        subst (λ (y : Tokens). Runs q (without i xs) y (seen_tokens i t c r q w)) (share_seen i t c r q is slot s u (all_clear i t c r q is o s kept) p)
        (further (share_kept i t c r q is slot o m s u fires p now kept))
    by_part false h further =
        let too = fire_too i t c r q is k (λ e. let y : nat_eq k i ≡ true = grind (arith, e) in let z : true ≡ false = sym y ∙ h in cc z) slot o m s u does comes kept in
        (seen_tokens i t c r q u, too.0, further too.1)
all_seen i t c r q is (Out e n ∷ xs) o v s w (m, u, does, comes, welcome, list) works kept =
    let too = out_too i t c r q is e n o m s u does comes kept in
    (seen_tokens i t c r q u, too.0, all_seen i t c r q is xs m v u w list (works.1 u does) too.1)
all_seen i t c r q is (In e n ∷ xs) o v s w (m, u, does, comes, welcome, list) works kept =
    let too = in_too i t c r q is e n o m s u does comes kept in
    (seen_tokens i t c r q u, too.0, all_seen i t c r q is xs m v u w list (works.1 u does) too.1)

pub nothing_held : (s : Tokens) (way : Direction) (p : Option End) → ((a : End) → s.in_place way a ≡ None) → held_at s way p ≡ None
nothing_held s way None h = refl
nothing_held s way (Some a) h = h a

pub runs_are_seen : RunsAreSeen
runs_are_seen i t c r q xs s w one =
    all_seen i t c r q one.plans xs none_open one.opened s w one.orderly one.works
    (record {
      fit = λ a. (one.idle.0 Request a, one.idle.0 Answer a);
      firsts = λ a d asks n up. absurd (cc up);
      lost = λ e k apart there none. nothing_held s (way_taken k.role) (places_of r e) (λ a. one.idle.0 (way_taken k.role) a);
    })
