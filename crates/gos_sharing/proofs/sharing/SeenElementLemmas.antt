-- An element outside the Share, in an orderly list: the plan without the Share does it too.
use Rattle.std.specs.Prelude.{None, slice_get}
use Rattle.std.proofs.Common.{◌≡◌, ℕ, Bool, true, false, List, [], ◌∷◌, Option, Some, inl, inr, refl, sym, ◌∙◌, ap, subst}
use Rattle.gos_types.specs.Types.{Type'}
use Rattle.gos_types.specs.Events.{Direction, Request, Answer}
use Rattle.gos_types.proofs.RoleLemmas.{request_is_not_answer}
use Rattle.gos_plan.specs.Kinds.{Contact, Part, asks, serves}
use Rattle.gos_plan.specs.Plans.{End, PartEnd, Plan, contact_at}
use Rattle.gos_plan.specs.Firing.{State, Slot, Token, Row}
use Rattle.gos_plan.specs.Tokens.{Tokens, Fire, Out, In, places_of, held_at, token_at, with_token, with_state, with_puts, end_of, way_of, shake_of, way_taken, way_put, firing_of, Passes, Does}
use Rattle.gos_plan.specs.Orderly.{Open, named_by, after_taken, after_put, ComesWell, AllComeWell, after_puts, ComesInOrder}
use Rattle.gos_plan.proofs.HeldLemmas.{takes_of}
use Rattle.gos_plan.proofs.RowLemmas.{role_taking, role_putting}
use Rattle.gos_plan.proofs.AskingLemmas.{RoleIs, PutsInRole, row_roles}
use Rattle.gos_plan.proofs.TurnLemmas.{way_to_take, way_to_put}
use Rattle.gos_plan.proofs.ContactLemmas.{part_contact}
use Rattle.gos_joining.specs.webs.Webs.{joint}
use Rattle.gos_sharing.specs.sharing.Sharing.{IsOfPart, IsSeenThrough, held_if, seen_tokens}
use Rattle.gos_sharing.proofs.sharing.SeenTokenLemmas.{next, Owns, Seen, seen_at, asking_at, follows, of_part, one_server}
use Rattle.gos_sharing.proofs.sharing.SeenFillLemmas.{ClearAt}
use Rattle.gos_sharing.proofs.sharing.SeenFireLemmas.{PutsClear, fire_seen, out_seen, in_seen, port_outside}
use Rattle.gos_sharing.proofs.sharing.SeenKeptLemmas.{Kept, fit_none, not_both_so, all_clear, Side, side, PutsSo, kept_taken, kept_put}

pub kept_state : (i : ℕ) (t : Type') (c : ℕ) (r q : Plan) (k : ℕ) (x : State) (o : Open) (s : Tokens) → Kept i t c r q o s → Kept i t c r q o (with_state k x s)
kept_state i t c r q k x o s kept =
    record { fit = kept.fit; firsts = kept.firsts; lost = λ e d apart there none. same (places_of r e) (way_taken d.role) (kept.lost e d apart there none) }
  where
    same : (p : Option End) (w : Direction) → held_at s w p ≡ None → held_at (with_state k x s) w p ≡ None
    same None w h = h
    same (Some a) w h = h

pub clear_of_taken : (i : ℕ) (t : Type') (c : ℕ) (r q : Plan) → IsSeenThrough i t c r q → (o : Open) (s : Tokens) (e : End) (way : Direction) (v : ℕ) → Kept i t c r q o s
    → token_at r s e way ≡ Some v → ClearAt i t c r q s e way
clear_of_taken i t c r q is o s e way v kept lies a d there in_r =
    let at = seen_at i t c r q is e a there in
    let both : Some at.place ≡ Some d = sym at.in_r ∙ in_r in
    all_clear i t c r q is o s kept way a d v at.asks (subst (λ (x : End). Owns i t c r a x) (cc both) at.owns) (ap (held_at s way) (sym in_r) ∙ lies)

pub clear_of_put : (i : ℕ) (t : Type') (c : ℕ) (r q : Plan) → IsSeenThrough i t c r q → (o : Open) (s : Tokens) (e : End) (way : Direction) → (IsOfPart i e → ⊥) → PutsSo r e way
    → Kept i t c r q o s → ComesWell r e way o s → ClearAt i t c r q s e way
clear_of_put i t c r q is o s e Request apart puts kept well a d there in_r = (λ h. empty h (next i t c r a) refl, λ h. absurd (no_next h (side r e d is.right in_r)))
  where
    at : Seen i t c r q e a
    at = seen_at i t c r q is e a there

    shut : o d ≡ false
    shut = subst (λ (p : Option End). o (named_by p e) ≡ false) in_r well

    empty : d ≡ a → (n : Option End) → next i t c r a ≡ n → held_if s Request n ≡ None
    empty h None k = refl
    empty h (Some f) k = by_open (o f) refl
      where
        by_open : (b : Bool) → o f ≡ b → s.in_place Request f ≡ None
        by_open true u =
            let old = kept.firsts a f at.asks k u in
            let clash : true ≡ false = sym old.0 ∙ (ap o (sym h) ∙ shut) in
            absurd (cc clash)
        by_open false u = fit_none o s kept.fit f u Request

    no_next : next i t c r a ≡ Some d → Side r e d → ⊥
    no_next h (inl g) = let w = follows i t c r q a d (asking_at i t c r q is a at.asks) h in apart (of_part i _ e (sym g.0 ∙ w.1))
    no_next h (inr g) = request_is_not_answer (sym (puts (serves g.1.0 g.1.1) g.1.2))
clear_of_put i t c r q is o s e Answer apart puts kept well a d there in_r = (
  λ h. empty h (next i t c r a) refl (side r e d is.right in_r),
  λ h. (kept.firsts a d at.asks h up).2,
)
  where
    at : Seen i t c r q e a
    at = seen_at i t c r q is e a there

    up : o d ≡ true
    up = subst (λ (p : Option End). o (named_by p e) ≡ true) in_r well.0

    empty : d ≡ a → (n : Option End) → next i t c r a ≡ n → Side r e d → held_if s Answer n ≡ None
    empty h None k g = refl
    empty h (Some f) k (inl g) = absurd (request_is_not_answer (puts (Rattle.gos_plan.specs.Kinds.asks g.1.0 g.1.1) g.1.2))
    empty h (Some f) k (inr g) =
        let w = follows i t c r q a f (asking_at i t c r q is a at.asks) k in
        absurd (apart (of_part i w.0.shake e (one_server r a e (PartEnd i w.0.shake) is.right (subst (λ (y : End). Rattle.gos_plan.proofs.JointLemmas.IsIn (joint y e) r.joints) h g.0) w.0.into)))

-- what is taken has a place
pub visible : (i : ℕ) (t : Type') (c : ℕ) (r q : Plan) → IsSeenThrough i t c r q → (o : Open) (s : Tokens) (e : End) (way : Direction) (v : ℕ) → (IsOfPart i e → ⊥)
    → ((k : Contact) → contact_at r e ≡ Some k → way_taken k.role ≡ way) → Kept i t c r q o s → token_at r s e way ≡ Some v → places_of q e ≡ None → ⊥
visible i t c r q is o s e way v apart takes kept lies none = by_place (places_of r e) refl
  where
    with_contact : (k : Contact) → contact_at r e ≡ Some k → ⊥
    with_contact k there =
        not_both_so v (token_at r s e way) (subst (λ (w : Direction). token_at r s e w ≡ None) (takes k there) (kept.lost e k apart there none)) lies

    by_side : (d : End) → Side r e d → ⊥
    by_side d (inl g) = with_contact (Rattle.gos_plan.specs.Kinds.asks g.1.0 g.1.1) g.1.2
    by_side d (inr g) = with_contact (serves g.1.0 g.1.1) g.1.2

    by_place : (p : Option End) → places_of r e ≡ p → ⊥
    by_place None h = not_both_so v (token_at r s e way) (ap (held_at s way) h) lies
    by_place (Some d) h = by_side d (side r e d is.right h)

pub puts_so : (r : Plan) (k : ℕ) (p : Part) (x : Slot) → slice_get r.parts k ≡ Some p → RoleIs p (shake_of x) (role_putting x) → PutsSo r (end_of k x) (way_of x)
puts_so r k p x at_k role d there = ap way_put (role d (sym (part_contact r k (shake_of x) p at_k) ∙ there)) ∙ sym (way_to_put x)

pub takes_so : (r : Plan) (k : ℕ) (p : Part) (x : Slot) → slice_get r.parts k ≡ Some p → RoleIs p (shake_of x) (role_taking x) → (d : Contact) → contact_at r (end_of k x) ≡ Some d → way_taken d.role ≡ way_of x
takes_so r k p x at_k role d there = ap way_taken (role d (sym (part_contact r k (shake_of x) p at_k) ∙ there)) ∙ sym (way_to_take x)

all_puts : (i : ℕ) (t : Type') (c : ℕ) (r q : Plan) → IsSeenThrough i t c r q → (k : ℕ) (p : Part) → (k ≡ i → ⊥) → slice_get r.parts k ≡ Some p → (xs : List Token) (o : Open) (s : Tokens)
    → PutsInRole p xs → AllComeWell r k xs o s → Kept i t c r q o s → PutsClear i t c r q k xs s × Kept i t c r q (after_puts r k xs o) (with_puts r k xs s)
all_puts i t c r q is k p apart at_k [] o s roles well kept = (tt, kept)
all_puts i t c r q is k p apart at_k (x ∷ xs) o s roles well kept =
    let so = puts_so r k p x.slot at_k roles.0 in
    let rest =
    all_puts i t c r q is k p apart at_k xs (after_put r (end_of k x.slot) (way_of x.slot) o) (with_token r (end_of k x.slot) (way_of x.slot) (Some x.value) s) roles.1 well.1
    (kept_put i t c r q is (end_of k x.slot) (way_of x.slot) x.value o s apart so well.0 kept) in
    ((clear_of_put i t c r q is o s (end_of k x.slot) (way_of x.slot) apart so kept well.0, rest.0), rest.1)

pub fire_too : (i : ℕ) (t : Type') (c : ℕ) (r q : Plan) → IsSeenThrough i t c r q → (k : ℕ) → (k ≡ i → ⊥) → (slot : Slot) (o m : Open) (s u : Tokens)
    → Does r (Fire k slot) s u → ComesInOrder r (Fire k slot) s o m → Kept i t c r q o s
    → Does q (Fire k slot) (seen_tokens i t c r q s) (seen_tokens i t c r q u) × Kept i t c r q m u
fire_too i t c r q is k apart slot o m s u (v, row, lies, by, leads) comes kept = with_part (slice_get r.parts k) refl
  where
    takes : row.takes ≡ slot
    takes = takes_of (slice_get r.parts k) (s.state k) slot row by

    with_part : (f : Option Part) → slice_get r.parts k ≡ f → Does q (Fire k slot) (seen_tokens i t c r q s) (seen_tokens i t c r q u) × Kept i t c r q m u
    with_part None h = let no : None ≡ Some row = ap (λ f. firing_of f (s.state k) slot) (sym h) ∙ by in absurd (cc no)
    with_part (Some p) h = (
      fire_seen i t c r q is k apart slot s u
          (visible i t c r q is o s (end_of k slot) (way_of slot) v apart (takes_so r k p slot h role) kept lies)
          (clear_of_taken i t c r q is o s (end_of k slot) (way_of slot) v kept lies)
          (λ v2 row2 lies2 by2. (putting v2 row2 lies2 by2).0) (v, row, lies, by, leads),
      subst (λ (w : Open). Kept i t c r q w u) (sym (comes v row lies by).1)
          (subst (λ (w : Tokens). Kept i t c r q (after_puts r k (row.puts v) (after_taken r (end_of k slot) (way_of slot) o)) w) (sym leads) (putting v row lies by).1),
    )
      where
        role : RoleIs p (shake_of slot) (role_taking slot)
        role =
            let roles = row_roles p (s.state k) slot row v (ap (λ f. firing_of f (s.state k) slot) (sym h) ∙ by) in
            subst (λ (x : Slot). RoleIs p (shake_of x) (role_taking x)) takes roles.1.0

        putting : (v2 : ℕ) (row2 : Row) → token_at r s (end_of k slot) (way_of slot) ≡ Some v2 → firing_of (slice_get r.parts k) (s.state k) slot ≡ Some row2
            → PutsClear i t c r q k (row2.puts v2) (with_state k (row2.next v2) (with_token r (end_of k row2.takes) (way_of row2.takes) None s))
            × Kept i t c r q (after_puts r k (row2.puts v2) (after_taken r (end_of k slot) (way_of slot) o)) (with_puts r k (row2.puts v2) (with_state k (row2.next v2) (with_token r (end_of k row2.takes) (way_of row2.takes) None s)))
        putting v2 row2 lies2 by2 =
            let roles = row_roles p (s.state k) slot row2 v2 (ap (λ f. firing_of f (s.state k) slot) (sym h) ∙ by2) in
            all_puts i t c r q is k p apart h (row2.puts v2) (after_taken r (end_of k slot) (way_of slot) o) (with_state k (row2.next v2) (with_token r (end_of k row2.takes) (way_of row2.takes) None s)) roles.1.1
            (comes v2 row2 lies2 by2).0
            (kept_state i t c r q k (row2.next v2) (after_taken r (end_of k slot) (way_of slot) o) (with_token r (end_of k row2.takes) (way_of row2.takes) None s)
            (subst (λ (x : Slot). Kept i t c r q (after_taken r (end_of k slot) (way_of slot) o) (with_token r (end_of k x) (way_of x) None s)) (sym roles.0)
            (kept_taken i t c r q (end_of k slot) (way_of slot) v2 o s lies2 kept)))

pub one_contact : (r : Plan) (e : End) (c d : Contact) → contact_at r e ≡ Some c → contact_at r e ≡ Some d → d ≡ c
one_contact r e c d h k = let both : Some d ≡ Some c = sym k ∙ h in cc both

pub out_too : (i : ℕ) (t : Type') (c : ℕ) (r q : Plan) → IsSeenThrough i t c r q → (e : End) (v : ℕ) (o m : Open) (s u : Tokens)
    → Does r (Out e v) s u → ComesInOrder r (Out e v) s o m → Kept i t c r q o s
    → Does q (Out e v) (seen_tokens i t c r q s) (seen_tokens i t c r q u) × Kept i t c r q m u
out_too i t c r q is e v o m s u does comes kept = with_contact (contact_at r e) refl
  where
    with_contact : (f : Option Contact) → contact_at r e ≡ f → Does q (Out e v) (seen_tokens i t c r q s) (seen_tokens i t c r q u) × Kept i t c r q m u
    with_contact None h = absurd (subst (λ (f : Option Contact). Passes r (Out e v) f s u) h does.1)
    with_contact (Some k) h =
        let passes = subst (λ (f : Option Contact). Passes r (Out e v) f s u) h does.1 in
        let way : (d : Contact) → contact_at r e ≡ Some d → way_taken d.role ≡ way_taken k.role = λ d there. ap (λ (x : Contact). way_taken x.role) (one_contact r e k d h there) in
        let clear = clear_of_taken i t c r q is o s e (way_taken k.role) v kept passes.0 in (
          out_seen i t c r q is e v s u (visible i t c r q is o s e (way_taken k.role) v (port_outside i e does.0) way kept passes.0)
              (λ d there. subst (λ (w : Direction). ClearAt i t c r q s e w) (sym (way d there)) clear) does,
          subst (λ (w : Open). Kept i t c r q w u) (sym (comes k h))
              (subst (λ (w : Tokens). Kept i t c r q (after_taken r e (way_taken k.role) o) w) (sym passes.1) (kept_taken i t c r q e (way_taken k.role) v o s passes.0 kept)),
        )

pub in_too : (i : ℕ) (t : Type') (c : ℕ) (r q : Plan) → IsSeenThrough i t c r q → (e : End) (v : ℕ) (o m : Open) (s u : Tokens)
    → Does r (In e v) s u → ComesInOrder r (In e v) s o m → Kept i t c r q o s
    → Does q (In e v) (seen_tokens i t c r q s) (seen_tokens i t c r q u) × Kept i t c r q m u
in_too i t c r q is e v o m s u does comes kept = with_contact (contact_at r e) refl
  where
    with_contact : (f : Option Contact) → contact_at r e ≡ f → Does q (In e v) (seen_tokens i t c r q s) (seen_tokens i t c r q u) × Kept i t c r q m u
    with_contact None h = absurd (subst (λ (f : Option Contact). Passes r (In e v) f s u) h does.1)
    with_contact (Some k) h =
        let passes = subst (λ (f : Option Contact). Passes r (In e v) f s u) h does.1 in
        let now = comes k h in
        let way : PutsSo r e (way_put k.role) = λ d there. ap (λ (x : Contact). way_put x.role) (one_contact r e k d h there) in
        let clear = clear_of_put i t c r q is o s e (way_put k.role) (port_outside i e does.0) way kept now.0 in (
          in_seen i t c r q is e v s u (λ d there. subst (λ (w : Direction). ClearAt i t c r q s e w) (sym (way d there)) clear) does,
          subst (λ (w : Open). Kept i t c r q w u) (sym now.1)
              (subst (λ (w : Tokens). Kept i t c r q (after_put r e (way_put k.role) o) w) (sym passes.1) (kept_put i t c r q is e (way_put k.role) v o s (port_outside i e does.0) way now.0 kept)),
        )
