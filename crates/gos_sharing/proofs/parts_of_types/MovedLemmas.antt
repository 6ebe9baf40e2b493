-- The ends, places, tokens and open handshakes of the plan with the wide Share, in the one with the narrow Share.
use Rattle.std.specs.Prelude.{◌≡◌, ◌≢◌, ℕ, Bool, true, false, ◌&&◌, List, [], ◌∷◌, ◌⊎◌, map, Option, Some, None, option_map, nat_eq, slice_get, if◌then◌else◌}
use Rattle.std.proofs.Common.{refl, sym, ◌∙◌, ap, subst, arith, inl, inr}
use Rattle.gos_types.specs.Events.{Direction, Request, Answer}
use Rattle.gos_types.proofs.BoolLemmas.{same_tests}
use Rattle.gos_plan.specs.Kinds.{Contact, asks, serves}
use Rattle.gos_plan.specs.Firing.{State, Slot, Req, Ans, Token, Row}
use Rattle.gos_plan.specs.Plans.{End, PartEnd, ImportEnd, ResultEnd, Joint, Plan, contact_at, contacts_of_part, contacts_of_import, turned_if, same_end, stands_in}
use Rattle.gos_plan.specs.Tokens.{Tokens, places_of, same_way, with_state, held_at, with_held, token_at, with_token, with_puts, end_of, way_of, shake_of, firing_of, fired}
use Rattle.gos_plan.specs.Orderly.{Open, named_by, handshake_at, with_open, after_taken, after_put, after_puts, ComesWell, AllComeWell}
use Rattle.gos_plan.proofs.JointLemmas.{IsIn, same_itself, same_is, found, fits, has_place, stands_there, contained, which_end}
use Rattle.gos_joining.specs.webs.Webs.{joint}
use Rattle.gos_joining.proofs.webs.CutLemmas.{stands_by}
use Rattle.gos_joining.proofs.webs.MovedLemmas.{listed}
use Rattle.gos_sharing.specs.parts_of_types.Narrow.{Narrowing, shake_at, widened, HasWideShare, IsNarrow}
use Rattle.gos_sharing.proofs.parts_of_types.RowLemmas.{wide_slot, wide_token, wide_row, share_so, other_so, handshake_so}

-- back
abbrev pub back_at : Narrowing → ℕ → ℕ → ℕ
back_at f n h = if nat_eq n f.share then f.shake_back h else h

abbrev pub narrowed : Narrowing → End → End
narrowed f (PartEnd n h) = PartEnd n (back_at f n h)
narrowed f (ImportEnd n h) = ImportEnd n h
narrowed f (ResultEnd h) = ResultEnd h

abbrev pub wide_if : Narrowing → Option End → Option End
wide_if f None = None
wide_if f (Some e) = Some (widened f e)

-- the tokens and the open handshakes of the plan with the narrow Share
abbrev pub before : Narrowing → Tokens → Tokens
before f s = record { in_place = λ way e. s.in_place way (widened f e); state = s.state }

abbrev pub opened : Narrowing → Open → Open
opened f o = λ e. o (widened f e)

pub end_so : (f : Narrowing) (n : ℕ) (x : Slot) → end_of n (wide_slot (shake_at f n) x) ≡ widened f (end_of n x)
end_so f n (Req h) = refl
end_so f n (Ans h) = refl

pub end_back : (f : Narrowing) (n : ℕ) (x : Slot) → end_of n (wide_slot (back_at f n) x) ≡ narrowed f (end_of n x)
end_back f n (Req h) = refl
end_back f n (Ans h) = refl

pub way_so : (g : ℕ → ℕ) (x : Slot) → way_of (wide_slot g x) ≡ way_of x
way_so g (Req h) = refl
way_so g (Ans h) = refl

module _ (f : Narrowing) (z u : Plan) (is : HasWideShare f z u) where
  pub back_there : (n h : ℕ) → back_at f n (shake_at f n h) ≡ h
  back_there n h = by_test (nat_eq n f.share)
    where
      by_test : (b : Bool) → (if b then f.shake_back (if b then f.shake h else h) else if b then f.shake h else h) ≡ h
      by_test true = is.returns h
      by_test false = refl

  pub shake_one : (n h g : ℕ) → shake_at f n h ≡ shake_at f n g → h ≡ g
  shake_one n h g same = sym (back_there n h) ∙ (ap (back_at f n) same ∙ back_there n g)

  pub end_there : (e : End) → narrowed f (widened f e) ≡ e
  end_there (PartEnd n h) = ap (PartEnd n) (back_there n h)
  end_there (ImportEnd n h) = refl
  end_there (ResultEnd h) = refl

  pub one_end : (d e : End) → widened f d ≡ widened f e → d ≡ e
  one_end d e same = sym (end_there d) ∙ (ap (narrowed f) same ∙ end_there e)

  pub same_moved : (d e : End) → same_end (widened f d) (widened f e) ≡ same_end d e
  same_moved d e = same_tests (same_end (widened f d) (widened f e)) (same_end d e) to from
    where
      to : same_end (widened f d) (widened f e) ≡ true → same_end d e ≡ true
      to h = subst (λ (y : End). same_end d y ≡ true) (one_end d e (same_is (widened f d) (widened f e) h)) (same_itself d)

      from : same_end d e ≡ true → same_end (widened f d) (widened f e) ≡ true
      from h = subst (λ (y : End). same_end (widened f d) (widened f y) ≡ true) (same_is d e h) (same_itself (widened f d))

  -- handshakes
  number_is : (n m : ℕ) → nat_eq n m ≡ true → n ≡ m
  number_is n m test = grind (arith, test)

  pub not_share : (n : ℕ) → nat_eq n f.share ≡ false → n ≢ f.share
  not_share n test e = let t : nat_eq n f.share ≡ true = grind (arith, e) in let clash : true ≡ false = sym t ∙ test in cc clash

  own_so : (h : ℕ) (k : Contact) → contact_at u (PartEnd f.share h) ≡ Some k → contact_at z (PartEnd f.share (f.shake h)) ≡ Some k
  own_so h k at_u =
      ap (λ y. slice_get (contacts_of_part y) (f.shake h)) is.wide_share
      ∙ handshake_so f.wide f.narrow f.skipped f.shake is.shakes is.contacts h k (ap (λ y. slice_get (contacts_of_part y) h) (sym is.narrow_share) ∙ at_u)

  pub contact_so : (e : End) (k : Contact) → contact_at u e ≡ Some k → contact_at z (widened f e) ≡ Some k
  contact_so (ImportEnd n h) k at_u = ap (λ js. slice_get (contacts_of_import (slice_get js n)) h) (sym is.imports) ∙ at_u
  contact_so (ResultEnd h) k at_u = ap (λ y. turned_if (slice_get (Rattle.gos_plan.specs.Kinds.contacts_of y) h)) (sym is.outcome) ∙ at_u
  contact_so (PartEnd n h) k at_u = by_test (nat_eq n f.share) refl
    where
      by_test : (b : Bool) → nat_eq n f.share ≡ b → contact_at z (PartEnd n (if b then f.shake h else h)) ≡ Some k
      by_test true test =
          let same = number_is n f.share test in
          ap (λ (m : ℕ). contact_at z (PartEnd m (f.shake h))) same ∙ own_so h k (ap (λ (m : ℕ). contact_at u (PartEnd m h)) (sym same) ∙ at_u)
      by_test false test = ap (λ y. slice_get (contacts_of_part y) h) (is.others n (not_share n test)) ∙ at_u

module _ (f : Narrowing) (z u : Plan) (is : IsNarrow f z u) where
  -- places
  place_there : (e a : End) → places_of u e ≡ Some a → places_of z (widened f e) ≡ Some (widened f a)
  place_there e a there =
      let at = found u.joints e a there in
      stands_there z (joint (widened f at.joint.asking) (widened f at.joint.serving)) (widened f e) is.right
      (contained z.joints (joint (widened f at.joint.asking) (widened f at.joint.serving)) (is.joints at.joint.asking at.joint.serving (listed u.joints at.joint at.is_in)))
      (stands_by (widened f e) (joint (widened f at.joint.asking) (widened f at.joint.serving)) (carried at.joint (which_end e at.joint at.stands)))
      ∙ ap (λ y. Some (widened f y)) at.named
    where
      carried : (j : Joint) → (e ≡ j.asking) ⊎ (e ≡ j.serving) → (widened f e ≡ widened f j.asking) ⊎ (widened f e ≡ widened f j.serving)
      carried j (inl same) = inl (ap (widened f) same)
      carried j (inr same) = inr (ap (widened f) same)

  no_place : (e : End) → places_of u e ≡ None → places_of z (widened f e) ≡ None
  no_place e none = by_place (places_of z (widened f e)) refl
    where
      of_joint : (j : Joint) → IsIn j z.joints → stands_in (widened f e) j ≡ true → ⊥
      of_joint j is_in stands =
          let (d, b, has, at_d, at_b) = is.all j.asking j.serving (listed z.joints j is_in) in
          has_place u.joints (joint d b) e (contained u.joints (joint d b) has)
          (stands_by e (joint d b) (elim (which_end (widened f e) j stands) [
            | inl one ↦ inl (one_end f z u is.frame e d (one ∙ sym at_d))
            | inr one ↦ inr (one_end f z u is.frame e b (one ∙ sym at_b))
          ])) none

      by_place : (o : Option End) → places_of z (widened f e) ≡ o → o ≡ None
      by_place None h = refl
      by_place (Some a) h = let at = found z.joints (widened f e) a h in absurd (of_joint at.joint at.is_in at.stands)

  pub place_so : (e : End) → places_of z (widened f e) ≡ wide_if f (places_of u e)
  place_so e = by_place (places_of u e) refl
    where
      by_place : (o : Option End) → places_of u e ≡ o → places_of z (widened f e) ≡ wide_if f o
      by_place None none = no_place e none
      by_place (Some a) there = place_there e a there

  -- what stands in a joint is an end of the other plan
  abbrev pub Stood : End → Type 0
  Stood e = (d : End) × (k : Contact) × (widened f d ≡ e) × (contact_at u d ≡ Some k)

  pub stood : (e a : End) → places_of z e ≡ Some a → Stood e
  stood e a placed =
      let at = found z.joints e a placed in
      let (d, b, has, at_d, at_b) = is.all at.joint.asking at.joint.serving (listed z.joints at.joint at.is_in) in
      let fit = fits u [] u.joints (joint d b) is.also_right (contained u.joints (joint d b) has) in
      elim (which_end e at.joint at.stands) [
        | inl one ↦ (d, asks fit.0 fit.1, at_d ∙ sym one, fit.2)
        | inr one ↦ (b, serves fit.0 fit.1, at_b ∙ sym one, fit.3)
      ]

  -- tokens
  held_so : (s : Tokens) (way : Direction) (o : Option End) → held_at (before f s) way o ≡ held_at s way (wide_if f o)
  held_so s way None = refl
  held_so s way (Some a) = refl

  pub token_so : (e : End) (s : Tokens) (way : Direction) → token_at u (before f s) e way ≡ token_at z s (widened f e) way
  token_so e s way = held_so s way (places_of u e) ∙ ap (held_at s way) (sym (place_so e))

  filled_so : (way : Direction) (o : Option End) (held : Option ℕ) (s : Tokens) → with_held way o held (before f s) ≡ before f (with_held way (wide_if f o) held s)
  filled_so way None held s = refl
  filled_so way (Some a) held s =
      λ n. record {
        in_place = λ w d. if same_way w way && sym (same_moved f z u is.frame d a) n then held else s.in_place w (widened f d);
        state = s.state;
      }

  pub put_so : (e : End) (way : Direction) (held : Option ℕ) (s : Tokens) → with_token u e way held (before f s) ≡ before f (with_token z (widened f e) way held s)
  put_so e way held s = filled_so way (places_of u e) held s ∙ ap (λ o. before f (with_held way o held s)) (sym (place_so e))

  pub slot_put : (n : ℕ) (x : Slot) (held : Option ℕ) (s : Tokens)
      → with_token u (end_of n x) (way_of x) held (before f s)
      ≡ before f (with_token z (end_of n (wide_slot (shake_at f n) x)) (way_of (wide_slot (shake_at f n) x)) held s)
  slot_put n x held s =
      put_so (end_of n x) (way_of x) held s
      ∙ (λ l. before f (with_token z (sym (end_so f n x) l) (sym (way_so (shake_at f n) x) l) held s))

  puts_so : (n : ℕ) (ts : List Token) (s : Tokens) → with_puts u n ts (before f s) ≡ before f (with_puts z n (map (wide_token (shake_at f n)) ts) s)
  puts_so n [] s = refl
  puts_so n (t ∷ ts) s =
      ap (with_puts u n ts) (slot_put n t.slot (Some t.value) s)
      ∙ puts_so n ts (with_token z (end_of n (wide_slot (shake_at f n) t.slot)) (way_of (wide_slot (shake_at f n) t.slot)) (Some t.value) s)

  -- a part after it has taken a token
  abbrev pub taken : Plan → ℕ → Row → ℕ → Tokens → Tokens
  taken p n r v s = with_state n (r.next v) (with_token p (end_of n r.takes) (way_of r.takes) None s)

  pub taken_so : (n : ℕ) (r : Row) (v : ℕ) (s : Tokens) → taken u n r v (before f s) ≡ before f (taken z n (wide_row (shake_at f n) r) v s)
  taken_so n r v s = ap (with_state n (r.next v)) (slot_put n r.takes None s)

  pub fired_so : (n : ℕ) (r : Row) (v : ℕ) (s : Tokens) → fired u n r v (before f s) ≡ before f (fired z n (wide_row (shake_at f n) r) v s)
  fired_so n r v s = ap (with_puts u n (r.puts v)) (taken_so n r v s) ∙ puts_so n (r.puts v) (taken z n (wide_row (shake_at f n) r) v s)

  -- firings
  own_fires : (q : State) (x : Slot) (k : Contact) → contact_at u (PartEnd f.share (shake_of x)) ≡ Some k
      → firing_of (slice_get z.parts f.share) q (wide_slot f.shake x) ≡ option_map (wide_row f.shake) (firing_of (slice_get u.parts f.share) q x)
  own_fires q x k at_u =
      ap (λ y. firing_of y q (wide_slot f.shake x)) is.frame.wide_share
      ∙ (share_so f.wide f.narrow f.skipped f.shake one_shake is.frame.shakes is.frame.contacts q x k (ap (λ y. slice_get (contacts_of_part y) (shake_of x)) (sym is.frame.narrow_share) ∙ at_u)
      ∙ ap (λ y. option_map (wide_row f.shake) (firing_of y q x)) (sym is.frame.narrow_share))
    where
      one_shake : (h j : ℕ) → f.shake h ≡ f.shake j → h ≡ j
      one_shake h j same = sym (is.frame.returns h) ∙ (ap f.shake_back same ∙ is.frame.returns j)

  pub row_so : (n : ℕ) (q : State) (x : Slot) (k : Contact) → contact_at u (end_of n x) ≡ Some k
      → firing_of (slice_get z.parts n) q (wide_slot (shake_at f n) x) ≡ option_map (wide_row (shake_at f n)) (firing_of (slice_get u.parts n) q x)
  row_so n q x k at_u = by_test (nat_eq n f.share) refl
    where
      Same : ℕ → (ℕ → ℕ) → Type 0
      Same m g = firing_of (slice_get z.parts m) q (wide_slot g x) ≡ option_map (wide_row g) (firing_of (slice_get u.parts m) q x)

      by_test : (b : Bool) → nat_eq n f.share ≡ b → Same n (λ h. if b then f.shake h else h)
      by_test true test =
          let same = number_is f z u is.frame n f.share test in
          subst (λ (m : ℕ). Same m f.shake) (sym same) (own_fires q x k (ap (λ (m : ℕ). contact_at u (PartEnd m (shake_of x))) (sym same) ∙ at_u))
      by_test false test =
          let same = is.frame.others n (not_share f z u is.frame n test) in
          ap (λ y. firing_of y q (wide_slot (λ h. h) x)) same ∙ other_so (slice_get u.parts n) q x

  -- open handshakes
  named_so : (o : Option End) (e : End) → named_by (wide_if f o) (widened f e) ≡ widened f (named_by o e)
  named_so None e = refl
  named_so (Some a) e = refl

  name_so : (e : End) → handshake_at z (widened f e) ≡ widened f (handshake_at u e)
  name_so e = ap (λ o. named_by o (widened f e)) (place_so e) ∙ named_so (places_of u e) e

  open_so : (e : End) (b : Bool) (o : Open) → with_open e b (opened f o) ≡ opened f (with_open (widened f e) b o)
  open_so e b o = λ n d. if sym (same_moved f z u is.frame d e) n then b else o (widened f d)

  pub taken_opens : (e : End) (way : Direction) (o : Open) → after_taken u e way (opened f o) ≡ opened f (after_taken z (widened f e) way o)
  taken_opens e Request o = refl
  taken_opens e Answer o = open_so (handshake_at u e) false o ∙ ap (λ d. opened f (with_open d false o)) (sym (name_so e))

  pub put_opens : (e : End) (way : Direction) (o : Open) → after_put u e way (opened f o) ≡ opened f (after_put z (widened f e) way o)
  put_opens e Request o = open_so (handshake_at u e) true o ∙ ap (λ d. opened f (with_open d true o)) (sym (name_so e))
  put_opens e Answer o = refl

  pub slot_taken : (n : ℕ) (x : Slot) (o : Open) → after_taken u (end_of n x) (way_of x) (opened f o)
      ≡ opened f (after_taken z (end_of n (wide_slot (shake_at f n) x)) (way_of (wide_slot (shake_at f n) x)) o)
  slot_taken n x o =
      taken_opens (end_of n x) (way_of x) o
      ∙ (λ l. opened f (after_taken z (sym (end_so f n x) l) (sym (way_so (shake_at f n) x) l) o))

  slot_opens : (n : ℕ) (x : Slot) (o : Open) → after_put u (end_of n x) (way_of x) (opened f o)
      ≡ opened f (after_put z (end_of n (wide_slot (shake_at f n) x)) (way_of (wide_slot (shake_at f n) x)) o)
  slot_opens n x o =
      put_opens (end_of n x) (way_of x) o
      ∙ (λ l. opened f (after_put z (sym (end_so f n x) l) (sym (way_so (shake_at f n) x) l) o))

  pub puts_opens : (n : ℕ) (ts : List Token) (o : Open) → after_puts u n ts (opened f o) ≡ opened f (after_puts z n (map (wide_token (shake_at f n)) ts) o)
  puts_opens n [] o = refl
  puts_opens n (t ∷ ts) o =
      ap (after_puts u n ts) (slot_opens n t.slot o)
      ∙ puts_opens n ts (after_put z (end_of n (wide_slot (shake_at f n) t.slot)) (way_of (wide_slot (shake_at f n) t.slot)) o)

  pub comes_well : (e : End) (way : Direction) (o : Open) (s : Tokens) → ComesWell u e way (opened f o) (before f s) → ComesWell z (widened f e) way o s
  comes_well e Request o s well = ap o (name_so e) ∙ well
  comes_well e Answer o s well = (ap o (name_so e) ∙ well.0, λ way. sym (token_so e s way) ∙ well.1 way)

  pub all_come : (n : ℕ) (ts : List Token) (o : Open) (s : Tokens) → AllComeWell u n ts (opened f o) (before f s) → AllComeWell z n (map (wide_token (shake_at f n)) ts) o s
  all_come n [] o s well = tt
  all_come n (t ∷ ts) o s (well, more) = (
    subst (λ (X : Type 0). X) (λ l. ComesWell z (sym (end_so f n t.slot) l) (sym (way_so (shake_at f n) t.slot) l) o s) (comes_well (end_of n t.slot) (way_of t.slot) o s well),
    all_come n ts (after_put z (end_of n (wide_slot (shake_at f n) t.slot)) (way_of (wide_slot (shake_at f n) t.slot)) o)
        (with_token z (end_of n (wide_slot (shake_at f n) t.slot)) (way_of (wide_slot (shake_at f n) t.slot)) (Some t.value) s)
        (subst (λ (X : Type 0). X) (λ l. AllComeWell u n ts (slot_opens n t.slot o l) (slot_put n t.slot (Some t.value) s l)) more),
  )
