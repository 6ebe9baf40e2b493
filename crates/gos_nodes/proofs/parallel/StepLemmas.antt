-- What an element of the whole is: one of a region, or one of the part that asks both.
--
-- The last result is `step`: each element that is possible is of one of ten sorts (`Step`), and of each it is said what the
-- regions and the part make of it.
use Rattle.std.specs.Prelude.{◌≡◌, ◌⊎◌, ◌<◌, ℕ, suc, true, Option, Some, None, All, Contains, slice_get}
use Rattle.std.proofs.Common.{arith, refl, sym, ap, subst, inl, inr, ◌∙◌}
use Rattle.gos_types.specs.Types.{Type', IsDone}
use Rattle.gos_types.specs.Events.{Direction, Request, Answer}
use Rattle.gos_model.specs.Typing.{Imported}
use Rattle.gos_plan.specs.Kinds.{Part, Contact, asks, contacts_of}
use Rattle.gos_plan.specs.Firing.{Rest, Both, LeftOnly, RightOnly, State, Slot, Req, Ans, Row, at, quiet_row}
use Rattle.gos_plan.specs.Plans.{End, PartEnd, ImportEnd, ResultEnd, Joint, Plan, contact_at, stands_in, turned_if}
use Rattle.gos_plan.specs.Tokens.{Tokens, Element, Fire, Out, In, places_of, held_at, with_held, token_at, with_token, with_state, end_of, way_of, firing_of, fired, way_taken, Passes, Does, Runs}
use Rattle.gos_plan.specs.TokenBits.{LiteralFits, AllFit}
use Rattle.gos_plan.proofs.JointLemmas.{contained, found, has_place, asking_stands, serving_stands, which_end}
use Rattle.gos_plan.proofs.HeldLemmas.{nothing_there}
use Rattle.gos_plan.proofs.TurnLemmas.{token_state}
use Rattle.gos_plan.proofs.ElementLemmas.{firing_part}
use Rattle.gos_joining.specs.webs.Webs.{joint}
use Rattle.gos_joining.specs.webs.Cutting.{Cut, lies_at, cut_tokens, out_if, in_if}
use Rattle.gos_joining.proofs.webs.MovedLemmas.{listed}
use Rattle.gos_joining.proofs.webs.CutLemmas.{Owns, token_lost, fire_cut, stands_own, element_is_cut}
use Rattle.gos_realises.proofs.realises.ToldLemmas.{contains_at}
use Rattle.gos_sharing.proofs.cores.VariableLemmas.{apart_shakes}
use Rattle.gos_nodes.specs.parallel.Parallel.{IsSide, IsJointOf, IsPartOf, IsParallel}
use Rattle.gos_nodes.proofs.parallel.DriverLemmas.{begin_row, end_row, ParRow, begins, left_first, right_first, left_last, right_last, par_row}
use Rattle.gos_nodes.proofs.parallel.HungLemmas.{Held, IsResult, IsHung, Local, fires, puts_out, takes_in, Unseen, Sees, one_sees, import_real, result_put, is_asked, is_answered, state_unseen, not_driver, not_its_import}
use Rattle.gos_nodes.proofs.parallel.GateLemmas.{gate, Same, IsRun, passes_out, passes_in, there_contact, first_shake, result_gate, part_gate, gate_apart, gate_taken, gate_left, gate_filled, gate_beside, new_state, kept_state, fired_same, port_same}
use Rattle.gos_nodes.proofs.parallel.RegionLemmas as region

pub data Step (d : ℕ) (f g : Cut) (r p q : Plan) : Element → Tokens → Tokens → Type 0 where
  of_left : (x y : Element) (s t : Tokens) → Local f r p x y → Sees f p y s t → Unseen g q s t → Same d s t → Step d f g r p q x s t
  of_right : (x y : Element) (s t : Tokens) → Local g r q x y → Sees g q y s t → Unseen f p s t → Same d s t → Step d f g r p q x s t
  asked :
      (v : ℕ) (s t : Tokens) → v ≡ 0 → Unseen f p s t → Unseen g q s t → t.state d ≡ s.state d → gate t Request ≡ Some v → gate t Answer ≡ gate s Answer
      → Step d f g r p q (In (ResultEnd 0) v) s t
  told :
      (v : ℕ) (s t : Tokens) → Unseen f p s t → Unseen g q s t → t.state d ≡ s.state d → gate s Answer ≡ Some v → gate t Answer ≡ None
      → gate t Request ≡ gate s Request → Step d f g r p q (Out (ResultEnd 0) v) s t
  starts :
      (v : ℕ) (s t : Tokens) → Sees f p (In (ResultEnd 0) 0) s t → Sees g q (In (ResultEnd 0) 0) s t → (s.state d).phase ≡ Rest → gate s Request ≡ Some v
      → (t.state d).phase ≡ Both → gate t Request ≡ None → gate t Answer ≡ gate s Answer → Step d f g r p q (Fire d (Req 2)) s t
  left_ends :
      (v : ℕ) (s t : Tokens) → Sees f p (Out (ResultEnd 0) v) s t → Unseen g q s t → (s.state d).phase ≡ Both → (t.state d).phase ≡ RightOnly
      → ((way : Direction) → gate t way ≡ gate s way) → Step d f g r p q (Fire d (Ans 0)) s t
  right_ends :
      (v : ℕ) (s t : Tokens) → Sees g q (Out (ResultEnd 0) v) s t → Unseen f p s t → (s.state d).phase ≡ Both → (t.state d).phase ≡ LeftOnly
      → ((way : Direction) → gate t way ≡ gate s way) → Step d f g r p q (Fire d (Ans 1)) s t
  left_ends_all :
      (v : ℕ) (s t : Tokens) → Sees f p (Out (ResultEnd 0) v) s t → Unseen g q s t → (s.state d).phase ≡ LeftOnly → (t.state d).phase ≡ Rest
      → gate t Request ≡ gate s Request → gate t Answer ≡ Some 0 → Step d f g r p q (Fire d (Ans 0)) s t
  right_ends_all :
      (v : ℕ) (s t : Tokens) → Sees g q (Out (ResultEnd 0) v) s t → Unseen f p s t → (s.state d).phase ≡ RightOnly → (t.state d).phase ≡ Rest
      → gate t Request ≡ gate s Request → gate t Answer ≡ Some 0 → Step d f g r p q (Fire d (Ans 1)) s t
  lost :
      (j k v : ℕ) (s t : Tokens) (c : Contact) → contact_at r (ImportEnd j k) ≡ Some c → f.inner (ImportEnd j k) ≡ None → g.inner (ImportEnd j k) ≡ None
      → Unseen f p s t → Unseen g q s t → Same d s t
      → Step d f g r p q (In (ImportEnd j k) v) s t

-- it is seen by a region or by the part: no input at an end without a joint
abbrev pub IsSeen : (d : ℕ) (f g : Cut) (r p q : Plan) (x : Element) (s t : Tokens) → Step d f g r p q x s t → Type 0
IsSeen d f g r p q x s t (lost j k v s' t' c there not_left not_right left right same) = ⊥
IsSeen d f g r p q x s t z = Unit {0}

-- the part's ends are joined as the regions' results alone
free_side : (d h : ℕ) (f : Cut) (r p : Plan) → IsSide d h f r p
    → ((a b : End) → Contains r.joints (joint a b) → IsJointOf f p a b ⊎ ((PartEnd d h ≡ a → ⊥) × (PartEnd d h ≡ b → ⊥)))
    → places_of p (ResultEnd 0) ≡ None → places_of r (PartEnd d h) ≡ None
free_side d h f r p side whose none = by_place (places_of r (PartEnd d h)) refl
  where
    standing : (x y : End) → Contains p.joints (joint x y) → (ResultEnd 0 ≡ x) ⊎ (ResultEnd 0 ≡ y) → ⊥
    standing x y has (inl is) =
        has_place p.joints (joint x y) (ResultEnd 0) (contained p.joints (joint x y) has)
        (subst (λ (e : End). stands_in e (joint x y) ≡ true) (sym is) (asking_stands (joint x y))) none
    standing x y has (inr is) =
        has_place p.joints (joint x y) (ResultEnd 0) (contained p.joints (joint x y) has)
        (subst (λ (e : End). stands_in e (joint x y) ≡ true) (sym is) (serving_stands (joint x y))) none

    own_end : (j : Joint) → (PartEnd d h ≡ j.asking) ⊎ (PartEnd d h ≡ j.serving) → IsJointOf f p j.asking j.serving → ⊥
    own_end j (inl is) (x, y, has, at, beyond) =
        let own = stands_own p (joint x y) x side.cut.right (contained p.joints (joint x y) has) (asking_stands (joint x y)) in
        standing x y has (inl (sym (region.result_alone d h f r p side x own (at ∙ sym is))))
    own_end j (inr is) (x, y, has, at, beyond) =
        let own = stands_own p (joint x y) y side.cut.right (contained p.joints (joint x y) has) (serving_stands (joint x y)) in
        standing x y has (inr (sym (region.result_alone d h f r p side y own (beyond ∙ sym is))))

    by_place : (o : Option End) → places_of r (PartEnd d h) ≡ o → o ≡ None
    by_place None is = refl
    by_place (Some a) is =
        let there = found r.joints (PartEnd d h) a is in
        let which = which_end (PartEnd d h) there.joint there.stands in
        absurd (elim (whose there.joint.asking there.joint.serving (listed r.joints there.joint there.is_in)) [
          | inl own ↦ own_end there.joint which own
          | inr apart ↦ elim which [ inl one ↦ apart.0 one | inr other ↦ apart.1 other ]
        ])

-- an end of a region that stands at an end of the part is its result
driver_end : (d h : ℕ) (f : Cut) (r p : Plan) → IsSide d h f r p → (e : End) → Owns p e → (k : ℕ) → lies_at f e ≡ PartEnd d k → k ≡ h
driver_end d h f r p side (PartEnd i n) (part, there) k is =
    let number = (side.cut.parts i part there).1 in
    let same : f.part i ≡ d = cc is in
    let clash : None ≡ Some i = sym side.outside ∙ (ap f.number (sym same) ∙ number) in absurd (cc clash)
driver_end d h f r p side (ImportEnd i n) stands k is =
    let (j, leads, same) = side.imports i n stands in
    let bad : ImportEnd j n ≡ PartEnd d k = sym leads ∙ is in absurd (cc bad)
driver_end d h f r p side (ResultEnd n) stands k is =
    let none : ResultEnd n ≡ ResultEnd 0 = ap (λ m. ResultEnd m) (region.side_shake d h f r p side n stands) in
    let both : PartEnd d k ≡ PartEnd d h = sym is ∙ (ap (lies_at f) none ∙ side.result) in cc both

-- no joint of the one region has the end at which the part asks the other
not_its : (d h k : ℕ) (f : Cut) (r p : Plan) → IsSide d h f r p → (k ≡ h → ⊥) → (a b : End) → IsJointOf f p a b → (PartEnd d k ≡ a → ⊥) × (PartEnd d k ≡ b → ⊥)
not_its d h k f r p side other a b (x, y, has, at, beyond) = (
  λ is.
      let own = stands_own p (joint x y) x side.cut.right (contained p.joints (joint x y) has) (asking_stands (joint x y)) in
      other (driver_end d h f r p side x own k (at ∙ sym is)),
  λ is.
      let own = stands_own p (joint x y) y side.cut.right (contained p.joints (joint x y) has) (serving_stands (joint x y)) in
      other (driver_end d h f r p side y own k (beyond ∙ sym is)),
)

abbrev pub Differ : ℕ → ℕ → Type 0
Differ k n = k ≡ n → ⊥

zero_not_two : Differ 0 2
zero_not_two e = omega (arith, e)

one_not_two : Differ 1 2
one_not_two e = omega (arith, e)

two_not_one : Differ 2 1
two_not_one e = omega (arith, e)

-- so it hangs on the end at which the part asks it
hung_side : (d h : ℕ) (f : Cut) (r p : Plan) → IsSide d h f r p → (places_of p (ResultEnd 0) ≡ None → places_of r (PartEnd d h) ≡ None) → IsHung IsResult d h 0 f r p
hung_side d h f r p side free =
    record {
      cut = side.cut;
      outside = side.outside;
      result = side.result;
      counted = refl;
      alone = alone;
      free = λ x counted none. ap (places_of r) (ap (lies_at f) counted ∙ side.result) ∙ free (ap (places_of p) (sym counted) ∙ none);
      there = region.result_there d h f r p side;
    }
  where
    alone : (e x : End) → Held p e → IsResult x → lies_at f e ≡ lies_at f x → e ≡ x
    alone e x (inl own) counted same = region.result_alone d h f r p side e own (same ∙ (ap (lies_at f) counted ∙ side.result)) ∙ sym counted
    alone e x (inr is) counted same = is ∙ sym counted

module _ (d : ℕ) (f g : Cut) (r p q : Plan) (is : IsParallel d f g r p q) where
  left_joints : (a b : End) → Contains r.joints (joint a b) → IsJointOf f p a b ⊎ ((PartEnd d 0 ≡ a → ⊥) × (PartEnd d 0 ≡ b → ⊥))
  left_joints a b has =
      elim (is.joints a b has) [
        | inl own ↦ elim own [ inl one ↦ inl one | inr other ↦ inr (not_its d 1 0 g r q is.right (λ e. omega (arith, e)) a b other) ]
        | inr run ↦ inr ((λ e. let bad : PartEnd d 0 ≡ ResultEnd 0 = e ∙ run.0 in cc bad), λ e. apart_shakes d 0 2 zero_not_two (e ∙ run.1))
      ]

  right_joints : (a b : End) → Contains r.joints (joint a b) → IsJointOf g q a b ⊎ ((PartEnd d 1 ≡ a → ⊥) × (PartEnd d 1 ≡ b → ⊥))
  right_joints a b has =
      elim (is.joints a b has) [
        | inl own ↦ elim own [ inl one ↦ inr (not_its d 0 1 f r p is.left (λ e. omega (arith, e)) a b one) | inr other ↦ inl other ]
        | inr run ↦ inr ((λ e. let bad : PartEnd d 1 ≡ ResultEnd 0 = e ∙ run.0 in cc bad), λ e. apart_shakes d 1 2 one_not_two (e ∙ run.1))
      ]

  free_left : places_of p (ResultEnd 0) ≡ None → places_of r (PartEnd d 0) ≡ None
  free_left = free_side d 0 f r p is.left left_joints

  free_right : places_of q (ResultEnd 0) ≡ None → places_of r (PartEnd d 1) ≡ None
  free_right = free_side d 1 g r q is.right right_joints

  -- the regions hang on the part, and the result runs it
  pub hung_left : IsHung IsResult d 0 0 f r p
  hung_left = hung_side d 0 f r p is.left free_left

  pub hung_right : IsHung IsResult d 1 0 g r q
  hung_right = hung_side d 1 g r q is.right free_right

  pub is_run : IsRun r d 2
  is_run = record { right = is.left.cut.whole_right; there = is.run }

  no_left : (k : ℕ) → (k ≡ 0 → ⊥) → PartEnd d k ≡ PartEnd d 0 → ⊥
  no_left k other e = let same : k ≡ 0 = cc e in other same

  no_right : (k : ℕ) → (k ≡ 1 → ⊥) → PartEnd d k ≡ PartEnd d 1 → ⊥
  no_right k other e = let same : k ≡ 1 = cc e in other same

  -- the part's own ends, as the regions see them
  left_put : (way : Direction) (held : Option ℕ) (s : Tokens)
      → cut_tokens f p (with_token r (PartEnd d 0) way held s) ≡ with_token p (ResultEnd 0) way held (cut_tokens f p s)
  left_put = result_put hung_left

  right_put : (way : Direction) (held : Option ℕ) (s : Tokens)
      → cut_tokens g q (with_token r (PartEnd d 1) way held s) ≡ with_token q (ResultEnd 0) way held (cut_tokens g q s)
  right_put = result_put hung_right

  left_unseen : (k : ℕ) → (k ≡ 0 → ⊥) → (way : Direction) (held : Option ℕ) (s : Tokens)
      → cut_tokens f p (with_token r (PartEnd d k) way held s) ≡ cut_tokens f p s
  left_unseen k other = region.part_unseen d 0 f r p is.left d k is.left.outside (no_left k other)

  right_unseen : (k : ℕ) → (k ≡ 1 → ⊥) → (way : Direction) (held : Option ℕ) (s : Tokens)
      → cut_tokens g q (with_token r (PartEnd d k) way held s) ≡ cut_tokens g q s
  right_unseen k other = region.part_unseen d 1 g r q is.right d k is.right.outside (no_right k other)

  left_state : (c : State) (s : Tokens) → cut_tokens f p (with_state d c s) ≡ cut_tokens f p s
  left_state = state_unseen hung_left d is.left.outside

  right_state : (c : State) (s : Tokens) → cut_tokens g q (with_state d c s) ≡ cut_tokens g q s
  right_state = state_unseen hung_right d is.right.outside

  not_zero : (k : ℕ) → suc k ≡ 0 → ⊥
  not_zero k e = omega (arith, e)

  zero_not : (k : ℕ) → 0 ≡ suc k → ⊥
  zero_not k e = omega (arith, e)

  -- it begins
  begun : (v n : ℕ) (s : Tokens) → (s.state d).phase ≡ Rest → token_at r s (PartEnd d 2) Request ≡ Some v
      → Step d f g r p q (Fire d (Req 2)) s (fired r d (begin_row n) v s)
  begun v n s rest lies =
      starts v s u3 left_sees right_sees rest (sym (ap (held_at s Request) (part_gate is_run)) ∙ lies) phase (gates Request ∙ gate_taken is_run s) (gates Answer ∙ gate_left is_run s)
    where
      u0 : Tokens
      u0 = with_token r (PartEnd d 2) Request None s

      u1 : Tokens
      u1 = with_state d (at Both n) u0

      u2 : Tokens
      u2 = with_token r (PartEnd d 0) Request (Some 0) u1

      u3 : Tokens
      u3 = with_token r (PartEnd d 1) Request (Some 0) u2

      gates : (way : Direction) → gate u3 way ≡ gate u0 way
      gates way = gate_apart is_run 1 one_not_two Request (Some 0) u2 way ∙ gate_apart is_run 0 (zero_not 1) Request (Some 0) u1 way

      phase : (u3.state d).phase ≡ Both
      phase = ap (λ (c : State). c.phase) (kept_state is_run 1 Request (Some 0) u2 ∙ (kept_state is_run 0 Request (Some 0) u1 ∙ new_state is_run (at Both n) u0))

      left_sees : Sees f p (In (ResultEnd 0) 0) s u3
      left_sees =
          is_asked hung_left s u3
          (left_unseen 1 (not_zero 0) Request (Some 0) u2
          ∙ (left_put Request (Some 0) u1
          ∙ ap (with_token p (ResultEnd 0) Request (Some 0)) (left_state (at Both n) u0 ∙ left_unseen 2 (not_zero 1) Request None s)))

      right_sees : Sees g q (In (ResultEnd 0) 0) s u3
      right_sees =
          is_asked hung_right s u3
          (right_put Request (Some 0) u2
          ∙ ap (with_token q (ResultEnd 0) Request (Some 0))
          (right_unseen 0 (zero_not 0) Request (Some 0) u1 ∙ (right_state (at Both n) u0 ∙ right_unseen 2 two_not_one Request None s)))

  -- a region ends, and then the other one
  left_first_ended : (v n : ℕ) (s : Tokens) → (s.state d).phase ≡ Both → token_at r s (PartEnd d 0) Answer ≡ Some v
      → Step d f g r p q (Fire d (Ans 0)) s (fired r d (quiet_row (Ans 0) (at RightOnly n)) v s)
  left_first_ended v n s both lies =
      left_ends v s (with_state d (at RightOnly n) u0) sees
      (right_state (at RightOnly n) u0 ∙ right_unseen 0 (zero_not 0) Answer None s) both
      (ap (λ (c : State). c.phase) (new_state is_run (at RightOnly n) u0)) (gate_apart is_run 0 (zero_not 1) Answer None s)
    where
      u0 : Tokens
      u0 = with_token r (PartEnd d 0) Answer None s

      sees : Sees f p (Out (ResultEnd 0) v) s (with_state d (at RightOnly n) u0)
      sees =
          is_answered hung_left v s (with_state d (at RightOnly n) u0) lies
          (left_state (at RightOnly n) u0 ∙ left_put Answer None s)

  right_first_ended : (v n : ℕ) (s : Tokens) → (s.state d).phase ≡ Both → token_at r s (PartEnd d 1) Answer ≡ Some v
      → Step d f g r p q (Fire d (Ans 1)) s (fired r d (quiet_row (Ans 1) (at LeftOnly n)) v s)
  right_first_ended v n s both lies =
      right_ends v s (with_state d (at LeftOnly n) u0) sees
      (left_state (at LeftOnly n) u0 ∙ left_unseen 1 (not_zero 0) Answer None s) both
      (ap (λ (c : State). c.phase) (new_state is_run (at LeftOnly n) u0)) (gate_apart is_run 1 one_not_two Answer None s)
    where
      u0 : Tokens
      u0 = with_token r (PartEnd d 1) Answer None s

      sees : Sees g q (Out (ResultEnd 0) v) s (with_state d (at LeftOnly n) u0)
      sees =
          is_answered hung_right v s (with_state d (at LeftOnly n) u0) lies
          (right_state (at LeftOnly n) u0 ∙ right_put Answer None s)

  left_last_ended : (v n : ℕ) (s : Tokens) → (s.state d).phase ≡ LeftOnly → token_at r s (PartEnd d 0) Answer ≡ Some v
      → Step d f g r p q (Fire d (Ans 0)) s (fired r d (end_row 0 n) v s)
  left_last_ended v n s phase lies =
      left_ends_all v s u2 sees
      (right_unseen 2 two_not_one Answer (Some 0) u1 ∙ (right_state (at Rest n) u0 ∙ right_unseen 0 (zero_not 0) Answer None s)) phase
      (ap (λ (c : State). c.phase) (kept_state is_run 2 Answer (Some 0) u1 ∙ new_state is_run (at Rest n) u0))
      (gate_beside is_run 0 u1 ∙ gate_apart is_run 0 (zero_not 1) Answer None s Request) (gate_filled is_run 0 u1)
    where
      u0 : Tokens
      u0 = with_token r (PartEnd d 0) Answer None s

      u1 : Tokens
      u1 = with_state d (at Rest n) u0

      u2 : Tokens
      u2 = with_token r (PartEnd d 2) Answer (Some 0) u1

      sees : Sees f p (Out (ResultEnd 0) v) s u2
      sees =
          is_answered hung_left v s u2 lies
          (left_unseen 2 (not_zero 1) Answer (Some 0) u1 ∙ (left_state (at Rest n) u0 ∙ left_put Answer None s))

  right_last_ended : (v n : ℕ) (s : Tokens) → (s.state d).phase ≡ RightOnly → token_at r s (PartEnd d 1) Answer ≡ Some v
      → Step d f g r p q (Fire d (Ans 1)) s (fired r d (end_row 1 n) v s)
  right_last_ended v n s phase lies =
      right_ends_all v s u2 sees
      (left_unseen 2 (not_zero 1) Answer (Some 0) u1 ∙ (left_state (at Rest n) u0 ∙ left_unseen 1 (not_zero 0) Answer None s)) phase
      (ap (λ (c : State). c.phase) (kept_state is_run 2 Answer (Some 0) u1 ∙ new_state is_run (at Rest n) u0))
      (gate_beside is_run 0 u1 ∙ gate_apart is_run 1 one_not_two Answer None s Request) (gate_filled is_run 0 u1)
    where
      u0 : Tokens
      u0 = with_token r (PartEnd d 1) Answer None s

      u1 : Tokens
      u1 = with_state d (at Rest n) u0

      u2 : Tokens
      u2 = with_token r (PartEnd d 2) Answer (Some 0) u1

      sees : Sees g q (Out (ResultEnd 0) v) s u2
      sees =
          is_answered hung_right v s u2 lies
          (right_unseen 2 two_not_one Answer (Some 0) u1 ∙ (right_state (at Rest n) u0 ∙ right_put Answer None s))

  driver_row : (slot : Slot) (row : Row) (s : Tokens) → firing_of (slice_get r.parts d) (s.state d) slot ≡ Some row
      → ParRow (s.state d).phase (s.state d).number slot row
  driver_row slot row s by =
      par_row (s.state d).phase (s.state d).number slot row (subst (λ (o : Option Part). firing_of o (s.state d) slot ≡ Some row) is.driver by)

  driver_step : (slot : Slot) (s t : Tokens) → Does r (Fire d slot) s t → Step d f g r p q (Fire d slot) s t
  driver_step slot s t (v, row, held, by, leads) = by_row (driver_row slot row s by)
    where
      n : ℕ
      n = (s.state d).number

      done : (c : Slot) (w : Row) → slot ≡ c → row ≡ w
          → (token_at r s (end_of d c) (way_of c) ≡ Some v → Step d f g r p q (Fire d c) s (fired r d w v s)) → Step d f g r p q (Fire d slot) s t
      done c w same is_w make =
          subst (λ (u : Tokens). Step d f g r p q (Fire d slot) s u) (sym (leads ∙ ap (λ (x : Row). fired r d x v s) is_w))
          (subst (λ (x : Slot). Step d f g r p q (Fire d x) s (fired r d w v s)) (sym same)
          (make (subst (λ (x : Slot). token_at r s (end_of d x) (way_of x) ≡ Some v) same held)))

      by_row : ParRow (s.state d).phase n slot row → Step d f g r p q (Fire d slot) s t
      by_row (begins rest same is_w) = done (Req 2) (begin_row n) same is_w (begun v n s rest)
      by_row (left_first both same is_w) = done (Ans 0) (quiet_row (Ans 0) (at RightOnly n)) same is_w (left_first_ended v n s both)
      by_row (right_first both same is_w) = done (Ans 1) (quiet_row (Ans 1) (at LeftOnly n)) same is_w (right_first_ended v n s both)
      by_row (left_last only same is_w) = done (Ans 0) (end_row 0 n) same is_w (left_last_ended v n s only)
      by_row (right_last only same is_w) = done (Ans 1) (end_row 1 n) same is_w (right_last_ended v n s only)

  -- a firing in a region
  number_none : (h : Cut) (i : ℕ) → (IsPartOf h i → ⊥) → h.number i ≡ None
  number_none h i never = by_number (h.number i) refl
    where
      by_number : (o : Option ℕ) → h.number i ≡ o → o ≡ None
      by_number None e = refl
      by_number (Some j) e = absurd (never (j, e))

  fire_step : (i : ℕ) (slot : Slot) (s t : Tokens) → Does r (Fire i slot) s t → Step d f g r p q (Fire i slot) s t
  fire_step i slot s t does =
      let part = firing_part (slice_get r.parts i) (s.state i) slot does.1 does.3 in by_part (is.parts i part.0 part.1)
    where
      by_part : (IsPartOf f i ⊎ IsPartOf g i) ⊎ (i ≡ d) → Step d f g r p q (Fire i slot) s t
      by_part (inl (inl (j, number))) =
          let other = not_driver hung_left i (j, number) in
          of_left (Fire i slot) (Fire j slot) s t (fires i j slot number) (fire_cut f r p is.left.cut j i number slot s t does)
          (ap (cut_tokens g q) does.4
          ∙ region.fired_unseen d 1 g r q is.right i (number_none g i (λ also. is.apart i (j, number) also)) other does.1 does.0 s)
          (fired_same is_run i other does.1 does.0 s t does.4)
      by_part (inl (inr (j, number))) =
          let other = not_driver hung_right i (j, number) in
          of_right (Fire i slot) (Fire j slot) s t (fires i j slot number) (fire_cut g r q is.right.cut j i number slot s t does)
          (ap (cut_tokens f p) does.4
          ∙ region.fired_unseen d 0 f r p is.left i (number_none f i (λ also. is.apart i also (j, number))) other does.1 does.0 s)
          (fired_same is_run i other does.1 does.0 s t does.4)
      by_part (inr same) =
          subst (λ (n : ℕ). Step d f g r p q (Fire n slot) s t) (sym same)
          (driver_step slot s t (subst (λ (n : ℕ). Does r (Fire n slot) s t) same does))

  -- an import is of one region at most
  pub not_both_inner : (j k : ℕ) (a b : End) → f.inner (ImportEnd j k) ≡ Some a → g.inner (ImportEnd j k) ≡ Some b → ⊥
  not_both_inner j k a b in_left in_right =
      let (i, is_a, stands, leads, same) = region.import_inner d 0 f r p is.left j k a in_left in
      let (n, is_b, also, leads_also, same_also) = region.import_inner d 1 g r q is.right j k b in_right in
      let (x, at_x, low) = import_real p is.left.cut.right i k stands in
      let (y, at_y, few) = import_real q is.right.cut.right n k also in
      let one : Some x ≡ Some y = sym at_x ∙ (same ∙ (sym same_also ∙ at_y)) in
      let is_y : x ≡ y = cc one in
      is.names x y (contains_at p.imports i x at_x) (contains_at q.imports n y at_y) (ap (λ (z : Imported). z.name) is_y)

  -- an end of the whole that stands in a joint is of a region
  nowhere : (j k : ℕ) → f.inner (ImportEnd j k) ≡ None → g.inner (ImportEnd j k) ≡ None → places_of r (ImportEnd j k) ≡ None
  nowhere j k not_left not_right = by_place (places_of r (ImportEnd j k)) refl
    where
      by_place : (o : Option End) → places_of r (ImportEnd j k) ≡ o → o ≡ None
      by_place None e = refl
      by_place (Some a) e =
          let there = found r.joints (ImportEnd j k) a e in
          let which = which_end (ImportEnd j k) there.joint there.stands in
          absurd (elim (is.joints there.joint.asking there.joint.serving (listed r.joints there.joint there.is_in)) [
            | inl own ↦
                elim own [
                  | inl one ↦ not_its_import hung_left j k not_left there.joint.asking there.joint.serving one which
                  | inr one ↦ not_its_import hung_right j k not_right there.joint.asking there.joint.serving one which
                ]
            | inr run ↦
                elim which [
                  | inl one ↦ let bad : ImportEnd j k ≡ ResultEnd 0 = one ∙ run.0 in cc bad
                  | inr one ↦ let bad : ImportEnd j k ≡ PartEnd d 2 = one ∙ run.1 in cc bad
                ]
          ])

  -- what passes the result
  pub result_contact : contact_at r (ResultEnd 0) ≡ Some (asks 0 0)
  result_contact = ap (λ (t : Type'). turned_if (slice_get (contacts_of t) 0)) is.outcome

  result_unseen_left : (way : Direction) (held : Option ℕ) (s : Tokens) → cut_tokens f p (with_token r (ResultEnd 0) way held s) ≡ cut_tokens f p s
  result_unseen_left way held s = token_lost f r p is.left.cut (ResultEnd 0) (region.no_inner_result d 0 f r p is.left 0) way held s

  result_unseen_right : (way : Direction) (held : Option ℕ) (s : Tokens) → cut_tokens g q (with_token r (ResultEnd 0) way held s) ≡ cut_tokens g q s
  result_unseen_right way held s = token_lost g r q is.right.cut (ResultEnd 0) (region.no_inner_result d 1 g r q is.right 0) way held s

  result_out : (v : ℕ) (s t : Tokens) → Does r (Out (ResultEnd 0) v) s t → Step d f g r p q (Out (ResultEnd 0) v) s t
  result_out v s t (port, passes) =
      let here = subst (λ (o : Option Contact). Passes r (Out (ResultEnd 0) v) o s t) result_contact passes in
      told v s t (ap (cut_tokens f p) here.1 ∙ result_unseen_left Answer None s) (ap (cut_tokens g q) here.1 ∙ result_unseen_right Answer None s)
      (ap (λ (u : Tokens). u.state d) here.1 ∙ token_state r (ResultEnd 0) Answer None s d) (sym (ap (held_at s Answer) (result_gate is_run)) ∙ here.0)
      (ap (λ (u : Tokens). gate u Answer) here.1 ∙ ap (λ o. gate (with_held Answer o None s) Answer) (result_gate is_run))
      (ap (λ (u : Tokens). gate u Request) here.1 ∙ ap (λ o. gate (with_held Answer o None s) Request) (result_gate is_run))

  result_in : (v : ℕ) (s t : Tokens) → Does r (In (ResultEnd 0) v) s t → Step d f g r p q (In (ResultEnd 0) v) s t
  result_in v s t (port, passes) =
      let here = subst (λ (o : Option Contact). Passes r (In (ResultEnd 0) v) o s t) result_contact passes in
      let small : v < 1 = here.0 in
      asked v s t (omega (arith, small)) (ap (cut_tokens f p) here.1 ∙ result_unseen_left Request (Some v) s)
      (ap (cut_tokens g q) here.1 ∙ result_unseen_right Request (Some v) s)
      (ap (λ (u : Tokens). u.state d) here.1 ∙ token_state r (ResultEnd 0) Request (Some v) s d)
      (ap (λ (u : Tokens). gate u Request) here.1 ∙ ap (λ o. gate (with_held Request o (Some v) s) Request) (result_gate is_run))
      (ap (λ (u : Tokens). gate u Answer) here.1 ∙ ap (λ o. gate (with_held Request o (Some v) s) Answer) (result_gate is_run))

  -- and what passes an import
  module _ (literals : All LiteralFits r.parts) where
    out_step : (j k v : ℕ) (s t : Tokens) → AllFit r s → Does r (Out (ImportEnd j k) v) s t → Step d f g r p q (Out (ImportEnd j k) v) s t
    out_step j k v s t fit does = by_left (f.inner (ImportEnd j k)) refl
      where
        x : Element
        x = Out (ImportEnd j k) v

        same : Same d s t
        same =
            let leads = passes_out r (ImportEnd j k) v s t does in
            port_same is_run (ImportEnd j k) leads.0 None s t (λ e. cc e) (λ e. cc e) leads.1

        left_runs : (o : Option End) → f.inner (ImportEnd j k) ≡ o → Runs p (out_if o v) (cut_tokens f p s) (cut_tokens f p t)
        left_runs o e =
            subst (λ o. Runs p (out_if o v) (cut_tokens f p s) (cut_tokens f p t)) e (element_is_cut f r p x s t is.left.cut literals fit does)

        right_runs : (o : Option End) → g.inner (ImportEnd j k) ≡ o → Runs q (out_if o v) (cut_tokens g q s) (cut_tokens g q t)
        right_runs o e =
            subst (λ o. Runs q (out_if o v) (cut_tokens g q s) (cut_tokens g q t)) e (element_is_cut g r q x s t is.right.cut literals fit does)

        not_there : f.inner (ImportEnd j k) ≡ None → g.inner (ImportEnd j k) ≡ None → ⊥
        not_there a b =
            let (c, there) = there_contact r x (contact_at r (ImportEnd j k)) s t does.1 in
            let here = subst (λ (o : Option Contact). Passes r x o s t) there does.1 in
            nothing_there r (ImportEnd j k) (way_taken c.role) v s here.0 (nowhere j k a b)

        by_right : f.inner (ImportEnd j k) ≡ None → (o : Option End) → g.inner (ImportEnd j k) ≡ o → Step d f g r p q x s t
        by_right not_left None not_right = absurd (not_there not_left not_right)
        by_right not_left (Some e) inner =
            let (i, is_e, stands, leads, imports) = region.import_inner d 1 g r q is.right j k e inner in
            of_right x (Out (ImportEnd i k) v) s t (puts_out i j k v stands leads imports)
            (one_sees g q (Out (ImportEnd i k) v) s t (right_runs (Some (ImportEnd i k)) (inner ∙ ap Some is_e))) (left_runs None not_left) same

        by_left : (o : Option End) → f.inner (ImportEnd j k) ≡ o → Step d f g r p q x s t
        by_left None not_left = by_right not_left (g.inner (ImportEnd j k)) refl
        by_left (Some e) inner =
            let (i, is_e, stands, leads, imports) = region.import_inner d 0 f r p is.left j k e inner in
            of_left x (Out (ImportEnd i k) v) s t (puts_out i j k v stands leads imports)
            (one_sees f p (Out (ImportEnd i k) v) s t (left_runs (Some (ImportEnd i k)) (inner ∙ ap Some is_e)))
            (right_runs None (none_right e inner)) same
          where
            none_right : (e : End) → f.inner (ImportEnd j k) ≡ Some e → g.inner (ImportEnd j k) ≡ None
            none_right e inner = by_other (g.inner (ImportEnd j k)) refl
              where
                by_other : (o : Option End) → g.inner (ImportEnd j k) ≡ o → o ≡ None
                by_other None also = refl
                by_other (Some a) also = absurd (not_both_inner j k e a inner also)

    in_step : (j k v : ℕ) (s t : Tokens) → AllFit r s → Does r (In (ImportEnd j k) v) s t → Step d f g r p q (In (ImportEnd j k) v) s t
    in_step j k v s t fit does = by_left (f.inner (ImportEnd j k)) refl
      where
        x : Element
        x = In (ImportEnd j k) v

        same : Same d s t
        same =
            let leads = passes_in r (ImportEnd j k) v s t does in
            port_same is_run (ImportEnd j k) leads.0 (Some v) s t (λ e. cc e) (λ e. cc e) leads.1

        left_runs : (o : Option End) → f.inner (ImportEnd j k) ≡ o → Runs p (in_if o v) (cut_tokens f p s) (cut_tokens f p t)
        left_runs o e =
            subst (λ o. Runs p (in_if o v) (cut_tokens f p s) (cut_tokens f p t)) e (element_is_cut f r p x s t is.left.cut literals fit does)

        right_runs : (o : Option End) → g.inner (ImportEnd j k) ≡ o → Runs q (in_if o v) (cut_tokens g q s) (cut_tokens g q t)
        right_runs o e =
            subst (λ o. Runs q (in_if o v) (cut_tokens g q s) (cut_tokens g q t)) e (element_is_cut g r q x s t is.right.cut literals fit does)

        by_right : f.inner (ImportEnd j k) ≡ None → (o : Option End) → g.inner (ImportEnd j k) ≡ o → Step d f g r p q x s t
        by_right not_left None not_right =
            let (c, there) = there_contact r x (contact_at r (ImportEnd j k)) s t does.1 in
            lost j k v s t c there not_left not_right (left_runs None not_left) (right_runs None not_right) same
        by_right not_left (Some e) inner =
            let (i, is_e, stands, leads, imports) = region.import_inner d 1 g r q is.right j k e inner in
            of_right x (In (ImportEnd i k) v) s t (takes_in i j k v stands leads imports)
            (one_sees g q (In (ImportEnd i k) v) s t (right_runs (Some (ImportEnd i k)) (inner ∙ ap Some is_e))) (left_runs None not_left) same

        by_left : (o : Option End) → f.inner (ImportEnd j k) ≡ o → Step d f g r p q x s t
        by_left None not_left = by_right not_left (g.inner (ImportEnd j k)) refl
        by_left (Some e) inner =
            let (i, is_e, stands, leads, imports) = region.import_inner d 0 f r p is.left j k e inner in
            of_left x (In (ImportEnd i k) v) s t (takes_in i j k v stands leads imports)
            (one_sees f p (In (ImportEnd i k) v) s t (left_runs (Some (ImportEnd i k)) (inner ∙ ap Some is_e)))
            (right_runs None (none_right e inner)) same
          where
            none_right : (e : End) → f.inner (ImportEnd j k) ≡ Some e → g.inner (ImportEnd j k) ≡ None
            none_right e inner = by_other (g.inner (ImportEnd j k)) refl
              where
                by_other : (o : Option End) → g.inner (ImportEnd j k) ≡ o → o ≡ None
                by_other None also = refl
                by_other (Some a) also = absurd (not_both_inner j k e a inner also)

    pub step : (x : Element) (s t : Tokens) → AllFit r s → Does r x s t → Step d f g r p q x s t
    step (Fire i slot) s t fit does = fire_step i slot s t does
    step (Out (PartEnd i k) v) s t fit does = absurd does.0
    step (Out (ImportEnd j k) v) s t fit does = out_step j k v s t fit does
    step (Out (ResultEnd k) v) s t fit does =
        let none = first_shake r (subst IsDone (sym is.outcome) tt) k (Out (ResultEnd k) v) s t does.1 in
        subst (λ (n : ℕ). Step d f g r p q (Out (ResultEnd n) v) s t) (sym none) (result_out v s t (subst (λ (n : ℕ). Does r (Out (ResultEnd n) v) s t) none does))
    step (In (PartEnd i k) v) s t fit does = absurd does.0
    step (In (ImportEnd j k) v) s t fit does = in_step j k v s t fit does
    step (In (ResultEnd k) v) s t fit does =
        let none = first_shake r (subst IsDone (sym is.outcome) tt) k (In (ResultEnd k) v) s t does.1 in
        subst (λ (n : ℕ). Step d f g r p q (In (ResultEnd n) v) s t) (sym none) (result_in v s t (subst (λ (n : ℕ). Does r (In (ResultEnd n) v) s t) none does))
