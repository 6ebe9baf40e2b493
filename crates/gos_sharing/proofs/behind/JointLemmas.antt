-- What a token put at a joint of the caller, or taken there, changes.
use Rattle.std.specs.Prelude.{◌≡◌, ℕ, Bool, true, false, ◌&&◌, Option, Some, None, if◌then◌else◌}
use Rattle.std.proofs.Common.{refl, sym, ◌∙◌, ap, subst, arith, inl, inr}
use Rattle.gos_types.specs.declared.shakes.Role.{Role}
use Rattle.gos_types.specs.Types.{Type'}
use Rattle.gos_types.specs.Events.{Direction, Request, Answer}
use Rattle.gos_plan.specs.Plans.{End, Plan, same_end}
use Rattle.gos_plan.specs.Tokens.{Tokens, places_of, same_way, with_held, held_at, token_at, with_token}
use Rattle.gos_plan.specs.Orderly.{Open, named_by, handshake_at, with_open, after_taken, after_put, ComesWell}
use Rattle.gos_plan.proofs.JointLemmas.{same_itself}
use Rattle.gos_plan.proofs.HeldLemmas as held
use Rattle.gos_realises.specs.realises.Regular.{is_request}
use Rattle.gos_realises.proofs.realises.RelayLemmas.{opened_itself}
use Rattle.gos_supplies.proofs.turns.StandLemmas.{opened_apart}
use Rattle.gos_sharing.specs.behind.Behind.{IsBehind}
use Rattle.gos_sharing.proofs.behind.EndLemmas.{asker}
use Rattle.gos_sharing.proofs.behind.SeenLemmas.{Opens, outer_opens, other_place}
use Rattle.gos_sharing.proofs.behind.LagLemmas.{Line, TurnAt}

module _ (r : Plan) (e a : End) (named : places_of r e ≡ Some a) where
  name : handshake_at r e ≡ a
  name = ap (λ (f : Option End). named_by f e) named

  pub put_other : (d : End) → (d ≡ a → ⊥) → (way : Direction) (o : Open) → after_put r e way o d ≡ o d
  put_other d apart Request o = opened_apart (handshake_at r e) d true o (λ same. apart (same ∙ name))
  put_other d apart Answer o = refl

  pub taken_other : (d : End) → (d ≡ a → ⊥) → (way : Direction) (o : Open) → after_taken r e way o d ≡ o d
  taken_other d apart Request o = refl
  taken_other d apart Answer o = opened_apart (handshake_at r e) d false o (λ same. apart (same ∙ name))

  pub put_this : (way : Direction) (o : Open) (s : Tokens) → ComesWell r e way o s → after_put r e way o a ≡ true
  put_this Request o s well = ap (λ (n : End). with_open n true o a) name ∙ opened_itself a true o
  put_this Answer o s well = ap o (sym name) ∙ well.0

  pub taken_this : (way : Direction) (o : Open) → o a ≡ true → after_taken r e way o a ≡ is_request way
  taken_this Request o up = up
  taken_this Answer o up = ap (λ (n : End). with_open n false o a) name ∙ opened_itself a false o

  pub place_other : (d : End) → (d ≡ a → ⊥) → (way w : Direction) (held : Option ℕ) (s : Tokens) → (with_token r e way held s).in_place w d ≡ s.in_place w d
  place_other d apart way w held s = ap (λ (f : Option End). (with_held way f held s).in_place w d) named ∙ other_place a d way w held s apart

  pub lies_in : (way : Direction) (v : ℕ) (s : Tokens) → token_at r s e way ≡ Some v → s.in_place way a ≡ Some v
  lies_in way v s lies = sym (ap (held_at s way) named) ∙ lies

  other_empty : (way w : Direction) (v : ℕ) (s : Tokens) → (q z : Option ℕ) → held.Fits true q z → q ≡ s.in_place Request a → z ≡ s.in_place Answer a
      → s.in_place way a ≡ Some v → (same_way w way ≡ true → ⊥) → s.in_place w a ≡ None
  other_empty Request Request v s q z fit is_q is_z lies apart = absurd (apart refl)
  other_empty Answer Answer v s q z fit is_q is_z lies apart = absurd (apart refl)
  other_empty Request Answer v s q z (inl none) is_q is_z lies apart = let clash : None ≡ Some v = sym none ∙ (is_q ∙ lies) in absurd (cc clash)
  other_empty Request Answer v s q z (inr none) is_q is_z lies apart = sym is_z ∙ none
  other_empty Answer Request v s q z (inl none) is_q is_z lies apart = sym is_q ∙ none
  other_empty Answer Request v s q z (inr none) is_q is_z lies apart = let clash : None ≡ Some v = sym none ∙ (is_z ∙ lies) in absurd (cc clash)

  -- taking the one token leaves it empty
  pub emptied : (way w : Direction) (v : ℕ) (o : Open) (s : Tokens) → held.AllFit o s → o a ≡ true → token_at r s e way ≡ Some v → (with_token r e way None s).in_place w a ≡ None
  emptied way w v o s fit up lies = ap (λ (f : Option End). (with_held way f None s).in_place w a) named ∙ by_way (same_way w way) refl
    where
      here : s.in_place way a ≡ Some v
      here = lies_in way v s lies

      by_way : (b : Bool) → same_way w way ≡ b → (if same_way w way && same_end a a then None else s.in_place w a) ≡ None
      by_way true same =
          let itself = same_itself a in
          let both : same_way w way && same_end a a ≡ true = grind (arith, same, itself) in ap (λ (b : Bool). if b then None else s.in_place w a) both
      by_way false apart =
          let no : same_way w way && same_end a a ≡ false = grind (arith, apart) in
          ap (λ (b : Bool). if b then None else s.in_place w a) no
          ∙ other_empty way w v s (s.in_place Request a) (s.in_place Answer a) (subst (λ (b : Bool). held.Fits b (s.in_place Request a) (s.in_place Answer a)) up (fit a)) refl refl here
          (λ same. let clash : true ≡ false = sym same ∙ apart in cc clash)

  -- a token that comes in turn finds the joint as it has to
  pub joint_well : (leads follows : Bool) (way : Direction) (o : Open) (s : Tokens) → Line leads follows (o a) (λ w. s.in_place w a) → TurnAt leads way
      → (way ≡ Answer → follows ≡ true) → ComesWell r e way o s
  joint_well leads follows Request o s line turn answers = ap o name ∙ (line.opening ∙ turn)
  joint_well leads follows Answer o s line turn answers = (ap o name ∙ (line.opening ∙ turn), λ w. ap (held_at s w) named ∙ by_held w (s.in_place w a) refl)
    where
      by_held : (w : Direction) (q : Option ℕ) → s.in_place w a ≡ q → q ≡ None
      by_held w None none = refl
      by_held w (Some v) lies =
          let shut = (line.held w v lies).1 in let clash : true ≡ false = sym (answers refl) ∙ shut in absurd (cc clash)

module _ (i : ℕ) (t : Type') (c : ℕ) (r p : Plan) (is : IsBehind i t c r p) (e : End) (j : ℕ) (role : Role) (named : places_of r e ≡ Some (asker i t c j role)) where
  pub put_outer : (o own : Open) → Opens i t c r p is o own → (way : Direction) → Opens i t c r p is (after_put r e way o) own
  put_outer o own opens Request =
      subst (λ (n : End). Opens i t c r p is (with_open n true o) own) (sym (ap (λ (f : Option End). named_by f e) named)) (outer_opens i t c r p is own o opens j role true)
  put_outer o own opens Answer = opens

  pub taken_outer : (o own : Open) → Opens i t c r p is o own → (way : Direction) → Opens i t c r p is (after_taken r e way o) own
  taken_outer o own opens Request = opens
  taken_outer o own opens Answer =
      subst (λ (n : End). Opens i t c r p is (with_open n false o) own) (sym (ap (λ (f : Option End). named_by f e) named)) (outer_opens i t c r p is own o opens j role false)
