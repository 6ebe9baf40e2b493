-- Nothing lies for the Share's source at the other side: the plan could put it out, though nothing of that side is open.
use Rattle.std.specs.Prelude.{◌≡◌, ℕ, ◌+◌, ◌<◌, true, false, List, [], ◌∷◌, ◌⊎◌, length, Option, Some, None, All, slice_get, Contains}
use Rattle.std.proofs.Common.{refl, sym, ◌∙◌, ap, subst, arith, inl, inr}
use Rattle.std.proofs.lemmas.Option.{slice_get_within, same_Some}
use Rattle.gos_types.specs.declared.shakes.Role.{Role}
use Rattle.gos_types.specs.declared.shakes.Role.TheVariants.{Serve, Ask}
use Rattle.gos_types.specs.Types.{Type'}
use Rattle.gos_types.specs.Events.{Direction, Request}
use Rattle.gos_types.proofs.BoolLemmas.{true_is_not_false}
use Rattle.gos_plan.specs.Kinds.{Contact, contacts_of, turned_contact}
use Rattle.gos_plan.specs.Plans.{End, PartEnd, ResultEnd, Plan, contact_at, stands_in}
use Rattle.gos_plan.specs.Tokens.{Tokens, Out, Passes, places_of, held_at, token_at, with_token, way_taken, way_put, Does}
use Rattle.gos_plan.specs.TokenBits.{LiteralFits}
use Rattle.gos_plan.specs.Orderly.{Open, none_open}
use Rattle.gos_plan.specs.Joining.{place, origin}
use Rattle.gos_plan.proofs.JointLemmas.{contained, stands_there}
use Rattle.gos_plan.proofs.ContactLemmas.{turned_taken}
use Rattle.gos_realises.specs.realises.Regular.{count, Pass, pass, way_out, is_open, KeepsTurns, KeepsTurnsOf, IsRegular}
use Rattle.gos_realises.specs.realises.Links.{IsJoined}
use Rattle.gos_realises.specs.realises.Wirings.{side}
use Rattle.gos_realises.proofs.realises.GroundTurnLemmas.{there_some}
use Rattle.gos_realises.proofs.realises.InputLemmas.{passed}
use Rattle.gos_realises.proofs.realises.PassLemmas.{open_itself, open_otherwise}
use Rattle.gos_joining.proofs.renumbered.TurnLemmas.{EachKeeps, of_result}
use Rattle.gos_joining.specs.webs.Webs.{joint}
use Rattle.gos_joining.proofs.webs.CutLemmas.{stands_by}
use Rattle.gos_sharing.specs.sharing.Sharing.{source_end}
use Rattle.gos_sharing.specs.behind.Behind.{IsBehind}
use Rattle.gos_sharing.proofs.behind.BetweenLemmas.{RoleBelow, positive}
use Rattle.gos_sharing.proofs.behind.EndLemmas.{inner_contact}
use Rattle.gos_sharing.proofs.behind.SeenLemmas.{seen, token_so}
use Rattle.gos_sharing.proofs.behind.StepLemmas.{stepped}
use Rattle.gos_sharing.proofs.behind.LagLemmas.{TurnAt, turn_at, ports_of_turns}
use Rattle.gos_sharing.proofs.behind.HeldLemmas.{Held, held_below}
use Rattle.gos_sharing.proofs.behind.RegularLemmas.{Stood, held_on, held_first}
use Rattle.gos_supplies.proofs.turns.FollowLemmas.{Family, IsLoose}
use Rattle.gos_supplies.proofs.turns.GoesLemmas.{Goes}
use Rattle.gos_sharing.proofs.pair_types.HalfLemmas.{Half}
use Rattle.gos_sharing.proofs.pair_types.SideLemmas.{up, origin_so, joint_up, trail_is}

module _ (t s o : Type') (n m : ℕ) (half : Half t s o n m) (c : ℕ) (p R : Plan) (behind : IsBehind (length p.parts) t c R p) where
  -- what is not open outside is not put out inside
  no_turn : (past own : List Pass) (q mine : Open) (k : Tokens) → Held (length p.parts) t c R p behind past own q mine k
      → ((l : ℕ) → l < count o → is_open past (ResultEnd (m + l)) ≡ false) → (l : ℕ) (d : Contact) → slice_get (contacts_of o) l ≡ Some d
      → KeepsTurns p own (pass (ResultEnd (m + l)) (way_put d.role)) → ⊥
  no_turn past own q mine k h closed l d at_l turns = by_role d.role refl
    where
      Below : ℕ → Role → Type 0
      Below j role = RoleBelow role (is_open own (ResultEnd (m + j))) (is_open past (ResultEnd (m + j)))

      below : (j : ℕ) (e : Contact) → slice_get (contacts_of o) j ≡ Some e → Below j e.role
      below j e at_j = held_below (length p.parts) t c R p behind past own q mine k h (m + j) e (half.other j e at_j)

      not_served : (j : ℕ) (e : Contact) → slice_get (contacts_of o) j ≡ Some e → e.role ≡ Serve → is_open own (ResultEnd (m + j)) ≡ true → ⊥
      not_served j e at_j role up =
          true_is_not_false (is_open past (ResultEnd (m + j))) (subst (Below j) role (below j e at_j) up) (closed j (slice_get_within (contacts_of o) j e at_j))

      asked : d.role ≡ Ask → KeepsTurns p own (pass (ResultEnd (m + l)) Request) → ⊥
      asked role turns_r =
          let x : Pass = pass (ResultEnd (m + l)) Request in
          let each : EachKeeps 0 p.imports t (is_open (x ∷ own)) = ports_of_turns p p.imports t refl behind.frame.also_outcome own x turns_r in
          let keeps : KeepsTurnsOf o (λ j. is_open (x ∷ own) (ResultEnd (m + j))) = half.turns (of_result (is_open (x ∷ own))) each.1 in
          let (j, e, at_j, serves, up) =
          positive o (λ j. is_open (x ∷ own) (ResultEnd (m + j))) keeps
          (there_some (count o) (λ j. is_open (x ∷ own) (ResultEnd (m + j))) l (slice_get_within (contacts_of o) l d at_l) (open_itself (ResultEnd (m + l)) Request own))
          in
          not_served j e at_j serves (sym (open_otherwise (ResultEnd (m + l)) (ResultEnd (m + j)) Request own (apart j e at_j serves)) ∙ up)
        where
          apart : (j : ℕ) (e : Contact) → slice_get (contacts_of o) j ≡ Some e → e.role ≡ Serve → ResultEnd (m + l) ≡ ResultEnd (m + j) → ⊥
          apart j e at_j serves same =
              let sums : m + l ≡ m + j = cc same in
              let one : l ≡ j = omega (arith, sums) in
              let is_d : d ≡ e = same_Some d e (sym at_l ∙ (ap (slice_get (contacts_of o)) one ∙ at_j)) in
              let clash : Ask ≡ Serve = sym role ∙ (ap (λ (y : Contact). y.role) is_d ∙ serves) in cc clash

      by_role : (role : Role) → d.role ≡ role → ⊥
      by_role Serve role =
          not_served l d at_l role
          (subst (λ (y : Role). TurnAt (is_open own (ResultEnd (m + l))) (way_put y)) role (turn_at own (ResultEnd (m + l)) (way_put d.role) turns.0))
      by_role Ask role = asked role (subst (λ (y : Role). KeepsTurns p own (pass (ResultEnd (m + l)) (way_put y))) role turns)

  module _ (x : Plan) (of_x : IsJoined (side n s R) x) (literals : All LiteralFits p.parts) (regular : IsRegular p)
      (loose : (l : ℕ) → l < count o → IsLoose (side n s R) x (place 0 (ResultEnd (m + l))))
    where
      pub target : (G : Family) (q : Open) (past : List Pass) (k : Tokens) → Goes (side n s R) x G q past k → (a b : End) → Contains x.joints (joint a b) → (l : ℕ) (d : Contact)
          → slice_get (contacts_of o) l ≡ Some d → (source_end (length p.parts) (m + l) ≡ a) ⊎ (source_end (length p.parts) (m + l) ≡ b) → (way : Direction)
          → way ≡ way_put d.role → (v : ℕ) → k.in_place way a ≡ Some v → ⊥
      target G q past k goes a b has l d at_l touch way is_way v lies = of_stood refl
        where
          E : End
          E = source_end (length p.parts) (m + l)

          T : Tokens
          T = (G 0).tokens

          in_R : Contains R.joints (joint (up n a) (up n b))
          in_R = joint_up s n R x of_x a b has

          stands : stands_in (PartEnd (length p.parts) (m + l)) (joint (up n a) (up n b)) ≡ true
          stands =
              stands_by (PartEnd (length p.parts) (m + l)) (joint (up n a) (up n b))
              (elim touch [
                | inl same ↦ inl (ap (up n) same)
                | inr same ↦ inr (ap (up n) same)
              ])

          named : places_of R (PartEnd (length p.parts) (m + l)) ≡ Some (up n a)
          named = stands_there R (joint (up n a) (up n b)) (PartEnd (length p.parts) (m + l)) behind.right (contained R.joints (joint (up n a) (up n b)) in_R) stands

          there : T.in_place way (up n a) ≡ Some v
          there =
              let fit = Rattle.gos_plan.proofs.JointLemmas.fits x [] x.joints (joint a b) of_x.joining.right (contained x.joints (joint a b) has) in
              let (steps, l, trail, held) = goes.follows.lies a b (contained x.joints (joint a b) has) way v lies in
              let first : place 0 (up n a) ≡ l =
              sym (origin_so s n R x of_x a (Rattle.gos_plan.specs.Kinds.asks fit.0 fit.1) fit.2) ∙ trail_is s n R x of_x steps (origin (side n s R) a) l trail
              in
              ap (λ (y : Rattle.gos_plan.specs.Joining.Place). (G y.plan).tokens.in_place way y.end) first ∙ held

          closed : (j : ℕ) → j < count o → is_open (G 0).past (ResultEnd (m + j)) ≡ false
          closed j low = goes.follows.dead (place 0 (ResultEnd (m + j))) tt (loose j low)

          reached : Rattle.gos_supplies.proofs.turns.RunLemmas.Reached R (G 0).opens (G 0).past (G 0).tokens
          reached = goes.reached 0 R refl

          after : Stood (length p.parts) t c R p behind literals (passed R [] reached.list) (G 0).tokens
          after =
              held_on (length p.parts) t c R p behind literals reached.list [] [] none_open none_open reached.first (G 0).tokens
              (held_first (length p.parts) t c R p behind literals reached.first regular reached.idle) reached.runs reached.inputs

          at_p : contact_at p (ResultEnd (m + l)) ≡ Some (turned_contact d)
          at_p = inner_contact (length p.parts) t c R p behind.frame (m + l) d (half.other l d at_l)

          own : m + l < count t
          own = slice_get_within (contacts_of t) (m + l) d (half.other l d at_l)

          B : Tokens
          B = seen (length p.parts) t c R p behind T

          out_way : way_taken (turned_contact d).role ≡ way
          out_way = turned_taken d.role ∙ sym is_way

          token : token_at p B (ResultEnd (m + l)) (way_taken (turned_contact d).role) ≡ Some v
          token =
              ap (token_at p B (ResultEnd (m + l))) out_way
              ∙ (token_so (length p.parts) t c R p behind (ResultEnd (m + l)) own T way ∙ (ap (held_at T way) named ∙ there))

          W : Tokens
          W = with_token p (ResultEnd (m + l)) (way_taken (turned_contact d).role) None B

          does : Does p (Out (ResultEnd (m + l)) v) B W
          does = (tt, subst (λ (y : Option Contact). Passes p (Out (ResultEnd (m + l)) v) y B W) (sym at_p) (token, refl))

          of_stood : (G 0).past ≡ (G 0).past → ⊥
          of_stood same =
              let h = subst (λ (y : List Pass). Held (length p.parts) t c R p behind y after.own after.opened after.mine T) reached.is_past after.held in
              let st = stepped p after.own after.mine B (Out (ResultEnd (m + l)) v) W h.going does tt in
              no_turn (G 0).past after.own after.opened after.mine T h closed l d at_l
              (subst (λ (y : Direction). KeepsTurns p after.own (pass (ResultEnd (m + l)) y)) (ap way_out at_p ∙ turned_taken d.role) st.turns)
