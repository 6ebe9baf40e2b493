-- What is behind a Share is regular where the plan is.
use Rattle.std.specs.Prelude.{◌≡◌, ℕ, ◌+◌, ◌<◌, Bool, true, false, List, [], ◌∷◌, ◌⊎◌, length, Some, None, slice_get, All, nat_lt}
use Rattle.std.proofs.Common.{refl, sym, ◌∙◌, ap, subst, arith, inl, inr, length-append}
use Rattle.std.proofs.lemmas.Bool.Decides.{nat_tests}
use Rattle.std.proofs.lemmas.Option.{slice_get_within, same_Some}
use Rattle.gos_types.specs.Types.{Type'}
use Rattle.gos_types.specs.Events.{Direction, Request, Answer}
use Rattle.gos_plan.specs.Kinds.{Part, Share, Contact, contacts_of, turned_contact}
use Rattle.gos_plan.specs.Firing.{Slot, Req, Ans, Row}
use Rattle.gos_plan.specs.Plans.{PartEnd, ImportEnd, ResultEnd, Plan, contact_at, contacts_of_part}
use Rattle.gos_plan.specs.Tokens.{Tokens, Element, Fire, Out, In, token_at, end_of, way_of, shake_of, way_taken, way_put, firing_of, Does, Runs, IsIdle}
use Rattle.gos_plan.specs.TokenBits.{LiteralFits}
use Rattle.gos_plan.specs.Orderly.{Open, none_open, AllWelcome}
use Rattle.gos_plan.proofs.TokenBitsLemmas.{idle_fits}
use Rattle.gos_plan.proofs.ContactLemmas.{turned_taken, part_is_there}
use Rattle.gos_plan.proofs.ElementLemmas.{firing_part}
use Rattle.gos_realises.specs.realises.Regular.{count, Pass, is_open, InputsKeepTurns, OutputsKeepTurns, IsRegular}
use Rattle.gos_realises.proofs.realises.InputLemmas.{passed, InputTurns, first_turn, later_turns}
use Rattle.gos_realises.proofs.realises.RingLemmas.{after}
use Rattle.gos_joining.proofs.renumbered.TurnLemmas.{EachKeeps}
use Rattle.gos_joining.proofs.webs.IdleLemmas.{idle_is_cut}
use Rattle.gos_sharing.specs.sharing.Sharing.{caller_end}
use Rattle.gos_sharing.proofs.buffers.BranchLemmas.{none_fits}
use Rattle.gos_realises.proofs.realises.IdleLemmas.{idle_welcome}
use Rattle.gos_supplies.proofs.turns.WholeLemmas.{shut_turned}
use Rattle.gos_sharing.specs.behind.Behind.{IsBehind, BehindIsRegular}
use Rattle.gos_sharing.proofs.behind.BetweenLemmas.{none_open_of}
use Rattle.gos_sharing.proofs.behind.EndLemmas.{asker, share, own_part, source_contact, caller_contact}
use Rattle.gos_sharing.proofs.behind.LyingLemmas.{lying}
use Rattle.gos_sharing.proofs.behind.SeenLemmas.{seen, token_so, part_state}
use Rattle.gos_sharing.proofs.behind.StepLemmas.{Ordered, out_joined, from_idle}
use Rattle.gos_sharing.proofs.behind.LagLemmas.{both_lead}
use Rattle.gos_sharing.proofs.behind.HandingLemmas.{slot_of, caller_number, Where, at_source, at_caller, lies_where, TakesAt, takes_inward, takes_outward, share_takes}
use Rattle.gos_sharing.proofs.behind.HeldLemmas.{Held}
use Rattle.gos_sharing.proofs.behind.OuterLemmas.{Next, part_fires, import_out, import_in}
use Rattle.gos_sharing.proofs.behind.ResultLemmas.{result_in, result_out}
use Rattle.gos_sharing.proofs.behind.ShareLemmas.{share_fires, caller_branch}

slot_is : (slot : Slot) (way : Direction) (h : ℕ) → way_of slot ≡ way → shake_of slot ≡ h → slot ≡ slot_of way h
slot_is (Req g) Request h same number = ap Req number
slot_is (Req g) Answer h same number = absurd (cc same)
slot_is (Ans g) Request h same number = absurd (cc same)
slot_is (Ans g) Answer h same number = ap Ans number

module _ (i : ℕ) (t : Type') (c : ℕ) (r p : Plan) (is : IsBehind i t c r p) (literals : All LiteralFits p.parts) where
  -- a part is one behind the Share, or the Share
  pub told_part : (n : ℕ) → n < length r.parts → (n < length p.parts) ⊎ (n ≡ i)
  told_part n low = by_test (nat_lt n (length p.parts)) refl
    where
      size : length r.parts ≡ length p.parts + 1
      size = ap (λ (ks : List Part). length ks) is.frame.parts ∙ length-append p.parts (Share t ∷ [])

      by_test : (b : Bool) → nat_lt n (length p.parts) ≡ b → (n < length p.parts) ⊎ (n ≡ i)
      by_test true test = inl (grind (arith, nat_tests, test))
      by_test false test = let number = is.frame.number in inr (grind (arith, nat_tests, test, low, size, number))

  -- what lies is welcome
  welcome : (past own : List Pass) (o mine : Open) (s : Tokens) → Held i t c r p is past own o mine s → AllWelcome r s
  welcome past own o mine s h n slot d v at_end way lies = of_part (told_part n part_low)
    where
      part_low : n < length r.parts
      part_low = let (k, there) = part_is_there (slice_get r.parts n) (shake_of slot) d at_end in slice_get_within r.parts n k there

      Taken : ℕ → Type 0
      Taken m = (row : Row) × (firing_of (slice_get r.parts m) (s.state m) slot ≡ Some row)

      by_share : (j : ℕ) (k : Contact) → slice_get (contacts_of t) j ≡ Some k → TakesAt (count t) (s.state i).number j k.role slot → Taken i
      by_share j k at_j takes =
          let (row, fires) = share_takes t (s.state i) slot j k h.rests at_j takes in
          (row, ap (λ x. firing_of x (s.state i) slot) (share i t c r p is.frame) ∙ fires)

      of_where : contact_at r (end_of i slot) ≡ Some d → token_at r s (end_of i slot) (way_of slot) ≡ Some v → Where i t c r p is (shake_of slot) → Taken i
      of_where at_i lies_i (at_source k at_j) =
          let one : turned_contact k ≡ d = same_Some (turned_contact k) d (sym (source_contact i t c r p is.frame (shake_of slot) k at_j) ∙ at_i) in
          let ways : way_of slot ≡ way_put k.role = sym way ∙ (ap (λ (x : Contact). way_taken x.role) (sym one) ∙ turned_taken k.role) in
          by_share (shake_of slot) k at_j
          (subst (λ (x : Slot). TakesAt (count t) (s.state i).number (shake_of slot) k.role x) (sym (slot_is slot (way_put k.role) (shake_of slot) ways refl))
          (takes_outward (count t) (s.state i).number (shake_of slot) k.role))
      of_where at_i lies_i (at_caller j k at_j same) =
          let at_c : contact_at r (end_of i slot) ≡ Some k = ap (λ (m : ℕ). contact_at r (PartEnd i m)) same ∙ caller_contact i t c r p is.frame j k at_j in
          let one : k ≡ d = same_Some k d (sym at_c ∙ at_i) in
          let ways : way_of slot ≡ way_taken k.role = sym way ∙ ap (λ (x : Contact). way_taken x.role) (sym one) in
          let lies_c : token_at r s (caller_end i t c j) (way_taken k.role) ≡ Some v = (λ l. token_at r s (PartEnd i (sym same l)) (sym ways l)) ∙ lies_i in
          by_share j k at_j
          (subst (λ (x : Slot). TakesAt (count t) (s.state i).number j k.role x) (sym (slot_is slot (way_taken k.role) (caller_number t c j) ways same))
          (takes_inward (count t) c (s.state i).number j k.role is.frame.caller (λ role. caller_branch i t c r p is literals past own o mine s h j k v at_j role lies_c)))

      of_part : (n < length p.parts) ⊎ (n ≡ i) → Taken n
      of_part (inl low) =
          let same = own_part i t c r p is.frame n low in
          let at_own : contact_at p (end_of n slot) ≡ Some d = ap (λ x. slice_get (contacts_of_part x) (shake_of slot)) (sym same) ∙ at_end in
          let own_lies = token_so i t c r p is (end_of n slot) low s (way_of slot) ∙ lies in
          let (row, fires) = h.welcome n slot d v at_own way own_lies in
          (row, (λ l. firing_of (same l) (sym (part_state i t c r p is s n low) l) slot) ∙ fires)
      of_part (inr e) =
          subst Taken (sym e)
          (of_where (subst (λ (m : ℕ). contact_at r (end_of m slot) ≡ Some d) e at_end) (subst (λ (m : ℕ). token_at r s (end_of m slot) (way_of slot) ≡ Some v) e lies)
          (lies_where i t c r p is (shake_of slot) (way_of slot) v s (subst (λ (m : ℕ). token_at r s (end_of m slot) (way_of slot) ≡ Some v) e lies)))

  -- each step
  step : (past own : List Pass) (o mine : Open) (s w : Tokens) → Held i t c r p is past own o mine s → (x : Element) → Does r x s w → InputTurns r past x
      → Next i t c r p is literals past o s x w
  step past own o mine s w h (Fire n slot) does turn = of_part (told_part n part_low)
    where
      part_low : n < length r.parts
      part_low = let (k, there) = firing_part (slice_get r.parts n) (s.state n) slot does.1 does.3 in slice_get_within r.parts n k there

      of_part : (n < length p.parts) ⊎ (n ≡ i) → Next i t c r p is literals past o s (Fire n slot) w
      of_part (inl low) = part_fires i t c r p is literals past own o mine s w h n low slot does
      of_part (inr e) =
          subst (λ (m : ℕ). Next i t c r p is literals past o s (Fire m slot) w) (sym e)
          (share_fires i t c r p is literals past own o mine s w h slot (subst (λ (m : ℕ). Does r (Fire m slot) s w) e does))
  step past own o mine s w h (Out (PartEnd n l) v) does turn = absurd does.0
  step past own o mine s w h (Out (ImportEnd n l) v) does turn = import_out i t c r p is literals past own o mine s w h n l v does
  step past own o mine s w h (Out (ResultEnd j) v) does turn = result_out i t c r p is literals past own o mine s w h j v does
  step past own o mine s w h (In (PartEnd n l) v) does turn = absurd does.0
  step past own o mine s w h (In (ImportEnd n l) v) does turn = import_in i t c r p is literals past own o mine s w h n l v does turn
  step past own o mine s w h (In (ResultEnd j) v) does turn = result_in i t c r p is literals past own o mine s w h j v does turn

  -- how both stand after a list
  pub record Stood (past : List Pass) (w : Tokens) : Type 0 where
    pub own : List Pass
    pub opened : Open
    pub mine : Open
    pub held : Held i t c r p is past own opened mine w

  pub held_on : (xs : List Element) (past own : List Pass) (o mine : Open) (s w : Tokens) → Held i t c r p is past own o mine s → Runs r xs s w → InputsKeepTurns r past xs
      → Stood (passed r past xs) w
  held_on [] past own o mine s w h runs turns =
      subst (Stood past) (sym runs) (record { own = own; opened = o; mine = mine; held = h })
  held_on (x ∷ xs) past own o mine s w h (v, does, runs) turns =
      let next = step past own o mine s v h x does (first_turn r past x xs turns) in
      held_on xs (after r x past) next.own next.opened next.mine v w next.held runs (later_turns r past x xs turns)

  -- and so each list
  regular_on : (xs : List Element) (past own : List Pass) (o mine : Open) (s w : Tokens) → Held i t c r p is past own o mine s → Runs r xs s w → InputsKeepTurns r past xs
      → Ordered r xs o s × OutputsKeepTurns r past xs
  regular_on [] past own o mine s w h runs turns = ((o, s, (refl, refl)), tt)
  regular_on (x ∷ xs) past own o mine s w h (v, does, runs) turns =
      let next = step past own o mine s v h x does (first_turn r past x xs turns) in
      let rest = regular_on xs (after r x past) next.own next.opened next.mine v w next.held runs (later_turns r past x xs turns) in (
        (rest.0.0, rest.0.1, (next.opened, v, does, next.comes, welcome (after r x past) next.own next.opened next.mine v next.held, rest.0.2)),
        out_joined r past x xs next.turns rest.1,
      )

  closed : EachKeeps 0 p.imports t (is_open [])
  closed = (
    λ n x at. (shut_turned x.ty (λ h. false) (λ h. refl), λ up. absurd (none_open_of (count x.ty) (λ h. false) (λ h. refl) up)),
    shut_turned t (λ h. false) (λ h. refl),
  )

  -- where all begins
  pub held_first : (s : Tokens) → IsRegular p → IsIdle r s → Held i t c r p is [] [] none_open none_open s
  held_first s regular idle =
      record {
        going = from_idle p (seen i t c r p is s) regular own_idle;
        welcome = idle_welcome p (seen i t c r p is s) own_idle;
        opens = λ e here. refl;
        fit = none_fits r s idle;
        small = idle_fits r s idle;
        outside = closed;
        inside = closed;
        imports = λ n l. refl;
        lines = λ j k at_j.
            record {
              opening = sym (both_lead k.role false).0;
              after = λ up. (let clash : false ≡ true = sym (both_lead k.role false).1 ∙ up in absurd (cc clash));
              held = λ way v lies. (let clash : None ≡ Some v = sym (idle.0 way (asker i t c j k.role)) ∙ lies in absurd (cc clash));
            };
        branch = λ j k at_j role up. absurd (cc up);
        rests = idle.1 i;
      }
    where
      own_idle : IsIdle p (seen i t c r p is s)
      own_idle = idle_is_cut (lying i p) r p s idle

pub behind_is_regular : BehindIsRegular
behind_is_regular i t c r p is literals regular s w xs idle runs turns =
    regular_on i t c r p is literals xs [] [] none_open none_open s w (held_first i t c r p is literals s regular idle) runs turns
